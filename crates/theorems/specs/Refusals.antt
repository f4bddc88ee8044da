-- Demand 1, refusals: whenever a call answers a code other than 0, the lent slice is left as it was handed in. For starting,
-- stepping and listing, on words and on bytes, whatever is handed in. Assumes nothing but that a lent byte is below 256.
use Rattle.std.specs.Prelude.{◌≡◌, Bool, not, ◌&&◌, ℕ, ◌*◌, length, eqb, ltb}
use Rattle.std.proofs.Math.Path.{refl}
use Rattle.std.proofs.Common.{ap, ◌∙◌, arith, eqb-true}
use Rattle.std.proofs.Math.Bool.{true, false}
use Rattle.std.proofs.Math.Option.{Option, none, some}
use mathlib.Core.List.{List}
use Rattle.theory.specs.Tests.{and-true}
use Rattle.rules.specs.Base.{pick, each_of}
use Rattle.rules.specs.Read.{Reading, got, fault, decoded}
use Rattle.rules.specs.Judge.{judged_blocks}
use Rattle.rules.specs.Calls.{most_rows}
use Rattle.rules.specs.Machine.{Machine, memory_words, machine_words, pack, view, started, standing}
use Rattle.rules.specs.Fits.{fits}
use Rattle.rules.specs.Leaf.{Tried, made, refused}
use Rattle.rules.specs.Words.{Outcome, refuse, accept, judged_then, read_then, on_image, start_in, start, step_of, finished, step_at, step_in, step, words_of, bytes_of, to_bytes, has_words, start_bytes_in, start_bytes, step_bytes_in, step_bytes}
use Rattle.rules.specs.List.{rows_of, list_in, list, list_bytes_in, list_bytes}
use Rattle.rules.specs.declared.Block.{Block}
use Rattle.rules.specs.Judgement.{Judgement}
use Rattle.rules.specs.declared.Place.{Place}
use Rattle.rules.specs.declared.Row.{Row}
use Rattle.laws.proofs.Lists.{each_below}
use Rattle.laws.proofs.Bytes.{bytes-again}

-- a call is refused: it answers a code other than 0
abbrev pub IsRefused : {Lent : Type 0} → Outcome Lent → Type 0
IsRefused o = o.answer.code ≡ 0 → ⊥

-- refused, an outcome leaves the lent slice as handed in
abbrev pub Keeps : {Lent : Type 0} → Lent → Outcome Lent → Type 0
Keeps lent o = IsRefused o → o.leaves ≡ lent

-- every number of a list is a byte
abbrev pub Bytes : List ℕ → Type 0
Bytes l = each_of (λ b. ltb b 256) l ≡ true

-- ---- what any of them is built from
module _ {Lent : Type 0} where
  refuse-keeps : (code place : ℕ) (lent : Lent) → Keeps lent (refuse code place lent)
  refuse-keeps code place lent r = refl

  accept-keeps : (lent left : Lent) → Keeps lent (accept left)
  accept-keeps lent left r = absurd (r refl)

  -- the test may be known where the first of the two is
  pick-keeps : (t : Bool) (lent : Lent) (a b : Outcome Lent) → (t ≡ true → Keeps lent a) → Keeps lent b → Keeps lent (pick t a b)
  unfolding pick
  pick-keeps true lent a b ka kb = ka refl
  pick-keeps false lent a b ka kb = kb

  image-keeps :
      (image : List ℕ) (lent : Lent) (f : List Block → Outcome Lent) → ((program : List Block) → Keeps lent (f program)) →
      Keeps lent (on_image image lent f)
  unfolding on_image
  image-keeps image lent f k = reading (decoded image)
    where
      judging : (j : Judgement) (program : List Block) → Keeps lent (judged_then j lent (f program))
      judging (Judgement.Refused code place) program = refuse-keeps code place lent
      judging (Judgement.Accepted blocks peak) program = k program

      reading : (r : Reading (List Block)) → Keeps lent (read_then r lent f)
      reading (fault code place) = refuse-keeps code place lent
      reading (got program at) = judging (judged_blocks program) program

-- ---- on words
start-in : (first words : List ℕ) (program : List Block) → Keeps words (start_in first words program)
unfolding start_in
start-in first words program =
    pick-keeps (eqb (length first) memory_words && eqb (length words) machine_words) words (accept (pack (started first))) (refuse 16 0 words)
    (λ t. accept-keeps words (pack (started first)))
    (refuse-keeps 16 0 words)

step-at : (words : List ℕ) (program : List Block) (p direction : ℕ) (o : Option Place) → Keeps words (step_at words program p direction o)
step-at words program p direction none = refuse-keeps 18 0 words
step-at words program p direction (some here) = tried (step_of program (view words) p here direction)
  where
    tried : (t : Tried Machine) → Keeps words (finished words t)
    tried (made m) = accept-keeps words (pack m)
    tried (refused code) = refuse-keeps code 0 words

step_in_keeps : (words : List ℕ) (p direction : ℕ) (program : List Block) → Keeps words (step_in words p direction program)
unfolding step_in
step_in_keeps words p direction program =
    pick-keeps (not (eqb (length words) machine_words)) words _ _ (λ t. refuse-keeps 16 0 words)
    (pick-keeps (not (fits program words)) words _ _ (λ t. refuse-keeps 17 0 words)
    (pick-keeps (ltb 1 direction) words _ _ (λ t. refuse-keeps 19 0 words)
    (step-at words program p direction (standing (view words).rows p))))

list-in : (words : List ℕ) (rows : List Row) (program : List Block) → Keeps rows (list_in words rows program)
unfolding list_in
list-in words rows program =
    pick-keeps (eqb (length words) machine_words && eqb (length rows) most_rows) rows _ _
    (λ t. pick-keeps (fits program words) rows _ _ (λ u. accept-keeps rows (rows_of program (view words))) (refuse-keeps 17 0 rows))
    (refuse-keeps 16 0 rows)

-- ---- on bytes
bytes-keep :
    (bytes : List ℕ) (o : Outcome (List ℕ)) → Bytes bytes → has_words bytes machine_words ≡ true →
    Keeps (words_of bytes) o → Keeps bytes (to_bytes o)
unfolding to_bytes
bytes-keep bytes o f h k r = ap bytes_of (k r) ∙ bytes-again bytes machine_words (eqb-true (length bytes) (4 * machine_words) h) (each_below bytes 256 (omega arith) f)

start-bytes_in : (first bytes : List ℕ) (program : List Block) → Bytes bytes → Keeps bytes (start_bytes_in first bytes program)
unfolding start_bytes_in
start-bytes_in first bytes program f =
    pick-keeps (has_words first memory_words && has_words bytes machine_words) bytes _ _
    (λ t. bytes-keep bytes _ f (and-true (has_words first memory_words) (has_words bytes machine_words) t).1
    (start-in (words_of first) (words_of bytes) program))
    (refuse-keeps 16 0 bytes)

step-bytes_in : (bytes : List ℕ) (p direction : ℕ) (program : List Block) → Bytes bytes → Keeps bytes (step_bytes_in bytes p direction program)
unfolding step_bytes_in
step-bytes_in bytes p direction program f =
    pick-keeps (has_words bytes machine_words) bytes _ _ (λ t. bytes-keep bytes _ f t (step_in_keeps (words_of bytes) p direction program))
    (refuse-keeps 16 0 bytes)

list-bytes_in : (bytes : List ℕ) (rows : List Row) (program : List Block) → Keeps rows (list_bytes_in bytes rows program)
unfolding list_bytes_in
list-bytes_in bytes rows program =
    pick-keeps (has_words bytes machine_words) rows _ _ (λ t. list-in (words_of bytes) rows program) (refuse-keeps 16 0 rows)

-- ---- the statement
pub record RefusalKeeps : Type 0 where
  -- A start that answers a code other than 0 leaves the lent machine's words as they were, whatever the image and the memory.
  pub start_keeps : (image first words : List ℕ) → IsRefused (start image first words) → (start image first words).leaves ≡ words
  -- So does a step, whatever the image, the words, the process and the direction.
  pub step_keeps :
      (image words : List ℕ) (process direction : ℕ) → IsRefused (step image words process direction) →
      (step image words process direction).leaves ≡ words
  -- A list that answers a code other than 0 leaves the lent rows as they were.
  pub list_keeps : (image words : List ℕ) (rows : List Row) → IsRefused (list image words rows) → (list image words rows).leaves ≡ rows
  -- The same for the calls on bytes, as C makes them: every lent byte stays, of however many bytes the slice is.
  pub start_bytes_keeps :
      (image first bytes : List ℕ) → Bytes bytes → IsRefused (start_bytes image first bytes) → (start_bytes image first bytes).leaves ≡ bytes
  pub step_bytes_keeps :
      (image bytes : List ℕ) (process direction : ℕ) → Bytes bytes → IsRefused (step_bytes image bytes process direction) →
      (step_bytes image bytes process direction).leaves ≡ bytes
  -- Here the lent slice is the rows; the machine's bytes are only read.
  pub list_bytes_keeps :
      (image bytes : List ℕ) (rows : List Row) → IsRefused (list_bytes image bytes rows) → (list_bytes image bytes rows).leaves ≡ rows

-- A refused call leaves everything that it was lent as it was handed in.
pub refusal_keeps : RefusalKeeps
unfolding start step list start_bytes step_bytes list_bytes
refusal_keeps =
    record {
      start_keeps = λ image first words. image-keeps image words (start_in first words) (start-in first words);
      step_keeps = λ image words process direction. image-keeps image words (step_in words process direction) (step_in_keeps words process direction);
      list_keeps = λ image words rows. image-keeps image rows (list_in words rows) (list-in words rows);
      start_bytes_keeps = λ image first bytes f. image-keeps image bytes (start_bytes_in first bytes)
          (λ program. start-bytes_in first bytes program f);
      step_bytes_keeps = λ image bytes process direction f. image-keeps image bytes (step_bytes_in bytes process direction)
          (λ program. step-bytes_in bytes process direction program f);
      list_bytes_keeps = λ image bytes rows. image-keeps image rows (list_bytes_in bytes rows) (list-bytes_in bytes rows);
    }
