-- Starting and stepping on the lent words, document 01, "The machine": the codes 1 to 15 of judging, then 16 to 19 in their
-- order, then those of Step; and the same on bytes, as C calls them. Any refusal leaves every lent word as handed in.
use Rattle.std.specs.Prelude.{ℕ, ◌*◌, ◌/◌, ◌%◌, Bool, not, ◌&&◌, List, [], ◌∷◌, length, eqb, ltb}
use Rattle.std.proofs.Math.Option.{Option, none, some}
use Rattle.rules.specs.Base.{pick}
use Rattle.rules.specs.Format.{word_from}
use Rattle.rules.specs.Read.{Reading, got, fault, decoded}
use Rattle.rules.specs.Judge.{judged_blocks}
use Rattle.rules.specs.Machine.{Machine, standing, memory_words, machine_words, pack, view, started}
use Rattle.rules.specs.Fits.{fits}
use Rattle.rules.specs.Leaf.{Tried, made, refused}
use Rattle.rules.specs.Step.{forward, undo}
use Rattle.rules.specs.Judgement.{Judgement}
use Rattle.rules.specs.declared.Answer.{Answer}
use Rattle.rules.specs.declared.Block.{Block}
use Rattle.rules.specs.declared.Place.{Place}

-- what a function answers, and what it leaves in the lent slice
pub record Outcome (Lent : Type 0) : Type 0 where
  pub answer : Answer
  pub leaves : Lent

module _ {Lent : Type 0} where
  -- the lent slice stays as handed in
  abbrev pub refuse : ℕ → ℕ → Lent → Outcome Lent
  refuse code place lent = record { answer = record { code = code; place = place }; leaves = lent }

  abbrev pub accept : Lent → Outcome Lent
  accept lent = record { answer = record { code = 0; place = 0 }; leaves = lent }

  -- before all else stand the codes of judging, with their places
  abbrev pub judged_then : Judgement → Lent → Outcome Lent → Outcome Lent
  judged_then (Judgement.Refused code place) lent rest = refuse code place lent
  judged_then (Judgement.Accepted blocks peak) lent rest = rest

  abbrev pub read_then : Reading (List Block) → Lent → (List Block → Outcome Lent) → Outcome Lent
  read_then (fault code place) lent f = refuse code place lent
  read_then (got program at) lent f = judged_then (judged_blocks program) lent (f program)

  unfoldable pub on_image : List ℕ → Lent → (List Block → Outcome Lent) → Outcome Lent
  on_image image lent f = read_then (decoded image) lent f

-- ---- starting
unfoldable pub start_in : List ℕ → List ℕ → List Block → Outcome (List ℕ)
start_in first words program =
    pick (eqb (length first) memory_words && eqb (length words) machine_words) (accept (pack (started first)))
    (refuse 16 0 words)

unfoldable pub start : List ℕ → List ℕ → List ℕ → Outcome (List ℕ)
start image first words = on_image image words (start_in first words)

-- ---- stepping
-- direction 0 is forward, 1 undo
abbrev pub step_of : List Block → Machine → ℕ → Place → ℕ → Tried Machine
step_of program m p here direction = pick (eqb direction 0) (forward program m p here) (undo program m p here)

abbrev pub finished : List ℕ → Tried Machine → Outcome (List ℕ)
finished words (made m) = accept (pack m)
finished words (refused code) = refuse code 0 words

-- 18: process not live
abbrev pub step_at : List ℕ → List Block → ℕ → ℕ → Option Place → Outcome (List ℕ)
step_at words program p direction none = refuse 18 0 words
step_at words program p direction (some here) = finished words (step_of program (view words) p here direction)

unfoldable pub step_in : List ℕ → ℕ → ℕ → List Block → Outcome (List ℕ)
step_in words p direction program =
    pick (not (eqb (length words) machine_words)) (refuse 16 0 words)
    (pick (not (fits program words)) (refuse 17 0 words)
    (pick (ltb 1 direction) (refuse 19 0 words)
    (step_at words program p direction (standing (view words).rows p))))

unfoldable pub step : List ℕ → List ℕ → ℕ → ℕ → Outcome (List ℕ)
step image words p direction = on_image image words (step_in words p direction)

-- ---- on bytes: four a word, low byte first; a byte length that doesn't give the right number of words is 16
unfoldable pub words_of : List ℕ → List ℕ
words_of [] = []
words_of (a ∷ []) = []
words_of (a ∷ b ∷ []) = []
words_of (a ∷ b ∷ c ∷ []) = []
words_of (a ∷ b ∷ c ∷ d ∷ bytes) = word_from a b c d ∷ words_of bytes

unfoldable pub bytes_of : List ℕ → List ℕ
bytes_of [] = []
bytes_of (w ∷ words) = w % 256 ∷ w / 256 % 256 ∷ w / 65536 % 256 ∷ w / 16777216 % 256 ∷ bytes_of words

unfoldable pub to_bytes : Outcome (List ℕ) → Outcome (List ℕ)
to_bytes o = record { answer = o.answer; leaves = bytes_of o.leaves }

abbrev pub has_words : List ℕ → ℕ → Bool
has_words bytes n = eqb (length bytes) (4 * n)

unfoldable pub start_bytes_in : List ℕ → List ℕ → List Block → Outcome (List ℕ)
start_bytes_in first bytes program =
    pick (has_words first memory_words && has_words bytes machine_words) (to_bytes (start_in (words_of first) (words_of bytes) program))
    (refuse 16 0 bytes)

unfoldable pub start_bytes : List ℕ → List ℕ → List ℕ → Outcome (List ℕ)
start_bytes image first bytes = on_image image bytes (start_bytes_in first bytes)

unfoldable pub step_bytes_in : List ℕ → ℕ → ℕ → List Block → Outcome (List ℕ)
step_bytes_in bytes p direction program =
    pick (has_words bytes machine_words) (to_bytes (step_in (words_of bytes) p direction program)) (refuse 16 0 bytes)

unfoldable pub step_bytes : List ℕ → List ℕ → ℕ → ℕ → Outcome (List ℕ)
step_bytes image bytes p direction = on_image image bytes (step_bytes_in bytes p direction)
