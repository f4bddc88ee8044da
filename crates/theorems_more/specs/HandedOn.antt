-- Judging as start, step and list hand it on is judging: of an image that judging refuses they answer its code and its place, and leave
-- what was lent;
-- of an accepted one every place is 0, whatever the code. Whatever else is handed in, on words and on bytes. Assumes nothing.
use Rattle.std.specs.Prelude.{◌≡◌, refl, Bool, List, [], ℕ}
use Rattle.std.proofs.Math.Path.{ap}
use Rattle.std.proofs.Common.{◌∙◌}
use Rattle.std.proofs.Math.Bool.{true, false}
use Rattle.std.proofs.Math.Option.{Option, none, some}
use Rattle.rules.specs.Base.{pick}
use Rattle.rules.specs.Machine.{Machine, standing, view}
use Rattle.rules.specs.Leaf.{Tried, made, refused}
use Rattle.rules.specs.Read.{Reading, got, fault, decoded}
use Rattle.rules.specs.Judge.{judged_blocks, judged_reading, judgement}
use Rattle.rules.specs.Words.{Outcome, refuse, accept, judged_then, read_then, on_image, start_in, start, step_of, finished, step_at}
use Rattle.rules.specs.Words.{step_in, step, words_of, to_bytes, start_bytes_in, start_bytes, step_bytes_in, step_bytes}
use Rattle.rules.specs.List.{rows_of, list_in, list, list_bytes_in, list_bytes}
use Rattle.rules.specs.declared.Block.{Block}
use Rattle.rules.specs.Judgement.{Judgement}
use Rattle.rules.specs.declared.Place.{Place}
use Rattle.rules.specs.declared.Row.{Row}
use Rattle.rules.specs.RefusalTable.{program_in}
use Rattle.theorems_more.specs.Refusing.FaultCodes.{accepted-image, on_accepted}
use Rattle.theorems_more.specs.Subjects.{IsAccepted}

module _ {Lent : Type 0} where
  -- what comes after a judgement: a refusal with its place, or the rest
  handed : (image : List ℕ) (lent : Lent) (f : List Block → Outcome Lent) (code place : ℕ) → judgement image ≡ Judgement.Refused code place →
      on_image image lent f ≡ refuse code place lent
  unfolding judgement judged_reading on_image
  handed image lent f code place e = reading (decoded image) e
    where
      judging : (j : Judgement) (o : Outcome Lent) → j ≡ Judgement.Refused code place → judged_then j lent o ≡ refuse code place lent
      judging j o e = ap (λ (k : Judgement). judged_then k lent o) e

      reading : (r : Reading (List Block)) → judged_reading r ≡ Judgement.Refused code place → read_then r lent f ≡ refuse code place lent
      reading (fault c q) e = judging (Judgement.Refused c q) (f []) e
      reading (got program at) e = judging (judged_blocks program) (f program) e

-- ---- an accepted image
module _ {Lent : Type 0} where
  abbrev AtZero : Outcome Lent → Type 0
  AtZero o = o.answer.place ≡ 0

  pick-zero : (t : Bool) (a b : Outcome Lent) → AtZero a → AtZero b → AtZero (pick t a b)
  unfolding pick
  pick-zero true a b x y = x
  pick-zero false a b x y = y

  on_zero : (image : List ℕ) (lent : Lent) (f : List Block → Outcome Lent) → IsAccepted image → AtZero (f (program_in image)) →
      AtZero (on_image image lent f)
  on_zero image lent f e h = ap (λ (o : Outcome Lent). o.answer.place) (on_accepted image (accepted-image image e) lent f) ∙ h

finished-zero : (words : List ℕ) (t : Tried Machine) → AtZero (finished words t)
finished-zero words (made m) = refl
finished-zero words (refused code) = refl

at_zero : (words : List ℕ) (program : List Block) (p d : ℕ) (o : Option Place) → AtZero (step_at words program p d o)
at_zero words program p d none = refl
at_zero words program p d (some here) = finished-zero words (step_of program (view words) p here d)

start_zero : (first words : List ℕ) (program : List Block) → AtZero (start_in first words program)
unfolding start_in
start_zero first words program = pick-zero _ (accept _) (refuse 16 0 words) refl refl

step_zero : (words : List ℕ) (p d : ℕ) (program : List Block) → AtZero (step_in words p d program)
unfolding step_in
step_zero words p d program =
    pick-zero _ (refuse 16 0 words) _ refl
    (pick-zero _ (refuse 17 0 words) _ refl
    (pick-zero _ (refuse 19 0 words) _ refl (at_zero words program p d (standing (view words).rows p))))

list_zero : (words : List ℕ) (rows : List Row) (program : List Block) → AtZero (list_in words rows program)
unfolding list_in
list_zero words rows program =
    pick-zero _ _ (refuse 16 0 rows) (pick-zero _ (accept (rows_of program (view words))) (refuse 17 0 rows) refl refl) refl

start_bytes_zero : (first bytes : List ℕ) (program : List Block) → AtZero (start_bytes_in first bytes program)
unfolding start_bytes_in to_bytes
start_bytes_zero first bytes program =
    pick-zero _ (to_bytes (start_in (words_of first) (words_of bytes) program)) (refuse 16 0 bytes)
    (start_zero (words_of first) (words_of bytes) program) refl

step_bytes_zero : (bytes : List ℕ) (p d : ℕ) (program : List Block) → AtZero (step_bytes_in bytes p d program)
unfolding step_bytes_in to_bytes
step_bytes_zero bytes p d program =
    pick-zero _ (to_bytes (step_in (words_of bytes) p d program)) (refuse 16 0 bytes) (step_zero (words_of bytes) p d program) refl

list_bytes_zero : (bytes : List ℕ) (rows : List Row) (program : List Block) → AtZero (list_bytes_in bytes rows program)
unfolding list_bytes_in
list_bytes_zero bytes rows program = pick-zero _ (list_in (words_of bytes) rows program) (refuse 16 0 rows) (list_zero (words_of bytes) rows program) refl

-- ---- the statement
pub record HandedOn : Type 0 where
  -- a refused image: judging's code and place, and what was lent as handed in
  pub start_hands : (image first words : List ℕ) (code place : ℕ) → judgement image ≡ Judgement.Refused code place →
      start image first words ≡ refuse code place words
  pub step_hands : (image words : List ℕ) (process direction code place : ℕ) → judgement image ≡ Judgement.Refused code place →
      step image words process direction ≡ refuse code place words
  pub list_hands : (image words : List ℕ) (rows : List Row) (code place : ℕ) → judgement image ≡ Judgement.Refused code place →
      list image words rows ≡ refuse code place rows
  pub start_bytes_hands : (image first bytes : List ℕ) (code place : ℕ) → judgement image ≡ Judgement.Refused code place →
      start_bytes image first bytes ≡ refuse code place bytes
  pub step_bytes_hands : (image bytes : List ℕ) (process direction code place : ℕ) → judgement image ≡ Judgement.Refused code place →
      step_bytes image bytes process direction ≡ refuse code place bytes
  pub list_bytes_hands : (image bytes : List ℕ) (rows : List Row) (code place : ℕ) → judgement image ≡ Judgement.Refused code place →
      list_bytes image bytes rows ≡ refuse code place rows
  -- an accepted image: place 0
  pub start_place : (image first words : List ℕ) → IsAccepted image → (start image first words).answer.place ≡ 0
  pub step_place : (image words : List ℕ) (process direction : ℕ) → IsAccepted image → (step image words process direction).answer.place ≡ 0
  pub list_place : (image words : List ℕ) (rows : List Row) → IsAccepted image → (list image words rows).answer.place ≡ 0
  pub start_bytes_place : (image first bytes : List ℕ) → IsAccepted image → (start_bytes image first bytes).answer.place ≡ 0
  pub step_bytes_place : (image bytes : List ℕ) (process direction : ℕ) → IsAccepted image →
      (step_bytes image bytes process direction).answer.place ≡ 0
  pub list_bytes_place : (image bytes : List ℕ) (rows : List Row) → IsAccepted image → (list_bytes image bytes rows).answer.place ≡ 0

pub handed-on : HandedOn
unfolding start step list start_bytes step_bytes list_bytes
handed-on =
    record {
      start_hands = λ image first words. handed image words (start_in first words);
      step_hands = λ image words p d. handed image words (step_in words p d);
      list_hands = λ image words rows. handed image rows (list_in words rows);
      start_bytes_hands = λ image first bytes. handed image bytes (start_bytes_in first bytes);
      step_bytes_hands = λ image bytes p d. handed image bytes (step_bytes_in bytes p d);
      list_bytes_hands = λ image bytes rows. handed image rows (list_bytes_in bytes rows);
      start_place = λ image first words e. on_zero image words (start_in first words) e (start_zero first words (program_in image));
      step_place = λ image words p d e. on_zero image words (step_in words p d) e (step_zero words p d (program_in image));
      list_place = λ image words rows e. on_zero image rows (list_in words rows) e (list_zero words rows (program_in image));
      start_bytes_place = λ image first bytes e. on_zero image bytes (start_bytes_in first bytes) e (start_bytes_zero first bytes (program_in image));
      step_bytes_place = λ image bytes p d e. on_zero image bytes (step_bytes_in bytes p d) e (step_bytes_zero bytes p d (program_in image));
      list_bytes_place = λ image bytes rows e. on_zero image rows (list_bytes_in bytes rows) e (list_bytes_zero bytes rows (program_in image));
    }
