-- From lent bytes to words and back: a start and a step on the words of the bytes are the start and the step on the bytes.
-- Assumes nothing.
use mathlib.Core.Path.{◌≡◌, refl, sym, ap, ◌∙◌}
use mathlib.Core.List.{List}
use Prim.Native.Nat.{ℕ}
use lib.ListN.{length}
use borrow.Author.Tests.{eq-eqb, ne_eqb}
use Rattle.rules.specs.Base.{pick}
use Rattle.rules.specs.Read.{Reading, got, fault, decoded}
use Rattle.rules.specs.Judge.{judged_blocks}
use Rattle.rules.specs.Words.{Outcome, refuse, judged_then, read_then, on_image, start_in, step_in, step, words_of, bytes_of, to_bytes}
use Rattle.rules.specs.Words.{start_bytes_in, step_bytes_in, step_bytes}
use Rattle.rules.specs.declared.Answer.{Answer}
use Rattle.rules.specs.declared.Block.{Block}
use Rattle.rules.specs.Judgement.{Judgement}
use Rattle.laws.specs.Fit.{Bytes}
use Rattle.std.specs.Prelude.{Result, Ok, Err}
use Rattle.rules.specs.declared.Code.{Code}
use Rattle.machine.specs.Outcome.{ended}
use Rattle.runtime.specs.Outcome.{outcome_of}
use Rattle.word_bytes.proofs.Laws.{length-words_of}
use Rattle.laws.proofs.Bytes.{bytes-again}
use Rattle.theorems.specs.Refusals.{refusal_keeps}

-- ---- starting, on an image that is accepted
module _ (first bytes : List ℕ) (program : List Block) where
  pub bad-first : (length first ≡ 1152 → ⊥) → refuse 16 0 bytes ≡ start_bytes_in first bytes program
  unfolding start_bytes_in pick
  bad-first h = rw (ne_eqb (length first) 1152 h)

  pub bad-machine : length first ≡ 1152 → (length bytes ≡ 34696 → ⊥) → refuse 16 0 bytes ≡ start_bytes_in first bytes program
  unfolding start_bytes_in pick
  bad-machine f h = rw (eq-eqb (length first) 1152 f, ne_eqb (length bytes) 34696 h)

  -- the words that were there before do not matter
  pub well :
      (done : Result (Unit {0}) Code) (words left : List ℕ) → length first ≡ 1152 → length bytes ≡ 34696 → length words ≡ 8674 →
      ended done left ≡ start_in (words_of first) words program → ended done (bytes_of left) ≡ start_bytes_in first bytes program
  unfolding start_bytes_in start_in to_bytes pick
  well done words left f h l e =
      let p = eq-eqb (length (words_of first)) 288 (length-words_of first 288 f) in
      let q = eq-eqb (length (words_of bytes)) 8674 (length-words_of bytes 8674 h) in
      let same : start_in (words_of first) words program ≡ start_in (words_of first) (words_of bytes) program =
      simp (p, q, eq-eqb (length words) 8674 l) in
      in-bytes done ∙ ap to_bytes (e ∙ same) ∙ simp (eq-eqb (length first) 1152 f, eq-eqb (length bytes) 34696 h)
    where
      in-bytes : (r : Result (Unit {0}) Code) → ended r (bytes_of left) ≡ to_bytes (ended r left)
      in-bytes (Ok a) = refl
      in-bytes (Err c) = refl

-- ---- stepping
module _ (image bytes words : List ℕ) (f g : List Block → Outcome (List ℕ)) where
  in_bytes :
      bytes_of words ≡ bytes → ((program : List Block) → to_bytes (f program) ≡ g program) →
      to_bytes (on_image image words f) ≡ on_image image bytes g
  unfolding on_image to_bytes
  in_bytes e k = read (decoded image)
    where
      judged : (j : Judgement) (program : List Block) → to_bytes (judged_then j words (f program)) ≡ judged_then j bytes (g program)
      judged (Judgement.Refused code place) program = ap (refuse code place) e
      judged (Judgement.Accepted blocks peak) program = k program

      read : (r : Reading (List Block)) → to_bytes (read_then r words f) ≡ read_then r bytes g
      read (got program at) = judged (judged_blocks program) program
      read (fault code place) = ap (refuse code place) e

module _ (image bytes : List ℕ) (process direction : ℕ) where
  pub bad-bytes :
      (answer : Answer) → (length bytes ≡ 34696 → ⊥) → outcome_of answer bytes ≡ on_image image bytes (λ program. refuse 16 0 bytes) →
      outcome_of answer bytes ≡ step_bytes image bytes process direction
  unfolding step_bytes step_bytes_in pick
  bad-bytes answer h e = e ∙ (λ i. on_image image bytes (λ program. other program i))
    where
      other : (program : List Block) → refuse 16 0 bytes ≡ step_bytes_in bytes process direction program
      other program = rw (ne_eqb (length bytes) 34696 h)

  module _
      (answer : Answer) (words left : List ℕ) (l : length bytes ≡ 34696) (b : Bytes bytes) (w : words ≡ words_of bytes)
      (e : outcome_of answer left ≡ step image words process direction)
    where
      again : bytes_of words ≡ bytes
      again = ap bytes_of w ∙ bytes-again bytes 8674 l b

      same : (program : List Block) → to_bytes (step_in words process direction program) ≡ step_bytes_in bytes process direction program
      unfolding step_bytes_in pick
      same program =
          ap (λ (x : List ℕ). to_bytes (step_in x process direction program)) w ∙ sym (rw (eq-eqb (length bytes) 34696 l))

      pub stepped : outcome_of answer (bytes_of left) ≡ step_bytes image bytes process direction
      unfolding step step_bytes to_bytes
      stepped = ap to_bytes e ∙ in_bytes image bytes words (step_in words process direction) (step_bytes_in bytes process direction) again same

      -- refused, the words are as they were, and so are the bytes
      pub kept : (answer.code ≡ 0 → ⊥) → outcome_of answer bytes ≡ step_bytes image bytes process direction
      kept h =
          let k : left ≡ words =
          ap (λ (o : Outcome (List ℕ)). o.leaves) e
          ∙ refusal_keeps.step_keeps image words process direction (λ z. h (ap (λ (o : Outcome (List ℕ)). o.answer.code) e ∙ z)) in
          ap (outcome_of answer) (sym again ∙ ap bytes_of (sym k)) ∙ stepped
