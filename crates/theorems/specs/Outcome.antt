-- Demand 1, one outcome: what each promise allows, in the equations that its contract states, and that two outcomes which it
-- allows are equal. A shared slice (the image, the first memory, a listed machine) can't change, so it is no part of an outcome.
-- Assumes nothing.
use Rattle.std.specs.Prelude.{◌≡◌, refl, List, ℕ, Result}
use Rattle.std.proofs.Common.{sym, ap₂, ◌∙◌}
use Rattle.rules.specs.Judge.{judgement, numbers}
use Rattle.rules.specs.Words.{Outcome, start, step, start_bytes, step_bytes}
use Rattle.rules.specs.List.{list, list_bytes}
use Rattle.rules.specs.declared.Answer.{Answer}
use Rattle.rules.specs.declared.Accepted as Found
use Rattle.rules.specs.declared.Judged.{Judged}
use Rattle.rules.specs.declared.Refused as Fault
use Rattle.rules.specs.Judgement.{Judgement, judged}
use Rattle.rules.specs.declared.Row.{Row}
use Rattle.theorems.specs.OneAnswer.{judged-one}

-- ---- what the promises allow
-- judging: the answer, and on the C boundary its four numbers
pub record JudgeAllows (image : List ℕ) (answer : Judgement) : Type 0 where
  pub answers : answer ≡ judgement image

pub record JudgeNumbersAllows (image : List ℕ) (answer : Judged) : Type 0 where
  pub answers : answer ≡ numbers (judgement image)

-- starting: the answer, and the lent machine's words or bytes afterwards
pub record StartAllows (image first words : List ℕ) (o : Outcome (List ℕ)) : Type 0 where
  pub answers : o.answer ≡ (start image first words).answer
  pub leaves : o.leaves ≡ (start image first words).leaves

pub record StartBytesAllows (image first bytes : List ℕ) (o : Outcome (List ℕ)) : Type 0 where
  pub answers : o.answer ≡ (start_bytes image first bytes).answer
  pub leaves : o.leaves ≡ (start_bytes image first bytes).leaves

-- stepping: likewise
pub record StepAllows (image words : List ℕ) (process direction : ℕ) (o : Outcome (List ℕ)) : Type 0 where
  pub answers : o.answer ≡ (step image words process direction).answer
  pub leaves : o.leaves ≡ (step image words process direction).leaves

pub record StepBytesAllows (image bytes : List ℕ) (process direction : ℕ) (o : Outcome (List ℕ)) : Type 0 where
  pub answers : o.answer ≡ (step_bytes image bytes process direction).answer
  pub leaves : o.leaves ≡ (step_bytes image bytes process direction).leaves

-- listing: the answer, and the lent rows afterwards
pub record ListAllows (image words : List ℕ) (rows : List Row) (o : Outcome (List Row)) : Type 0 where
  pub answers : o.answer ≡ (list image words rows).answer
  pub leaves : o.leaves ≡ (list image words rows).leaves

pub record ListBytesAllows (image bytes : List ℕ) (rows : List Row) (o : Outcome (List Row)) : Type 0 where
  pub answers : o.answer ≡ (list_bytes image bytes rows).answer
  pub leaves : o.leaves ≡ (list_bytes image bytes rows).leaves

-- ---- the statement
-- there is an allowed outcome, and any two are equal
pub record One {A : Type 0} (Allows : A → Type 0) : Type 0 where
  pub outcome : A
  pub allowed : Allows outcome
  pub only : (a b : A) → Allows a → Allows b → a ≡ b

module _ {Lent : Type 0} where
  both :
      (a b : Answer) (l m : Lent) → a ≡ b → l ≡ m →
      ◌≡◌ {A = Outcome Lent} (record { answer = a; leaves = l }) (record { answer = b; leaves = m })
  both a b l m p q = ap₂ (λ (x : Answer) (y : Lent). record { answer = x; leaves = y }) p q

  same :
      (o a b : Outcome Lent) → a.answer ≡ o.answer → a.leaves ≡ o.leaves →
      b.answer ≡ o.answer → b.leaves ≡ o.leaves → a ≡ b
  same o a b p q r s = both a.answer b.answer a.leaves b.leaves (p ∙ sym r) (q ∙ sym s)

pub record OneOutcome : Type 0 where
  -- Judging an image, whatever its bytes, has one answer, and on the C boundary one set of four numbers.
  pub judge_one : (image : List ℕ) → One (JudgeAllows image)
  pub judge_numbers_one : (image : List ℕ) → One (JudgeNumbersAllows image)
  -- The code's own answer, too, is one: no two of its answers are read as the same judgement.
  pub judged_one : (a b : Result Found.Accepted Fault.Refused) → judged a ≡ judged b → a ≡ b
  -- Starting has one outcome: one answer, and one content of the lent machine afterwards. On words, and on bytes.
  pub start_one : (image first words : List ℕ) → One (StartAllows image first words)
  pub start_bytes_one : (image first bytes : List ℕ) → One (StartBytesAllows image first bytes)
  -- So has a step, of any process in any direction.
  pub step_one : (image words : List ℕ) (process direction : ℕ) → One (StepAllows image words process direction)
  pub step_bytes_one : (image bytes : List ℕ) (process direction : ℕ) → One (StepBytesAllows image bytes process direction)
  -- So has listing: one answer, and one content of the lent rows afterwards.
  pub list_one : (image words : List ℕ) (rows : List Row) → One (ListAllows image words rows)
  pub list_bytes_one : (image bytes : List ℕ) (rows : List Row) → One (ListBytesAllows image bytes rows)

-- Each promise allows just one outcome for what is handed in, so two runs of a call on the same inputs can't differ.
pub one-outcome : OneOutcome
one-outcome =
    record {
      judge_one = λ image. record {
        outcome = judgement image;
        allowed = record { answers = refl };
        only = λ a b p q. p.answers ∙ sym q.answers;
      };
      judge_numbers_one = λ image. record {
        outcome = numbers (judgement image);
        allowed = record { answers = refl };
        only = λ a b p q. p.answers ∙ sym q.answers;
      };
      judged_one = judged-one;
      start_one = λ image first words. record {
        outcome = start image first words;
        allowed = record { answers = refl; leaves = refl };
        only = λ a b p q. same (start image first words) a b p.answers p.leaves q.answers q.leaves;
      };
      start_bytes_one = λ image first bytes. record {
        outcome = start_bytes image first bytes;
        allowed = record { answers = refl; leaves = refl };
        only = λ a b p q. same (start_bytes image first bytes) a b p.answers p.leaves q.answers q.leaves;
      };
      step_one = λ image words process direction. record {
        outcome = step image words process direction;
        allowed = record { answers = refl; leaves = refl };
        only = λ a b p q. same (step image words process direction) a b p.answers p.leaves q.answers q.leaves;
      };
      step_bytes_one = λ image bytes process direction. record {
        outcome = step_bytes image bytes process direction;
        allowed = record { answers = refl; leaves = refl };
        only = λ a b p q. same (step_bytes image bytes process direction) a b p.answers p.leaves q.answers q.leaves;
      };
      list_one = λ image words rows. record {
        outcome = list image words rows;
        allowed = record { answers = refl; leaves = refl };
        only = λ a b p q. same (list image words rows) a b p.answers p.leaves q.answers q.leaves;
      };
      list_bytes_one = λ image bytes rows. record {
        outcome = list_bytes image bytes rows;
        allowed = record { answers = refl; leaves = refl };
        only = λ a b p q. same (list_bytes image bytes rows) a b p.answers p.leaves q.answers q.leaves;
      };
    }
