-- The theorem `signed-values`: words mean signed 32-bit numbers, and each of the eleven operators, `!` and each of the three updates makes
-- of words just
-- the word that it means of their numbers (rules' Meaning, in which nothing of `applied`, `negated` and `changed` stands). An update and
-- its inverse cancel.
use Rattle.std.specs.Prelude.{ℕ, ◌-◌, ◌^◌, ◌<◌, ◌≡◌, ◌↔◌, ℤ, pos}
use Rattle.std.proofs.Common.{sym, subst}
use Rattle.std.specs.Int.Signed.{mag}
use Rattle.rules.specs.Value.{width, span, signed, word_of, negated, applied, changed}
use Rattle.rules.specs.Meaning.{TruthOf, Means, ChangeMeans}
use Rattle.rules.specs.Leaf.{inverse_change}
use Rattle.rules.specs.declared.Operator.{Operator}
use Rattle.rules.specs.declared.Change.{Change}
use Rattle.laws.proofs.Words.{applied-below, negated-below, changed-below, changed-back}
use Rattle.theorems_values.specs.Operators.{operators-mean, not_means, changes-mean, meant-applied, meant-changed}
use Rattle.laws.proofs.Signed.{word_below, word-signed, signed_word}

pub record SignedValues : Type 0 where
  -- `signed` and `word_of` are each other's inverse, between words and the numbers from -2 ^ 31 to 2 ^ 31 - 1
  pub word : (z : ℤ) → word_of z < span
  pub meaning : (a : ℕ) → a < span → word_of (signed a) ≡ a
  pub meant : (z : ℤ) → mag z < 2 ^ (width - 1) → signed (word_of z) ≡ z
  -- what an operator, ! and an update make of words is the word that they mean of the signed numbers
  pub operators : (o : Operator) (a b v : ℕ) → a < span → b < span → (v ≡ applied o a b) ↔ Means o (signed a) (signed b) v
  pub negation : (a : ℕ) → a < span → TruthOf (signed a ≡ pos 0) (negated a)
  pub updates : (c : Change) (a b v : ℕ) → a < span → b < span → (v ≡ changed c a b) ↔ ChangeMeans c (signed a) (signed b) v
  -- and a word
  pub operator_word : (o : Operator) (a b : ℕ) → a < span → b < span → applied o a b < span
  pub negated_word : (a : ℕ) → negated a < span
  pub change_word : (c : Change) (a b : ℕ) → a < span → b < span → changed c a b < span
  -- an update is undone exactly by its inverse
  pub back : (c : Change) (a b : ℕ) → a < span → b < span → changed (inverse_change c) (changed c a b) b ≡ a

pub signed-values : SignedValues
signed-values =
    record {
      word = word_below;
      meaning = word-signed;
      meant = signed_word;
      operators = λ o a b v ha hb. (
        (λ e. subst (Means o (signed a) (signed b)) (sym e) (operators-mean o a b ha hb)),
        meant-applied o a b v ha hb,
      );
      negation = not_means;
      updates = λ c a b v ha hb. (
        (λ e. subst (ChangeMeans c (signed a) (signed b)) (sym e) (changes-mean c a b ha hb)),
        meant-changed c a b v ha hb,
      );
      operator_word = applied-below;
      negated_word = negated-below;
      change_word = changed-below;
      back = changed-back;
    }
