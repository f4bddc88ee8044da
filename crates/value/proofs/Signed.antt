-- The theorem `signed-values`: the operators on words are the signed 32-bit ones of document 01, and an update and its
-- inverse cancel. It speaks of rules' definitions alone, and assumes of the words that they are below 2 ^ 32.
use Rattle.std.proofs.Common.{◌≡◌, ℕ, ◌-◌, ◌^◌, ◌<◌, ltb, leb, ℤ, ◌+ℤ◌, ◌-ℤ◌, refl}
use lib.Signed.{mag, lt_z, le_z}
use Rattle.rules.specs.Value.{width, span, signed, word_of, plus, minus, less, at_most, negated, applied, changed}
use Rattle.rules.specs.Leaf.{inverse_change}
use Rattle.rules.specs.declared.Operator.{Operator}
use Rattle.rules.specs.declared.Change.{Change}
use Rattle.value.specs.Biased.{biased_of}
use Rattle.laws.proofs.Words.{applied-below, negated-below, changed-below, changed-back}
use Rattle.laws.proofs.Signed.{word_below, word-signed, signed_word, plus-signed, minus-signed}
use Rattle.value.proofs.Order.{less-biased, at-most_biased}

pub record SignedValues : Type 0 where
  -- `signed` and `word_of` are each other's inverse, between words and the numbers from -2 ^ 31 to 2 ^ 31 - 1
  pub word : (z : ℤ) → word_of z < span
  pub meaning : (a : ℕ) → a < span → word_of (signed a) ≡ a
  pub meant : (z : ℤ) → mag z < 2 ^ (width - 1) → signed (word_of z) ≡ z
  -- + and - are those of the signed numbers, wrapped
  pub sum : (a b : ℕ) → a < span → b < span → plus a b ≡ word_of (signed a +ℤ signed b)
  pub difference : (a b : ℕ) → a < span → b < span → minus a b ≡ word_of (signed a -ℤ signed b)
  -- comparisons are those of the signed numbers, and those of the words with 2 ^ 31 added
  pub below : (a b : ℕ) → less a b ≡ lt_z (signed a) (signed b)
  pub within : (a b : ℕ) → at_most a b ≡ le_z (signed a) (signed b)
  pub below_biased : (a b : ℕ) → a < span → b < span → less a b ≡ ltb (biased_of a) (biased_of b)
  pub within_biased : (a b : ℕ) → a < span → b < span → at_most a b ≡ leb (biased_of a) (biased_of b)
  -- what the operators, ! and an update make of words is a word
  pub operator_word : (o : Operator) (a b : ℕ) → a < span → b < span → applied o a b < span
  pub negated_word : (a : ℕ) → negated a < span
  pub change_word : (c : Change) (a b : ℕ) → a < span → b < span → changed c a b < span
  -- an update is undone exactly by its inverse
  pub back : (c : Change) (a b : ℕ) → a < span → b < span → changed (inverse_change c) (changed c a b) b ≡ a

pub signed-values : SignedValues
unfolding less at_most
signed-values =
    record {
      word = word_below;
      meaning = word-signed;
      meant = signed_word;
      sum = plus-signed;
      difference = minus-signed;
      below = λ a b. refl;
      within = λ a b. refl;
      below_biased = less-biased;
      within_biased = at-most_biased;
      operator_word = applied-below;
      negated_word = negated-below;
      change_word = changed-below;
      back = changed-back;
    }
