-- A word and the signed number that it means: each is the other's, and the sums of words are those of the numbers, wrapped. Laws of rules' Value.
-- Assumes of the words that they are below 2 ^ 32.
use Prim.Native.Nat.{ℕ, zero, suc, ◌-◌, ◌%◌, ◌^◌, ◌<◌, ◌≤◌}
use mathlib.Core.Path.{◌≡◌, refl, sym, ap, ap₂, ◌∙◌}
use mathlib.Core.Bool.{Bool, true, false}
use native.Mathlib.Omega.{arith}
use lib.Dec.{ltb}
use lib.IntN.{ℤ, pos, negsuc, ◌+ℤ◌, ◌-ℤ◌, neg_ℤ, sub_ℕ}
use lib.Signed.{mag}
use borrow.Author.Tests.{ltb-true, ltb-false}
use Rattle.rules.specs.Base.{pick}
use Rattle.rules.specs.Value.{width, span, signed, word_of, plus, minus}

-- What is shown of a word below 2 ^ 31 as itself, and of one above as -(2 ^ 32 - a), holds of its signed number.
pub by_sign :
    (a : ℕ) (P : ℤ → Type 0) → (a < 2 ^ (width - 1) → P (pos a)) → (2 ^ (width - 1) ≤ a → P (negsuc (span - 1 - a))) → P (signed a)
unfolding signed pick
by_sign a P low high = go (ltb a (2 ^ (width - 1))) refl
  where
    go : (t : Bool) → ltb a (2 ^ (width - 1)) ≡ t → P (signed a)
    go true e = rw e (low (ltb-true _ _ e))
    go false e = rw e (high (ltb-false _ _ e))

pub word_below : (z : ℤ) → word_of z < span
word_below (pos n) = omega arith
word_below (negsuc n) = omega arith

-- a word is the word of what it means
pub word-signed : (a : ℕ) → a < span → word_of (signed a) ≡ a
word-signed a ha = by_sign a (λ z. word_of z ≡ a) (λ h. omega arith) (λ h. omega arith)

-- a number from -2 ^ 31 to 2 ^ 31 - 1 is what its word means
pub signed_word : (z : ℤ) → mag z < 2 ^ (width - 1) → signed (word_of z) ≡ z
signed_word (pos n) h =
    by_sign (word_of (pos n)) (λ z. z ≡ pos n) (λ k. ap pos (omega arith)) (λ k. absurd (omega arith))
signed_word (negsuc n) h =
    by_sign (word_of (negsuc n)) (λ z. z ≡ negsuc n) (λ k. absurd (omega arith)) (λ k. ap negsuc (omega arith))

-- the word of a sum is that of the words' sum
word-sub : (m n : ℕ) → word_of (sub_ℕ m n) ≡ minus (m % span) (n % span)
word-sub m n = go (ltb m n) refl
  where
    go : (t : Bool) → ltb m n ≡ t → word_of (sub_ℕ m n) ≡ minus (m % span) (n % span)
    go true e = let h : m < n = ltb-true _ _ e in rw e (omega arith)
    go false e = let h : n ≤ m = ltb-false _ _ e in rw e (omega arith)

word-plus : (x y : ℤ) → word_of (x +ℤ y) ≡ plus (word_of x) (word_of y)
word-plus (pos m) (pos n) = omega arith
word-plus (pos m) (negsuc n) = word-sub m (suc n) ∙ omega arith
word-plus (negsuc m) (pos n) = word-sub n (suc m) ∙ omega arith
word-plus (negsuc m) (negsuc n) = omega arith

word-negated : (x : ℤ) → word_of (neg_ℤ x) ≡ minus 0 (word_of x)
word-negated (pos zero) = omega arith
word-negated (pos (suc n)) = omega arith
word-negated (negsuc n) = omega arith

pub plus-signed : (a b : ℕ) → a < span → b < span → plus a b ≡ word_of (signed a +ℤ signed b)
plus-signed a b ha hb = sym (word-plus (signed a) (signed b) ∙ ap₂ plus (word-signed a ha) (word-signed b hb))

pub minus-signed : (a b : ℕ) → a < span → b < span → minus a b ≡ word_of (signed a -ℤ signed b)
minus-signed a b ha hb =
    sym
    (word-plus (signed a) (neg_ℤ (signed b))
    ∙ ap₂ plus (word-signed a ha) (word-negated (signed b) ∙ ap (minus 0) (word-signed b hb))
    ∙ plus-minus_zero)
  where
    plus-minus_zero : plus a (minus 0 b) ≡ minus a b
    plus-minus_zero = omega arith
