-- The order of the signed numbers is that of the biased words. Assumes nothing.
use Rattle.std.proofs.Common.{◌≡◌, ℕ, suc, ◌-◌, ◌<◌, ◌≤◌, Bool, true, false, ltb, leb, pos, negsuc, sym, refl, arith, le-ltb, lt-ltb, le-leb, leb-false, leb-true}
use lib.Signed.{lt_z, le_z}
use borrow.Author.Tests.{lt-leb}
use Rattle.rules.specs.Value.{span, signed, less, at_most}
use Rattle.laws.proofs.Signed.{by_sign}
use Rattle.value.specs.Biased.{biased_of}

-- two tests of order agree where the orders do
leb_iff : (a b c d : ℕ) → (a ≤ b → c ≤ d) → (c ≤ d → a ≤ b) → leb a b ≡ leb c d
leb_iff a b c d f g = go (leb a b) refl
  where
    go : (p : Bool) → leb a b ≡ p → p ≡ leb c d
    go true e = sym (le-leb c d (f (leb-true a b e)))
    go false e = sym (lt-leb c d (let k : b < a = leb-false a b e in not-le (λ h. let l : a ≤ b = g h in absurd (omega arith))))
      where
        not-le : (c ≤ d → ⊥) → d < c
        not-le f = omega (arith, f)

pub less-biased : (a b : ℕ) → a < span → b < span → less a b ≡ ltb (biased_of a) (biased_of b)
unfolding less
less-biased a b ha hb =
    by_sign a (λ x. lt_z x (signed b) ≡ ltb (biased_of a) (biased_of b))
    (λ h. by_sign b (λ y. lt_z (pos a) y ≡ ltb (biased_of a) (biased_of b))
    (λ k. leb_iff (suc a) b (suc (biased_of a)) (biased_of b) (λ u. omega arith) (λ u. omega arith))
    (λ k. sym (le-ltb (biased_of a) (biased_of b) (omega arith))))
    (λ h. by_sign b (λ y. lt_z (negsuc (span - 1 - a)) y ≡ ltb (biased_of a) (biased_of b))
    (λ k. sym (lt-ltb (biased_of a) (biased_of b) (omega arith)))
    (λ k. leb_iff (suc (span - 1 - b)) (span - 1 - a) (suc (biased_of a)) (biased_of b) (λ u. omega arith) (λ u. omega arith)))

pub at-most_biased : (a b : ℕ) → a < span → b < span → at_most a b ≡ leb (biased_of a) (biased_of b)
unfolding at_most
at-most_biased a b ha hb =
    by_sign a (λ x. le_z x (signed b) ≡ leb (biased_of a) (biased_of b))
    (λ h. by_sign b (λ y. le_z (pos a) y ≡ leb (biased_of a) (biased_of b))
    (λ k. leb_iff a b (biased_of a) (biased_of b) (λ u. omega arith) (λ u. omega arith))
    (λ k. sym (lt-leb (biased_of a) (biased_of b) (omega arith))))
    (λ h. by_sign b (λ y. le_z (negsuc (span - 1 - a)) y ≡ leb (biased_of a) (biased_of b))
    (λ k. sym (le-leb (biased_of a) (biased_of b) (omega arith)))
    (λ k. leb_iff (span - 1 - b) (span - 1 - a) (biased_of a) (biased_of b) (λ u. omega arith) (λ u. omega arith)))
