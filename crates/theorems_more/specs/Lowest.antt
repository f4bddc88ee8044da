-- None below the lowest number that passes a test passes it: a law of rules' `lowest`. Assumes nothing.
use Rattle.std.specs.Prelude.{◌≡◌, ◌⊎◌, Bool, true, false, ℕ, zero, suc, ◌+◌, ◌<◌}
use Rattle.std.proofs.Common.{subst, inl, inr, arith}
use Rattle.theory.specs.Tests.{bool_cases}
use Rattle.rules.specs.Base.{pick, lowest_from, lowest}

module _ (p : ℕ → Bool) where
  -- none before the lowest passes
  from-before : (n at k : ℕ) → at + k < lowest_from p n at → p (at + k) ≡ false
  unfolding lowest_from pick
  from-before zero at k h = absurd (omega arith)
  from-before (suc n) at k h = go (bool_cases (p at)) k h (λ j l. from-before n (suc at) j l)
    where
      go :
          (p at ≡ true) ⊎ (p at ≡ false) → (k : ℕ) → at + k < lowest_from p (suc n) at →
          ((j : ℕ) → suc at + j < lowest_from p n (suc at) → p (suc at + j) ≡ false) → p (at + k) ≡ false
      go (inl e) k h ih = absurd (let z : at + k < at = rw e at h in omega arith)
      go (inr e) zero h ih = let z : at ≡ at + 0 = omega arith in subst (λ (x : ℕ). p x ≡ false) z e
      go (inr e) (suc k) h ih =
          let h' : at + suc k < lowest_from p n (suc at) = rw e at h in
          let z : suc at + k ≡ at + suc k = omega arith in
          subst (λ (x : ℕ). p x ≡ false) z (ih k (omega arith))

  pub lowest-before : (n k : ℕ) → k < lowest p n → p k ≡ false
  unfolding lowest
  lowest-before n k h = let z : 0 + k ≡ k = omega arith in subst (λ (x : ℕ). p x ≡ false) z (from-before n 0 k (omega arith))
