-- The digits of an identifier, one turn after the other. Assumes nothing.
use Prim.Native.Nat.{ℕ, zero, suc, ◌-◌, ◌/◌, ◌%◌, ◌<◌, ◌≤◌}
use native.Mathlib.Nat.{not-suc-le-zero}
use native.Mathlib.Omega.{arith}
use mathlib.Core.Path.{◌≡◌, refl, sym, ◌∙◌}
use mathlib.Core.Bool.{Bool, true, false, ◌&&◌}
use mathlib.Core.List.{List}
use lib.ListN.{length}
use lib.Dec.{eqb, ltb}
use borrow.Author.Tests.{eq-eqb, ne_eqb, le-leb, lt-leb}
use Rattle.rules.specs.Machine.{Kept}
use Rattle.rules.specs.Fits.{digits_fit, block_fits, kept_fits}
use Rattle.rules.specs.declared.Block.{Block}

pub digits-none : (n p : ℕ) → p ≡ 0 → digits_fit n p ≡ true
unfolding digits_fit
digits-none zero p e = eq-eqb p 0 e
digits-none (suc n) p e = rw (eq-eqb p 0 e)

pub digits-end : (n p : ℕ) → n ≤ 0 → digits_fit n p ≡ eqb p 0
unfolding digits_fit
digits-end zero p h = refl
digits-end (suc n) p h = absurd (not-suc-le-zero h)

module _ (p : ℕ) (some : p ≡ 0 → ⊥) where
  pub digits_low : (n : ℕ) → 0 < n → p % 16 < 1 → digits_fit n p ≡ false
  unfolding digits_fit
  digits_low zero l h = absurd (not-suc-le-zero l)
  digits_low (suc n) l h = rw (ne_eqb p 0 some, lt-leb 1 (p % 16) h)

  pub digits-high : (n : ℕ) → 0 < n → 1 ≤ p % 16 → 8 < p % 16 → digits_fit n p ≡ false
  unfolding digits_fit
  digits-high zero l k h = absurd (not-suc-le-zero l)
  digits-high (suc n) l k h = rw (ne_eqb p 0 some, le-leb 1 (p % 16) k, lt-leb (p % 16) 8 h)

  pub digits-next : (n : ℕ) → 0 < n → 1 ≤ p % 16 → p % 16 ≤ 8 → digits_fit n p ≡ digits_fit (n - 1) (p / 16)
  unfolding digits_fit
  digits-next zero l k h = absurd (not-suc-le-zero l)
  digits-next (suc n) l k h =
      let e : suc n - 1 ≡ n = omega arith in
      rw (ne_eqb p 0 some, le-leb 1 (p % 16) k, le-leb (p % 16) 8 h, e)

-- an entry of the history
pub kept-is : (program : List Block) (k : Kept) (n : ℕ) (r : Bool) → length program ≡ n → r ≡ ltb k.block n && digits_fit 8 k.identifier
    → kept_fits program k ≡ r
unfolding kept_fits block_fits
kept-is program k n r e q = sym (q ∙ rw (← e))
