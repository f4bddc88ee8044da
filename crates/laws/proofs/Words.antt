-- The operators keep to words, and an update and its inverse cancel: laws of rules' Value. Assumes nothing.
use Prim.Native.Nat.{ℕ, zero, suc, ◌+◌, ◌*◌, ◌/◌, ◌%◌, ◌<◌}
use mathlib.Core.Path.{◌≡◌, refl, ap₂, ◌∙◌}
use mathlib.Core.Bool.{Bool, true, false, not, ◌&&◌, ◌||◌}
use native.Mathlib.Nat.{div-add-mod'}
use native.Mathlib.Omega.{arith}
use lib.Arith.{bin_ind}
use lib.Dec.{eqb}
use lib.Bits.{bit_xor, differ, xor_lt, xor_step, xor_zero_r, xor_shr, xor_mod}
use Rattle.rules.specs.Value.{width, span, plus, minus, xor, truth, flag, less, at_most, negated, applied, changed}
use Rattle.rules.specs.Leaf.{inverse_change}
use Rattle.rules.specs.declared.Operator.{Operator}
use Rattle.rules.specs.declared.Change.{Change}

-- ---- what is made of words is a word
pub plus-below : (a b : ℕ) → plus a b < span
plus-below a b = omega arith

pub minus-below : (a b : ℕ) → minus a b < span
minus-below a b = omega arith

pub xor_below : (a b : ℕ) → a < span → b < span → xor a b < span
xor_below a b = xor_lt width a b

pub flag-below : (b : Bool) → flag b < span
flag-below true = omega arith
flag-below false = omega arith

pub negated-below : (a : ℕ) → negated a < span
unfolding negated
negated-below a = flag-below (not (truth a))

pub applied-below : (operator : Operator) (a b : ℕ) → a < span → b < span → applied operator a b < span
applied-below Operator.Add a b ha hb = plus-below a b
applied-below Operator.Subtract a b ha hb = minus-below a b
applied-below Operator.Xor a b ha hb = xor_below a b ha hb
applied-below Operator.Equal a b ha hb = flag-below (eqb a b)
applied-below Operator.Unequal a b ha hb = flag-below (not (eqb a b))
applied-below Operator.Less a b ha hb = flag-below (less a b)
applied-below Operator.AtMost a b ha hb = flag-below (at_most a b)
applied-below Operator.Greater a b ha hb = flag-below (less b a)
applied-below Operator.AtLeast a b ha hb = flag-below (at_most b a)
applied-below Operator.And a b ha hb = flag-below (truth a && truth b)
applied-below Operator.Or a b ha hb = flag-below (truth a || truth b)

pub changed-below : (change : Change) (a b : ℕ) → a < span → b < span → changed change a b < span
changed-below Change.Add a b ha hb = plus-below a b
changed-below Change.Subtract a b ha hb = minus-below a b
changed-below Change.Xor a b ha hb = xor_below a b ha hb

-- ---- an update is undone by its inverse
pub minus_plus : (a b : ℕ) → a < span → b < span → minus (plus a b) b ≡ a
minus_plus a b ha hb = omega arith

pub plus-minus : (a b : ℕ) → a < span → b < span → plus (minus a b) b ≡ a
plus-minus a b ha hb = omega arith

bit-back : (x y : ℕ) → x < 2 → y < 2 → differ (bit_xor x y) y ≡ x
bit-back zero zero hx hy = refl
bit-back zero (suc zero) hx hy = refl
bit-back (suc zero) zero hx hy = refl
bit-back (suc zero) (suc zero) hx hy = refl
bit-back zero (suc (suc y)) hx hy = absurd (omega arith)
bit-back (suc zero) (suc (suc y)) hx hy = absurd (omega arith)
bit-back (suc (suc x)) y hx hy = absurd (omega arith)

xor-back : (b a : ℕ) → bit_xor (bit_xor a b) b ≡ a
xor-back =
    bin_ind (λ (n : ℕ). (a : ℕ) → bit_xor (bit_xor a n) n ≡ a) (λ a. xor_zero_r (bit_xor a zero) ∙ xor_zero_r a)
    (λ n ih a.
    xor_step (bit_xor a n) n
    ∙ ap₂ (λ (x y : ℕ). bit_xor x (n / 2) * 2 + differ y (n % 2)) (xor_shr a n 1) (xor_mod a n 1)
    ∙ ap₂ (λ (x y : ℕ). x * 2 + y) (ih (a / 2)) (bit-back (a % 2) (n % 2) (omega arith) (omega arith))
    ∙ div-add-mod' a 2)

pub xor-xor : (a b : ℕ) → xor (xor a b) b ≡ a
xor-xor a b = xor-back b a

pub changed-back : (change : Change) (a b : ℕ) → a < span → b < span → changed (inverse_change change) (changed change a b) b ≡ a
changed-back Change.Add a b ha hb = minus_plus a b ha hb
changed-back Change.Subtract a b ha hb = plus-minus a b ha hb
changed-back Change.Xor a b ha hb = xor-xor a b
