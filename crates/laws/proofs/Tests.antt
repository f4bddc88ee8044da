-- Tests that are joined by "or" and "and". Assumes nothing.
use mathlib.Core.Path.{◌≡◌, refl}
use mathlib.Core.Bool.{Bool, true, false, ◌&&◌, ◌||◌}
use Prim.Native.Nat.{◌≤◌, min, max}
use native.Mathlib.Omega.{arith}
use Rattle.rules.specs.Value.{flag}
pub use Rattle.theory.specs.Tests.{true_false, and-true, true_and, or_cases, or_left, or_right}

pub never : {A : Type 0} → false ≡ true → A
never h = absurd (true_false h refl)

pub flag-or_and : (a b c : Bool) → flag (a || (b && c)) ≡ max (flag a) (min (flag b) (flag c))
flag-or_and true true true = refl
flag-or_and true true false = refl
flag-or_and true false true = refl
flag-or_and true false false = refl
flag-or_and false true true = refl
flag-or_and false true false = refl
flag-or_and false false true = refl
flag-or_and false false false = refl

pub flag_one : (a : Bool) → flag a ≡ 1 → a ≡ true
flag_one true h = refl
flag_one false h = absurd (omega arith)

pub flag-other : (a : Bool) → (flag a ≡ 1 → ⊥) → a ≡ false
flag-other true h = absurd (h refl)
flag-other false h = refl

pub flag_small : (a : Bool) → flag a ≤ 1
flag_small true = omega arith
flag_small false = omega arith
