-- How often a number stands in a list. Assumes nothing.
use mathlib.Core.Path.{◌≡◌, sym, subst}
use mathlib.Core.Bool.{Bool, true}
use mathlib.Core.List.{List, [], ◌∷◌, ◌++◌}
use Prim.Native.Nat.{ℕ, ◌+◌, ◌≤◌}
use native.Mathlib.Omega.{arith}
use native.Mathlib.Decide.{ℕ_discrete}
use borrow.Author.Tests.{eq-eqb, ne_eqb}
use Rattle.theory.specs.Tests.{and-true}
use Rattle.rules.specs.Base.{pick, each_of, times}

pub times-here : (x y : ℕ) (l : List ℕ) → y ≡ x → times x (y ∷ l) ≡ 1 + times x l
unfolding times pick
times-here x y l e = rw (eq-eqb y x e)

pub times-past : (x y : ℕ) (l : List ℕ) → times x l ≤ times x (y ∷ l)
unfolding times pick
times-past x y l = omega arith

pub times-other : (x y : ℕ) (l : List ℕ) → (y ≡ x → ⊥) → times x (y ∷ l) ≡ times x l
unfolding times pick
times-other x y l n = rw (ne_eqb y x n) (omega arith)

pub times-append : (x : ℕ) (l m : List ℕ) → times x (l ++ m) ≡ times x l + times x m
unfolding times
times-append x [] m = omega arith
times-append x (y ∷ l) m = omega (arith, times-append x l m)

-- the one element of a list
pub times-one : (x y : ℕ) → 1 ≤ times x (y ∷ []) → x ≡ y
unfolding times
times-one x y h = go (ℕ_discrete y x)
  where
    go : Dec (y ≡ x) → x ≡ y
    go (yes e) = sym e
    go (no n) = absurd (let e : times x (y ∷ []) ≡ 0 = times-other x y [] n in omega (arith, e, h))

-- what each element of a list passes, one that stands in it passes
pub each-times : (p : ℕ → Bool) (l : List ℕ) (x : ℕ) → each_of p l ≡ true → 1 ≤ times x l → p x ≡ true
unfolding each_of times
each-times p [] x h k = absurd (omega arith)
each-times p (y ∷ l) x h k = go (ℕ_discrete y x) (λ j. each-times p l x (and-true (p y) (each_of p l) h).1 j)
  where
    go : Dec (y ≡ x) → (1 ≤ times x l → p x ≡ true) → p x ≡ true
    go (yes e) ih = subst (λ (z : ℕ). p z ≡ true) e (and-true (p y) (each_of p l) h).0
    go (no n) ih = ih (omega (arith, times-other x y l n))
