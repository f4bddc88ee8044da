-- Laws of the plain words of Base: choice, tests over a list, the elements that pass. Assumes nothing.
use mathlib.Core.Path.{◌≡◌, refl, sym, ap, ◌∙◌}
use mathlib.Core.Bool.{Bool, true, false, not, ◌&&◌, and-false}
use mathlib.Core.List.{List, [], ◌∷◌, ◌++◌}
use Prim.Native.Nat.{ℕ, zero, suc, ◌<◌}
use native.Mathlib.Nat.{not-suc-le-zero, le_of_suc-le-suc}
use lib.ListN.{length, get_or, get_or-eq_default}
use native.Mathlib.Omega.{arith}
use lib.Dec.{ltb}
use borrow.Author.Tests.{ltb-true, ltb-false}
use mathlib.Core.Logic.{◌⊎◌, inl, inr}
use Rattle.rules.specs.Base.{pick, each_of, those}
use Rattle.theory.specs.Tests.{true_false, bool_cases, and-true, true_and}

module _ {A : Type 0} where
  pub each_append : (p : A → Bool) (l m : List A) → each_of p (l ++ m) ≡ (each_of p l && each_of p m)
  unfolding each_of
  each_append p [] m = refl
  each_append p (a ∷ l) m = ap (λ (b : Bool). p a && b) (each_append p l m) ∙ assoc (p a) (each_of p l) (each_of p m)
    where
      assoc : (a b c : Bool) → (a && (b && c)) ≡ (a && b && c)
      assoc true b c = refl
      assoc false b c = refl

  pub those-append : (p : A → Bool) (l m : List A) → those p (l ++ m) ≡ those p l ++ those p m
  unfolding those pick
  those-append p [] m = refl
  those-append p (a ∷ l) m = go (p a) (those-append p l m)
    where
      go : (b : Bool) → those p (l ++ m) ≡ those p l ++ those p m → pick b (a ∷ those p (l ++ m)) (those p (l ++ m)) ≡ pick b (a ∷ those p l) (those p l) ++ those p m
      go true ih = ap (λ (r : List A). a ∷ r) ih
      go false ih = ih

  -- where every element passes, all stay
  pub those-all : (p : A → Bool) (l : List A) → each_of p l ≡ true → those p l ≡ l
  unfolding those each_of pick
  those-all p [] h = refl
  those-all p (a ∷ l) h =
      let e = and-true (p a) (each_of p l) h in
      rw e.0 (ap (λ (r : List A). a ∷ r) (those-all p l e.1))

  -- where none does, none stays
  pub those-none : (p : A → Bool) (l : List A) → each_of (λ a. not (p a)) l ≡ true → those p l ≡ []
  unfolding those each_of pick
  those-none p [] h = refl
  those-none p (a ∷ l) h =
      let e = and-true (not (p a)) (each_of (λ x. not (p x)) l) h in
      rw (not_not (p a) e.0) (those-none p l e.1)
    where
      not_not : (b : Bool) → not b ≡ true → b ≡ false
      not_not true h = absurd (true_false h refl)
      not_not false h = refl

  -- the default plays no part within a list
  pub get_d_any : (l : List A) (i : ℕ) (d e : A) → i < length l → get_or l i d ≡ get_or l i e
  get_d_any [] i d e h = absurd (not-suc-le-zero h)
  get_d_any (a ∷ l) zero d e h = refl
  get_d_any (a ∷ l) (suc i) d e h = get_d_any l i d e (le_of_suc-le-suc h)

  pub pick_true : (t : Bool) (a b : A) → t ≡ true → pick t a b ≡ a
  unfolding pick
  pick_true t a b h = rw h

  pub pick-false : (t : Bool) (a b : A) → t ≡ false → pick t a b ≡ b
  unfolding pick
  pick-false t a b h = rw h

  pub each-parts : (p : A → Bool) (l m : List A) → each_of p (l ++ m) ≡ true → (each_of p l ≡ true) × (each_of p m ≡ true)
  each-parts p l m h = and-true (each_of p l) (each_of p m) (sym (each_append p l m) ∙ h)

-- a test of each element, by the elements' places
module _ {A : Type 0} (p : A → Bool) (d : A) where
  pub each-true : (l : List A) → ((i : ℕ) → i < length l → p (get_or l i d) ≡ true) → each_of p l ≡ true
  unfolding each_of
  each-true [] h = refl
  each-true (a ∷ l) h = true_and _ _ (h 0 (omega arith)) (each-true l (λ i k. h (suc i) (omega arith)))

  pub each_at : (l : List A) → each_of p l ≡ true → (i : ℕ) → i < length l → p (get_or l i d) ≡ true
  unfolding each_of
  each_at [] h i k = absurd (omega arith)
  each_at (a ∷ l) h zero k = (and-true (p a) (each_of p l) h).0
  each_at (a ∷ l) h (suc i) k = each_at l (and-true (p a) (each_of p l) h).1 i (omega arith)

  pub each-false : (l : List A) (i : ℕ) → i < length l → p (get_or l i d) ≡ false → each_of p l ≡ false
  unfolding each_of
  each-false [] i k h = absurd (omega arith)
  each-false (a ∷ l) zero k h = rw h
  each-false (a ∷ l) (suc i) k h = rw (each-false l i (omega arith) h) (and-false (p a))

-- numbers that are each below a bound, by their place; past the end stands 0
pub each_below : (l : List ℕ) (n : ℕ) → 0 < n → each_of (λ v. ltb v n) l ≡ true → (i : ℕ) → get_or l i 0 < n
each_below l n pos h i = go (bool_cases (ltb i (length l)))
  where
    go : (ltb i (length l) ≡ true) ⊎ (ltb i (length l) ≡ false) → get_or l i 0 < n
    go (inl k) = ltb-true (get_or l i 0) n (each_at (λ v. ltb v n) 0 l h i (ltb-true i (length l) k))
    go (inr k) = let z : get_or l i 0 ≡ 0 = get_or-eq_default l 0 (ltb-false i (length l) k) in omega (arith, z, pos)
