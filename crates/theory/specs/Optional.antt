-- Values that may be there, one by one: some of them is, each of those there passes a test. Assumes nothing.
use Rattle.std.specs.Prelude.{◌≡◌, refl, ◌⊎◌, Bool, true, false, ◌&&◌, ◌||◌, ℕ, zero, suc, ◌≤◌, leb}
use Rattle.std.proofs.Common.{sym, ap, ◌∙◌, subst, inl, inr, arith, le→leb}
use Rattle.std.proofs.Math.Option.{Option, none, some}
use Rattle.std.proofs.Math.Decide.{ℕ_discrete}
use Rattle.theory.specs.Tests.{bool_cases, true_false, T_true, and-true, true_and, none-some, or-false}
use Rattle.theory.specs.Local.{slot}

abbrev pub filled : {A : Type 0} → Option A → Bool
filled none = false
filled (some a) = true

abbrev pub passes : {A : Type 0} → (A → Bool) → Option A → Bool
passes P none = true
passes P (some a) = P a

abbrev pub onto : {A B : Type 0} → (A → B) → Option A → Option B
onto f none = none
onto f (some a) = some (f a)

-- some of f 1 .. f n is there; each of f 1 .. f n that is there passes
abbrev pub some_kid : {A : Type 0} → (ℕ → Option A) → ℕ → Bool
some_kid f zero = false
some_kid f (suc n) = filled (f (suc n)) || some_kid f n

abbrev pub each_kid : {A : Type 0} → (A → Bool) → (ℕ → Option A) → ℕ → Bool
each_kid P f zero = true
each_kid P f (suc n) = passes P (f (suc n)) && each_kid P f n

module _ {A : Type 0} where
  pub filled_none : (o : Option A) → filled o ≡ false → o ≡ none
  filled_none none h = refl
  filled_none (some a) h = absurd (true_false refl h)

  pub any_none : (f : ℕ → Option A) (n : ℕ) → some_kid f n ≡ false → (i : ℕ) → 1 ≤ i → i ≤ n → f i ≡ none
  any_none f zero h i lo hi = absurd (omega arith)
  any_none f (suc n) h i lo hi = go (λ k. any_none f n x.1 i lo k) (ℕ_discrete i (suc n))
    where
      x : (filled (f (suc n)) ≡ false) × (some_kid f n ≡ false)
      x = or-false (filled (f (suc n))) (some_kid f n) h

      go : (i ≤ n → f i ≡ none) → Dec (i ≡ suc n) → f i ≡ none
      go ih (yes e) = ap f e ∙ filled_none (f (suc n)) x.0
      go ih (no d) = ih (omega arith)

  pub any_of : (f : ℕ → Option A) (n i : ℕ) (a : A) → 1 ≤ i → i ≤ n → f i ≡ some a → some_kid f n ≡ true
  any_of f n i a lo hi h = go (bool_cases (some_kid f n))
    where
      go : (some_kid f n ≡ true) ⊎ (some_kid f n ≡ false) → some_kid f n ≡ true
      go (inl x) = x
      go (inr x) = absurd (none-some (sym (any_none f n x i lo hi) ∙ h))

  pub none_any : (f : ℕ → Option A) (n : ℕ) → ((i : ℕ) → 1 ≤ i → i ≤ n → f i ≡ none) → some_kid f n ≡ false
  none_any f zero h = refl
  none_any f (suc n) h = rw (h (suc n) (omega arith) (omega arith)) (none_any f n (λ i lo hi. h i lo (omega arith)))

  pub all-at : (P : A → Bool) (f : ℕ → Option A) (n : ℕ) → each_kid P f n ≡ true → (i : ℕ) (a : A) → 1 ≤ i → i ≤ n → f i ≡ some a → P a ≡ true
  all-at P f zero h i a lo hi e = absurd (omega arith)
  all-at P f (suc n) h i a lo hi e = go (λ k. all-at P f n x.1 i a lo k e) (ℕ_discrete i (suc n))
    where
      x : (passes P (f (suc n)) ≡ true) × (each_kid P f n ≡ true)
      x = and-true (passes P (f (suc n))) (each_kid P f n) h

      go : (i ≤ n → P a ≡ true) → Dec (i ≡ suc n) → P a ≡ true
      go ih (yes q) = subst (λ o. passes P o ≡ true) (sym (ap f q) ∙ e) x.0
      go ih (no d) = ih (omega arith)

  passes_of : (P : A → Bool) (o : Option A) → ((a : A) → o ≡ some a → P a ≡ true) → passes P o ≡ true
  passes_of P none h = refl
  passes_of P (some a) h = h a refl

  pub all_of : (P : A → Bool) (f : ℕ → Option A) (n : ℕ) → ((i : ℕ) (a : A) → 1 ≤ i → i ≤ n → f i ≡ some a → P a ≡ true) → each_kid P f n ≡ true
  all_of P f zero h = refl
  all_of P f (suc n) h =
      true_and (passes P (f (suc n))) (each_kid P f n) (passes_of P (f (suc n)) (λ a e. h (suc n) a (omega arith) (omega arith) e))
      (all_of P f n (λ i a lo hi e. h i a lo (omega arith) e))

pub slot_of : (i : ℕ) → 1 ≤ i → i ≤ 8 → slot i ≡ true
slot_of i lo hi = true_and (leb 1 i) (leb i 8) (T_true (leb 1 i) (le→leb 1 i lo)) (T_true (leb i 8) (le→leb i 8 hi))

--
--
--
abbrev pub is_none : {A : Type 0} → Option A → Bool
is_none none = true
is_none (some a) = false
