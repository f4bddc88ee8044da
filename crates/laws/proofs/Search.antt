-- What a loop that looks for the lowest number has to show. Assumes nothing.
use mathlib.Core.Path.{◌≡◌, refl, sym, subst, ◌∙◌}
use mathlib.Core.Bool.{Bool, true, false}
use mathlib.Core.Logic.{◌⊎◌, inl, inr}
use Prim.Native.Nat.{ℕ, zero, suc, ◌+◌, ◌<◌, ◌≤◌}
use native.Mathlib.Nat.{add-zero, zero-add, not-suc-le-zero}
use native.Mathlib.Omega.{arith}
use lib.Dec.{ltb}
use lib.ListN.{length, get_or}
use mathlib.Core.List.{List, [], ◌∷◌}
use Rattle.std.specs.List.{position, position_or_len}
use Rattle.laws.specs.Found.{found}
use borrow.Author.Tests.{ltb-true, ltb-false}
use Rattle.rules.specs.Base.{pick, lowest_from, lowest}
use Rattle.theory.specs.Tests.{bool_cases, not_true}

pub lt-or_le : (m n : ℕ) → (m < n) ⊎ (n ≤ m)
lt-or_le m n = go (ltb m n) refl
  where
    go : (b : Bool) → ltb m n ≡ b → (m < n) ⊎ (n ≤ m)
    go true e = inl (ltb-true m n e)
    go false e = inr (ltb-false m n e)

module _ (p : ℕ → Bool) where
  lowest-from : (n at d : ℕ) → d ≤ n → ((k : ℕ) → k < d → p (at + k) ≡ false) → (d < n → p (at + d) ≡ true) → lowest_from p n at ≡ at + d
  unfolding lowest_from pick
  lowest-from zero at zero h f t = sym (add-zero at)
  lowest-from zero at (suc d) h f t = absurd (not-suc-le-zero h)
  lowest-from (suc n) at zero h f t = rw (rw add-zero at (t (omega arith))) (sym (add-zero at))
  lowest-from (suc n) at (suc d) h f t =
      rw (rw add-zero at (f 0 (omega arith)))
      (lowest-from n (suc at) d (omega arith) (λ k l. subst (λ (m : ℕ). p m ≡ false) (shift k) (f (suc k) (omega arith)))
      (λ l. subst (λ (m : ℕ). p m ≡ true) (shift d) (t (omega arith)))
      ∙ sym (shift d))
    where
      shift : (k : ℕ) → at + suc k ≡ suc at + k
      shift k = omega arith

  -- p fails at each before r, and holds at r unless r is n
  pub lowest-is : (n r : ℕ) → r ≤ n → ((k : ℕ) → k < r → p k ≡ false) → (r < n → p r ≡ true) → r ≡ lowest p n
  unfolding lowest
  lowest-is n r h f t =
      sym
      (lowest-from n 0 r h (λ k l. subst (λ (m : ℕ). p m ≡ false) (sym (zero-add k)) (f k l))
      (λ l. subst (λ (m : ℕ). p m ≡ true) (sym (zero-add r)) (t l))
      ∙ zero-add r)

  from-none : (n at : ℕ) → at + n ≤ lowest_from p n at → (k : ℕ) → k < n → p (at + k) ≡ false
  unfolding lowest_from pick
  from-none zero at h k lt = absurd (omega arith)
  from-none (suc n) at h k lt = go (bool_cases (p at)) h (λ h' j l. from-none n (suc at) h' j l) k lt
    where
      go :
          (p at ≡ true) ⊎ (p at ≡ false) → at + suc n ≤ lowest_from p (suc n) at →
          ((suc at + n ≤ lowest_from p n (suc at)) → (j : ℕ) → j < n → p (suc at + j) ≡ false) → (k : ℕ) → k < suc n → p (at + k) ≡ false
      go (inl e) h ih k lt = absurd (let z : at + suc n ≤ at = rw e at h in omega arith)
      go (inr e) h ih zero lt = let z : at ≡ at + 0 = omega arith in subst (λ (x : ℕ). p x ≡ false) z e
      go (inr e) h ih (suc k) lt =
          let h' : at + suc n ≤ lowest_from p n (suc at) = rw e at h in
          let z : suc at + k ≡ at + suc k = omega arith in
          subst (λ (x : ℕ). p x ≡ false) z (ih (omega arith) k (omega arith))

  from_found : (n at : ℕ) → lowest_from p n at < at + n → p (lowest_from p n at) ≡ true
  unfolding lowest_from pick
  from_found zero at h = absurd (omega arith)
  from_found (suc n) at h = go (bool_cases (p at)) h (λ h'. from_found n (suc at) h')
    where
      go :
          (p at ≡ true) ⊎ (p at ≡ false) → lowest_from p (suc n) at < at + suc n →
          (lowest_from p n (suc at) < suc at + n → p (lowest_from p n (suc at)) ≡ true) → p (lowest_from p (suc n) at) ≡ true
      go (inl e) h ih = rw e e
      go (inr e) h ih = let h' : lowest_from p n (suc at) < at + suc n = rw e at h in rw e (ih (omega arith))

  -- none below n passes
  pub lowest-none : (n : ℕ) → ltb (lowest p n) n ≡ false → (k : ℕ) → k < n → p k ≡ false
  unfolding lowest
  lowest-none n h k lt =
      let g : n ≤ lowest_from p n 0 = ltb-false (lowest_from p n 0) n h in
      let z : 0 + k ≡ k = omega arith in
      subst (λ (x : ℕ). p x ≡ false) z (from-none n 0 (omega arith) k lt)

  pub lowest-found : (n : ℕ) → lowest p n < n → p (lowest p n) ≡ true
  unfolding lowest
  lowest-found n h = from_found n 0 (omega arith)

  -- one alone passes
  pub lowest-one : (n b : ℕ) → b < n → p b ≡ true → ((c : ℕ) → c < n → p c ≡ true → c ≡ b) → lowest p n ≡ b
  lowest-one n b lt h one =
      sym (lowest-is n b (omega arith) (λ k kb. not_true (p k) (λ e. let z = one k (omega arith) e in omega arith)) (λ _. h))

-- a slice is searched for the first element that passes, a program for the lowest block
module _ {A : Type 0} (q : A → Bool) (d : A) where
  passes-first :
      (p : ℕ → Bool) (l : List A) (at : ℕ) → ((k : ℕ) → k < length l → p (at + k) ≡ q (get_or l k d)) →
      lowest_from p (length l) at ≡ at + position_or_len q l
  unfolding lowest_from pick
  passes-first p [] at h = omega arith
  passes-first p (a ∷ l) at h =
      go (q a) refl
      (passes-first p l (suc at) (λ k lt. let z : at + suc k ≡ suc at + k = omega arith in subst (λ (x : ℕ). p x ≡ q (get_or l k d)) z (h (suc k) (omega arith))))
    where
      here : p at ≡ q a
      here = subst (λ (x : ℕ). p x ≡ q a) (add-zero at) (h 0 (omega arith))

      go : (b : Bool) → q a ≡ b → lowest_from p (length l) (suc at) ≡ suc at + position_or_len q l → lowest_from p (length (a ∷ l)) at ≡ at + position_or_len q (a ∷ l)
      go true e rest = rw (here, e) (sym (add-zero at))
      go false e rest = rw (here, e) (rest ∙ (omega arith))

  pub found-position : (p : ℕ → Bool) (l : List A) → ((k : ℕ) → k < length l → p k ≡ q (get_or l k d)) → position q l ≡ found p (length l)
  unfolding lowest
  found-position p l h =
      let e : lowest_from p (length l) 0 ≡ position_or_len q l =
      passes-first p l 0 (λ k lt. subst (λ (x : ℕ). p x ≡ q (get_or l k d)) (sym (zero-add k)) (h k lt)) ∙ zero-add (position_or_len q l) in
      rw e refl
