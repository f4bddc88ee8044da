-- A test of each row and of each history entry that words show, by their places. Assumes nothing.
use Prim.Native.Nat.{ℕ, zero, suc, ◌+◌, ◌<◌}
use native.Mathlib.Omega.{arith}
use native.Mathlib.Nat.{not-suc-le-zero, le_of_suc-le-suc, add-zero}
use Rattle.std.specs.List.{list_all, range_with_len}
use Rattle.laws.proofs.Tests.{and-true, never}
use mathlib.Core.Path.{◌≡◌, refl, sym, ap, ◌∙◌}
use mathlib.Core.Bool.{Bool, true, false, ◌&&◌}
use mathlib.Core.List.{List}
use Rattle.rules.specs.Base.{each_of}
use Rattle.rules.specs.Machine.{Process, Kept, live_count, history_count, view}
use Rattle.laws.proofs.Lists.{each-true, each_at, each-false}
use Rattle.laws.proofs.View.{row_at, kept_at, no_row, no_entry, row-at, kept-at, length-rows, length-history}

-- ---- a test of each number of a range
module _ (p : ℕ → Bool) where
  pub all-range : (a n : ℕ) → list_all p (range_with_len a n) ≡ true → (k : ℕ) → k < n → p (a + k) ≡ true
  all-range a zero h k l = absurd (not-suc-le-zero l)
  all-range a (suc n) h zero l = rw (add-zero a) (and-true (p a) _ h).0
  all-range a (suc n) h (suc k) l =
      let e : a + suc k ≡ a + 1 + k = omega arith in
      rw e (all-range (a + 1) n (and-true (p a) _ h).1 k (le_of_suc-le-suc l))

  pub one-not : (a n : ℕ) → list_all p (range_with_len a n) ≡ false → (k : ℕ) × (k < n) × (p (a + k) ≡ false)
  one-not a zero h = never (sym h)
  one-not a (suc n) h = go (p a) refl h (λ e. one-not (a + 1) n e)
    where
      go : (b : Bool) → p a ≡ b → (b && list_all p (range_with_len (a + 1) n)) ≡ false
          → (list_all p (range_with_len (a + 1) n) ≡ false → (k : ℕ) × (k < n) × (p (a + 1 + k) ≡ false)) → (k : ℕ) × (k < suc n) × (p (a + k) ≡ false)
      go false e h f = (0, omega arith, rw (add-zero a) e)
      go true e h f =
          let r = f h in
          let q : a + suc r.0 ≡ a + 1 + r.0 = omega arith in
          (suc r.0, omega (arith, r.1), rw q r.2)

module _ (w : List ℕ) where
  pub rows_true : (p : Process → Bool) → ((i : ℕ) → i < live_count w → p (row_at w i) ≡ true) → each_of p (view w).rows ≡ true
  rows_true p h =
      let l = length-rows w in
      each-true p no_row (view w).rows (λ i k. ap p (row-at w i (omega arith)) ∙ h i (omega arith))

  pub rows_at : (p : Process → Bool) → each_of p (view w).rows ≡ true → (i : ℕ) → i < live_count w → p (row_at w i) ≡ true
  rows_at p h i k =
      let l = length-rows w in
      sym (ap p (row-at w i k)) ∙ each_at p no_row (view w).rows h i (omega arith)

  pub rows-false : (p : Process → Bool) (i : ℕ) → i < live_count w → p (row_at w i) ≡ false → each_of p (view w).rows ≡ false
  rows-false p i k h =
      let l = length-rows w in
      each-false p no_row (view w).rows i (omega arith) (ap p (row-at w i k) ∙ h)

  pub history-true : (p : Kept → Bool) → ((k : ℕ) → k < history_count w → p (kept_at w k) ≡ true) → each_of p (view w).history ≡ true
  history-true p h =
      let l = length-history w in
      each-true p no_entry (view w).history (λ k s. ap p (kept-at w k (omega arith)) ∙ h k (omega arith))

  pub history-false : (p : Kept → Bool) (k : ℕ) → k < history_count w → p (kept_at w k) ≡ false → each_of p (view w).history ≡ false
  history-false p k s h =
      let l = length-history w in
      each-false p no_entry (view w).history k (omega arith) (ap p (kept-at w k s) ∙ h)

  -- a test of each row's number, or of each entry's, that is the test of the row, or of the entry
  pub rows-all : (p : Process → Bool) (test : ℕ → Bool) (n : ℕ) → n ≡ live_count w → ((i : ℕ) → i < live_count w → test i ≡ p (row_at w i))
      → list_all test (range_with_len 0 n) ≡ each_of p (view w).rows
  rows-all p test n e h = go (list_all test (range_with_len 0 n)) refl
    where
      go : (b : Bool) → list_all test (range_with_len 0 n) ≡ b → b ≡ each_of p (view w).rows
      go true q =
          sym (rows_true p (λ i l. sym (h i l) ∙ (let z : 0 + i ≡ i = omega arith in rw z at (all-range test 0 n q i (omega arith)))))
      go false q =
          let f = one-not test 0 n q in
          let z : 0 + f.0 ≡ f.0 = omega arith in
          sym (rows-false p f.0 (omega (arith, f.1)) (sym (h f.0 (omega (arith, f.1))) ∙ (rw z at f.2)))

  pub history-all : (p : Kept → Bool) (test : ℕ → Bool) (n : ℕ) → n ≡ history_count w
      → ((k : ℕ) → k < history_count w → test k ≡ p (kept_at w k)) → list_all test (range_with_len 0 n) ≡ each_of p (view w).history
  history-all p test n e h = go (list_all test (range_with_len 0 n)) refl
    where
      go : (b : Bool) → list_all test (range_with_len 0 n) ≡ b → b ≡ each_of p (view w).history
      go true q =
          sym (history-true p (λ i l. sym (h i l) ∙ (let z : 0 + i ≡ i = omega arith in rw z at (all-range test 0 n q i (omega arith)))))
      go false q =
          let f = one-not test 0 n q in
          let z : 0 + f.0 ≡ f.0 = omega arith in
          sym (history-false p f.0 (omega (arith, f.1)) (sym (h f.0 (omega (arith, f.1))) ∙ (rw z at f.2)))
