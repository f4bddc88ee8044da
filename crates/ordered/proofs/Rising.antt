-- Rows that ascend, by their places. Assumes nothing.
use Prim.Native.Nat.{ℕ, zero, suc, ◌+◌, ◌-◌, ◌*◌, ◌<◌, ◌≤◌}
use native.Mathlib.Omega.{arith}
use native.Mathlib.Nat.{not-suc-le-zero, le_of_suc-le-suc}
use mathlib.Core.Path.{◌≡◌, refl, sym, ap, ◌∙◌}
use mathlib.Core.Bool.{Bool, true, false, and-false}
use mathlib.Core.List.{List, [], ◌∷◌}
use lib.ListN.{length, get_or}
use lib.Dec.{ltb}
use Rattle.std.specs.List.{list_all, range_with_len}
use borrow.Author.Tests.{lt-ltb, le-ltb, ltb-true, ltb-false}
use Rattle.rules.specs.Machine.{Process, live_count, view}
use Rattle.rules.specs.Fits.{ascending}
use Rattle.laws.proofs.Tests.{true_and}
use Rattle.laws.proofs.Ascending.{ascending-head, ascending-tail}
use Rattle.laws.proofs.View.{no_row, row-at, length-rows}
use Rattle.laws.proofs.Lists.{each_at}
use Rattle.ordered.proofs.Each.{all-range, one-not}

module _ (d : Process) where
  all-rise : (rows : List Process) → ((i : ℕ) → suc i < length rows → (get_or rows i d).identifier < (get_or rows (suc i) d).identifier) → ascending rows ≡ true
  unfolding ascending
  all-rise [] h = refl
  all-rise (r ∷ []) h = refl
  all-rise (r ∷ s ∷ rows) h =
      true_and _ _ (lt-ltb r.identifier s.identifier (h 0 (omega arith))) (all-rise (s ∷ rows) (λ i k. h (suc i) (omega arith)))

  one-falls : (rows : List Process) (i : ℕ) → suc i < length rows → (get_or rows (suc i) d).identifier ≤ (get_or rows i d).identifier → ascending rows ≡ false
  unfolding ascending
  one-falls [] i k h = absurd (not-suc-le-zero k)
  one-falls (r ∷ []) i k h = absurd (omega arith)
  one-falls (r ∷ s ∷ rows) zero k h = rw (le-ltb r.identifier s.identifier h)
  one-falls (r ∷ s ∷ rows) (suc i) k h = rw (one-falls (s ∷ rows) i (le_of_suc-le-suc k) h) (and-false (ltb r.identifier s.identifier))

  rises : (rows : List Process) → ascending rows ≡ true → (i j : ℕ) → i < j → j < length rows → (get_or rows i d).identifier < (get_or rows j d).identifier
  rises [] h i j l k = absurd (not-suc-le-zero k)
  rises (r ∷ rows) h i zero l k = absurd (not-suc-le-zero l)
  rises (r ∷ rows) h zero (suc j) l k =
      ltb-true _ _ (each_at (λ x. ltb r.identifier x.identifier) d rows (ascending-head r rows h) j (le_of_suc-le-suc k))
  rises (r ∷ rows) h (suc i) (suc j) l k = rises rows (ascending-tail r rows h) i j (le_of_suc-le-suc l) (le_of_suc-le-suc k)

-- the same of the rows that words show
module _ (w : List ℕ) where
  same_id : (i : ℕ) → i < live_count w → (get_or (view w).rows i no_row).identifier ≡ get_or w (290 + 3 * i) 0
  same_id i h = ap (λ (r : Process). r.identifier) (row-at w i h)

  -- row i is above the row before it, as the code reads them
  abbrev pub risen : ℕ → Bool
  risen i = ltb (get_or w (290 + 3 * i - 3) 0) (get_or w (290 + 3 * i) 0)

  risen-is : (j : ℕ) → risen (1 + j) ≡ ltb (get_or w (290 + 3 * j) 0) (get_or w (290 + 3 * suc j) 0)
  risen-is j =
      let e : 290 + 3 * (1 + j) - 3 ≡ 290 + 3 * j = omega arith in
      let f : 290 + 3 * (1 + j) ≡ 290 + 3 * suc j = omega arith in
      rw (e, f) refl

  pub ascends-all : list_all risen (range_with_len 1 (live_count w - 1)) ≡ ascending (view w).rows
  ascends-all = go (list_all risen (range_with_len 1 (live_count w - 1))) refl
    where
      l : length (view w).rows ≡ live_count w
      l = length-rows w

      above : (j : ℕ) → suc j < live_count w → risen (1 + j) ≡ true → get_or w (290 + 3 * j) 0 < get_or w (290 + 3 * suc j) 0
      above j s h = ltb-true _ _ (sym (risen-is j) ∙ h)

      go : (b : Bool) → list_all risen (range_with_len 1 (live_count w - 1)) ≡ b → b ≡ ascending (view w).rows
      go true e =
          sym
          (all-rise no_row (view w).rows
          (λ i s.
          rw (same_id i (omega (arith, l)), same_id (suc i) (omega (arith, l)))
          (above i (omega (arith, l)) (all-range risen 1 (live_count w - 1) e i (omega (arith, l))))))
      go false e =
          let f = one-not risen 1 (live_count w - 1) e in
          sym
          (one-falls no_row (view w).rows f.0 (omega (arith, l, f.1))
          (rw (same_id f.0 (omega (arith, l, f.1)), same_id (suc f.0) (omega (arith, l, f.1))) (ltb-false _ _ (sym (risen-is f.0) ∙ f.2))))

  pub lower : ascending (view w).rows ≡ true → (i j : ℕ) → i < j → j < live_count w → get_or w (290 + 3 * i) 0 < get_or w (290 + 3 * j) 0
  lower h i j k s =
      let l = length-rows w in
      rw (← same_id i (omega arith), ← same_id j (omega arith)) (rises no_row (view w).rows h i j k (omega arith))
