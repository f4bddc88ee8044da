-- Where a process stands, by its row. Assumes nothing.
use Prim.Native.Nat.{ℕ, zero, suc, ◌+◌, ◌*◌, ◌<◌, ◌≤◌}
use native.Mathlib.Nat.{not-suc-le-zero, le_of_suc-le-suc}
use native.Mathlib.Omega.{arith}
use mathlib.Core.Path.{◌≡◌, refl, sym, ap, ◌∙◌}
use mathlib.Core.Bool.{Bool, true, false}
use mathlib.Core.List.{List, [], ◌∷◌}
use mathlib.Core.Option.{none, some}
use mathlib.Core.Logic.{⊎_elim}
use lib.ListN.{length, get_or}
use lib.Dec.{eqb, ltb}
use borrow.Author.Tests.{lt-ltb, le-ltb, eq-eqb, ne_eqb, eqb-true, eqb-false}
use Rattle.rules.specs.Base.{pick, lowest_from, lowest}
use Rattle.rules.specs.Machine.{Process, standing, live_count, view}
use Rattle.rules.specs.Fits.{is_live}
use Rattle.laws.proofs.Search.{lt-or_le, lowest-is, lowest-found}
use Rattle.laws.proofs.View.{row_at, no_row, row-at, length-rows}
use Rattle.machine.specs.RowOf.{row_of}
use Rattle.ordered.specs.Ordered.{Ordered}
use Rattle.ordered.proofs.Rising.{lower}

-- ---- the lowest number that passes
module _ (p : ℕ → Bool) where
  from-fails : (n at k : ℕ) → at ≤ k → k < lowest_from p n at → p k ≡ false
  unfolding lowest_from pick
  from-fails zero at k h l = absurd (omega arith)
  from-fails (suc n) at k h l = go (p at) refl (λ s t. from-fails n (suc at) k s t) l
    where
      go : (b : Bool) → p at ≡ b → (suc at ≤ k → k < lowest_from p n (suc at) → p k ≡ false) → k < pick b at (lowest_from p n (suc at)) → p k ≡ false
      go true e f s = absurd (omega arith)
      go false e f s = ⊎_elim (λ t. f t s) (λ t. let q : k ≡ at = omega arith in rw q e) (lt-or_le at k)

  lowest-fails : (n k : ℕ) → k < lowest p n → p k ≡ false
  unfolding lowest
  lowest-fails n k l = from-fails n 0 k (omega arith) l

-- ---- where a process stands among rows
module _ (p : ℕ) (d : Process) where
  standing-row : (rows : List Process) (r : ℕ) → r < length rows → ((k : ℕ) → k < r → eqb (get_or rows k d).identifier p ≡ false)
      → eqb (get_or rows r d).identifier p ≡ true → standing rows p ≡ some (get_or rows r d).stands
  unfolding standing pick
  standing-row [] r l f e = absurd (not-suc-le-zero l)
  standing-row (a ∷ rows) zero l f e = rw e
  standing-row (a ∷ rows) (suc r) l f e = rw (f 0 (omega arith)) (standing-row rows r (le_of_suc-le-suc l) (λ k s. f (suc k) (omega arith)) e)

  standing-nowhere : (rows : List Process) → ((k : ℕ) → k < length rows → eqb (get_or rows k d).identifier p ≡ false) → standing rows p ≡ none
  unfolding standing pick
  standing-nowhere [] f = refl
  standing-nowhere (a ∷ rows) f = rw (f 0 (omega arith)) (standing-nowhere rows (λ k s. f (suc k) (omega arith)))

module _ (w : List ℕ) (p : ℕ) where
  pub row_is : row_of w p < live_count w → eqb (get_or w (290 + 3 * row_of w p) 0) p ≡ true
  unfolding row_of
  row_is l = lowest-found (λ i. eqb (get_or w (290 + 3 * i) 0) p) (live_count w) l

  pub row-not : (k : ℕ) → k < row_of w p → eqb (get_or w (290 + 3 * k) 0) p ≡ false
  unfolding row_of
  row-not k l = lowest-fails (λ i. eqb (get_or w (290 + 3 * i) 0) p) (live_count w) k l

  identified : (k : ℕ) (b : Bool) → k < live_count w → eqb (get_or w (290 + 3 * k) 0) p ≡ b → eqb (get_or (view w).rows k no_row).identifier p ≡ b
  identified k b l e = ap (λ (r : Process). eqb r.identifier p) (row-at w k l) ∙ e

  pub standing-found : row_of w p < live_count w → standing (view w).rows p ≡ some (row_at w (row_of w p)).stands
  standing-found l =
      let s = length-rows w in
      standing-row p no_row (view w).rows (row_of w p) (omega arith) (λ k t. identified k false (omega arith) (row-not k t))
      (identified (row_of w p) true l (row_is l))
      ∙ ap (λ (r : Process). some r.stands) (row-at w (row_of w p) l)

  pub standing-lost : live_count w ≤ row_of w p → standing (view w).rows p ≡ none
  standing-lost l =
      let s = length-rows w in
      standing-nowhere p no_row (view w).rows (λ k t. identified k false (omega arith) (row-not k (omega arith)))

  pub live-is : ltb (row_of w p) (live_count w) ≡ is_live (standing (view w).rows p)
  live-is =
      ⊎_elim (λ l. lt-ltb _ _ l ∙ sym (ap is_live (standing-found l))) (λ l. le-ltb _ _ l ∙ sym (ap is_live (standing-lost l)))
      (lt-or_le (row_of w p) (live_count w))

-- among rows that ascend a process has no other row
module _ (w : List ℕ) (o : Ordered w) (p r : ℕ) (e : r ≡ row_of w p) where
  pub only_row : r < live_count w → (i : ℕ) → i < live_count w → eqb p (get_or w (290 + 3 * i) 0) ≡ eqb i r
  only_row l i k = go (eqb i r) refl
    where
      mine : get_or w (290 + 3 * r) 0 ≡ p
      mine = eqb-true _ _ (rw (← e) at (row_is w p (rw e at l)))

      go : (b : Bool) → eqb i r ≡ b → eqb p (get_or w (290 + 3 * i) 0) ≡ b
      go true q = eq-eqb p (get_or w (290 + 3 * i) 0) (sym (rw (eqb-true i r q) mine))
      go false q =
          ⊎_elim (λ s. let h = lower w o.ascends i r s l in ne_eqb p (get_or w (290 + 3 * i) 0) (λ t. omega (arith, mine)))
          (λ s. let d : r < i = let n = eqb-false i r q in omega arith in let h = lower w o.ascends r i d k in
          ne_eqb p (get_or w (290 + 3 * i) 0) (λ t. omega (arith, mine)))
          (lt-or_le i r)

  pub no_row_found : live_count w ≤ r → (i : ℕ) → i < live_count w → eqb p (get_or w (290 + 3 * i) 0) ≡ false
  no_row_found l i k = ne_eqb p (get_or w (290 + 3 * i) 0) (λ t. eqb-false _ _ (row-not w p i (omega arith)) (sym t))

-- the row of a live process is its own
pub row-mine : (w : List ℕ) → Ordered w → (j : ℕ) → j < live_count w → j ≡ row_of w (get_or w (290 + 3 * j) 0)
unfolding row_of
row-mine w o j l =
    lowest-is (λ i. eqb (get_or w (290 + 3 * i) 0) (get_or w (290 + 3 * j) 0)) (live_count w) j (omega arith)
    (λ k h. let s = lower w o.ascends k j h l in ne_eqb (get_or w (290 + 3 * k) 0) (get_or w (290 + 3 * j) 0) (λ e. omega arith))
    (λ h. eq-eqb (get_or w (290 + 3 * j) 0) (get_or w (290 + 3 * j) 0) refl)
