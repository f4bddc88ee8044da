-- The children of each live process, counted row by row. Assumes nothing.
use Prim.Native.Nat.{ℕ, zero, suc, ◌+◌, ◌*◌, ◌/◌, ◌<◌, ◌≤◌}
use native.Mathlib.Nat.{not-suc-le-zero, le_of_suc-le-suc, add-zero}
use native.Mathlib.Numerals.{add-one}
use native.Mathlib.Omega.{arith}
use mathlib.Core.Path.{◌≡◌, refl, sym, ap, ◌∙◌}
use mathlib.Core.Bool.{Bool, true, false}
use mathlib.Core.List.{List, [], ◌∷◌}
use lib.ListN.{length, take, get_or, set, replicate, length-set, length-take, length-replicate, get_or-replicate}
use lib.Seq.{get_or-set_same, get_or-set_other, take_all}
use lib.Dec.{eqb}
use borrow.Author.Tests.{eq-eqb, ne_eqb, eqb-true, eqb-false}
use Rattle.rules.specs.Base.{pick, those}
use Rattle.rules.specs.Machine as Machine
use Rattle.rules.specs.Machine.{Process, is_child_of, children, live_count, view}
use Rattle.rules.specs.Fits.{called_at}
use Rattle.rules.specs.declared.Block.{Block}
use Rattle.laws.proofs.View.{row_at, no_row, row-at, length-rows}
use Rattle.machine.specs.RowOf.{row_of}
use Rattle.ordered.specs.Ordered.{Ordered}
use Rattle.fits.specs.Children.{OneMore, Tally, whole_family}
use Rattle.ordered.proofs.Standing.{only_row, no_row_found}

-- ---- one row: it is no child, its parent is not live, or its parent has one child more
module _ (w : List ℕ) (p : ℕ) (t : List ℕ) where
  same : ((i : ℕ) → i < live_count w → is_child_of (get_or w (290 + 3 * i) 0) p ≡ false) → OneMore w p t t
  unfolding pick
  same f = record { size = refl; each = λ i l. rw (f i l) (sym (add-zero (get_or t i 0))) }

  pub more-root : p ≡ 0 → OneMore w p t t
  more-root e = same (λ i l. rw (eq-eqb p 0 e))

  module _ (o : Ordered w) (f : p ≡ 0 → ⊥) (r : ℕ) (e : r ≡ row_of w (p / 16)) where
    pub more-lost : live_count w ≤ r → OneMore w p t t
    more-lost l = same (λ i k. rw (ne_eqb p 0 f, no_row_found w o (p / 16) r e l i k))

    pub more-found : length t ≡ 64 → r < live_count w → OneMore w p t (set t r (get_or t r 0 + 1))
    unfolding pick
    more-found s l =
        let v = o.live in
        record {
          size = length-set t r (get_or t r 0 + 1);
          each = λ i k. rw (ne_eqb p 0 f, only_row w o (p / 16) r e l i k) (go i (eqb i r) refl (omega arith));
        }
      where
        go : (i : ℕ) (b : Bool) → eqb i r ≡ b → r < length t → get_or (set t r (get_or t r 0 + 1)) i 0 ≡ get_or t i 0 + pick (eqb i r) 1 0
        go i true q h = rw (q, eqb-true i r q) (get_or-set_same t r (get_or t r 0 + 1) 0 h)
        go i false q h = rw q (get_or-set_other t r i (get_or t r 0 + 1) 0 (eqb-false i r q) ∙ sym (add-zero (get_or t i 0)))

-- ---- all rows
module _ {A : Type 0} (p : A → Bool) where
  those-more : (l : List A) (i : ℕ) (d : A) → i < length l → length (those p (take (i + 1) l)) ≡ length (those p (take i l)) + pick (p (get_or l i d)) 1 0
  unfolding those pick
  those-more l i d h = rw add-one (go l i h)
    where
      one : (a : A) (b : Bool) → length (pick b (a ∷ []) []) ≡ 0 + pick b 1 0
      one a true = refl
      one a false = refl

      more : (a : A) (b : Bool) (x y : List A) (m : ℕ) → length x ≡ length y + m → length (pick b (a ∷ x) x) ≡ length (pick b (a ∷ y) y) + m
      more a true x y m e = let q : suc (length x) ≡ suc (length y) + m = omega arith in q
      more a false x y m e = e

      go : (l : List A) (i : ℕ) → i < length l → length (those p (take (suc i) l)) ≡ length (those p (take i l)) + pick (p (get_or l i d)) 1 0
      go [] i h = absurd (not-suc-le-zero h)
      go (a ∷ l) zero h = one a (p a)
      go (a ∷ l) (suc i) h = more a (p a) (those p (take (suc i) l)) (those p (take i l)) (pick (p (get_or l i d)) 1 0) (go l i (le_of_suc-le-suc h))

  those-few : (l : List A) → length (those p l) ≤ length l
  unfolding those pick
  those-few [] = omega arith
  those-few (a ∷ l) = go (p a) (those-few l)
    where
      go : (b : Bool) → length (those p l) ≤ length l → length (pick b (a ∷ those p l) (those p l)) ≤ suc (length l)
      go true h = omega arith
      go false h = omega arith

-- the first i rows are counted
pub record Tallied (w : List ℕ) (i : ℕ) (t : List ℕ) : Type 0 where
  pub size : length t ≡ 64
  pub each : (j : ℕ) → j < live_count w → get_or t j 0 ≡ length (children (take i (view w).rows) (get_or w (290 + 3 * j) 0))

module _ (w : List ℕ) (o : Ordered w) where
  pub tallied-none : Tallied w 0 (replicate 64 0)
  unfolding children those
  tallied-none = let h = o.live in record { size = length-replicate {A = ℕ} 64 0; each = λ j l. get_or-replicate {A = ℕ} 64 j 0 0 (omega arith) }

  pub tallied-room : (i : ℕ) (t : List ℕ) → i ≤ 64 → Tallied w i t → (j : ℕ) → j < live_count w → get_or t j 0 ≤ 64
  unfolding children
  tallied-room i t h k j l =
      let a = those-few (λ r. is_child_of (get_or w (290 + 3 * j) 0) r.identifier) (take i (view w).rows) in
      omega (arith, length-take i (view w).rows, k.each j l)

  pub tallied-more : (i : ℕ) (t u : List ℕ) → i < live_count w → Tallied w i t → OneMore w (get_or w (290 + 3 * i) 0) t u → Tallied w (i + 1) u
  unfolding children
  tallied-more i t u l k m =
      let s = length-rows w in
      record {
        size = m.size ∙ k.size;
        each =
            λ j h.
            m.each j h
            ∙ ap (λ (x : ℕ). x + pick (is_child_of (get_or w (290 + 3 * j) 0) (get_or w (290 + 3 * i) 0)) 1 0) (k.each j h)
            ∙ sym
            (those-more (λ r. is_child_of (get_or w (290 + 3 * j) 0) r.identifier) (view w).rows i no_row (omega arith)
            ∙ ap
            (λ (r : Process). length (those (λ x. is_child_of (get_or w (290 + 3 * j) 0) x.identifier) (take i (view w).rows))
            + pick (is_child_of (get_or w (290 + 3 * j) 0) r.identifier) 1 0)
            (row-at w i l));
      }

  pub tallied-all : (i : ℕ) (t : List ℕ) → i ≡ live_count w → Tallied w i t → Tally w t
  tallied-all i t e k j l =
      let s = length-rows w in
      k.each j l ∙ ap (λ (x : List Process). length (children x (get_or w (290 + 3 * j) 0))) (take_all i (view w).rows (omega arith))

-- ---- the test of one row
module _ (program : List Block) (w : List ℕ) (i children : ℕ) (e : children ≡ length (Machine.children (view w).rows (get_or w (290 + 3 * i) 0))) where
  pub whole-none : children ≡ 0 → eqb children 0 ≡ whole_family program (view w).rows (row_at w i)
  unfolding whole_family
  whole-none z = rw (← e, eq-eqb children 0 z) refl

  pub whole-some : (called : ℕ) → called ≡ length (called_at program (row_at w i).stands) → (children ≡ 0 → ⊥)
      → eqb children called ≡ whole_family program (view w).rows (row_at w i)
  unfolding whole_family
  whole-some called f n = rw (← e, ne_eqb children 0 n, f) refl
