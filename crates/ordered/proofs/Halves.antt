-- A row looked for by halves among rows that ascend. Assumes nothing.
use Rattle.std.specs.Prelude.{Option, Some, None}
use Rattle.std.specs.Bool.{then_some}
use Rattle.laws.specs.Found.{or_else}
use Prim.Native.Nat.{ℕ, ◌+◌, ◌-◌, ◌*◌, ◌<◌, ◌≤◌}
use native.Mathlib.Omega.{arith}
use mathlib.Core.Path.{◌≡◌, refl, sym, ◌∙◌}
use mathlib.Core.Bool.{Bool, true, false}
use mathlib.Core.List.{List}
use mathlib.Core.Logic.{⊎_elim}
use lib.ListN.{length, get_or, replicate, length-replicate, get_or-replicate}
use lib.Dec.{eqb, ltb}
use borrow.Author.Tests.{eq-eqb, ne_eqb, eqb-true, eqb-false, ltb-true, ltb-false}
use Rattle.rules.specs.Base.{pick}
use Rattle.rules.specs.Machine.{live_count}
use Rattle.laws.proofs.Search.{lt-or_le, lowest-is}
use Rattle.machine.specs.RowOf.{row_of}
use Rattle.ordered.specs.Ordered.{Ordered}
use Rattle.ordered.specs.Search.{Identifiers, Around}
use Rattle.ordered.proofs.Rising.{lower}

-- ---- the identifiers side by side: the first n are there
pub record Laid (w : List ℕ) (n : ℕ) (ids : List ℕ) : Type 0 where
  pub size : length ids ≡ 64
  pub rows : (i : ℕ) → i < n → get_or ids i 0 ≡ get_or w (290 + 3 * i) 0
  pub past : (i : ℕ) → n ≤ i → i < 64 → get_or ids i 0 ≡ 4294967295

module _ (w : List ℕ) where
  pub laid_none : Laid w 0 (replicate 64 4294967295)
  laid_none =
      record {
        size = length-replicate {A = ℕ} 64 4294967295;
        rows = λ i h. absurd (omega arith);
        past = λ i h k. get_or-replicate {A = ℕ} 64 i 4294967295 0 k;
      }

pub step-le : (b : Bool) (s half : ℕ) → s ≡ pick b half 0 → s ≤ half
unfolding pick
step-le true s half e = omega arith
step-le false s half e = omega arith

-- ---- the window: the rows before low are below p, those from low + width on are above
pub record Window (w : List ℕ) (p low width : ℕ) : Type 0 where
  pub below : (i : ℕ) → i < low → i < live_count w → get_or w (290 + 3 * i) 0 < p
  pub above : (i : ℕ) → low + width ≤ i → i < live_count w → p < get_or w (290 + 3 * i) 0

pub window_all : (w : List ℕ) (p : ℕ) → Ordered w → Window w p 0 64
window_all w p o = let l = o.live in record { below = λ i h k. absurd (omega arith); above = λ i h k. absurd (omega arith) }

pub window_one : (w : List ℕ) (p low width : ℕ) → width ≤ 1 → Window w p low width → Around w p low
window_one w p low width h v = record { below = v.below; above = λ i k l. v.above i (omega arith) l }

module _ (w ids : List ℕ) (o : Ordered w) (t : Identifiers w ids) (p low width half s : ℕ) (small : p < 4294967296) where
  not_higher : (i j : ℕ) → i ≤ j → j < live_count w → get_or w (290 + 3 * i) 0 ≤ get_or w (290 + 3 * j) 0
  not_higher i j h l =
      ⊎_elim (λ (k : i < j). omega (arith, lower w o.ascends i j k l))
      (λ (k : j ≤ i). let e : i ≡ j = omega arith in rw e (omega arith))
      (lt-or_le i j)

  -- the row in the middle is below p: it is a row, since no number is above the highest
  upper : (j : ℕ) → j < 64 → get_or ids j 0 < p → (i : ℕ) → i ≤ j → i < live_count w → get_or w (290 + 3 * i) 0 < p
  upper j f h i k l =
      ⊎_elim (λ (m : j < live_count w). omega (arith, t.rows j m, not_higher i j k m)) (λ (m : live_count w ≤ j). absurd (omega (arith, t.past j m f)))
      (lt-or_le j (live_count w))

  -- half of the window is left
  pub window_half : 1 ≤ half → half ≤ width - half → low + width ≤ 64 → s ≡ pick (ltb (get_or ids (low + half - 1) 0) p) half 0
      → Window w p low width → Window w p (low + s) (width - half)
  unfolding pick
  window_half a b f e v = go (ltb (get_or ids (low + half - 1) 0) p) refl
    where
      go : (x : Bool) → ltb (get_or ids (low + half - 1) 0) p ≡ x → Window w p (low + s) (width - half)
      go true q =
          let z : s ≡ half = rw q at e in
          record {
            below = λ i k l. upper (low + half - 1) (omega arith) (ltb-true _ _ q) i (omega arith) l;
            above = λ i k l. v.above i (omega arith) l;
          }
      go false q =
          let z : s ≡ 0 = rw q at e in
          let g : p ≤ get_or ids (low + half - 1) 0 = ltb-false _ _ q in
          record {
            below = λ i k l. v.below i (omega arith) l;
            above = λ i k l. omega (arith, t.rows (low + half - 1) (omega arith), lower w o.ascends (low + half - 1) i (omega arith) l);
          }

-- ---- the row is found, or there is none
module _ (w ids : List ℕ) (o : Ordered w) (t : Identifiers w ids) (p r : ℕ) (a : Around w p r) where
  other : (i : ℕ) → i < live_count w → (i ≡ r → ⊥) → eqb (get_or w (290 + 3 * i) 0) p ≡ false
  other i l f =
      ne_eqb (get_or w (290 + 3 * i) 0) p
      (λ e. ⊎_elim (λ (k : i < r). omega (arith, a.below i k l)) (λ (k : r ≤ i). omega (arith, a.above i (omega arith) l)) (lt-or_le i r))

  pub found : r < live_count w → get_or ids r 0 ≡ p → r ≡ row_of w p
  unfolding row_of
  found l e =
      lowest-is (λ i. eqb (get_or w (290 + 3 * i) 0) p) (live_count w) r (omega arith) (λ i k. other i (omega arith) (λ q. omega arith))
      (λ k. eq-eqb (get_or w (290 + 3 * r) 0) p (sym (t.rows r l) ∙ e))

  pub lost : (r < live_count w → get_or ids r 0 ≡ p → ⊥) → live_count w ≡ row_of w p
  unfolding row_of
  lost f = lowest-is (λ i. eqb (get_or w (290 + 3 * i) 0) p) (live_count w) (live_count w) (omega arith) none (λ k. absurd (omega arith))
    where
      none : (i : ℕ) → i < live_count w → eqb (get_or w (290 + 3 * i) 0) p ≡ false
      none i l = go (eqb i r) refl
        where
          go : (b : Bool) → eqb i r ≡ b → eqb (get_or w (290 + 3 * i) 0) p ≡ false
          go true q = let e : i ≡ r = eqb-true i r q in ne_eqb (get_or w (290 + 3 * i) 0) p (λ s. f (omega arith) (t.rows r (omega arith) ∙ rw (← e) s))
          go false q = other i l (eqb-false i r q)

  pub found-if : (q : Option ℕ) → r < live_count w → q ≡ then_some (eqb (get_or ids r 0) p) r → or_else q (live_count w) ≡ row_of w p
  found-if q l e = go (eqb (get_or ids r 0) p) refl
    where
      go : (b : Bool) → eqb (get_or ids r 0) p ≡ b → or_else q (live_count w) ≡ row_of w p
      go true h =
          let k : q ≡ Some r = rw h at e in
          rw k (found l (eqb-true _ _ h))
      go false h =
          let k : q ≡ None = rw h at e in
          rw k (lost (λ n x. eqb-false _ _ h x))
