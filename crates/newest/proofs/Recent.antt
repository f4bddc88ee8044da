-- The newest entry of each live process, noted entry by entry. Assumes nothing.
use Prim.Native.Nat.{ℕ, zero, suc, ◌+◌, ◌*◌, ◌<◌, ◌≤◌}
use native.Mathlib.Nat.{not-suc-le-zero, le_of_suc-le-suc}
use native.Mathlib.Numerals.{add-one}
use native.Mathlib.Omega.{arith}
use mathlib.Core.Path.{◌≡◌, refl, sym, ap, ◌∙◌}
use mathlib.Core.Bool.{Bool, true, false}
use mathlib.Core.List.{List, [], ◌∷◌}
use mathlib.Core.Option as Math
use Rattle.std.proofs.Common.{Option, Some, None}
use Rattle.laws.specs.Found.{given}
use lib.ListN.{length, take, get_or, set, replicate, length-set, length-replicate, get_or-replicate}
use lib.Seq.{get_or-set_same, get_or-set_other, take_all}
use lib.Dec.{eqb}
use borrow.Author.Tests.{eqb-true, eqb-false}
use Rattle.rules.specs.Base.{pick}
use Rattle.rules.specs.Machine.{Kept, live_count, history_count, view}
use Rattle.rules.specs.Fits.{newest, or_else}
use Rattle.laws.proofs.View.{kept_at, no_entry, kept-at, length-history}
use Rattle.machine.specs.RowOf.{row_of}
use Rattle.ordered.specs.Ordered.{Ordered}
use Rattle.newest.specs.Newest.{Noted, NewestOf}
use Rattle.ordered.proofs.Standing.{only_row, no_row_found}

-- ---- one entry: its process is not live, or it is the newest there
module _ (w : List ℕ) (o : Ordered w) (p block r : ℕ) (t : List (Option ℕ)) (e : r ≡ row_of w p) where
  pub noted_lost : live_count w ≤ r → Noted w p block t t
  unfolding pick
  noted_lost l = record { size = refl; each = λ i k. rw (no_row_found w o p r e l i k) refl }

  pub noted_found : length t ≡ 64 → r < live_count w → Noted w p block t (set t r (Some block))
  unfolding pick
  noted_found s l =
      let v = o.live in
      record { size = length-set t r (Some block); each = λ i k. rw (only_row w o p r e l i k) (go i (eqb i r) refl (omega arith)) }
    where
      go : (i : ℕ) (b : Bool) → eqb i r ≡ b → r < length t → get_or (set t r (Some block)) i None ≡ pick (eqb i r) (Some block) (get_or t i None)
      go i true q h = rw (q, eqb-true i r q) (get_or-set_same t r (Some block) None h)
      go i false q h = rw q (get_or-set_other t r i (Some block) None (eqb-false i r q))

-- ---- all entries
newest-more : (p : ℕ) (d : Kept) (l : List Kept) (k : ℕ) → k < length l
    → newest (take (suc k) l) p ≡ pick (eqb (get_or l k d).identifier p) (Math.some (get_or l k d).block) (newest (take k l) p)
unfolding newest pick
newest-more p d [] k h = absurd (not-suc-le-zero h)
newest-more p d (a ∷ l) zero h = refl
newest-more p d (a ∷ l) (suc k) h =
    ap (λ (x : Math.Option ℕ). or_else x (pick (eqb a.identifier p) (Math.some a.block) Math.none)) (newest-more p d l k (le_of_suc-le-suc h))
    ∙ go (eqb (get_or l k d).identifier p)
  where
    go : (b : Bool)
        → or_else (pick b (Math.some (get_or l k d).block) (newest (take k l) p)) (pick (eqb a.identifier p) (Math.some a.block) Math.none)
        ≡ pick b (Math.some (get_or l k d).block) (or_else (newest (take k l) p) (pick (eqb a.identifier p) (Math.some a.block) Math.none))
    go true = refl
    go false = refl

given-pick : (b : Bool) (x : ℕ) (o : Option ℕ) → given (pick b (Some x) o) ≡ pick b (Math.some x) (given o)
unfolding pick
given-pick true x o = refl
given-pick false x o = refl

-- the first k entries are noted
pub record Newer (w : List ℕ) (k : ℕ) (t : List (Option ℕ)) : Type 0 where
  pub size : length t ≡ 64
  pub each : (i : ℕ) → i < live_count w → given (get_or t i None) ≡ newest (take k (view w).history) (get_or w (290 + 3 * i) 0)

module _ (w : List ℕ) (o : Ordered w) where
  pub newer_none : Newer w 0 (replicate 64 None)
  unfolding newest
  newer_none =
      let h = o.live in
      record { size = length-replicate {A = Option ℕ} 64 None; each = λ i l. ap given (get_or-replicate {A = Option ℕ} 64 i None None (omega arith)) }

  pub newer_more : (k : ℕ) (t u : List (Option ℕ)) → k < history_count w → Newer w k t
      → Noted w (kept_at w k).identifier (kept_at w k).block t u → Newer w (k + 1) u
  newer_more k t u l n m =
      let s = length-history w in
      record {
        size = m.size ∙ n.size;
        each =
            λ i h.
            let p = get_or w (290 + 3 * i) 0 in
            let same = eqb (kept_at w k).identifier p in
            ap given (m.each i h)
            ∙ given-pick same (kept_at w k).block (get_or t i None)
            ∙ ap (pick same (Math.some (kept_at w k).block)) (n.each i h)
            ∙ sym
            (ap (λ (j : ℕ). newest (take j (view w).history) p) (add-one k)
            ∙ newest-more p no_entry (view w).history k (omega arith)
            ∙ ap (λ (x : Kept). pick (eqb x.identifier p) (Math.some x.block) (newest (take k (view w).history) p)) (kept-at w k l));
      }

  pub newer_all : (k : ℕ) (t : List (Option ℕ)) → k ≡ history_count w → Newer w k t → NewestOf w t
  newer_all k t e n i l =
      let s = length-history w in
      n.each i l ∙ ap (λ (x : List Kept). newest x (get_or w (290 + 3 * i) 0)) (take_all k (view w).history (omega arith))
