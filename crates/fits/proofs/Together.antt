-- What the code tests, taken together, is code 17: where the words are in order, the rows' clauses are `rows_fit`. Assumes nothing.
use Prim.Native.Nat.{ℕ, ◌+◌, ◌*◌, ◌/◌, ◌%◌, ◌<◌}
use mathlib.Core.Path.{◌≡◌, refl, sym, ap, ◌∙◌}
use mathlib.Core.Bool.{Bool, true, false, ◌&&◌, ◌||◌}
use mathlib.Core.List.{List}
use mathlib.Core.Logic.{⊎_elim}
use mathlib.Core.Option.{Option, none, some}
use lib.ListN.{get_or}
use lib.Dec.{eqb}
use native.Mathlib.Omega.{arith}
use borrow.Author.Tests.{lt-ltb, le-ltb}
use Rattle.std.proofs.Common as Found
use Rattle.std.specs.Option.{IfSome, is_some}
use Rattle.laws.specs.Found.{or_else}
use borrow.Author.Tests.{eqb-true, eqb-false}
use Rattle.rules.specs.Base.{each_of}
use Rattle.rules.specs.Machine.{Process, live_count, standing, view}
use Rattle.rules.specs.Fits as Rules
use Rattle.rules.specs.Fits.{counts_fit, unused_zero, ascending, is_live, root_in, root_fits, parent_fits, child_label, stands_in_some}
use Rattle.rules.specs.Fits.{own_fits, children_fit, newest_fits, row_fits, kept_fits, machine_fits}
use Rattle.rules.specs.declared.Block.{Block}
use Rattle.rules.specs.declared.Place.{Place}
use Rattle.laws.proofs.Tests.{and-true, true_and, true_false}
use Rattle.laws.proofs.Search.{lt-or_le}
use Rattle.laws.proofs.View.{row_at}
use Rattle.machine.specs.RowOf.{row_of}
use Rattle.fits.specs.Children.{whole_family}
use Rattle.ordered.specs.Ordered.{in_order, Ordered}
use Rattle.fits.specs.Rows.{rows_fit}
use Rattle.fits.proofs.Families.{children-is}
use Rattle.own.proofs.Owning.{own_root, own-child}
use Rattle.ordered.proofs.Standing.{row_is, standing-found, standing-lost, live-is}
use Rattle.ordered.proofs.Each.{rows_at, rows_true}

-- two tests agree where each passes if the other does
agree : (a b : Bool) → (a ≡ true → b ≡ true) → (b ≡ true → a ≡ true) → a ≡ b
agree true true f g = refl
agree true false f g = sym (f refl)
agree false true f g = g refl
agree false false f g = refl

-- ---- a process is live where it has a row
pub found-live : (w : List ℕ) (p : ℕ) (r : Found.Option ℕ) → or_else r (live_count w) ≡ row_of w p → IfSome r (λ i. i < live_count w)
    → is_some r ≡ is_live (standing (view w).rows p)
found-live w p Found.None e l = sym (le-ltb _ _ (omega arith)) ∙ live-is w p
found-live w p (Found.Some i) e l = sym (lt-ltb _ _ (omega arith)) ∙ live-is w p

-- ---- a process that stands in its own process block has a live parent
own-parent : (program : List Block) (w : List ℕ) (r : Process) → own_fits program (view w).rows r ≡ true → parent_fits (view w).rows r ≡ true
unfolding own_fits parent_fits
own-parent program w r h = go (eqb r.identifier 0) refl
  where
    live : (o : Option Place) (i : ℕ) → stands_in_some program (child_label program o i) r.stands ≡ true → is_live o ≡ true
    live none i t = absurd (true_false t refl)
    live (some q) i t = refl

    go : (b : Bool) → eqb r.identifier 0 ≡ b → (b || is_live (standing (view w).rows (r.identifier / 16))) ≡ true
    go true e = refl
    go false e = live (standing (view w).rows (r.identifier / 16)) (r.identifier % 16) (rw (own-child program w r.identifier (eqb-false r.identifier 0 e)) at h)

-- ---- the root
root_live : (program : List Block) (rows : List Process) → root_fits program rows ≡ true → is_live (standing rows 0) ≡ true
unfolding root_fits
root_live program rows h = go (standing rows 0) h
  where
    go : (o : Option Place) → root_in program o ≡ true → is_live o ≡ true
    go none t = absurd (true_false t refl)
    go (some q) t = refl

root_stands : (program : List Block) (w : List ℕ) → is_live (standing (view w).rows 0) ≡ true
    → each_of (own_fits program (view w).rows) (view w).rows ≡ true → root_fits program (view w).rows ≡ true
unfolding root_fits own_fits
root_stands program w h own =
    ⊎_elim
    (λ l.
    let z : get_or w (290 + 3 * row_of w 0) 0 ≡ 0 = eqb-true _ _ (row_is w 0 l) in
    ap (root_in program) (standing-found w 0 l)
    ∙ ap (λ (o : Option ℕ). stands_in_some program o (row_at w (row_of w 0)).stands) (own_root program w (get_or w (290 + 3 * row_of w 0) 0) z)
    ∙ rows_at w (own_fits program (view w).rows) own (row_of w 0) l)
    (λ l. absurd (true_false h (ap is_live (standing-lost w 0 l))))
    (lt-or_le (row_of w 0) (live_count w))

-- ---- all clauses
module _ (program : List Block) (w : List ℕ) (o : Ordered w) where
  -- what each row keeps to
  record Row (r : Process) : Type 0 where
    parent : parent_fits (view w).rows r ≡ true
    own : own_fits program (view w).rows r ≡ true
    children : children_fit program (view w).rows r ≡ true
    newest : newest_fits program (view w).history r ≡ true

  row-of : (r : Process) → row_fits program (view w) r ≡ true → Row r
  unfolding row_fits
  row-of r h =
      let A = parent_fits (view w).rows r in
      let B = own_fits program (view w).rows r in
      let C = children_fit program (view w).rows r in
      let D = newest_fits program (view w).history r in
      let a = and-true A (B && (C && D)) h in
      let b = and-true B (C && D) a.1 in
      let c = and-true C D b.1 in
      record { parent = a.0; own = b.0; children = c.0; newest = c.1 }

  of_row : (r : Process) → Row r → row_fits program (view w) r ≡ true
  unfolding row_fits
  of_row r f = true_and _ _ f.parent (true_and _ _ f.own (true_and _ _ f.children f.newest))

  clauses : root_fits program (view w).rows ≡ true → each_of (row_fits program (view w)) (view w).rows ≡ true → rows_fit program (view w) ≡ true
  unfolding rows_fit
  clauses root rows =
      let f : (i : ℕ) → i < live_count w → Row (row_at w i) = λ i l. row-of (row_at w i) (rows_at w (row_fits program (view w)) rows i l) in
      let own : each_of (own_fits program (view w).rows) (view w).rows ≡ true = rows_true w (own_fits program (view w).rows) (λ i l. (f i l).own) in
      true_and _ _ (root_live program (view w).rows root)
      (true_and _ _ own
      (true_and _ _ (rows_true w (whole_family program (view w).rows) (λ i l. sym (children-is program w o own i l) ∙ (f i l).children))
      (rows_true w (newest_fits program (view w).history) (λ i l. (f i l).newest))))

  rows-clause : rows_fit program (view w) ≡ true → (root_fits program (view w).rows && each_of (row_fits program (view w)) (view w).rows) ≡ true
  unfolding rows_fit
  rows-clause h =
      let A = is_live (standing (view w).rows 0) in
      let B = each_of (own_fits program (view w).rows) (view w).rows in
      let C = each_of (whole_family program (view w).rows) (view w).rows in
      let D = each_of (newest_fits program (view w).history) (view w).rows in
      let a = and-true A (B && (C && D)) h in
      let b = and-true B (C && D) a.1 in
      let c = and-true C D b.1 in
      true_and _ _ (root_stands program w a.0 b.0)
      (rows_true w (row_fits program (view w))
      (λ i l.
      let own = rows_at w (own_fits program (view w).rows) b.0 i l in
      of_row (row_at w i)
      (record {
        parent = own-parent program w (row_at w i) own;
        own = own;
        children = children-is program w o b.0 i l ∙ rows_at w (whole_family program (view w).rows) c.0 i l;
        newest = rows_at w (newest_fits program (view w).history) c.1 i l;
      }
      )))

  rows_are : (root_fits program (view w).rows && each_of (row_fits program (view w)) (view w).rows) ≡ rows_fit program (view w)
  rows_are =
      agree (root_fits program (view w).rows && each_of (row_fits program (view w)) (view w).rows) (rows_fit program (view w))
      (λ h. let a = and-true (root_fits program (view w).rows) (each_of (row_fits program (view w)) (view w).rows) h in clauses a.0 a.1)
      rows-clause

  pub in_order_fits : in_order w ≡ true → Rules.fits program w ≡ (rows_fit program (view w) && each_of (kept_fits program) (view w).history)
  unfolding Rules.fits in_order machine_fits
  in_order_fits h =
      go (counts_fit w) (unused_zero w) (ascending (view w).rows) (root_fits program (view w).rows) (each_of (row_fits program (view w)) (view w).rows)
      (each_of (kept_fits program) (view w).history) h
      ∙ ap (λ (b : Bool). b && each_of (kept_fits program) (view w).history) rows_are
    where
      go : (a b c d e f : Bool) → (a && (b && c)) ≡ true → (a && (b && (c && (d && (e && f))))) ≡ ((d && e) && f)
      go true true true true e f h = refl
      go true true true false e f h = refl
      go true true false d e f h = absurd (true_false h refl)
      go true false c d e f h = absurd (true_false h refl)
      go false b c d e f h = absurd (true_false h refl)

pub out_of_order : (program : List Block) (w : List ℕ) → in_order w ≡ false → Rules.fits program w ≡ false
unfolding Rules.fits in_order machine_fits
out_of_order program w h =
    go (counts_fit w) (unused_zero w) (ascending (view w).rows)
    (root_fits program (view w).rows && (each_of (row_fits program (view w)) (view w).rows && each_of (kept_fits program) (view w).history)) h
  where
    go : (a b c d : Bool) → (a && (b && c)) ≡ false → (a && (b && (c && d))) ≡ false
    go true true true d h = absurd (true_false refl h)
    go true true false d h = refl
    go true false c d h = refl
    go false b c d h = refl
