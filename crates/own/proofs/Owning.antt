-- A process's own process block, by its row and its parent's. Assumes nothing.
use Prim.Native.Nat.{ℕ, ◌/◌, ◌%◌, ◌<◌, ◌≤◌}
use mathlib.Core.Path.{◌≡◌, sym, ap, ◌∙◌}
use mathlib.Core.List.{List}
use mathlib.Core.Option.{Option, none, some}
use borrow.Author.Tests.{eq-eqb, ne_eqb}
use Rattle.rules.specs.Base.{pick}
use Rattle.rules.specs.Machine.{live_count, view, standing}
use Rattle.rules.specs.Fits.{called_at, nth, child_label, own_label}
use Rattle.rules.specs.declared.Block.{Block}
use Rattle.rules.specs.declared.Place.{Place}
use Rattle.laws.proofs.View.{row_at}
use Rattle.machine.specs.RowOf.{row_of}
use Rattle.ordered.proofs.Standing.{standing-found, standing-lost}

module _ (program : List Block) (w : List ℕ) (p : ℕ) where
  pub own_root : p ≡ 0 → some 0 ≡ own_label program (view w).rows p
  unfolding own_label pick
  own_root e = rw (eq-eqb p 0 e)

  pub own-child : (p ≡ 0 → ⊥) → own_label program (view w).rows p ≡ child_label program (standing (view w).rows (p / 16)) (p % 16)
  unfolding own_label pick
  own-child f = rw (ne_eqb p 0 f)

  -- the parent's row as it was found
  module _ (f : p ≡ 0 → ⊥) (r : ℕ) (e : r ≡ row_of w (p / 16)) where
    pub own-lost : live_count w ≤ r → none ≡ own_label program (view w).rows p
    own-lost l = sym (own-child f ∙ ap (λ (q : Option Place). child_label program q (p % 16)) (standing-lost w (p / 16) (rw e at l)))

    pub own-called : r < live_count w → nth (called_at program (row_at w r).stands) (p % 16) ≡ own_label program (view w).rows p
    own-called l =
        sym
        (own-child f
        ∙ ap (λ (q : Option Place). child_label program q (p % 16))
        (standing-found w (p / 16) (rw e at l) ∙ ap (λ (i : ℕ). some (row_at w i).stands) (sym e)))
