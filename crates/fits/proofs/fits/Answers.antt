-- The words' order, the rows and the entries, each tested where those before it hold, are code 17.
use Rattle.std.proofs.Common.{◌≡◌, sym, ◌∙◌, true, false}
use Rattle.rules.specs.Machine.{view}
use Rattle.ordered.specs.Ordered.{in_order}
use Rattle.ordered.proofs.Order.{ordered}
use Rattle.fits.specs.Rows.{rows_fit}
use Rattle.fits.proofs.Together.{out_of_order, in_order_fits}
use Rattle.fits.proofs.fits.Goals as goal
use Rattle.fits.proofs.fits.Goals.{then-in_order, else-in_order}

pub rows_fit-requires : goal.rows_fit-requires
rows_fit-requires c = (ordered c.args.m.now c.requires.0 (sym c.if-in_order.ensures), c.requires.1)

pub all_kept-requires : goal.all_kept-requires
all_kept-requires c =
    elim c.if-in_order.branch [
      | then-in_order w ↦ ordered c.args.m.now c.requires.0 (sym w.if-in_order.ensures)
      | else-in_order w ↦ let a = c.if-rows_fit.true in let b = w.value-is in cc
    ]

pub returns-then-rows_fit : goal.returns-then-rows_fit
returns-then-rows_fit c = λ program t.
    let m = c.args.m.now in
    elim c.if-in_order.branch [
      | then-in_order w ↦
          let e : in_order m ≡ true = sym w.if-in_order.ensures in
          let f : rows_fit program (view m) ≡ true = sym (w.rows_fit.ensures program t) ∙ sym w.value-is ∙ c.if-rows_fit.true in
          c.all_kept.ensures program (sym t.calls.count) ∙ sym (in_order_fits program m (ordered m c.requires.0 e) e ∙ rw f)
      | else-in_order w ↦ let a = c.if-rows_fit.true in let b = w.value-is in cc
    ]

pub returns-else-rows_fit : goal.returns-else-rows_fit
returns-else-rows_fit c = λ program t.
    let m = c.args.m.now in
    c.if-rows_fit.false
    ∙ sym
    (elim c.if-in_order.branch [
      | then-in_order w ↦
          let e : in_order m ≡ true = sym w.if-in_order.ensures in
          let f : rows_fit program (view m) ≡ false = sym (w.rows_fit.ensures program t) ∙ sym w.value-is ∙ c.if-rows_fit.false in
          in_order_fits program m (ordered m c.requires.0 e) e ∙ rw f
      | else-in_order w ↦ out_of_order program m (sym w.if-in_order.ensures)
    ])
