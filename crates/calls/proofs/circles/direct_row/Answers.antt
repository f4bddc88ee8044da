-- The row takes in the blocks of one label more; rules look through the same labels.
use Rattle.std.proofs.Common.{arith}
use Rattle.rules.specs.Calls.{calls_at}
use Rattle.calls.specs.Table.{calling}
use Rattle.calls.proofs.Labels.{row-none, row-more, row-all}
use Rattle.calls.proofs.circles.direct_row.Goals as goal

pub loop-label-init : goal.loop-label-init
loop-label-init c = row-none c.args.calls.now.homes (calls_at (calling c.args.calls.now) c.args.b) _

pub loop-label-preserved : goal.loop-label-preserved
loop-label-preserved c =
    let l = c.loop-label in
    let e = c.called-label-items.ensures in
    let within = c.loop-label-test.true in
    row-more _ _ _ _ l.label-index _ _ c.requires.members (rw e at c.from.ensures) (omega (arith, c.from.ensures, c.type_inv.label-items l.label-index))
    (rw e at within) l.invariant

pub returns : goal.returns
returns c =
    let past = c.loop-label-test.false in
    row-all _ _ _ _ _ c.loop-label.label-index _ (rw c.called-label-items.ensures at past) c.loop-label.invariant
