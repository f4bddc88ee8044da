-- Each turn puts the block at one label more; at the end it is put at all.
use Rattle.std.proofs.Common.{arith}
use Rattle.places.proofs.Noting.{noted_none, noted_more, noted_all}
use Rattle.places.proofs.note.Goals as goal

pub loop-label-init : goal.loop-label-init
loop-label-init c = noted_none c.args.labels.now _ _

pub loop-label-preserved : goal.loop-label-preserved
loop-label-preserved c =
    let l = c.loop-label in
    let small = c.type_inv.labels l.label-index in
    noted_more c.args.labels.now _ _ l.label-index _ _ (omega arith) c.from.ensures (omega (arith, l.invariant.size, c.from.ensures)) l.invariant

pub returns : goal.returns
returns c = noted_all _ _ _ _ _ (omega arith) c.loop-label.invariant
