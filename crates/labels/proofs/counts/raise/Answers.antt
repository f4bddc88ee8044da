-- The table is raised by one label more, and no count goes over twice the most.
use Rattle.std.proofs.Common.{◌≤◌, arith, length, take, length-take}
use Rattle.short.specs.Low.{most}
use Rattle.labels.proofs.Counting.{raised-none, raised-more, raised-low}
use Rattle.labels.proofs.counts.raise.Goals as goal

pub loop-l-init : goal.loop-l-init
loop-l-init c = raised-none _ c.args.labels.now

pub overflow_add-counts : goal.overflow_add-counts
overflow_add-counts c =
    let p = c.loop-l in
    let few : length (take p.l-index c.args.labels.now) ≤ most = rw length-take (omega arith) in
    omega (arith, raised-low _ _ _ most most c.from.result c.requires.0 p.invariant few)

pub loop-l-preserved : goal.loop-l-preserved
loop-l-preserved c =
    let p = c.loop-l in
    let labels = c.args.labels.now in
    rw c.from.ensures (raised-more c.args.counts.now labels _ p.l-index (omega arith) (omega (arith, c.type_inv.labels p.l-index)) p.invariant)
