-- One label more is joined.
use Rattle.std.proofs.Common.{refl, arith, ap, ◌∙◌, length}
use Rattle.rules.specs.Labels.{join_labels}
use Rattle.groups.proofs.Grouping.{joins-more, length-joins}
use Rattle.groups.proofs.join.Goals as goal

pub loop-l-init : goal.loop-l-init
unfolding join_labels
loop-l-init c = record { size = c.told-nodes; same = refl }

pub loop-l-preserved : goal.loop-l-preserved
loop-l-preserved c =
    let p = c.loop-l in
    let renamed = rw c.from-label.ensures at c.rename.ensures in
    let e = joins-more c.args.nodes.now c.args.b c.args.labels.now _ _ p.l-index (omega arith) p.invariant.same renamed in
    record { size = ap length e ∙ length-joins _ _ _ ∙ c.told-nodes; same = e }
