-- One block more is joined, its entry's labels and then its exit's.
use Rattle.std.proofs.Common.{arith, ◌∙◌}
use Rattle.rules.specs.Labels.{groups, groups_from}
use Rattle.groups.proofs.Grouping.{groups-more}
use Rattle.groups.proofs.groups_of.Goals as goal

pub loop-b-init : goal.loop-b-init
unfolding groups groups_from
loop-b-init c = c.alone-nodes.ensures

pub loop-b-preserved : goal.loop-b-preserved
loop-b-preserved c =
    let p = c.loop-b in
    groups-more c.args.blocks.now p.b _ _ _ _ _ (omega arith) p.invariant (c.labels.ensures ∙ c.of_entry.ensures)
    (c.labels-in-loop-b.ensures ∙ c.of_exit.ensures) c.join.ensures c.join-in-loop-b.ensures
