-- Groups go by the numbers of nodes.
use Rattle.processes.proofs.Owning.{below-is}
use Rattle.processes.proofs.grouped.Groups.of.Goals as goal

pub invariant_of-result : goal.invariant_of-result
invariant_of-result c = record { below = below-is c.args.blocks.now _ c.groups_of.ensures }
