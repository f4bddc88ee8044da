-- The groups are those of the blocks that are passed.
use Rattle.std.proofs.Common.{◌≡◌, take}
use Rattle.rules.specs.Labels.{groups}
use Rattle.groups.proofs.groups_of.Given as goal

abbrev pub invariant-loop-b : goal.invariant-loop-b
invariant-loop-b l = l.nodes ≡ groups (take l.b l.blocks)
