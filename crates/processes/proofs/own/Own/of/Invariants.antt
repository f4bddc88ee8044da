-- The tallies are those of the blocks that are passed.
use Rattle.std.proofs.Common.{take}
use Rattle.processes.specs.Own.{OwnOf}
use Rattle.processes.proofs.own.Own.of.Given as goal

abbrev pub invariant-loop-b : goal.invariant-loop-b
invariant-loop-b l = OwnOf l.groups.numbers (take l.b l.blocks) l.own
