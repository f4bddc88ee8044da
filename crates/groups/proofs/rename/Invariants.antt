-- The nodes that are passed are renamed, and the others are as they were.
use Rattle.std.proofs.Common.{◌≡◌, ◌++◌, drop, map, take}
use Rattle.rules.specs.Labels.{renamed}
use Rattle.groups.proofs.rename.Given as goal

abbrev pub invariant-loop-number : goal.invariant-loop-number
invariant-loop-number l = l.nodes ≡ map (renamed l.old l.new) (take l.number-index l.initial.nodes) ++ drop l.number-index l.initial.nodes
