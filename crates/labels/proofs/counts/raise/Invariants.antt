-- The table is raised by the labels that are passed.
use Rattle.std.proofs.Common.{take}
use Rattle.labels.specs.Counts.{Raised}
use Rattle.labels.proofs.counts.raise.Given as goal

abbrev pub invariant-loop-l : goal.invariant-loop-l
invariant-loop-l l = Raised l.initial.counts (take l.l-index l.labels) l.counts
