-- The four tables count the blocks that are passed.
use Rattle.std.proofs.Common.{take}
use Rattle.labels.specs.Counts.{CountsOf}
use Rattle.labels.proofs.counts.Counts.of.Given as goal

abbrev pub invariant-loop-block : goal.invariant-loop-block
invariant-loop-block l = CountsOf (take l.block-index l.blocks) l.counts
