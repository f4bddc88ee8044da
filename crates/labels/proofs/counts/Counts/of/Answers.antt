-- No block is counted at first, and then one block more.
use Rattle.std.proofs.Common.{arith}
use Rattle.std.proofs.lemmas.List.{take_more}
use Rattle.short.proofs.Programs.{blank}
use Rattle.labels.proofs.Counting.{counted-none}
use Rattle.labels.proofs.counts.Counts.of.Goals as goal

pub loop-block-init : goal.loop-block-init
loop-block-init c = record { entries = counted-none _; exits = counted-none _; begins = counted-none _; ends = counted-none _ }

pub loop-block-preserved : goal.loop-block-preserved
loop-block-preserved c =
    let p = c.loop-block in
    rw (take_more c.args.blocks.now p.block-index blank (omega arith)) (c.add.ensures _ p.invariant)
