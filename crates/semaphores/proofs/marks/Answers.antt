-- The marks of one block more are made.
use Rattle.std.proofs.Common.{refl, arith, ◌∙◌}
use Rattle.semaphores.proofs.Marking.{semaphore-none, semaphore-more}
use Rattle.semaphores.proofs.marks.Goals as goal

pub loop-block-init : goal.loop-block-init
loop-block-init c = record { long = refl; marked = semaphore-none 256 c.args.blocks.now }

pub loop-block-preserved : goal.loop-block-preserved
loop-block-preserved c =
    let p = c.loop-block in
    record {
      long = c.mark.ensures.size ∙ p.invariant.long;
      marked = semaphore-more c.args.blocks.now p.block-index _ _ (omega arith) p.invariant.marked c.mark.ensures;
    }
