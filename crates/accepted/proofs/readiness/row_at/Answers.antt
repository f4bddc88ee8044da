-- The row is one of a machine that fits.
use Rattle.step.proofs.Standing.{row-ready}
use Rattle.plans.proofs.Known.{ready_of}
use Rattle.accepted.proofs.readiness.row_at.Goals as goal

pub of_row-requires : goal.of_row-requires
of_row-requires c = row-ready c.args.m.now c.args.row (ready_of c.args.blocks.now c.args.m.now c.requires.0 c.args.row c.requires.2)
