-- At first no row is laid.
use Rattle.ordered.proofs.Halves.{laid_none}
use Rattle.ordered.proofs.find.identifiers.Goals as goal

pub loop-i-init : goal.loop-i-init
loop-i-init c = laid_none c.args.m.now
