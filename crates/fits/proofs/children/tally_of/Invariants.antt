-- The rows before i are counted.
use Rattle.fits.proofs.Tallying.{Tallied}
use Rattle.fits.proofs.children.tally_of.Given as goal

abbrev pub invariant-loop-i : goal.invariant-loop-i
invariant-loop-i l = Tallied l.m l.i l.tally
