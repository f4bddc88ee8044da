-- The entries before k are noted.
use Rattle.newest.proofs.Recent.{Newer}
use Rattle.newest.proofs.newest_of.Given as goal

abbrev pub invariant-loop-k : goal.invariant-loop-k
invariant-loop-k l = Newer l.m l.k l.newest
