-- The first i identifiers are laid side by side.
use Rattle.ordered.proofs.Halves.{Laid}
use Rattle.ordered.proofs.find.identifiers.Given as goal

abbrev pub invariant-loop-i : goal.invariant-loop-i
invariant-loop-i l = Laid l.m l.i l.ids
