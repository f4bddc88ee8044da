-- The grid tells what is reached over the blocks passed.
use Rattle.calls.specs.Table.{calling}
use Rattle.calls.specs.Grid.{Reaching}
use Rattle.calls.proofs.circles.closed.Given as goal

abbrev pub invariant-loop-m : goal.invariant-loop-m
invariant-loop-m l = Reaching (calling l.calls) l.calls.count l.m l.grid
