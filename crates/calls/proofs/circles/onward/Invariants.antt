-- The rows of the blocks passed are done.
use Rattle.std.proofs.Common.{length}
use Rattle.calls.specs.Grid.{RowsDone, added}
use Rattle.calls.proofs.circles.onward.Given as goal

abbrev pub invariant-loop-row : goal.invariant-loop-row
invariant-loop-row l = RowsDone (added l.initial.grid l.m) l.initial.grid (length l.initial.grid) l.row-index l.grid
