-- The table has the blocks passed, and a word a label.
use Rattle.std.proofs.Common.{◌≡◌, length}
use Rattle.calls.specs.Grid.{Members}
use Rattle.calls.proofs.circles.members.Given as goal

abbrev pub invariant-loop-c : goal.invariant-loop-c
invariant-loop-c l = record { each : Members l.calls.homes l.c l.members; size : length l.members ≡ 256 }
