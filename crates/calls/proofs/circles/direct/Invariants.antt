-- The rows of the blocks passed are done.
use Rattle.rules.specs.Value.{flag}
use Rattle.rules.specs.Calls.{reaches_over}
use Rattle.calls.specs.Table.{calling}
use Rattle.calls.specs.Grid.{RowsDone}
use Rattle.calls.proofs.circles.direct.Given as goal

abbrev pub invariant-loop-b : goal.invariant-loop-b
invariant-loop-b l = RowsDone (λ x y. flag (reaches_over (calling l.calls) 0 x y)) l.initial.grid l.calls.count l.b l.grid
