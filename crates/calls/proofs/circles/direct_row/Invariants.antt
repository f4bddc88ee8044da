-- The row has the blocks of the labels passed.
use Rattle.rules.specs.Calls.{calls_at}
use Rattle.calls.specs.Table.{calling}
use Rattle.calls.specs.Grid.{Word}
use Rattle.calls.proofs.Labels.{named_by}
use Rattle.calls.proofs.circles.direct_row.Given as goal

abbrev pub invariant-loop-label : goal.invariant-loop-label
invariant-loop-label l = Word (named_by l.calls.homes (calls_at (calling l.calls) l.b) l.label-index) 0 l.calls.count l.row
