-- The table has the calls of the blocks that are passed.
use Rattle.called.proofs.Tabling.{Listed}
use Rattle.called.proofs.call_table.Given as goal

abbrev pub invariant-loop-b : goal.invariant-loop-b
invariant-loop-b l = Listed l.blocks l.b l.counts l.names
