-- The rows before this one are there, the others are zero.
use Rattle.accepted.proofs.Rows.{Filled}
use Rattle.accepted.proofs.readiness.rows_of.Given as goal

abbrev pub invariant-loop-row : goal.invariant-loop-row
invariant-loop-row l = Filled l.blocks l.m l.row l.rows
