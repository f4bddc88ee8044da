-- The block is the table's; no exit has another stage than run and end.
use Rattle.std.proofs.Common.{arith}
use Rattle.places.proofs.Looking.{no_exit, exit_there}
use Rattle.places.proofs.Places.exit_block.Goals as goal

pub returns-in-1-clause-block : goal.returns-in-1-clause-block
returns-in-1-clause-block c = λ program t. rw c.in-1.is (exit_there program _ _ c.args.label _ c.at.result t.count c.at.ensures.block t.runs)

pub returns-in-2-clause-block : goal.returns-in-2-clause-block
returns-in-2-clause-block c = λ program t. rw c.in-2.is (exit_there program _ _ c.args.label _ c.at-in-2.result t.count c.at-in-2.ensures.block t.ends)

pub returns-in_default-clause-block : goal.returns-in_default-clause-block
returns-in_default-clause-block c = λ program t. no_exit c.args.label c.args.stage (λ e. omega arith) program _ t.count (λ e. omega arith)
