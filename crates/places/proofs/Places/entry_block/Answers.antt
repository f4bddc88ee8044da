-- The block is the table's; no entry has another stage than run and begin.
use Rattle.std.proofs.Common.{arith}
use Rattle.places.proofs.Looking.{no_entry_there, entry_there}
use Rattle.places.proofs.Places.entry_block.Goals as goal

pub returns-in-1-clause-block : goal.returns-in-1-clause-block
returns-in-1-clause-block c = λ program t. rw c.in-1.is (entry_there program _ _ c.args.label _ c.at.result t.count c.at.ensures.block t.runs)

pub returns-in-0-clause-block : goal.returns-in-0-clause-block
returns-in-0-clause-block c = λ program t. rw c.in-0.is (entry_there program _ _ c.args.label _ c.at-in-0.result t.count c.at-in-0.ensures.block t.begins)

pub returns-in_default-clause-block : goal.returns-in_default-clause-block
returns-in_default-clause-block c = λ program t. no_entry_there c.args.label c.args.stage (λ e. omega arith) program _ t.count (λ e. omega arith)
