-- The rows from there on are moved up, and the new ones are copied into the gap.
use Rattle.std.proofs.Common.{arith}
use Rattle.change.proofs.Calls.{inserted-code}
use Rattle.change.proofs.insert_rows.Goals as goal

pub returns : goal.returns
returns c =
    inserted-code c.args.m.now c.copy_within.new.self c.copy_from_slice.new.self c.args.new.now c.args.i c.args.n (omega arith) (omega arith)
    (omega arith) c.copy_within.ensures.after c.copy_from_slice.ensures.after
