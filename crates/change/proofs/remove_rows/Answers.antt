-- The rows after them are moved down, and the words left at the end are cleared.
use Rattle.std.proofs.Common.{arith}
use Rattle.change.proofs.Calls.{removed-code}
use Rattle.change.proofs.remove_rows.Goals as goal

pub returns : goal.returns
returns c =
    let v = c.copy_within.ensures in
    removed-code c.args.m.now c.copy_within.new.self c.fill.new.self c.args.i c.args.n (omega arith) (omega arith) v.len v.after
    (c.fill.ensures.after (λ y e. e))
