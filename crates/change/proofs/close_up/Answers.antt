-- The entries after it are moved down, and the words left at the end are cleared.
use Rattle.std.proofs.Common.{arith}
use Rattle.change.proofs.Calls.{closed-code}
use Rattle.change.proofs.close_up.Goals as goal

pub returns : goal.returns
returns c =
    let v = c.copy_within.ensures in
    closed-code c.args.m.now c.copy_within.new.self c.fill.new.self c.args.i (omega arith) (omega arith) v.len v.after
    (c.fill.ensures.after (λ y e. e))
