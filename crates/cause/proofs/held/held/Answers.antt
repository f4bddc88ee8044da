-- A conflict by the masks is one of the steps, and where none was found up to the end there is none.
use Rattle.std.proofs.Common.{arith, sym, ◌∙◌}
use Rattle.cause.proofs.Scan.{none-later, some-later}
use Rattle.cause.proofs.held.held.Goals as goal

pub returns-then-conflict : goal.returns-then-conflict
returns-then-conflict c =
    λ program M S.
    some-later program c.args.masks.now c.args.m.now c.args.i M S c.loop-j.j (omega arith) (omega arith) (sym c.conflict.ensures ∙ c.if-conflict.true)

pub returns : goal.returns
returns c =
    λ program M S.
    none-later program c.args.masks.now c.args.m.now c.args.i M S (λ j lo hi. c.loop-j.invariant j lo (omega arith))
