-- Kind by kind.
use Rattle.std.proofs.Common.{rules, arith}
use Rattle.session.proofs.Ways.{cut, forward, undo, other}
use Rattle.session.proofs.turn.Goals as goal

pub returns-then-body-ne4 : goal.returns-then-body-ne4
returns-then-body-ne4 c =
    let a = c.args in
    cut a.image.now a.words.now a.kind a.body.now _ _ c.if-body-ne4.true (c.stop.ensures a.words.now)

pub returns-in-1 : goal.returns-in-1
returns-in-1 c =
    let a = c.args in
    forward a.image.now a.words.now a.kind a.body.now _ _ c.if-body-ne4.false c.in-1.is c.ask.ensures

pub returns-in-2 : goal.returns-in-2
returns-in-2 c =
    let a = c.args in
    undo a.image.now a.words.now a.kind a.body.now _ _ c.if-body-ne4.false (λ e. omega (arith, c.in-2.is, e)) c.in-2.is c.ask-in-2.ensures

pub returns-in_default : goal.returns-in_default
returns-in_default c =
    let a = c.args in
    other a.image.now a.words.now a.kind a.body.now _ _ c.if-body-ne4.false (search rules) (search rules) (c.stop-in_default.ensures a.words.now)
