-- The digits of `io`, copied in.
use Rattle.std.proofs.Common.{ap, ◌∙◌, arith}
use Rattle.rules.specs.Session.{decimal}
use Rattle.session.proofs.Texts.{roomy}
use Rattle.session.proofs.Digits.{few-decimal, decimal-is}
use Rattle.session.proofs.line.Line.decimal.Goals as goal

pub put_all-requires : goal.put_all-requires
put_all-requires c =
    let d = c.decimal-k in
    omega (arith, d.ensures.in_bounds.1, few-decimal c.from.result d.result (omega (arith, c.from.ensures)) d.ensures.len)

pub returns : goal.returns
returns c =
    let d = c.decimal-k in
    roomy
    (d.ensures.digits ∙ decimal-is c.from.result d.result (omega (arith, c.from.ensures)) d.ensures.len ∙ ap decimal c.from.ensures)
    (omega (arith, d.ensures.in_bounds.1, few-decimal c.from.result d.result (omega (arith, c.from.ensures)) d.ensures.len))
    c.put_all.ensures
