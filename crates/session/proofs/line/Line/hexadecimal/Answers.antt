-- The digits of `io`, copied in.
use Rattle.std.proofs.Common.{ap, ◌∙◌, arith}
use Rattle.rules.specs.Session.{hexadecimal}
use Rattle.session.proofs.Texts.{roomy}
use Rattle.session.proofs.Digits.{eight-hexadecimal, hexadecimal-is}
use Rattle.session.proofs.line.Line.hexadecimal.Goals as goal

pub put_all-requires : goal.put_all-requires
put_all-requires c =
    let d = c.hex-k in
    omega (arith, d.ensures.in_bounds.1, eight-hexadecimal c.from.result d.result (omega (arith, c.from.ensures)) d.ensures.len)

pub returns : goal.returns
returns c =
    let d = c.hex-k in
    roomy
    (d.ensures.digits ∙ hexadecimal-is c.from.result d.result (omega (arith, c.from.ensures)) d.ensures.len ∙ ap hexadecimal c.from.ensures)
    (omega (arith, d.ensures.in_bounds.1, eight-hexadecimal c.from.result d.result (omega (arith, c.from.ensures)) d.ensures.len))
    c.put_all.ensures
