-- The texts one after another.
use Rattle.rules.specs.Session.{step_line}
use Rattle.session.proofs.Texts.{then, alone}
use Rattle.session.proofs.step_line.Goals as goal

pub returns : goal.returns
unfolding step_line
returns c =
    let who = then (then c.put.ensures c.put-2.ensures) c.hexadecimal.ensures in
    let answer = then who c.field.ensures in
    let counts = then (then answer c.field-2.ensures) c.field-3.ensures in
    rw (← c.letter.ensures) (alone c.empty-line.ensures.0 (then counts c.put-3.ensures))
