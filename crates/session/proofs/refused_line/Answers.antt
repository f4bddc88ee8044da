-- The texts one after another.
use Rattle.rules.specs.Session.{refused_line}
use Rattle.session.proofs.Texts.{then, alone}
use Rattle.session.proofs.refused_line.Goals as goal

pub returns : goal.returns
unfolding refused_line
returns c = alone c.empty-line.ensures.0 (then (then (then c.put.ensures c.field.ensures) c.field-2.ensures) c.put-2.ensures)
