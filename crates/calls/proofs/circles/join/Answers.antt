-- The row of block m is added where the row has block m.
use Rattle.std.proofs.Common.{ap, ◌∙◌}
use Rattle.rules.specs.Value.{flag}
use Rattle.calls.proofs.Grid.{joined_on}
use Rattle.calls.proofs.circles.join.Goals as goal

pub returns-then-has : goal.returns-then-has
returns-then-has c = joined_on _ _ _ (c.has.ensures ∙ ap flag c.if-has.true)
