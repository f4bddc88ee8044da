-- The number taken is that of the test's branch.
use borrow.Author.Tests.{lt-ltb, le-ltb}
use Rattle.rules.specs.Base.{pick}
use Rattle.ordered.proofs.find.half_if_below.Goals as goal

pub returns-then-x-identifier : goal.returns-then-x-identifier
unfolding pick
returns-then-x-identifier c = simp (lt-ltb _ _ c.if-x-identifier.true)

pub returns-else-x-identifier : goal.returns-else-x-identifier
unfolding pick
returns-else-x-identifier c = simp (le-ltb _ _ c.if-x-identifier.false)
