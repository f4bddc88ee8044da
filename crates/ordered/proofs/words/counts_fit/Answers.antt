-- The two tests are those of the definition.
use borrow.Author.Tests.{le-leb, lt-leb}
use Rattle.rules.specs.Fits.{counts_fit}
use Rattle.ordered.proofs.words.counts_fit.Goals as goal

pub returns-then-m-le-MOST_ROWS : goal.returns-then-m-le-MOST_ROWS
unfolding counts_fit
returns-then-m-le-MOST_ROWS c = simp (le-leb _ _ c.if-m-le-MOST_ROWS.true)

pub returns-else-m-le-MOST_ROWS : goal.returns-else-m-le-MOST_ROWS
unfolding counts_fit
returns-else-m-le-MOST_ROWS c = simp (lt-leb _ _ c.if-m-le-MOST_ROWS.false)
