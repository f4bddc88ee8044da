-- No child, or as many as are called.
use Rattle.std.proofs.Common.{sym, ap, ◌∙◌, length}
use Rattle.fits.proofs.Tallying.{whole-none, whole-some}
use Rattle.fits.proofs.children.whole.Goals as goal

pub returns-then-tally-i-eq0 : goal.returns-then-tally-i-eq0
returns-then-tally-i-eq0 c = λ program x t. whole-none program c.args.m.now c.args.i _ (c.requires.2 c.args.i c.requires.3) c.if-tally-i-eq0.true

pub returns-else-tally-i-eq0 : goal.returns-else-tally-i-eq0
returns-else-tally-i-eq0 c = λ program x t.
    whole-some program c.args.m.now c.args.i _ (c.from.ensures ∙ c.requires.2 c.args.i c.requires.3) _
    (ap length (c.called_at-called.ensures program x t)) (λ e. c.if-tally-i-eq0.false (sym c.from.ensures ∙ e))
