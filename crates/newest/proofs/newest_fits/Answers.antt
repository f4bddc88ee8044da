-- At begin by the stage alone, elsewhere by the newest entry's block.
use Rattle.std.proofs.Common.{◌∙◌}
use borrow.Author.Tests.{eq-eqb, ne_eqb}
use Rattle.std.proofs.Math.Path.{ap₂}
use Rattle.rules.specs.Fits.{is_block, newest_fits}
use Rattle.places.proofs.Looking.{unwrapped}
use Rattle.newest.proofs.newest_fits.Goals as goal

pub returns-then-stage-eq-BEGIN : goal.returns-then-stage-eq-BEGIN
unfolding newest_fits
returns-then-stage-eq-BEGIN c = λ program x. rw (eq-eqb _ _ c.if-stage-eq-BEGIN.true)

pub returns-else-stage-eq-BEGIN : goal.returns-else-stage-eq-BEGIN
unfolding newest_fits
returns-else-stage-eq-BEGIN c = λ program x.
    let m = c.args.m.now in
    let i = c.args.i in
    rw (ne_eqb _ _ c.if-stage-eq-BEGIN.false)
    (c.is_newest.ensures
    ∙ ap₂ is_block (c.requires.1 i c.requires.2)
    (c.unwrap_or-block.ensures ∙ unwrapped c.exit_block.result c.args.places.now.count ∙ c.exit_block.ensures.block program x))
