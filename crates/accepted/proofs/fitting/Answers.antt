-- The two tests, in their order.
use Rattle.std.proofs.Common.{sym}
use Rattle.accepted.proofs.Unfit.{is-16, is-17}
use Rattle.accepted.proofs.fitting.Goals as goal

pub returns-then-m-ne-WORDS : goal.returns-then-m-ne-WORDS
returns-then-m-ne-WORDS c = is-16 c.args.blocks.now c.args.m.now c.if-m-ne-WORDS.true

pub returns-then-not-machine_fits : goal.returns-then-not-machine_fits
returns-then-not-machine_fits c =
    is-17 c.args.blocks.now c.args.m.now c.if-m-ne-WORDS.false (sym c.if-not-machine_fits.ensures)

pub returns : goal.returns
returns c = (c.if-m-ne-WORDS.false, sym c.if-not-machine_fits.ensures, c.of-places.ensures)
