-- A live process has a row.
use Rattle.std.proofs.Common.{◌∙◌}
use Rattle.fits.proofs.Together.{found-live}
use Rattle.fits.proofs.rows.is_live.Goals as goal

pub returns : goal.returns
returns c = c.is_some.ensures ∙ found-live c.args.m.now c.args.identifier c.row_of.result c.row_of.ensures.row c.row_of.ensures.live
