-- The two words written are those of the definition.
use Rattle.std.proofs.Common.{refl}
use Rattle.change.specs.Words.{moved_row}
use Rattle.change.proofs.move_row.Goals as goal

pub returns : goal.returns
unfolding moved_row
returns c = refl
