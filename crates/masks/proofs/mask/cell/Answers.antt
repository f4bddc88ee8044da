-- The variable's bit and the heap's, together.
use Rattle.std.proofs.Common.{arith}
use Rattle.masks.proofs.Bits.{mask_single, mask_or}
use Rattle.masks.proofs.mask.cell.Goals as goal

pub returns : goal.returns
returns c = mask_or c.bit.ensures (mask_single 32 (omega arith))
