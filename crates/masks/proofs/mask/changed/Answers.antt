-- A write to a cell changes the heap, whose bit is the one after the last variable's.
use Rattle.std.proofs.Common.{arith}
use Rattle.masks.specs.Mask.{target_writes}
use Rattle.masks.proofs.Bits.{mask_single, mask_at}
use Rattle.masks.proofs.mask.changed.Goals as goal

pub returns-in-Cell : goal.returns-in-Cell
returns-in-Cell c = mask_at target_writes c.in-Cell.is (mask_single 32 (omega arith))
