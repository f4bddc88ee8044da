-- The masks of a program's blocks, and blocks that are fit.
use Rattle.std.specs.Prelude.{List, ℕ, ◌<◌, length, get_or}
use Rattle.rules.specs.Names.{block_reads, block_writes}
use Rattle.rules.specs.Labels.{block_of}
use Rattle.rules.specs.declared.Block.{Block}
use Rattle.laws.specs.Fit.{BlockFit}
use Rattle.masks.specs.Mask.{Mask}
use Rattle.masks.specs.declared.Masks.{Masks}

-- they are the masks of each block
pub record MasksOf (program : List Block) (masks : Masks) : Type 0 where
  pub read : (b : ℕ) → b < length program → Mask (block_reads (block_of program b)) (get_or masks.reads b 0)
  pub write : (b : ℕ) → b < length program → Mask (block_writes (block_of program b)) (get_or masks.writes b 0)

-- each block is fit
abbrev pub BlocksFit : List Block → Type 0
BlocksFit program = (b : ℕ) → b < length program → BlockFit (block_of program b)
