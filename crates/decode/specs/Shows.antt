-- What a decoded image shows of its reading: the blocks, or the code and the place of its first fault.
use Rattle.std.specs.Prelude.{ℕ, ◌≡◌, ◌≤◌, List, take, Result, Ok, Err}
use Rattle.rules.specs.Codes.{number}
use Rattle.rules.specs.Format.{most_blocks}
use Rattle.rules.specs.Read.{Reading, got, fault}
use Rattle.rules.specs.declared.Block.{Block}
use Rattle.rules.specs.declared.Refused.{Refused}
use Rattle.decode.specs.declared.program.Program.{Program}
use Rattle.decode.specs.Blocks.{blocks_in}

abbrev pub Shows : Reading (List Block) → Result Program Refused → Type 0
Shows (got program at) (Ok p) = blocks_in p ≡ program
Shows (got program at) (Err r) = ⊥
Shows (fault code place) (Ok p) = ⊥
Shows (fault code place) (Err r) = (number r.code ≡ code) × (r.place ≡ place)

-- the same of the first blocks of an array, as many as there are
abbrev pub InFront : List Block → Reading (List Block) → Result ℕ Refused → Type 0
InFront l (got program at) (Ok n) = (n ≤ most_blocks) × (take n l ≡ program)
InFront l (got program at) (Err r) = ⊥
InFront l (fault code place) (Ok n) = ⊥
InFront l (fault code place) (Err r) = (number r.code ≡ code) × (r.place ≡ place)
