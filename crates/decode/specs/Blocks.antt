-- The blocks that a decoded image holds.
use Rattle.std.specs.Prelude.{List, take}
use Rattle.rules.specs.declared.Block.{Block}
use Rattle.decode.specs.declared.program.Program.{Program}

abbrev pub blocks_in : Program → List Block
blocks_in p = take p.count p.blocks
