-- How many nodes blocks and labels are together.
use Rattle.std.specs.Prelude.{ℕ, ◌+◌}
use Rattle.rules.specs.Format.{most_blocks, labels}

abbrev pub all_nodes : ℕ
all_nodes = most_blocks + labels
