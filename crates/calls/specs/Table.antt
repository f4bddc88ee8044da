-- The table of calls as rules has it, and what every function of this crate asks of it.
use Rattle.std.specs.Prelude.{ℕ, ◌<◌, ◌≤◌, get_or}
use Rattle.rules.specs.Format.{most_blocks}
use Rattle.rules.specs.Calls.{Calling}
use Rattle.laws.specs.CallTable.{calling_from}
use Rattle.calls.specs.declared.table.Calls.{Calls}

abbrev pub calling : Calls → Calling
calling c = calling_from c.homes c.counts c.names c.count

-- at most 128 blocks, and at most eight labels called by each
pub record Tabled (c : Calls) : Type 0 where
  pub few : c.count ≤ most_blocks
  pub few_names : (b : ℕ) → b < c.count → get_or c.counts b 0 ≤ 8
