-- What a table of calls has of a program.
use Rattle.std.specs.Prelude.{ℕ, ◌*◌, ◌≤◌, ◌≡◌, List, map, length, get_or}
use Rattle.rules.specs.Format.{most_blocks}
use Rattle.rules.specs.Labels.{called_by}
use Rattle.rules.specs.declared.Block.{Block}
use Rattle.laws.specs.CallTable.{calls_from}
use Rattle.calls.specs.Table.{Tabled}
use Rattle.calls.specs.declared.table.Calls.{Calls}

-- each block has eight places
abbrev pub places : ℕ
places = 8 * most_blocks

-- the labels that each of its blocks calls, beside the labels of their process blocks, and no count over eight
pub record CallsOf (program : List Block) (own : List ℕ) (c : Calls) : Type 0 where
  pub homes : c.homes ≡ own
  pub count : c.count ≡ length program
  pub calls : calls_from c.counts c.names c.count ≡ map (λ b. called_by b.instruction) program
  pub few : (b : ℕ) → get_or c.counts b 0 ≤ 8
  pub tabled : Tabled c
