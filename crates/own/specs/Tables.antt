-- What the tables that `fits` is given have of a program.
use Rattle.std.specs.Prelude.{ℕ, ◌<◌, ◌≤◌, ◌≡◌, List, map, length, take, get_or}
use Rattle.rules.specs.Base.{up_from}
use Rattle.rules.specs.Labels.{home, called_by}
use Rattle.rules.specs.declared.Block.{Block}
use Rattle.laws.specs.CallTable.{calls_from}
use Rattle.calls.specs.declared.table.Calls.{Calls}
use Rattle.places.specs.Places.{Entries, Exits}
use Rattle.places.specs.declared.Places.{Places}

-- the label of each block's process block
pub record Homes (program : List Block) (c : Calls) : Type 0 where
  pub count : c.count ≡ length program
  pub are : take c.count c.homes ≡ map (home program) (up_from 0 c.count)

-- the labels that each block calls
pub record CallsIn (program : List Block) (c : Calls) : Type 0 where
  pub count : c.count ≡ length program
  pub size : length c.names ≡ 1024
  pub calls : calls_from c.counts c.names c.count ≡ map (λ b. called_by b.instruction) program
  pub few : (b : ℕ) → b < c.count → get_or c.counts b 0 ≤ 8

pub record Tables (program : List Block) (p : Places) (c : Calls) : Type 0 where
  pub enters : Entries program p
  pub leaves : Exits program p
  pub home : Homes program c
  pub calls : CallsIn program c
