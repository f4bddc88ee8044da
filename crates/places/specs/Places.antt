-- What a table of blocks, one for each label, has of a program.
use Rattle.std.specs.Prelude.{ℕ, ◌≡◌, List, length, get_or, eqb}
use Rattle.rules.specs.Base.{pick, some_of}
use Rattle.rules.specs.Machine.{place, begin, run, end}
use Rattle.rules.specs.Fits.{entry_block, exit_block}
use Rattle.rules.specs.declared.Block.{Block}
use Rattle.rules.specs.declared.Place.{Place}
use Rattle.places.specs.declared.Places.{Places}

-- block b is put at each of the labels; at no label past the table
pub record Noted (labels : List ℕ) (b : ℕ) (before after : List ℕ) : Type 0 where
  pub size : length after ≡ length before
  pub each : (x d : ℕ) → get_or after x d ≡ pick (some_of (eqb x) labels) b (get_or before x d)

-- the block of each label at one stage; a label past the table has none, so that the table is taken to have n there
pub record TableOf (block : Place → ℕ) (stage n : ℕ) (table : List ℕ) : Type 0 where
  pub each : (l : ℕ) → get_or table l n ≡ block (place l stage)

-- the tables of entries, and of exits, of a program
pub record Entries (program : List Block) (p : Places) : Type 0 where
  pub count : length program ≡ p.count
  pub runs : TableOf (entry_block program) run p.count p.entry
  pub begins : TableOf (entry_block program) begin p.count p.begin

pub record Exits (program : List Block) (p : Places) : Type 0 where
  pub count : length program ≡ p.count
  pub runs : TableOf (exit_block program) run p.count p.exit
  pub ends : TableOf (exit_block program) end p.count p.end

pub record PlacesOf (program : List Block) (p : Places) : Type 0 where
  pub entries : Entries program p
  pub exits : Exits program p
