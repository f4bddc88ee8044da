-- What a plan makes of a machine, with rows and entries named by their place; and what a plan asks of the machine that it is for.
use Rattle.std.specs.Prelude.{ℕ, ◌+◌, ◌<◌, ◌≤◌, ◌≡◌, true, List, length, get_or}
use Rattle.rules.specs.Format.{named}
use Rattle.rules.specs.Machine.{Machine, place, begin, end, pack}
use Rattle.rules.specs.Fits.{counts_fit, unused_zero}
use Rattle.rules.specs.Leaf.{Tried, made, refused}
use Rattle.rules.specs.Step.{child_rows}
use Rattle.rules.specs.declared.Names.{Names}
use Rattle.rules.specs.declared.Place.{Place}
use Rattle.evaluate.specs.Shown.{written, WritesFit}
use Rattle.evaluate.specs.declared.Writes.{Writes}
use Rattle.change.specs.Words.{written_words}
use Rattle.machine.specs.Index.{kept, without, moved, inserted, removed}
use Rattle.step.specs.declared.plan.Plan.{Plan}

-- words of the right length that pass the clauses of code 17 that speak of words alone
pub record Lent (w : List ℕ) : Type 0 where
  pub long : length w ≡ 8674
  pub counts : counts_fit w ≡ true
  pub unused : unused_zero w ≡ true

-- writes made in a machine's words, and in a machine
unfoldable pub writes_made : Writes → List ℕ → List ℕ
writes_made Writes.Nothing w = w
writes_made (Writes.One at value) w = written_words w at value
writes_made (Writes.Two first value second other) w = written_words (written_words w first value) second other

unfoldable pub written_in : Machine → Writes → Machine
written_in m writes = record { memory = written writes m.memory; rows = m.rows; history = m.history }

-- the process of a row
abbrev pub identifier_at : Machine → ℕ → ℕ
identifier_at m row = (get_or m.rows row (record { identifier = 0; stands = place 0 0 })).identifier

-- ---- what a plan makes
unfoldable pub leaf_made : Machine → ℕ → Place → Writes → ℕ → Machine
leaf_made m row q writes block = kept (moved (written_in m writes) row q.label q.stage) (identifier_at m row) block

unfoldable pub fork_made : Machine → ℕ → Place → Names → ℕ → ℕ → Machine
fork_made m row q names block first =
    kept (inserted (moved m row q.label q.stage) first (child_rows (identifier_at m row) begin 1 (named names))) (identifier_at m row) block

unfoldable pub merge_made : Machine → ℕ → ℕ → ℕ → ℕ → Machine
merge_made m row block first count = kept (removed m first count) (identifier_at m row) block

unfoldable pub undo_leaf_made : Machine → ℕ → Place → Writes → ℕ → Machine
undo_leaf_made m row q writes entry = without (moved (written_in m writes) row q.label q.stage) entry

unfoldable pub undo_fork_made : Machine → ℕ → Place → ℕ → ℕ → ℕ → Machine
undo_fork_made m row q first count entry = without (removed (moved m row q.label q.stage) first count) entry

unfoldable pub undo_merge_made : Machine → ℕ → Names → ℕ → ℕ → Machine
undo_merge_made m row names first entry = without (inserted m first (child_rows (identifier_at m row) end 1 (named names))) entry

unfoldable pub planned : Plan → Machine → Machine
planned (Plan.Leaf row q writes block) m = leaf_made m row q writes block
planned (Plan.Fork row q names block first) m = fork_made m row q names block first
planned (Plan.Merge row block first count) m = merge_made m row block first count
planned (Plan.UndoLeaf row q writes entry) m = undo_leaf_made m row q writes entry
planned (Plan.UndoFork row q first count entry) m = undo_fork_made m row q first count entry
planned (Plan.UndoMerge row names first entry) m = undo_merge_made m row names first entry

-- the words that a try leaves: as they were where it is refused
abbrev pub left : Tried Machine → List ℕ → List ℕ
left (made m) w = pack m
left (refused code) w = w

-- ---- what a plan asks: rows, entries and writes that there are, and room
pub record LeafFit (m : Machine) (row : ℕ) (writes : Writes) : Type 0 where
  pub live : row < length m.rows
  pub within : WritesFit writes
  pub room : length m.history < 4096

pub record ForkFit (m : Machine) (row : ℕ) (names : Names) (first : ℕ) : Type 0 where
  pub live : row < length m.rows
  pub few : names.count ≤ 8
  pub at : first ≤ length m.rows
  pub rooms : length m.rows + names.count ≤ 64
  pub shallow : identifier_at m row < 268435456
  pub room : length m.history < 4096

pub record MergeFit (m : Machine) (row first count : ℕ) : Type 0 where
  pub live : row < length m.rows
  pub at : first + count ≤ length m.rows
  pub room : length m.history < 4096

pub record UndoLeafFit (m : Machine) (row : ℕ) (writes : Writes) (entry : ℕ) : Type 0 where
  pub live : row < length m.rows
  pub within : WritesFit writes
  pub there : entry < length m.history

pub record UndoForkFit (m : Machine) (row first count entry : ℕ) : Type 0 where
  pub live : row < length m.rows
  pub at : first + count ≤ length m.rows
  pub there : entry < length m.history

pub record UndoMergeFit (m : Machine) (row : ℕ) (names : Names) (first entry : ℕ) : Type 0 where
  pub live : row < length m.rows
  pub few : names.count ≤ 8
  pub at : first ≤ length m.rows
  pub rooms : length m.rows + names.count ≤ 64
  pub shallow : identifier_at m row < 268435456
  pub there : entry < length m.history

abbrev pub PlanFit : Plan → Machine → Type 0
PlanFit (Plan.Leaf row q writes block) m = LeafFit m row writes
PlanFit (Plan.Fork row q names block first) m = ForkFit m row names first
PlanFit (Plan.Merge row block first count) m = MergeFit m row first count
PlanFit (Plan.UndoLeaf row q writes entry) m = UndoLeafFit m row writes entry
PlanFit (Plan.UndoFork row q first count entry) m = UndoForkFit m row first count entry
PlanFit (Plan.UndoMerge row names first entry) m = UndoMergeFit m row names first entry
