-- The parts of a program of the theory, as an image has them: the block at a place, the home of a place, calls, leaf steps and what
-- a block reads and writes. Definitions only; Program has their laws.
use Rattle.std.specs.Prelude.{◌≡◌, ◌⊎◌, Bool, ◌||◌, List, ℕ, ◌<◌, length, eqb, ltb}
use Rattle.std.proofs.Math.Option.{Option, none, some}
use Rattle.rules.specs.Base.{pick}
use Rattle.rules.specs.Names.{block_reads, block_writes}
use Rattle.rules.specs.Read.{is_call}
use Rattle.rules.specs.Labels.{block_of, home, called}
use Rattle.rules.specs.Machine.{place, begin, run, end}
use Rattle.rules.specs.Fits.{entry_block, exit_block, nth}
use Rattle.rules.specs.Leaf.{Tried, made, refused, Moved, leaf_forward, leaf_undo}
use Rattle.rules.specs.declared.Entry.{Entry}
use Rattle.rules.specs.declared.Exit.{Exit}
use Rattle.rules.specs.declared.Block.{Block}
use Rattle.rules.specs.declared.Place.{Place}

-- ---- the parts
abbrev pub from_label : Entry → ℕ
from_label (Entry.From l) = l
from_label (Entry.Either l m e) = l
from_label (Entry.Begin l) = l

abbrev pub to_label : Exit → ℕ
to_label (Exit.To l) = l
to_label (Exit.Either e l m) = l
to_label (Exit.End l) = l

abbrev pub tried : Tried Moved → Option (Place × List ℕ)
tried (made s) = some (s.stands, s.memory)
tried (refused code) = none

module _ (program : List Block) where
  abbrev pub entry_at : Place → Option ℕ
  entry_at a = pick (eqb a.stage end) none (some (entry_block program a))

  abbrev pub exit_at : Place → Option ℕ
  exit_at a = pick (eqb a.stage begin) none (some (exit_block program a))

  abbrev pub calls : ℕ → Bool
  calls b = is_call (block_of program b).instruction

  abbrev pub into_of : ℕ → Place
  into_of b = place (from_label (block_of program b).entry) run

  abbrev pub out_of : ℕ → Place
  out_of b = place (to_label (block_of program b).exit) run

  abbrev pub label_of : ℕ → ℕ → Option ℕ
  label_of b i = nth (called program b) i

  abbrev pub home_of : Place → ℕ
  home_of a = pick (eqb a.stage begin || eqb a.stage end) a.label (home program (entry_block program a))

  -- a place of some process block
  abbrev pub Standing : Place → Type 0
  Standing a =
      ((a.stage ≡ begin) × (entry_block program a < length program)) ⊎
      ((a.stage ≡ run) × (entry_block program a < length program) × (exit_block program a < length program)) ⊎
      ((a.stage ≡ end) × (exit_block program a < length program))

  abbrev pub leaf_of : ℕ → Place → List ℕ → Option (Place × List ℕ)
  leaf_of b a m = pick (ltb b (length program)) (tried (leaf_forward m a (block_of program b))) none

  abbrev pub unleaf_of : ℕ → Place → List ℕ → Option (Place × List ℕ)
  unleaf_of b a m = pick (ltb b (length program)) (tried (leaf_undo m a (block_of program b))) none

  abbrev pub reads_of : ℕ → ℕ → Bool
  reads_of b r = block_reads (block_of program b) r

  abbrev pub writes_of : ℕ → ℕ → Bool
  writes_of b r = block_writes (block_of program b) r
