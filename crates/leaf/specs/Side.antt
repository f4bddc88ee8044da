-- The step of a leaf over the two sides of a block: forward from the entry to the exit, undo from the exit to the entry. That rules'
-- `leaf_forward` and `leaf_undo` are two cases of it is computed where the two functions are proved.
use Rattle.std.specs.Prelude.{ℕ, List}
use Rattle.rules.specs.Leaf.{Tried, made, after, entry_place, exit_place, act, present, Moved}
use Rattle.rules.specs.declared.Instruction.{Instruction}
use Rattle.rules.specs.declared.Place.{Place}
use Rattle.laws.specs.Fit.{EntryFit, ExitFit}
use Rattle.leaf.specs.declared.place.Side.{Side}
use Rattle.leaf.specs.Moved.{moved_to}

abbrev pub SideFit : Side → Type 0
SideFit (Side.Entry e) = EntryFit e
SideFit (Side.Exit e) = ExitFit e

unfoldable pub side_place : List ℕ → Side → Tried Place
side_place memory (Side.Entry e) = entry_place memory e
side_place memory (Side.Exit e) = exit_place memory e

-- the move to the place that is tried
abbrev pub leading : Tried Place → List ℕ → Tried Moved
leading tried memory = after tried (λ q. made (moved_to q memory))

abbrev pub leaf_step : List ℕ → Place → Side → Instruction → Side → Tried Moved
leaf_step memory here from i to =
    after (side_place memory from) (λ q. present here q (after (act memory i) (λ new. leading (side_place new to) new)))
