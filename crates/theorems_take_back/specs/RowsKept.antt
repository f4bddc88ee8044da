-- The clauses of code 17 about rows are kept by every accepted step, forward and undo, on any machine that has them, reached or
-- not: so a string of steps after one test of code 17 (request [11]) has them throughout, and always finds room for children.
-- Assumes that the image is sound and the memory is 288 words.
use Rattle.std.specs.Prelude.{◌≡◌, ◌⊎◌, true, List, [], ℕ, ◌+◌, ◌≤◌, length}
use Rattle.std.proofs.Common.{sym}
use Rattle.std.proofs.Math.Option.{some}
use Rattle.theory.specs.Local.{Taken}
use Rattle.theory.specs.Peak.{Hangs, keep-well}
use Rattle.rules.specs.Labels.{called}
use Rattle.rules.specs.Calls.{most_rows}
use Rattle.rules.specs.Machine.{Machine, standing}
use Rattle.rules.specs.Fits.{entry_block, exit_block, machine_fits}
use Rattle.rules.specs.Leaf.{made}
use Rattle.rules.specs.Step.{forward, undo}
use Rattle.rules.specs.declared.Block.{Block}
use Rattle.rules.specs.declared.Place.{Place}
use Rattle.theorems.specs.Memory.{Fine}
use Rattle.theorems.specs.Parts.{calls}
use Rattle.theorems.specs.Program.{Sound, real}
use Rattle.theorems.specs.Tables.{Sorted}
use Rattle.theorems.specs.Children.{Childless}
use Rattle.theorems.specs.Fitted.{fitted, fitted-order}
use Rattle.theorems.specs.Forward.{configuration_of, entry_of, step_of, Well, stepped}
use Rattle.theorems.specs.Backward.{unstepped}
use Rattle.theorems.specs.Room.{children-room}
use Rattle.theorems.specs.Stands.{call-here}
use Rattle.theorems_take_back.specs.Rooted.{laws, hangs-back}
use Rattle.theorems_take_back.specs.Bottom.{redoable}

module _ (program : List Block) (S : Sound program) where
  pub record RowsFit (m : Machine) : Type 0 where
    pub ordered : Sorted m.rows
    pub well : Well program S (standing m.rows)
    pub hangs : Hangs (real program S) (standing m.rows)
    pub fine : Fine m.memory

  -- a machine that passes code 17 has them
  pub rows_fit : (m : Machine) → machine_fits program m ≡ true → Fine m.memory → RowsFit m
  rows_fit m passed fine =
      let f = fitted program S m passed in
      record { ordered = fitted-order program m passed; well = f.0; hangs = f.1; fine = fine }

  module _ (m : Machine) (r : RowsFit m) (p : ℕ) (here : Place) (live : standing m.rows p ≡ some here) where
    pub forward-keeps : (m' : Machine) → forward program m p here ≡ made m' → RowsFit m'
    forward-keeps m' h =
        let s = (stepped program S m p here live r.ordered r.hangs.tree r.well m' h).0 in
        let e : Taken = entry_of (step_of p s.block) in
        let ok = (laws program S).ok_step (configuration_of m) (configuration_of m') e (r.well, r.fine) s.moves in
        let w =
        keep-well (real program S) m.memory r.fine (configuration_of m) (configuration_of m') [] e (r.well, r.fine) (r.well, r.hangs) s.moves in
        record { ordered = s.ordered; well = ok.0; hangs = w.1; fine = ok.1 }

    pub undo-keeps : (m' : Machine) → undo program m p here ≡ made m' → RowsFit m'
    undo-keeps m' h =
        let s = (unstepped program S m p here live r.ordered r.hangs.tree r.well m' h).0 in
        let e : Taken = entry_of (step_of p s.block) in
        let ok = (redoable program S).ok_back (configuration_of m) (configuration_of m') e (r.well, r.fine) s.moves in
        record {
          ordered = s.ordered;
          well = ok.0;
          hangs = hangs-back program S (configuration_of m) (configuration_of m') p e (r.well, r.fine) r.hangs s.moves;
          fine = ok.1;
        }

    -- and code 28 never comes
    pub always-room :
        (b : ℕ) → Childless (standing m.rows) p → calls program b ≡ true → (b ≡ entry_block program here) ⊎ (b ≡ exit_block program here) →
        length m.rows + length (called program b) ≤ most_rows
    always-room b free c at =
        children-room program S m.rows r.ordered r.well r.hangs p here b live free c (sym (call-here program S here b c at))
