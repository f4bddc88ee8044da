-- Where a leaf's step leads: to a place whose label is below 256 and whose stage is one of the three. Assumes that the block is fit.
use mathlib.Core.Path.{subst⁻¹}
use mathlib.Core.Bool.{Bool, true, false}
use mathlib.Core.List.{List}
use Prim.Native.Nat.{ℕ, ◌≤◌, ◌<◌}
use native.Mathlib.Omega.{arith}
use lib.Dec.{eqb}
use Rattle.rules.specs.Base.{pick}
use Rattle.rules.specs.Format.{labels}
use Rattle.rules.specs.Machine.{end, place, run}
use Rattle.rules.specs.Leaf.{Tried, made, refused, chosen, entry_place, exit_place, present, act, expression_value, Moved, leaf_forward, leaf_undo}
use Rattle.rules.specs.declared.Block.{Block}
use Rattle.rules.specs.declared.Entry.{Entry}
use Rattle.rules.specs.declared.Exit.{Exit}
use Rattle.rules.specs.declared.Instruction.{Instruction}
use Rattle.rules.specs.declared.Place.{Place}
use Rattle.laws.specs.Fit.{BlockFit}
use Rattle.evaluate.proofs.Holds.{Holds, pick-holds, after_holds}
use Rattle.leaf.specs.declared.place.Side.{Side}
use Rattle.leaf.specs.Side.{SideFit, side_place, leaf_step}
use Rattle.leaf.proofs.Sides.{forward-is, undo-is}

-- ---- where the process then stands
abbrev pub Stands : Place → Type 0
Stands q = (q.label < labels) × (q.stage ≤ end)

abbrev pub MovedStands : Moved → Type 0
MovedStands moved = Stands moved.stands

abbrev Any : {A : Type 0} → A → Type 0
Any a = Unit {0}

any : {A : Type 0} (t : Tried A) → Holds Any t
any (made a) = tt
any (refused code) = tt

chosen-stands : (l m v : ℕ) → l < labels → m < labels → Stands (chosen l m v)
unfolding chosen pick
chosen-stands l m v h k = go (eqb v 0)
  where
    go : (b : Bool) → Stands (pick b (place m run) (place l run))
    go true = (k, omega arith)
    go false = (h, omega arith)

side_stands : (memory : List ℕ) (side : Side) → SideFit side → Holds Stands (side_place memory side)
unfolding side_place entry_place exit_place
side_stands memory (Side.Entry (Entry.From l)) fit = (fit, omega arith)
side_stands memory (Side.Entry (Entry.Either l m e)) fit = after_holds Any Stands _ _ (any (expression_value memory e)) (λ v _. chosen-stands l m v fit.0 fit.1)
side_stands memory (Side.Entry (Entry.Begin l)) fit = (fit, omega arith)
side_stands memory (Side.Exit (Exit.To l)) fit = (fit, omega arith)
side_stands memory (Side.Exit (Exit.Either e l m)) fit = after_holds Any Stands _ _ (any (expression_value memory e)) (λ v _. chosen-stands l m v fit.0 fit.1)
side_stands memory (Side.Exit (Exit.End l)) fit = (fit, omega arith)

step-stands : (memory : List ℕ) (here : Place) (from : Side) (i : Instruction) (to : Side) → SideFit to → Holds MovedStands (leaf_step memory here from i to)
unfolding present
step-stands memory here from i to fit =
    after_holds Any MovedStands _ _ (any (side_place memory from))
    (λ q _. pick-holds MovedStands _ _ _
    (λ _. after_holds Any MovedStands _ _ (any (act memory i)) (λ new _. after_holds Stands MovedStands _ _ (side_stands new to fit) (λ next h. h)))
    (λ _. tt))

module _ (memory : List ℕ) (here : Place) (b : Block) (fit : BlockFit b) where
  pub forward-stands : Holds MovedStands (leaf_forward memory here b)
  forward-stands = subst⁻¹ (Holds MovedStands) (forward-is memory here b) (step-stands memory here _ _ _ fit.exit)

  pub undo-stands : Holds MovedStands (leaf_undo memory here b)
  undo-stands = subst⁻¹ (Holds MovedStands) (undo-is memory here b) (step-stands memory here _ _ _ fit.entry)
