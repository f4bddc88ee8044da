-- A leaf's steps over a block's two sides. Assumes nothing.
use mathlib.Core.Path.{◌≡◌, refl}
use mathlib.Core.List.{List}
use Prim.Native.Nat.{ℕ}
use Rattle.rules.specs.Leaf.{inverse, leaf_forward, leaf_undo}
use Rattle.rules.specs.declared.Block.{Block}
use Rattle.rules.specs.declared.Place.{Place}
use Rattle.leaf.specs.declared.place.Side.{Side}
use Rattle.leaf.specs.Side.{side_place, leaf_step}

-- forward and undo are the two ways through a block
module _ (memory : List ℕ) (here : Place) (b : Block) where
  pub forward-is : leaf_forward memory here b ≡ leaf_step memory here (Side.Entry b.entry) b.instruction (Side.Exit b.exit)
  unfolding leaf_forward side_place
  forward-is = refl

  pub undo-is : leaf_undo memory here b ≡ leaf_step memory here (Side.Exit b.exit) (inverse b.instruction) (Side.Entry b.entry)
  unfolding leaf_undo side_place
  undo-is = refl
