-- The ways through an undo, each by the tests that lead to it. Assumes nothing.
use mathlib.Core.Path.{◌≡◌, sym, ◌∙◌}
use mathlib.Core.Bool.{Bool, true, false}
use mathlib.Core.List.{List}
use Prim.Native.Nat.{ℕ}
use lib.ListN.{length}
use lib.Dec.{eqb}
use borrow.Author.Tests.{eq-eqb, ne_eqb}
use Rattle.rules.specs.Base.{pick, each_of}
use Rattle.rules.specs.Read.{is_call}
use Rattle.rules.specs.Labels.{block_of}
use Rattle.rules.specs.Machine.{Machine, begin, children}
use Rattle.rules.specs.Fits.{exit_block}
use Rattle.rules.specs.Cause.{holds}
use Rattle.rules.specs.Leaf.{refused, leaf_undo}
use Rattle.rules.specs.Step.{waits, undo_fork, undo_merge, undo_leaf, undo_childless, undo}
use Rattle.rules.specs.declared.Block.{Block}
use Rattle.rules.specs.declared.Place.{Place}

-- the process and where it stands, as its row tells them
module _ (program : List Block) (m : Machine) {p told : ℕ} (own : told ≡ p) {here at : Place} (stands : at ≡ here) where
  abbrev All : Bool
  All = each_of (λ c. eqb c.stands.stage begin) (children m.rows told)

  pub at-begin : at.stage ≡ begin → refused 21 ≡ undo program m p here
  unfolding undo pick
  at-begin s = rw (← stands, eq-eqb at.stage begin s)

  module _ (s : at.stage ≡ begin → ⊥) where
    pub undo-waiting : All ≡ false → refused 20 ≡ undo program m p here
    unfolding undo waits pick
    undo-waiting a = rw (← stands, ← own, ne_eqb at.stage begin s, a)

    module _ (a : All ≡ true) where
      pub held_back : holds program m.history told ≡ true → refused 27 ≡ undo program m p here
      unfolding undo waits pick
      held_back h = rw (← stands, ← own, ne_eqb at.stage begin s, a, h)

      module _ (h : holds program m.history told ≡ false) {count : ℕ} (n : count ≡ length (children m.rows told)) where
        pub undo-alone : count ≡ 0 → undo_childless program m p here (exit_block program here) ≡ undo program m p here
        unfolding undo waits pick
        undo-alone c = rw (← stands, ← own, ne_eqb at.stage begin s, a, h, eq-eqb (length (children m.rows told)) 0 (sym n ∙ c))

        pub undo-forking : (count ≡ 0 → ⊥) → undo_fork program m p (exit_block program here) ≡ undo program m p here
        unfolding undo waits pick
        undo-forking c = rw (← stands, ← own, ne_eqb at.stage begin s, a, h, ne_eqb (length (children m.rows told)) 0 (λ e. c (n ∙ e)))

-- ---- by a block
module _ (program : List Block) (m : Machine) (p : ℕ) (here : Place) where
  module _ (b : ℕ) where
    pub undo-calls : is_call (block_of program b).instruction ≡ true → undo_merge program m p b ≡ undo_childless program m p here b
    unfolding undo_childless pick
    undo-calls e = rw e

    pub undo-leaves : is_call (block_of program b).instruction ≡ false
        → undo_leaf m p (leaf_undo m.memory here (block_of program b)) ≡ undo_childless program m p here b
    unfolding undo_childless pick
    undo-leaves e = rw e
