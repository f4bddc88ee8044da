-- The ways through a forward step, each by the tests that lead to it. Assumes nothing.
use mathlib.Core.Path.{◌≡◌, sym, ◌∙◌}
use mathlib.Core.Bool.{Bool, true, false}
use mathlib.Core.List.{List}
use Prim.Native.Nat.{ℕ, ◌≤◌, ◌<◌}
use lib.ListN.{length}
use lib.Dec.{eqb}
use borrow.Author.Tests.{eq-eqb, ne_eqb, le-leb, lt-leb}
use Rattle.rules.specs.Base.{pick, each_of}
use Rattle.rules.specs.Read.{is_call}
use Rattle.rules.specs.Labels.{block_of}
use Rattle.rules.specs.Machine.{Machine, end, children, most_kept}
use Rattle.rules.specs.Fits.{entry_block, exit_block}
use Rattle.rules.specs.Leaf.{refused, leaf_forward}
use Rattle.rules.specs.Step.{waits, fork, merge, leaf_step, forward_childless, forward}
use Rattle.rules.specs.declared.Block.{Block}
use Rattle.rules.specs.declared.Place.{Place}

-- the process and where it stands, as its row tells them
module _ (program : List Block) (m : Machine) {p told : ℕ} (own : told ≡ p) {here at : Place} (stands : at ≡ here) where
  abbrev All : Bool
  All = each_of (λ c. eqb c.stands.stage end) (children m.rows told)

  pub at-end : at.stage ≡ end → refused 21 ≡ forward program m p here
  unfolding forward pick
  at-end s = rw (← stands, eq-eqb at.stage end s)

  module _ (s : at.stage ≡ end → ⊥) where
    pub waiting : All ≡ false → refused 20 ≡ forward program m p here
    unfolding forward waits pick
    waiting a = rw (← stands, ← own, ne_eqb at.stage end s, a)

    module _ (a : All ≡ true) where
      pub full : most_kept ≤ length m.history → refused 26 ≡ forward program m p here
      unfolding forward waits pick
      full h = rw (← stands, ← own, ne_eqb at.stage end s, a, le-leb most_kept (length m.history) h)

      module _ (h : length m.history < most_kept) {count : ℕ} (n : count ≡ length (children m.rows told)) where
        pub alone : {into : ℕ} → into ≡ entry_block program here → count ≡ 0
            → forward_childless program m p here into ≡ forward program m p here
        unfolding forward waits pick
        alone i c =
            rw i
            (rw (← stands, ← own, ne_eqb at.stage end s, a, lt-leb most_kept (length m.history) h, eq-eqb (length (children m.rows told)) 0 (sym n ∙ c)))

        pub merging : {out : ℕ} → out ≡ exit_block program here → (count ≡ 0 → ⊥) → merge m p out ≡ forward program m p here
        unfolding forward waits pick
        merging o c =
            rw o
            (rw (← stands, ← own, ne_eqb at.stage end s, a, lt-leb most_kept (length m.history) h, ne_eqb (length (children m.rows told)) 0 (λ e. c (n ∙ e))))

-- ---- by a block
module _ (program : List Block) (m : Machine) (p : ℕ) (here : Place) where
  module _ (b : ℕ) where
    pub calls : is_call (block_of program b).instruction ≡ true → fork program m p b ≡ forward_childless program m p here b
    unfolding forward_childless pick
    calls e = rw e

    pub leaves : is_call (block_of program b).instruction ≡ false
        → leaf_step m p b (leaf_forward m.memory here (block_of program b)) ≡ forward_childless program m p here b
    unfolding forward_childless pick
    leaves e = rw e
