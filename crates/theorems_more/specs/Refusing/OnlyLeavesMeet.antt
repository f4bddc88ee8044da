-- The last row of RefusalTable's stepping, 25, 22, 23 or 24, is given of leaves alone: on an accepted image and a machine that passes 17
-- only a process
-- without children, at a block that is no call, meets one of them. Assumes that the image is sound.
use Rattle.std.specs.Prelude.{◌≡◌, Bool, true, false, List, length, eqb}
use Rattle.std.proofs.Math.Path.{refl}
use Rattle.std.proofs.Common.{ap}
use Rattle.std.proofs.Math.Option.{none, some}
use Prim.Native.Nat.{ℕ}
use Rattle.theory.specs.Tests.{true_false}
use Rattle.rules.specs.Base.{pick}
use Rattle.rules.specs.Read.{is_call}
use Rattle.rules.specs.Labels.{block_of}
use Rattle.rules.specs.Machine.{Machine, standing, children}
use Rattle.rules.specs.Fits.{entry_block, exit_block, machine_fits}
use Rattle.rules.specs.Leaf.{Tried, entry_place, exit_place, leaf_forward, leaf_undo}
use Rattle.rules.specs.declared.Block.{Block}
use Rattle.rules.specs.declared.Place.{Place}
use Rattle.theorems.specs.Program.{Sound, call-in_image}
use Rattle.theorems.specs.Waiting.{some-children}
use Rattle.theorems.specs.Forward.{exit-to}
use Rattle.theorems.specs.Backward.{at_call, entry-from}
use Rattle.theorems.specs.Fitted.{fitted, fitted-order}
use Rattle.rules.specs.RefusalTable.{refusal_in, is_met, has_none, calling, met_ahead, met_back}

module _ (program : List Block) (S : Sound program) (m : Machine) (passed : machine_fits program m ≡ true) (p : ℕ) (here : Place)
    (live : standing m.rows p ≡ some here) where
  -- what is met ahead, and on the way back
  pub only-leaves_ahead :
      is_met (met_ahead program m p here true) ≡ true → (has_none program m p here true ≡ true) × (calling program m p here true ≡ false)
  unfolding met_ahead pick
  only-leaves_ahead h = go (eqb (length (children m.rows p)) 0) (is_call (block_of program b).instruction) refl h
    where
      b : ℕ
      b = entry_block program here

      go :
          (n c : Bool) → is_call (block_of program b).instruction ≡ c →
          is_met (pick n (pick c (refusal_in (exit_place m.memory (block_of program b).exit))
          (refusal_in (leaf_forward m.memory here (block_of program b)))) none)
          ≡ true → (n ≡ true) × (c ≡ false)
      go true true e h =
          absurd (true_false h (ap (λ (t : Tried Place). is_met (refusal_in t))
          (exit-to m.memory (block_of program b).exit ((S.fit b (call-in_image program S b e)).to e))))
      go true false e h = (refl, refl)
      go false c e h = absurd (true_false h refl)

  pub only-leaves_back :
      is_met (met_back program m p here false) ≡ true → (has_none program m p here false ≡ true) × (calling program m p here false ≡ false)
  unfolding met_back pick
  only-leaves_back h = go (eqb (length (children m.rows p)) 0) (is_call (block_of program b).instruction) refl h
    where
      b : ℕ
      b = exit_block program here

      forks : eqb (length (children m.rows p)) 0 ≡ false → is_call (block_of program b).instruction ≡ true
      forks e =
          let f = fitted program S m passed in
          let s = fitted-order program m passed in
          (at_call program S m p here live s f.1.tree f.0 (some-children m.rows p s f.1.tree e)).0

      go :
          (n c : Bool) → eqb (length (children m.rows p)) 0 ≡ n →
          is_met (pick n (pick c none (refusal_in (leaf_undo m.memory here (block_of program b))))
          (refusal_in (entry_place m.memory (block_of program b).entry)))
          ≡ true → (n ≡ true) × (c ≡ false)
      go true true e h = absurd (true_false h refl)
      go true false e h = (refl, refl)
      go false c e h =
          let k = forks e in
          absurd (true_false h (ap (λ (t : Tried Place). is_met (refusal_in t))
          (entry-from m.memory (block_of program b).entry ((S.fit b (call-in_image program S b k)).from k))))
