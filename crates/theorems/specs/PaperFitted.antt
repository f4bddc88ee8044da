-- 004's steps and rules' own on every machine that passes code 17: what PaperForward and PaperUndo assume of its rows and of its newest kept
-- steps is what the clauses of code 17 say. Assumes that the image is sound and, for an undo, that the memory is 288 words.
use Rattle.std.specs.Prelude.{◌≡◌, refl, ◌⊎◌, ◌≢◌, true, List, ℕ, ◌<◌, length, eqb}
use Rattle.std.proofs.Common.{ap, inl, inr, eqb-true}
use Rattle.std.proofs.Math.Option.{Option, none, some}
use Rattle.theory.specs.Tests.{true_false, eqb-other, and-true, or_cases}
use Rattle.rules.specs.Base.{each_of}
use Rattle.rules.specs.Machine.{Machine, begin, standing, most_kept}
use Rattle.rules.specs.Fits.{entry_block, exit_block, ascending, root_fits, parent_fits, own_fits, children_fit, newest, is_block, newest_fits, row_fits, machine_fits}
use Rattle.rules.specs.Leaf.{made}
use Rattle.rules.specs.Step.{forward, undo}
use Rattle.rules.specs.Paper.{Configuration}
use Rattle.rules.specs.Annotation.{Annotation, Annotated}
use Rattle.rules.specs.declared.Block.{Block}
use Rattle.rules.specs.declared.Place.{Place}
use Rattle.theorems.specs.Memory.{Fine}
use Rattle.theorems.specs.Program.{Sound}
use Rattle.theorems.specs.Tables.{row_at, each-standing}
use Rattle.theorems.specs.Fitted.{fitted, fitted-order, fitted-room}
use Rattle.theorems.specs.PaperShown.{Shows, StepFrom, StepTo}
use Rattle.theorems.specs.PaperForward.{forward-steps, steps-forward}
use Rattle.theorems.specs.PaperUndo.{undo-steps, steps-undo}

pub is_block_some : (o : Option ℕ) (b : ℕ) → is_block o b ≡ true → o ≡ some b
is_block_some none b h = absurd (true_false h refl)
is_block_some (some a) b h = ap some (eqb-true a b h)

module _ (program : List Block) (S : Sound program) (m : Machine) (passed : machine_fits program m ≡ true) (p : ℕ) (here : Place)
    (live : standing m.rows p ≡ some here) where
  -- the newest kept step of a process that is not at begin is by the block at whose exit it stands
  pub kept : here.stage ≢ begin → newest m.history p ≡ some (exit_block program here)
  unfolding machine_fits row_fits newest_fits
  kept n =
      let a = and-true (ascending m.rows) _ passed in
      let b = and-true (root_fits program m.rows) _ a.1 in
      let c = and-true (each_of (row_fits program m) m.rows) _ b.1 in
      let r = each-standing (row_fits program m) m.rows p here c.0 live in
      let s = and-true (parent_fits m.rows (row_at p here)) _ r in
      let t = and-true (own_fits program m.rows (row_at p here)) _ s.1 in
      let u = and-true (children_fit program m.rows (row_at p here)) _ t.1 in
      go (or_cases (eqb here.stage begin) (is_block (newest m.history p) (exit_block program here)) u.1)
    where
      go :
          (eqb here.stage begin ≡ true) ⊎ (is_block (newest m.history p) (exit_block program here) ≡ true) →
          newest m.history p ≡ some (exit_block program here)
      go (inl x) = absurd (true_false x (eqb-other here.stage begin n))
      go (inr x) = is_block_some (newest m.history p) (exit_block program here) x

  module _ (C : Configuration) (A : Annotation) (shown : Shows program m C A) where
    pub from-forward : (m' : Machine) → forward program m p here ≡ made m' → StepFrom program p C A × (length m.history < most_kept)
    from-forward m' h =
        let f = fitted program S m passed in
        forward-steps program S m p here live (fitted-order program m passed) f.1.tree f.0 m' h C A shown

    pub to-forward :
        (b : ℕ) (C' : Configuration) (A' : Annotation) → Annotated program p b C A C' A' → length m.history < most_kept →
        (m' : Machine) × (forward program m p here ≡ made m') × Shows program m' C' A'
    to-forward b C' A' step few =
        let f = fitted program S m passed in
        steps-forward program S m p here live (fitted-order program m passed) f.1.tree f.0 C C' A A' b shown step few
        (λ free c. fitted-room program S m passed p here (entry_block program here) live free c (inl refl))

    pub from-undo : Fine m.memory → (m' : Machine) → undo program m p here ≡ made m' → StepTo program p C A
    from-undo fine m' h =
        let f = fitted program S m passed in
        undo-steps program S m p here live (fitted-order program m passed) f.1.tree f.0 fine kept m' h C A shown

    pub to-undo :
        Fine m.memory → (t : StepTo program p C A) →
        (m' : Machine) × (undo program m p here ≡ made m') × Shows program m' t.configuration t.annotation
    to-undo fine t =
        let f = fitted program S m passed in
        steps-undo program S m p here live (fitted-order program m passed) f.1.tree f.0 fine kept C A shown t
        (λ n free c. fitted-room program S m passed p here (exit_block program here) live free c (inr refl))
