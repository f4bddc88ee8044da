-- Demand 2: a forward step and an undo do what 004 says, no more and no less. The statements are for every accepted image and every
-- machine that passes code 17, reached by a run or not; first on a machine as rules speak of it, then on lent words. PaperShown says what
-- a machine shows of 004; 004's rules stand in rules' Paper (figure 2, over words and a heap of 256 cells) and Annotation (definitions 1 to 3).
use Rattle.std.specs.Prelude.{◌≡◌, refl, ◌↔◌, true, List, ℕ, ◌<◌, length}
use Rattle.std.proofs.Common.{sym, ◌∙◌, subst}
use Rattle.std.proofs.Math.Option.{some}
use Rattle.rules.specs.Machine.{Machine, standing, most_kept, history_count, view}
use Rattle.rules.specs.Fits.{machine_fits}
use Rattle.rules.specs.Leaf.{made}
use Rattle.rules.specs.Step.{forward, undo}
use Rattle.rules.specs.Words.{step}
use Rattle.rules.specs.Paper.{Configuration, configuration_of}
use Rattle.rules.specs.Annotation.{Annotation, annotation_of}
use Rattle.rules.specs.declared.Block.{Block}
use Rattle.rules.specs.declared.Place.{Place}
use Rattle.theorems.specs.Evaluate.{made-inj}
use Rattle.theorems.specs.Memory.{Fine}
use Rattle.theorems.specs.Program.{Sound}
use Rattle.theorems.specs.PaperShown.{Shows, StepFrom, StepTo, Lent}
use Rattle.theorems.specs.PaperSets.{alike_self}
use Rattle.theorems.specs.PaperFitted.{from-forward, to-forward, from-undo, to-undo}
use Rattle.theorems.specs.PaperLent.{lent-fine, zero_forward, forward-zero, zero_undo, undo_zero}

-- ---- a machine
-- Every machine with a memory of 288 words shows a configuration and an annotation of 004's: those that rules' Paper and Annotation
-- read off it.
pub shows-itself : (program : List Block) (m : Machine) → Fine m.memory → Shows program m (configuration_of m) (annotation_of program m.history)
shows-itself program m fine =
    record {
      processes = λ q. refl;
      memory = record { size = fine.size; variable = λ x lt. refl; cell = λ a lt. refl };
      history = alike_self (annotation_of program m.history);
    }

module _ (program : List Block) (S : Sound program) (m : Machine) (passed : machine_fits program m ≡ true) (p : ℕ) (here : Place)
    (live : standing m.rows p ≡ some here) (C : Configuration) (A : Annotation) (shown : Shows program m C A) where
  -- A forward step of a live process is accepted just where 004's rules have a step of that process from what the machine shows, and the
  -- history has room for one more entry (the limit that code 26 states).
  pub paper_forward :
      ((m' : Machine) × (forward program m p here ≡ made m')) ↔ (StepFrom program p C A × (length m.history < most_kept))
  paper_forward = (
    (λ x. from-forward program S m passed p here live C A shown x.0 x.1),
    (λ y. let t = y.0 in
        let x = to-forward program S m passed p here live C A shown t.block t.configuration t.annotation t.step y.1 in
        (x.0, x.1)),
  )

  -- The machine then shows what that step of 004's leads to, whichever block it was by: an accepted forward step is 004's.
  pub paper_forward_is :
      (m' : Machine) → forward program m p here ≡ made m' → (t : StepFrom program p C A) → Shows program m' t.configuration t.annotation
  paper_forward_is m' h t =
      let few = (from-forward program S m passed p here live C A shown m' h).1 in
      let x = to-forward program S m passed p here live C A shown t.block t.configuration t.annotation t.step few in
      subst (λ (k : Machine). Shows program k t.configuration t.annotation) (made-inj x.0 m' (sym x.1 ∙ h)) x.2

  -- An undo of a live process is accepted just where 004's rules have a step of that process that ends in what the machine shows. (Its
  -- memory is words: an update that wraps is taken back among words.)
  pub paper_undo : Fine m.memory → ((m' : Machine) × (undo program m p here ≡ made m')) ↔ StepTo program p C A
  paper_undo fine = (
    (λ x. from-undo program S m passed p here live C A shown fine x.0 x.1),
    (λ t. let x = to-undo program S m passed p here live C A shown fine t in (x.0, x.1)),
  )

  -- The machine then shows what that step of 004's began with: an accepted undo is 004's backward step.
  pub paper_undo_is :
      Fine m.memory → (m' : Machine) → undo program m p here ≡ made m' → (t : StepTo program p C A) →
      Shows program m' t.configuration t.annotation
  paper_undo_is fine m' h t =
      let x = to-undo program S m passed p here live C A shown fine t in
      subst (λ (k : Machine). Shows program k t.configuration t.annotation) (made-inj x.0 m' (sym x.1 ∙ h)) x.2

-- ---- lent words
module _ (l : Lent) where
  -- Lent words that pass codes 16 and 17 show a configuration and an annotation of 004's.
  pub words-show : Shows l.program (view l.words) (configuration_of (view l.words)) (annotation_of l.program (view l.words).history)
  words-show = shows-itself l.program (view l.words) (lent-fine l)

  module _ (p : ℕ) (C : Configuration) (A : Annotation) (shown : Shows l.program (view l.words) C A) where
    -- `step` forward answers 0 just where 004's rules have a step of that process from what the words show, and fewer than 4,096 entries
    -- are kept.
    pub step-forward : ((step l.image l.words p 0).answer.code ≡ 0) ↔ (StepFrom l.program p C A × (history_count l.words < most_kept))
    step-forward = (zero_forward l p C A shown, (λ y. (forward-zero l p C A shown y.0 y.1).0))

    -- The words that it leaves show what that step of 004's leads to.
    pub step-forward_is :
        (step l.image l.words p 0).answer.code ≡ 0 → (t : StepFrom l.program p C A) →
        Shows l.program (view (step l.image l.words p 0).leaves) t.configuration t.annotation
    step-forward_is e t = (forward-zero l p C A shown t (zero_forward l p C A shown e).1).1

    -- `step` as an undo answers 0 just where 004's rules have a step of that process that ends in what the words show.
    pub step-undo : ((step l.image l.words p 1).answer.code ≡ 0) ↔ StepTo l.program p C A
    step-undo = (zero_undo l p C A shown, (λ t. (undo_zero l p C A shown t).0))

    -- The words that it leaves show what that step of 004's began with.
    pub step-undo_is :
        (step l.image l.words p 1).answer.code ≡ 0 → (t : StepTo l.program p C A) →
        Shows l.program (view (step l.image l.words p 1).leaves) t.configuration t.annotation
    step-undo_is e t = (undo_zero l p C A shown t).1
