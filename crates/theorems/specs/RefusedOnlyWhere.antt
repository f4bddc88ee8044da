-- Demand 2, its second sentence: a step is refused only where 004 has no such step, or at a stated limit. For every accepted image and
-- every machine that passes code 17, reached by a run or not; the codes before 20 are refusals of the call and not of a step.
use Rattle.std.specs.Prelude.{◌≡◌, ◌⊎◌, ◌≢◌, Bool, length, eqb, leb, ltb}
use Rattle.std.proofs.Math.Path.{refl, ap}
use Rattle.std.proofs.Common.{sym, ◌∙◌, subst, inl, inr, arith}
use Rattle.std.proofs.Math.Bool.{true, false}
use Rattle.std.proofs.Math.Option.{Option, none, some}
use mathlib.Core.List.{List, [], ◌∷◌}
use Prim.Native.Nat.{ℕ, ◌≤◌}
use Rattle.std.proofs.Math.Decide.{ℕ_discrete}
use borrow.Author.Tests.{eqb-false}
use Rattle.theory.specs.Tests.{true_false, eqb-other}
use Rattle.rules.specs.Base.{pick}
use Rattle.rules.specs.Labels.{block_of}
use Rattle.rules.specs.Machine.{Machine, end, standing, children, most_kept, history_count, view}
use Rattle.rules.specs.Fits.{entry_block, exit_block, machine_fits}
use Rattle.rules.specs.Leaf.{Tried, made, refused, Moved, leaf_forward}
use Rattle.rules.specs.Step.{waits, fork, merge, leaf_step, forward_childless, forward, undo}
use Rattle.rules.specs.Words
use Rattle.rules.specs.Words.{Outcome, refuse, finished, step_at, step}
use Rattle.rules.specs.Paper.{Configuration}
use Rattle.rules.specs.Annotation.{Annotation, annotation_of}
use Rattle.rules.specs.declared.Block.{Block}
use Rattle.rules.specs.declared.Place.{Place}
use Rattle.laws.proofs.Lists.{pick_true, pick-false}
use Rattle.theorems.specs.Evaluate.{refused-made, made-pick, after-made}
use Rattle.theorems.specs.Memory.{Fine}
use Rattle.theorems.specs.Parts.{calls}
use Rattle.theorems.specs.Program.{Sound}
use Rattle.theorems.specs.Children.{Childless}
use Rattle.theorems.specs.Waiting.{no_children}
use Rattle.theorems.specs.Forward.{step_of}
use Rattle.theorems.specs.Fitted.{fitted, fitted-order, fitted-room}
use Rattle.theorems.specs.Refused.{WhyForward, ended, waiting, full, leaf, why_forward, never_28}
use Rattle.theorems.specs.PaperShown.{Shows, StepFrom, StepTo, Lent}
use Rattle.theorems.specs.PaperSets.{alike_self}
use Rattle.theorems.specs.PaperGraph.{keep-extends}
use Rattle.theorems.specs.PaperForward.{steps-forward}
use Rattle.theorems.specs.PaperFitted.{to-undo}
use Rattle.theorems.specs.PaperLent.{machine, passed, kept-count, passes-17, forward-is, lent-fine, lent-sound}

module _ (program : List Block) (m : Machine) (p : ℕ) where
  -- 004 has no step of the process from anything that the machine shows
  abbrev pub NoStepFrom : Type 1
  NoStepFrom = (C : Configuration) (A : Annotation) → Shows program m C A → StepFrom program p C A → ⊥

  -- 004 has no step of the process that leads to anything that the machine shows
  abbrev pub NoStepTo : Type 1
  NoStepTo = (C : Configuration) (A : Annotation) → Shows program m C A → StepTo program p C A → ⊥

-- ---- on a machine
module _ (program : List Block) (S : Sound program) (m : Machine) (passed : machine_fits program m ≡ true) (p : ℕ) (here : Place)
    (live : standing m.rows p ≡ some here) where
  -- the machine without its history: whether 004's figure 2 has a step is not a matter of the history
  bare : Machine
  bare = record { memory = m.memory; rows = m.rows; history = [] }

  -- where 004 has a step, the machine without its history makes one
  bare-made :
      (C : Configuration) (A : Annotation) → Shows program m C A → StepFrom program p C A →
      (m' : Machine) × (forward program bare p here ≡ made m')
  unfolding bare
  bare-made C A shown t =
      let f = fitted program S m passed in
      let x =
      steps-forward program S bare p here live (fitted-order program m passed) f.1.tree f.0 C t.configuration (annotation_of program [])
      (annotation_of program (step_of p t.block ∷ [])) t.block
      (record { processes = shown.processes; memory = shown.memory; history = alike_self (annotation_of program []) })
      (record { steps = t.step.steps; extends = keep-extends program S [] p t.block }) (omega arith)
      (λ free c. fitted-room program S m passed p here (entry_block program here) live free c (inl refl)) in
      (x.0, x.1)

  record Ready : Type 0 where
    going : here.stage ≢ end
    gathered : waits m p end ≡ false
    leaf_made_so :
        Childless (standing m.rows) p → calls program (entry_block program here) ≡ false →
        (s : Moved) × (leaf_forward m.memory here (block_of program (entry_block program here)) ≡ made s)

  -- what it then has passed, the machine passes too
  ready : (m' : Machine) → forward program bare p here ≡ made m' → Ready
  unfolding bare forward forward_childless waits leaf_step
  ready m' h =
      let t₁ = made-pick (eqb here.stage end) _ 21 m' h in
      let t₂ = made-pick (waits m p end) _ 20 m' t₁.1 in
      let t₃ = made-pick (leb most_kept 0) _ 26 m' t₂.1 in
      record { going = eqb-false here.stage end t₁.0; gathered = t₂.0; leaf_made_so = λ free c. leafy free c t₃.1 }
    where
      b : ℕ
      b = entry_block program here

      leafy :
          Childless (standing m.rows) p → calls program b ≡ false →
          pick (eqb (length (children m.rows p)) 0) (forward_childless program bare p here b) (merge bare p (exit_block program here)) ≡ made m' →
          (s : Moved) × (leaf_forward m.memory here (block_of program b) ≡ made s)
      leafy free c g =
          let f = fitted program S m passed in
          let z = no_children m.rows p (fitted-order program m passed) f.1.tree free in
          let x =
          after-made (leaf_forward m.memory here (block_of program b)) _ m'
          (sym (pick-false (calls program b) (fork program bare p b) _ c) ∙ sym (pick_true (eqb (length (children m.rows p)) 0) _ _ z) ∙ g) in
          (x.0, x.1)

  -- A forward step is refused only where the history is full (26) or 004 has no step of the process.
  pub forward-refused :
      (code : ℕ) → forward program m p here ≡ refused code → ((code ≡ 26) × (most_kept ≤ length m.history)) ⊎ NoStepFrom program m p
  forward-refused code h = go (why_forward program S m passed p here live code h)
    where
      against : (Ready → ⊥) → NoStepFrom program m p
      against n C A shown t = let x = bare-made C A shown t in n (ready x.0 x.1)

      go : {code : ℕ} → WhyForward program m p here code → ((code ≡ 26) × (most_kept ≤ length m.history)) ⊎ NoStepFrom program m p
      go (ended e) = inr (against (λ r. r.going e))
      go (waiting w) = inr (against (λ r. true_false w r.gathered))
      go (full l) = inl (refl, l)
      go (leaf {code} free c q) = inr (against (λ r. let x = r.leaf_made_so free c in refused-made code x.0 (sym q ∙ x.1)))

  -- An undo is refused only where 004 has no step of the process that leads there.
  pub undo-refused : (code : ℕ) → undo program m p here ≡ refused code → Fine m.memory → NoStepTo program m p
  undo-refused code h fine C A shown t = let x = to-undo program S m passed p here live C A shown fine t in refused-made code x.0 (sym h ∙ x.1)

-- ---- on lent words
module _ (l : Lent) where
  abbrev code : ℕ → ℕ → ℕ
  code p direction = (step l.image l.words p direction).answer.code

  -- what is refused with a code from 20 on is a step of a live process
  record Late (p direction : ℕ) : Type 0 where
    here : Place
    live : standing (machine l).rows p ≡ some here
    tried : Words.step_of l.program (machine l) p here direction ≡ refused (code p direction)

  Over : Outcome (List ℕ) → Type 0
  Over o = 20 ≤ o.answer.code

  past-19 : (t : Bool) (o : Outcome (List ℕ)) → Over (pick t (refuse 19 0 l.words) o) → pick t (refuse 19 0 l.words) o ≡ o
  unfolding pick Over
  past-19 true o h = absurd (omega arith)
  past-19 false o h = refl

  finished-late : (t : Tried Machine) → Over (finished l.words t) → t ≡ refused (finished l.words t).answer.code
  unfolding Over
  finished-late (made m) h = absurd (omega arith)
  finished-late (refused c) h = refl

  late-at :
      (p direction : ℕ) (o : Option Place) → Over (step_at l.words l.program p direction o) →
      (here : Place) × (o ≡ some here)
      × (Words.step_of l.program (machine l) p here direction ≡ refused (step_at l.words l.program p direction o).answer.code)
  unfolding Over
  late-at p direction none h = absurd (omega arith)
  late-at p direction (some here) h = (here, refl, finished-late (Words.step_of l.program (machine l) p here direction) h)

  late : (p direction : ℕ) → 20 ≤ code p direction → Late p direction
  unfolding Over
  late p direction h =
      let a = passes-17 l p direction in
      let all = a ∙ past-19 (ltb 1 direction) _ (subst Over a h) in
      let d = late-at p direction (standing (machine l).rows p) (subst Over all h) in
      record { here = d.0; live = d.1; tried = d.2 ∙ ap (λ (o : Outcome (List ℕ)). refused o.answer.code) (sym all) }

  ahead : (p : ℕ) (x : Late p 0) → forward l.program (machine l) p x.here ≡ refused (code p 0)
  ahead p x = sym (forward-is l p x.here) ∙ x.tried

  behind : (p direction : ℕ) (x : Late p direction) → direction ≢ 0 → undo l.program (machine l) p x.here ≡ refused (code p direction)
  behind p direction x n = sym (pick-false (eqb direction 0) _ _ (eqb-other direction 0 n)) ∙ x.tried

-- ---- the statement, for an accepted image and lent words that pass codes 16 and 17: no other words answer a code from 20 on
pub record RefusedOnlyWhere (l : Lent) : Type 1 where
  -- A forward step that answers a code from 20 on has met a full history, 26, or 004 has no step of the process from any configuration
  -- that has the machine's variables, cells and processes, with the graph of its history.
  pub forward_only_where :
      (process : ℕ) → 20 ≤ (step l.image l.words process 0).answer.code →
      (((step l.image l.words process 0).answer.code ≡ 26) × (most_kept ≤ history_count l.words))
      ⊎ NoStepFrom l.program (view l.words) process
  -- Where an undo answers a code from 20 on, 004 has no step of the process that leads to such a configuration and graph.
  pub undo_only_where :
      (process : ℕ) → 20 ≤ (step l.image l.words process 1).answer.code → NoStepTo l.program (view l.words) process
  -- No step answers 28, whatever the process and the direction: there is always room for the children's rows.
  pub no_28 : (process direction : ℕ) → (step l.image l.words process direction).answer.code ≡ 28 → ⊥

-- A step is refused only where 004 has no such step, or at a stated limit: 26, and 25 for the 256 cells.
pub refused-only_where : (l : Lent) → RefusedOnlyWhere l
refused-only_where l =
    record {
      forward_only_where = λ p h. let x = late l p 0 h in
          counted (code l p 0)
          (forward-refused l.program (lent-sound l) (machine l) (passed l).2 p x.here x.live (code l p 0) (ahead l p x));
      undo_only_where = λ p h. let x = late l p 1 h in
          undo-refused l.program (lent-sound l) (machine l) (passed l).2 p x.here x.live (code l p 1)
          (behind l p 1 x (λ e. omega (arith, e))) (lent-fine l);
      no_28 = λ p direction e. over p direction e (ℕ_discrete direction 0);
    }
  where
    counted :
        {A : Type 1} (c : ℕ) → ((c ≡ 26) × (most_kept ≤ length (machine l).history)) ⊎ A → ((c ≡ 26) × (most_kept ≤ history_count l.words)) ⊎ A
    counted c (inl y) = let n = kept-count l in let k = y.1 in inl (y.0, omega (arith, n, k))
    counted c (inr y) = inr y

    over : (p direction : ℕ) → code l p direction ≡ 28 → Dec (direction ≡ 0) → ⊥
    over p direction e (yes z) =
        let e₀ : code l p 0 ≡ 28 = ap (code l p) (sym z) ∙ e in
        let x = late l p 0 (omega (arith, e₀)) in
        (never_28 l.program (lent-sound l) (machine l) (passed l).2 p x.here x.live).0 (ahead l p x ∙ ap refused e₀)
    over p direction e (no n) =
        let x = late l p direction (omega (arith, e)) in
        (never_28 l.program (lent-sound l) (machine l) (passed l).2 p x.here x.live).1 (behind l p direction x n ∙ ap refused e)
