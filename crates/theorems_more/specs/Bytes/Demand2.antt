-- Demand 2 on bytes: the statements of Demand2 and RefusedOnlyWhere for `step_bytes`, the step as C calls it, on every image of which
-- judging answers 0
-- and every 34,696 lent bytes that pass code 17, reached by a run or not.
use Rattle.std.specs.Prelude.{◌≡◌, refl, ◌⊎◌, ◌↔◌, Bool, List, ℕ, ◌<◌, ◌≤◌, eqb, ltb}
use Rattle.std.proofs.Common.{sym, ◌∙◌, subst}
use Rattle.std.proofs.Math.Path.{ap}
use Rattle.std.proofs.Math.Bool.{true, false}
use Rattle.std.proofs.Math.Option.{Option, none, some}
use Rattle.rules.specs.Base.{pick}
use Rattle.rules.specs.Machine.{Machine, standing, most_kept, machine_words, history_count, pack, view}
use Rattle.rules.specs.Leaf.{Tried, made, refused}
use Rattle.rules.specs.Step.{forward, undo}
use Rattle.rules.specs.Words.{Outcome, refuse, step_of, finished, step_at, step, words_of, to_bytes, step_bytes}
use Rattle.rules.specs.Paper.{Configuration, configuration_of}
use Rattle.rules.specs.Annotation.{Annotation, annotation_of}
use Rattle.rules.specs.declared.Block.{Block}
use Rattle.rules.specs.declared.Place.{Place}
use Rattle.laws.proofs.Pack.{Sized, clean, view-sized}
use Rattle.laws.proofs.Lists.{pick_true, pick-false}
use Rattle.theorems.specs.Memory.{Fine}
use Rattle.theorems_more.specs.Refusing.FaultCodes.{accepted-image}
use Rattle.theorems_more.specs.Subjects.{Words, program_of, LentBytes}
use Rattle.theorems.specs.PaperShown.{Shows, StepFrom, StepTo, Lent}
use Rattle.theorems.specs.PaperSizes.{Within, forward-within, undo-within}
use Rattle.theorems.specs.PaperLent.{machine, passed, passes-17, lent-fine, lent-sound}
use Rattle.theorems_more.specs.ProcessSets.{ProcessSet, shown-process_set}
use Rattle.theorems.specs.Demand2
use Rattle.theorems.specs.RefusedOnlyWhere.{NoStepFrom, NoStepTo, refused-only_where}
use Rattle.theorems_more.specs.Bytes.Words.{words-again, length-words, are_words, step-on_words}
use Rattle.theorems_more.specs.Bytes.FitWords.{Worded, fit-worded, worded-words}
use Rattle.theorems_more.specs.Bytes.StepWords.{every_made, forward-worded, undo-worded}

-- ---- what a step leaves are words
module _ (l : Lent) where
  sizes : Sized (machine l)
  sizes = view-sized l.words (clean l.words l.size (passed l).0 (passed l).1)

  made-words : (m : Machine) → Fine m.memory → Within m → Worded m → Words (pack m)
  made-words m f w k = worded-words m (record { memory288 = f.size; rows64 = w.rows; history4096 = w.history }) k

  few : Within (machine l)
  few = record { rows = sizes.rows64; history = sizes.history4096 }

  worded : Worded (machine l)
  worded = fit-worded l.program (lent-sound l) (machine l) (passed l).2 (lent-fine l)

  finished-words :
      (p : ℕ) (here : Place) (ahead : Bool) → standing (machine l).rows p ≡ some here → (t : Tried Machine) →
      pick ahead (forward l.program (machine l) p here) (undo l.program (machine l) p here) ≡ t → Words (finished l.words t).leaves
  unfolding pick
  finished-words p here ahead live (refused code) e = l.range
  finished-words p here true live (made m) e =
      let w = every_made Worded _ m (forward-worded l.program (lent-sound l) (machine l) (passed l).2 worded p here live) e in
      made-words m w.memory (forward-within l.program (machine l) p here few m e) w
  finished-words p here false live (made m) e =
      let w = every_made Worded _ m (undo-worded l.program (lent-sound l) (machine l) (passed l).2 worded p here live) e in
      made-words m w.memory (undo-within l.program (machine l) p here few m e) w

  -- Every word that a step leaves is below 2 ^ 32, whatever the process and the direction.
  pub step_words : (p d : ℕ) → Words (step l.image l.words p d).leaves
  step_words p d = subst (λ (o : Outcome (List ℕ)). Words o.leaves) (sym (passes-17 l p d)) (go (ltb 1 d))
    where
      at : (o : Option Place) → standing (machine l).rows p ≡ o → Words (step_at l.words l.program p d o).leaves
      at none e = l.range
      at (some here) e = finished-words p here (eqb d 0) e (step_of l.program (machine l) p here d) refl

      rest : Outcome (List ℕ)
      rest = step_at l.words l.program p d (standing (machine l).rows p)

      go : (t : Bool) → Words (pick t (refuse 19 0 l.words) rest).leaves
      go true = subst (λ (o : Outcome (List ℕ)). Words o.leaves) (sym (pick_true true (refuse 19 0 l.words) rest refl)) l.range
      go false =
          subst (λ (o : Outcome (List ℕ)). Words o.leaves) (sym (pick-false false (refuse 19 0 l.words) rest refl))
          (at (standing (machine l).rows p) refl)

-- ---- lent bytes
module _ (b : LentBytes) where
  abbrev program : List Block
  program = program_of b.image

  abbrev pub lent_of : Lent
  lent_of =
      let j = accepted-image b.image.bytes b.image.accepted in
      record {
        image = b.image.bytes;
        bytes = b.image.are;
        program = program_of b.image;
        past = j.past;
        decodes = j.decodes;
        blocks = j.blocks;
        peak = j.peak;
        accepts = j.accepts;
        words = words_of b.bytes;
        size = length-words b.bytes machine_words b.size;
        range = are_words b.bytes b.are;
        fit = b.fit;
      }

  abbrev pub shown_by : Machine
  shown_by = view (words_of b.bytes)

  -- the step, as C calls it, what it answers, and the machine that its bytes then show
  abbrev pub code : ℕ → ℕ → ℕ
  code p d = (step_bytes b.image.bytes b.bytes p d).answer.code

  abbrev pub left : ℕ → ℕ → Machine
  left p d = view (words_of (step_bytes b.image.bytes b.bytes p d).leaves)

  is : (p d : ℕ) → step_bytes b.image.bytes b.bytes p d ≡ to_bytes (step b.image.bytes (words_of b.bytes) p d)
  is p d = step-on_words b.image.bytes b.bytes b.are b.size p d

  code_is : (p d : ℕ) → code p d ≡ (step b.image.bytes (words_of b.bytes) p d).answer.code
  unfolding to_bytes
  code_is p d = ap (λ (o : Outcome (List ℕ)). o.answer.code) (is p d)

  left_is : (p d : ℕ) → left p d ≡ view (step b.image.bytes (words_of b.bytes) p d).leaves
  unfolding to_bytes
  left_is p d =
      ap (λ (o : Outcome (List ℕ)). view (words_of o.leaves)) (is p d)
      ∙ ap view (words-again (step b.image.bytes (words_of b.bytes) p d).leaves (step_words lent_of p d))

  -- Lent bytes that pass codes 16 and 17 show a configuration and an annotation of 004's.
  pub bytes-show : Shows program shown_by (configuration_of shown_by) (annotation_of program shown_by.history)
  bytes-show = Demand2.words-show lent_of

  -- Whatever configuration they show, its active processes are a process set, as 004 asks.
  pub process-set_bytes : (C : Configuration) (A : Annotation) → Shows program shown_by C A → ProcessSet C.processes
  process-set_bytes C A shown = shown-process_set program (lent-sound lent_of) shown_by (passed lent_of).2 C A shown

  module _ (p : ℕ) (C : Configuration) (A : Annotation) (shown : Shows program shown_by C A) where
    -- A step forward answers 0 just where 004's rules have a step of that process from what the bytes show, and fewer than 4,096 entries are kept.
    pub step-forward_bytes : (code p 0 ≡ 0) ↔ (StepFrom program p C A × (history_count (words_of b.bytes) < most_kept))
    step-forward_bytes =
        let x = Demand2.step-forward lent_of p C A shown in
        ((λ e. x.0 (sym (code_is p 0) ∙ e)), (λ y. code_is p 0 ∙ x.1 y))

    -- The bytes that it leaves show what that step of 004's leads to.
    pub step-forward_is_bytes : code p 0 ≡ 0 → (t : StepFrom program p C A) → Shows program (left p 0) t.configuration t.annotation
    step-forward_is_bytes e t =
        subst (λ (m : Machine). Shows program m t.configuration t.annotation) (sym (left_is p 0))
        (Demand2.step-forward_is lent_of p C A shown (sym (code_is p 0) ∙ e) t)

    -- An undo answers 0 just where 004's rules have a step of that process that ends in what the bytes show.
    pub step-undo_bytes : (code p 1 ≡ 0) ↔ StepTo program p C A
    step-undo_bytes =
        let x = Demand2.step-undo lent_of p C A shown in
        ((λ e. x.0 (sym (code_is p 1) ∙ e)), (λ y. code_is p 1 ∙ x.1 y))

    -- The bytes that it leaves show what that step of 004's began with.
    pub step-undo_is_bytes : code p 1 ≡ 0 → (t : StepTo program p C A) → Shows program (left p 1) t.configuration t.annotation
    step-undo_is_bytes e t =
        subst (λ (m : Machine). Shows program m t.configuration t.annotation) (sym (left_is p 1))
        (Demand2.step-undo_is lent_of p C A shown (sym (code_is p 1) ∙ e) t)

  -- A forward step that answers a code from 20 on has met a full history, 26, or 004 has no step of the process from what the bytes show.
  pub forward-only_where_bytes :
      (p : ℕ) → 20 ≤ code p 0 → ((code p 0 ≡ 26) × (most_kept ≤ history_count (words_of b.bytes))) ⊎ NoStepFrom program shown_by p
  forward-only_where_bytes p h =
      let e = code_is p 0 in
      subst (λ (c : ℕ). ((c ≡ 26) × (most_kept ≤ history_count (words_of b.bytes))) ⊎ NoStepFrom program shown_by p) (sym e)
      ((refused-only_where lent_of).forward_only_where p (subst (λ (c : ℕ). 20 ≤ c) e h))

  -- Where an undo answers a code from 20 on, 004 has no step of the process that leads to what the bytes show.
  pub undo-only_where_bytes : (p : ℕ) → 20 ≤ code p 1 → NoStepTo program shown_by p
  undo-only_where_bytes p h = (refused-only_where lent_of).undo_only_where p (subst (λ (c : ℕ). 20 ≤ c) (code_is p 1) h)

  -- 28 never comes.
  pub no_28_bytes : (p d : ℕ) → code p d ≡ 28 → ⊥
  no_28_bytes p d e = (refused-only_where lent_of).no_28 p d (sym (code_is p d) ∙ e)
