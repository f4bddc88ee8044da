-- 004's steps and `step` on lent words: a call answers 0 just where rules' forward step, or undo, of the machine that the words show is
-- accepted, and leaves that machine's words. Assumes an accepted image and words that pass codes 16 and 17 (Lent).
use Rattle.std.specs.Prelude.{◌≡◌, refl, ◌⊎◌, true, false, List, [], ◌∷◌, ℕ, suc, ◌+◌, ◌<◌, ◌≤◌, length, take, drop, eqb, ltb}
use Rattle.std.proofs.Common.{sym, ap, ◌∙◌, inl, inr, arith, get_or-take}
use Rattle.std.proofs.Math.Path.{subst}
use Rattle.std.proofs.Math.Bool.{not}
use Rattle.std.proofs.Math.Option.{Option, none, some}
use Rattle.std.proofs.Math.ListN.{get_or, get_or-eq_default}
use Rattle.std.proofs.Math.Seq.{get_or-drop}
use borrow.Author.Tests.{ltb-true, ltb-false, lt-ltb}
use Rattle.theory.specs.Tests.{bool_cases, eqb_same, and-true}
use Rattle.rules.specs.Base.{pick}
use Rattle.rules.specs.Value.{span}
use Rattle.rules.specs.Format.{named}
use Rattle.rules.specs.Machine.{Machine, begin, run, end, place, standing, most_kept, memory_words, memory_at, machine_words, history_count, history_at, view, child}
use Rattle.rules.specs.Fits.{counts_fit, unused_zero, machine_fits, fits}
use Rattle.rules.specs.Leaf.{Tried, made, refused}
use Rattle.rules.specs.Step.{forward, undo}
use Rattle.rules.specs.Words.{Outcome, step_in, step, step_at, step_of, finished, refuse}
use Rattle.rules.specs.Paper.{at, with_children, Configuration, Steps, inst, call_fork, call_merge}
use Rattle.rules.specs.Annotation.{Annotation}
use Rattle.rules.specs.declared.Block.{Block}
use Rattle.rules.specs.declared.Place.{Place}
use Rattle.laws.proofs.Pack.{Sized, clean, view-sized, view-pack, length-view_history}
use Rattle.laws.proofs.Lists.{pick_true, pick-false, each-true, each_below}
use Rattle.theorems.specs.Memory.{Fine}
use Rattle.theorems.specs.Program.{Sound}
use Rattle.theorems.specs.Codes.{Late, forward-late, undo-late}
use Rattle.theorems.specs.Played.{Subject}
use Rattle.theorems.specs.Linked.{sound, on_image_each}
use Rattle.theorems.specs.PaperShown.{Shows, StepFrom, StepTo, Lent}
use Rattle.theorems.specs.PaperValues.{at_same, at_other}
use Rattle.theorems.specs.PaperRows.{Rows}
use Rattle.theorems.specs.PaperFitted.{from-forward, to-forward, from-undo, to-undo}
use Rattle.theorems.specs.PaperSizes.{Within, forward-within, undo-within}

-- ---- a process that steps is live, before and after
with_self : (R : Rows) (p stage i : ℕ) (ls : List ℕ) → 1 ≤ i → with_children R p stage i ls p ≡ R p
with_self R p stage i [] lo = refl
with_self R p stage i (l ∷ ls) lo =
    at_other (with_children R p stage (suc i) ls) (child p i) (some (place l stage)) p (λ e. omega (arith, lo, e))
    ∙ with_self R p stage (suc i) ls (omega arith)

live-before : {program : List Block} {p b : ℕ} {C C' : Configuration} → Steps program p b C C' → (here : Place) × (C.processes p ≡ some here)
live-before (inst {here} alone inside stands enters does leaves) = (here, stands)
live-before (call_fork from to n alone inside is stands) = (place from run, stands)
live-before {p} (call_merge {processes = R} from to n alone inside is stands) = (place to run, with_self R p end 1 (named n) (omega arith) ∙ stands)

live-after : {program : List Block} {p b : ℕ} {C C' : Configuration} → Steps program p b C C' → (here : Place) × (C'.processes p ≡ some here)
live-after {p} (inst {processes = R} {next} alone inside stands enters does leaves) = (next, at_same R p (some next) p refl)
live-after {p} (call_fork {processes = R} from to n alone inside is stands) =
    (place to run, with_self (at R p (some (place to run))) p begin 1 (named n) (omega arith) ∙ at_same R p (some (place to run)) p refl)
live-after (call_merge from to n alone inside is stands) = (place to run, stands)

module _ (l : Lent) where
  abbrev pub machine : Machine
  machine = view l.words

  pub passed : (counts_fit l.words ≡ true) × (unused_zero l.words ≡ true) × (machine_fits l.program machine ≡ true)
  unfolding fits
  passed =
      let a = and-true (counts_fit l.words) _ l.fit in
      let b = and-true (unused_zero l.words) (machine_fits l.program machine) a.1 in
      (a.0, b.0, b.1)

  sizes : Sized machine
  sizes = view-sized l.words (clean l.words l.size passed.0 passed.1)

  memory_word : (i : ℕ) → get_or machine.memory i 0 < span
  unfolding view
  memory_word i = go (bool_cases (ltb i memory_words))
    where
      go : (ltb i memory_words ≡ true) ⊎ (ltb i memory_words ≡ false) → get_or (take memory_words (drop memory_at l.words)) i 0 < span
      go (inl h) =
          subst (λ (v : ℕ). v < span)
          (sym (get_or-take memory_words (drop memory_at l.words) i 0 (ltb-true i memory_words h) ∙ get_or-drop memory_at l.words i 0))
          (each_below l.words span (omega arith) l.range (memory_at + i))
      go (inr h) =
          let ge = ltb-false i memory_words h in
          let n = sizes.memory288 in
          let z : get_or (take memory_words (drop memory_at l.words)) i 0 ≡ 0 =
          get_or-eq_default (take memory_words (drop memory_at l.words)) 0 (omega (arith, ge, n)) in
          omega (arith, z)

  pub lent-fine : Fine machine.memory
  lent-fine = record { size = sizes.memory288; words = memory_word }

  pub kept-count : length machine.history ≡ history_count l.words
  unfolding view
  kept-count = length-view_history (history_count l.words) (drop history_at l.words)

  -- the image and the memory, as a run would start from them
  abbrev subject : Subject
  subject =
      record {
        image = l.image;
        bytes = l.bytes;
        program = l.program;
        past = l.past;
        decodes = l.decodes;
        blocks = l.blocks;
        peak = l.peak;
        accepts = l.accepts;
        memory = machine.memory;
        memory_size = sizes.memory288;
        memory_words_fit = each-true (λ v. ltb v span) 0 machine.memory (λ i lt. lt-ltb (get_or machine.memory i 0) span (memory_word i));
      }

  pub lent-sound : Sound l.program
  lent-sound = sound subject

  -- ---- a call
  -- it has passed codes 1 to 17
  pub passes-17 :
      (p d : ℕ) →
      step l.image l.words p d ≡ pick (ltb 1 d) (refuse 19 0 l.words) (step_at l.words l.program p d (standing machine.rows p))
  unfolding step step_in
  passes-17 p d =
      on_image_each subject l.words (step_in l.words p d)
      ∙ pick-false (not (eqb (length l.words) machine_words)) (refuse 16 0 l.words) _
      (ap not (eqb_same (length l.words) machine_words l.size))
      ∙ pick-false (not (fits l.program l.words)) (refuse 17 0 l.words) _ (ap not l.fit)

  call-is : (p d : ℕ) → ltb 1 d ≡ false → step l.image l.words p d ≡ step_at l.words l.program p d (standing machine.rows p)
  call-is p d h = passes-17 p d ∙ pick-false (ltb 1 d) (refuse 19 0 l.words) _ h

  record Accepted (p d : ℕ) : Type 0 where
    here : Place
    live : standing machine.rows p ≡ some here
    leaves : Machine
    makes : step_of l.program machine p here d ≡ made leaves

  accepted : (p d : ℕ) → ltb 1 d ≡ false → ((here : Place) → Late (step_of l.program machine p here d)) →
      (step l.image l.words p d).answer.code ≡ 0 → Accepted p d
  accepted p d h late e = go (standing machine.rows p) refl (ap (λ (o : Outcome (List ℕ)). o.answer.code) (sym (call-is p d h)) ∙ e)
    where
      at_place :
          (here : Place) → standing machine.rows p ≡ some here → (t : Tried Machine) → step_of l.program machine p here d ≡ t → Late t →
          (finished l.words t).answer.code ≡ 0 → Accepted p d
      at_place here live (made m') is late e = record { here = here; live = live; leaves = m'; makes = is }
      at_place here live (refused code) is late e = absurd (omega (arith, late, e))

      go : (o : Option Place) → standing machine.rows p ≡ o → (step_at l.words l.program p d o).answer.code ≡ 0 → Accepted p d
      go none live e = absurd (omega (arith, e))
      go (some here) live e = at_place here live (step_of l.program machine p here d) refl (late here) e

  made-call : (p d : ℕ) → ltb 1 d ≡ false → (here : Place) → standing machine.rows p ≡ some here → (m' : Machine) →
      step_of l.program machine p here d ≡ made m' → step l.image l.words p d ≡ finished l.words (made m')
  made-call p d h here live m' is =
      call-is p d h ∙ ap (step_at l.words l.program p d) live ∙ ap (finished l.words) is

  -- ---- forward is 0, undo 1
  pub forward-is : (p : ℕ) (here : Place) → step_of l.program machine p here 0 ≡ forward l.program machine p here
  forward-is p here = pick_true true (forward l.program machine p here) (undo l.program machine p here) refl

  pub undo-is : (p : ℕ) (here : Place) → step_of l.program machine p here 1 ≡ undo l.program machine p here
  undo-is p here = pick-false false (forward l.program machine p here) (undo l.program machine p here) refl

  few : Within machine
  few = record { rows = sizes.rows64; history = sizes.history4096 }

  -- what the words show that a call leaves
  left :
      (p d : ℕ) (m' : Machine) (C : Configuration) (A : Annotation) → step l.image l.words p d ≡ finished l.words (made m') → Within m' →
      Shows l.program m' C A → Shows l.program (view (step l.image l.words p d).leaves) C A
  left p d m' C A is w shown =
      let s : Sized m' = record { memory288 = shown.memory.size; rows64 = w.rows; history4096 = w.history } in
      subst (λ (k : Machine). Shows l.program k C A) (sym (ap (λ (o : Outcome (List ℕ)). view o.leaves) is ∙ view-pack m' s)) shown

  module _ (p : ℕ) (C : Configuration) (A : Annotation) (shown : Shows l.program machine C A) where
    stands : (here : Place) → C.processes p ≡ some here → standing machine.rows p ≡ some here
    stands here e = sym (shown.processes p) ∙ e

    pub zero_forward : (step l.image l.words p 0).answer.code ≡ 0 → StepFrom l.program p C A × (history_count l.words < most_kept)
    zero_forward e =
        let a = accepted p 0 refl (λ here. subst Late (sym (forward-is p here)) (forward-late l.program machine p here)) e in
        let x =
        from-forward l.program lent-sound machine passed.2 p a.here a.live C A shown a.leaves
        (sym (forward-is p a.here) ∙ a.makes) in
        let n = kept-count in
        let k = x.1 in
        (x.0, omega (arith, n, k))

    pub forward-zero : (t : StepFrom l.program p C A) → history_count l.words < most_kept →
        ((step l.image l.words p 0).answer.code ≡ 0)
        × Shows l.program (view (step l.image l.words p 0).leaves) t.configuration t.annotation
    forward-zero t lt =
        let a = live-before t.step.steps in
        let live = stands a.0 a.1 in
        let n = kept-count in
        let x =
        to-forward l.program lent-sound machine passed.2 p a.0 live C A shown t.block t.configuration t.annotation t.step
        (omega (arith, n, lt)) in
        let is = made-call p 0 refl a.0 live x.0 (forward-is p a.0 ∙ x.1) in (
          ap (λ (o : Outcome (List ℕ)). o.answer.code) is,
          left p 0 x.0 t.configuration t.annotation is (forward-within l.program machine p a.0 few x.0 x.1) x.2,
        )

    pub zero_undo : (step l.image l.words p 1).answer.code ≡ 0 → StepTo l.program p C A
    zero_undo e =
        let a = accepted p 1 refl (λ here. subst Late (sym (undo-is p here)) (undo-late l.program machine p here)) e in
        from-undo l.program lent-sound machine passed.2 p a.here a.live C A shown lent-fine a.leaves
        (sym (undo-is p a.here) ∙ a.makes)

    pub undo_zero : (t : StepTo l.program p C A) →
        ((step l.image l.words p 1).answer.code ≡ 0)
        × Shows l.program (view (step l.image l.words p 1).leaves) t.configuration t.annotation
    undo_zero t =
        let a = live-after t.step.steps in
        let live = stands a.0 a.1 in
        let x = to-undo l.program lent-sound machine passed.2 p a.0 live C A shown lent-fine t in
        let is = made-call p 1 refl a.0 live x.0 (undo-is p a.0 ∙ x.1) in (
          ap (λ (o : Outcome (List ℕ)). o.answer.code) is,
          left p 1 x.0 t.configuration t.annotation is (undo-within l.program machine p a.0 few x.0 x.1) x.2,
        )
