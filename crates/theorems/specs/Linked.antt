-- Every machine that is played from the start is the words of a reached machine. Assumes what a run starts from.
use Rattle.std.specs.Prelude.{◌≡◌, refl, ◌⊎◌, true, false, ◌&&◌, ℕ, length, ltb}
use Rattle.std.proofs.Common.{sym, ◌∙◌, subst, inl, inr, arith}
use Rattle.std.proofs.Math.Path.{ap}
use Rattle.std.proofs.Math.Bool.{not}
use Rattle.std.proofs.Math.Option.{Option, none, some}
use mathlib.Core.List.{List, [], ◌∷◌}
use Rattle.std.proofs.Math.Dec.{eqb}
use Rattle.theory.specs.Tests.{bool_cases, eqb_same, true_and}
use Rattle.rules.specs.Base.{pick}
use Rattle.rules.specs.Value.{span}
use Rattle.rules.specs.Machine.{Machine, standing, started, pack, view, memory_words, machine_words}
use Rattle.rules.specs.Fits.{fits}
use Rattle.rules.specs.Leaf.{Tried, made, refused}
use Rattle.rules.specs.Step.{forward, undo}
use Rattle.rules.specs.Words.{Outcome, on_image, read_then, judged_then, start_in, start, step_in, step, step_at, step_of, finished, refuse, accept}
use Rattle.rules.specs.declared.Block.{Block}
use Rattle.rules.specs.declared.Place.{Place}
use Rattle.laws.proofs.Decoded.{fit, few}
use Rattle.laws.proofs.Pack.{Sized, length-pack, view-pack}
use Rattle.laws.proofs.Lists.{pick_true, pick-false, each_below}
use Rattle.theorems.specs.Accepted.{passed}
use Rattle.theorems.specs.Memory.{Fine}
use Rattle.theorems.specs.Program.{Sound}
use Rattle.theorems.specs.Reached.{Reached, reached-memory, reached-start, reached-forward, reached-undo}
use Rattle.theorems.specs.Fitting.{reached-machine_fits, reached-room}
use Rattle.theorems.specs.Packed.{packed-fits}
use Rattle.theorems.specs.Played.{Call, play, Subject, started_in, played_in}

module _ (s : Subject) where
  pub sound : Sound s.program
  sound =
      record {
        passes = passed s.program s.blocks s.peak s.accepts;
        fit = fit s.image (each_below s.image 256 (omega arith) s.bytes) s.program s.past s.decodes;
        few = few s.image s.program s.past s.decodes;
      }

  pub first_fine : Fine s.memory
  first_fine = record { size = s.memory_size; words = each_below s.memory span (omega arith) s.memory_words_fit }

  abbrev pub ReachedIn : Machine → Type 0
  ReachedIn m = Reached s.program sound s.memory first_fine m

  pub sized : (m : Machine) → ReachedIn m → Sized m
  sized m r =
      record {
        memory288 = (reached-memory s.program sound s.memory first_fine m r).size;
        rows64 = reached-room s.program sound s.memory first_fine m r;
        history4096 = r.few;
      }

  -- the words of a reached machine
  pub record Linked (w : List ℕ) : Type 0 where
    pub machine : Machine
    pub packed : w ≡ pack machine
    pub reached : ReachedIn machine

  pub linked-view : (w : List ℕ) (l : Linked w) → view w ≡ l.machine
  linked-view w l = ap view l.packed ∙ view-pack l.machine (sized l.machine l.reached)

  pub linked-length : (w : List ℕ) (l : Linked w) → length w ≡ machine_words
  linked-length w l = ap length l.packed ∙ length-pack l.machine (sized l.machine l.reached)

  pub linked-fits : (w : List ℕ) → Linked w → fits s.program w ≡ true
  linked-fits w l =
      let m = l.machine in
      ap (fits s.program) l.packed ∙ packed-fits m (sized m l.reached) s.program
      (reached-machine_fits s.program sound s.memory first_fine m l.reached)

  -- ---- the codes of judging are past
  pub on_image_each : (w : List ℕ) (f : List Block → Outcome (List ℕ)) → on_image s.image w f ≡ f s.program
  unfolding on_image
  on_image_each w f = ap (λ r. read_then r w f) s.decodes ∙ ap (λ j. judged_then j w (f s.program)) s.accepts

  pub start_is : (lent : List ℕ) → length lent ≡ machine_words → started_in s lent ≡ pack (started s.memory)
  unfolding start start_in
  start_is lent h =
      ap (λ (o : Outcome (List ℕ)). o.leaves)
      (on_image_each lent (start_in s.memory lent)
      ∙ pick_true (eqb (length s.memory) memory_words && eqb (length lent) machine_words) (accept (pack (started s.memory))) (refuse 16 0 lent)
      (true_and (eqb (length s.memory) memory_words) (eqb (length lent) machine_words) (eqb_same (length s.memory) memory_words s.memory_size)
      (eqb_same (length lent) machine_words h)))

  pub start-linked : (lent : List ℕ) → length lent ≡ machine_words → Linked (started_in s lent)
  start-linked lent h =
      record { machine = started s.memory; packed = start_is lent h; reached = reached-start s.program sound s.memory first_fine }

  -- ---- a step on the words of a reached machine
  pub step_is :
      (w : List ℕ) (p d : ℕ) → Linked w → step s.image w p d ≡ pick (ltb 1 d) (refuse 19 0 w)
      (step_at w s.program p d (standing (view w).rows p))
  unfolding step step_in
  step_is w p d l =
      on_image_each w (step_in w p d)
      ∙ pick-false (not (eqb (length w) machine_words)) (refuse 16 0 w) _ (ap not (eqb_same (length w) machine_words (linked-length w l)))
      ∙ pick-false (not (fits s.program w)) (refuse 17 0 w) _ (ap not (linked-fits w l))

  finished-linked :
      (w : List ℕ) (p : ℕ) (here : Place) (d : ℕ) (l : Linked w) → standing l.machine.rows p ≡ some here → (t : Tried Machine) →
      step_of s.program l.machine p here d ≡ t → Linked (finished w t).leaves
  finished-linked w p here d l live (refused code) e = l
  finished-linked w p here d l live (made m') e = record { machine = m'; packed = refl; reached = go (bool_cases (eqb d 0)) }
    where
      m : Machine
      m = l.machine

      go : (eqb d 0 ≡ true) ⊎ (eqb d 0 ≡ false) → ReachedIn m'
      go (inl h) =
          reached-forward s.program sound s.memory first_fine m p here live l.reached m'
          (sym (pick_true (eqb d 0) (forward s.program m p here) (undo s.program m p here) h) ∙ e)
      go (inr h) =
          reached-undo s.program sound s.memory first_fine m p here live l.reached m'
          (sym (pick-false (eqb d 0) (forward s.program m p here) (undo s.program m p here) h) ∙ e)

  at-linked :
      (w : List ℕ) (p d : ℕ) (l : Linked w) (o : Option Place) → standing l.machine.rows p ≡ o → Linked (step_at w s.program p d o).leaves
  at-linked w p d l none e = l
  at-linked w p d l (some here) e =
      let v = linked-view w l in
      subst (λ (m : Machine). Linked (finished w (step_of s.program m p here d)).leaves) (sym v)
      (finished-linked w p here d l e (step_of s.program l.machine p here d) refl)

  pub step-linked : (w : List ℕ) (p d : ℕ) → Linked w → Linked (step s.image w p d).leaves
  step-linked w p d l = subst (λ (o : Outcome (List ℕ)). Linked o.leaves) (sym (step_is w p d l)) (go (bool_cases (ltb 1 d)))
    where
      rest : Outcome (List ℕ)
      rest = step_at w s.program p d (standing (view w).rows p)

      inner : Linked rest.leaves
      inner = at-linked w p d l (standing (view w).rows p) (ap (λ (m : Machine). standing m.rows p) (sym (linked-view w l)))

      go : (ltb 1 d ≡ true) ⊎ (ltb 1 d ≡ false) → Linked (pick (ltb 1 d) (refuse 19 0 w) rest).leaves
      go (inl h) = subst (λ (o : Outcome (List ℕ)). Linked o.leaves) (sym (pick_true (ltb 1 d) (refuse 19 0 w) rest h)) l
      go (inr h) = subst (λ (o : Outcome (List ℕ)). Linked o.leaves) (sym (pick-false (ltb 1 d) (refuse 19 0 w) rest h)) inner

  pub play-linked : (w : List ℕ) (calls : List Call) → Linked w → Linked (play s.image w calls)
  unfolding play
  play-linked w [] l = l
  play-linked w (c ∷ calls) l =
      play-linked (step s.image w c.process c.direction).leaves calls (step-linked w c.process c.direction l)

  pub played : (lent : List ℕ) (calls : List Call) → length lent ≡ machine_words → Linked (played_in s lent calls)
  played lent calls h = play-linked (started_in s lent) calls (start-linked lent h)
