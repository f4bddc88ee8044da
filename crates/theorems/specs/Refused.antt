-- Why a forward step or an undo is refused, on a machine that passes code 17: each refusal with what was met. Code 28 is not among
-- them: main's peak leaves room for every call's children. Assumes that the image is sound.
use Rattle.std.specs.Prelude.{◌≡◌, ◌⊎◌, ◌≢◌, Bool, List, eqb, leb}
use Rattle.std.proofs.Math.Path.{refl, sym, ap, subst}
use Rattle.std.proofs.Common.{◌∙◌, inl, inr, arith}
use Rattle.std.proofs.Math.Bool.{true, false}
use Rattle.std.proofs.Math.Option.{some}
use Prim.Native.Nat.{ℕ, ◌+◌, ◌≤◌}
use Rattle.std.proofs.Math.ListN.{length}
use borrow.Author.Tests.{eqb-true, leb-true, le-ltb}
use Rattle.rules.specs.Base.{pick}
use Rattle.rules.specs.Labels.{block_of, called}
use Rattle.rules.specs.Calls.{most_rows}
use Rattle.rules.specs.Machine.{Machine, begin, end, standing, children, most_kept}
use Rattle.rules.specs.Fits.{entry_block, exit_block, machine_fits}
use Rattle.rules.specs.Cause.{holds}
use Rattle.rules.specs.Leaf.{Tried, made, refused, after, leaf_forward, leaf_undo, entry_place, exit_place}
use Rattle.rules.specs.Step.{waits, crowded, fork, undo_fork, merge, undo_merge, leaf_step, undo_leaf, forward_childless, forward, undo_childless, undo}
use Rattle.rules.specs.declared.Block.{Block}
use Rattle.rules.specs.declared.Place.{Place}
use Rattle.laws.proofs.Lists.{pick_true, pick-false}
use Rattle.theorems.specs.Evaluate.{refused-made, made_after}
use Rattle.theorems.specs.Parts.{calls, into_of, out_of}
use Rattle.theorems.specs.Program.{Sound, call-in_image}
use Rattle.theorems.specs.Children.{Childless}
use Rattle.theorems.specs.Waiting.{childless-of, some-children}
use Rattle.theorems.specs.Forward.{exit-to}
use Rattle.theorems.specs.Backward.{at_call, entry-from}
use Rattle.theorems.specs.Codes.{Only, leaf-only, unleaf-only}
use Rattle.theorems.specs.Fitted.{fitted-order, fitted, fitted-room}

-- ---- what is refused
module _ {A : Type 0} where
  refused-inj : (c d : ℕ) → Path (Tried A) (refused c) (refused d) → c ≡ d
  refused-inj c d h = cc

  not_refused : {B : Type 0} (a : A) (code : ℕ) → Path (Tried A) (made a) (refused code) → B
  not_refused a code h = refused-made code a (sym h)

  -- a test that refuses, or the rest
  refused-by :
      {Z : Type 0} (t : Bool) (x : Tried A) (c code : ℕ) → pick t (refused c) x ≡ refused code → (t ≡ true → c ≡ code → Z) →
      (t ≡ false → x ≡ refused code → Z) → Z
  unfolding pick
  refused-by true x c code h f g = f refl (refused-inj c code h)
  refused-by false x c code h f g = g refl h

  only-refused : (P : ℕ → Type 0) (t : Tried A) (code : ℕ) → Only P t → t ≡ refused code → P code
  only-refused P t code o e = subst (Only P) e o

module _ {A B : Type 0} where
  -- where what follows is made, the first was refused
  refused-after : (t : Tried A) (g : A → B) (code : ℕ) → after t (λ a. made (g a)) ≡ refused code → t ≡ refused code
  unfolding after
  refused-after (made a) g code h = not_refused (g a) code h
  refused-after (refused c) g code h = ap refused (refused-inj c code h)

-- why a forward step is refused
pub data WhyForward (program : List Block) (m : Machine) (p : ℕ) (here : Place) : ℕ → Type 0 where
  ended : here.stage ≡ end → WhyForward program m p here 21
  waiting : waits m p end ≡ true → WhyForward program m p here 20
  full : most_kept ≤ length m.history → WhyForward program m p here 26
  leaf :
      {code : ℕ} → Childless (standing m.rows) p → calls program (entry_block program here) ≡ false →
      leaf_forward m.memory here (block_of program (entry_block program here)) ≡ refused code → WhyForward program m p here code

-- why an undo is refused
pub data WhyUndo (program : List Block) (m : Machine) (p : ℕ) (here : Place) : ℕ → Type 0 where
  begun : here.stage ≡ begin → WhyUndo program m p here 21
  waiting : waits m p begin ≡ true → WhyUndo program m p here 20
  held : holds program m.history p ≡ true → WhyUndo program m p here 27
  leaf :
      {code : ℕ} → Childless (standing m.rows) p → calls program (exit_block program here) ≡ false →
      leaf_undo m.memory here (block_of program (exit_block program here)) ≡ refused code → WhyUndo program m p here code

module _ (program : List Block) (S : Sound program) (m : Machine) (passed : machine_fits program m ≡ true) (p : ℕ) (here : Place)
    (live : standing m.rows p ≡ some here) where
  -- the test of code 28 is never met
  pub not_crowded :
      (b : ℕ) → Childless (standing m.rows) p → calls program b ≡ true → (b ≡ entry_block program here) ⊎ (b ≡ exit_block program here) →
      crowded m (called program b) ≡ false
  unfolding crowded
  not_crowded b free c at =
      le-ltb most_rows (length m.rows + length (called program b)) (fitted-room program S m passed p here b live free c at)

  -- ---- forward
  fork-made :
      Childless (standing m.rows) p → calls program (entry_block program here) ≡ true → (code : ℕ) →
      fork program m p (entry_block program here) ≡ refused code → ⊥
  unfolding fork
  fork-made free c code h =
      let b = entry_block program here in
      let e = exit-to m.memory (block_of program b).exit ((S.fit b (call-in_image program S b c)).to c) in
      not_refused _ code (sym (made_after (exit_place m.memory (block_of program b).exit) _ (out_of program b) e)
      ∙ sym (pick-false (crowded m (called program b)) (refused 28) _ (not_crowded b free c (inl refl))) ∙ h)

  -- A forward step is refused for one of the reasons above; a fork and a merge are never refused.
  pub why_forward : (code : ℕ) → forward program m p here ≡ refused code → WhyForward program m p here code
  unfolding forward forward_childless merge leaf_step
  why_forward code h =
      refused-by (eqb here.stage end) _ 21 code h (λ t e. subst Why e (ended (eqb-true here.stage end t)))
      (λ u g. refused-by (waits m p end) _ 20 code g (λ t e. subst Why e (waiting t))
      (λ v k. refused-by (leb most_kept (length m.history)) _ 26 code k (λ t e. subst Why e (full (leb-true most_kept (length m.history) t)))
      (λ w l. at-kids (eqb (length (children m.rows p)) 0) refl l)))
    where
      Why : ℕ → Type 0
      Why = WhyForward program m p here

      b : ℕ
      b = entry_block program here

      at_block :
          Childless (standing m.rows) p → (t : Bool) → calls program b ≡ t →
          pick t (fork program m p b) (leaf_step m p b (leaf_forward m.memory here (block_of program b))) ≡ refused code → Why code
      at_block free true c g = absurd (fork-made free c code (sym (pick_true true _ _ refl) ∙ g))
      at_block free false c g =
          leaf free c (refused-after (leaf_forward m.memory here (block_of program b)) _ code (sym (pick-false false _ _ refl) ∙ g))

      at-kids :
          (t : Bool) → eqb (length (children m.rows p)) 0 ≡ t →
          pick t (forward_childless program m p here b) (merge m p (exit_block program here)) ≡ refused code → Why code
      at-kids true e g = at_block (childless-of m.rows p e) (calls program b) refl (sym (pick_true true _ _ refl) ∙ g)
      at-kids false e g = not_refused _ code (sym (pick-false false _ _ refl) ∙ g)

  -- ---- undo
  merge-made :
      Childless (standing m.rows) p → calls program (exit_block program here) ≡ true → (code : ℕ) →
      undo_merge program m p (exit_block program here) ≡ refused code → ⊥
  unfolding undo_merge
  merge-made free c code h =
      let b = exit_block program here in
      not_refused _ code (sym (pick-false (crowded m (called program b)) (refused 28) _ (not_crowded b free c (inr refl))) ∙ h)

  fork-unmade :
      eqb (length (children m.rows p)) 0 ≡ false → (code : ℕ) → undo_fork program m p (exit_block program here) ≡ refused code → ⊥
  unfolding undo_fork
  fork-unmade e code h =
      let b = exit_block program here in
      let f = fitted program S m passed in
      let s = fitted-order program m passed in
      let c = (at_call program S m p here live s f.1.tree f.0 (some-children m.rows p s f.1.tree e)).0 in
      let q = entry-from m.memory (block_of program b).entry ((S.fit b (call-in_image program S b c)).from c) in
      not_refused _ code (sym (made_after (entry_place m.memory (block_of program b).entry) _ (into_of program b) q) ∙ h)

  -- An undo is refused for one of the reasons above; a fork and a merge are always taken back.
  pub why_undo : (code : ℕ) → undo program m p here ≡ refused code → WhyUndo program m p here code
  unfolding undo undo_childless undo_leaf
  why_undo code h =
      refused-by (eqb here.stage begin) _ 21 code h (λ t e. subst Why e (begun (eqb-true here.stage begin t)))
      (λ u g. refused-by (waits m p begin) _ 20 code g (λ t e. subst Why e (waiting t))
      (λ v k. refused-by (holds program m.history p) _ 27 code k (λ t e. subst Why e (held t))
      (λ w l. at-kids (eqb (length (children m.rows p)) 0) refl l)))
    where
      Why : ℕ → Type 0
      Why = WhyUndo program m p here

      b : ℕ
      b = exit_block program here

      at_block :
          Childless (standing m.rows) p → (t : Bool) → calls program b ≡ t →
          pick t (undo_merge program m p b) (undo_leaf m p (leaf_undo m.memory here (block_of program b))) ≡ refused code → Why code
      at_block free true c g = absurd (merge-made free c code (sym (pick_true true _ _ refl) ∙ g))
      at_block free false c g =
          leaf free c (refused-after (leaf_undo m.memory here (block_of program b)) _ code (sym (pick-false false _ _ refl) ∙ g))

      at-kids :
          (t : Bool) → eqb (length (children m.rows p)) 0 ≡ t →
          pick t (undo_childless program m p here b) (undo_fork program m p b) ≡ refused code → Why code
      at-kids true e g = at_block (childless-of m.rows p e) (calls program b) refl (sym (pick_true true _ _ refl) ∙ g)
      at-kids false e g = absurd (fork-unmade e code (sym (pick-false false _ _ refl) ∙ g))

  -- ---- 28
  -- a leaf's codes are not 28
  not_28 : {A : Type 0} (t : Tried A) → Only (λ c. c ≢ 28) t → t ≡ refused 28 → ⊥
  not_28 t o e = only-refused (λ c. c ≢ 28) t 28 o e refl

  forward-28 : (code : ℕ) → WhyForward program m p here code → code ≢ 28
  forward-28 code (ended t) e = omega (arith, e)
  forward-28 code (waiting t) e = omega (arith, e)
  forward-28 code (full t) e = omega (arith, e)
  forward-28 code (leaf free c r) e =
      not_28 _ (leaf-only (λ c. c ≢ 28) (λ x. omega (arith, x)) (λ x. omega (arith, x)) (λ x. omega (arith, x)) (λ x. omega (arith, x)) m.memory
      here (block_of program (entry_block program here))) (r ∙ ap refused e)

  undo-28 : (code : ℕ) → WhyUndo program m p here code → code ≢ 28
  undo-28 code (begun t) e = omega (arith, e)
  undo-28 code (waiting t) e = omega (arith, e)
  undo-28 code (held t) e = omega (arith, e)
  undo-28 code (leaf free c r) e =
      not_28 _ (unleaf-only (λ c. c ≢ 28) (λ x. omega (arith, x)) (λ x. omega (arith, x)) (λ x. omega (arith, x)) (λ x. omega (arith, x)) m.memory
      here (block_of program (exit_block program here))) (r ∙ ap refused e)

  -- On an accepted image and a machine that passes code 17, no forward step and no undo is refused with 28: there is always room
  -- for the children's rows.
  pub never_28 : ((forward program m p here ≡ refused 28) → ⊥) × ((undo program m p here ≡ refused 28) → ⊥)
  never_28 = ((λ h. forward-28 28 (why_forward 28 h) refl), (λ h. undo-28 28 (why_undo 28 h) refl))
