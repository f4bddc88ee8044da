-- A forward step that rules accept is one of the theory's, and keeps rows in order. Assumes that the image is sound and the rows
-- are well-formed (theory's `OkRows`), ascend and hang from the root.
use Rattle.std.proofs.Math.Path.{◌≡◌, refl, sym, subst, fun_ext}
use Rattle.std.proofs.Common.{ap, ◌∙◌, inl, inr, arith, length-take}
use Rattle.std.specs.Prelude.{◌⊎◌, ◌≢◌, Bool, length, eqb, leb}
use Rattle.std.proofs.Math.Bool.{true, false}
use Rattle.std.proofs.Math.Option.{Option, none, some}
use mathlib.Core.List.{List, [], ◌∷◌, ◌++◌}
use Prim.Native.Nat.{ℕ, ◌/◌, ◌<◌, ◌≤◌}
use Rattle.std.proofs.Math.Decide.{ℕ_discrete}
use borrow.Author.Tests.{eqb-false, leb-false}
use Rattle.theory.specs.Tests.{some_inj}
use Rattle.theory.specs.Local.{Taken, State, Outcome, is_kid, kid-self, fire, done, entry, put_self, put-kid, put-outside}
use Rattle.theory.specs.Shapes.{has_kids, at_end, at_begin, forward, result, leaf-forward, fork-forward, merge-forward}
use Rattle.theory.specs.Family.{OkRows}
use Rattle.theory.specs.Machine.{onward}
use Rattle.theory.specs.Optional.{onto, is_none}
use Rattle.rules.specs.Base.{pick}
use Rattle.rules.specs.Labels.{block_of, called, called_by}
use Rattle.rules.specs.Machine.{Process, Kept, Machine, begin, run, end, place, standing, children, most_kept}
use Rattle.rules.specs.Fits.{entry_block, exit_block, nth}
use Rattle.rules.specs.Leaf.{made, leaf_forward, exit_place}
use Rattle.rules.specs.Step.{move_row, child_rows, insert_rows, remove_rows, keep, waits, crowded, fork, merge, leaf_step, forward_childless}
use Rattle.rules.specs.Step
use Rattle.rules.specs.declared.Instruction.{Instruction}
use Rattle.rules.specs.declared.Exit.{Exit}
use Rattle.rules.specs.declared.Block.{Block}
use Rattle.rules.specs.declared.Place.{Place}
use Rattle.laws.proofs.Lists.{pick_true, pick-false}
use Rattle.laws.specs.Fit.{IsTo, InstructionFit}
use Rattle.theorems.specs.Evaluate.{made-inj, made-pick, after-made}
use Rattle.theorems.specs.Parts.{calls, out_of, reads_of, writes_of, Standing, to_label}
use Rattle.theorems.specs.Program.{Sound, real, some-entry, some-exit, made-leaf, call-in_image}
use Rattle.theorems.specs.Tables.{Sorted, move-sorted, move-self, move-other}
use Rattle.theorems.specs.Children.{Tree, Childless, puts, kids, by_row, outside, insert_sorted, insert_puts, remove_sorted, remove_puts}
use Rattle.theorems.specs.Waiting.{childless-of, no_kids, some-children, all_there, move-puts}

-- ---- a machine as the theory has it
abbrev pub Configuration : Type 0
Configuration = State Place (List ℕ)

abbrev pub configuration_of : Machine → Configuration
configuration_of m = record { rows = standing m.rows; memory = m.memory }

abbrev pub entry_of : Kept → Taken
entry_of k = record { process = k.identifier; block = k.block }

abbrev pub step_of : ℕ → ℕ → Kept
step_of p b = record { identifier = p; block = b }

-- ---- small facts
pub exit-to : (m : List ℕ) (x : Exit) → IsTo x → exit_place m x ≡ made (place (to_label x) run)
unfolding exit_place
exit-to m (Exit.To l) h = refl
exit-to m (Exit.Either e l k) h = absurd h
exit-to m (Exit.End l) h = absurd h

few-called : (i : Instruction) → InstructionFit i → length (called_by i) ≤ 8
few-called (Instruction.Update change a e) f = omega arith
few-called (Instruction.Exchange a b) f = omega arith
few-called (Instruction.OpV x) f = omega arith
few-called (Instruction.OpP x) f = omega arith
few-called (Instruction.Assert e) f = omega arith
few-called Instruction.Skip f = omega arith
few-called (Instruction.Call n) f =
    let e = length-take n.count n.labels in
    omega (arith, e, f.few)

-- put looks at the other rows alone
pub puts-over :
    (R S : ℕ → Option Place) (p : ℕ) (ρ : Option Place) (k : ℕ → Option Place) → ((x : ℕ) → x ≢ p → S x ≡ R x) → (x : ℕ) →
    puts S p ρ k x ≡ puts R p ρ k x
puts-over R S p ρ k h =
    by_row p (λ x. puts S p ρ k x ≡ puts R p ρ k x)
    (put_self S p ρ k ∙ sym (put_self R p ρ k))
    (λ x n c. put-kid S p ρ k x c ∙ sym (put-kid R p ρ k x c))
    (λ x n c. put-outside S p ρ k x (outside p x n c) ∙ h x n ∙ sym (put-outside R p ρ k x (outside p x n c)))

pub same-configuration :
    (R S : ℕ → Option Place) (m n : List ℕ) → ((x : ℕ) → R x ≡ S x) → m ≡ n →
    Path Configuration (record { rows = R; memory = m }) (record { rows = S; memory = n })
same-configuration R S m n h e = λ i. record { rows = fun_ext h i; memory = e i }

module _ (program : List Block) (S : Sound program) where
  abbrev pub reading : ℕ → ℕ → Bool
  reading = reads_of program

  abbrev pub writing : ℕ → ℕ → Bool
  writing = writes_of program

  abbrev pub Well : (ℕ → Option Place) → Type 0
  Well R = OkRows (real program S) R

  abbrev pub ahead : Configuration → ℕ → Option (Taken × Configuration)
  ahead s p = onward (real program S) s p

  pub end_test : (a : Place) → at_end (real program S) a ≡ eqb a.stage end
  end_test a = go (eqb a.stage end)
    where
      go : (t : Bool) → is_none (pick t none (some (entry_block program a))) ≡ t
      go true = ap is_none (pick_true true none (some (entry_block program a)) refl)
      go false = ap is_none (pick-false false none (some (entry_block program a)) refl)

  pub begin-test : (a : Place) → at_begin (real program S) a ≡ eqb a.stage begin
  begin-test a = go (eqb a.stage begin)
    where
      go : (t : Bool) → is_none (pick t none (some (exit_block program a))) ≡ t
      go true = ap is_none (pick_true true none (some (exit_block program a)) refl)
      go false = ap is_none (pick-false false none (some (exit_block program a)) refl)

  -- a place that is not at end has a block before it
  pub standing-entry : (a : Place) → Standing program a → a.stage ≢ end → entry_block program a < length program
  standing-entry a (inl x) n = x.1
  standing-entry a (inr (inl x)) n = x.1
  standing-entry a (inr (inr x)) n = absurd (n x.0)

  pub standing-exit : (a : Place) → Standing program a → a.stage ≢ begin → exit_block program a < length program
  standing-exit a (inl x) n = absurd (n x.0)
  standing-exit a (inr (inl x)) n = x.2
  standing-exit a (inr (inr x)) n = x.1

  pub few-labels : (b : ℕ) → calls program b ≡ true → length (called program b) ≤ 8
  few-labels b c = few-called (block_of program b).instruction (S.fit b (call-in_image program S b c)).instruction

  -- a step of process p as the theory makes it, in one equation
  pub fires : (s : Configuration) (p : ℕ) (o : Outcome Place (List ℕ)) (k : Kept) (s' : Configuration) →
      forward (real program S) (s.rows p) (kids s.rows p) s.memory ≡ some o →
      entry p o ≡ entry_of k → done s p o ≡ s' → ahead s p ≡ some (entry_of k, s')
  fires s p o k s' h e d =
      fire (forward (real program S)) s p o h ∙ (λ i. some (e i, d i))

  pub record Stepped (m : Machine) (p : ℕ) (m' : Machine) : Type 0 where
    pub block : ℕ
    pub moves : ahead (configuration_of m) p ≡ some (entry_of (step_of p block), configuration_of m')
    pub kept : m'.history ≡ m.history ++ step_of p block ∷ []
    pub ordered : Sorted m'.rows

  module _ (m : Machine) (p : ℕ) (here : Place) (live : standing m.rows p ≡ some here) (sorted : Sorted m.rows)
      (tree : Tree (standing m.rows)) (well : Well (standing m.rows)) where
    abbrev R : ℕ → Option Place
    R = standing m.rows

    valid : Standing program here
    valid = well.places p here live

    at_row :
        (o : Outcome Place (List ℕ)) → forward (real program S) (some here) (kids R p) m.memory ≡ some o →
        forward (real program S) (R p) (kids R p) m.memory ≡ some o
    at_row o h = ap (λ ρ. forward (real program S) ρ (kids R p) m.memory) live ∙ h

    -- a leaf's step
    leaf-stepped : here.stage ≢ end → Childless R p → calls program (entry_block program here) ≡ false → (m' : Machine) →
        leaf_step m p (entry_block program here) (leaf_forward m.memory here (block_of program (entry_block program here))) ≡ made m' → Stepped m p m'
    unfolding leaf_step keep
    leaf-stepped n free plain m' h =
        let b = entry_block program here in
        let x = after-made (leaf_forward m.memory here (block_of program b)) _ m' h in
        let s = x.0 in
        let is : Path Machine (record { memory = s.memory; rows = move_row m.rows p s.stands; history = m.history ++ step_of p b ∷ [] }) m' =
        made-inj _ m' x.2 in
        let lf = made-leaf program S here b m.memory s (standing-entry here valid n) x.1 in
        let f =
        leaf-forward (real program S) here s.stands b (kids R p) m.memory s.memory (some-entry program S here b n refl)
        (no_kids R p free) plain lf in
        subst (Stepped m p) is
        (record {
          block = b;
          moves = fires (configuration_of m) p (result (real program S) b s.stands (kids R p) s.memory) (step_of p b) _ (at_row _ f) refl
              (same-configuration (puts R p (some s.stands) (kids R p)) (standing (move_row m.rows p s.stands)) s.memory s.memory
              (λ y. sym (move-puts m.rows p here s.stands live y)) refl);
          kept = refl;
          ordered = move-sorted m.rows p s.stands sorted;
        }
        )

    -- a call block forks
    fork-stepped :
        here.stage ≢ end → Childless R p → calls program (entry_block program here) ≡ true → (m' : Machine) →
        fork program m p (entry_block program here) ≡ made m' → Stepped m p m'
    unfolding fork keep
    fork-stepped n free c m' h =
        let b = entry_block program here in
        let out = out_of program b in
        let lt = call-in_image program S b c in
        let w = made-pick (crowded m (called program b)) _ 28 m' h in
        let x = after-made (exit_place m.memory (block_of program b).exit) _ m' w.1 in
        let e : x.0 ≡ out = made-inj x.0 out (sym x.1 ∙ exit-to m.memory (block_of program b).exit ((S.fit b lt).to c)) in
        let M : List Process = move_row m.rows p out in
        let free' : Childless (standing M) p =
        λ y k. move-other m.rows p out y (λ q. kid-self p (subst (λ (z : ℕ). is_kid p z ≡ true) q k)) ∙ free y k in
        let tree' : Tree (standing M) = λ y a q. tree-moved out y a q (ℕ_discrete y p) in
        let few = few-labels b c in
        let is : Path Machine
        (record {
          memory = m.memory;
          rows = insert_rows (move_row m.rows p x.0) p
              (child_rows p begin 1 (called program b));
          history = m.history ++ step_of p b ∷ [];
        }) m' = made-inj _ m' x.2 in
        let is' : Path Machine
        (record { memory = m.memory; rows = insert_rows M p (child_rows p begin 1 (called program b)); history = m.history ++ step_of p b ∷ [] }) m' =
        (λ i. record {
          memory = m.memory;
          rows = insert_rows (move_row m.rows p (sym e i)) p
              (child_rows p begin 1 (called program b));
          history = m.history ++ step_of p b ∷ [];
        }) ∙ is in
        let f = fork-forward (real program S) here b (kids R p) m.memory (some-entry program S here b n refl) (no_kids R p free) c in
        let K : ℕ → Option Place = λ i. onto (λ l. place l begin) (nth (called program b) i) in
        subst (Stepped m p) is'
        (record {
          block = b;
          moves = fires (configuration_of m) p (result (real program S) b out K m.memory) (step_of p b) _ (at_row _ f) refl
              (same-configuration (puts R p (some out) K) (standing (insert_rows M p (child_rows p begin 1 (called program b)))) m.memory m.memory
              (λ y. sym (insert_puts M p begin (called program b) out (move-self m.rows p out here live) free' few y ∙ puts-over R (standing M) p
              (some out) K (λ z d. move-other m.rows p out z d) y)) refl);
          kept = refl;
          ordered = insert_sorted M p begin (called program b) (move-sorted m.rows p out sorted) tree' free' few;
        }
        )
      where
        tree-moved :
            (out : Place) (y : ℕ) (a : Place) → standing (move_row m.rows p out) y ≡ some a → Dec (y ≡ p) → (y ≡ 0) ⊎ (is_kid (y / 16) y ≡ true)
        tree-moved out y a q (yes d) = tree y here (ap R d ∙ live)
        tree-moved out y a q (no d) = tree y a (sym (move-other m.rows p out y d) ∙ q)

    -- children at end are merged
    merge-stepped :
        here.stage ≢ end → has_kids (real program S) (kids R p) ≡ true → waits m p end ≡ false → (m' : Machine) →
        merge m p (exit_block program here) ≡ made m' → Stepped m p m'
    unfolding merge keep
    merge-stepped n has ready m' h =
        let b = exit_block program here in
        let F = well.family p has in
        let at : here ≡ out_of program F.b = some_inj here (out_of program F.b) (sym live ∙ F.at_out) in
        let not-begin : here.stage ≢ begin = λ q. let z : ◌≡◌ {A = ℕ} 1 0 = sym (ap (λ (a : Place). a.stage) at) ∙ q in omega (arith, z) in
        let is : Path Machine (record { memory = m.memory; rows = remove_rows m.rows p; history = m.history ++ step_of p b ∷ [] }) m' =
        made-inj _ m' h in
        let f =
        merge-forward (real program S) here (entry_block program here) b (kids R p) m.memory
        (some-entry program S here (entry_block program here) n refl) has
        (all_there m p end (at_end (real program S)) end_test ready) (some-exit program S here b not-begin refl) in
        subst (Stepped m p) is
        (record {
          block = b;
          moves = fires (configuration_of m) p (result (real program S) b here (λ i. none) m.memory) (step_of p b) _ (at_row _ f) refl
              (same-configuration (puts R p (some here) (λ i. none)) (standing (remove_rows m.rows p)) m.memory m.memory
              (λ y. sym (remove_puts m.rows p here live tree y)) refl);
          kept = refl;
          ordered = remove_sorted m.rows p sorted;
        }
        )

    pub stepped : (m' : Machine) → Step.forward program m p here ≡ made m' → Stepped m p m' × (length m.history < most_kept)
    unfolding Step.forward forward_childless
    stepped m' h =
        let t₁ = made-pick (eqb here.stage end) _ 21 m' h in
        let n : here.stage ≢ end = eqb-false here.stage end t₁.0 in
        let t₂ = made-pick (waits m p end) _ 20 m' t₁.1 in
        let t₃ = made-pick (leb most_kept (length m.history)) _ 26 m' t₂.1 in
        (go n t₂.0 (eqb (length (children m.rows p)) 0) refl t₃.1, leb-false most_kept (length m.history) t₃.0)
      where
        leafy : (here.stage ≢ end) → Childless R p → (t : Bool) → calls program (entry_block program here) ≡ t →
            pick t (fork program m p (entry_block program here))
            (leaf_step m p (entry_block program here) (leaf_forward m.memory here (block_of program (entry_block program here)))) ≡ made m' →
            Stepped m p m'
        leafy n free true c g = fork-stepped n free c m' (sym (pick_true true _ _ refl) ∙ g)
        leafy n free false c g = leaf-stepped n free c m' (sym (pick-false false _ _ refl) ∙ g)

        go : (here.stage ≢ end) → waits m p end ≡ false → (t : Bool) → eqb (length (children m.rows p)) 0 ≡ t →
            pick t (forward_childless program m p here (entry_block program here)) (merge m p (exit_block program here)) ≡ made m' → Stepped m p m'
        go n ready true e g = leafy n (childless-of m.rows p e) (calls program (entry_block program here)) refl (sym (pick_true true _ _ refl) ∙ g)
        go n ready false e g = merge-stepped n (some-children m.rows p sorted tree e) ready m' (sym (pick-false false _ _ refl) ∙ g)
