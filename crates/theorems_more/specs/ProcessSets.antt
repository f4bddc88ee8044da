-- What a machine that passes code 17 shows is a process set, as 004 asks of every configuration: the root is active, with a process its
-- parent, and with
-- child i of a process the children before it. Assumes an accepted image.
use Rattle.std.specs.Prelude.{◌≡◌, refl, ◌⊎◌, ◌≢◌, true, List, [], ◌∷◌, ℕ, zero, suc, ◌/◌, ◌<◌, ◌≤◌}
use Rattle.std.proofs.Common.{sym, ◌∙◌, subst, inl, inr, arith}
use Rattle.std.proofs.Math.Path.{fun_ext}
use Rattle.std.proofs.Math.Option.{Option, none, some}
use Rattle.std.proofs.Math.ListN.{get_elem?}
use Rattle.theory.specs.Tests.{true_false, and-true, none-some}
use Rattle.theory.specs.Optional.{any_of, slot_of}
use Rattle.theory.specs.Local.{is_kid}
use Rattle.theory.specs.Family.{OfLabel}
use Rattle.rules.specs.Labels.{called}
use Rattle.rules.specs.Machine.{Machine, run, root, child, parent, standing}
use Rattle.rules.specs.Fits.{nth, root_in, root_fits, ascending, machine_fits}
use Rattle.rules.specs.Paper.{Configuration}
use Rattle.rules.specs.Annotation.{Annotation}
use Rattle.rules.specs.declared.Block.{Block}
use Rattle.rules.specs.declared.Place.{Place}
use Rattle.theorems.specs.PaperShown.{Shows}
use Rattle.theorems.specs.Parts.{label_of}
use Rattle.theorems.specs.Program.{Sound, real}
use Rattle.theorems.specs.Waiting.{kids-at}
use Rattle.theorems.specs.Fitted.{fitted}
use Rattle.theorems.specs.PaperRows.{Rows}
use Rattle.theorems.specs.Children.{Tree, kids}
use Rattle.theorems.specs.Forward.{Well}
use Rattle.theorems.specs.Identifiers.{parent-family}

-- a call names 1 to 8 labels
abbrev pub most_called : ℕ
most_called = 8

-- a process set: the root is active, with a process its parent is, and with child i of a process the children before it
pub record ProcessSet (processes : ℕ → Option Place) : Type 0 where
  pub has_root : (a : Place) × (processes root ≡ some a)
  pub has_parent : (q : ℕ) (a : Place) → processes q ≡ some a → q ≢ root → (b : Place) × (processes (parent q) ≡ some b)
  pub has_elders :
      (p i j : ℕ) (a : Place) → i ≤ most_called → processes (child p i) ≡ some a → 1 ≤ j → j < i → (b : Place) × (processes (child p j) ≡ some b)

rooted : (program : List Block) (o : Option Place) → root_in program o ≡ true → (q : Place) × (o ≡ some q)
rooted program none h = absurd (true_false h refl)
rooted program (some q) h = (q, refl)

-- a list that has an i-th element has those before it
element_before : (l : List ℕ) (i j v : ℕ) → get_elem? l i ≡ some v → j < i → (w : ℕ) × (get_elem? l j ≡ some w)
element_before [] i j v e lt = absurd (none-some e)
element_before (x ∷ l) zero j v e lt = absurd (omega arith)
element_before (x ∷ l) (suc i) zero v e lt = (x, refl)
element_before (x ∷ l) (suc i) (suc j) v e lt = element_before l i j v e (omega arith)

nth-before : (l : List ℕ) (i j v : ℕ) → nth l i ≡ some v → 1 ≤ j → j < i → (w : ℕ) × (nth l j ≡ some w)
nth-before l zero j v e lo lt = absurd (omega arith)
nth-before l (suc i) zero v e lo lt = absurd (omega arith)
nth-before l (suc i) (suc j) v e lo lt = element_before l i j v e (omega arith)

module _ (program : List Block) (S : Sound program) (R : Rows) (tree : Tree R) (well : Well program S R) where
  -- the parent of an active process is active, at run
  pub parent-there : (q : ℕ) (a : Place) → R q ≡ some a → q ≢ root → (is_kid (parent q) q ≡ true)
      × ((b : Place) × (R (parent q) ≡ some b) × (b.stage ≡ run))
  parent-there q a e n = go (tree q a e)
    where
      go : (q ≡ 0) ⊎ (is_kid (q / 16) q ≡ true) → (is_kid (parent q) q ≡ true) × ((b : Place) × (R (parent q) ≡ some b) × (b.stage ≡ run))
      go (inl z) = absurd (n z)
      go (inr k) = (k, (_, (parent-family program S R q a well e k).at_out, refl))

module _ (program : List Block) (S : Sound program) (m : Machine) (passed : machine_fits program m ≡ true) where
  abbrev R : Rows
  R = standing m.rows

  -- a child that is there is one of the call's, and so are those before it
  label-there : (o : Option Place) (t : Option ℕ) (a : Place) → o ≡ some a → OfLabel (real program S) o t → (l : ℕ) × (t ≡ some l)
  label-there none t a e x = absurd (none-some e)
  label-there (some q) none a e x = absurd x
  label-there (some q) (some l) a e x = (l, refl)

  there-label : (o : Option Place) (t : Option ℕ) (l : ℕ) → t ≡ some l → OfLabel (real program S) o t → (b : Place) × (o ≡ some b)
  there-label o none l e x = absurd (none-some e)
  there-label none (some k) l e x = absurd x
  there-label (some b) (some k) l e x = (b, refl)

  elders :
      (p i j : ℕ) (a : Place) → i ≤ most_called → R (child p i) ≡ some a → 1 ≤ j → j < i → (b : Place) × (R (child p j) ≡ some b)
  elders p i j a hi e lo lt =
      let si = slot_of i (omega arith) hi in
      let sj = slot_of j lo (omega arith) in
      let there : kids R p i ≡ some a = kids-at R p i si ∙ e in
      let F = (fitted program S m passed).0.family p (any_of (kids R p) 8 i a (omega arith) hi there) in
      let l = label-there (kids R p i) (label_of program F.b i) a there (F.each i si) in
      let k = nth-before (called program F.b) i j l.0 l.1 lo lt in
      let b = there-label (kids R p j) (label_of program F.b j) k.0 k.1 (F.each j sj) in
      (b.0, sym (kids-at R p j sj) ∙ b.1)

  pub process_set : ProcessSet R
  unfolding machine_fits root_fits
  process_set =
      let f = fitted program S m passed in
      let x = and-true (ascending m.rows) _ passed in
      let y = and-true (root_fits program m.rows) _ x.1 in
      record {
        has_root = rooted program (R root) y.0;
        has_parent = λ q a e n. let b = parent-there program S R f.1.tree f.0 q a e n in (b.1.0, b.1.1);
        has_elders = elders;
      }

-- Every configuration that a machine shows which passes 17 is a process set.
pub shown-process_set :
    (program : List Block) (S : Sound program) (m : Machine) → machine_fits program m ≡ true → (C : Configuration) (A : Annotation) →
    Shows program m C A →
    ProcessSet C.processes
shown-process_set program S m passed C A shown = subst ProcessSet (sym (fun_ext shown.processes)) (process_set program S m passed)
