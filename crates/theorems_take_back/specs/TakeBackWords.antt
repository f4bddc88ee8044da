-- The call of [6] on lent words: on words that fit and pass 35 it is accepted and leaves the machine that the undos leave; and on
-- the words of a reached machine it leaves those of a reached machine, so that demand 3 stays true with this call among the
-- calls of a run, and 35 does not occur there.
use Rattle.std.specs.Prelude.{◌≡◌, refl, Bool, List, [], ◌∷◌, ◌++◌, map, ℕ, ◌+◌, eqb, leb}
use Rattle.std.proofs.Common.{sym, ◌∙◌, arith}
use Rattle.std.proofs.Math.Path.{ap, subst}
use Rattle.std.proofs.Math.Bool.{true, false, not}
use Rattle.std.proofs.Math.ListN.{length, length-append}
use Rattle.std.proofs.lemmas.Bool.{lt-leb}
use Rattle.theory.specs.Tests.{eqb_same, and-true}
use Rattle.theory.specs.TakingBack.{kept}
use Rattle.rules.specs.Base.{pick}
use Rattle.rules.specs.Machine.{Kept, Machine, pack, view, machine_words}
use Rattle.rules.specs.Fits.{machine_fits, fits, counts_fit, unused_zero}
use Rattle.rules.specs.Leaf.{Tried, made, refused}
use Rattle.rules.specs.Words.{Outcome, refuse, accept}
use Rattle.rules.specs.TakeBack.{goes, goers, undo_all, empties, taken_back, take_back_in, take_back}
use Rattle.rules.specs.declared.Block.{Block}
use Rattle.laws.proofs.Lists.{pick-false}
use Rattle.theorems.specs.Memory.{Fine}
use Rattle.theorems.specs.Program.{Sound}
use Rattle.theorems.specs.Forward.{entry_of}
use Rattle.theorems.specs.Reached.{reached-undo}
use Rattle.theorems.specs.Played.{Subject}
use Rattle.theorems.specs.Linked.{sound, first_fine, ReachedIn, Linked, linked-view, on_image_each}
use Rattle.theorems_take_back.specs.Bottom.{turned_kept, reached-emptied}
use Rattle.theorems_take_back.specs.TakenBack.{UndoneAll}
use Rattle.theorems_take_back.specs.TakeBackCall.{takes, all-undone, is-emptied, marked}

fits-machine : (program : List Block) (words : List ℕ) → fits program words ≡ true → machine_fits program (view words) ≡ true
unfolding fits
fits-machine program words h =
    let a = and-true (counts_fit words) _ h in
    (and-true (unused_zero words) _ a.1).1

module _ (program : List Block) (S : Sound program) (words : List ℕ) (size : length words ≡ machine_words) (fit : fits program words ≡ true)
    (fine : Fine (view words).memory) (empty : empties program (length (view words).history) (view words) ≡ true) where
  -- accepted, with the machine that is left, whose history is the rest in its order
  pub record TakesBack (u : List Kept) (k : Kept) (w : List Kept) : Type 0 where
    pub machine : Machine
    pub outcome : take_back_in words (length u) program ≡ accept (pack machine)
    pub rest : map entry_of machine.history ≡ kept (marked program S (view words).history (goes program (view words).history (length u)))

  pub takes_back : (u : List Kept) (k : Kept) (w : List Kept) → (view words).history ≡ u ++ k ∷ w → TakesBack u k w
  unfolding take_back_in
  takes_back u k w parts =
      let m = view words in
      let t = takes program S m u k w parts (fits-machine program words fit) fine empty in
      let l : length m.history ≡ length u + length (k ∷ w) = ap length parts ∙ length-append u (k ∷ w) in
      record {
        machine = t.leaves;
        outcome =
            pick-false (not (eqb (length words) machine_words)) (refuse 16 0 words) _ (ap not (eqb_same (length words) machine_words size))
            ∙ pick-false (not (fits program words)) (refuse 17 0 words) _ (ap not fit)
            ∙ pick-false (not (empties program (length m.history) m)) (refuse 35 0 words) _ (ap not empty)
            ∙ pick-false (leb (length m.history) (length u)) (refuse 32 0 words) _ (lt-leb (length m.history) (length u) (omega (arith, l)))
            ∙ ap (taken_back words) t.accepted;
        rest = t.rest;
      }

-- ---- on reached machines
module _ (s : Subject) where
  reached-all : (ps : List ℕ) (m m' : Machine) → ReachedIn s m → UndoneAll s.program (sound s) m ps m' → ReachedIn s m'
  reached-all [] m m' r x = subst (ReachedIn s) x r
  reached-all (p ∷ ps) m m' r x =
      reached-all ps x.0 m' (reached-undo s.program (sound s) s.memory (first_fine s) m p x.1.here x.1.live r x.0 x.1.undone) x.2

  left-linked :
      (w : List ℕ) (ps : List ℕ) (l : Linked s w) (t : Tried Machine) → undo_all s.program (view w) ps ≡ t → Linked s (taken_back w t).leaves
  left-linked w ps l (refused code) e = l
  left-linked w ps l (made m') e =
      let v = linked-view s w l in
      let x = all-undone s.program (sound s) ps (view w) m' e in
      record {
        machine = m';
        packed = refl;
        reached = reached-all ps (view w) m' (subst (ReachedIn s) (sym v) l.reached) x;
      }

  picked : (b : Bool) (o o' : Outcome (List ℕ)) → Linked s o.leaves → Linked s o'.leaves → Linked s (pick b o o').leaves
  unfolding pick
  picked true o o' x y = x
  picked false o o' x y = y

  -- Demand 3 counts this call as the undos it makes: from the words of a reached machine it leaves the words of a reached machine.
  pub take-back_linked : (w : List ℕ) (entry : ℕ) → Linked s w → Linked s (take_back s.image w entry).leaves
  unfolding take_back take_back_in
  take-back_linked w entry l =
      subst (λ (o : Outcome (List ℕ)). Linked s o.leaves) (sym (on_image_each s w (take_back_in w entry)))
      (picked _ (refuse 16 0 w) _ l
      (picked _ (refuse 17 0 w) _ l
      (picked _ (refuse 35 0 w) _ l
      (picked _ (refuse 32 0 w) _ l
      (left-linked w (goers (view w).history (goes s.program (view w).history entry)) l
      (undo_all s.program (view w) (goers (view w).history (goes s.program (view w).history entry))) refl)))))

  -- ---- code 35 does not occur there
  turned_more : (t : List Kept) (k : Kept) → turned_kept (t ++ k ∷ []) ≡ k ∷ turned_kept t
  turned_more [] k = refl
  turned_more (j ∷ t) k = ap (λ (l : List Kept). l ++ j ∷ []) (turned_more t k)

  turned : (h : List Kept) → (t : List Kept) × (h ≡ turned_kept t)
  turned [] = ([], refl)
  turned (k ∷ h) = let i = turned h in (i.0 ++ k ∷ [], ap (λ (l : List Kept). k ∷ l) i.1 ∙ sym (turned_more i.0 k))

  turned-length : (t : List Kept) → length (turned_kept t) ≡ length t
  turned-length [] = refl
  turned-length (k ∷ t) = let e = length-append (turned_kept t) (k ∷ []) in let i = turned-length t in omega (arith, e, i)

  pub never-35 : (w : List ℕ) → Linked s w → empties s.program (length (view w).history) (view w) ≡ true
  never-35 w l =
      let v = linked-view s w l in
      let m = l.machine in
      let t = turned m.history in
      let x = reached-emptied s.program (sound s) s.memory (first_fine s) t.0 m l.reached t.1 in
      let e : length m.history ≡ length t.0 = ap length t.1 ∙ turned-length t.0 in
      ap (λ (n : Machine). empties s.program (length n.history) n) v
      ∙ ap (λ (n : ℕ). empties s.program n m) e ∙ is-emptied s.program (sound s) t.0 m x.0 x.1
