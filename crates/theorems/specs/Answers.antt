-- What `step` answers on a reached machine: never 17, and 0 where the newest kept step is undone; when two reached machines are
-- the same. Assumes what a run starts from.
use Rattle.std.specs.Prelude.{◌≡◌, ◌⊎◌, true, false, ℕ, eqb}
use Rattle.std.proofs.Math.Path.{refl}
use Rattle.std.proofs.Common.{sym, ap, ◌∙◌, subst, inl, inr, arith, lt-ltb}
use Rattle.std.proofs.Math.Option.{Option, none, some}
use mathlib.Core.List.{List, [], ◌∷◌, ◌++◌, map}
use Rattle.std.proofs.Math.Dec.{ltb}
use Rattle.theory.specs.Replay
use Rattle.theory.specs.Tests.{bool_cases, and-true, true_and}
use Rattle.theory.specs.Shapes.{footprints}
use Rattle.theory.specs.Family.{Ok}
use Rattle.theory.specs.Machine.{mark}
use Rattle.rules.specs.Base.{pick, each_of}
use Rattle.rules.specs.Value.{span}
use Rattle.rules.specs.Machine.{Kept, Machine, standing, started, pack, view}
use Rattle.rules.specs.Fits.{kept_fits, block_fits, digits_fit}
use Rattle.rules.specs.Cause.{SameGraph}
use Rattle.rules.specs.Leaf.{Tried, made, refused}
use Rattle.rules.specs.Step.{forward, undo}
use Rattle.rules.specs.Words.{Outcome, step, step_at, step_of, finished, refuse, accept}
use Rattle.rules.specs.declared.Place.{Place}
use Rattle.laws.proofs.Pack.{view-pack}
use Rattle.laws.proofs.Lists.{pick_true, pick-false}
use Rattle.theorems.specs.Program.{real}
use Rattle.theorems.specs.Tables.{same_rows, standing-each}
use Rattle.theorems.specs.Forward.{Configuration, configuration_of, entry_of, ahead}
use Rattle.theorems.specs.Backward.{behind, unstepped}
use Rattle.theorems.specs.Reached.{Replayed, reached-rows, reached-start, reached-undo, laws, origin, origin-ok}
use Rattle.theorems.specs.Identifiers.{digits-below, live-fits, reached-kept}
use Rattle.theorems.specs.SameGraphs.{same_graph}
use Rattle.theorems.specs.Codes.{Late, forward-late, undo-late}
use Rattle.theorems.specs.Going.{newest-back}
use Rattle.theorems.specs.Played.{Subject}
use Rattle.theorems.specs.Linked.{sound, first_fine, sized, Linked, linked-view, step_is}

no-history : (memory : List ℕ) → (started memory).history ≡ []
unfolding started
no-history memory = refl

module _ (s : Subject) (w : List ℕ) (l : Linked s w) where
  abbrev m : Machine
  m = l.machine

  -- ---- no 17
  finished-code : (t : Tried Machine) → Late t → (finished w t).answer.code ≡ 17 → ⊥
  finished-code (made n) h e = omega (arith, e)
  finished-code (refused code) h e = omega (arith, h, e)

  at_code : (p d : ℕ) (o : Option Place) → (step_at w s.program p d o).answer.code ≡ 17 → ⊥
  at_code p d none e = omega (arith, e)
  at_code p d (some here) e = finished-code (step_of s.program (view w) p here d) (go (bool_cases (eqb d 0))) e
    where
      go : (eqb d 0 ≡ true) ⊎ (eqb d 0 ≡ false) → Late (pick (eqb d 0) (forward s.program (view w) p here) (undo s.program (view w) p here))
      go (inl h) =
          subst Late (sym (pick_true (eqb d 0) (forward s.program (view w) p here) (undo s.program (view w) p here) h))
          (forward-late s.program (view w) p here)
      go (inr h) =
          subst Late (sym (pick-false (eqb d 0) (forward s.program (view w) p here) (undo s.program (view w) p here) h))
          (undo-late s.program (view w) p here)

  pub never-seventeen : (p d : ℕ) → (step s.image w p d).answer.code ≡ 17 → ⊥
  never-seventeen p d e = go (bool_cases (ltb 1 d)) (ap (λ (o : Outcome (List ℕ)). o.answer.code) (sym (step_is s w p d l)) ∙ e)
    where
      rest : Outcome (List ℕ)
      rest = step_at w s.program p d (standing (view w).rows p)

      go : (ltb 1 d ≡ true) ⊎ (ltb 1 d ≡ false) → (pick (ltb 1 d) (refuse 19 0 w) rest).answer.code ≡ 17 → ⊥
      go (inl h) q =
          let z : ◌≡◌ {A = ℕ} 19 17 = ap (λ (o : Outcome (List ℕ)). o.answer.code) (sym (pick_true (ltb 1 d) (refuse 19 0 w) rest h)) ∙ q in omega
          (arith, z)
      go (inr h) q =
          at_code p d (standing (view w).rows p)
          (ap (λ (o : Outcome (List ℕ)). o.answer.code) (sym (pick-false (ltb 1 d) (refuse 19 0 w) rest h)) ∙ q)

  -- ---- identifiers are words
  digits-word : (x : ℕ) → digits_fit 8 x ≡ true → ltb x span ≡ true
  digits-word x h = let z = digits-below 8 x h in lt-ltb x span (omega (arith, z))

  kept-words : (h : List Kept) → each_of (kept_fits s.program) h ≡ true → each_of (λ k. ltb k.identifier span) h ≡ true
  unfolding each_of kept_fits
  kept-words [] e = refl
  kept-words (k ∷ h) e =
      let x = and-true (kept_fits s.program k) (each_of (kept_fits s.program) h) e in
      let y = and-true (block_fits s.program k) (digits_fit 8 k.identifier) x.0 in
      true_and (ltb k.identifier span) (each_of (λ k. ltb k.identifier span) h) (digits-word k.identifier y.1) (kept-words h x.1)

  pub row_words_fit : each_of (λ r. ltb r.identifier span) (view w).rows ≡ true
  row_words_fit =
      let ok = reached-rows s.program (sound s) s.memory (first_fine s) m l.reached in
      ap (λ (n : Machine). each_of (λ r. ltb r.identifier span) n.rows) (linked-view s w l)
      ∙ standing-each (λ r. ltb r.identifier span) m.rows l.reached.ordered
      (λ x a e. digits-word x (live-fits s.program (sound s) (standing m.rows) x a ok.0 ok.1 e))

  pub history-words : each_of (λ k. ltb k.identifier span) (view w).history ≡ true
  history-words =
      ap (λ (n : Machine). each_of (λ k. ltb k.identifier span) n.history) (linked-view s w l)
      ∙ kept-words m.history (reached-kept s.program (sound s) s.memory (first_fine s) m l.reached)

  -- ---- the newest goes back
  pub record GoesBack (k : Kept) (h : List Kept) : Type 0 where
    pub code : (step s.image w k.identifier 1).answer.code ≡ 0
    pub history : (view (step s.image w k.identifier 1).leaves).history ≡ h

  pub goes_back : (h : List Kept) (k : Kept) → (view w).history ≡ h ++ k ∷ [] → GoesBack k h
  goes_back h k e =
      let v = linked-view s w l in
      let p = k.identifier in
      let b = newest-back s.program (sound s) s.memory (first_fine s) m h k l.reached (ap (λ (n : Machine). n.history) (sym v) ∙ e) in
      let m' = b.leaves in
      let ok = reached-rows s.program (sound s) s.memory (first_fine s) m l.reached in
      let r' = reached-undo s.program (sound s) s.memory (first_fine s) m p b.here b.live l.reached m' b.undone in
      let u = (unstepped s.program (sound s) m p b.here b.live l.reached.ordered ok.1.tree ok.0 m' b.undone).0 in
      let is : step s.image w p 1 ≡ accept (pack m') =
      step_is s w p 1 l
      ∙ pick-false (ltb 1 1) (refuse 19 0 w) (step_at w s.program p 1 (standing (view w).rows p)) refl
      ∙ ap (step_at w s.program p 1) (ap (λ (n : Machine). standing n.rows p) v ∙ b.live)
      ∙ ap (λ (n : Machine). finished w (step_of s.program n p b.here 1)) v
      ∙ ap (finished w) (pick-false (eqb 1 0) (forward s.program m p b.here) (undo s.program m p b.here) refl ∙ b.undone) in
      record {
        code = ap (λ (o : Outcome (List ℕ)). o.answer.code) is;
        history =
            ap (λ (o : Outcome (List ℕ)). (view o.leaves).history) is ∙ ap (λ (n : Machine). n.history) (view-pack m' (sized s m' r')) ∙ u.closed
            ∙ b.history;
      }

  -- ---- none left
  pub none_left : (view w).history ≡ [] → w ≡ pack (started s.memory)
  none_left e =
      let v = linked-view s w l in
      let none : m.history ≡ [] = ap (λ (n : Machine). n.history) (sym v) ∙ e in
      let first = started s.memory in
      let r₀ = reached-start s.program (sound s) s.memory (first_fine s) in
      let c : origin s.program (sound s) s.memory (first_fine s) ≡ configuration_of m = replay m.history l.reached.replayed none in
      let c₀ : origin s.program (sound s) s.memory (first_fine s) ≡ configuration_of first = replay first.history r₀.replayed start_none in
      let same : configuration_of m ≡ configuration_of first = sym c ∙ c₀ in
      let rows : m.rows ≡ first.rows =
      same_rows m.rows first.rows l.reached.ordered r₀.ordered (λ x. ap (λ (z : Configuration). z.rows x) same) in
      let mem : m.memory ≡ first.memory = ap (λ (z : Configuration). z.memory) same in
      let all : m ≡ first = λ i. record { memory = mem i; rows = rows i; history = (none ∙ sym start_none) i } in
      l.packed ∙ ap pack all
    where
      start_none : (started s.memory).history ≡ []
      start_none = no-history s.memory

      replay :
          (h : List Kept) {c : Configuration} → Replayed s.program (sound s) s.memory (first_fine s) c (map entry_of h) → h ≡ [] →
          origin s.program (sound s) s.memory (first_fine s) ≡ c
      replay h {c} r e = subst (λ (t : List Kept). Replayed s.program (sound s) s.memory (first_fine s) c (map entry_of t)) e r

-- ---- one graph
module _ (s : Subject) (w w' : List ℕ) (l : Linked s w) (l' : Linked s w') where
  pub record SameState : Type 0 where
    pub rows : (view w).rows ≡ (view w').rows
    pub memory : (view w).memory ≡ (view w').memory

  pub one_state : SameGraph s.program (view w).history (view w').history → SameState
  one_state g =
      let m = l.machine in
      let m' = l'.machine in
      let v = linked-view s w l in
      let v' = linked-view s w' l' in
      let g₁ : SameGraph s.program m.history m'.history =
      subst (λ (n : Machine). SameGraph s.program m.history n.history) v'
      (subst (λ (n : Machine). SameGraph s.program n.history (view w').history) v g) in
      let S = sound s in
      let fine = first_fine s in
      let e =
      Replay.same-graph_same_place (footprints (real s.program S)) (ahead s.program S) (behind s.program S) (Ok (real s.program S))
      (mark (real s.program S))
      (laws s.program S s.memory fine) (origin s.program S s.memory fine) (origin-ok s.program S s.memory fine) (configuration_of m)
      (configuration_of m') (map entry_of m.history) (map entry_of m'.history)
      l.reached.replayed l'.reached.replayed (same_graph s.program S m.history m'.history g₁) in
      record {
        rows =
            ap (λ (n : Machine). n.rows) v ∙ same_rows m.rows m'.rows l.reached.ordered l'.reached.ordered
            (λ x. ap (λ (z : Configuration). z.rows x) e) ∙ ap (λ (n : Machine). n.rows) (sym v');
        memory = ap (λ (n : Machine). n.memory) v ∙ ap (λ (z : Configuration). z.memory) e ∙ ap (λ (n : Machine). n.memory) (sym v');
      }
