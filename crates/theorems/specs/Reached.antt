-- What a machine keeps that is played from the start: its history, replayed forward from the start, ends at its rows and its
-- memory; its rows ascend. A forward step keeps it at once; an undo keeps it since an undone step that the graph does not hold
-- may be moved to the end of the history. Assumes that the image is sound and the first memory is 288 words.
use Rattle.std.proofs.Math.Path.{fun_ext}
use Rattle.std.specs.Prelude.{◌≡◌, refl, ◌⊎◌, Bool, true, false, List, [], ◌∷◌, ◌++◌, map, ℕ, suc, ◌+◌, ◌≤◌, length, eqb}
use Rattle.std.proofs.Common.{sym, ap, ◌∙◌, subst, inl, inr, length-append}
use Rattle.std.proofs.Math.Option.{none, some}
use native.Mathlib.Omega.{arith}
use Rattle.std.proofs.Math.Decide.{ℕ_discrete}
use Rattle.theory.specs.Replay
use Rattle.theory.specs.Tests.{bool_cases, true_false, eqb_same, eqb-other}
use Rattle.theory.specs.Replay.{Lawful, Good}
use Rattle.theory.specs.Local.{Taken}
use Rattle.theory.specs.Shapes.{footprints}
use Rattle.theory.specs.Family.{Ok}
use Rattle.theory.specs.Machine.{lawful, mark}
use Rattle.theory.specs.Started.{first, root_ok}
use Rattle.theory.specs.Peak.{Hangs, reached-well}
use Rattle.rules.specs.Base.{pick, some_of, those}
use Rattle.rules.specs.Machine.{Process, Kept, Machine, standing, started, most_kept, place, begin, root}
use Rattle.rules.specs.Format.{main}
use Rattle.rules.specs.Cause.{holds, entries_of}
use Rattle.rules.specs.Leaf.{made}
use Rattle.rules.specs.Step.{forward, undo, close_up}
use Rattle.rules.specs.declared.Block.{Block}
use Rattle.rules.specs.declared.Place.{Place}
use Rattle.laws.proofs.Ascending.{close_at}
use Rattle.theorems.specs.Held.{NoneOf, held, held_none, apart-all}
use Rattle.theorems.specs.Memory.{Fine}
use Rattle.theorems.specs.Program.{Sound, real}
use Rattle.theorems.specs.Tables.{Sorted, standing_here, standing-past, standing-none}
use Rattle.theorems.specs.Footprints.{apart-same}
use Rattle.theorems.specs.Forward.{Configuration, configuration_of, entry_of, step_of, reading, writing, Well, ahead, stepped}
use Rattle.theorems.specs.Backward.{behind, unstepped}

-- ---- the newest entry of a process
pub record Newest (history : List Kept) (p : ℕ) : Type 0 where
  pub before : List Kept
  pub step : Kept
  pub later : List Kept
  pub whole : history ≡ before ++ step ∷ later
  pub own : step.identifier ≡ p
  pub last : some_of (λ j. eqb j.identifier p) later ≡ false

some-counted : (p : ℕ) (t : List Kept) → some_of (λ i. eqb i.identifier p) t ≡ true → entries_of p t ≡ 0 → ⊥
unfolding entries_of those some_of pick
some-counted p [] h e = true_false h refl
some-counted p (j ∷ t) h e = go (ℕ_discrete j.identifier p) (λ k q. some-counted p t k q)
  where
    go : Dec (j.identifier ≡ p) → (some_of (λ i. eqb i.identifier p) t ≡ true → entries_of p t ≡ 0 → ⊥) → ⊥
    go (yes d) ih =
        let z : suc (entries_of p t) ≡ 0 = rw (eqb_same j.identifier p d) at e in
        omega (arith, z)
    go (no d) ih = ih (rw (eqb-other j.identifier p d) at h) (rw (eqb-other j.identifier p d) at e)

pub newest-of : (p : ℕ) (history : List Kept) → (entries_of p history ≡ 0 → ⊥) → Newest history p
unfolding entries_of those some_of pick
newest-of p [] h = absurd (h refl)
newest-of p (j ∷ t) h = go (bool_cases (some_of (λ i. eqb i.identifier p) t)) (ℕ_discrete j.identifier p) (λ k. newest-of p t k)
  where
    go :
        (some_of (λ i. eqb i.identifier p) t ≡ true) ⊎ (some_of (λ i. eqb i.identifier p) t ≡ false) → Dec (j.identifier ≡ p) →
        ((entries_of p t ≡ 0 → ⊥) → Newest t p) → Newest (j ∷ t) p
    go (inl s) d ih =
        let x = ih (λ e. some-counted p t s e) in
        record {
          before = j ∷ x.before;
          step = x.step;
          later = x.later;
          whole = ap (λ (l : List Kept). j ∷ l)
              x.whole;
          own = x.own;
          last = x.last;
        }
    go (inr s) (yes e) ih = record { before = []; step = j; later = t; whole = refl; own = e; last = s }
    go (inr s) (no n) ih =
        let x = ih (λ e. h (rw (eqb-other j.identifier p n) e)) in
        record {
          before = j ∷ x.before;
          step = x.step;
          later = x.later;
          whole = ap (λ (l : List Kept). j ∷ l)
              x.whole;
          own = x.own;
          last = x.last;
        }

pub map-append : (u v : List Kept) → map entry_of (u ++ v) ≡ map entry_of u ++ map entry_of v
map-append [] v = refl
map-append (k ∷ u) v = ap (λ (l : List Taken). entry_of k ∷ l) (map-append u v)

module _ (program : List Block) (S : Sound program) (memory : List ℕ) (fine : Fine memory) where
  abbrev R : ℕ → ℕ → Bool
  R = reading program S

  abbrev W : ℕ → ℕ → Bool
  W = writing program S

  abbrev pub origin : Configuration
  origin = first (real program S) memory

  abbrev pub origin-ok : Ok (real program S) origin
  origin-ok = (root_ok (real program S), fine)

  abbrev pub laws : Lawful (footprints (real program S)) (ahead program S) (behind program S) (Ok (real program S)) (mark (real program S))
  laws = lawful (real program S)

  -- a history, replayed from the start, is accepted at each entry and ends in c
  abbrev pub Replayed : Configuration → List Taken → Type 0
  Replayed c h =
      Good (footprints (real program S)) (ahead program S) (behind program S) (Ok (real program S)) (mark (real program S)) laws origin origin-ok c h

  pub record Reached (m : Machine) : Type 0 where
    pub replayed : Replayed (configuration_of m) (map entry_of m.history)
    pub ordered : Sorted m.rows
    pub few : length m.history ≤ most_kept

  pub reached-rows : (m : Machine) → Reached m → Well program S (standing m.rows) × Hangs (real program S) (standing m.rows)
  reached-rows m r = reached-well (real program S) memory fine (configuration_of m) (map entry_of m.history) r.replayed

  pub reached-memory : (m : Machine) → Reached m → Fine m.memory
  reached-memory m r =
      (Replay.good-ok (footprints (real program S)) (ahead program S) (behind program S) (Ok (real program S)) (mark (real program S))
      laws origin origin-ok (configuration_of m) (map entry_of m.history) r.replayed).1

  -- the machine just started
  start-rows : (x : ℕ) → origin.rows x ≡ standing (started memory).rows x
  unfolding started
  start-rows x = go (ℕ_discrete 0 x)
    where
      row : Process
      row = record { identifier = root; stands = place main begin }

      go : Dec (0 ≡ x) → origin.rows x ≡ standing (row ∷ []) x
      go (yes e) = let z : origin.rows x ≡ some (place main begin) = rw (eqb_same x 0 (sym e)) in z ∙ sym (standing_here row [] x e)
      go (no n) = let z : origin.rows x ≡ none = rw (eqb-other x 0 (λ e. n (sym e))) in z ∙ sym (standing-past row [] x n ∙ standing-none x)

  pub reached-start : Reached (started memory)
  unfolding started
  reached-start = record { replayed = λ i. record { rows = fun_ext start-rows i; memory = memory }; ordered = (tt, tt); few = omega arith }

  module _ (m : Machine) (p : ℕ) (here : Place) (live : standing m.rows p ≡ some here) (r : Reached m) where
    pub reached-forward : (m' : Machine) → forward program m p here ≡ made m' → Reached m'
    reached-forward m' h =
        let ok = reached-rows m r in
        let st = stepped program S m p here live r.ordered ok.1.tree ok.0 m' h in
        let s = st.0 in
        let k = step_of p s.block in
        let g =
        Replay.forward-good (footprints (real program S)) (ahead program S) (behind program S) (Ok (real program S)) (mark (real program S))
        laws origin origin-ok (configuration_of m) (configuration_of m') (map entry_of m.history) (entry_of k) r.replayed s.moves in
        let e : map entry_of m.history ++ entry_of k ∷ [] ≡ map entry_of m'.history =
        sym (map-append m.history (k ∷ [])) ∙ ap (map entry_of) (sym s.kept) in
        let l : length m'.history ≡ length m.history + 1 = ap length s.kept ∙ length-append m.history (k ∷ []) in
        record { replayed = subst (Replayed (configuration_of m')) e g; ordered = s.ordered; few = omega (arith, l, st.1) }

    -- the newest entry, where the graph does not hold it
    free-newest : holds program m.history p ≡ false → Newest m.history p
    free-newest h = newest-of p m.history (λ e. true_false (held_none program m.history p e) h)

    pub reached-undo : (m' : Machine) → undo program m p here ≡ made m' → Reached m'
    reached-undo m' h =
        let ok = reached-rows m r in
        let st = unstepped program S m p here live r.ordered ok.1.tree ok.0 m' h in
        let s = st.0 in
        let n = free-newest st.1 in
        let u = n.before in
        let k = n.step in
        let w = n.later in
        let last : NoneOf k.identifier w = subst (λ (q : ℕ). some_of (λ j. eqb j.identifier q) w ≡ false) (sym n.own) n.last in
        let free : holds program (u ++ k ∷ w) k.identifier ≡ false =
        subst (λ (l : List Kept). holds program l k.identifier ≡ false) n.whole
        (subst (λ (q : ℕ). holds program m.history q ≡ false) (sym n.own) st.1) in
        let a = apart-same program S k w (apart-all program k w last (sym (held program u k w last) ∙ free)) in
        let g₀ : Replayed (configuration_of m) (map entry_of u ++ entry_of k ∷ map entry_of w) =
        subst (Replayed (configuration_of m)) (ap (map entry_of) n.whole ∙ map-append u (k ∷ w)) r.replayed in
        let g =
        Replay.undo-good (footprints (real program S)) (ahead program S) (behind program S) (Ok (real program S)) (mark (real program S))
        laws origin origin-ok (configuration_of m) (configuration_of m') (map entry_of u) (entry_of k) (map entry_of w)
        (entry_of (step_of p s.block)) g₀ a n.own s.moves in
        let c : m'.history ≡ u ++ w = s.closed ∙ ap (λ (l : List Kept). close_up l p) n.whole ∙ close_at p u k w n.own n.last in
        let e : map entry_of u ++ map entry_of w ≡ map entry_of m'.history = sym (map-append u w) ∙ ap (map entry_of) (sym c) in
        let l₁ : length m'.history ≡ length u + length w = ap length c ∙ length-append u w in
        let l₂ : length m.history ≡ length u + length (k ∷ w) = ap length n.whole ∙ length-append u (k ∷ w) in
        record { replayed = subst (Replayed (configuration_of m')) e g; ordered = s.ordered; few = omega (arith, l₁, l₂, r.few) }
