-- Were the values shown on the way back ever true? The machine after any string of calls, undos and refused ones included, is the one to
-- which forward
-- calls alone lead: those of its own history, in its order, made on a machine just started. On words and on bytes. Assumes what a run starts from.
use Rattle.std.specs.Prelude.{◌≡◌, refl, true, ℕ, suc, ◌+◌, ◌≤◌, ltb}
use Rattle.std.proofs.Math.Path.{sym, ap}
use Rattle.std.proofs.Common.{◌∙◌, subst, inl, inr, arith}
use Rattle.std.proofs.Math.Option.{some}
use mathlib.Core.List.{List, [], ◌∷◌, ◌++◌, map, append_assoc, append-nil}
use Rattle.std.proofs.Math.ListN.{length, length-append}
use Rattle.theory.specs.Local.{Taken, fired}
use Rattle.theory.specs.Replay
use Rattle.theory.specs.Shapes.{footprints, forward-shape, Forward, forward}
use Rattle.rules.specs.Machine.{Kept, Machine, standing, most_kept, machine_words, started, pack, view}
use Rattle.rules.specs.Step
use Rattle.rules.specs.Words.{Outcome, accept, refuse, finished, step_of, step_at, step, bytes_of}
use Rattle.rules.specs.declared.Place.{Place}
use Rattle.laws.proofs.Lists.{pick_true, pick-false}
use Rattle.theorems.specs.Program.{real}
use Rattle.theorems.specs.Tables.{same_rows}
use Rattle.theorems.specs.Children.{kids}
use Rattle.theorems.specs.Forward
use Rattle.theorems.specs.Forward.{Configuration, configuration_of, entry_of, ahead, stepped}
use Rattle.theorems.specs.Backward.{behind}
use Rattle.theorems.specs.Fitted.{fitted-room}
use Rattle.theorems.specs.Fitting.{reached-machine_fits}
use Rattle.theorems.specs.Reached.{origin, reached-rows, reached-start, reached-forward}
use Rattle.theorems.specs.PaperForward.{some_pair, goes_on_with}
use Rattle.theorems.specs.Played.{Call, play, Subject, started_in, played_in}
use Rattle.theorems_more.specs.Subjects.{view_bytes, Given, Room, played_bytes}
use Rattle.theorems.specs.Linked.{sound, first_fine, Linked, linked-view, start_is, step_is, played}
use Rattle.theorems_more.specs.Bytes.Runs.{subject, lent_of, lent-size, played-bytes, bytes-show}

-- the forward calls of a history, in its order
abbrev pub forwards_of : List Kept → List Call
forwards_of history = map (λ k. record { process = k.identifier; direction = 0 }) history

module _ (s : Subject) where
  abbrev Runs : Configuration → List Taken → Configuration → Type 0
  Runs = Replay.Runs (footprints (real s.program (sound s))) (ahead s.program (sound s)) (behind s.program (sound s))

  -- a process that steps stands somewhere
  live_at : (m : Machine) (p : ℕ) (e : Taken) (c : Configuration) → ahead s.program (sound s) (configuration_of m) p ≡ some (e, c) →
      (here : Place) × (standing m.rows p ≡ some here)
  live_at m p e c h =
      let x = fired (forward (real s.program (sound s))) (configuration_of m) p e c h in
      go (forward-shape (real s.program (sound s)) (standing m.rows p) (kids (standing m.rows) p) m.memory x.out x.at)
    where
      go : {o : _} → Forward (real s.program (sound s)) (standing m.rows p) (kids (standing m.rows) p) m.memory o → (here : Place)
          × (standing m.rows p ≡ some here)
      go (inl L) = (L.a, L.row_is)
      go (inr (inl F)) = (F.a, F.row_is)
      go (inr (inr M)) = (M.a, M.row_is)

  -- what one entry's forward call leaves: the machine that the replay says, with the entry kept
  record Onward (w : List ℕ) (l : Linked s w) (k : Kept) (c : Configuration) : Type 0 where
    linked : Linked s (step s.image w k.identifier 0).leaves
    place : configuration_of linked.machine ≡ c
    kept : linked.machine.history ≡ l.machine.history ++ k ∷ []

  onward :
      (w : List ℕ) (l : Linked s w) (k : Kept) (c : Configuration) →
      ahead s.program (sound s) (configuration_of l.machine) k.identifier ≡ some (entry_of k, c) → suc (length l.machine.history) ≤ most_kept →
      Onward w l k c
  onward w l k c moves few =
      let P = s.program in
      let S = sound s in
      let m = l.machine in
      let p = k.identifier in
      let at = live_at m p (entry_of k) c moves in
      let here = at.0 in
      let live = at.1 in
      let ok = reached-rows P S s.memory (first_fine s) m l.reached in
      let fit = reached-machine_fits P S s.memory (first_fine s) m l.reached in
      let y =
      goes_on_with P S m p here live l.reached.ordered ok.1.tree ok.0 (entry_of k) c moves few
      (λ free called. fitted-room P S m fit p here _ live free called (inl refl)) in
      let m' = y.0 in
      let st = (stepped P S m p here live l.reached.ordered ok.1.tree ok.0 m' y.1).0 in
      let pair = some_pair _ _ (sym moves ∙ st.moves) in
      let block : k.block ≡ st.block = ap (λ (z : Taken × Configuration). z.0.block) pair in
      let v = linked-view s w l in
      let is : step s.image w p 0 ≡ accept (pack m') =
      step_is s w p 0 l
      ∙ pick-false (ltb 1 0) (refuse 19 0 w) (step_at w P p 0 (standing (view w).rows p)) refl
      ∙ ap (step_at w P p 0) (ap (λ (n : Machine). standing n.rows p) v ∙ live)
      ∙ ap (λ (n : Machine). finished w (step_of P n p here 0)) v
      ∙ ap (finished w) (pick_true true (Step.forward P m p here) (Step.undo P m p here) refl ∙ y.1) in
      record {
        linked = record {
          machine = m';
          packed = ap (λ (o : Outcome (List ℕ)). o.leaves) is;
          reached = reached-forward P S s.memory (first_fine s) m p here live l.reached m' y.1;
        };
        place = sym (ap (λ (z : Taken × Configuration). z.1) pair);
        kept = st.kept ∙ ap (λ (b : ℕ). m.history ++ Forward.step_of p b ∷ []) (sym block);
      }

  record Along (w : List ℕ) (l : Linked s w) (h : List Kept) (c : Configuration) : Type 0 where
    linked : Linked s (play s.image w (forwards_of h))
    place : configuration_of linked.machine ≡ c
    kept : linked.machine.history ≡ l.machine.history ++ h

  along :
      (h : List Kept) (w : List ℕ) (l : Linked s w) (c : Configuration) → Runs (configuration_of l.machine) (map entry_of h) c →
      length l.machine.history + length h ≤ most_kept → Along w l h c
  unfolding play
  along [] w l c r few = record { linked = l; place = r; kept = sym (append-nil l.machine.history) }
  along (k ∷ h) w l c r few =
      let o = onward w l k r.0 r.1 (omega (arith, few)) in
      let n : length o.linked.machine.history ≡ length l.machine.history + 1 = ap length o.kept ∙ length-append l.machine.history (k ∷ []) in
      let x =
      along h (step s.image w k.identifier 0).leaves o.linked c
      (subst (λ (q : Configuration). Runs q (map entry_of h) c) (sym o.place) r.2) (omega (arith, few, n)) in
      record {
        linked = x.linked;
        place = x.place;
        kept = x.kept ∙ ap (λ (u : List Kept). u ++ h) o.kept ∙ append_assoc l.machine.history (k ∷ []) h;
      }

  module _ (lent : List ℕ) (size : length lent ≡ machine_words) where
    -- The machine after any string of calls is the one after the forward calls of its own history, word for word.
    pub own-history : (calls : List Call) → played_in s lent (forwards_of (view (played_in s lent calls)).history) ≡ played_in s lent calls
    unfolding started
    own-history calls =
        let P = s.program in
        let S = sound s in
        let w = played_in s lent calls in
        let l : Linked s w = played s lent calls size in
        let m = l.machine in
        let r₀ = reached-start P S s.memory (first_fine s) in
        let l₀ : Linked s (started_in s lent) = record { machine = started s.memory; packed = start_is s lent size; reached = r₀ } in
        let v = linked-view s w l in
        let few : length l₀.machine.history + length m.history ≤ most_kept = let f = l.reached.few in omega (arith, f) in
        let first : configuration_of l₀.machine ≡ origin P S s.memory (first_fine s) = sym r₀.replayed in
        let x =
        along m.history (started_in s lent) l₀ (configuration_of m)
        (subst (λ (q : Configuration). Runs q (map entry_of m.history) (configuration_of m)) (sym first) l.reached.replayed) few in
        let n = x.linked.machine in
        let rows : n.rows ≡ m.rows =
        same_rows n.rows m.rows x.linked.reached.ordered l.reached.ordered (λ q. ap (λ (z : Configuration). z.rows q) x.place) in
        let memory : n.memory ≡ m.memory = ap (λ (z : Configuration). z.memory) x.place in
        let history : n.history ≡ m.history = x.kept in
        let all : n ≡ m = λ i. record { memory = memory i; rows = rows i; history = history i } in
        ap (λ (h : List Kept). played_in s lent (forwards_of h)) (ap (λ (z : Machine). z.history) v)
        ∙ x.linked.packed ∙ ap pack all ∙ sym l.packed

-- The same on bytes, byte for byte.
pub own-history_bytes :
    (g : Given) (r : Room) (calls : List Call) → played_bytes g r (forwards_of (view_bytes (played_bytes g r calls)).history) ≡ played_bytes g r calls
own-history_bytes g r calls =
    ap (λ (w : List ℕ). played_bytes g r (forwards_of (view w).history)) (bytes-show g r calls)
    ∙ played-bytes g r (forwards_of (view (played_in (subject g) (lent_of r) calls)).history)
    ∙ ap bytes_of (own-history (subject g) (lent_of r) (lent-size r) calls)
    ∙ sym (played-bytes g r calls)
