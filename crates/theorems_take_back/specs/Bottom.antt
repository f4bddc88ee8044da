-- What code 35 asks of a machine: undoing its newest entry again and again is accepted until none is left, where code 17 is asked
-- before each undo and not after the last. Such a machine is what its kept steps give, made forward from the machine that is left
-- (Rooted), which need not be a started one. And every reached machine is such. Assumes that the image is sound and the memory is
-- 288 words.
use Rattle.std.specs.Prelude.{◌≡◌, refl, true, false, List, [], ◌∷◌, ◌++◌, map, ℕ, eqb}
use Rattle.std.proofs.Common.{sym, ap, ◌∙◌, subst, append-nil}
use Rattle.std.proofs.Math.Option.{some}
use Rattle.theory.specs.Tests.{eqb_same, some_inj}
use Rattle.theory.specs.Local.{Taken, view, fired}
use Rattle.theory.specs.Shapes.{back, back-shape}
use Rattle.theory.specs.Framing.{back-ready}
use Rattle.theory.specs.Family.{Ok}
use Rattle.theory.specs.Machine.{mark}
use Rattle.theory.specs.Redoing.{ok_back, forth}
use Rattle.theory.specs.Emptied.{turned, Empties, Redoable, emptied}
use Rattle.rules.specs.Base.{pick, some_of}
use Rattle.rules.specs.Machine.{Kept, Machine}
use Rattle.rules.specs.Fits.{newest, exit_block, machine_fits}
use Rattle.rules.specs.Step.{close_up}
use Rattle.rules.specs.declared.Block.{Block}
use Rattle.rules.specs.declared.Place.{Place}
use Rattle.laws.proofs.Ascending.{close_at}
use Rattle.theorems.specs.Parts.{exit_at}
use Rattle.theorems.specs.Memory.{Fine}
use Rattle.theorems.specs.Program.{Sound, real, exit-some}
use Rattle.theorems.specs.Fitting.{reached-machine_fits}
use Rattle.theorems.specs.Fitted.{fitted, fitted-order}
use Rattle.theorems.specs.Forward.{configuration_of, entry_of, ahead}
use Rattle.theorems.specs.Backward.{behind, unstepped}
use Rattle.theorems.specs.Reached.{Reached, reached-rows, reached-undo, map-append}
use Rattle.theorems.specs.Going.{newest-back}
use Rattle.theorems.specs.PaperFitted as PaperFitted
use Rattle.theorems_take_back.specs.TurnedRound.{both_ways}
use Rattle.theorems_take_back.specs.Rooted.{Φ, laws, Gives, Rooted, UndoneBy}

-- the newest entry of the process of the last entry is that entry
newest-last : (h : List Kept) (k : Kept) → newest (h ++ k ∷ []) k.identifier ≡ some k.block
unfolding newest pick
newest-last [] k = rw (eqb_same k.identifier k.identifier refl)
newest-last (j ∷ h) k = rw (newest-last h k)

-- oldest first
abbrev pub turned_kept : List Kept → List Kept
turned_kept [] = []
turned_kept (k ∷ t) = turned_kept t ++ k ∷ []

no_later : (p : ℕ) → some_of (λ (j : Kept). eqb j.identifier p) [] ≡ false
unfolding some_of
no_later p = refl

pub closed-last : (h : List Kept) (k : Kept) → close_up (h ++ k ∷ []) k.identifier ≡ h
closed-last h k = close_at k.identifier h k [] refl (no_later k.identifier) ∙ append-nil h

module _ (program : List Block) (S : Sound program) where
  -- m's history is t, newest first; each is undone in its turn, and m₀ is left
  abbrev pub EmptiedBy : Machine → List Kept → Machine → Type 0
  EmptiedBy m [] m₀ = (m.history ≡ []) × (m ≡ m₀)
  EmptiedBy m (k ∷ t) m₀ =
      (machine_fits program m ≡ true) × (h : List Kept) × (m.history ≡ h ++ k ∷ []) × (m₁ : Machine) × UndoneBy program S m k.identifier m₁
      × EmptiedBy m₁ t m₀

  pub redoable : Redoable (Φ program S) (ahead program S) (behind program S) (Ok (real program S))
  redoable = record { ok_back = ok_back (real program S) (both_ways program S); forth = forth (real program S) (both_ways program S) }

  -- an accepted undo of the newest entry takes that entry back, by code 17
  pub newest-moves :
      (m m₁ : Machine) (h : List Kept) (k : Kept) → machine_fits program m ≡ true → m.history ≡ h ++ k ∷ [] → UndoneBy program S m k.identifier m₁ →
      (behind program S (configuration_of m) k.identifier ≡ some (entry_of k, configuration_of m₁)) × (m₁.history ≡ h)
  newest-moves m m₁ h k passed e d =
      let p = k.identifier in
      let Π = real program S in
      let f = fitted program S m passed in
      let st = (unstepped program S m p d.here d.live (fitted-order program m passed) f.1.tree f.0 m₁ d.undone).0 in
      let c = configuration_of m in
      let F = fired (back Π) c p (entry_of (record { identifier = p; block = st.block })) (configuration_of m₁) st.moves in
      let l = back-ready Π (c.rows p) (view c.rows p) c.memory F.out (back-shape Π (c.rows p) (view c.rows p) c.memory F.out F.at) in
      let same : l.0 ≡ d.here = some_inj l.0 d.here (sym l.1 ∙ d.live) in
      let x = exit-some program S d.here F.out.block (subst (λ (q : Place). exit_at program q ≡ some F.out.block) same l.2) in
      let n : newest m.history p ≡ some (exit_block program d.here) = PaperFitted.kept program S m passed p d.here d.live x.0 in
      let b : k.block ≡ exit_block program d.here =
      some_inj k.block (exit_block program d.here) (sym (newest-last h k) ∙ ap (λ (t : List Kept). newest t p) (sym e) ∙ n) in
      let q : st.block ≡ F.out.block = ap (λ (z : Taken). z.block) F.is_entry in
      let is : st.block ≡ k.block = q ∙ sym x.1 ∙ sym b in (
        subst (λ (z : ℕ). behind program S c p ≡ some (entry_of (record { identifier = p; block = z }), configuration_of m₁)) is st.moves,
        st.closed ∙ ap (λ (t : List Kept). close_up t p) e ∙ closed-last h k,
      )

  emptied-down :
      (t : List Kept) (m m₀ : Machine) → EmptiedBy m t m₀ →
      Empties (Φ program S) (ahead program S) (behind program S) (configuration_of m) (map entry_of t) (configuration_of m₀)
      × (map entry_of m.history ≡ turned (Φ program S) (map entry_of t))
  emptied-down [] m m₀ x = (ap configuration_of x.1, ap (map entry_of) x.0)
  emptied-down (k ∷ t) m m₀ x =
      let n = newest-moves m x.3 x.1 k x.0 x.2 x.4 in
      let i = emptied-down t x.3 m₀ x.5 in (
        (configuration_of x.3, n.0, i.0),
        ap (map entry_of) x.2 ∙ map-append x.1 (k ∷ []) ∙ ap (λ (l : List Taken). l ++ entry_of k ∷ []) (ap (map entry_of) (sym n.1) ∙ i.1),
      )

  -- A machine that passes codes 17 and 35 is what its kept steps give, made forward from the machine that is left.
  pub rooted :
      (t : List Kept) (m m₀ : Machine) → machine_fits program m ≡ true → Fine m.memory → EmptiedBy m t m₀ →
      Rooted program S (configuration_of m₀) m
  rooted t m m₀ passed fine x =
      let f = fitted program S m passed in
      let d = emptied-down t m m₀ x in
      let e =
      emptied (Φ program S) (ahead program S) (behind program S) (Ok (real program S)) (mark (real program S)) (laws program S) redoable
      (map entry_of t) (configuration_of m) (configuration_of m₀) (f.0, fine) d.0 in
      record {
        base_ok = e.0;
        gives = subst (λ (l : List Taken). Gives program S (configuration_of m₀) l (configuration_of m)) (sym d.1) e.1;
        ordered = fitted-order program m passed;
        hangs = f.1;
      }

  -- On a reached machine code 35 does not occur.
  module _ (memory : List ℕ) (fine : Fine memory) where
    pub reached-emptied :
        (t : List Kept) (m : Machine) → Reached program S memory fine m → m.history ≡ turned_kept t → (m₀ : Machine) × EmptiedBy m t m₀
    reached-emptied [] m r e = (m, (e, refl))
    reached-emptied (k ∷ t) m r e =
        let b = newest-back program S memory fine m (turned_kept t) k r e in
        let m₁ = b.leaves in
        let r₁ = reached-undo program S memory fine m k.identifier b.here b.live r m₁ b.undone in
        let ok = reached-rows program S memory fine m r in
        let st = (unstepped program S m k.identifier b.here b.live r.ordered ok.1.tree ok.0 m₁ b.undone).0 in
        let i = reached-emptied t m₁ r₁ (st.closed ∙ b.history) in (
          i.0,
          (
            reached-machine_fits program S memory fine m r,
            turned_kept t,
            e,
            m₁,
            record { here = b.here; live = b.live; undone = b.undone },
            i.1,
          ),
        )
