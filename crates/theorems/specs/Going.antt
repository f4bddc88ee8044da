-- The newest kept step of a reached machine goes back. Assumes that the image is sound.
use Rattle.std.specs.Prelude.{◌≡◌, refl, Bool, false, List, [], ◌∷◌, ◌++◌, map, ℕ, eqb}
use Rattle.std.proofs.Common.{sym, ap, ◌∙◌, subst, inl, inr, append-nil}
use Rattle.std.proofs.Math.Option.{some}
use Rattle.theory.specs.Replay
use Rattle.theory.specs.Local.{Taken, Outcome, fired}
use Rattle.theory.specs.Shapes.{footprints, back, back-shape, Backward}
use Rattle.theory.specs.Family.{Ok}
use Rattle.theory.specs.Machine.{mark}
use Rattle.rules.specs.Base.{some_of}
use Rattle.rules.specs.Machine.{Kept, Machine, standing}
use Rattle.rules.specs.Fits.{exit_block}
use Rattle.rules.specs.Cause.{holds}
use Rattle.rules.specs.Leaf.{made}
use Rattle.rules.specs.Step.{undo, close_up}
use Rattle.rules.specs.declared.Block.{Block}
use Rattle.rules.specs.declared.Place.{Place}
use Rattle.laws.specs.Conflict.{conflicts}
use Rattle.laws.proofs.Ascending.{close_at}
use Rattle.theorems.specs.Held.{held}
use Rattle.theorems.specs.Memory.{Fine}
use Rattle.theorems.specs.Program.{Sound, real}
use Rattle.theorems.specs.Children.{kids}
use Rattle.theorems.specs.Forward.{Configuration, configuration_of, entry_of, ahead}
use Rattle.theorems.specs.Backward.{behind, goes_back}
use Rattle.theorems.specs.Reached.{Reached, Replayed, reached-rows, laws, origin, origin-ok, map-append}
use Rattle.theorems.specs.Room.{children-room}
use Rattle.theorems.specs.Stands.{call-here}

none_of : (g : Kept → Bool) → some_of g [] ≡ false
unfolding some_of
none_of g = refl

module _ (program : List Block) (S : Sound program) (memory : List ℕ) (fine : Fine memory) where
  -- who goes back stands somewhere
  back-live : (c : Configuration) (p : ℕ) (e : Taken) (s : Configuration) → behind program S c p ≡ some (e, s) → (a : Place) × (c.rows p ≡ some a)
  back-live c p e s h =
      let x = fired (back (real program S)) c p e s h in
      go x.out (back-shape (real program S) (c.rows p) (kids c.rows p) c.memory x.out x.at)
    where
      go : (o : Outcome Place (List ℕ)) → Backward (real program S) (c.rows p) (kids c.rows p) c.memory o → (a : Place) × (c.rows p ≡ some a)
      go o (inl L) = (L.a, L.row_is)
      go o (inr (inl L)) = (L.a, L.row_is)
      go o (inr (inr L)) = (L.a, L.row_is)

  pub record Back (m : Machine) (k : Kept) (h : List Kept) : Type 0 where
    pub here : Place
    pub live : standing m.rows k.identifier ≡ some here
    pub leaves : Machine
    pub undone : undo program m k.identifier here ≡ made leaves
    pub history : close_up m.history k.identifier ≡ h

  pub newest-back : (m : Machine) (h : List Kept) (k : Kept) → Reached program S memory fine m → m.history ≡ h ++ k ∷ [] → Back m k h
  newest-back m h k r e =
      let p = k.identifier in
      let g₀ : Replayed program S memory fine (configuration_of m) (map entry_of h ++ entry_of k ∷ []) =
      subst (Replayed program S memory fine (configuration_of m)) (ap (map entry_of) e ∙ map-append h (k ∷ [])) r.replayed in
      let n =
      Replay.newest-undone (footprints (real program S)) (ahead program S) (behind program S) (Ok (real program S)) (mark (real program S))
      (laws program S memory fine) (origin program S memory fine) (origin-ok program S memory fine) (configuration_of m) (map entry_of h)
      (entry_of k) g₀ in
      let s = n.0 in
      let l = back-live (configuration_of m) p (entry_of k) s n.1 in
      let ok = reached-rows program S memory fine m r in
      let free : holds program m.history p ≡ false = ap (λ (t : List Kept). holds program t p) e ∙ held program h k [] no_later ∙ none-later k in
      let c : close_up m.history p ≡ h = ap (λ (t : List Kept). close_up t p) e ∙ close_at p h k [] refl no_later ∙ append-nil h in
      let g = goes_back program S m p l.0 l.1 r.ordered ok.1.tree ok.0 (entry_of k) s n.1 free
      (λ run alone call. children-room program S m.rows r.ordered ok.0 ok.1 p l.0 (exit_block program l.0) l.1 alone call
      (sym (call-here program S l.0 (exit_block program l.0) call (inr refl)))) in
      record { here = l.0; live = l.1; leaves = g.0; undone = g.1; history = c }
    where
      no_later : some_of (λ (j : Kept). eqb j.identifier k.identifier) [] ≡ false
      no_later = none_of (λ (j : Kept). eqb j.identifier k.identifier)

      none-later : (k : Kept) → some_of (conflicts program k) [] ≡ false
      none-later k = none_of (conflicts program k)
