-- The machine of a program, which brings all that Replay asks. Assumes nothing.
use Rattle.std.specs.Prelude.{◌≡◌, ◌⊎◌, ◌≢◌, Bool, true, false, ℕ, ◌%◌}
use Rattle.std.proofs.Common.{sym, ap, ◌∙◌, subst, inl, inr}
use Rattle.std.proofs.Math.Option.{Option, none, some}
use Rattle.theory.specs.Tests.{bool_cases, eqb-other, none-some}
use Rattle.theory.specs.Replay.{Lawful}
use Rattle.theory.specs.Local.{Taken, is_kid, kid-facts, Touches, view, Action, run, done, put-outside, put_self, put-kid, fire, fired, Fired, diamond-law, square-law, entry}
use Rattle.theory.specs.Program.{Program}
use Rattle.theory.specs.Shapes.{C, footprints, Forward, back, back-shape, forward, forward-shape}
use Rattle.theory.specs.Framing.{AtBegin, apart-forward, apart-mixed₁, apart-mixed₂, back-framed, back-ready, forward-framed, forward-kids, forward-mark}
use Rattle.theory.specs.Family.{Ok}
use Rattle.theory.specs.Undoing.{undo-any}
use Rattle.theory.specs.Growing.{fine₁, ok₁}
use Rattle.theory.specs.Optional.{onto}

module _ {Place Memory Value : Type 0} {look : Memory → ℕ → Value} {reading writing : ℕ → ℕ → Bool}
    (Π : Program Place Memory Value look reading writing) where
  -- the entry that a row names
  abbrev pub named : ℕ → Option Place → Option Taken
  named p none = none
  named p (some a) = onto (λ b. record { process = p; block = b }) (Π.exit_block a)

  abbrev pub mark : C Π → ℕ → Option Taken
  mark s p = named p (s.rows p)

  abbrev pub onward : C Π → ℕ → Option (Taken × C Π)
  onward s p = run (forward Π) s p

  abbrev pub backward : C Π → ℕ → Option (Taken × C Π)
  backward s p = run (back Π) s p

  pub named-at :
      (p b : ℕ) (ρ : Option Place) (a : Place) → ρ ≡ some a → Π.exit_block a ≡ some b → named p ρ ≡ some (record { process = p; block = b })
  named-at p b ρ a e h = rw (e, h)

  named-begin : (p : ℕ) (ρ : Option Place) (x : Taken) → AtBegin Π ρ → named p ρ ≡ some x → ⊥
  named-begin p ρ x (inl e) h = none-some (sym (ap (named p) e) ∙ h)
  named-begin p ρ x (inr y) h = let z : named p ρ ≡ none = rw (y.1, y.2) in none-some (sym z ∙ h)

  own : (a : Action Place Memory) (s s' : C Π) (p : ℕ) (e : Taken) → run a s p ≡ some (e, s') → e.process ≡ p
  own a s s' p e h = let x = fired a s p e s' h in ap (λ z. z.process) x.is_entry

  pub lawful : Lawful (footprints Π) onward backward (Ok Π) mark
  lawful =
      record {
        own_onward = λ s p e s' h. own (forward Π) s s' p e h;
        own_backward = λ s p e s' h. own (back Π) s s' p e h;
        ok_step =
            λ s s' e ok h. let x = fired (forward Π) s e.process e s' h in subst (Ok Π) (sym x.is_done) (
              ok₁ Π s e.process ok.0 x.out (shape s s' e x),
              fine₁ Π s e.process ok.1 x.out
                  (forward-shape Π (s.rows e.process) (view s.rows e.process) s.memory x.out x.at),
            );
        inverse = λ s s' e ok h. inv s s' e ok (fired (forward Π) s e.process e s' h);
        diamond =
            λ s s₁ s₂ e f ok n i he hf. diamond-law look reading writing Π.written_read Π.same_look (forward Π) (back Π) (forward-framed Π)
            (back-framed Π) (apart-forward Π) s s₁ s₂ e f n i he hf;
        square =
            λ s₁ s₂ s₃ e f ok n i hf he. square-law look reading writing Π.written_read Π.same_look (forward Π) (back Π) (forward-framed Π)
            (back-framed Π) (apart-mixed₁ Π) (apart-mixed₂ Π) s₁ s₂ s₃ e f n i hf he;
        mark_backward = λ s s' e h. mb s s' e (fired (back Π) s e.process e s' h);
        mark_onward = λ s s' e h. mf s s' e (fired (forward Π) s e.process e s' h);
        mark_other = λ s s' e q x h n m. mo s s' e q x n m (fired (forward Π) s e.process e s' h) (bool_cases (is_kid e.process q));
      }
    where
      shape :
          (s s' : C Π) (e : Taken) (x : Fired (forward Π) s e.process e s') →
          Forward Π (s.rows e.process) (view s.rows e.process) s.memory x.out
      shape s s' e x = forward-shape Π (s.rows e.process) (view s.rows e.process) s.memory x.out x.at

      inv : (s s' : C Π) (e : Taken) → Ok Π s → Fired (forward Π) s e.process e s' → backward s' e.process ≡ some (e, s)
      inv s s' e ok x =
          let u = undo-any Π s e.process ok.0 ok.1 x.out (shape s s' e x) in
          let r = fire (back Π) (done s e.process x.out) e.process u.0 u.1 in
          let en : entry e.process u.0 ≡ e = ap (λ b. record { process = e.process; block = b }) u.2 ∙ sym x.is_entry in
          let r₁ = subst (λ z. backward (done s e.process x.out) e.process ≡ some (entry e.process u.0, z)) u.3 r in
          let r₂ = subst (λ z. backward (done s e.process x.out) e.process ≡ some (z, s)) en r₁ in
          subst (λ z. backward z e.process ≡ some (e, s)) (sym x.is_done) r₂

      mb : (s s' : C Π) (e : Taken) → Fired (back Π) s e.process e s' → mark s e.process ≡ some e
      mb s s' e x =
          let b =
          back-ready Π (s.rows e.process) (view s.rows e.process) s.memory x.out
          (back-shape Π (s.rows e.process) (view s.rows e.process) s.memory x.out x.at) in
          named-at e.process x.out.block (s.rows e.process) b.0 b.1 b.2 ∙ ap some (sym x.is_entry)

      mf : (s s' : C Π) (e : Taken) → Fired (forward Π) s e.process e s' → mark s' e.process ≡ some e
      mf s s' e x =
          let b = forward-mark Π (s.rows e.process) (view s.rows e.process) s.memory x.out (shape s s' e x) in
          let row : s'.rows e.process ≡ some b.0 =
          ap (λ z. z.rows e.process) x.is_done ∙ put_self s.rows e.process x.out.row x.out.kids ∙ b.1 in
          named-at e.process x.out.block (s'.rows e.process) b.0 row b.2 ∙ ap some (sym x.is_entry)

      mo :
          (s s' : C Π) (e : Taken) (q : ℕ) (y : Taken) → e.process ≢ q → mark s' q ≡ some y → Fired (forward Π) s e.process e s' →
          (is_kid e.process q ≡ true) ⊎ (is_kid e.process q ≡ false) → mark s q ≡ some y
      mo s s' e q y n m x (inl k) =
          let f = kid-facts e.process q k in
          let row : s'.rows q ≡ x.out.kids (q % 16) =
          ap (λ z. z.rows q) x.is_done ∙ put-kid s.rows e.process x.out.row x.out.kids q k in
          absurd (named-begin q (x.out.kids (q % 16)) y
          (forward-kids Π (s.rows e.process) (view s.rows e.process) s.memory x.out (shape s s' e x) (q % 16) f.0 f.1)
          (subst (λ z. named q z ≡ some y) row m))
      mo s s' e q y n m x (inr k) =
          let z : Touches e.process q ≡ false = rw (eqb-other q e.process (λ w. n (sym w)), k) in
          let row : s'.rows q ≡ s.rows q = ap (λ t. t.rows q) x.is_done ∙ put-outside s.rows e.process x.out.row x.out.kids q z in
          subst (λ t. named q t ≡ some y) row m
