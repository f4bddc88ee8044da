-- The rows of a machine that has just started: the root alone, at main's begin. They are well-formed. Assumes nothing.
use Rattle.std.specs.Prelude.{◌≡◌, ◌≢◌, Bool, cond, List, ℕ, ◌+◌, ◌*◌, eqb}
use Rattle.std.proofs.Common.{sym, ap, ◌∙◌, subst, arith}
use Rattle.std.proofs.Math.Option.{Option, none, some}
use Rattle.std.proofs.Math.Decide.{ℕ_discrete}
use Rattle.theory.specs.Tests.{true_false, eqb-other, eqb_same, none-some, some_inj}
use Rattle.theory.specs.Replay.{Runs}
use Rattle.theory.specs.Local.{Taken, view}
use Rattle.theory.specs.Program.{Program}
use Rattle.theory.specs.Shapes.{C, footprints}
use Rattle.theory.specs.Family.{OkRows, view-at}
use Rattle.theory.specs.Machine.{onward, backward, mark}
use Rattle.theory.specs.Optional.{none_any, slot_of}

module _ {Place Memory Value : Type 0} {look : Memory → ℕ → Value} {reading writing : ℕ → ℕ → Bool}
    (Π : Program Place Memory Value look reading writing) where
  -- the root at main's begin
  abbrev pub root : ℕ → Option Place
  root p = cond (eqb p 0) (some (Π.begin_place 0)) none

  abbrev pub first : Memory → C Π
  first memory = record { rows = root; memory = memory }

  pub root-other : (p : ℕ) → p ≢ 0 → root p ≡ none
  root-other p n = rw (eqb-other p 0 n)

  pub root_ok : OkRows Π root
  root_ok =
      record {
        places = λ p a h. go p a h (ℕ_discrete p 0);
        family =
            λ p h. absurd (true_false h
            (none_any (view root p) 8 (λ i lo hi. view-at Π root p i (slot_of i lo hi) ∙ root-other (16 * p + i) (omega arith))));
      }
    where
      go : (p : ℕ) (a : Place) → root p ≡ some a → Dec (p ≡ 0) → Π.valid a
      go p a h (yes e) = subst Π.valid (some_inj (Π.begin_place 0) a (sym (ap root e) ∙ h)) Π.main_valid
      go p a h (no n) = absurd (none-some (sym (root-other p n) ∙ h))

  pub bare : (memory : Memory) (q : ℕ) (x : Taken) → mark Π (first memory) q ≡ some x → ⊥
  bare memory q x h = go (ℕ_discrete q 0)
    where
      go : Dec (q ≡ 0) → ⊥
      go (yes e) =
          let z : mark Π (first memory) q ≡ none = rw (eqb_same q 0 e, Π.begin_exit 0) in
          none-some (sym z ∙ h)
      go (no n) =
          let z : mark Π (first memory) q ≡ none = rw (eqb-other q 0 n) in
          none-some (sym z ∙ h)

  -- the replay of a history from the start is accepted at each entry, and ends in c
  abbrev pub Replays : Memory → List Taken → C Π → Type 0
  Replays memory h c = Runs (footprints Π) (onward Π) (backward Π) (first memory) h c
