-- Well-formed rows: what a process with children stands at, and that its children are its call's. And rows put back. Assumes
-- nothing.
use Rattle.std.specs.Prelude.{◌≡◌, ◌⊎◌, Bool, true, false, ℕ, ◌+◌, ◌*◌, ◌%◌}
use Rattle.std.proofs.Common.{sym, ap, ◌∙◌, inl, inr, arith}
use Rattle.std.proofs.Math.Path.{fun_ext}
use Rattle.std.proofs.Math.Option.{Option, none, some}
use Rattle.std.proofs.Math.Decide.{ℕ_discrete}
use Rattle.theory.specs.Tests.{bool_cases, eqb-other}
use Rattle.theory.specs.Local.{slot, is_kid, kid-facts, kid_of, kid-place, Touches, view, put, put-outside, put_self, put-kid}
use Rattle.theory.specs.Program.{Program}
use Rattle.theory.specs.Shapes.{C, Kids, has_kids}
use Rattle.theory.specs.Optional.{slot_of}

module _ {Place Memory Value : Type 0} {look : Memory → ℕ → Value} {reading writing : ℕ → ℕ → Bool}
    (Π : Program Place Memory Value look reading writing) where
  -- well-formed rows: every place is the program's, and a process that has children stands at the exit of a call, with just that call's children
  abbrev pub OfLabel : Option Place → Option ℕ → Type 0
  OfLabel none none = Unit {0}
  OfLabel none (some l) = ⊥
  OfLabel (some a) none = ⊥
  OfLabel (some a) (some l) = Π.home a ≡ l

  pub record Family (R : ℕ → Option Place) (p : ℕ) : Type 0 where
    pub b : ℕ
    pub called : Π.is_call b ≡ true
    pub at_out : R p ≡ some (Π.out b)
    pub each : (i : ℕ) → slot i ≡ true → OfLabel (view R p i) (Π.label b i)

  pub record OkRows (R : ℕ → Option Place) : Type 0 where
    pub places : (p : ℕ) (a : Place) → R p ≡ some a → Π.valid a
    pub family : (p : ℕ) → has_kids Π (view R p) ≡ true → Family R p

  abbrev pub Ok : C Π → Type 0
  Ok s = OkRows s.rows × Π.fine s.memory

  pub view-put : (R : ℕ → Option Place) (p : ℕ) (ρ : Option Place) (k : Kids Π) (i : ℕ) → slot i ≡ true → view (put R p ρ k) p i ≡ k i
  view-put R p ρ k i h = rw h (put-kid R p ρ k (16 * p + i) (kid_of p i h) ∙ ap k (kid-place p i h))

  pub view-at : (R : ℕ → Option Place) (p i : ℕ) → slot i ≡ true → view R p i ≡ R (16 * p + i)
  view-at R p i h = rw h

  pub view_out : (R : ℕ → Option Place) (p i : ℕ) → slot i ≡ false → view R p i ≡ none
  view_out R p i h = rw h

  pub put_back :
      (R : ℕ → Option Place) (p : ℕ) (ρ ρ₀ : Option Place) (k k₀ : Kids Π) → R p ≡ ρ₀ → ((i : ℕ) → slot i ≡ true → k₀ i ≡ R (16 * p + i)) →
      put (put R p ρ k) p ρ₀ k₀ ≡ R
  put_back R p ρ ρ₀ k k₀ e f = fun_ext (λ x. go x (ℕ_discrete x p) (bool_cases (is_kid p x)))
    where
      S : ℕ → Option Place
      S = put R p ρ k

      go : (x : ℕ) → Dec (x ≡ p) → (is_kid p x ≡ true) ⊎ (is_kid p x ≡ false) → put S p ρ₀ k₀ x ≡ R x
      go x (yes q) z = ap (put S p ρ₀ k₀) q ∙ put_self S p ρ₀ k₀ ∙ sym e ∙ ap R (sym q)
      go x (no n) (inl z) =
          let g = kid-facts p x z in
          let w : 16 * p + x % 16 ≡ x = omega (arith, g.2) in
          put-kid S p ρ₀ k₀ x z ∙ f (x % 16) (slot_of (x % 16) g.0 g.1) ∙ ap R w
      go x (no n) (inr z) =
          let o : Touches p x ≡ false = rw (eqb-other x p n, z) in
          put-outside S p ρ₀ k₀ x o ∙ put-outside R p ρ k x o
