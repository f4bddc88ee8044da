-- Two steps of a program's machine trade places where neither process is above the other and they share no resource that one
-- writes; and no step goes back right after a step of a process that is above or below. Two readings of kinship are proved, child
-- and parent alone, and the whole line of descent. Assumes nothing.
use Rattle.std.specs.Prelude.{◌≡◌, refl, ◌⊎◌, ◌≢◌, Bool, true, false, ◌&&◌, ◌||◌, ℕ, zero, suc, ◌≤◌, ◌/◌, ◌%◌, eqb}
use Rattle.std.proofs.Common.{sym, ap, ◌∙◌, subst, inl, inr}
use Rattle.std.proofs.Math.Option.{Option, some}
use Rattle.theory.specs.Tests.{true_false, and-true, true_and, or_cases, or-false, or_left, eqb_same, not_true, none-some, some_inj}
use Rattle.theory.specs.Histories.{Indep}
use Rattle.theory.specs.Local.{Taken, slot, is_kid, kid-facts, disjoint, Outcome, view, At, done, fired, put_self, put-kid, swap_law}
use Rattle.theory.specs.Program.{Program}
use Rattle.theory.specs.Shapes.{C, Backward, footprints, has_kids, at_begin, back, back-shape, forward, forward-shape}
use Rattle.theory.specs.Framing.{AtBegin, apart-mixed₁, apart-mixed₂, back-ready, forward-framed, forward-kids, forward-mark, view-kid}
use Rattle.theory.specs.Family.{Family, Ok, OkRows}
use Rattle.theory.specs.Optional.{all-at, any_none, any_of, is_none}
use Rattle.theory.specs.Machine.{onward, backward, lawful}
use Rattle.theory.specs.Returning.{Trades}

-- one is the other's child
abbrev pub near : ℕ → ℕ → Bool
near p q = is_kid p q || is_kid q p

-- x is below p, by at most n calls
abbrev pub below : ℕ → ℕ → ℕ → Bool
below zero p x = false
below (suc n) p x = slot (x % 16) && (eqb (x / 16) p || below n p (x / 16))

-- one is above the other, by at most n calls (004, definition 6)
abbrev pub line : ℕ → ℕ → ℕ → Bool
line n p q = below n p q || below n q p

pub kid-below : (n p x : ℕ) → is_kid p x ≡ true → below (suc n) p x ≡ true
kid-below n p x h =
    let a = and-true (slot (x % 16)) (eqb (x / 16) p) h in
    true_and (slot (x % 16)) (eqb (x / 16) p || below n p (x / 16)) a.0 (or_left (eqb (x / 16) p) (below n p (x / 16)) a.1)

module _ {Place Memory Value : Type 0} {look : Memory → ℕ → Value} {reading writing : ℕ → ℕ → Bool}
    (Π : Program Place Memory Value look reading writing) where
  -- two steps of processes that are not parent and child trade places
  pub trade-apart :
      (s s₁ s₃ : C Π) (e f : Taken) → f.process ≢ e.process → is_kid e.process f.process ≡ false → is_kid f.process e.process ≡ false →
      Indep (footprints Π) e f → onward Π s e.process ≡ some (e, s₁) → onward Π s₁ f.process ≡ some (f, s₃) →
      (s₂ : C Π) × (onward Π s f.process ≡ some (f, s₂)) × (onward Π s₂ e.process ≡ some (e, s₃))
  trade-apart s s₁ s₃ e f n down up i he hf =
      swap_law look reading writing Π.written_read Π.same_look (forward Π) (forward Π) (forward-framed Π) (forward-framed Π) s s₃ s₁ f e
      (λ oa ob h g. disjoint f.process e.process n (λ t. true_false t up) (λ t. true_false t down)) (i.1, i.0) he hf

  -- kinship as parent and child alone
  pub trades-near : Trades (footprints Π) (onward Π) (backward Π) (Ok Π) near
  trades-near =
      record {
        trade =
            λ s s₁ s₃ e f ok n k i he hf.
            let x = or-false (is_kid e.process f.process) (is_kid f.process e.process) k in
            trade-apart s s₁ s₃ e f n x.0 x.1 i he hf;
        kin_waits = λ s₁ s₂ s₃ e f ok n hf he k. waits s₁ s₂ s₃ e f hf he (or_cases (is_kid e.process f.process) (is_kid f.process e.process) k);
      }
    where
      waits :
          (s₁ s₂ s₃ : C Π) (e f : Taken) → onward Π s₁ f.process ≡ some (f, s₃) → backward Π s₃ e.process ≡ some (e, s₂) →
          (is_kid e.process f.process ≡ true) ⊎ (is_kid f.process e.process ≡ true) → ⊥
      waits s₁ s₂ s₃ e f hf he k =
          let p = e.process in
          let q = f.process in
          let F = fired (forward Π) s₁ q f s₃ hf in
          let E = fired (back Π) s₃ p e s₂ he in
          let hb : At (back Π) (done s₁ q F.out) p E.out = subst (λ z. At (back Π) z p E.out) F.is_done E.at in
          go p q F.out E.out F.at hb k
        where
          go :
              (p q : ℕ) (ob oa : Outcome Place Memory) → At (forward Π) s₁ q ob → At (back Π) (done s₁ q ob) p oa →
              (is_kid p q ≡ true) ⊎ (is_kid q p ≡ true) → ⊥
          go p q ob oa h g (inl t) = apart-mixed₁ Π s₁ p q oa ob h g t
          go p q ob oa h g (inr t) = apart-mixed₂ Π s₁ p q oa ob h g t

  -- x is live and below p: p has a child that is x, or has children itself
  pub record Between (R : ℕ → Option Place) (p x : ℕ) : Type 0 where
    pub child : ℕ
    pub is_kid_true : is_kid p child ≡ true
    pub stands : (child ≡ x) ⊎ Family Π R child

  pub climb : (R : ℕ → Option Place) → OkRows Π R → (n p x : ℕ) (a : Place) → R x ≡ some a → below n p x ≡ true → Between R p x
  climb R ok zero p x a e h = absurd (true_false h refl)
  climb R ok (suc n) p x a e h =
      let u = and-true (slot (x % 16)) (eqb (x / 16) p || below n p (x / 16)) h in
      go u.0 (λ y t. climb R ok n p (x / 16) y t) (or_cases (eqb (x / 16) p) (below n p (x / 16)) u.1)
    where
      kid : slot (x % 16) ≡ true → is_kid (x / 16) x ≡ true
      kid s = true_and (slot (x % 16)) (eqb (x / 16) (x / 16)) s (eqb_same (x / 16) (x / 16) refl)

      up : slot (x % 16) ≡ true → Family Π R (x / 16)
      up s =
          let f = kid-facts (x / 16) x (kid s) in
          ok.family (x / 16) (any_of (view R (x / 16)) 8 (x % 16) a f.0 f.1 (view-kid Π R (x / 16) x (kid s) ∙ e))

      over : Family Π R (x / 16) → Between R p (x / 16) → Between R p x
      over F b = record { child = b.child; is_kid_true = b.is_kid_true; stands = inr (which b.stands) }
        where
          which : (b.child ≡ x / 16) ⊎ Family Π R b.child → Family Π R b.child
          which (inl q) = subst (Family Π R) (sym q) F
          which (inr G) = G

      go :
          slot (x % 16) ≡ true → ((y : Place) → R (x / 16) ≡ some y → below n p (x / 16) ≡ true → Between R p (x / 16)) →
          (eqb (x / 16) p ≡ true) ⊎ (below n p (x / 16) ≡ true) → Between R p x
      go s ih (inl q) = record { child = x; is_kid_true = true_and (slot (x % 16)) (eqb (x / 16) p) s q; stands = inl refl }
      go s ih (inr b) = let F = up s in over F (ih (Π.out F.b) F.at_out b)

  -- who is past begin
  abbrev Past : (ℕ → Option Place) → ℕ → Type 0
  Past R x = (a : Place) × (b : ℕ) × (R x ≡ some a) × (Π.exit_block a ≡ some b)

  between-past : (R : ℕ → Option Place) (p x : ℕ) → Past R x → (b : Between R p x) → Past R b.child
  between-past R p x h b = go b.stands
    where
      go : (b.child ≡ x) ⊎ Family Π R b.child → Past R b.child
      go (inl e) = subst (Past R) (sym e) h
      go (inr F) = (Π.out F.b, F.b, F.at_out, Π.out_exit F.b F.called)

  -- no undo of p while a child of p is past begin
  back-waits : (s : C Π) (p y : ℕ) (o : Outcome Place Memory) → At (back Π) s p o → is_kid p y ≡ true → Past s.rows y → ⊥
  back-waits s p y o h k y-past = go (back-shape Π (s.rows p) (view s.rows p) s.memory o h)
    where
      f : (1 ≤ y % 16) × (y % 16 ≤ 8) × (y / 16 ≡ p)
      f = kid-facts p y k

      seen : view s.rows p (y % 16) ≡ some y-past.0
      seen = view-kid Π s.rows p y k ∙ y-past.2

      lone : has_kids Π (view s.rows p) ≡ false → ⊥
      lone c = none-some (sym (any_none (view s.rows p) 8 c (y % 16) f.0 f.1) ∙ seen)

      go : Backward Π (s.rows p) (view s.rows p) s.memory o → ⊥
      go (inl L) = lone L.childless
      go (inr (inl F)) = lone F.childless
      go (inr (inr M)) =
          let t = all-at (at_begin Π) (view s.rows p) 8 M.begun (y % 16) y-past.0 f.0 f.1 seen in
          let z : at_begin Π y-past.0 ≡ false = ap is_none y-past.3 in
          true_false t z

  -- after a forward step of q no child of q is past begin
  forward-waits : (s : C Π) (q y : ℕ) (o : Outcome Place Memory) → At (forward Π) s q o → is_kid q y ≡ true → Past (done s q o).rows y → ⊥
  forward-waits s q y o h k y-past =
      go (forward-kids Π (s.rows q) (view s.rows q) s.memory o (forward-shape Π (s.rows q) (view s.rows q) s.memory o h) (y % 16) f.0
      f.1)
    where
      f : (1 ≤ y % 16) × (y % 16 ≤ 8) × (y / 16 ≡ q)
      f = kid-facts q y k

      here : o.kids (y % 16) ≡ some y-past.0
      here = sym (put-kid s.rows q o.row o.kids y k) ∙ y-past.2

      go : AtBegin Π (o.kids (y % 16)) → ⊥
      go (inl x) = none-some (sym x ∙ here)
      go (inr z) =
          let e : z.0 ≡ y-past.0 = some_inj z.0 y-past.0 (sym z.1 ∙ here) in
          none-some (sym z.2 ∙ ap Π.exit_block e ∙ y-past.3)

  -- kinship as the line of descent, to any depth
  pub trades-line : (n : ℕ) → Trades (footprints Π) (onward Π) (backward Π) (Ok Π) (line (suc n))
  trades-line n =
      record {
        trade =
            λ s s₁ s₃ e f ok d k i he hf.
            let x = nearer e.process f.process k in
            trade-apart s s₁ s₃ e f d x.0 x.1 i he hf;
        kin_waits =
            λ s₁ s₂ s₃ e f ok d hf he k. waits s₁ s₂ s₃ e f ok hf he
            (or_cases (below (suc n) e.process f.process) (below (suc n) f.process e.process) k);
      }
    where
      nearer : (p q : ℕ) → line (suc n) p q ≡ false → (is_kid p q ≡ false) × (is_kid q p ≡ false)
      nearer p q h =
          let x = or-false (below (suc n) p q) (below (suc n) q p) h in (
            not_true (is_kid p q) (λ t. true_false (kid-below n p q t) x.0),
            not_true (is_kid q p) (λ t. true_false (kid-below n q p t) x.1),
          )

      waits :
          (s₁ s₂ s₃ : C Π) (e f : Taken) → Ok Π s₁ → onward Π s₁ f.process ≡ some (f, s₃) → backward Π s₃ e.process ≡ some (e, s₂) →
          (below (suc n) e.process f.process ≡ true) ⊎ (below (suc n) f.process e.process ≡ true) → ⊥
      waits s₁ s₂ s₃ e f ok hf he k =
          let p = e.process in
          let q = f.process in
          let F = fired (forward Π) s₁ q f s₃ hf in
          let E = fired (back Π) s₃ p e s₂ he in
          let ok₃ = (lawful Π).ok_step s₁ s₃ f ok hf in
          let mq = forward-mark Π (s₁.rows q) (view s₁.rows q) s₁.memory F.out
          (forward-shape Π (s₁.rows q) (view s₁.rows q) s₁.memory F.out F.at) in
          let past-q : Past s₃.rows q =
          (mq.0, F.out.block, ap (λ z. z.rows q) F.is_done ∙ put_self s₁.rows q F.out.row F.out.kids ∙ mq.1, mq.2) in
          let rp = back-ready Π (s₃.rows p) (view s₃.rows p) s₃.memory E.out
          (back-shape Π (s₃.rows p) (view s₃.rows p) s₃.memory E.out E.at) in
          let past-p : Past s₃.rows p = (rp.0, E.out.block, rp.1, rp.2) in
          go p q F.out E.out ok₃.0 F.is_done F.at E.at past-q past-p k
        where
          go :
              (p q : ℕ) (ob oa : Outcome Place Memory) → OkRows Π s₃.rows → s₃ ≡ done s₁ q ob → At (forward Π) s₁ q ob → At (back Π) s₃ p oa →
              Past s₃.rows q → Past s₃.rows p → (below (suc n) p q ≡ true) ⊎ (below (suc n) q p ≡ true) → ⊥
          go p q ob oa ok₃ ds h g pq pp (inl t) =
              let b = climb s₃.rows ok₃ (suc n) p q pq.0 pq.2 t in
              back-waits s₃ p b.child oa g b.is_kid_true (between-past s₃.rows p q pq b)
          go p q ob oa ok₃ ds h g pq pp (inr t) =
              let b = climb s₃.rows ok₃ (suc n) q p pp.0 pp.2 t in
              forward-waits s₁ q b.child ob h b.is_kid_true (subst (λ z. Past z.rows b.child) ds (between-past s₃.rows q p pp b))
