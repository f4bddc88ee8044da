-- What a step reads and changes of memory is what its block does; a parent and its child are never ready together. Assumes
-- nothing.
use Rattle.std.specs.Prelude.{◌≡◌, refl, ◌⊎◌, Bool, true, false, ℕ, ◌+◌, ◌*◌, ◌≤◌, ◌/◌, ◌%◌}
use Rattle.std.proofs.Common.{sym, ap, ◌∙◌, subst, inl, inr, arith}
use Rattle.std.proofs.Math.Option.{Option, none, some}
use Rattle.theory.specs.Tests.{some_inj, true_false, none-some}
use Rattle.theory.specs.Local.{is_kid, kid-facts, Outcome, view, At, done, Framed, put_self, put-kid, with_memory_of}
use Rattle.theory.specs.Program.{Program}
use Rattle.theory.specs.Shapes.{Backward, C, Forward, Kids, at_begin, at_end, back, back-shape, fork-forward, forward, forward-shape, has_kids, leaf-forward, merge-forward, unfork-back, unleaf-back, unmerge_back}
use Rattle.theory.specs.Optional.{all-at, any_none, is_none, onto, slot_of}

module _ {Place Memory Value : Type 0} {look : Memory → ℕ → Value} {reading writing : ℕ → ℕ → Bool}
    (Π : Program Place Memory Value look reading writing) where
  -- memory
  abbrev holding : Outcome Place Memory → Memory → Outcome Place Memory
  holding o n = with_memory_of o n

  forward-keeps :
      (ρ : Option Place) (k : Kids Π) (m : Memory) (o : Outcome Place Memory) → Forward Π ρ k m o → (r : ℕ) → writing o.block r ≡ false →
      look o.memory r ≡ look m r
  forward-keeps ρ k m o (inl L) r h =
      ap (λ x. look x.memory r) L.o_is ∙ Π.leaf_keeps L.a L.a' L.b m L.m' L.acts r
      (subst (λ x. writing x.block r ≡ false) L.o_is h)
  forward-keeps ρ k m o (inr (inl F)) r h = ap (λ x. look x.memory r) F.o_is
  forward-keeps ρ k m o (inr (inr M)) r h = ap (λ x. look x.memory r) M.o_is

  forward-alike :
      (ρ : Option Place) (k : Kids Π) (m n : Memory) (o : Outcome Place Memory) → Forward Π ρ k m o →
      ((r : ℕ) → reading o.block r ≡ true → look n r ≡ look m r) →
      (n' : Memory) × (forward Π ρ k n ≡ some (holding o n')) × ((r : ℕ) → reading o.block r ≡ true → look n' r ≡ look o.memory r)
  forward-alike ρ k m n o (inl L) h =
      let x = Π.leaf_alike L.a L.a' L.b m L.m' n L.acts (λ r q. h r (subst (λ z. reading z.block r ≡ true) (sym L.o_is) q)) in
      let f = leaf-forward Π L.a L.a' L.b k n x.0 L.entry_is L.childless L.plain x.1 in (
        x.0,
        ap (λ z. forward Π z k n) L.row_is ∙ f ∙ ap (λ z. some (holding z x.0)) (sym L.o_is),
        (λ r q. x.2 r (subst (λ z. reading z.block r ≡ true) L.o_is q) ∙ sym (ap (λ z. look z.memory r) L.o_is)),
      )
  forward-alike ρ k m n o (inr (inl F)) h = (
    n,
    ap (λ z. forward Π z k n) F.row_is ∙ fork-forward Π F.a F.b k n F.entry_is F.childless F.called ∙ ap (λ z. some (holding z n))
        (sym F.o_is),
    (λ r q. h r q ∙ sym (ap (λ z. look z.memory r) F.o_is)),
  )
  forward-alike ρ k m n o (inr (inr M)) h = (
    n,
    ap (λ z. forward Π z k n) M.row_is ∙ merge-forward Π M.a M.b M.c k n M.entry_is M.childed M.ended M.exit_is ∙ ap
        (λ z. some (holding z n)) (sym M.o_is),
    (λ r q. h r q ∙ sym (ap (λ z. look z.memory r) M.o_is)),
  )

  back-keeps :
      (ρ : Option Place) (k : Kids Π) (m : Memory) (o : Outcome Place Memory) → Backward Π ρ k m o → (r : ℕ) → writing o.block r ≡ false →
      look o.memory r ≡ look m r
  back-keeps ρ k m o (inl L) r h =
      ap (λ x. look x.memory r) L.o_is ∙ Π.unleaf_keeps L.a L.a' L.b m L.m' L.acts r
      (subst (λ x. writing x.block r ≡ false) L.o_is h)
  back-keeps ρ k m o (inr (inl F)) r h = ap (λ x. look x.memory r) F.o_is
  back-keeps ρ k m o (inr (inr M)) r h = ap (λ x. look x.memory r) M.o_is

  back-alike :
      (ρ : Option Place) (k : Kids Π) (m n : Memory) (o : Outcome Place Memory) → Backward Π ρ k m o →
      ((r : ℕ) → reading o.block r ≡ true → look n r ≡ look m r) →
      (n' : Memory) × (back Π ρ k n ≡ some (holding o n')) × ((r : ℕ) → reading o.block r ≡ true → look n' r ≡ look o.memory r)
  back-alike ρ k m n o (inl L) h =
      let x = Π.unleaf_alike L.a L.a' L.b m L.m' n L.acts (λ r q. h r (subst (λ z. reading z.block r ≡ true) (sym L.o_is) q)) in
      let f = unleaf-back Π L.a L.a' L.b k n x.0 L.exit_is L.childless L.plain x.1 in (
        x.0,
        ap (λ z. back Π z k n) L.row_is ∙ f ∙ ap (λ z. some (holding z x.0)) (sym L.o_is),
        (λ r q. x.2 r (subst (λ z. reading z.block r ≡ true) L.o_is q) ∙ sym (ap (λ z. look z.memory r) L.o_is)),
      )
  back-alike ρ k m n o (inr (inl F)) h = (
    n,
    ap (λ z. back Π z k n) F.row_is ∙ unmerge_back Π F.a F.b k n F.exit_is F.childless F.called ∙ ap (λ z. some (holding z n))
        (sym F.o_is),
    (λ r q. h r q ∙ sym (ap (λ z. look z.memory r) F.o_is)),
  )
  back-alike ρ k m n o (inr (inr M)) h = (
    n,
    ap (λ z. back Π z k n) M.row_is ∙ unfork-back Π M.a M.b k n M.exit_is M.childed M.begun ∙ ap (λ z. some (holding z n))
        (sym M.o_is),
    (λ r q. h r q ∙ sym (ap (λ z. look z.memory r) M.o_is)),
  )

  pub forward-framed : Framed look reading writing (forward Π)
  forward-framed =
      record {
        keeps = λ ρ k m o h. forward-keeps ρ k m o (forward-shape Π ρ k m o h);
        alike = λ ρ k m n o h. forward-alike ρ k m n o
            (forward-shape Π ρ k m o h);
      }

  pub back-framed : Framed look reading writing (back Π)
  back-framed =
      record {
        keeps = λ ρ k m o h. back-keeps ρ k m o (back-shape Π ρ k m o h);
        alike = λ ρ k m n o h. back-alike ρ k m n o
            (back-shape Π ρ k m o h);
      }

  -- rows
  pub forward-ready :
      (ρ : Option Place) (k : Kids Π) (m : Memory) (o : Outcome Place Memory) → Forward Π ρ k m o →
      (a : Place) × (b : ℕ) × (ρ ≡ some a) × (Π.entry_block a ≡ some b)
  forward-ready ρ k m o (inl L) = (L.a, L.b, L.row_is, L.entry_is)
  forward-ready ρ k m o (inr (inl F)) = (F.a, F.b, F.row_is, F.entry_is)
  forward-ready ρ k m o (inr (inr M)) = (M.a, M.b, M.row_is, M.entry_is)

  pub back-ready :
      (ρ : Option Place) (k : Kids Π) (m : Memory) (o : Outcome Place Memory) → Backward Π ρ k m o →
      (a : Place) × (ρ ≡ some a) × (Π.exit_block a ≡ some o.block)
  back-ready ρ k m o (inl L) = (L.a, L.row_is, L.exit_is ∙ ap (λ z. some z.block) (sym L.o_is))
  back-ready ρ k m o (inr (inl F)) = (F.a, F.row_is, F.exit_is ∙ ap (λ z. some z.block) (sym F.o_is))
  back-ready ρ k m o (inr (inr M)) = (M.a, M.row_is, M.exit_is ∙ ap (λ z. some z.block) (sym M.o_is))

  pub forward-mark :
      (ρ : Option Place) (k : Kids Π) (m : Memory) (o : Outcome Place Memory) → Forward Π ρ k m o →
      (a : Place) × (o.row ≡ some a) × (Π.exit_block a ≡ some o.block)
  forward-mark ρ k m o (inl L) = (
    L.a',
    ap (λ z. z.row) L.o_is,
    Π.leaf_exit L.a L.a' L.b m L.m' L.plain L.entry_is L.acts ∙ ap (λ z. some z.block)
        (sym L.o_is),
  )
  forward-mark ρ k m o (inr (inl F)) =
      (Π.out F.b, ap (λ z. z.row) F.o_is, Π.out_exit F.b F.called ∙ ap (λ z. some z.block) (sym F.o_is))
  forward-mark ρ k m o (inr (inr M)) = (M.a, ap (λ z. z.row) M.o_is, M.exit_is ∙ ap (λ z. some z.block) (sym M.o_is))

  -- after a step, each child is gone or at begin
  abbrev pub AtBegin : Option Place → Type 0
  AtBegin ρ = (ρ ≡ none) ⊎ ((a : Place) × (ρ ≡ some a) × (Π.exit_block a ≡ none))

  pub onto-begin : (o : Option ℕ) → AtBegin (onto Π.begin_place o)
  onto-begin none = inl refl
  onto-begin (some l) = inr (Π.begin_place l, refl, Π.begin_exit l)

  pub forward-kids :
      (ρ : Option Place) (k : Kids Π) (m : Memory) (o : Outcome Place Memory) → Forward Π ρ k m o → (i : ℕ) → 1 ≤ i → i ≤ 8 → AtBegin (o.kids i)
  forward-kids ρ k m o (inl L) i lo hi = inl (ap (λ z. z.kids i) L.o_is ∙ any_none k 8 L.childless i lo hi)
  forward-kids ρ k m o (inr (inl F)) i lo hi = subst AtBegin (sym (ap (λ z. z.kids i) F.o_is)) (onto-begin (Π.label F.b i))
  forward-kids ρ k m o (inr (inr M)) i lo hi = inl (ap (λ z. z.kids i) M.o_is)

  pub view-kid : (R : ℕ → Option Place) (p x : ℕ) → is_kid p x ≡ true → view R p (x % 16) ≡ R x
  view-kid R p x h =
      let f = kid-facts p x h in
      let e : 16 * p + x % 16 ≡ x = omega (arith, f.2) in
      rw (slot_of (x % 16) f.0 f.1) (ap R e)

  none-not_some : {X : Type 0} (o : Option X) (x : X) → o ≡ some x → is_none o ≡ true → ⊥
  none-not_some o x e h = let z : is_none o ≡ false = ap is_none e in true_false h z

  pub apart-forward : (s : C Π) (p q : ℕ) (oa ob : Outcome Place Memory) → At (forward Π) s p oa → At (forward Π) s q ob → is_kid p q ≡ true → ⊥
  apart-forward s p q oa ob ha hb kid = go (forward-shape Π (s.rows p) (view s.rows p) s.memory oa ha)
    where
      f : (1 ≤ q % 16) × (q % 16 ≤ 8) × (q / 16 ≡ p)
      f = kid-facts p q kid

      rq : (a : Place) × (b : ℕ) × (s.rows q ≡ some a) × (Π.entry_block a ≡ some b)
      rq = forward-ready (s.rows q) (view s.rows q) s.memory ob (forward-shape Π (s.rows q) (view s.rows q) s.memory ob hb)

      seen : view s.rows p (q % 16) ≡ some rq.0
      seen = view-kid s.rows p q kid ∙ rq.2

      lone : has_kids Π (view s.rows p) ≡ false → ⊥
      lone h = none-some (sym (any_none (view s.rows p) 8 h (q % 16) f.0 f.1) ∙ seen)

      go : Forward Π (s.rows p) (view s.rows p) s.memory oa → ⊥
      go (inl L) = lone L.childless
      go (inr (inl F)) = lone F.childless
      go (inr (inr M)) =
          none-not_some (Π.entry_block rq.0) rq.1 rq.3 (all-at (at_end Π) (view s.rows p) 8 M.ended (q % 16) rq.0 f.0 f.1 seen)

  pub apart-mixed₁ :
      (s : C Π) (p q : ℕ) (oa ob : Outcome Place Memory) → At (forward Π) s q ob → At (back Π) (done s q ob) p oa → is_kid p q ≡ true → ⊥
  apart-mixed₁ s p q oa ob hf hb kid = go (back-shape Π (s'.rows p) (view s'.rows p) s'.memory oa hb)
    where
      s' : C Π
      s' = done s q ob

      f : (1 ≤ q % 16) × (q % 16 ≤ 8) × (q / 16 ≡ p)
      f = kid-facts p q kid

      mq : (a : Place) × (ob.row ≡ some a) × (Π.exit_block a ≡ some ob.block)
      mq = forward-mark (s.rows q) (view s.rows q) s.memory ob (forward-shape Π (s.rows q) (view s.rows q) s.memory ob hf)

      seen : view s'.rows p (q % 16) ≡ some mq.0
      seen = view-kid s'.rows p q kid ∙ put_self s.rows q ob.row ob.kids ∙ mq.1

      lone : has_kids Π (view s'.rows p) ≡ false → ⊥
      lone h = none-some (sym (any_none (view s'.rows p) 8 h (q % 16) f.0 f.1) ∙ seen)

      go : Backward Π (s'.rows p) (view s'.rows p) s'.memory oa → ⊥
      go (inl L) = lone L.childless
      go (inr (inl F)) = lone F.childless
      go (inr (inr M)) =
          none-not_some (Π.exit_block mq.0) ob.block mq.2
          (all-at (at_begin Π) (view s'.rows p) 8 M.begun (q % 16) mq.0 f.0 f.1 seen)

  pub apart-mixed₂ :
      (s : C Π) (p q : ℕ) (oa ob : Outcome Place Memory) → At (forward Π) s q ob → At (back Π) (done s q ob) p oa → is_kid q p ≡ true → ⊥
  apart-mixed₂ s p q oa ob hf hb kid =
      go (forward-kids (s.rows q) (view s.rows q) s.memory ob (forward-shape Π (s.rows q) (view s.rows q) s.memory ob hf) (p % 16)
      f.0 f.1)
    where
      s' : C Π
      s' = done s q ob

      f : (1 ≤ p % 16) × (p % 16 ≤ 8) × (p / 16 ≡ q)
      f = kid-facts q p kid

      rp : (a : Place) × (s'.rows p ≡ some a) × (Π.exit_block a ≡ some oa.block)
      rp = back-ready (s'.rows p) (view s'.rows p) s'.memory oa (back-shape Π (s'.rows p) (view s'.rows p) s'.memory oa hb)

      here : ob.kids (p % 16) ≡ some rp.0
      here = sym (put-kid s.rows q ob.row ob.kids p kid) ∙ rp.1

      go : AtBegin (ob.kids (p % 16)) → ⊥
      go (inl x) = none-some (sym x ∙ here)
      go (inr y) =
          let e : y.0 ≡ rp.0 = some_inj y.0 rp.0 (sym y.1 ∙ here) in
          none-some (sym y.2 ∙ ap Π.exit_block e ∙ rp.2)
