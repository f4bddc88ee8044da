-- A step back from where a step forward ended is its inverse. Assumes that rows are well-formed.
use Rattle.std.specs.Prelude.{◌≡◌, refl, ◌⊎◌, Bool, true, false, ℕ, ◌+◌, ◌*◌, ◌≤◌}
use Rattle.std.proofs.Common.{sym, ap, ◌∙◌, subst, inl, inr}
use Rattle.std.proofs.Math.Path.{fun_ext}
use Rattle.std.proofs.Math.Option.{Option, none, some}
use Rattle.theory.specs.Tests.{some_inj, bool_cases, true_false, none-some}
use Rattle.theory.specs.Local.{slot, slot-range, Outcome, view, put, At, done, put_self}
use Rattle.theory.specs.Program.{Program}
use Rattle.theory.specs.Shapes.{C, Fork, Forward, Kids, Leaf, Merge, at_begin, at_end, back, empty, has_kids, result, unfork-back, unleaf-back, unmerge_back}
use Rattle.theory.specs.Framing.{AtBegin, onto-begin}
use Rattle.theory.specs.Family.{OfLabel, OkRows, put_back, view-at, view_out, view-put}
use Rattle.theory.specs.Optional.{all-at, all_of, each_kid, any_none, any_of, none_any, is_none, onto, slot_of}

module _ {Place Memory Value : Type 0} {look : Memory → ℕ → Value} {reading writing : ℕ → ℕ → Bool}
    (Π : Program Place Memory Value look reading writing) where
  -- a step back from where a step forward ended is its inverse
  abbrev Undoes : C Π → ℕ → Outcome Place Memory → Type 0
  Undoes s p o = (o' : Outcome Place Memory) × At (back Π) (done s p o) p o' × (o'.block ≡ o.block) × (done (done s p o) p o' ≡ s)

  module _ (s : C Π) (p : ℕ) where
    abbrev R₀ : ℕ → Option Place
    R₀ = s.rows

    abbrev V₀ : Kids Π
    V₀ = view R₀ p

    back_at :
        (ρ : Option Place) (k : Kids Π) (m : Memory) (a : Place) (W : Kids Π) (o' : Outcome Place Memory) → ρ ≡ some a → view (put R₀ p ρ k) p ≡ W →
        back Π (some a) W m ≡ some o' → back Π (put R₀ p ρ k p) (view (put R₀ p ρ k) p) m ≡ some o'
    back_at ρ k m a W o' e v h =
        ap (λ z. back Π z (view (put R₀ p ρ k) p) m) (put_self R₀ p ρ k ∙ e) ∙ ap (λ z. back Π (some a) z m) v ∙ h

    memory-same : (R : ℕ → Option Place) → R ≡ R₀ → Path (C Π) (record { rows = R; memory = s.memory }) s
    memory-same R e = λ i. record { rows = e i; memory = s.memory }

    undo-leaf : Π.fine s.memory → (L : (o : Outcome Place Memory) × Leaf Π (R₀ p) V₀ s.memory o) → Undoes s p L.0
    undo-leaf fm L =
        let o = L.0 in
        let l = L.1 in
        let u = Π.leaf_back l.a l.a' l.b s.memory l.m' fm l.plain l.entry_is l.acts in
        let x = Π.leaf_exit l.a l.a' l.b s.memory l.m' l.plain l.entry_is l.acts in
        let h = unleaf-back Π l.a' l.a l.b V₀ l.m' s.memory x l.childless l.plain u in
        let v : view (put R₀ p (some l.a') V₀) p ≡ V₀ = fun_ext (λ i. same l.a' i (bool_cases (slot i))) in
        subst
        (Undoes s p)
        (sym l.o_is) (
          result Π l.b l.a V₀ s.memory,
          back_at (some l.a') V₀ l.m' l.a' V₀ (result Π l.b l.a V₀ s.memory) refl v h,
          refl,
          memory-same (put (put R₀ p (some l.a') V₀) p (some l.a) V₀)
              (put_back Π R₀ p (some l.a') (some l.a) V₀ V₀ l.row_is (λ i k. view-at Π R₀ p i k)),
        )
      where
        same : (a : Place) (i : ℕ) → (slot i ≡ true) ⊎ (slot i ≡ false) → view (put R₀ p (some a) V₀) p i ≡ V₀ i
        same a i (inl h) = view-put Π R₀ p (some a) V₀ i h
        same a i (inr h) = view_out Π (put R₀ p (some a) V₀) p i h ∙ sym (view_out Π R₀ p i h)

    no_kids : has_kids Π V₀ ≡ false → (i : ℕ) → slot i ≡ true → R₀ (16 * p + i) ≡ none
    no_kids h i k = let g = slot-range i k in sym (view-at Π R₀ p i k) ∙ any_none V₀ 8 h i g.0 g.1

    undo-fork : (L : (o : Outcome Place Memory) × Fork Π (R₀ p) V₀ s.memory o) → Undoes s p L.0
    undo-fork L =
        let l = L.1 in
        let b = l.b in
        let K : Kids Π = λ i. onto Π.begin_place (Π.label b i) in
        let W = view (put R₀ p (some (Π.out b)) K) p in
        let one = Π.call_one b l.called in
        let g = slot-range one.0 one.2 in
        let kb : W one.0 ≡ some (Π.begin_place one.1) =
        view-put Π R₀ p (some (Π.out b)) K one.0 one.2 ∙ ap (onto Π.begin_place) one.3 in
        let has : has_kids Π W ≡ true = any_of W 8 one.0 (Π.begin_place one.1) g.0 g.1 kb in
        let all : each_kid (at_begin Π) W 8 ≡ true =
        all_of (at_begin Π) W 8
        (λ i a lo hi e. begins b i a (onto-begin Π (Π.label b i)) (sym (view-put Π R₀ p (some (Π.out b)) K i (slot_of i lo hi)) ∙ e)) in
        let h = unfork-back Π (Π.out b) b W s.memory (Π.out_exit b l.called) has all in
        subst
        (Undoes s p)
        (sym l.o_is) (
          result Π b (Π.into b) (empty Π) s.memory,
          back_at (some (Π.out b)) K s.memory (Π.out b) W (result Π b (Π.into b) (empty Π) s.memory) refl refl h,
          refl,
          memory-same (put (put R₀ p (some (Π.out b)) K) p (some (Π.into b)) (empty Π))
              (put_back Π R₀ p (some (Π.out b)) (some (Π.into b)) K (empty Π) (l.row_is ∙ ap some (Π.call_in l.a b l.called l.entry_is))
              (λ i k. sym (no_kids l.childless i k))),
        )
      where
        begins :
            (b i : ℕ) (a : Place) → AtBegin Π (onto Π.begin_place (Π.label b i)) → onto Π.begin_place (Π.label b i) ≡ some a →
            at_begin Π a ≡ true
        begins b i a (inl x) e = absurd (none-some (sym x ∙ e))
        begins b i a (inr y) e = let z : y.0 ≡ a = some_inj y.0 a (sym y.1 ∙ e) in ap is_none (ap Π.exit_block (sym z) ∙ y.2)

    pub is-none : {X : Type 0} (o : Option X) → is_none o ≡ true → o ≡ none
    is-none none h = refl
    is-none (some x) h = absurd (true_false h refl)

    undo-merge : OkRows Π R₀ → (L : (o : Outcome Place Memory) × Merge Π (R₀ p) V₀ s.memory o) → Undoes s p L.0
    undo-merge ok L =
        let l = L.1 in
        let F = ok.family p l.childed in
        let a≡ : l.a ≡ Π.out F.b = some_inj l.a (Π.out F.b) (sym l.row_is ∙ F.at_out) in
        let c≡ : l.c ≡ F.b = some_inj l.c F.b (sym l.exit_is ∙ ap Π.exit_block a≡ ∙ Π.out_exit F.b F.called) in
        let call : Π.is_call l.c ≡ true = ap Π.is_call c≡ ∙ F.called in
        let K : Kids Π = λ i. onto Π.end_place (Π.label l.c i) in
        let W = view (put R₀ p (some l.a) (empty Π)) p in
        let none_has : has_kids Π W ≡ false = none_any W 8 (λ i lo hi. view-put Π R₀ p (some l.a) (empty Π) i (slot_of i lo hi)) in
        let h = unmerge_back Π l.a l.c W s.memory l.exit_is none_has call in
        subst
        (Undoes s p)
        (sym l.o_is) (
          result Π l.c l.a K s.memory,
          back_at (some l.a) (empty Π) s.memory l.a W (result Π l.c l.a K s.memory) refl refl h,
          refl,
          memory-same (put (put R₀ p (some l.a) (empty Π)) p (some l.a) K)
              (put_back Π R₀ p (some l.a) (some l.a) (empty Π) K l.row_is
              (λ i k. ap (λ z. onto Π.end_place (Π.label z i)) c≡ ∙ ends i (Π.label F.b i) (V₀ i) refl (F.each i k) (slot-range i k)
              l.ended ∙ view-at Π R₀ p i k)
              ),
        )
      where
        ends :
            (i : ℕ) (t : Option ℕ) (v : Option Place) → V₀ i ≡ v → OfLabel Π v t → (1 ≤ i) × (i ≤ 8) → each_kid (at_end Π) V₀ 8 ≡ true →
            onto Π.end_place t ≡ v
        ends i none none e x g h = refl
        ends i (some t) none e x g h = absurd x
        ends i none (some a) e x g h = absurd x
        ends i (some t) (some a) e x g h =
            let en : Π.entry_block a ≡ none = is-none (Π.entry_block a) (all-at (at_end Π) V₀ 8 h i a g.0 g.1 e) in
            let va : Π.valid a = ok.places (16 * p + i) a (sym (view-at Π R₀ p i (slot_of i g.0 g.1)) ∙ e) in
            ap some (ap Π.end_place (sym x) ∙ sym (Π.end_one a va en))

    pub undo-any : OkRows Π R₀ → Π.fine s.memory → (o : Outcome Place Memory) → Forward Π (R₀ p) V₀ s.memory o → Undoes s p o
    undo-any ok fm o (inl L) = undo-leaf fm (o, L)
    undo-any ok fm o (inr (inl F)) = undo-fork (o, F)
    undo-any ok fm o (inr (inr M)) = undo-merge ok (o, M)
