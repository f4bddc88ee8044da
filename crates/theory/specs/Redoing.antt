-- An accepted step back, from well-formed rows, ends in well-formed rows, and the step forward from there is its inverse. So a
-- machine whose history is emptied by undoing the newest entry again and again is what its history gives, made forward from the
-- machine that is left. The mirror image of Undoing and Growing. Assumes what a program has besides (`BothWays`).
use Rattle.std.specs.Prelude.{◌≡◌, refl, ◌⊎◌, Bool, true, false, ℕ, ◌+◌, ◌*◌, ◌≤◌, ◌%◌}
use Rattle.std.proofs.Common.{sym, ap, ◌∙◌, subst, inl, inr}
use Rattle.std.proofs.Math.Path.{fun_ext}
use Rattle.std.proofs.Math.Option.{Option, none, some}
use Rattle.theory.specs.Tests.{some_inj, bool_cases, true_false, none-some}
use Rattle.theory.specs.Local.{Taken, slot, slot-range, is_kid, kid-facts, Outcome, view, put, At, done, entry, fire, fired, put_self}
use Rattle.theory.specs.Program.{Program}
use Rattle.theory.specs.Shapes.{C, Backward, Kids, Unleaf, Unmerge, Unfork, at_begin, at_end, back, back-shape, empty, forward, has_kids}
use Rattle.theory.specs.Shapes.{result, leaf-forward, fork-forward, merge-forward}
use Rattle.theory.specs.Framing.{view-kid}
use Rattle.theory.specs.Family.{Family, Ok, OfLabel, OkRows, put_back, view-at, view_out, view-put}
use Rattle.theory.specs.Undoing.{is-none}
use Rattle.theory.specs.Growing.{Grows, grown}
use Rattle.theory.specs.Optional.{all-at, all_of, each_kid, any_none, any_of, none_any, is_none, onto, slot_of}
use Rattle.theory.specs.Machine.{onward, backward}

-- what a program has besides, so that a step back is taken back by a step forward: its own laws, read from the other end
pub record BothWays {Place Memory Value : Type 0} {look : Memory → ℕ → Value} {reading writing : ℕ → ℕ → Bool}
    (Π : Program Place Memory Value look reading writing) : Type 0 where
  pub into_entry : (b : ℕ) → Π.is_call b ≡ true → Π.entry_block (Π.into b) ≡ some b
  pub into_valid : (b : ℕ) → Π.is_call b ≡ true → Π.valid (Π.into b)
  pub call_out : (a : Place) (b : ℕ) → Π.is_call b ≡ true → Π.exit_block a ≡ some b → a ≡ Π.out b
  pub begin_one : (a : Place) → Π.valid a → Π.exit_block a ≡ none → a ≡ Π.begin_place (Π.home a)
  pub end_entry : (l : ℕ) → Π.entry_block (Π.end_place l) ≡ none
  pub end_home : (b i l : ℕ) → Π.is_call b ≡ true → Π.label b i ≡ some l → Π.home (Π.end_place l) ≡ l
  pub end_valid : (b i l : ℕ) → Π.is_call b ≡ true → Π.label b i ≡ some l → Π.valid (Π.end_place l)
  pub unleaf_entry :
      (a a' : Place) (b : ℕ) (m m' : Memory) → Π.is_call b ≡ false → Π.exit_block a ≡ some b → Π.unleaf b a m ≡ some (a', m') →
      Π.entry_block a' ≡ some b
  pub unleaf_home :
      (a a' : Place) (b : ℕ) (m m' : Memory) → Π.is_call b ≡ false → Π.exit_block a ≡ some b → Π.unleaf b a m ≡ some (a', m') →
      Π.home a' ≡ Π.home a
  pub unleaf_valid :
      (a a' : Place) (b : ℕ) (m m' : Memory) → Π.is_call b ≡ false → Π.exit_block a ≡ some b → Π.unleaf b a m ≡ some (a', m') → Π.valid a'
  pub unleaf_fine :
      (a a' : Place) (b : ℕ) (m m' : Memory) → Π.fine m → Π.is_call b ≡ false → Π.exit_block a ≡ some b → Π.unleaf b a m ≡ some (a', m') →
      Π.fine m'
  pub unleaf_forth :
      (a a' : Place) (b : ℕ) (m m' : Memory) → Π.fine m → Π.is_call b ≡ false → Π.exit_block a ≡ some b → Π.unleaf b a m ≡ some (a', m') →
      Π.leaf b a' m' ≡ some (a, m)

module _ {Place Memory Value : Type 0} {look : Memory → ℕ → Value} {reading writing : ℕ → ℕ → Bool}
    (Π : Program Place Memory Value look reading writing) (B : BothWays Π) where
  module _ (s : C Π) (p : ℕ) (ok : OkRows Π s.rows) where
    abbrev R₀ : ℕ → Option Place
    R₀ = s.rows

    abbrev V₀ : Kids Π
    V₀ = view R₀ p

    no_kids : has_kids Π V₀ ≡ false → (i : ℕ) → slot i ≡ true → R₀ (16 * p + i) ≡ none
    no_kids h i k = let g = slot-range i k in sym (view-at Π R₀ p i k) ∙ any_none V₀ 8 h i g.0 g.1

    -- ---- rows stay well-formed
    module _ (o : Outcome Place Memory) where
      none-now : ((i : ℕ) → slot i ≡ true → o.kids i ≡ none) → has_kids Π (view (put R₀ p o.row o.kids) p) ≡ true → ⊥
      none-now h k =
          true_false k
          (none_any (view (put R₀ p o.row o.kids) p) 8
          (λ i lo hi. view-put Π R₀ p o.row o.kids i (slot_of i lo hi) ∙ h i (slot_of i lo hi)))

      lone : has_kids Π V₀ ≡ false → (q : ℕ) → is_kid p q ≡ true → Family Π R₀ q → ⊥
      lone c q k F =
          let f = kid-facts p q k in
          none-some (sym (any_none V₀ 8 c (q % 16) f.0 f.1) ∙ view-kid Π R₀ p q k ∙ F.at_out)

      end-kid : (b i : ℕ) (t : Option ℕ) → Π.is_call b ≡ true → Π.label b i ≡ t → (x : Place) → onto Π.end_place t ≡ some x → Π.valid x
      end-kid b i none c e x h = absurd (none-some h)
      end-kid b i (some l) c e x h = subst Π.valid (some_inj (Π.end_place l) x h) (B.end_valid b i l c e)

      end-each : (b i : ℕ) (t : Option ℕ) → Π.is_call b ≡ true → Π.label b i ≡ t → OfLabel Π (onto Π.end_place t) t
      end-each b i none c e = tt
      end-each b i (some l) c e = B.end_home b i l c e

      pub back-grows : Backward Π (R₀ p) V₀ s.memory o → Grows Π R₀ p o.row o.kids
      back-grows (inl L) =
          record {
            before = L.a;
            after = L.a';
            row_is = L.row_is;
            row_after = ap (λ z. z.row) L.o_is;
            same_home = B.unleaf_home L.a L.a' L.b s.memory L.m' L.plain L.exit_is L.acts;
            after_valid = B.unleaf_valid L.a L.a' L.b s.memory L.m' L.plain L.exit_is L.acts;
            kid_valid = λ i lo hi x h. absurd (none-some (sym (any_none V₀ 8 L.childless i lo hi) ∙ sym (ap (λ z. z.kids i) L.o_is) ∙ h));
            self =
                λ h. absurd (none-now (λ i k. let g = slot-range i k in ap (λ z. z.kids i) L.o_is ∙ any_none V₀ 8 L.childless i g.0 g.1) h);
            alone = lone L.childless;
          }
      back-grows (inr (inl U)) =
          record {
            before = U.a;
            after = U.a;
            row_is = U.row_is;
            row_after = ap (λ z. z.row) U.o_is;
            same_home = refl;
            after_valid = ok.places p U.a U.row_is;
            kid_valid = λ i lo hi x h. end-kid U.b i (Π.label U.b i) U.called refl x (sym (ap (λ z. z.kids i) U.o_is) ∙ h);
            self =
                λ h.
                record {
                  b = U.b;
                  called = U.called;
                  at_out = put_self R₀ p o.row o.kids ∙ ap (λ z. z.row) U.o_is ∙ ap some (B.call_out U.a U.b U.called U.exit_is);
                  each =
                      λ i k.
                      subst (λ v. OfLabel Π v (Π.label U.b i)) (sym (view-put Π R₀ p o.row o.kids i k ∙ ap (λ z. z.kids i) U.o_is))
                      (end-each U.b i (Π.label U.b i) U.called refl);
                };
            alone = lone U.childless;
          }
      back-grows (inr (inr F)) =
          let G = ok.family p F.childed in
          let a≡ : F.a ≡ Π.out G.b = some_inj F.a (Π.out G.b) (sym F.row_is ∙ G.at_out) in
          let b≡ : F.b ≡ G.b = some_inj F.b G.b (sym F.exit_is ∙ ap Π.exit_block a≡ ∙ Π.out_exit G.b G.called) in
          let call : Π.is_call F.b ≡ true = ap Π.is_call b≡ ∙ G.called in
          record {
            before = F.a;
            after = Π.into F.b;
            row_is = F.row_is;
            row_after = ap (λ z. z.row) F.o_is;
            same_home = sym (Π.out_home F.b call) ∙ ap (λ z. Π.home (Π.out z)) b≡ ∙ ap Π.home (sym a≡);
            after_valid = B.into_valid F.b call;
            kid_valid = λ i lo hi x h. absurd (none-some (sym (ap (λ z. z.kids i) F.o_is) ∙ h));
            self = λ h. absurd (none-now (λ i k. ap (λ z. z.kids i) F.o_is) h);
            alone = λ q k H. kid-begun q k H F.begun;
          }
        where
          kid-begun : (q : ℕ) → is_kid p q ≡ true → Family Π R₀ q → each_kid (at_begin Π) V₀ 8 ≡ true → ⊥
          kid-begun q k H h =
              let f = kid-facts p q k in
              let t = all-at (at_begin Π) V₀ 8 h (q % 16) (Π.out H.b) f.0 f.1 (view-kid Π R₀ p q k ∙ H.at_out) in
              let z : at_begin Π (Π.out H.b) ≡ false = ap is_none (Π.out_exit H.b H.called) in
              true_false t z

    -- ---- a step forward takes a step back back
    abbrev Redoes : Outcome Place Memory → Type 0
    Redoes o = (o' : Outcome Place Memory) × At (forward Π) (done s p o) p o' × (o'.block ≡ o.block) × (done (done s p o) p o' ≡ s)

    forth-at :
        (ρ : Option Place) (k : Kids Π) (m : Memory) (a : Place) (W : Kids Π) (o' : Outcome Place Memory) → ρ ≡ some a → view (put R₀ p ρ k) p ≡ W →
        forward Π (some a) W m ≡ some o' → forward Π (put R₀ p ρ k p) (view (put R₀ p ρ k) p) m ≡ some o'
    forth-at ρ k m a W o' e v h =
        ap (λ z. forward Π z (view (put R₀ p ρ k) p) m) (put_self R₀ p ρ k ∙ e) ∙ ap (λ z. forward Π (some a) z m) v ∙ h

    memory-same : (R : ℕ → Option Place) → R ≡ R₀ → Path (C Π) (record { rows = R; memory = s.memory }) s
    memory-same R e = λ i. record { rows = e i; memory = s.memory }

    redo_leaf : Π.fine s.memory → (o : Outcome Place Memory) → Unleaf Π (R₀ p) V₀ s.memory o → Redoes o
    redo_leaf fm o l =
        let u = B.unleaf_forth l.a l.a' l.b s.memory l.m' fm l.plain l.exit_is l.acts in
        let x = B.unleaf_entry l.a l.a' l.b s.memory l.m' l.plain l.exit_is l.acts in
        let h = leaf-forward Π l.a' l.a l.b V₀ l.m' s.memory x l.childless l.plain u in
        let v : view (put R₀ p (some l.a') V₀) p ≡ V₀ = fun_ext (λ i. same l.a' i (bool_cases (slot i))) in
        subst Redoes (sym l.o_is) (
          result Π l.b l.a V₀ s.memory,
          forth-at (some l.a') V₀ l.m' l.a' V₀ (result Π l.b l.a V₀ s.memory) refl v h,
          refl,
          memory-same (put (put R₀ p (some l.a') V₀) p (some l.a) V₀)
              (put_back Π R₀ p (some l.a') (some l.a) V₀ V₀ l.row_is (λ i k. view-at Π R₀ p i k)),
        )
      where
        same : (a : Place) (i : ℕ) → (slot i ≡ true) ⊎ (slot i ≡ false) → view (put R₀ p (some a) V₀) p i ≡ V₀ i
        same a i (inl h) = view-put Π R₀ p (some a) V₀ i h
        same a i (inr h) = view_out Π (put R₀ p (some a) V₀) p i h ∙ sym (view_out Π R₀ p i h)

    redo_merge : (o : Outcome Place Memory) → Unmerge Π (R₀ p) V₀ s.memory o → Redoes o
    redo_merge o l =
        let b = l.b in
        let K : Kids Π = λ i. onto Π.end_place (Π.label b i) in
        let W = view (put R₀ p (some l.a) K) p in
        let one = Π.call_one b l.called in
        let g = slot-range one.0 one.2 in
        let kb : W one.0 ≡ some (Π.end_place one.1) = view-put Π R₀ p (some l.a) K one.0 one.2 ∙ ap (onto Π.end_place) one.3 in
        let has : has_kids Π W ≡ true = any_of W 8 one.0 (Π.end_place one.1) g.0 g.1 kb in
        let each : each_kid (at_end Π) W 8 ≡ true =
        all_of (at_end Π) W 8 (λ i a lo hi e. ends (Π.label b i) a (sym (view-put Π R₀ p (some l.a) K i (slot_of i lo hi)) ∙ e)) in
        let a≡ = B.call_out l.a b l.called l.exit_is in
        let on = ahead (Π.entry_block l.a) (λ z. Π.out_entry b l.called (ap Π.entry_block (sym a≡) ∙ z)) in
        let h = merge-forward Π l.a on.0 b W s.memory on.1 has each l.exit_is in
        subst Redoes (sym l.o_is) (
          result Π b l.a (empty Π) s.memory,
          forth-at (some l.a) K s.memory l.a W (result Π b l.a (empty Π) s.memory) refl refl h,
          refl,
          memory-same (put (put R₀ p (some l.a) K) p (some l.a) (empty Π))
              (put_back Π R₀ p (some l.a) (some l.a) K (empty Π) l.row_is (λ i k. sym (no_kids l.childless i k))),
        )
      where
        ends : (t : Option ℕ) (a : Place) → onto Π.end_place t ≡ some a → at_end Π a ≡ true
        ends none a e = absurd (none-some e)
        ends (some x) a e = ap is_none (ap Π.entry_block (sym (some_inj (Π.end_place x) a e)) ∙ B.end_entry x)

        ahead : (x : Option ℕ) → (x ≡ none → ⊥) → (c : ℕ) × (x ≡ some c)
        ahead none n = absurd (n refl)
        ahead (some c) n = (c, refl)

    redo_fork : (o : Outcome Place Memory) → Unfork Π (R₀ p) V₀ s.memory o → Redoes o
    redo_fork o l =
        let F = ok.family p l.childed in
        let a≡ : l.a ≡ Π.out F.b = some_inj l.a (Π.out F.b) (sym l.row_is ∙ F.at_out) in
        let b≡ : l.b ≡ F.b = some_inj l.b F.b (sym l.exit_is ∙ ap Π.exit_block a≡ ∙ Π.out_exit F.b F.called) in
        let call : Π.is_call l.b ≡ true = ap Π.is_call b≡ ∙ F.called in
        let b = l.b in
        let K : Kids Π = λ i. onto Π.begin_place (Π.label b i) in
        let W = view (put R₀ p (some (Π.into b)) (empty Π)) p in
        let none_has : has_kids Π W ≡ false = none_any W 8 (λ i lo hi. view-put Π R₀ p (some (Π.into b)) (empty Π) i (slot_of i lo hi)) in
        let h = fork-forward Π (Π.into b) b W s.memory (B.into_entry b call) none_has call in
        subst Redoes (sym l.o_is) (
          result Π b (Π.out b) K s.memory,
          forth-at (some (Π.into b)) (empty Π) s.memory (Π.into b) W (result Π b (Π.out b) K s.memory) refl refl h,
          refl,
          memory-same (put (put R₀ p (some (Π.into b)) (empty Π)) p (some (Π.out b)) K)
              (put_back Π R₀ p (some (Π.into b)) (some (Π.out b)) (empty Π) K (l.row_is ∙ ap some (a≡ ∙ ap Π.out (sym b≡)))
              (λ i k. ap (λ z. onto Π.begin_place (Π.label z i)) b≡ ∙ begins i (Π.label F.b i) (V₀ i) refl (F.each i k) (slot-range i k)
              l.begun ∙ view-at Π R₀ p i k)),
        )
      where
        begins :
            (i : ℕ) (t : Option ℕ) (v : Option Place) → V₀ i ≡ v → OfLabel Π v t → (1 ≤ i) × (i ≤ 8) → each_kid (at_begin Π) V₀ 8 ≡ true →
            onto Π.begin_place t ≡ v
        begins i none none e x g h = refl
        begins i (some t) none e x g h = absurd x
        begins i none (some a) e x g h = absurd x
        begins i (some t) (some a) e x g h =
            let ex : Π.exit_block a ≡ none = is-none Π s p (Π.exit_block a) (all-at (at_begin Π) V₀ 8 h i a g.0 g.1 e) in
            let va : Π.valid a = ok.places (16 * p + i) a (sym (view-at Π R₀ p i (slot_of i g.0 g.1)) ∙ e) in
            ap some (ap Π.begin_place (sym x) ∙ sym (B.begin_one a va ex))

    redo_any : Π.fine s.memory → (o : Outcome Place Memory) → Backward Π (R₀ p) V₀ s.memory o → Redoes o
    redo_any fm o (inl L) = redo_leaf fm o L
    redo_any fm o (inr (inl M)) = redo_merge o M
    redo_any fm o (inr (inr F)) = redo_fork o F

  fine_back :
      (s : C Π) (p : ℕ) → Π.fine s.memory → (o : Outcome Place Memory) → Backward Π (s.rows p) (view s.rows p) s.memory o →
      Π.fine o.memory
  fine_back s p f o (inl L) =
      subst (λ z. Π.fine z.memory) (sym L.o_is) (B.unleaf_fine L.a L.a' L.b s.memory L.m' f L.plain L.exit_is L.acts)
  fine_back s p f o (inr (inl U)) = subst (λ z. Π.fine z.memory) (sym U.o_is) f
  fine_back s p f o (inr (inr F)) = subst (λ z. Π.fine z.memory) (sym F.o_is) f

  -- the two laws
  pub ok_back : (s s' : C Π) (e : Taken) → Ok Π s → backward Π s e.process ≡ some (e, s') → Ok Π s'
  ok_back s s' e ok h =
      let x = fired (back Π) s e.process e s' h in
      let sh = back-shape Π (s.rows e.process) (view s.rows e.process) s.memory x.out x.at in
      subst (Ok Π) (sym x.is_done) (
        grown Π s.rows e.process x.out.row x.out.kids (back-grows s e.process ok.0 x.out sh) ok.0,
        fine_back s e.process ok.1 x.out sh,
      )

  pub forth : (s s' : C Π) (e : Taken) → Ok Π s → backward Π s e.process ≡ some (e, s') → onward Π s' e.process ≡ some (e, s)
  forth s s' e ok h =
      let p = e.process in
      let x = fired (back Π) s p e s' h in
      let sh = back-shape Π (s.rows p) (view s.rows p) s.memory x.out x.at in
      let u = redo_any s p ok.0 ok.1 x.out sh in
      let r = fire (forward Π) (done s p x.out) p u.0 u.1 in
      let en : entry p u.0 ≡ e = ap (λ b. record { process = p; block = b }) u.2 ∙ sym x.is_entry in
      let r₁ = subst (λ z. onward Π (done s p x.out) p ≡ some (entry p u.0, z)) u.3 r in
      let r₂ = subst (λ z. onward Π (done s p x.out) p ≡ some (z, s)) en r₁ in
      subst (λ z. onward Π z p ≡ some (e, s)) (sym x.is_done) r₂
