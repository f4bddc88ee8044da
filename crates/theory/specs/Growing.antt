-- Well-formed rows stay so where right rows are put in, as a forward step does, and memory stays one on which acts have inverses.
-- Assumes nothing else.
use Rattle.std.specs.Prelude.{◌≡◌, refl, ◌⊎◌, ◌≢◌, Bool, true, false, ℕ, ◌+◌, ◌*◌, ◌≤◌, ◌/◌, ◌%◌}
use Rattle.std.proofs.Common.{sym, ap, ◌∙◌, subst, inl, inr, arith}
use Rattle.std.proofs.Math.Path.{fun_ext}
use Rattle.std.proofs.Math.Option.{Option, none, some}
use Rattle.std.proofs.Math.Decide.{ℕ_discrete}
use Rattle.theory.specs.Tests.{some_inj, bool_cases, true_false, eqb-other, not_true, none-some}
use Rattle.theory.specs.Local.{slot, is_kid, slot-range, kid-facts, Touches, disjoint, Outcome, view, put, put-outside, put_self, put-kid, view-kept}
use Rattle.theory.specs.Program.{Program}
use Rattle.theory.specs.Shapes.{C, Forward, Kids, at_end, has_kids}
use Rattle.theory.specs.Framing.{view-kid}
use Rattle.theory.specs.Family.{Family, OfLabel, OkRows, view-at, view_out, view-put}
use Rattle.theory.specs.Undoing.{is-none}
use Rattle.theory.specs.Optional.{all-at, any_none, any_of, none_any, onto, slot_of}

module _ {Place Memory Value : Type 0} {look : Memory → ℕ → Value} {reading writing : ℕ → ℕ → Bool}
    (Π : Program Place Memory Value look reading writing) where
  -- well-formed rows stay so
  pub forward-row :
      (ρ : Option Place) (k : Kids Π) (m : Memory) (o : Outcome Place Memory) → (x : (a : Place) → ρ ≡ some a → Π.valid a) → Forward Π ρ k m o →
      (a : Place) × (a' : Place) × (ρ ≡ some a) × (o.row ≡ some a') × (Π.home a' ≡ Π.home a) × Π.valid a'
  forward-row ρ k m o x (inl L) = (
    L.a,
    L.a',
    L.row_is,
    ap (λ z. z.row) L.o_is,
    Π.leaf_home L.a L.a' L.b m L.m' L.plain L.entry_is L.acts,
    Π.leaf_valid L.a L.a' L.b m L.m' L.plain L.entry_is L.acts,
  )
  forward-row ρ k m o x (inr (inl F)) = (
    F.a,
    Π.out F.b,
    F.row_is,
    ap (λ z. z.row) F.o_is,
    Π.out_home F.b F.called ∙ ap Π.home (sym (Π.call_in F.a F.b F.called F.entry_is)),
    Π.out_valid F.b F.called,
  )
  forward-row ρ k m o x (inr (inr M)) = (M.a, M.a, M.row_is, ap (λ z. z.row) M.o_is, refl, x M.a M.row_is)

  fork-kid : (b i : ℕ) (t : Option ℕ) → Π.is_call b ≡ true → Π.label b i ≡ t → (a : Place) → onto Π.begin_place t ≡ some a → Π.valid a
  fork-kid b i none c e a h = absurd (none-some h)
  fork-kid b i (some l) c e a h = subst Π.valid (some_inj (Π.begin_place l) a h) (Π.begin_valid b i l c e)

  fork-each : (b i : ℕ) (t : Option ℕ) → Π.is_call b ≡ true → Π.label b i ≡ t → OfLabel Π (onto Π.begin_place t) t
  fork-each b i none c e = tt
  fork-each b i (some l) c e = Π.begin_home b i l c e

  forward-kid_valid :
      (ρ : Option Place) (k : Kids Π) (m : Memory) (o : Outcome Place Memory) → Forward Π ρ k m o → (i : ℕ) → 1 ≤ i → i ≤ 8 → (a : Place) →
      o.kids i ≡ some a → Π.valid a
  forward-kid_valid ρ k m o (inl L) i lo hi a h =
      absurd (none-some (sym (any_none k 8 L.childless i lo hi) ∙ sym (ap (λ z. z.kids i) L.o_is) ∙ h))
  forward-kid_valid ρ k m o (inr (inl F)) i lo hi a h =
      fork-kid F.b i (Π.label F.b i) F.called refl a (sym (ap (λ z. z.kids i) F.o_is) ∙ h)
  forward-kid_valid ρ k m o (inr (inr M)) i lo hi a h = absurd (none-some (sym (ap (λ z. z.kids i) M.o_is) ∙ h))

  pub kid-move : (a a' : Place) (t : Option ℕ) → Π.home a' ≡ Π.home a → OfLabel Π (some a) t → OfLabel Π (some a') t
  kid-move a a' none e x = x
  kid-move a a' (some l) e x = e ∙ x

  -- what may be put in the rows of p and of its children, so that well-formed rows stay so: p stays in its process block, what its
  -- children then are is right, and none of those that it had has children
  pub record Grows (R : ℕ → Option Place) (p : ℕ) (ρ : Option Place) (k : Kids Π) : Type 0 where
    pub before : Place
    pub after : Place
    pub row_is : R p ≡ some before
    pub row_after : ρ ≡ some after
    pub same_home : Π.home after ≡ Π.home before
    pub after_valid : Π.valid after
    pub kid_valid : (i : ℕ) → 1 ≤ i → i ≤ 8 → (a : Place) → k i ≡ some a → Π.valid a
    pub self : has_kids Π (view (put R p ρ k) p) ≡ true → Family Π (put R p ρ k) p
    pub alone : (q : ℕ) → is_kid p q ≡ true → Family Π R q → ⊥

  module _ (R : ℕ → Option Place) (p : ℕ) (ρ : Option Place) (k : Kids Π) (g : Grows R p ρ k) (ok : OkRows Π R) where
    abbrev R₁ : ℕ → Option Place
    R₁ = put R p ρ k

    places₁ : (q : ℕ) (a : Place) → R₁ q ≡ some a → Π.valid a
    places₁ q a h = go (ℕ_discrete q p) (bool_cases (is_kid p q))
      where
        go : Dec (q ≡ p) → (is_kid p q ≡ true) ⊎ (is_kid p q ≡ false) → Π.valid a
        go (yes e) c =
            let r : ρ ≡ some a = sym (put_self R p ρ k) ∙ ap R₁ (sym e) ∙ h in
            subst Π.valid (some_inj g.after a (sym g.row_after ∙ r)) g.after_valid
        go (no n) (inl c) = let f = kid-facts p q c in g.kid_valid (q % 16) f.0 f.1 a (sym (put-kid R p ρ k q c) ∙ h)
        go (no n) (inr c) = let z : Touches p q ≡ false = rw (eqb-other q p n, c) in ok.places q a (sym (put-outside R p ρ k q z) ∙ h)

    -- a row that is neither p's nor a child's of p
    outside : (x : ℕ) → x ≢ p → (is_kid p x ≡ true → ⊥) → R₁ x ≡ R x
    outside x n c = let z : Touches p x ≡ false = rw (eqb-other x p n, not_true (is_kid p x) c) in put-outside R p ρ k x z

    view-same : (q : ℕ) → ((i : ℕ) → slot i ≡ true → R₁ (16 * q + i) ≡ R (16 * q + i)) → view R₁ q ≡ view R q
    view-same q h = fun_ext (λ i. go i (bool_cases (slot i)))
      where
        go : (i : ℕ) → (slot i ≡ true) ⊎ (slot i ≡ false) → view R₁ q i ≡ view R q i
        go i (inl c) = view-at Π R₁ q i c ∙ h i c ∙ sym (view-at Π R q i c)
        go i (inr c) = view_out Π R₁ q i c ∙ sym (view_out Π R q i c)

    -- no child of another process is a child of p
    no_kid_of_both : (q i : ℕ) → q ≢ p → slot i ≡ true → is_kid p (16 * q + i) ≡ true → ⊥
    no_kid_of_both q i n c h =
        let r = slot-range i c in
        let f = kid-facts p (16 * q + i) h in
        let e : q ≡ p = omega (arith, f.2) in
        n e

    -- q is a child of p: it has no children
    family-kid : (q : ℕ) → q ≢ p → is_kid p q ≡ true → has_kids Π (view R₁ q) ≡ true → Family Π R₁ q
    family-kid q n c h = absurd (g.alone q c (ok.family q (subst (λ v. has_kids Π v ≡ true) same h)))
      where
        f : (1 ≤ q % 16) × (q % 16 ≤ 8) × (q / 16 ≡ p)
        f = kid-facts p q c

        same : view R₁ q ≡ view R q
        same =
            view-same q
            (λ i w. outside (16 * q + i) (λ e. let r = slot-range i w in omega (arith, f.0, f.1, f.2, e)) (no_kid_of_both q i n w))

    -- q is the parent of p: p's process block is the same as before
    family-parent : (q : ℕ) → q ≢ p → (is_kid p q ≡ true → ⊥) → is_kid q p ≡ true → Family Π R₁ q
    family-parent q n c up =
        record { b = F₀.b; called = F₀.called; at_out = outside q n c ∙ F₀.at_out; each = λ i w. at i w (ℕ_discrete (16 * q + i) p) }
      where
        f : (1 ≤ p % 16) × (p % 16 ≤ 8) × (p / 16 ≡ q)
        f = kid-facts q p up

        F₀ : Family Π R q
        F₀ = ok.family q (any_of (view R q) 8 (p % 16) g.before f.0 f.1 (view-kid Π R q p up ∙ g.row_is))

        at : (i : ℕ) → slot i ≡ true → Dec (16 * q + i ≡ p) → OfLabel Π (view R₁ q i) (Π.label F₀.b i)
        at i w (yes e) =
            let old : view R q i ≡ some g.before = view-at Π R q i w ∙ ap R e ∙ g.row_is in
            let new : view R₁ q i ≡ some g.after = view-at Π R₁ q i w ∙ ap R₁ e ∙ put_self R p ρ k ∙ g.row_after in
            subst (λ v. OfLabel Π v (Π.label F₀.b i)) (sym new)
            (kid-move g.before g.after (Π.label F₀.b i) g.same_home
            (subst (λ v. OfLabel Π v (Π.label F₀.b i)) old (F₀.each i w)))
        at i w (no d) =
            subst
            (λ v. OfLabel Π v (Π.label F₀.b i))
            (sym (view-at Π R₁ q i w ∙ outside (16 * q + i) d (no_kid_of_both q i n w) ∙ sym (view-at Π R q i w)))
            (F₀.each i w)

    family-other : (q : ℕ) → q ≢ p → (is_kid p q ≡ true → ⊥) → (is_kid q p ≡ true → ⊥) → has_kids Π (view R₁ q) ≡ true → Family Π R₁ q
    family-other q n c l h =
        let d = disjoint q p n l c in
        let v : view R₁ q ≡ view R q = view-kept R p q ρ k d in
        let F₀ = ok.family q (subst (λ z. has_kids Π z ≡ true) v h) in
        record {
          b = F₀.b;
          called = F₀.called;
          at_out = outside q n c ∙ F₀.at_out;
          each = λ i w. subst (λ z. OfLabel Π (z i) (Π.label F₀.b i))
              (sym v) (F₀.each i w);
        }

    family₁ : (q : ℕ) → has_kids Π (view R₁ q) ≡ true → Family Π R₁ q
    family₁ q h = go (ℕ_discrete q p) (bool_cases (is_kid p q)) (bool_cases (is_kid q p))
      where
        go : Dec (q ≡ p) → (is_kid p q ≡ true) ⊎ (is_kid p q ≡ false) → (is_kid q p ≡ true) ⊎ (is_kid q p ≡ false) → Family Π R₁ q
        go (yes e) c l = subst (λ z. Family Π R₁ z) (sym e) (g.self (subst (λ z. has_kids Π (view R₁ z) ≡ true) e h))
        go (no n) (inl c) l = family-kid q n c h
        go (no n) (inr c) (inl l) = family-parent q n (λ x. true_false x c) l
        go (no n) (inr c) (inr l) = family-other q n (λ x. true_false x c) (λ x. true_false x l) h

    pub grown : OkRows Π R₁
    grown = record { places = places₁; family = family₁ }

  -- a childless process may have the children of any call of its own process block
  pub call-grows :
      (R : ℕ → Option Place) (p : ℕ) (a : Place) (b : ℕ) → R p ≡ some a → has_kids Π (view R p) ≡ false → Π.is_call b ≡ true →
      Π.home (Π.out b) ≡ Π.home a → Grows R p (some (Π.out b)) (λ i. onto Π.begin_place (Π.label b i))
  call-grows R p a b r free c same =
      record {
        before = a;
        after = Π.out b;
        row_is = r;
        row_after = refl;
        same_home = same;
        after_valid = Π.out_valid b c;
        kid_valid = λ i lo hi x h. fork-kid b i (Π.label b i) c refl x h;
        self = λ h. record {
          b = b;
          called = c;
          at_out = put_self R p (some (Π.out b)) K;
          each = λ i w. subst (λ v. OfLabel Π v (Π.label b i)) (sym (view-put Π R p (some (Π.out b)) K i w)) (fork-each b i (Π.label b i) c refl);
        };
        alone = λ q k F. let f = kid-facts p q k in
            none-some (sym (any_none (view R p) 8 free (q % 16) f.0 f.1) ∙ view-kid Π R p q k ∙ F.at_out);
      }
    where
      K : Kids Π
      K i = onto Π.begin_place (Π.label b i)

  -- a forward step puts such rows
  module _ (s : C Π) (p : ℕ) (ok : OkRows Π s.rows) (o : Outcome Place Memory) (sh : Forward Π (s.rows p) (view s.rows p) s.memory o) where
    abbrev R₂ : ℕ → Option Place
    R₂ = put s.rows p o.row o.kids

    none-now : ((i : ℕ) → slot i ≡ true → o.kids i ≡ none) → has_kids Π (view R₂ p) ≡ true → ⊥
    none-now h k =
        true_false k (none_any (view R₂ p) 8 (λ i lo hi. view-put Π s.rows p o.row o.kids i (slot_of i lo hi) ∙ h i (slot_of i lo hi)))

    family-self : has_kids Π (view R₂ p) ≡ true → Family Π R₂ p
    family-self h = go sh
      where
        go : Forward Π (s.rows p) (view s.rows p) s.memory o → Family Π R₂ p
        go (inl L) =
            absurd (none-now (λ i k. let g = slot-range i k in ap (λ z. z.kids i) L.o_is ∙ any_none (view s.rows p) 8 L.childless i g.0
            g.1) h)
        go (inr (inl F)) =
            record {
              b = F.b;
              called = F.called;
              at_out = put_self s.rows p o.row o.kids ∙ ap (λ z. z.row) F.o_is;
              each =
                  λ i k.
                  subst
                  (λ v. OfLabel Π v (Π.label F.b i))
                  (sym (view-put Π s.rows p o.row o.kids i k ∙ ap (λ z. z.kids i) F.o_is))
                  (fork-each F.b i (Π.label F.b i) F.called refl);
            }
        go (inr (inr M)) = absurd (none-now (λ i k. ap (λ z. z.kids i) M.o_is) h)

    -- a child of p has no children, since p could step
    kid-alone : (q : ℕ) → is_kid p q ≡ true → Family Π s.rows q → ⊥
    kid-alone q k F₀ = go sh
      where
        f : (1 ≤ q % 16) × (q % 16 ≤ 8) × (q / 16 ≡ p)
        f = kid-facts p q k

        seen : view s.rows p (q % 16) ≡ some (Π.out F₀.b)
        seen = view-kid Π s.rows p q k ∙ F₀.at_out

        lone : has_kids Π (view s.rows p) ≡ false → ⊥
        lone c = none-some (sym (any_none (view s.rows p) 8 c (q % 16) f.0 f.1) ∙ seen)

        go : Forward Π (s.rows p) (view s.rows p) s.memory o → ⊥
        go (inl L) = lone L.childless
        go (inr (inl F)) = lone F.childless
        go (inr (inr M)) =
            Π.out_entry F₀.b F₀.called
            (is-none Π s p (Π.entry_block (Π.out F₀.b))
            (all-at (at_end Π) (view s.rows p) 8 M.ended (q % 16) (Π.out F₀.b) f.0 f.1 seen))

    pub forward-grows : Grows s.rows p o.row o.kids
    forward-grows =
        let r = forward-row (s.rows p) (view s.rows p) s.memory o (λ a h. ok.places p a h) sh in
        record {
          before = r.0;
          after = r.1;
          row_is = r.2;
          row_after = r.3;
          same_home = r.4;
          after_valid = r.5;
          kid_valid = forward-kid_valid (s.rows p) (view s.rows p) s.memory o sh;
          self = family-self;
          alone = kid-alone;
        }

    pub ok₁ : OkRows Π R₂
    ok₁ = grown s.rows p o.row o.kids forward-grows ok

  pub fine₁ :
      (s : C Π) (p : ℕ) → Π.fine s.memory → (o : Outcome Place Memory) → Forward Π (s.rows p) (view s.rows p) s.memory o →
      Π.fine o.memory
  fine₁ s p f o (inl L) =
      subst (λ z. Π.fine z.memory) (sym L.o_is) (Π.leaf_fine L.a L.a' L.b s.memory L.m' f L.plain L.entry_is L.acts)
  fine₁ s p f o (inr (inl F)) = subst (λ z. Π.fine z.memory) (sym F.o_is) f
  fine₁ s p f o (inr (inr M)) = subst (λ z. Π.fine z.memory) (sym M.o_is) f
