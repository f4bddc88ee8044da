-- Rows that a run reaches are at most main's peak, so that code 28, no room for the children's rows, is never met after a start;
-- and their identifiers are short. Assumes of peak and depth what a call asks of them.
use Rattle.std.specs.Prelude.{◌≡◌, refl, ◌⊎◌, ◌≢◌, Bool, true, false, ℕ, zero, suc, ◌+◌, ◌*◌, ◌≤◌, ◌<◌, ◌/◌, ◌%◌, eqb, length}
use Rattle.std.proofs.Common.{sym, ap, ◌∙◌, subst, inl, inr, arith}
use Rattle.std.proofs.Math.Option.{Option, none, some}
use mathlib.Core.List.{List, [], ◌∷◌, ◌++◌}
use Rattle.std.proofs.Math.Decide.{ℕ_discrete}
use Rattle.theory.specs.Tests.{bool_cases, eqb_same, eqb-other, eqb-eq, or_left, none-some, not_true, some_inj}
use Rattle.theory.specs.Replay.{by-forward}
use Rattle.theory.specs.Local.{Taken, is_kid, kid-facts, view, fired, put, put_self, put-outside, Touches}
use Rattle.theory.specs.Program.{Program}
use Rattle.theory.specs.Shapes.{C, Kids, footprints, forward, forward-shape, has_kids}
use Rattle.theory.specs.Framing.{view-kid}
use Rattle.theory.specs.Family.{Ok, OkRows, OfLabel, view-at}
use Rattle.theory.specs.Growing.{Grows, forward-grows}
use Rattle.theory.specs.Machine.{onward, backward, mark, lawful}
use Rattle.theory.specs.Started.{Replays, first, root, root-other, root_ok}
use Rattle.theory.specs.Optional.{any_none, any_of, slot_of}
use Rattle.theory.specs.Counting.{AllOf, Distinct, sum_to, count_in, some_to, descends, count-or, count_none, count-all, count-any, all_map, count-one, sum-le, sum-zero, descends-kid}

-- as many identifiers as k hexadecimal digits write
abbrev pub sixteen_to : ℕ → ℕ
sixteen_to zero = 1
sixteen_to (suc k) = 16 * sixteen_to k

abbrev pub peak_of : (ℕ → ℕ) → Option ℕ → ℕ
peak_of peak none = 0
peak_of peak (some l) = peak l

module _
    {Place Memory Value : Type 0} {look : Memory → ℕ → Value} {reading writing : ℕ → ℕ → Bool} (Π : Program Place Memory Value look reading writing)
    (peak : ℕ → ℕ)
    (peak-pos : (l : ℕ) → 1 ≤ peak l)
    (peak-call : (b : ℕ) → Π.is_call b ≡ true → 1 + sum_to (λ i. peak_of peak (Π.label b i)) 8 ≤ peak (Π.home (Π.out b)))
    (R : ℕ → Option Place) (ok : OkRows Π R)
    (l : List ℕ) (live : AllOf (λ x. R x ≡ none → ⊥) l) (dist : Distinct l)
  where
    abbrev Bound : ℕ → Option Place → Type 0
    Bound n none = n ≡ 0
    Bound n (some a) = n ≤ peak (Π.home a)

    kids-none : (p : ℕ) → has_kids Π (view R p) ≡ false → (i : ℕ) → 1 ≤ i → i ≤ 8 → R (16 * p + i) ≡ none
    kids-none p h i lo hi = sym (view-at Π R p i (slot_of i lo hi)) ∙ any_none (view R p) 8 h i lo hi

    bound-none : (n : ℕ) (ρ : Option Place) → ρ ≡ none → Bound n ρ → n ≡ 0
    bound-none n none e h = h
    bound-none n (some a) e h = absurd (none-some (sym e))

    bound-kid : (n : ℕ) (ρ : Option Place) (t : Option ℕ) → OfLabel Π ρ t → Bound n ρ → n ≤ peak_of peak t
    bound-kid n none none k h = omega (arith, h)
    bound-kid n none (some t) k h = absurd k
    bound-kid n (some a) none k h = absurd k
    bound-kid n (some a) (some t) k h = subst (λ z. n ≤ peak z) k h

    alone : (p : ℕ) → R p ≡ none → count_in (λ x. eqb x p) l ≡ 0
    alone p e =
        count_none (λ x. eqb x p) l
        (all_map (λ x. R x ≡ none → ⊥) (λ x. eqb x p ≡ false) (λ x h. not_true (eqb x p) (λ q. h (ap R (eqb-eq x p q) ∙ e))) l live)

    bound : (d p : ℕ) → Bound (count_in (descends d p) l) (R p)
    bound zero p = go (R p) refl
      where
        go : (ρ : Option Place) → R p ≡ ρ → Bound (count_in (λ x. eqb x p) l) ρ
        go none e = alone p e
        go (some a) e = omega (arith, count-one p l dist, peak-pos (Π.home a))
    bound (suc d) p = go (λ q. bound d q) (R p) refl (bool_cases (has_kids Π (view R p)))
      where
        step : count_in (descends (suc d) p) l ≤ count_in (λ x. eqb x p) l + sum_to (λ i. count_in (descends d (16 * p + i)) l) 8
        step =
            let a = count-or (λ x. eqb x p) (λ x. some_to (λ i. descends d (16 * p + i) x) 8) l in
            let b = count-any (λ i x. descends d (16 * p + i) x) 8 l in
            omega (arith, a, b)

        childless :
            ((q : ℕ) → Bound (count_in (descends d q) l) (R q)) → has_kids Π (view R p) ≡ false →
            sum_to (λ i. count_in (descends d (16 * p + i)) l) 8 ≡ 0
        childless ih h =
            sum-zero (λ i. count_in (descends d (16 * p + i)) l) 8
            (λ i lo hi. bound-none (count_in (descends d (16 * p + i)) l) (R (16 * p + i)) (kids-none p h i lo hi) (ih (16 * p + i)))

        go :
            ((q : ℕ) → Bound (count_in (descends d q) l) (R q)) → (ρ : Option Place) → R p ≡ ρ →
            (has_kids Π (view R p) ≡ true) ⊎ (has_kids Π (view R p) ≡ false) → Bound (count_in (descends (suc d) p) l) ρ
        go ih none e (inl h) = absurd (none-some (sym e ∙ (ok.family p h).at_out))
        go ih none e (inr h) = omega (arith, step, alone p e, childless ih h)
        go ih (some a) e (inr h) = omega (arith, step, count-one p l dist, childless ih h, peak-pos (Π.home a))
        go ih (some a) e (inl h) =
            let F = ok.family p h in
            let a≡ : Π.out F.b ≡ a = some_inj (Π.out F.b) a (sym F.at_out ∙ e) in
            let s = sum-le (λ i. count_in (descends d (16 * p + i)) l) (λ i. peak_of peak (Π.label F.b i)) 8
            (λ i lo hi. bound-kid (count_in (descends d (16 * p + i)) l) (R (16 * p + i)) (Π.label F.b i)
            (subst (λ v. OfLabel Π v (Π.label F.b i)) (view-at Π R p i (slot_of i lo hi)) (F.each i (slot_of i lo hi))) (ih (16 * p + i))) in
            let k = peak-call F.b F.called in
            let k' : 1 + sum_to (λ i. peak_of peak (Π.label F.b i)) 8 ≤ peak (Π.home a) =
            subst (λ z. 1 + sum_to (λ i. peak_of peak (Π.label F.b i)) 8 ≤ peak (Π.home z)) a≡ k in
            omega (arith, step, count-one p l dist, s, k')

    -- every row hangs from the root
    abbrev pub Tree : Type 0
    Tree = (x : ℕ) (a : Place) → R x ≡ some a → (x ≡ 0) ⊎ (is_kid (x / 16) x ≡ true)

    filled : (x : ℕ) → (R x ≡ none → ⊥) → (a : Place) × (R x ≡ some a)
    filled x h = go (R x) refl
      where
        go : (ρ : Option Place) → R x ≡ ρ → (a : Place) × (R x ≡ some a)
        go none e = absurd (h e)
        go (some a) e = (a, e)

    from-root : Tree → (n x : ℕ) → x ≤ n → (R x ≡ none → ⊥) → descends n 0 x ≡ true
    from-root t zero x h k = eqb_same x 0 (omega arith)
    from-root t (suc n) x h k = go (λ y le j. from-root t n y le j) (t x (filled x k).0 (filled x k).1) (ℕ_discrete x 0)
      where
        go :
            ((y : ℕ) → y ≤ n → (R y ≡ none → ⊥) → descends n 0 y ≡ true) → (x ≡ 0) ⊎ (is_kid (x / 16) x ≡ true) → Dec (x ≡ 0) →
            descends (suc n) 0 x ≡ true
        go ih z (yes e) = or_left (eqb x 0) (some_to (λ i. descends n (16 * 0 + i) x) 8) (eqb_same x 0 e)
        go ih (inl e) (no d) = absurd (d e)
        go ih (inr c) (no d) =
            let f = kid-facts (x / 16) x c in
            let le : x / 16 ≤ n = omega arith in
            let has = any_of (view R (x / 16)) 8 (x % 16) (filled x k).0 f.0 f.1 (view-kid Π R (x / 16) x c ∙ (filled x k).1) in
            let F = ok.family (x / 16) has in
            descends-kid n 0 (x / 16) x c (ih (x / 16) le (λ e. none-some (sym e ∙ F.at_out)))

    total : List ℕ → ℕ
    total [] = 0
    total (x ∷ t) = x + total t

    all-from_root : Tree → (n : ℕ) (t : List ℕ) → total t ≤ n → AllOf (λ x. R x ≡ none → ⊥) t → AllOf (λ x. descends n 0 x ≡ true) t
    unfolding total
    all-from_root tr n [] h k = tt
    all-from_root tr n (x ∷ t) h k = (from-root tr n x (omega arith) k.0, all-from_root tr n t (omega arith) k.1)

    -- as many rows as are live are at most the peak of the root's process block
    pub live-bound : Tree → (a : Place) → R 0 ≡ some a → length l ≤ peak (Π.home a)
    live-bound t a e =
        let n = total l in
        let c : count_in (descends n 0) l ≡ length l = count-all (descends n 0) l (all-from_root t n l (omega arith) live) in
        let b : count_in (descends n 0) l ≤ peak (Π.home a) = subst (λ z. Bound (count_in (descends n 0) l) z) e (bound n 0) in
        omega (arith, c, b)

module _ {Place Memory Value : Type 0} {look : Memory → ℕ → Value} {reading writing : ℕ → ℕ → Bool}
    (Π : Program Place Memory Value look reading writing) where
  -- every row hangs from the root, which is in main
  pub record Hangs (R : ℕ → Option Place) : Type 0 where
    pub tree : (x : ℕ) (a : Place) → R x ≡ some a → (x ≡ 0) ⊎ (is_kid (x / 16) x ≡ true)
    pub top : Place
    pub top_is : R 0 ≡ some top
    pub in_main : Π.home top ≡ Π.home (Π.begin_place 0)

  -- rows that are put in so as to stay well-formed hang from the root as before
  pub hangs-grown : (R : ℕ → Option Place) (p : ℕ) (ρ : Option Place) (k : Kids Π) → Grows Π R p ρ k → Hangs R → Hangs (put R p ρ k)
  hangs-grown R p ρ k g H = go (ℕ_discrete 0 p)
    where
      R₁ : ℕ → Option Place
      R₁ = put R p ρ k

      outside : (x : ℕ) → x ≢ p → is_kid p x ≡ false → R₁ x ≡ R x
      outside x n c = let z : Touches p x ≡ false = rw (eqb-other x p n, c) in put-outside R p ρ k x z

      tr : (x : ℕ) (a : Place) → R₁ x ≡ some a → Dec (x ≡ p) → (is_kid p x ≡ true) ⊎ (is_kid p x ≡ false) → (x ≡ 0) ⊎ (is_kid (x / 16) x ≡ true)
      tr x a h (yes e) c = H.tree x g.before (ap R e ∙ g.row_is)
      tr x a h (no n) (inl c) = let f = kid-facts p x c in inr (subst (λ z. is_kid z x ≡ true) (sym f.2) c)
      tr x a h (no n) (inr c) = H.tree x a (sym (outside x n c) ∙ h)

      tree₁ : (x : ℕ) (a : Place) → R₁ x ≡ some a → (x ≡ 0) ⊎ (is_kid (x / 16) x ≡ true)
      tree₁ x a h = tr x a h (ℕ_discrete x p) (bool_cases (is_kid p x))

      no_kid : is_kid p 0 ≡ true → ⊥
      no_kid c = let f = kid-facts p 0 c in let z : 1 ≤ 0 = f.0 in omega arith

      go : Dec (0 ≡ p) → Hangs R₁
      go (yes e) =
          let old : R 0 ≡ some g.before = ap R e ∙ g.row_is in
          let same : H.top ≡ g.before = some_inj H.top g.before (sym H.top_is ∙ old) in
          record {
            tree = tree₁;
            top = g.after;
            top_is = ap R₁ e ∙ put_self R p ρ k ∙ g.row_after;
            in_main = g.same_home ∙ ap Π.home
                (sym same) ∙ H.in_main;
          }
      go (no n) = record { tree = tree₁; top = H.top; top_is = outside 0 n (not_true (is_kid p 0) no_kid) ∙ H.top_is; in_main = H.in_main }

  pub hangs-first : Hangs (root Π)
  hangs-first = record { tree = λ x a h. go x a h (ℕ_discrete x 0); top = Π.begin_place 0; top_is = refl; in_main = refl }
    where
      go : (x : ℕ) (a : Place) → root Π x ≡ some a → Dec (x ≡ 0) → (x ≡ 0) ⊎ (is_kid (x / 16) x ≡ true)
      go x a h (yes e) = inl e
      go x a h (no n) = absurd (none-some (sym (root-other Π x n) ∙ h))

  module _ (memory : Memory) (fine₀ : Π.fine memory) where
    abbrev pub Well : C Π → List Taken → Type 0
    Well c h = OkRows Π c.rows × Hangs c.rows

    pub keep-well : (c c' : C Π) (h : List Taken) (e : Taken) → Ok Π c → Well c h → onward Π c e.process ≡ some (e, c') → Well c' (h ++ e ∷ [])
    keep-well c c' h e ok w st =
        let x = fired (forward Π) c e.process e c' st in
        let sh = forward-shape Π (c.rows e.process) (view c.rows e.process) c.memory x.out x.at in
        let g = forward-grows Π c e.process ok.0 x.out sh in
        let k = hangs-grown c.rows e.process x.out.row x.out.kids g w.1 in
        (((lawful Π).ok_step c c' e ok st).0, subst (λ z. Hangs z.rows) (sym x.is_done) k)

    -- what each forward step keeps of a machine and its history holds after every replay
    pub always :
        (J : C Π → List Taken → Type 0) → J (first Π memory) [] →
        ((c c' : C Π) (h : List Taken) (e : Taken) → Ok Π c → J c h → onward Π c e.process ≡ some (e, c') → J c' (h ++ e ∷ [])) →
        (c : C Π) (h : List Taken) → Replays Π memory h c → J c h
    always J j₀ js c h p =
        by-forward (footprints Π) (onward Π) (backward Π) (Ok Π) (mark Π) (lawful Π) (first Π memory) (root_ok Π, fine₀) J j₀ js c h p

    pub reached-well : (c : C Π) (h : List Taken) → Replays Π memory h c → OkRows Π c.rows × Hangs c.rows
    reached-well = always Well (root_ok Π, hangs-first) keep-well

  -- well-formed rows that hang from the root are no more than main's peak
  pub room :
      (peak : ℕ → ℕ) → ((l : ℕ) → 1 ≤ peak l) →
      ((b : ℕ) → Π.is_call b ≡ true → 1 + sum_to (λ i. peak_of peak (Π.label b i)) 8 ≤ peak (Π.home (Π.out b))) →
      (R : ℕ → Option Place) → OkRows Π R → Hangs R →
      (l : List ℕ) → AllOf (λ x. R x ≡ none → ⊥) l → Distinct l → length l ≤ peak (Π.home (Π.begin_place 0))
  room peak pos call R ok H l live dist =
      subst (λ z. length l ≤ peak z) H.in_main (live-bound Π peak pos call R ok l live dist H.tree H.top H.top_is)

  -- identifiers are short: 16 ^ k bounds one that stands k calls deep. So 16 p + i never leaves 32 bits where main's depth is at most 8
  pub record Short (depth : ℕ → ℕ) (top x : ℕ) (l : ℕ) : Type 0 where
    pub k : ℕ
    pub below : x < sixteen_to k
    pub deep : k + depth l ≤ depth top

  module _
      (depth : ℕ → ℕ) (depth-call : (b i l : ℕ) → Π.is_call b ≡ true → Π.label b i ≡ some l → 1 + depth l ≤ depth (Π.home (Π.out b)))
      (R : ℕ → Option Place) (ok : OkRows Π R) (H : Hangs R)
    where
      kid-label : (v : Option Place) (t : Option ℕ) (a : Place) → OfLabel Π v t → v ≡ some a → t ≡ some (Π.home a)
      kid-label none none a x e = absurd (none-some e)
      kid-label none (some t) a x e = absurd x
      kid-label (some c) none a x e = absurd x
      kid-label (some c) (some t) a x e = ap some (sym x ∙ ap Π.home (some_inj c a e))

      -- the row of a child's parent
      short-go : (n x : ℕ) (a : Place) → x ≤ n → R x ≡ some a → Short depth (Π.home H.top) x (Π.home a)
      short-go zero x a h e =
          let z : x ≡ 0 = omega arith in
          let t : H.top ≡ a = some_inj H.top a (sym H.top_is ∙ ap R (sym z) ∙ e) in
          record { k = 0; below = omega (arith, z); deep = subst (λ q. 0 + depth (Π.home q) ≤ depth (Π.home H.top)) t (omega arith) }
      short-go (suc n) x a h e = go (λ y c le q. short-go n y c le q) (ℕ_discrete x 0) (H.tree x a e)
        where
          go :
              ((y : ℕ) (c : Place) → y ≤ n → R y ≡ some c → Short depth (Π.home H.top) y (Π.home c)) → Dec (x ≡ 0) →
              (x ≡ 0) ⊎ (is_kid (x / 16) x ≡ true) →
              Short depth (Π.home H.top) x (Π.home a)
          go ih (yes z) q =
              let t : H.top ≡ a = some_inj H.top a (sym H.top_is ∙ ap R (sym z) ∙ e) in
              record { k = 0; below = omega (arith, z); deep = subst (λ q. 0 + depth (Π.home q) ≤ depth (Π.home H.top)) t (omega arith) }
          go ih (no d) (inl z) = absurd (d z)
          go ih (no d) (inr c) =
              let f = kid-facts (x / 16) x c in
              let le : x / 16 ≤ n = omega arith in
              let sl = slot_of (x % 16) f.0 f.1 in
              let seen = view-kid Π R (x / 16) x c ∙ e in
              let has = any_of (view R (x / 16)) 8 (x % 16) a f.0 f.1 seen in
              let F = ok.family (x / 16) has in
              let lb = kid-label (view R (x / 16) (x % 16)) (Π.label F.b (x % 16)) a (F.each (x % 16) sl) seen in
              let dc = depth-call F.b (x % 16) (Π.home a) F.called lb in
              let S = ih (x / 16) (Π.out F.b) le F.at_out in
              let bl = S.below in
              let dp = S.deep in
              record { k = suc S.k; below = omega (arith, bl); deep = omega (arith, dp, dc) }

      pub short : (x : ℕ) (a : Place) → R x ≡ some a → Short depth (Π.home H.top) x (Π.home a)
      short x a e = short-go x x a (omega arith) e
