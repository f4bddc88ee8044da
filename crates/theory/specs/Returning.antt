-- What every string of accepted undos removes that removes one entry, and that undoing just that, newest first, is accepted and
-- leaves one machine. Over any lawful machine in which two independent steps trade places, and over any base from which the kept
-- history, replayed, gives the machine: the base need not be a start. Assumes nothing else.
use Rattle.std.specs.Prelude.{◌≡◌, refl, ◌⊎◌, ◌≢◌, Bool, true, false, List, [], ◌∷◌, ◌++◌, ℕ, eqb}
use Rattle.std.proofs.Common.{sym, ap, ◌∙◌, subst, inl, inr, append_assoc}
use Rattle.std.proofs.Math.Option.{Option, some}
use Rattle.theory.specs.Cause.{Feet}
use Rattle.theory.specs.Tests.{bool_cases, not_true, eqb-other, eqb_same, or_left, or_right}
use Rattle.theory.specs.Histories.{Apart, Indep, All, NoneBy}
use Rattle.theory.specs.Moving.{apart_none}
use Rattle.theory.specs.Undoable.{free-apart, apart-free}
use Rattle.theory.specs.Replay.{Step, Back, Runs, Lawful, runs-ok, step-det, unwind, undo-good, runs-split, mark-along}
use Rattle.theory.specs.TakingBack.{Mark, stays, gone, all, kept, whole, Covers, follow, taken, Follows, Closed, some_by, gone_by}
use Rattle.theory.specs.TakingBack.{gone_by_all, newest_first, Undone, Undos}
use Rattle.theory.specs.Marks.{all_append, kept_append, kept_whole, all_whole, all-follow, follow-closed, follow-least, closed_after}
use Rattle.theory.specs.Marks.{closed-whole, nothing-closed, covers_whole, closed-more}

module _ (Φ : Feet) where
  open Φ use {Entry, process, reading, writing}

  module _ {C : Type 0} (onward backward : C → ℕ → Option (Entry × C)) where
    abbrev St : C → Entry → C → Type 0
    St = Step Φ onward backward

    abbrev Bk : C → Entry → C → Type 0
    Bk = Back Φ onward backward

    abbrev Rn : C → List Entry → C → Type 0
    Rn = Runs Φ onward backward

    -- what taking back asks beyond `Lawful`. kin p q: one process is above the other
    pub record Trades (Ok : C → Type 0) (kin : ℕ → ℕ → Bool) : Type 0 where
      -- two steps, one after the other, of processes that are not kin, and that share no resource which one writes, trade places
      pub trade :
          (s s₁ s₃ : C) (e f : Entry) → Ok s → process f ≢ process e → kin (process e) (process f) ≡ false → Indep Φ e f → St s e s₁ → St s₁ f s₃ →
          (s₂ : C) × St s f s₂ × St s₂ e s₃
      -- no step goes back right after a step of its kin
      pub kin_waits : (s₁ s₂ s₃ : C) (e f : Entry) → Ok s₁ → process f ≢ process e → St s₁ f s₃ → Bk s₃ e s₂ → kin (process e) (process f) ≡ true → ⊥

    -- `dep` decides whether two steps are independent
    pub record Decides (kin : ℕ → ℕ → Bool) (dep : Entry → Entry → Bool) : Type 0 where
      pub other : (e f : Entry) → dep e f ≡ false → process f ≢ process e
      pub no_kin : (e f : Entry) → dep e f ≡ false → kin (process e) (process f) ≡ false
      pub indep : (e f : Entry) → dep e f ≡ false → Indep Φ e f
      pub all_three : (e f : Entry) → process f ≢ process e → kin (process e) (process f) ≡ false → Indep Φ e f → dep e f ≡ false

    module _
        (Ok : C → Type 0) (mark : C → ℕ → Option Entry) (L : Lawful Φ onward backward Ok mark) (kin : ℕ → ℕ → Bool) (T : Trades Ok kin)
        (dep : Entry → Entry → Bool) (D : Decides kin dep)
      where
        abbrev Un : C → List (Mark Entry) → ℕ → C → List (Mark Entry) → Type 0
        Un = Undone Φ backward

        abbrev Uns : C → List (Mark Entry) → List ℕ → C → List (Mark Entry) → Type 0
        Uns = Undos Φ backward

        -- an entry that goes back is independent of all that is later: of its own process and of the resources by the graph's rule, of its
        -- kin by the machine's
        none-later :
            (s c c' : C) (e : Entry) (u : List Entry) → Ok s → Apart Φ e u → Rn s u c → Bk c e c' → All Φ (λ f. dep e f ≡ false) u
        none-later s c c' e [] o a r b = tt
        none-later s c c' e (f ∷ u) o a r b =
            let o₁ = L.ok_step s r.0 f o r.1 in
            let w = unwind Φ onward backward Ok mark L r.0 c c' e u o₁ a.2 r.2 b in
            let k : kin (process e) (process f) ≡ false =
            not_true (kin (process e) (process f)) (λ t. T.kin_waits s w.0 r.0 e f o a.0 r.1 w.1 t) in
            (D.all_three e f a.0 k a.1, none-later r.0 c c' e u o₁ a.2 r.2 b)

        -- an accepted undo takes the newest entry of its process that stays
        some-none : (p : ℕ) (u : List Entry) → NoneBy Φ p u → some_by Φ p u ≡ false
        some-none p [] n = refl
        some-none p (f ∷ u) n = rw (eqb-other (process f) p n.0) (some-none p u n.1)

        some-here : (p : ℕ) (b w : List (Mark Entry)) (e : Entry) → process e ≡ p → some_by Φ p (kept (b ++ stays e ∷ w)) ≡ true
        some-here p [] w e h = or_left (eqb (process e) p) (some_by Φ p (kept w)) (eqb_same (process e) p h)
        some-here p (stays f ∷ b) w e h = or_right (eqb (process f) p) (some_by Φ p (kept (b ++ stays e ∷ w))) (some-here p b w e h)
        some-here p (gone f ∷ b) w e h = some-here p b w e h

        gone_at :
            (p : ℕ) (b w : List (Mark Entry)) (e : Entry) → process e ≡ p → NoneBy Φ p (kept w) → gone_by Φ (b ++ stays e ∷ w) p ≡ b ++ gone e ∷ w
        gone_at p [] w e h n = rw (eqb_same (process e) p h, some-none p (kept w) n)
        gone_at p (gone f ∷ b) w e h n = ap (λ (l : List (Mark Entry)). gone f ∷ l) (gone_at p b w e h n)
        gone_at p (stays f ∷ b) w e h n = go (gone_at p b w e h n) (bool_cases (eqb (process f) p))
          where
            go :
                gone_by Φ (b ++ stays e ∷ w) p ≡ b ++ gone e ∷ w → (eqb (process f) p ≡ true) ⊎ (eqb (process f) p ≡ false) →
                gone_by Φ (stays f ∷ b ++ stays e ∷ w) p ≡ stays f ∷ b ++ gone e ∷ w
            go i (inl x) = rw (x, some-here p b w e h) (ap (λ (l : List (Mark Entry)). stays f ∷ l) i)
            go i (inr x) = rw x (ap (λ (l : List (Mark Entry)). stays f ∷ l) i)

        pub undone-gone : (c c' : C) (m m' : List (Mark Entry)) (p : ℕ) → Un c m p c' m' → m' ≡ gone_by Φ m p
        undone-gone c c' m m' p x =
            let a = free-apart Φ (kept x.before) x.step (kept x.later) x.free in
            let n : NoneBy Φ p (kept x.later) = subst (λ q. NoneBy Φ q (kept x.later)) x.own (apart_none Φ x.step (kept x.later) a) in
            x.is ∙ sym (gone_at p x.before x.later x.step x.own n) ∙ ap (λ (l : List (Mark Entry)). gone_by Φ l p) (sym x.was)

        pub undos_gone : (ps : List ℕ) (c c' : C) (m m' : List (Mark Entry)) → Uns c m ps c' m' → m' ≡ gone_by_all Φ m ps
        undos_gone [] c c' m m' x = sym x.1
        undos_gone (p ∷ ps) c c' m m' x =
            undos_gone ps x.0 c' x.1 m' x.3 ∙ ap (λ (l : List (Mark Entry)). gone_by_all Φ l ps) (undone-gone c x.0 m x.1 p x.2)

        follows_of : (e : Entry) (m : List (Mark Entry)) → All Φ (λ f. dep e f ≡ false) (kept m) → Follows dep e m
        follows_of e [] a = tt
        follows_of e (stays f ∷ m) a = (a.0, follows_of e m a.1)
        follows_of e (gone f ∷ m) a = follows_of e m a

        of-follows : (e : Entry) (m : List (Mark Entry)) → Follows dep e m → All Φ (λ f. dep e f ≡ false) (kept m)
        of-follows e [] a = tt
        of-follows e (stays f ∷ m) a = (a.0, of-follows e m a.1)
        of-follows e (gone f ∷ m) a = of-follows e m a

        apart_of : (e : Entry) (u : List Entry) → All Φ (λ f. dep e f ≡ false) u → Apart Φ e u
        apart_of e [] a = tt
        apart_of e (f ∷ u) a = (D.other e f a.0, D.indep e f a.0, apart_of e u a.1)

        -- ---- over a base
        module _ (base : C) (ok₀ : Ok base) where
          -- an accepted undo leaves a machine that its kept history gives from the base, and a closed set of what is gone
          pub undone-good : (c c' : C) (m m' : List (Mark Entry)) (p : ℕ) → Rn base (kept m) c → Un c m p c' m' → Rn base (kept m') c'
          undone-good c c' m m' p r x =
              let a = free-apart Φ (kept x.before) x.step (kept x.later) x.free in
              let r₁ : Rn base (kept x.before ++ x.step ∷ kept x.later) c =
              subst (λ (l : List Entry). Rn base l c) (ap kept x.was ∙ kept_append x.before (stays x.step ∷ x.later)) r in
              let ow = L.own_backward c p x.said c' x.back in
              let b : Bk c x.said c' = subst (λ q. backward c q ≡ some (x.said, c')) (sym ow) x.back in
              let g =
              undo-good Φ onward backward Ok mark L base ok₀ c c' (kept x.before) x.step (kept x.later) x.said r₁ a
              (x.own ∙ sym ow) b in
              subst (λ (l : List Entry). Rn base l c') (sym (ap kept x.is ∙ kept_append x.before (gone x.step ∷ x.later))) g

          -- the machine says the entry that goes
          said-step :
              (c c' : C) (u w : List Entry) (e₀ e : Entry) → Rn base (u ++ e₀ ∷ w) c → Apart Φ e₀ w → process e₀ ≡ process e → Bk c e c' → e₀ ≡ e
          said-step c c' u w e₀ e r a is b =
              let i = runs-split Φ onward backward base c u (e₀ ∷ w) r in
              let s₁ = i.2.0 in
              let nop : NoneBy Φ (process e) w = subst (λ p. NoneBy Φ p w) is (apart_none Φ e₀ w a) in
              let m₁ : mark s₁ (process e) ≡ some e =
              mark-along Φ onward backward Ok mark L s₁ c w (process e) e nop i.2.2 (L.mark_backward c c' e b) in
              let m₂ : mark s₁ (process e) ≡ some e₀ = subst (λ p. mark s₁ p ≡ some e₀) is (L.mark_onward i.0 s₁ e₀ i.2.1) in
              cc

          pub undone-closed :
              (c c' : C) (m m' : List (Mark Entry)) (p : ℕ) → Rn base (kept m) c → Closed dep m → Un c m p c' m' → Closed dep m'
          undone-closed c c' m m' p r cl x =
              let u = kept x.before in
              let e = x.step in
              let w = kept x.later in
              let a = free-apart Φ u e w x.free in
              let r₁ : Rn base (u ++ e ∷ w) c =
              subst (λ (l : List Entry). Rn base l c) (ap kept x.was ∙ kept_append x.before (stays e ∷ x.later)) r in
              let ow = L.own_backward c p x.said c' x.back in
              let b : Bk c x.said c' = subst (λ q. backward c q ≡ some (x.said, c')) (sym ow) x.back in
              let same = said-step c c' u w e x.said r₁ a (x.own ∙ sym ow) b in
              let b₀ : Bk c e c' = subst (λ z. Bk c z c') (sym same) b in
              let i = runs-split Φ onward backward base c u (e ∷ w) r₁ in
              let os = runs-ok Φ onward backward Ok mark L base i.0 u ok₀ i.1 in
              let n = none-later i.2.0 c c' e w (L.ok_step i.0 i.2.0 e os i.2.1) a i.2.2 b₀ in
              subst (Closed dep) (sym x.is) (closed-more dep e x.before x.later (follows_of e x.later n) (subst (Closed dep) x.was cl))

          pub undos_good : (ps : List ℕ) (c c' : C) (m m' : List (Mark Entry)) → Rn base (kept m) c → Uns c m ps c' m' → Rn base (kept m') c'
          undos_good [] c c' m m' r x = subst (λ (l : List (Mark Entry)). Rn base (kept l) c') x.1 (subst (λ z. Rn base (kept m) z) x.0 r)
          undos_good (p ∷ ps) c c' m m' r x = undos_good ps x.0 c' x.1 m' (undone-good c x.0 m x.1 p r x.2) x.3

          pub undos_closed :
              (ps : List ℕ) (c c' : C) (m m' : List (Mark Entry)) → Rn base (kept m) c → Closed dep m → Uns c m ps c' m' → Closed dep m'
          undos_closed [] c c' m m' r cl x = subst (Closed dep) x.1 cl
          undos_closed (p ∷ ps) c c' m m' r cl x =
              undos_closed ps x.0 c' x.1 m' (undone-good c x.0 m x.1 p r x.2) (undone-closed c x.0 m x.1 p r cl x.2) x.3

          -- (1) every string of accepted undos that removes the entry e of the history u ++ e ∷ w removes all that came of it
          pub removes_all :
              (c c' : C) (u : List Entry) (e : Entry) (w : List Entry) (ps : List ℕ) (a b : List (Mark Entry)) →
              Rn base (u ++ e ∷ w) c → Uns c (whole (u ++ e ∷ w)) ps c' (a ++ gone e ∷ b) → all a ≡ u → all b ≡ w →
              Covers (taken dep u e w) (a ++ gone e ∷ b)
          removes_all c c' u e w ps a b r x ea eb =
              let h = u ++ e ∷ w in
              let r₁ : Rn base (kept (whole h)) c = subst (λ (l : List Entry). Rn base l c) (sym (kept_whole h)) r in
              let cl = closed_after dep a (gone e ∷ b) (undos_closed ps c c' (whole h) (a ++ gone e ∷ b) r₁ (nothing-closed dep h) x) in
              let f = follow-least dep (e ∷ []) b (cl.0, tt) cl.1 in
              let g : Covers (whole (all a) ++ gone e ∷ follow dep (e ∷ []) (all b)) (a ++ gone e ∷ b) =
              covers_whole dep a (gone e ∷ b) (gone e ∷ follow dep (e ∷ []) (all b)) (refl, f) in
              subst (λ (l : List Entry). Covers (whole u ++ gone e ∷ follow dep (e ∷ []) l) (a ++ gone e ∷ b)) eb
              (subst (λ (l : List Entry). Covers (whole l ++ gone e ∷ follow dep (e ∷ []) (all b)) (a ++ gone e ∷ b)) ea g)

          -- (3) what a string of accepted undos leaves is fixed by what it removes
          runs-one : (s c c' : C) (h : List Entry) → Rn s h c → Rn s h c' → c ≡ c'
          runs-one s c c' [] r r' = sym r ∙ r'
          runs-one s c c' (e ∷ h) r r' =
              let q = step-det Φ onward backward Ok mark L s r.0 r'.0 e e refl r.1 r'.1 in
              runs-one r'.0 c c' h (subst (λ z. Rn z h c) q.1 r.2) r'.2

          pub one-machine :
              (c c' c'' : C) (h : List Entry) (m : List (Mark Entry)) (ps qs : List ℕ) → Rn base h c → Uns c (whole h) ps c' m →
              Uns c (whole h) qs c'' m →
              c' ≡ c''
          one-machine c c' c'' h m ps qs r x y =
              let r₁ : Rn base (kept (whole h)) c = subst (λ (l : List Entry). Rn base l c) (sym (kept_whole h)) r in
              runs-one base c' c'' (kept m) (undos_good ps c c' (whole h) m r₁ x) (undos_good qs c c'' (whole h) m r₁ y)

        -- ---- (2) undone newest first
        -- a step that is independent of all that is later could have been made last
        past :
            (s s₁ c : C) (e : Entry) (u : List Entry) → Ok s → All Φ (λ f. dep e f ≡ false) u → St s e s₁ → Rn s₁ u c → (s₂ : C)
            × Rn s u s₂ × St s₂ e c
        past s s₁ c e [] o a st r = (s, refl, subst (λ z. St s e z) r st)
        past s s₁ c e (f ∷ u) o a st r =
            let t = T.trade s s₁ r.0 e f o (D.other e f a.0) (D.no_kin e f a.0) (D.indep e f a.0) st r.1 in
            let i = past t.0 r.0 c e u (L.ok_step s t.0 f o t.1) a.1 t.2 r.2 in
            (i.0, (t.0, t.1, i.1), i.2)

        undos-then :
            (ps : List ℕ) (c c₁ c₂ : C) (m m₁ m₂ : List (Mark Entry)) (p : ℕ) → Uns c m ps c₁ m₁ → Un c₁ m₁ p c₂ m₂ → Uns c m (ps ++ p ∷ []) c₂ m₂
        undos-then [] c c₁ c₂ m m₁ m₂ p x y =
            (c₂, m₂, subst (λ z. Un z m p c₂ m₂) (sym x.0) (subst (λ (z : List (Mark Entry)). Un c₁ z p c₂ m₂) (sym x.1) y), (refl, refl))
        undos-then (q ∷ ps) c c₁ c₂ m m₁ m₂ p x y = (x.0, x.1, x.2, undos-then ps x.0 c₁ c₂ x.1 m₁ m₂ p x.3 y)

        pub newest-first :
            (a t : List (Mark Entry)) (s c : C) → Ok s → Closed dep t → Rn s (all t) c →
            (c' : C) × Rn s (kept t) c' × Uns c (a ++ whole (all t)) (newest_first Φ t) c' (a ++ t)
        newest-first a [] s c o cl r = (c, r, (refl, refl))
        newest-first a (stays f ∷ t) s c o cl r =
            let i = newest-first (a ++ stays f ∷ []) t r.0 c (L.ok_step s r.0 f o r.1) cl r.2 in
            let e₁ = append_assoc a (stays f ∷ []) (whole (all t)) in
            let e₂ = append_assoc a (stays f ∷ []) t in
            let x₁ = subst (λ (l : List (Mark Entry)). Uns c l (newest_first Φ t) i.0 ((a ++ stays f ∷ []) ++ t)) e₁ i.2 in
            let x₂ = subst (λ (l : List (Mark Entry)). Uns c (a ++ stays f ∷ whole (all t)) (newest_first Φ t) i.0 l) e₂ x₁ in
            (i.0, (r.0, r.1, i.1), x₂)
        newest-first a (gone f ∷ t) s c o cl r =
            let i = newest-first (a ++ stays f ∷ []) t r.0 c (L.ok_step s r.0 f o r.1) cl.1 r.2 in
            let c₁ = i.0 in
            let e₁ = append_assoc a (stays f ∷ []) (whole (all t)) in
            let e₂ = append_assoc a (stays f ∷ []) t in
            let x₁ = subst (λ (l : List (Mark Entry)). Uns c l (newest_first Φ t) c₁ ((a ++ stays f ∷ []) ++ t)) e₁ i.2 in
            let x₂ = subst (λ (l : List (Mark Entry)). Uns c (a ++ stays f ∷ whole (all t)) (newest_first Φ t) c₁ l) e₂ x₁ in
            let n = of-follows f t cl.0 in
            let q = past s r.0 c₁ f (kept t) o n r.1 i.1 in
            let s₂ = q.0 in
            let b = L.inverse s₂ c₁ f (runs-ok Φ onward backward Ok mark L s s₂ (kept t) o q.1) q.2 in
            let y : Un c₁ (a ++ stays f ∷ t) (process f) s₂ (a ++ gone f ∷ t) =
            record {
              before = a;
              step = f;
              later = t;
              said = f;
              was = refl;
              is = refl;
              own = refl;
              free = apart-free Φ (kept a) f (kept t) (apart_of f (kept t) n);
              back = b;
            } in
            (s₂, q.1, undos-then (newest_first Φ t) c c₁ s₂ (a ++ stays f ∷ whole (all t)) (a ++ stays f ∷ t) (a ++ gone f ∷ t) (process f) x₂ y)

        -- the entry e of the history u ++ e ∷ w and what came of it go, newest first, and nothing else does
        pub goes-newest_first :
            (base c : C) → Ok base → (u : List Entry) (e : Entry) (w : List Entry) → Rn base (u ++ e ∷ w) c →
            (c' : C) × Rn base (kept (taken dep u e w)) c'
            × Uns c (whole (u ++ e ∷ w)) (newest_first Φ (taken dep u e w)) c' (taken dep u e w)
        goes-newest_first base c o u e w r =
            let t = taken dep u e w in
            let f = follow-closed dep (e ∷ []) w in
            let cl : Closed dep t = closed-whole dep u (gone e ∷ follow dep (e ∷ []) w) (f.1.0, f.0) in
            let al : all t ≡ u ++ e ∷ w =
            all_append (whole u) (gone e ∷ follow dep (e ∷ []) w) ∙ ap (λ (l : List Entry). l ++ e ∷ all (follow dep (e ∷ []) w)) (all_whole u)
            ∙ ap (λ (l : List Entry). u ++ e ∷ l) (all-follow dep (e ∷ []) w) in
            let i = newest-first [] t base c o cl (subst (λ (l : List Entry). Rn base l c) (sym al) r) in
            (i.0, i.1, subst (λ (l : List Entry). Uns c (whole l) (newest_first Φ t) i.0 t) al i.2)

    -- two ways to say which steps are kin, or which are independent, find one set
    module _
        (Ok : C → Type 0) (mark : C → ℕ → Option Entry) (L : Lawful Φ onward backward Ok mark) (kin kin' : ℕ → ℕ → Bool) (T : Trades Ok kin)
        (T' : Trades Ok kin') (dep dep' : Entry → Entry → Bool) (D : Decides kin dep) (D' : Decides kin' dep')
      where
        pub same_set :
            (base c : C) → Ok base → (u : List Entry) (e : Entry) (w : List Entry) → Rn base (u ++ e ∷ w) c →
            Covers (taken dep u e w) (taken dep' u e w)
        same_set base c o u e w r =
            let g = goes-newest_first Ok mark L kin' T' dep' D' base c o u e w r in
            removes_all Ok mark L kin T dep D base o c g.0 u e w (newest_first Φ (taken dep' u e w)) (whole u) (follow dep' (e ∷ []) w) r g.2
            (all_whole u) (all-follow dep' (e ∷ []) w)
