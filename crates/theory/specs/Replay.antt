-- Replaying histories on a machine that is lawful, and demand 3 from its laws. Assumes nothing: what a machine has to bring is
-- the record `Lawful`.
use Rattle.std.specs.Prelude.{◌≡◌, refl, ◌⊎◌, ◌≢◌, List, [], ◌∷◌, ◌++◌, ℕ}
use Rattle.std.proofs.Common.{sym, ap, ◌∙◌, subst, inl, inr, append_assoc, append-nil}
use Rattle.std.proofs.Math.Option.{Option, some}
use Rattle.std.proofs.Math.Decide.{ℕ_discrete}
use Rattle.theory.specs.Cause.{Feet, Base, fresh, push, SameGraph}
use Rattle.theory.specs.Histories.{Apart, Indep, NoneBy, Counted, split, counted-fresh, counted-push}
use Rattle.theory.specs.Moving.{apart-front, apart_none, same-pop}

module _ (Φ : Feet) where
  open Φ use {Entry, process, reading, writing, written_read}

  -- onward and backward make one step of a process, on the memory and the rows alone; each says its entry
  module _ {C : Type 0} (onward backward : C → ℕ → Option (Entry × C)) where
    abbrev pub Step : C → Entry → C → Type 0
    Step s e s' = onward s (process e) ≡ some (e, s')

    abbrev pub Back : C → Entry → C → Type 0
    Back s e s' = backward s (process e) ≡ some (e, s')

    -- the replay of a history is accepted at each entry, with that entry, and ends in c
    abbrev pub Runs : C → List Entry → C → Type 0
    Runs s [] c = s ≡ c
    Runs s (e ∷ t) c = (s' : C) × Step s e s' × Runs s' t c

    -- what a machine has to bring. mark: the entry that a process's row says was its last, none at begin and where the process is not live
    pub record Lawful (Ok : C → Type 0) (mark : C → ℕ → Option Entry) : Type 0 where
      pub own_onward : (s : C) (p : ℕ) (e : Entry) (s' : C) → onward s p ≡ some (e, s') → process e ≡ p
      pub own_backward : (s : C) (p : ℕ) (e : Entry) (s' : C) → backward s p ≡ some (e, s') → process e ≡ p
      pub ok_step : (s s' : C) (e : Entry) → Ok s → Step s e s' → Ok s'
      pub inverse : (s s' : C) (e : Entry) → Ok s → Step s e s' → Back s' e s
      pub diamond :
          (s s₁ s₂ : C) (e f : Entry) → Ok s → process f ≢ process e → Indep Φ e f → Step s e s₁ → Step s f s₂ →
          (s₃ : C) × Step s₁ f s₃ × Step s₂ e s₃
      pub square :
          (s₁ s₂ s₃ : C) (e f : Entry) → Ok s₁ → process f ≢ process e → Indep Φ e f → Step s₁ f s₃ → Back s₃ e s₂ →
          (s₀ : C) × Back s₁ e s₀ × Step s₀ f s₂
      pub mark_backward : (s s' : C) (e : Entry) → Back s e s' → mark s (process e) ≡ some e
      pub mark_onward : (s s' : C) (e : Entry) → Step s e s' → mark s' (process e) ≡ some e
      pub mark_other : (s s' : C) (e : Entry) (q : ℕ) (x : Entry) → Step s e s' → process e ≢ q → mark s' q ≡ some x → mark s q ≡ some x

    pub runs-split : (s c : C) (u v : List Entry) → Runs s (u ++ v) c → (s' : C) × Runs s u s' × Runs s' v c
    runs-split s c [] v r = (s, refl, r)
    runs-split s c (e ∷ u) v r =
        let i = runs-split r.0 c u v r.2 in
        (i.0, (r.0, r.1, i.1), i.2)

    pub runs_append : (s s' c : C) (u v : List Entry) → Runs s u s' → Runs s' v c → Runs s (u ++ v) c
    runs_append s s' c [] v a b = subst (λ x. Runs x v c) (sym a) b
    runs_append s s' c (e ∷ u) v a b = (a.0, a.1, runs_append a.0 s' c u v a.2 b)

    module _ (Ok : C → Type 0) (mark : C → ℕ → Option Entry) (L : Lawful Ok mark) where
      pub runs-ok : (s c : C) (h : List Entry) → Ok s → Runs s h c → Ok c
      runs-ok s c [] o r = subst Ok r o
      runs-ok s c (e ∷ t) o r = runs-ok r.0 c t (L.ok_step s r.0 e o r.1) r.2

      some_pair : (x y : Entry) (a b : C) → Path (Option (Entry × C)) (some (x, a)) (some (y, b)) → (x ≡ y) × (a ≡ b)
      some_pair x y a b h = let q : Path (Entry × C) (x, a) (y, b) = cc in (ap (λ z. z.0) q, ap (λ z. z.1) q)

      pub step-det : (s a b : C) (x y : Entry) → process x ≡ process y → Step s x a → Step s y b → (x ≡ y) × (a ≡ b)
      step-det s a b x y h p q = some_pair x y a b (sym p ∙ ap (onward s) h ∙ q)

      pub back-det : (s a b : C) (x y : Entry) → process x ≡ process y → Back s x a → Back s y b → (x ≡ y) × (a ≡ b)
      back-det s a b x y h p q = some_pair x y a b (sym p ∙ ap (backward s) h ∙ q)

      -- a step that could be made before u, and is apart from u, can be made after u, and both ways end in one state
      pub along :
          (s s₁ s₂ : C) (e : Entry) (u : List Entry) → Ok s → Apart Φ e u → Step s e s₁ → Runs s u s₂ →
          (s₃ : C) × Step s₂ e s₃ × Runs s₁ u s₃
      along s s₁ s₂ e [] o a st r = (s₁, subst (λ x. Step x e s₁) r st, refl)
      along s s₁ s₂ e (f ∷ u) o a st r =
          let d = L.diamond s s₁ r.0 e f o a.0 a.1 st r.1 in
          let i = along r.0 d.0 s₂ e u (L.ok_step s r.0 f o r.1) a.2 d.2 r.2 in
          (i.0, i.1, (d.0, d.1, i.2))

      -- and back: a step that can be undone after u, and is apart from u, could be undone before u
      pub unwind :
          (s₁ c c' : C) (e : Entry) (u : List Entry) → Ok s₁ → Apart Φ e u → Runs s₁ u c → Back c e c' →
          (s₀ : C) × Back s₁ e s₀ × Runs s₀ u c'
      unwind s₁ c c' e [] o a r b = (c', subst (λ x. Back x e c') (sym r) b, refl)
      unwind s₁ c c' e (f ∷ u) o a r b =
          let i = unwind r.0 c c' e u (L.ok_step s₁ r.0 f o r.1) a.2 r.2 b in
          let q = L.square s₁ i.0 r.0 e f o a.0 a.1 r.1 i.1 in
          (q.0, q.1, (i.0, q.2, i.2))

      pub mark-along : (s c : C) (u : List Entry) (q : ℕ) (x : Entry) → NoneBy Φ q u → Runs s u c → mark c q ≡ some x → mark s q ≡ some x
      mark-along s c [] q x n r m = subst (λ z. mark z q ≡ some x) (sym r) m
      mark-along s c (f ∷ u) q x n r m = L.mark_other s r.0 f q x r.1 n.0 (mark-along r.0 c u q x n.1 r.2 m)

      -- what code 17 asks of rows and history: the entry that a row names is the newest of its process
      pub record Newest (h : List Entry) (x : Entry) : Type 0 where
        pub front : List Entry
        pub rest : List Entry
        pub whole : h ≡ front ++ x ∷ rest
        pub last : NoneBy Φ (process x) rest

      pub mark-newest :
          (s c : C) (h : List Entry) (q : ℕ) (x : Entry) → Runs s h c → mark c q ≡ some x →
          ((mark s q ≡ some x) × NoneBy Φ q h) ⊎ (Newest h x × (process x ≡ q))
      mark-newest s c [] q x r m = inl (subst (λ z. mark z q ≡ some x) (sym r) m, tt)
      mark-newest s c (e ∷ t) q x r m = go (mark-newest r.0 c t q x r.2 m) (ℕ_discrete (process e) q)
        where
          go :
              ((mark r.0 q ≡ some x) × NoneBy Φ q t) ⊎ (Newest t x × (process x ≡ q)) → Dec (process e ≡ q) →
              ((mark s q ≡ some x) × NoneBy Φ q (e ∷ t)) ⊎ (Newest (e ∷ t) x × (process x ≡ q))
          go (inl y) (yes d) =
              let m₁ : mark r.0 q ≡ some e = subst (λ z. mark r.0 z ≡ some e) d (L.mark_onward s r.0 e r.1) in
              let m₂ = y.0 in
              let same : e ≡ x = cc in
              let own : process x ≡ q = ap process (sym same) ∙ d in
              inr (
                record { front = []; rest = t; whole = ap (λ z. z ∷ t) same; last = subst (λ z. NoneBy Φ z t) (sym own) y.1 },
                own,
              )
          go (inl y) (no d) = inl (L.mark_other s r.0 e q x r.1 d y.0, (d, y.1))
          go (inr y) d = inr (record { front = e ∷ y.0.front; rest = y.0.rest; whole = ap (λ l. e ∷ l) y.0.whole; last = y.0.last }, y.1)

      -- two histories with one graph, both replayed from one state, end in one state
      pub one-graph_one_place :
          (G : Base) → Counted Φ G → (h h' : List Entry) → SameGraph Φ G h h' →
          (s c c' : C) → Ok s → Runs s h c → Runs s h' c' → c ≡ c'
      one-graph_one_place G g [] [] same s c c' o r r' = sym r ∙ r'
      one-graph_one_place G g [] (f ∷ t) same s c c' o r r' = absurd ((same.nodes (process f) (G.count (process f))).1 (inl (refl, refl)))
      one-graph_one_place G g (e ∷ t) h' same s c c' o r r' =
          let sp = split Φ G h' (process e) (G.count (process e)) refl ((same.nodes (process e) (G.count (process e))).0 (inl (refl, refl))) in
          let u = sp.front in
          let m = sp.mid in
          let w = sp.back in
          let same₁ = subst (λ l. SameGraph Φ G (e ∷ t) l) sp.whole same in
          let a = apart-front Φ G g e m t u w sp.is sp.before same₁ in
          let b = runs-split s c' u (m ∷ w) (subst (λ l. Runs s l c') sp.whole r') in
          let d = along s r.0 b.0 e u o a r.1 b.1 in
          let q = step-det b.0 b.2.0 d.0 m e sp.is b.2.1 d.1 in
          let same₂ = subst (λ x. SameGraph Φ G (e ∷ t) (u ++ x ∷ w)) q.0 same₁ in
          one-graph_one_place (push Φ G e) (counted-push Φ G g e) t (u ++ w) (same-pop Φ G e t u w a same₂) r.0 c c'
          (L.ok_step s r.0 e o r.1) r.2
          (runs_append r.0 d.0 c' u w d.2 (subst (λ x. Runs x w c') q.1 b.2.2))

      -- from the start
      module _ (first : C) (ok₀ : Ok first) where
        abbrev pub Good : C → List Entry → Type 0
        Good c h = Runs first h c

        pub undo-good :
            (c c' : C) (u : List Entry) (e₀ : Entry) (w : List Entry) (e : Entry) →
            Good c (u ++ e₀ ∷ w) → Apart Φ e₀ w → process e₀ ≡ process e → Back c e c' → Good c' (u ++ w)
        undo-good c c' u e₀ w e r A is b =
            let i = runs-split first c u (e₀ ∷ w) r in
            let s = i.0 in
            let s₁ = i.2.0 in
            let os : Ok s = runs-ok first s u ok₀ i.1 in
            let nop : NoneBy Φ (process e) w = subst (λ p. NoneBy Φ p w) is (apart_none Φ e₀ w A) in
            let m₁ : mark s₁ (process e) ≡ some e = mark-along s₁ c w (process e) e nop i.2.2 (L.mark_backward c c' e b) in
            let m₂ : mark s₁ (process e) ≡ some e₀ = subst (λ p. mark s₁ p ≡ some e₀) is (L.mark_onward s s₁ e₀ i.2.1) in
            let same : e₀ ≡ e = cc in
            let b₀ : Back c e₀ c' = subst (λ x. Back c x c') (sym same) b in
            let k = unwind s₁ c c' e₀ w (L.ok_step s s₁ e₀ os i.2.1) A i.2.2 b₀ in
            let q = back-det s₁ k.0 s e₀ e₀ refl k.1 (L.inverse s s₁ e₀ os i.2.1) in
            runs_append first s c' u w i.1 (subst (λ x. Runs x w c') q.1 k.2)

        pub forward-good : (c c' : C) (h : List Entry) (e : Entry) → Good c h → Step c e c' → Good c' (h ++ e ∷ [])
        forward-good c c' h e r st = runs_append first c c' h (e ∷ []) r (c', st, refl)

        -- demand 3, first sentence
        pub same-graph_same_place : (c c' : C) (h h' : List Entry) → Good c h → Good c' h' → SameGraph Φ fresh h h' → c ≡ c'
        same-graph_same_place c c' h h' r r' same = one-graph_one_place fresh (counted-fresh Φ) h h' same first c c' ok₀ r r'

        -- second: the newest kept step can be undone
        pub newest-undone : (c : C) (u : List Entry) (e : Entry) → Good c (u ++ e ∷ []) → (s : C) × Back c e s × Good s u
        newest-undone c u e r =
            let i = runs-split first c u (e ∷ []) r in
            let s = i.0 in
            let st : Step s e c = subst (λ z. Step s e z) i.2.2 i.2.1 in
            (s, L.inverse s c e (runs-ok first s u ok₀ i.1) st, i.1)

        pub good-ok : (c : C) (h : List Entry) → Good c h → Ok c
        good-ok c h r = runs-ok first c h ok₀ r

        -- of code 17: the entry that a row names is the newest of its process
        pub rows-fit_history :
            ((q : ℕ) (x : Entry) → mark first q ≡ some x → ⊥) → (c : C) (h : List Entry) (q : ℕ) (x : Entry) →
            Good c h → mark c q ≡ some x → Newest h x × (process x ≡ q)
        rows-fit_history bare c h q x r k = go (mark-newest first c h q x r k)
          where
            go : ((mark first q ≡ some x) × NoneBy Φ q h) ⊎ (Newest h x × (process x ≡ q)) → Newest h x × (process x ≡ q)
            go (inl y) = absurd (bare q x y.0)
            go (inr y) = y

        -- any invariant of machines that forward steps keep holds at every machine that a run reaches: undo need not be looked at
        pub by-forward :
            (J : C → List Entry → Type 0) → J first [] →
            ((c c' : C) (h : List Entry) (e : Entry) → Ok c → J c h → Step c e c' → J c' (h ++ e ∷ [])) →
            (c : C) (h : List Entry) → Good c h → J c h
        by-forward J j₀ js c h r = go first [] c h ok₀ j₀ r
          where
            go : (s : C) (h : List Entry) (c : C) (t : List Entry) → Ok s → J s h → Runs s t c → J c (h ++ t)
            go s h c [] o j r = subst (λ l. J c l) (sym (append-nil h)) (subst (λ z. J z h) r j)
            go s h c (e ∷ t) o j r =
                subst (λ l. J c l) (append_assoc h (e ∷ []) t)
                (go r.0 (h ++ e ∷ []) c t (L.ok_step s r.0 e o r.1) (js s r.0 h e o j r.1) r.2)
