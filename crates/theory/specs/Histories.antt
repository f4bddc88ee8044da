-- What a history leaves for the steps after it: numbers go up, and last writers are steps that were counted. Assumes nothing.
use Rattle.std.specs.Prelude.{◌≡◌, refl, ◌⊎◌, ◌≢◌, Bool, true, false, List, [], ◌∷◌, ◌++◌, ℕ, suc, ◌≤◌, ◌<◌, eqb}
use Rattle.std.proofs.Common.{sym, ap, ◌∙◌, inl, inr, arith}
use Rattle.std.proofs.Math.Decide.{ℕ_discrete}
use Rattle.theory.specs.Cause.{Feet, Origin, step, Base, fresh, push, after, Any, NodeAt, EdgeAt, Node, Edge}
use Rattle.theory.specs.Tests.{bool_cases, eqb-other, eqb_same}

module _ (Φ : Feet) where
  open Φ use {Entry, process, reading, writing, written_read}

  -- two steps that share no resource which one of them writes
  abbrev pub Indep : Entry → Entry → Type 0
  Indep e f = ((r : ℕ) → writing e r ≡ true → reading f r ≡ false) × ((r : ℕ) → writing f r ≡ true → reading e r ≡ false)

  -- no entry of u is of e's process, and each is independent of e
  abbrev pub Apart : Entry → List Entry → Type 0
  Apart e [] = Unit {0}
  Apart e (f ∷ u) = (process f ≢ process e) × Indep e f × Apart e u

  abbrev pub All : (Entry → Type 0) → List Entry → Type 0
  All P [] = Unit {0}
  All P (f ∷ u) = P f × All P u

  abbrev pub NoneBy : ℕ → List Entry → Type 0
  NoneBy p u = All (λ f. process f ≢ p) u

  abbrev pub NoneReads : ℕ → List Entry → Type 0
  NoneReads r u = All (λ f. reading f r ≡ false) u

  abbrev pub NoneWrites : ℕ → List Entry → Type 0
  NoneWrites r u = All (λ f. writing f r ≡ false) u

  pub indep-sym : {e f : Entry} → Indep e f → Indep f e
  indep-sym i = (i.1, i.0)

  -- push, by cases
  pub count_same : (G : Base) (e : Entry) (q : ℕ) → q ≡ process e → (push Φ G e).count q ≡ suc (G.count q)
  count_same G e q h = rw (eqb_same q (process e) h)

  pub count-other : (G : Base) (e : Entry) (q : ℕ) → q ≢ process e → (push Φ G e).count q ≡ G.count q
  count-other G e q h = rw (eqb-other q (process e) h)

  pub count-up : (G : Base) (e : Entry) (q : ℕ) → G.count q ≤ (push Φ G e).count q
  count-up G e q = go (bool_cases (eqb q (process e)))
    where
      go : (eqb q (process e) ≡ true) ⊎ (eqb q (process e) ≡ false) → G.count q ≤ (push Φ G e).count q
      go (inl h) = rw h (omega arith)
      go (inr h) = rw h (omega arith)

  pub last_written : (G : Base) (e : Entry) (r : ℕ) → writing e r ≡ true → (push Φ G e).last r ≡ step (process e) (G.count (process e))
  last_written G e r h = rw h

  pub last-kept : (G : Base) (e : Entry) (r : ℕ) → writing e r ≡ false → (push Φ G e).last r ≡ G.last r
  last-kept G e r h = rw h

  pub any-map : (P Q : Base → Entry → Type 0) → ((G : Base) (e : Entry) → P G e → Q G e) → (G : Base) (h : List Entry) → Any Φ P G h → Any Φ Q G h
  any-map P Q f G [] a = a
  any-map P Q f G (e ∷ t) (inl x) = inl (f G e x)
  any-map P Q f G (e ∷ t) (inr y) = inr (any-map P Q f (push Φ G e) t y)

  pub any_left : (P : Base → Entry → Type 0) (G : Base) (u v : List Entry) → Any Φ P G u → Any Φ P G (u ++ v)
  any_left P G [] v a = absurd a
  any_left P G (e ∷ t) v (inl x) = inl x
  any_left P G (e ∷ t) v (inr y) = inr (any_left P (push Φ G e) t v y)

  pub any-right : (P : Base → Entry → Type 0) (G : Base) (u v : List Entry) → Any Φ P (after Φ G u) v → Any Φ P G (u ++ v)
  any-right P G [] v a = a
  any-right P G (e ∷ t) v a = inr (any-right P (push Φ G e) t v a)

  pub any-split : (P : Base → Entry → Type 0) (G : Base) (u v : List Entry) → Any Φ P G (u ++ v) → Any Φ P G u ⊎ Any Φ P (after Φ G u) v
  any-split P G [] v a = inr a
  any-split P G (e ∷ t) v (inl x) = inl (inl x)
  any-split P G (e ∷ t) v (inr y) = go (any-split P (push Φ G e) t v y)
    where
      go : Any Φ P (push Φ G e) t ⊎ Any Φ P (after Φ (push Φ G e) t) v → Any Φ P G (e ∷ t) ⊎ Any Φ P (after Φ (push Φ G e) t) v
      go (inl z) = inl (inr z)
      go (inr z) = inr z

  pub after-append : (G : Base) (u v : List Entry) → after Φ G (u ++ v) ≡ after Φ (after Φ G u) v
  after-append G [] v = refl
  after-append G (e ∷ t) v = after-append (push Φ G e) t v

  -- the numbers of a process go up: a node of a history that begins at G has a number that G has not given yet
  pub node-new : (p k : ℕ) (G : Base) (h : List Entry) → Node Φ G h p k → G.count p ≤ k
  node-new p k G [] a = absurd a
  node-new p k G (e ∷ t) (inl x) = omega (arith, x.1)
  node-new p k G (e ∷ t) (inr y) = let i = node-new p k (push Φ G e) t y in omega (arith, i, count-up G e p)

  pub edge-node : (p k r : ℕ) (w : Bool) (s : Origin) (G : Base) (h : List Entry) → Edge Φ G h p k r w s → Node Φ G h p k
  edge-node p k r w s G h a = any-map (EdgeAt Φ p k r w s) (NodeAt Φ p k) (λ H e x. (x.0, x.1)) G h a

  -- G's last writers are steps that G has counted
  abbrev pub Counted : Base → Type 0
  Counted G = (r q j : ℕ) → G.last r ≡ step q j → j < G.count q

  pub counted-fresh : Counted fresh
  counted-fresh r q j h = let z : ◌≡◌ {A = ℕ} 0 1 = cc in omega arith

  pub counted-push : (G : Base) → Counted G → (e : Entry) → Counted (push Φ G e)
  counted-push G g e r q j h = go (bool_cases (writing e r))
    where
      go : (writing e r ≡ true) ⊎ (writing e r ≡ false) → j < (push Φ G e).count q
      go (inl t) =
          let w = last_written G e r t in
          let a : q ≡ process e = cc in
          let b : j ≡ G.count (process e) = cc in
          let c : G.count (process e) ≡ G.count q = ap (λ x. G.count x) (sym a) in
          omega (arith, count_same G e q a, b, c)
      go (inr f) = omega (arith, g r q j (sym (last-kept G e r f) ∙ h), count-up G e q)

  pub counted-after : (G : Base) → Counted G → (u : List Entry) → Counted (after Φ G u)
  counted-after G g [] = g
  counted-after G g (e ∷ t) = counted-after (push Φ G e) (counted-push G g e) t

  pub count-after_up : (G : Base) (u : List Entry) (q : ℕ) → G.count q ≤ (after Φ G u).count q
  count-after_up G [] q = omega arith
  count-after_up G (e ∷ t) q = omega (arith, count-up G e q, count-after_up (push Φ G e) t q)

  pub count-after_none : (G : Base) (u : List Entry) (p : ℕ) → NoneBy p u → (after Φ G u).count p ≡ G.count p
  count-after_none G [] p n = refl
  count-after_none G (e ∷ t) p n = count-after_none (push Φ G e) t p n.1 ∙ count-other G e p (λ x. n.0 (sym x))

  -- the last writer after u: as before, and no entry of u writes r; or a step whose number is new
  last-after :
      (G : Base) (u : List Entry) (r : ℕ) →
      (((after Φ G u).last r ≡ G.last r) × NoneWrites r u) ⊎ ((q : ℕ) × (j : ℕ) × ((after Φ G u).last r ≡ step q j) × (G.count q ≤ j))
  last-after G [] r = inl (refl, tt)
  last-after G (e ∷ t) r = go (last-after (push Φ G e) t r) (bool_cases (writing e r))
    where
      G' : Base
      G' = push Φ G e

      go :
          (((after Φ G' t).last r ≡ G'.last r) × NoneWrites r t) ⊎ ((q : ℕ) × (j : ℕ) × ((after Φ G' t).last r ≡ step q j) × (G'.count q ≤ j)) →
          (writing e r ≡ true) ⊎ (writing e r ≡ false) →
          (((after Φ G' t).last r ≡ G.last r) × NoneWrites r (e ∷ t)) ⊎ ((q : ℕ) × (j : ℕ) × ((after Φ G' t).last r ≡ step q j) × (G.count q ≤ j))
      go (inl a) (inl h) = inr (process e, G.count (process e), a.0 ∙ last_written G e r h, omega arith)
      go (inl a) (inr h) = inl (a.0 ∙ last-kept G e r h, (h, a.1))
      go (inr b) h = inr (b.0, b.1, b.2, omega (arith, b.3, count-up G e b.0))

  pub kept-last : (G : Base) → Counted G → (u : List Entry) (r : ℕ) → G.last r ≡ (after Φ G u).last r → NoneWrites r u
  kept-last G g u r e = go (last-after G u r)
    where
      go :
          (((after Φ G u).last r ≡ G.last r) × NoneWrites r u) ⊎ ((q : ℕ) × (j : ℕ) × ((after Φ G u).last r ≡ step q j) × (G.count q ≤ j)) →
          NoneWrites r u
      go (inl a) = a.1
      go (inr b) = let l = g r b.0 b.1 (e ∙ b.2) in absurd (omega (arith, l, b.3))

  pub last-unwritten : (G : Base) (u : List Entry) (r : ℕ) → NoneWrites r u → (after Φ G u).last r ≡ G.last r
  last-unwritten G [] r n = refl
  last-unwritten G (e ∷ t) r n = last-unwritten (push Φ G e) t r n.1 ∙ last-kept G e r n.0

  -- an edge comes from what was the last writer at the start, or from a step whose number is new
  pub edge-from :
      (p k r : ℕ) (w : Bool) (s : Origin) (G : Base) (h : List Entry) → Edge Φ G h p k r w s →
      (s ≡ G.last r) ⊎ ((q : ℕ) × (j : ℕ) × (s ≡ step q j) × (G.count q ≤ j))
  edge-from p k r w s G [] a = absurd a
  edge-from p k r w s G (e ∷ t) (inl x) = inl x.4
  edge-from p k r w s G (e ∷ t) (inr y) = go (edge-from p k r w s (push Φ G e) t y) (bool_cases (writing e r))
    where
      G' : Base
      G' = push Φ G e

      go :
          (s ≡ G'.last r) ⊎ ((q : ℕ) × (j : ℕ) × (s ≡ step q j) × (G'.count q ≤ j)) →
          (writing e r ≡ true) ⊎ (writing e r ≡ false) →
          (s ≡ G.last r) ⊎ ((q : ℕ) × (j : ℕ) × (s ≡ step q j) × (G.count q ≤ j))
      go (inl a) (inl h) = inr (process e, G.count (process e), a ∙ last_written G e r h, omega arith)
      go (inl a) (inr h) = inl (a ∙ last-kept G e r h)
      go (inr b) h = inr (b.0, b.1, b.2, omega (arith, b.3, count-up G e b.0))

  -- the first occurrence of a process
  pub record Split (h : List Entry) (p : ℕ) : Type 0 where
    pub front : List Entry
    pub mid : Entry
    pub back : List Entry
    pub whole : h ≡ front ++ mid ∷ back
    pub is : process mid ≡ p
    pub before : NoneBy p front

  pub split : (G : Base) (h : List Entry) (p k : ℕ) → k ≡ G.count p → Node Φ G h p k → Split h p
  split G [] p k c a = absurd a
  split G (e ∷ t) p k c (inl x) = record { front = []; mid = e; back = t; whole = refl; is = sym x.0; before = tt }
  split G (e ∷ t) p k c (inr y) = go (λ n. split (push Φ G e) t p k (c ∙ sym (count-other G e p n)) y) (ℕ_discrete p (process e))
    where
      go : ((p ≢ process e) → Split t p) → Dec (p ≡ process e) → Split (e ∷ t) p
      go s (yes q) = absurd (omega (arith, node-new p k (push Φ G e) t y, count_same G e p q))
      go s (no n) =
          record {
            front = e ∷ (s n).front;
            mid = (s n).mid;
            back = (s n).back;
            whole = ap (λ l. e ∷ l) (s n).whole;
            is = (s n).is;
            before = ((λ x. n (sym x)), (s n).before);
          }
