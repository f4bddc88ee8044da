-- What moving a step over others that it is apart from does to the cause graph: nothing. Assumes nothing.
use Rattle.std.specs.Prelude.{◌≡◌, refl, ◌⊎◌, ◌↔◌, ◌≢◌, Bool, true, false, cond, List, [], ◌∷◌, ◌++◌, ℕ, suc, ◌≤◌, ◌<◌, eqb}
use Rattle.std.proofs.Common.{sym, ◌∙◌, subst, inl, inr, append-nil, arith}
use Rattle.std.proofs.Math.Path.{fun_ext}
use Rattle.theory.specs.Cause.{Feet, Origin, step, Base, push, after, Any, NodeAt, EdgeAt, Node, Edge, SameGraph}
use Rattle.theory.specs.Tests.{bool_cases, eqb-other, true_false}
use Rattle.theory.specs.Histories.{Apart, Indep, NoneBy, NoneReads, NoneWrites, Counted, any_left, any-map, any-split, count-after_up, count-after_none, count-up, count-other, count_same, edge-from, edge-node, indep-sym, kept-last, last-kept, last_written, node-new}

choice_swap : (a b : Bool) (c : ℕ) → cond a (suc (cond b (suc c) c)) (cond b (suc c) c) ≡ cond b (suc (cond a (suc c) c)) (cond a (suc c) c)
choice_swap true true c = refl
choice_swap true false c = refl
choice_swap false true c = refl
choice_swap false false c = refl

choice_apart : (a b : Bool) (x y z : Origin) → (a ≡ true → b ≡ true → ⊥) → cond a x (cond b y z) ≡ cond b y (cond a x z)
choice_apart true true x y z n = absurd (n refl refl)
choice_apart true false x y z n = refl
choice_apart false true x y z n = refl
choice_apart false false x y z n = refl

module _ (Φ : Feet) where
  open Φ use {Entry, process, reading, writing, written_read}

  -- while r's last writer is s, the first entry that touches r has an edge from s: where no edge of a process other than p comes from s, no entry of u touches r
  pub unread-unwritten : (e : Entry) (r : ℕ) → reading e r ≡ false → writing e r ≡ false
  unread-unwritten e r h = go (bool_cases (writing e r))
    where
      go : (writing e r ≡ true) ⊎ (writing e r ≡ false) → writing e r ≡ false
      go (inl t) = absurd (true_false (written_read e r t) h)
      go (inr f) = f

  pub untouched :
      (p r : ℕ) (s : Origin) (G : Base) (u : List Entry) →
      G.last r ≡ s → NoneBy Φ p u →
      ((q j : ℕ) (w : Bool) → q ≢ p → Edge Φ G u q j r w s → ⊥) →
      NoneReads Φ r u
  untouched p r s G [] e n no_edge = tt
  untouched p r s G (f ∷ u) e n no_edge =
      (head, untouched p r s (push Φ G f) u (last-kept Φ G f r (unread-unwritten f r head) ∙ e) n.1 (λ q j w d a. no_edge q j w d (inr a)))
    where
      go : (reading f r ≡ true) ⊎ (reading f r ≡ false) → reading f r ≡ false
      go (inl t) = absurd (no_edge (process f) (G.count (process f)) (writing f r) n.0 (inl (refl, refl, t, refl, sym e)))
      go (inr h) = h

      head : reading f r ≡ false
      head = go (bool_cases (reading f r))

  -- Apart, resource by resource
  pub apart_of :
      (e : Entry) (u : List Entry) → NoneBy Φ (process e) u →
      ((r : ℕ) → writing e r ≡ true → NoneReads Φ r u) → ((r : ℕ) → reading e r ≡ true → NoneWrites Φ r u) → Apart Φ e u
  apart_of e [] n a b = tt
  apart_of e (f ∷ u) n a b = (n.0, ((λ r h. (a r h).0), one), apart_of e u n.1 (λ r h. (a r h).1) (λ r h. (b r h).1))
    where
      go : (r : ℕ) → writing f r ≡ true → (reading e r ≡ true) ⊎ (reading e r ≡ false) → reading e r ≡ false
      go r h (inl t) = absurd (true_false h (b r t).0)
      go r h (inr k) = k

      one : (r : ℕ) → writing f r ≡ true → reading e r ≡ false
      one r h = go r h (bool_cases (reading e r))

  pub apart_none : (e : Entry) (u : List Entry) → Apart Φ e u → NoneBy Φ (process e) u
  apart_none e [] a = tt
  apart_none e (f ∷ u) a = (a.0, apart_none e u a.2)

  pub apart-unread : (e : Entry) (u : List Entry) (r : ℕ) → writing e r ≡ true → Apart Φ e u → NoneReads Φ r u
  apart-unread e [] r h a = tt
  apart-unread e (f ∷ u) r h a = (a.1.0 r h, apart-unread e u r h a.2)

  pub apart-unwritten : (e : Entry) (u : List Entry) (r : ℕ) → reading e r ≡ true → Apart Φ e u → NoneWrites Φ r u
  apart-unwritten e [] r h a = tt
  apart-unwritten e (f ∷ u) r h a = (go (bool_cases (writing f r)), apart-unwritten e u r h a.2)
    where
      go : (writing f r ≡ true) ⊎ (writing f r ≡ false) → writing f r ≡ false
      go (inl t) = absurd (true_false h (a.1.1 r t))
      go (inr k) = k

  -- two independent steps of two processes may trade places: what they leave for the steps after them is the same
  push-swap : (G : Base) (e f : Entry) → process f ≢ process e → Indep Φ e f → push Φ (push Φ G f) e ≡ push Φ (push Φ G e) f
  push-swap G e f n i =
      λ j.
      record {
        count = fun_ext (λ q. choice_swap (eqb q (process e)) (eqb q (process f)) (G.count q)) j;
        last = fun_ext (λ r. at r) j;
      }
    where
      at : (r : ℕ) → (push Φ (push Φ G f) e).last r ≡ (push Φ (push Φ G e) f).last r
      at r =
          rw
          (eqb-other (process e) (process f) (λ x. n (sym x)), eqb-other (process f) (process e) n)
          (choice_apart (writing e r) (writing f r) (step (process e) (G.count (process e))) (step (process f) (G.count (process f))) (G.last r)
          (λ a b. true_false (written_read f r b) (i.0 r a)))

  -- what is said of an entry stays true where an independent step of another process comes before it, or no longer does
  abbrev Stable : (Base → Entry → Type 0) → Type 0
  Stable P = (G : Base) (e f : Entry) → process f ≢ process e → Indep Φ e f → P G e ↔ P (push Φ G f) e

  node-stable : (p k : ℕ) → Stable (NodeAt Φ p k)
  node-stable p k G e f n i = ((λ x. (x.0, x.1 ∙ sym (c x.0))), (λ x. (x.0, x.1 ∙ c x.0)))
    where
      c : p ≡ process e → (push Φ G f).count p ≡ G.count p
      c h = count-other Φ G f p (λ x. n (sym x ∙ h))

  edge-stable : (p k r : ℕ) (w : Bool) (s : Origin) → Stable (EdgeAt Φ p k r w s)
  edge-stable p k r w s G e f n i = (
    (λ x. (x.0, x.1 ∙ sym (c x.0), x.2, x.3, x.4 ∙ sym (l x.2))),
    (λ x. (x.0, x.1 ∙ c x.0, x.2, x.3, x.4 ∙ l x.2)),
  )
    where
      c : p ≡ process e → (push Φ G f).count p ≡ G.count p
      c h = count-other Φ G f p (λ x. n (sym x ∙ h))

      go : reading e r ≡ true → (writing f r ≡ true) ⊎ (writing f r ≡ false) → (push Φ G f).last r ≡ G.last r
      go h (inl t) = absurd (true_false h (i.1 r t))
      go h (inr k) = last-kept Φ G f r k

      l : reading e r ≡ true → (push Φ G f).last r ≡ G.last r
      l h = go h (bool_cases (writing f r))

  -- a step moves to the front over steps that it is apart from, and every node keeps its edges
  module _ (P : Base → Entry → Type 0) (st : Stable P) (G : Base) (e f : Entry) (l l' : List Entry) (n : process f ≢ process e)
      (i : Indep Φ e f) where
    move-to : (Any Φ P (push Φ G f) l → Any Φ P (push Φ G f) (e ∷ l')) → Any Φ P G (f ∷ l) → Any Φ P G (e ∷ f ∷ l')
    move-to ih (inl x) = inr (inl ((st G f e (λ y. n (sym y)) (indep-sym Φ i)).0 x))
    move-to ih (inr y) = go (ih y)
      where
        go : Any Φ P (push Φ G f) (e ∷ l') → Any Φ P G (e ∷ f ∷ l')
        go (inl z) = inl ((st G e f n i).1 z)
        go (inr z) = inr (inr (subst (λ B. Any Φ P B l') (push-swap G e f n i) z))

    move-from : (Any Φ P (push Φ G f) (e ∷ l') → Any Φ P (push Φ G f) l) → Any Φ P G (e ∷ f ∷ l') → Any Φ P G (f ∷ l)
    move-from ih (inl x) = inr (ih (inl ((st G e f n i).0 x)))
    move-from ih (inr (inl x)) = inl ((st G f e (λ y. n (sym y)) (indep-sym Φ i)).1 x)
    move-from ih (inr (inr z)) = inr (ih (inr (subst (λ B. Any Φ P B l') (sym (push-swap G e f n i)) z)))

  move :
      (P : Base → Entry → Type 0) → Stable P → (G : Base) (e : Entry) (u w : List Entry) → Apart Φ e u →
      Any Φ P G (u ++ e ∷ w) ↔ Any Φ P G (e ∷ u ++ w)
  move P st G e [] w a = ((λ x. x), (λ x. x))
  move P st G e (f ∷ u) w a =
      let ih = move P st (push Φ G f) e u w a.2 in
      (move-to P st G e f (u ++ e ∷ w) (u ++ w) a.0 a.1 ih.0, move-from P st G e f (u ++ e ∷ w) (u ++ w) a.0 a.1 ih.1)

  -- or to the end over later steps that it is apart from
  move-last :
      (P : Base → Entry → Type 0) → Stable P → (G : Base) (h : List Entry) (e : Entry) (u : List Entry) → Apart Φ e u →
      Any Φ P G (h ++ e ∷ u) ↔ Any Φ P G (h ++ (u ++ e ∷ []))
  move-last P st G [] e u a =
      let m = move P st G e u [] a in
      let s : u ++ [] ≡ u = append-nil u in (
        (λ x. m.1 (subst (λ (l : List Entry). Any Φ P G (e ∷ l)) (sym s) x)),
        (λ x. subst (λ (l : List Entry). Any Φ P G (e ∷ l)) s (m.0 x)),
      )
  move-last P st G (f ∷ h) e u a =
      let ih = move-last P st (push Φ G f) h e u a in
      ((λ x. over (h ++ e ∷ u) (h ++ (u ++ e ∷ [])) ih.0 x), (λ x. over (h ++ (u ++ e ∷ [])) (h ++ e ∷ u) ih.1 x))
    where
      over :
          (l l' : List Entry) → (Any Φ P (push Φ G f) l → Any Φ P (push Φ G f) l') → P G f ⊎ Any Φ P (push Φ G f) l → P G f ⊎ Any Φ P (push Φ G f) l'
      over l l' g (inl x) = inl x
      over l l' g (inr y) = inr (g y)

  pub same-moved : (G : Base) (h : List Entry) (e : Entry) (u : List Entry) → Apart Φ e u → SameGraph Φ G (h ++ e ∷ u) (h ++ (u ++ e ∷ []))
  same-moved G h e u a =
      record {
        nodes = λ p k. move-last (NodeAt Φ p k) (node-stable p k) G h e u a;
        edges = λ p k r w s. move-last (EdgeAt Φ p k r w s) (edge-stable p k r w s) G h e u a;
      }

  -- the graph without its first step, where the other history has moved that step to the front
  pop :
      (P : Base → Entry → Type 0) → Stable P → (p k : ℕ) → ((G : Base) (e : Entry) → P G e → NodeAt Φ p k G e) →
      (G : Base) (e : Entry) (t u w : List Entry) → Apart Φ e u →
      Any Φ P G (e ∷ t) ↔ Any Φ P G (u ++ e ∷ w) → Any Φ P (push Φ G e) t ↔ Any Φ P (push Φ G e) (u ++ w)
  pop P st p k is G e t u w a iff = ((λ y. to y (m.0 (iff.0 (inr y)))), (λ y. from y (iff.1 (m.1 (inr y)))))
    where
      m : Any Φ P G (u ++ e ∷ w) ↔ Any Φ P G (e ∷ u ++ w)
      m = move P st G e u w a

      clash : (l : List Entry) → Any Φ P (push Φ G e) l → P G e → ⊥
      clash l y x =
          let n = node-new Φ p k (push Φ G e) l (any-map Φ P (NodeAt Φ p k) is (push Φ G e) l y) in
          let x' = is G e x in
          omega (arith, n, count_same Φ G e p x'.0, x'.1)

      to : Any Φ P (push Φ G e) t → P G e ⊎ Any Φ P (push Φ G e) (u ++ w) → Any Φ P (push Φ G e) (u ++ w)
      to y (inl x) = absurd (clash t y x)
      to y (inr z) = z

      from : Any Φ P (push Φ G e) (u ++ w) → P G e ⊎ Any Φ P (push Φ G e) t → Any Φ P (push Φ G e) t
      from y (inl x) = absurd (clash (u ++ w) y x)
      from y (inr z) = z

  pub same-pop : (G : Base) (e : Entry) (t u w : List Entry) → Apart Φ e u → SameGraph Φ G (e ∷ t) (u ++ e ∷ w) → SameGraph Φ (push Φ G e) t (u ++ w)
  same-pop G e t u w a g =
      record {
        nodes = λ p k. pop (NodeAt Φ p k) (node-stable p k) p k (λ H f x. x) G e t u w a (g.nodes p k);
        edges = λ p k r v s. pop (EdgeAt Φ p k r v s) (edge-stable p k r v s) p k (λ H f x. (x.0, x.1)) G e t u w a (g.edges p k r v s);
      }

  node-old : (p k : ℕ) (G : Base) (u : List Entry) → Node Φ G u p k → k < (after Φ G u).count p
  node-old p k G [] a = absurd a
  node-old p k G (e ∷ t) (inl x) = omega (arith, x.1, count_same Φ G e p x.0, count-after_up Φ (push Φ G e) t p)
  node-old p k G (e ∷ t) (inr y) = node-old p k (push Φ G e) t y

  -- the edges of the node that stands between u and w
  pub edge-mid :
      (p k r : ℕ) (v : Bool) (s : Origin) (G : Base) (u : List Entry) (e : Entry) (w : List Entry) → p ≡ process e → k ≡ (after Φ G u).count p →
      Edge Φ G (u ++ e ∷ w) p k r v s → (reading e r ≡ true) × (v ≡ writing e r) × (s ≡ (after Φ G u).last r)
  edge-mid p k r v s G u e w is num a = go (any-split Φ (EdgeAt Φ p k r v s) G u (e ∷ w) a)
    where
      go : Edge Φ G u p k r v s ⊎ Edge Φ (after Φ G u) (e ∷ w) p k r v s → (reading e r ≡ true) × (v ≡ writing e r) × (s ≡ (after Φ G u).last r)
      go (inl b) = absurd (omega (arith, node-old p k G u (edge-node Φ p k r v s G u b), num))
      go (inr (inl x)) = (x.2, x.3, x.4)
      go (inr (inr y)) =
          let n = node-new Φ p k (push Φ (after Φ G u) e) w (edge-node Φ p k r v s (push Φ (after Φ G u) e) w y) in
          absurd (omega (arith, n, num, count_same Φ (after Φ G u) e p is))

  -- the step that comes first in one history is apart from all that stands before it in the other
  pub apart-front :
      (G : Base) → Counted Φ G → (e e' : Entry) (t u w : List Entry) → process e' ≡ process e → NoneBy Φ (process e) u →
      SameGraph Φ G (e ∷ t) (u ++ e' ∷ w) → Apart Φ e u
  apart-front G g e e' t u w is nop same = apart_of e u nop reads_none writes-none
    where
      p : ℕ
      p = process e

      source :
          (r : ℕ) → writing e r ≡ true → (G.last r ≡ (push Φ G e).last r) ⊎ ((q : ℕ) × (j : ℕ) × (G.last r ≡ step q j) × ((push Φ G e).count q ≤ j)) →
          ⊥
      source r h (inl x) = let l = g r (process e) (G.count (process e)) (x ∙ last_written Φ G e r h) in omega (arith, l)
      source r h (inr y) = omega (arith, g r y.0 y.1 y.2, y.3, count-up Φ G e y.0)

      no_edge : (r : ℕ) → writing e r ≡ true → (q j : ℕ) (v : Bool) → q ≢ process e → Edge Φ G (e ∷ t) q j r v (G.last r) → ⊥
      no_edge r h q j v d (inl x) = d x.0
      no_edge r h q j v d (inr y) = source r h (edge-from Φ q j r v (G.last r) (push Φ G e) t y)

      reads_none : (r : ℕ) → writing e r ≡ true → NoneReads Φ r u
      reads_none r h =
          untouched (process e) r (G.last r) G u refl nop
          (λ q j v d a. no_edge r h q j v d ((same.edges q j r v (G.last r)).1 (any_left Φ (EdgeAt Φ q j r v (G.last r)) G u (e' ∷ w) a)))

      writes-none : (r : ℕ) → reading e r ≡ true → NoneWrites Φ r u
      writes-none r h =
          let a = (same.edges (process e) (G.count (process e)) r (writing e r) (G.last r)).0 (inl (refl, refl, h, refl, refl)) in
          let m =
          edge-mid (process e) (G.count (process e)) r (writing e r) (G.last r) G u e' w (sym is)
          (sym (count-after_none Φ G u (process e) nop)) a in
          kept-last Φ G g u r m.2
