-- Annotations of 004 that are equal as sets (Alike), and definition 2 on them: what a step extends an annotation to, and what it
-- extends to an annotation, is one annotation. Assumes nothing.
use Rattle.std.specs.Prelude.{◌≡◌, refl, ◌⊎◌, ◌↔◌, Bool, true, false, ℕ, ◌<◌, ◌≤◌}
use Rattle.std.proofs.Common.{sym, ap, ◌∙◌, subst, inl, inr, arith}
use Rattle.std.proofs.Math.Decide.{dec_lt}
use Rattle.rules.specs.Cause.{Node, Source, node}
use Rattle.rules.specs.Annotation.{Annotation, node_at, Whole, Last, unwritten, written, Extends}
use Rattle.theorems.specs.PaperShown.{Alike}

-- ---- both ways
pub iff_turn : {A B : Type 0} → A ↔ B → B ↔ A
iff_turn e = (e.1, e.0)

pub iff_chain : {A B C : Type 0} → A ↔ B → B ↔ C → A ↔ C
iff_chain e f = ((λ a. f.0 (e.0 a)), (λ c. e.1 (f.1 c)))

either : {A B C D : Type 0} → (A → B) → (C → D) → A ⊎ C → B ⊎ D
either f g (inl a) = inl (f a)
either f g (inr c) = inr (g c)

pub iff_either : {A B C D : Type 0} → A ↔ B → C ↔ D → (A ⊎ C) ↔ (B ⊎ D)
iff_either e f = (either e.0 f.0, either e.1 f.1)

-- ---- equal as sets
pub alike_self : (A : Annotation) → Alike A A
alike_self A =
    record { vertex = λ v. ((λ x. x), (λ x. x)); read_edge = λ s r v. ((λ x. x), (λ x. x)); write_edge = λ s r v. ((λ x. x), (λ x. x)) }

pub alike-turn : (A B : Annotation) → Alike A B → Alike B A
alike-turn A B L =
    record {
      vertex = λ v. iff_turn (L.vertex v);
      read_edge = λ s r v. iff_turn (L.read_edge s r v);
      write_edge = λ s r v. iff_turn (L.write_edge s r v);
    }

-- the last node of a resource's write edges is a matter of those edges
pub last-same :
    (A B : Annotation) (r : ℕ) → ((s : Source) (v : Node) → A.write_edge s r v ↔ B.write_edge s r v) → (t : Source) → Last A r t → Last B r t
last-same A B r same t (unwritten none-there) = unwritten (λ s v e. none-there s v ((same s v).1 e))
last-same A B r same t (written {s} {v} e end-there) = written ((same s v).0 e) (λ w x. end-there w ((same (node v) w).1 x))

last-alike : (A B : Annotation) (r : ℕ) (t : Source) → Alike A B → Last A r t ↔ Last B r t
last-alike A B r t L =
    (last-same A B r (λ s v. L.write_edge s r v) t, last-same B A r (λ s v. iff_turn (L.write_edge s r v)) t)

pub extends-alike :
    (A B A' B' : Annotation) (p : ℕ) (rd wr : ℕ → Bool) → Alike A B → Alike A' B' → Extends A p rd wr A' → Extends B p rd wr B'
extends-alike A B A' B' p rd wr L L' E =
    record {
      number = E.number;
      newest = λ k. iff_chain (iff_turn (L.vertex (node_at p k))) (E.newest k);
      vertices = λ v. iff_chain (iff_turn (L'.vertex v)) (iff_chain (E.vertices v) (iff_either (L.vertex v) ((λ x. x), (λ x. x))));
      reads = λ s r v. iff_chain (iff_turn (L'.read_edge s r v)) (iff_chain (E.reads s r v)
          (iff_either (L.read_edge s r v)
          ((λ x. (x.0, x.1, x.2, (last-alike A B r s L).0 x.3)), (λ x. (x.0, x.1, x.2, (last-alike A B r s L).1 x.3)))));
      writes = λ s r v. iff_chain (iff_turn (L'.write_edge s r v)) (iff_chain (E.writes s r v)
          (iff_either (L.write_edge s r v)
          ((λ x. (x.0, x.1, (last-alike A B r s L).0 x.2)), (λ x. (x.0, x.1, (last-alike A B r s L).1 x.2)))));
    }

-- what one step extends two annotations that are equal as sets to, is so again
module _ (A B : Annotation) (p : ℕ) (rd wr : ℕ → Bool) (A' B' : Annotation) (E : Extends A p rd wr A') (F : Extends B p rd wr B') where
  same_number : Alike A B → E.number ≡ F.number
  same_number L = go (dec_lt E.number F.number) (dec_lt F.number E.number)
    where
      go : Dec (E.number < F.number) → Dec (F.number < E.number) → E.number ≡ F.number
      go (yes lt) d =
          let x = (E.newest E.number).0 ((L.vertex (node_at p E.number)).1 ((F.newest E.number).1 lt)) in absurd (omega (arith, x))
      go (no n) (yes lt) =
          let x = (F.newest F.number).0 ((L.vertex (node_at p F.number)).0 ((E.newest F.number).1 lt)) in absurd (omega (arith, x))
      go (no n) (no k) = omega (arith, n, k)

  new-node : E.number ≡ F.number → (v : Node) → (v ≡ node_at p E.number) ↔ (v ≡ node_at p F.number)
  new-node e v = ((λ q. q ∙ ap (node_at p) e), (λ q. q ∙ ap (node_at p) (sym e)))

  pub one-after : Alike A B → Alike A' B'
  one-after L =
      let e = same_number L in
      record {
        vertex = λ v. iff_chain (E.vertices v) (iff_chain (iff_either (L.vertex v) (new-node e v)) (iff_turn (F.vertices v)));
        read_edge = λ s r v. iff_chain (E.reads s r v) (iff_chain
            (iff_either (L.read_edge s r v) (
              (λ x. ((new-node e v).0 x.0, x.1, x.2, (last-alike A B r s L).0 x.3)),
              (λ x. ((new-node e v).1 x.0, x.1, x.2, (last-alike A B r s L).1 x.3)),
            )) (iff_turn (F.reads s r v)));
        write_edge = λ s r v. iff_chain (E.writes s r v) (iff_chain
            (iff_either (L.write_edge s r v) (
              (λ x. ((new-node e v).0 x.0, x.1, (last-alike A B r s L).0 x.2)),
              (λ x. ((new-node e v).1 x.0, x.1, (last-alike A B r s L).1 x.2)),
            )) (iff_turn (F.writes s r v)));
      }

-- what is extended to one annotation by one step is one annotation
module _ (A B C : Annotation) (p : ℕ) (rd wr : ℕ → Bool) (E : Extends A p rd wr C) (F : Extends B p rd wr C) where
  not_over : E.number ≤ F.number
  not_over = go ((F.vertices (node_at p E.number)).0 ((E.vertices (node_at p E.number)).1 (inr refl)))
    where
      go : B.vertex (node_at p E.number) ⊎ (node_at p E.number ≡ node_at p F.number) → E.number ≤ F.number
      go (inl x) = let l = (F.newest E.number).0 x in omega (arith, l)
      go (inr e) = let q : E.number ≡ F.number = ap (λ (v : Node). v.number) e in omega (arith, q)

  -- the new node is not in what was extended
  not_new : E.number ≤ F.number → (v : Node) → A.vertex v → v ≡ node_at p F.number → ⊥
  not_new le v a e = let l = (E.newest F.number).0 (subst A.vertex e a) in omega (arith, l, le)

  half : E.number ≤ F.number → Whole A →
      ((v : Node) → A.vertex v → B.vertex v)
      × ((s : Source) (r : ℕ) (v : Node) → A.read_edge s r v → B.read_edge s r v)
      × ((s : Source) (r : ℕ) (v : Node) → A.write_edge s r v → B.write_edge s r v)
  half le W = (
    (λ v a. at-node v a ((F.vertices v).0 ((E.vertices v).1 (inl a)))),
    (λ s r v a. at_read s r v a ((F.reads s r v).0 ((E.reads s r v).1 (inl a)))),
    (λ s r v a. at-write s r v a ((F.writes s r v).0 ((E.writes s r v).1 (inl a)))),
  )
    where
      at-node : (v : Node) → A.vertex v → B.vertex v ⊎ (v ≡ node_at p F.number) → B.vertex v
      at-node v a (inl b) = b
      at-node v a (inr e) = absurd (not_new le v a e)

      at_read :
          (s : Source) (r : ℕ) (v : Node) → A.read_edge s r v →
          B.read_edge s r v ⊎ ((v ≡ node_at p F.number) × (rd r ≡ true) × (wr r ≡ false) × Last B r s) → B.read_edge s r v
      at_read s r v a (inl b) = b
      at_read s r v a (inr x) = absurd (not_new le v (W.targets s r v (inl a)) x.0)

      at-write :
          (s : Source) (r : ℕ) (v : Node) → A.write_edge s r v →
          B.write_edge s r v ⊎ ((v ≡ node_at p F.number) × (wr r ≡ true) × Last B r s) → B.write_edge s r v
      at-write s r v a (inl b) = b
      at-write s r v a (inr x) = absurd (not_new le v (W.targets s r v (inr a)) x.0)

pub one-before :
    (A B C : Annotation) (p : ℕ) (rd wr : ℕ → Bool) → Extends A p rd wr C → Extends B p rd wr C → Whole A → Whole B → Alike A B
one-before A B C p rd wr E F U W =
    let x = half A B C p rd wr E F (not_over A B C p rd wr E F) U in
    let y = half B A C p rd wr F E (not_over B A C p rd wr F E) W in
    record {
      vertex = λ v. (x.0 v, y.0 v);
      read_edge = λ s r v. (x.1 s r v, y.1 s r v);
      write_edge = λ s r v. (x.2 s r v, y.2 s r v);
    }
