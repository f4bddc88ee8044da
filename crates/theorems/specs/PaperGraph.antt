-- 004's annotation of a history (rules' Annotation): its nodes and edges, the last node of a resource's write edges, and that one more
-- kept step extends it as definition 2 says. Assumes, where it says so, that the image is sound.
use Rattle.std.specs.Prelude.{◌≡◌, ◌⊎◌, ◌↔◌, Bool, true, false, ℕ, suc, ◌<◌, eqb}
use Rattle.std.proofs.Math.Path.{refl, sym, ap, subst}
use Rattle.std.proofs.Common.{◌∙◌, inl, inr, arith}
use mathlib.Core.List.Memᴰ
use mathlib.Core.List.{List, [], ◌∷◌, ◌++◌, append-nil, append_assoc, Memᴰ}
use Rattle.std.proofs.Math.Decide.{ℕ_discrete}
use Rattle.theory.specs.Tests.{bool_cases, true_false, eqb_same, eqb-other}
use Rattle.rules.specs.Base.{pick, those, up_from}
use Rattle.rules.specs.Names.{resources, block_reads, block_writes}
use Rattle.rules.specs.Labels.{block_of}
use Rattle.rules.specs.Machine.{Kept}
use Rattle.rules.specs.Cause.{reads, writes, Node, Source, start_mark, node, Edge, entries_of, node_of, last_from, last_writer, edge_of, edges_of, nodes_from, edges_from, nodes, edges}
use Rattle.rules.specs.Annotation.{Annotation, AnyEdge, node_at, Whole, Last, unwritten, written, Extends, annotation_of}
use Rattle.rules.specs.declared.Block.{Block}
use Rattle.laws.proofs.Lists.{pick_true, pick-false}
use Rattle.theorems.specs.Graphs.{written_read, entries-more, last_more, up-listed, listed-up, for_listed, listed-for}
use Rattle.theorems.specs.Footprints.{near}
use Rattle.theorems.specs.Program.{Sound}
use Rattle.theorems.specs.Forward.{step_of}
use Rattle.theorems.specs.PaperSets.{iff_turn, iff_chain, iff_either, last-same}

-- ---- histories, from the newest step on
module _ (P : List Kept → Type 0) (none_kept : P []) (one_more : (h : List Kept) (k : Kept) → P h → P (h ++ k ∷ [])) where
  from_back : (u : List Kept) → P u → (v : List Kept) → P (u ++ v)
  from_back u a [] = subst P (sym (append-nil u)) a
  from_back u a (k ∷ v) = subst P (append_assoc u (k ∷ []) v) (from_back (u ++ k ∷ []) (one_more u k a) v)

  pub by-newest : (h : List Kept) → P h
  by-newest h = from_back [] none_kept h

nodes-append : (e u v : List Kept) → nodes_from e (u ++ v) ≡ nodes_from e u ++ nodes_from (e ++ u) v
unfolding nodes_from
nodes-append e [] v = ap (λ (l : List Kept). nodes_from l v) (sym (append-nil e))
nodes-append e (k ∷ u) v =
    ap (λ (l : List Node). node_of e k ∷ l)
    (nodes-append (e ++ k ∷ []) u v ∙ ap (λ (l : List Kept). nodes_from (e ++ k ∷ []) u ++ nodes_from l v) (append_assoc e (k ∷ []) u))

pub node-more : (h : List Kept) (k : Kept) (v : Node) → Memᴰ v (nodes (h ++ k ∷ [])) ↔ (Memᴰ v (nodes h) ⊎ (v ≡ node_of h k))
unfolding nodes nodes_from
node-more h k v = ((λ m. go (Memᴰ.append_cases (nodes_from [] h) (subst (Memᴰ v) e m))), (λ x. subst (Memᴰ v) (sym e) (back x)))
  where
    e : nodes_from [] (h ++ k ∷ []) ≡ nodes_from [] h ++ node_of h k ∷ []
    e = nodes-append [] h (k ∷ [])

    one : (v ≡ node_of h k) ⊎ Memᴰ v [] → v ≡ node_of h k
    one (inl q) = q
    one (inr m) = absurd (Memᴰ.not-nil m)

    go : Memᴰ v (nodes_from [] h) ⊎ Memᴰ v (node_of h k ∷ []) → Memᴰ v (nodes_from [] h) ⊎ (v ≡ node_of h k)
    go (inl m) = inl m
    go (inr m) = inr (one (Memᴰ.cases_cons m))

    back : Memᴰ v (nodes_from [] h) ⊎ (v ≡ node_of h k) → Memᴰ v (nodes_from [] h ++ node_of h k ∷ [])
    back (inl m) = Memᴰ.append_left _ m
    back (inr q) = Memᴰ.append_right (nodes_from [] h) (Memᴰ.head q)

-- a process's nodes are numbered from 0 on
entries_none : (p : ℕ) → entries_of p [] ≡ 0
unfolding entries_of those
entries_none p = refl

abbrev Counted : ℕ → List Kept → Kept → Type 0
Counted p h k =
    ((k.identifier ≡ p) × (entries_of p (h ++ k ∷ []) ≡ suc (entries_of p h)))
    ⊎ ((k.identifier ≡ p → ⊥) × (entries_of p (h ++ k ∷ []) ≡ entries_of p h))

counted : (p : ℕ) (h : List Kept) (k : Kept) → Counted p h k
counted p h k = go (ℕ_discrete k.identifier p)
  where
    go : Dec (k.identifier ≡ p) → Counted p h k
    go (yes e) =
        let a = entries-more p h k in
        let b : ◌≡◌ {A = ℕ} (pick (eqb k.identifier p) 1 0) 1 = pick_true (eqb k.identifier p) 1 0 (eqb_same k.identifier p e) in
        inl (e, omega (arith, a, b))
    go (no n) =
        let a = entries-more p h k in
        let b : ◌≡◌ {A = ℕ} (pick (eqb k.identifier p) 1 0) 0 = pick-false (eqb k.identifier p) 1 0 (eqb-other k.identifier p n) in
        inr (n, omega (arith, a, b))

none-numbered : (p j : ℕ) → Memᴰ (node_at p j) (nodes []) ↔ (j < entries_of p [])
unfolding nodes nodes_from
none-numbered p j = ((λ m. absurd (Memᴰ.not-nil m)), (λ lt. absurd (let z = entries_none p in omega (arith, z, lt))))

more-numbered :
    (h : List Kept) (k : Kept) → ((p j : ℕ) → Memᴰ (node_at p j) (nodes h) ↔ (j < entries_of p h)) →
    (p j : ℕ) → Memᴰ (node_at p j) (nodes (h ++ k ∷ [])) ↔ (j < entries_of p (h ++ k ∷ []))
more-numbered h k ih p j =
    ((λ m. to ((node-more h k (node_at p j)).0 m) (counted p h k)), (λ lt. (node-more h k (node_at p j)).1 (from lt (counted p h k))))
  where
    to : Memᴰ (node_at p j) (nodes h) ⊎ (node_at p j ≡ node_of h k) → Counted p h k → j < entries_of p (h ++ k ∷ [])
    to (inl m) (inl c) = let l = (ih p j).0 m in omega (arith, l, c.1)
    to (inl m) (inr c) = let l = (ih p j).0 m in omega (arith, l, c.1)
    to (inr e) (inl c) =
        let q : j ≡ entries_of p h = ap (λ (v : Node). v.number) e ∙ ap (λ (z : ℕ). entries_of z h) c.0 in
        omega (arith, q, c.1)
    to (inr e) (inr c) = absurd (c.0 (sym (ap (λ (v : Node). v.process) e)))

    at-end : k.identifier ≡ p → Dec (j ≡ entries_of p h) → j < suc (entries_of p h) → Memᴰ (node_at p j) (nodes h) ⊎ (node_at p j ≡ node_of h k)
    at-end o (yes q) lt =
        let n : j ≡ entries_of k.identifier h = q ∙ ap (λ (z : ℕ). entries_of z h) (sym o) in
        inr (λ i. record { process = sym o i; number = n i })
    at-end o (no d) lt = inl ((ih p j).1 (omega (arith, d, lt)))

    from : j < entries_of p (h ++ k ∷ []) → Counted p h k → Memᴰ (node_at p j) (nodes h) ⊎ (node_at p j ≡ node_of h k)
    from lt (inl c) = at-end c.0 (ℕ_discrete j (entries_of p h)) (omega (arith, lt, c.1))
    from lt (inr c) = inl ((ih p j).1 (omega (arith, lt, c.1)))

pub numbered : (h : List Kept) (p j : ℕ) → Memᴰ (node_at p j) (nodes h) ↔ (j < entries_of p h)
numbered h = by-newest (λ (l : List Kept). (p j : ℕ) → Memᴰ (node_at p j) (nodes l) ↔ (j < entries_of p l)) none-numbered more-numbered h

-- a source is the start mark or a node of the history
abbrev pub Past : List Kept → Source → Type 0
Past h start_mark = Unit {0}
Past h (node v) = v.number < entries_of v.process h

past_more : (h : List Kept) (k : Kept) (s : Source) → Past h s → Past (h ++ k ∷ []) s
past_more h k start_mark x = tt
past_more h k (node v) x = go (counted v.process h k)
  where
    go : Counted v.process h k → v.number < entries_of v.process (h ++ k ∷ [])
    go (inl c) = omega (arith, x, c.1)
    go (inr c) = omega (arith, x, c.1)

past-new : (h : List Kept) (k : Kept) → Past (h ++ k ∷ []) (node (node_of h k))
past-new h k = go (counted k.identifier h k)
  where
    go : Counted k.identifier h k → entries_of k.identifier h < entries_of k.identifier (h ++ k ∷ [])
    go (inl c) = omega (arith, c.1)
    go (inr c) = absurd (c.0 refl)

abbrev pub edge_to : Source → ℕ → Node → Bool → Edge
edge_to s r v w = record { source = s; resource = r; target = v; write = w }

module _ (program : List Block) where
  edges-append : (e u v : List Kept) → edges_from program e (u ++ v) ≡ edges_from program e u ++ edges_from program (e ++ u) v
  unfolding edges_from
  edges-append e [] v = ap (λ (l : List Kept). edges_from program l v) (sym (append-nil e))
  edges-append e (k ∷ u) v =
      ap (λ (l : List Edge). edges_of program e k ++ l)
      (edges-append (e ++ k ∷ []) u v
      ∙ ap (λ (l : List Kept). edges_from program (e ++ k ∷ []) u ++ edges_from program l v) (append_assoc e (k ∷ []) u))
      ∙ sym (append_assoc (edges_of program e k) (edges_from program (e ++ k ∷ []) u) (edges_from program (e ++ k ∷ u) v))

  edges_more : (h : List Kept) (k : Kept) → edges program (h ++ k ∷ []) ≡ edges program h ++ edges_of program h k
  unfolding edges edges_from
  edges_more h k = edges-append [] h (k ∷ []) ∙ ap (λ (l : List Edge). edges_from program [] h ++ l) (append-nil (edges_of program h k))

  -- the edges of one more kept step
  abbrev pub New : List Kept → Kept → Source → ℕ → Node → Bool → Type 0
  New h k s r v w = (v ≡ node_of h k) × (r < resources) × (reads program k r ≡ true) × (w ≡ writes program k r) × (s ≡ last_writer program h r)

  pub edge_more :
      (h : List Kept) (k : Kept) (s : Source) (r : ℕ) (v : Node) (w : Bool) →
      Memᴰ (edge_to s r v w) (edges program (h ++ k ∷ [])) ↔ (Memᴰ (edge_to s r v w) (edges program h) ⊎ New h k s r v w)
  edge_more h k s r v w = (
    (λ m. go (Memᴰ.append_cases (edges program h) (subst (Memᴰ (edge_to s r v w)) (edges_more h k) m))),
    (λ x. subst (Memᴰ (edge_to s r v w)) (sym (edges_more h k)) (back x)),
  )
    where
      new : (q : ℕ) × Memᴰ q (up_from 0 resources) × (reads program k q ≡ true) × (edge_to s r v w ≡ edge_of program h k q) → New h k s r v w
      new x =
          let q : r ≡ x.0 = ap (λ (e : Edge). e.resource) x.3 in
          let l = listed-up program resources 0 x.0 x.1 in (
            ap (λ (e : Edge). e.target) x.3,
            omega (arith, l, q),
            subst (λ (z : ℕ). reads program k z ≡ true) (sym q) x.2,
            ap (λ (e : Edge). e.write) x.3 ∙ ap (writes program k) (sym q),
            ap (λ (e : Edge). e.source) x.3 ∙ ap (last_writer program h) (sym q),
          )

      go :
          Memᴰ (edge_to s r v w) (edges program h) ⊎ Memᴰ (edge_to s r v w) (edges_of program h k) →
          Memᴰ (edge_to s r v w) (edges program h) ⊎ New h k s r v w
      go (inl m) = inl m
      go (inr m) = inr (new (listed-for program h k (up_from 0 resources) (edge_to s r v w) m))

      back :
          Memᴰ (edge_to s r v w) (edges program h) ⊎ New h k s r v w →
          Memᴰ (edge_to s r v w) (edges program h ++ edges_of program h k)
      back (inl m) = Memᴰ.append_left _ m
      back (inr x) =
          let same : edge_of program h k r ≡ edge_to s r v w =
          λ i. record { source = sym x.4 i; resource = r; target = sym x.0 i; write = sym x.3 i } in
          let l = x.1 in
          Memᴰ.append_right (edges program h)
          (subst (λ (e : Edge). Memᴰ e (edges_of program h k)) same
          (for_listed program h k (up_from 0 resources) r (up-listed program resources 0 r (omega arith) (omega (arith, l))) x.2))

  -- ---- edges are between nodes, for the 33 resources
  last_none : (r : ℕ) → last_writer program [] r ≡ start_mark
  unfolding last_writer last_from
  last_none r = refl

  pub none-edged : (e : Edge) → Memᴰ e (edges program []) → ⊥
  unfolding edges edges_from
  none-edged e m = Memᴰ.not-nil m

  last-new : (h : List Kept) (k : Kept) (r : ℕ) → writes program k r ≡ true → last_writer program (h ++ k ∷ []) r ≡ node (node_of h k)
  last-new h k r w = last_more program h k r ∙ pick_true (writes program k r) (node (node_of h k)) (last_writer program h r) w

  last-old : (h : List Kept) (k : Kept) (r : ℕ) → writes program k r ≡ false → last_writer program (h ++ k ∷ []) r ≡ last_writer program h r
  last-old h k r w = last_more program h k r ∙ pick-false (writes program k r) (node (node_of h k)) (last_writer program h r) w

  pub last-past : (h : List Kept) (r : ℕ) → Past h (last_writer program h r)
  last-past h r = by-newest (λ (l : List Kept). Past l (last_writer program l r)) (subst (Past []) (sym (last_none r)) tt) more h
    where
      more : (h : List Kept) (k : Kept) → Past h (last_writer program h r) → Past (h ++ k ∷ []) (last_writer program (h ++ k ∷ []) r)
      more h k ih = go (bool_cases (writes program k r))
        where
          go : (writes program k r ≡ true) ⊎ (writes program k r ≡ false) → Past (h ++ k ∷ []) (last_writer program (h ++ k ∷ []) r)
          go (inl w) = subst (Past (h ++ k ∷ [])) (sym (last-new h k r w)) (past-new h k)
          go (inr w) = subst (Past (h ++ k ∷ [])) (sym (last-old h k r w)) (past_more h k (last_writer program h r) ih)

  pub record Sited (h : List Kept) (s : Source) (r : ℕ) (v : Node) : Type 0 where
    pub from : Past h s
    pub onto : Past h (node v)
    pub bound : r < resources

  pub sited : (h : List Kept) (s : Source) (r : ℕ) (v : Node) (w : Bool) → Memᴰ (edge_to s r v w) (edges program h) → Sited h s r v
  sited h s r v w =
      by-newest (λ (l : List Kept). Memᴰ (edge_to s r v w) (edges program l) → Sited l s r v) (λ m. absurd (none-edged (edge_to s r v w) m)) more h
    where
      more :
          (h : List Kept) (k : Kept) → (Memᴰ (edge_to s r v w) (edges program h) → Sited h s r v) →
          Memᴰ (edge_to s r v w) (edges program (h ++ k ∷ [])) → Sited (h ++ k ∷ []) s r v
      more h k ih m = go ((edge_more h k s r v w).0 m)
        where
          go : Memᴰ (edge_to s r v w) (edges program h) ⊎ New h k s r v w → Sited (h ++ k ∷ []) s r v
          go (inl m') =
              let x = ih m' in
              record { from = past_more h k s x.from; onto = past_more h k (node v) x.onto; bound = x.bound }
          go (inr x) =
              record {
                from = past_more h k s (subst (Past h) (sym x.4) (last-past h r));
                onto = subst (λ (u : Node). Past (h ++ k ∷ []) (node u)) (sym x.0) (past-new h k);
                bound = x.1;
              }

  abbrev pub graph : List Kept → Annotation
  graph h = annotation_of program h

  pub whole : (h : List Kept) → Whole (graph h)
  whole h =
      record {
        sources = λ v r w e. (numbered h v.process v.number).1 (place (node v) r w e).from;
        targets = λ s r w e. (numbered h w.process w.number).1 (place s r w e).onto;
      }
    where
      place : (s : Source) (r : ℕ) (v : Node) → AnyEdge (graph h) s r v → Sited h s r v
      place s r v (inl m) = sited h s r v false m
      place s r v (inr m) = sited h s r v true m

  -- ---- the last writer is the last node of the write edges, and no other is
  new-write :
      (h : List Kept) (k : Kept) (r : ℕ) → r < resources → writes program k r ≡ true →
      (graph (h ++ k ∷ [])).write_edge (last_writer program h r) r (node_of h k)
  unfolding reads writes
  new-write h k r lt w =
      (edge_more h k (last_writer program h r) r (node_of h k) true).1 (inr (refl, lt, written_read (block_of program k.block) r w, sym w, refl))

  old_write :
      (h : List Kept) (k : Kept) (r : ℕ) → writes program k r ≡ false → (s : Source) (v : Node) →
      (graph h).write_edge s r v ↔ (graph (h ++ k ∷ [])).write_edge s r v
  old_write h k r n s v = ((λ m. (edge_more h k s r v true).1 (inl m)), (λ m. go ((edge_more h k s r v true).0 m)))
    where
      go : (graph h).write_edge s r v ⊎ New h k s r v true → (graph h).write_edge s r v
      go (inl m) = m
      go (inr x) = absurd (true_false (sym x.3) n)

  -- no edge leaves a new node
  none-from_new : (h : List Kept) (k : Kept) (r : ℕ) (v : Node) → (graph (h ++ k ∷ [])).write_edge (node (node_of h k)) r v → ⊥
  none-from_new h k r v m = go ((edge_more h k (node (node_of h k)) r v true).0 m)
    where
      go : (graph h).write_edge (node (node_of h k)) r v ⊎ New h k (node (node_of h k)) r v true → ⊥
      go (inl m') = let l = (sited h (node (node_of h k)) r v true m').from in omega (arith, l)
      go (inr x) = let l : Past h (node (node_of h k)) = subst (Past h) (sym x.4) (last-past h r) in omega (arith, l)

  pub record Ends (r : ℕ) (h : List Kept) : Type 0 where
    pub is : Last (graph h) r (last_writer program h r)
    pub only : (t : Source) → Last (graph h) r t → t ≡ last_writer program h r

  none-ends : (r : ℕ) → Ends r []
  none-ends r =
      record {
        is = subst (Last (graph []) r) (sym (last_none r)) (unwritten (λ s v e. none-edged (edge_to s r v true) e));
        only = λ t l. go t l;
      }
    where
      go : (t : Source) → Last (graph []) r t → t ≡ last_writer program [] r
      go t (unwritten n) = sym (last_none r)
      go t (written {s} {v} e n) = absurd (none-edged (edge_to s r v true) e)

  old_ends : (r : ℕ) (h : List Kept) (k : Kept) → writes program k r ≡ false → Ends r h → Ends r (h ++ k ∷ [])
  old_ends r h k n E =
      let same = old_write h k r n in
      record {
        is = subst (Last (graph (h ++ k ∷ [])) r) (sym (last-old h k r n))
            (last-same (graph h) (graph (h ++ k ∷ [])) r same (last_writer program h r) E.is);
        only = λ t l. E.only t (last-same (graph (h ++ k ∷ [])) (graph h) r (λ s v. iff_turn (same s v)) t l) ∙ sym (last-old h k r n);
      }

  new-ends : (r : ℕ) → r < resources → (h : List Kept) (k : Kept) → writes program k r ≡ true → Ends r h → Ends r (h ++ k ∷ [])
  new-ends r lt h k w E =
      record {
        is = subst (Last (graph H) r) (sym (last-new h k r w)) (written (new-write h k r lt w) (λ v e. none-from_new h k r v e));
        only = λ t l. go t l ∙ sym (last-new h k r w);
      }
    where
      H : List Kept
      H = h ++ k ∷ []

      at : (s : Source) (v : Node) → ((u : Node) → (graph (h ++ k ∷ [])).write_edge (node v) r u → ⊥) →
          (graph h).write_edge s r v ⊎ New h k s r v true → node v ≡ node (node_of h k)
      at s v n (inl m) =
          let l : Last (graph h) r (node v) = written m (λ u x. n u ((edge_more h k (node v) r u true).1 (inl x))) in
          let q : node v ≡ last_writer program h r = E.only (node v) l in
          absurd (n (node_of h k) (subst (λ (z : Source). (graph (h ++ k ∷ [])).write_edge z r (node_of h k)) (sym q) (new-write h k r lt w)))
      at s v n (inr x) = ap node x.0

      go : (t : Source) → Last (graph (h ++ k ∷ [])) r t → t ≡ node (node_of h k)
      go t (unwritten n) = absurd (n (last_writer program h r) (node_of h k) (new-write h k r lt w))
      go t (written {s} {v} e n) = at s v n ((edge_more h k s r v true).0 e)

  pub ends : (r : ℕ) → r < resources → (h : List Kept) → Ends r h
  ends r lt = by-newest (Ends r) (none-ends r) (λ h k E. go h k E (bool_cases (writes program k r)))
    where
      go : (h : List Kept) (k : Kept) → Ends r h → (writes program k r ≡ true) ⊎ (writes program k r ≡ false) → Ends r (h ++ k ∷ [])
      go h k E (inl w) = new-ends r lt h k w E
      go h k E (inr n) = old_ends r h k n E

  -- ---- one more kept step extends the annotation
  module _ (S : Sound program) where
    pub keep-extends :
        (h : List Kept) (p b : ℕ) →
        Extends (graph h) p (block_reads (block_of program b)) (block_writes (block_of program b)) (graph (h ++ step_of p b ∷ []))
    unfolding reads writes
    keep-extends h p b =
        record {
          number = entries_of p h;
          newest = λ k. numbered h p k;
          vertices = λ v. node-more h (step_of p b) v;
          reads = λ s r v. iff_chain (edge_more h (step_of p b) s r v false)
              (iff_either ((λ x. x), (λ x. x)) (
                (λ x. (x.0, x.2, sym x.3, subst (Last (graph h) r) (sym x.4) (ends r x.1 h).is)),
                (λ x. let lt = near program S b r x.1 in (x.0, lt, x.1, sym x.2, (ends r lt h).only s x.3)),
              ));
          writes = λ s r v. iff_chain (edge_more h (step_of p b) s r v true)
              (iff_either ((λ x. x), (λ x. x)) (
                (λ x. (x.0, sym x.3, subst (Last (graph h) r) (sym x.4) (ends r x.1 h).is)),
                (λ x. let rd = written_read (block_of program b) r x.1 in
                    let lt = near program S b r rd in
                    (x.0, lt, rd, sym x.1, (ends r lt h).only s x.2)),
              ));
        }
