-- 004's step back on the annotation of a history: where it has one, the graph does not hold the newest step of the process, and the
-- annotation before is that of the history with the step closed up; and the other way. Assumes, where it says so, that the image is sound.
use Rattle.std.specs.Prelude.{◌≡◌, ◌⊎◌, ◌↔◌, Bool, ◌&&◌, ℕ, suc, ◌+◌, ◌-◌, ◌<◌}
use Rattle.std.proofs.Math.Path.{refl, ap}
use Rattle.std.proofs.Common.{sym, ◌∙◌, subst, inl, inr, arith, eqb-true}
use Rattle.std.proofs.Math.Bool.{true, false, not}
use Rattle.std.proofs.Math.Option.{Option, none, some}
use mathlib.Core.List.{List, [], ◌∷◌, ◌++◌, append_assoc, Memᴰ}
use Rattle.std.proofs.Math.Decide.{ℕ_discrete}
use Rattle.std.proofs.Math.Dec.{eqb}
use Rattle.theory.specs.Cause.{Origin, fresh}
use Rattle.theory.specs.Cause
use Rattle.theory.specs.Histories.{Apart}
use Rattle.theory.specs.Moving.{same-moved}
use Rattle.theory.specs.Tests.{true_false, eqb_same, and-true, true_and, not_true, or-false, some_inj}
use Rattle.rules.specs.Base.{pick, some_of, those}
use Rattle.rules.specs.Names.{block_reads, block_writes}
use Rattle.rules.specs.Labels.{block_of}
use Rattle.rules.specs.Machine.{Kept}
use Rattle.rules.specs.Fits.{newest, or_else}
use Rattle.rules.specs.Cause.{Node, Source, node, Edge, entries_of, last_writer, nodes_from, edges_from, nodes, edges, same_node, same_source, is_newest, none_leaves, is_read_of, reads_last, may_go_back, newest_node, holds}
use Rattle.rules.specs.Annotation.{Annotation, node_at, Whole, Last, unwritten, written, Extends}
use Rattle.rules.specs.Step.{close_up}
use Rattle.rules.specs.declared.Block.{Block}
use Rattle.laws.proofs.Ascending.{close_at}
use Rattle.laws.proofs.Lists.{pick_true, pick-false}
use Rattle.theorems.specs.Graphs.{node-inj, not_mark, feet_of, shows-none, node-listed, listed-node, edge-listed, listed-edge}
use Rattle.theorems.specs.Held.{NoneOf, held, held_none, apart-all, mem-each, those-mem, unread, same_source_is, source-same}
use Rattle.theorems.specs.Program.{Sound}
use Rattle.theorems.specs.Forward.{step_of}
use Rattle.theorems.specs.Reached.{newest-of}
use Rattle.theorems.specs.PaperShown.{Alike}
use Rattle.theorems.specs.PaperSets.{alike_self, alike-turn, extends-alike, one-before, last-same}
use Rattle.theorems.specs.PaperGraph.{graph, edge_to, numbered, whole, sited, ends, keep-extends}

module _ (program : List Block) where
  -- ---- one graph program in the theory's sense is one annotation
  same_alike : (h h' : List Kept) → Cause.SameGraph (feet_of program) fresh h h' → Alike (graph program h) (graph program h')
  unfolding nodes edges
  same_alike h h' g =
      record {
        vertex = λ v. (at-node h h' (λ p k. (g.nodes p k).0) v, at-node h' h (λ p k. (g.nodes p k).1) v);
        read_edge = λ s r v.
            (at_edge h h' (λ p k r w o. (g.edges p k r w o).0) s r v false, at_edge h' h (λ p k r w o. (g.edges p k r w o).1) s r v false);
        write_edge = λ s r v.
            (at_edge h h' (λ p k r w o. (g.edges p k r w o).0) s r v true, at_edge h' h (λ p k r w o. (g.edges p k r w o).1) s r v true);
      }
    where
      at-node :
          (h h' : List Kept) → ((p k : ℕ) → Cause.Node (feet_of program) fresh h p k → Cause.Node (feet_of program) fresh h' p k) → (v : Node) →
          Memᴰ v (nodes_from [] h) → Memᴰ v (nodes_from [] h')
      at-node h h' to v m =
          node-listed program fresh [] h' v.process v.number (shows-none program)
          (to v.process v.number (listed-node program fresh [] h v (shows-none program) m))

      at_edge :
          (h h' : List Kept) →
          ((p k r : ℕ) (w : Bool) (o : Origin) → Cause.Edge (feet_of program) fresh h p k r w o → Cause.Edge (feet_of program) fresh h' p k r w o) →
          (s : Source) (r : ℕ) (v : Node) (w : Bool) → Memᴰ (edge_to s r v w) (edges_from program [] h) →
          Memᴰ (edge_to s r v w) (edges_from program [] h')
      at_edge h h' to s r v w m =
          let x = listed-edge program fresh [] h (edge_to s r v w) (shows-none program) m in
          subst (λ (z : Source). Memᴰ (edge_to z r v w) (edges_from program [] h')) x.1
          (edge-listed program fresh [] h' v.process v.number r w x.0 (shows-none program) (to v.process v.number r w x.0 x.2))

  -- ---- the newest step of a process
  newest-none : (p : ℕ) (h : List Kept) → NoneOf p h → newest h p ≡ none
  unfolding newest some_of
  newest-none p [] n = refl
  newest-none p (k ∷ h) n =
      let x = or-false (eqb k.identifier p) (some_of (λ j. eqb j.identifier p) h) n in
      ap (λ (o : Option ℕ). or_else o (pick (eqb k.identifier p) (some k.block) none)) (newest-none p h x.1)
      ∙ pick-false (eqb k.identifier p) (some k.block) none x.0

  newest-at : (p : ℕ) (u : List Kept) (k : Kept) (w : List Kept) → k.identifier ≡ p → NoneOf p w → newest (u ++ k ∷ w) p ≡ some k.block
  unfolding newest
  newest-at p [] k w o n =
      ap (λ (q : Option ℕ). or_else q (pick (eqb k.identifier p) (some k.block) none)) (newest-none p w n)
      ∙ pick_true (eqb k.identifier p) (some k.block) none (eqb_same k.identifier p o)
  newest-at p (j ∷ u) k w o n =
      ap (λ (q : Option ℕ). or_else q (pick (eqb j.identifier p) (some j.block) none)) (newest-at p u k w o n)

  module _ (S : Sound program) (h : List Kept) (p b : ℕ) (last-kept : newest h p ≡ some b) where
    abbrev rd : ℕ → Bool
    rd = block_reads (block_of program b)

    abbrev wr : ℕ → Bool
    wr = block_writes (block_of program b)

    -- where the graph program does not hold it, the history without it is extended to the history by it
    pub close_extends : holds program h p ≡ false → Extends (graph program (close_up h p)) p rd wr (graph program h)
    close_extends free =
        let n = newest-of p h (λ e. true_false (held_none program h p e) free) in
        let u = n.before in
        let k = n.step in
        let w = n.later in
        let last : NoneOf k.identifier w = subst (λ (q : ℕ). NoneOf q w) (sym n.own) n.last in
        let free' : holds program (u ++ k ∷ w) k.identifier ≡ false =
        subst (λ (l : List Kept). holds program l k.identifier ≡ false) n.whole
        (subst (λ (q : ℕ). holds program h q ≡ false) (sym n.own) free) in
        let a : Apart (feet_of program) k w = apart-all program k w last (sym (held program u k w last) ∙ free') in
        let block : k.block ≡ b =
        some_inj k.block b (sym (newest-at p u k w n.own n.last) ∙ ap (λ (l : List Kept). newest l p) (sym n.whole) ∙ last-kept) in
        let is : k ≡ step_of p b = λ i. record { identifier = n.own i; block = block i } in
        let c : u ++ w ≡ close_up h p = sym (ap (λ (l : List Kept). close_up l p) n.whole ∙ close_at p u k w n.own n.last) in
        let same : Alike (graph program (u ++ (w ++ k ∷ []))) (graph program h) =
        alike-turn (graph program h) (graph program (u ++ (w ++ k ∷ [])))
        (subst (λ (l : List Kept). Alike (graph program l) (graph program (u ++ (w ++ k ∷ [])))) (sym n.whole)
        (same_alike (u ++ k ∷ w) (u ++ (w ++ k ∷ [])) (same-moved (feet_of program) fresh u k w a))) in
        let e : (u ++ w) ++ step_of p b ∷ [] ≡ u ++ (w ++ k ∷ []) =
        ap (λ (j : Kept). (u ++ w) ++ j ∷ []) (sym is) ∙ append_assoc u w (k ∷ []) in
        let x : Extends (graph program (u ++ w)) p rd wr (graph program (u ++ (w ++ k ∷ []))) =
        subst (λ (l : List Kept). Extends (graph program (u ++ w)) p rd wr (graph program l)) e (keep-extends program S (u ++ w) p b) in
        extends-alike (graph program (u ++ w)) (graph program (close_up h p)) (graph program (u ++ (w ++ k ∷ []))) (graph program h) p rd wr
        (subst (λ (l : List Kept). Alike (graph program (u ++ w)) (graph program l)) c (alike_self (graph program (u ++ w)))) same x

  -- ---- what extends to the history by a step of p: the graph program does not hold p's newest step
  module _ (h : List Kept) (p : ℕ) (rd wr : ℕ → Bool) (A : Annotation) (W : Whole A) (E : Extends A p rd wr (graph program h)) where
    one-over : entries_of p h ≡ suc E.number
    one-over = go (ℕ_discrete (entries_of p h) (suc E.number))
      where
        up : E.number < entries_of p h
        up = (numbered h p E.number).0 ((E.vertices (node_at p E.number)).1 (inr refl))

        there : A.vertex (node_at p (suc E.number)) ⊎ (node_at p (suc E.number) ≡ node_at p E.number) → ⊥
        there (inl a) = let l = (E.newest (suc E.number)).0 a in omega (arith, l)
        there (inr e) = let q : suc E.number ≡ E.number = ap (λ (v : Node). v.number) e in omega (arith, q)

        go : Dec (entries_of p h ≡ suc E.number) → entries_of p h ≡ suc E.number
        go (yes e) = e
        go (no n) =
            absurd (there ((E.vertices (node_at p (suc E.number))).0 ((numbered h p (suc E.number)).1 (omega (arith, up, n)))))

    is-new : newest_node h p ≡ node_at p E.number
    is-new =
        let q = one-over in
        let z : entries_of p h - 1 ≡ E.number = omega (arith, q) in
        λ i. record { process = p; number = z i }

    absent : A.vertex (node_at p E.number) → ⊥
    absent a = let l = (E.newest E.number).0 a in omega (arith, l)

    not_last : (r : ℕ) (t : Source) → Last A r t → t ≡ node (node_at p E.number) → ⊥
    not_last r t (unwritten n) q = not_mark (node_at p E.number) q
    not_last r t (written {s} {v} e n) q =
        absent (subst A.vertex (node-inj v (node_at p E.number) q) (W.targets s r v (inr e)))

    none-leaves : (s : Source) (r : ℕ) (v : Node) (w : Bool) → Memᴰ (edge_to s r v w) (edges program h) → s ≡ node (node_at p E.number) → ⊥
    none-leaves s r v false m q = go ((E.reads s r v).0 m)
      where
        go : A.read_edge s r v ⊎ ((v ≡ node_at p E.number) × (rd r ≡ true) × (wr r ≡ false) × Last A r s) → ⊥
        go (inl a) = absent (W.sources (node_at p E.number) r v (inl (subst (λ (t : Source). A.read_edge t r v) q a)))
        go (inr x) = not_last r s x.3 q
    none-leaves s r v true m q = go ((E.writes s r v).0 m)
      where
        go : A.write_edge s r v ⊎ ((v ≡ node_at p E.number) × (wr r ≡ true) × Last A r s) → ⊥
        go (inl a) = absent (W.sources (node_at p E.number) r v (inr (subst (λ (t : Source). A.write_edge t r v) q a)))
        go (inr x) = not_last r s x.2 q

    reads-last : (s : Source) (r : ℕ) → (graph program h).read_edge s r (node_at p E.number) → s ≡ last_writer program h r
    reads-last s r m = go ((E.reads s r (node_at p E.number)).0 m)
      where
        same : wr r ≡ false → (s : Source) (v : Node) → A.write_edge s r v ↔ (graph program h).write_edge s r v
        same n s v = ((λ a. (E.writes s r v).1 (inl a)), (λ m. back ((E.writes s r v).0 m)))
          where
            back : A.write_edge s r v ⊎ ((v ≡ node_at p E.number) × (wr r ≡ true) × Last A r s) → A.write_edge s r v
            back (inl a) = a
            back (inr x) = absurd (true_false x.1 n)

        go :
            A.read_edge s r (node_at p E.number) ⊎ ((node_at p E.number ≡ node_at p E.number) × (rd r ≡ true) × (wr r ≡ false) × Last A r s) →
            s ≡ last_writer program h r
        go (inl a) = absurd (absent (W.targets s r (node_at p E.number) (inl a)))
        go (inr x) =
            let lt = (sited program h s r (node_at p E.number) false m).bound in
            (ends program r lt h).only s (last-same A (graph program h) r (same x.2) s x.3)

    abbrev new_node : Node
    new_node = node_at p E.number

    may_go : may_go_back program h new_node ≡ true
    unfolding may_go_back is_newest none_leaves reads_last
    may_go =
        true_and (is_newest h new_node) (none_leaves program h new_node && reads_last program h new_node)
        (eqb_same (entries_of p h) (E.number + 1) (let q = one-over in omega (arith, q)))
        (true_and (none_leaves program h new_node) (reads_last program h new_node)
        (mem-each (λ e. not (same_source e.source (node new_node))) (edges program h) (λ e m. away e m))
        (mem-each (λ e. same_source e.source (last_writer program h e.resource)) (those (is_read_of new_node) (edges program h))
        (λ e m. let y = those-mem (is_read_of new_node) (edges program h) e m in latest e y.0 y.1)))
      where
        away : (e : Edge) → Memᴰ e (edges program h) → not (same_source e.source (node new_node)) ≡ true
        away e m =
            ap not (not_true (same_source e.source (node new_node))
            (λ q. none-leaves e.source e.resource e.target e.write m (same_source_is e.source (node new_node) q)))

        latest :
            (e : Edge) → Memᴰ e (edges program h) → is_read_of new_node e ≡ true →
            same_source e.source (last_writer program h e.resource) ≡ true
        latest e m is =
            let c = and-true (same_node e.target new_node) (not e.write) is in
            let d = and-true (eqb e.target.process p) (eqb e.target.number E.number) c.0 in
            let w : e.write ≡ false = unread e.write c.1 in
            let x = eqb-true e.target.process p d.0 in
            let y = eqb-true e.target.number E.number d.1 in
            let same : e ≡ edge_to e.source e.resource new_node false =
            λ i. record { source = e.source; resource = e.resource; target = record { process = x i; number = y i }; write = w i } in
            source-same e.source (last_writer program h e.resource)
            (reads-last e.source e.resource (subst (λ (z : Edge). Memᴰ z (edges program h)) same m))

    pub not_held : holds program h p ≡ false
    unfolding holds
    not_held = ap not (ap (may_go_back program h) is-new ∙ may_go)

  -- 004's step back on annotations is closing up
  pub undo-graph :
      (S : Sound program) (h : List Kept) (p b : ℕ) (A A' : Annotation) → newest h p ≡ some b → Alike A (graph program h) → Whole A' →
      Extends A' p (block_reads (block_of program b)) (block_writes (block_of program b)) A →
      (holds program h p ≡ false) × Alike A' (graph program (close_up h p))
  undo-graph S h p b A A' last L W E =
      let rd = block_reads (block_of program b) in
      let wr = block_writes (block_of program b) in
      let E' : Extends A' p rd wr (graph program h) = extends-alike A' A' A (graph program h) p rd wr (alike_self A') L E in
      let free = not_held h p rd wr A' W E' in
      let earlier = close_up h p in
      (free, one-before A' (graph program earlier) (graph program h) p rd wr E' (close_extends S h p b last free) W (whole program earlier))
