-- Two histories with one cause graph, as rules list it, have one graph in the theory's sense. Assumes that the image is sound.
use Rattle.std.specs.Prelude.{◌≡◌, Bool, cond, ℕ, suc, eqb}
use Rattle.std.proofs.Common.{sym, ◌∙◌, inl, inr}
use Rattle.std.proofs.Math.Path.{subst}
use mathlib.Core.List.{List, [], ◌∷◌, map}
use Rattle.theory.specs.Cause
use Rattle.theory.specs.Cause.{Feet, Origin, step, Base, fresh, push}
use Rattle.theory.specs.Local.{feet}
use Rattle.rules.specs.Machine.{Kept}
use Rattle.rules.specs.Cause.{SameGraph, nodes, edges}
use Rattle.rules.specs.declared.Block.{Block}
use Rattle.theorems.specs.Graphs.{feet_of, source-inj, shows-none, node_at, edge_at, node-listed, listed-node, edge-listed, listed-edge}
use Rattle.theorems.specs.Parts.{reads_of, writes_of}
use Rattle.theorems.specs.Program.{Sound, real}
use Rattle.theorems.specs.Footprints.{reads_same, writes-same}
use Rattle.theorems.specs.Forward.{entry_of}

module _ (program : List Block) where
  abbrev Φ : Feet
  Φ = feet_of program

  -- ---- from the lists
  node_over : (h h' : List Kept) (p k : ℕ) → SameGraph program h h' → Cause.Node Φ fresh h p k → Cause.Node Φ fresh h' p k
  unfolding nodes
  node_over h h' p k g x =
      listed-node program fresh [] h' (node_at program p k) (shows-none program)
      ((g.same_nodes (node_at program p k)).0 (node-listed program fresh [] h p k (shows-none program) x))

  edge-over :
      (h h' : List Kept) (p k r : ℕ) (w : Bool) (s : Origin) → SameGraph program h h' → Cause.Edge Φ fresh h p k r w s →
      Cause.Edge Φ fresh h' p k r w s
  unfolding edges
  edge-over h h' p k r w s g x =
      let y =
      listed-edge program fresh [] h' (edge_at program p k r w s) (shows-none program)
      ((g.same_edges (edge_at program p k r w s)).0 (edge-listed program fresh [] h p k r w s (shows-none program) x)) in
      subst (λ (z : Origin). Cause.Edge Φ fresh h' p k r w z) (source-inj y.0 s y.1) y.2

  turned : (h h' : List Kept) → SameGraph program h h' → SameGraph program h' h
  turned h h' g = record { same_nodes = λ n. ((g.same_nodes n).1, (g.same_nodes n).0); same_edges = λ e. ((g.same_edges e).1, (g.same_edges e).0) }

  module _ (S : Sound program) where
    abbrev Ψ : Feet
    Ψ = feet (reads_of program) (writes_of program) (real program S).written_read

    -- ---- kept steps as the theory's entries
    push-same : (G : Base) (k : Kept) → push Φ G k ≡ push Ψ G (entry_of k)
    push-same G k =
        λ i. record {
          count = λ q. cond (eqb q k.identifier) (suc (G.count q)) (G.count q);
          last = λ r. cond (writes-same program S k r i)
              (step k.identifier (G.count k.identifier)) (G.last r);
        }

    node-to : (G : Base) (h : List Kept) (p k : ℕ) → Cause.Node Φ G h p k → Cause.Node Ψ G (map entry_of h) p k
    node-to G [] p k x = x
    node-to G (j ∷ h) p k (inl x) = inl x
    node-to G (j ∷ h) p k (inr y) = inr (subst (λ (B : Base). Cause.Node Ψ B (map entry_of h) p k) (push-same G j) (node-to (push Φ G j) h p k y))

    node-from : (G : Base) (h : List Kept) (p k : ℕ) → Cause.Node Ψ G (map entry_of h) p k → Cause.Node Φ G h p k
    node-from G [] p k x = x
    node-from G (j ∷ h) p k (inl x) = inl x
    node-from G (j ∷ h) p k (inr y) =
        inr (node-from (push Φ G j) h p k (subst (λ (B : Base). Cause.Node Ψ B (map entry_of h) p k) (sym (push-same G j)) y))

    edge_to_cause : (G : Base) (h : List Kept) (p k r : ℕ) (w : Bool) (s : Origin) → Cause.Edge Φ G h p k r w s → Cause.Edge Ψ G (map entry_of h) p k r w s
    edge_to_cause G [] p k r w s x = x
    edge_to_cause G (j ∷ h) p k r w s (inl x) = inl (x.0, x.1, sym (reads_same program S j r) ∙ x.2, x.3 ∙ writes-same program S j r, x.4)
    edge_to_cause G (j ∷ h) p k r w s (inr y) =
        inr (subst (λ (B : Base). Cause.Edge Ψ B (map entry_of h) p k r w s) (push-same G j) (edge_to_cause (push Φ G j) h p k r w s y))

    edge-from : (G : Base) (h : List Kept) (p k r : ℕ) (w : Bool) (s : Origin) → Cause.Edge Ψ G (map entry_of h) p k r w s → Cause.Edge Φ G h p k r w s
    edge-from G [] p k r w s x = x
    edge-from G (j ∷ h) p k r w s (inl x) = inl (x.0, x.1, reads_same program S j r ∙ x.2, x.3 ∙ sym (writes-same program S j r), x.4)
    edge-from G (j ∷ h) p k r w s (inr y) =
        inr (edge-from (push Φ G j) h p k r w s (subst (λ (B : Base). Cause.Edge Ψ B (map entry_of h) p k r w s) (sym (push-same G j)) y))

    pub same_graph : (h h' : List Kept) → SameGraph program h h' → Cause.SameGraph Ψ fresh (map entry_of h) (map entry_of h')
    same_graph h h' g =
        record {
          nodes = λ p k. (
            (λ x. node-to fresh h' p k (node_over h h' p k g (node-from fresh h p k x))),
            (λ x. node-to fresh h p k (node_over h' h p k (turned h h' g) (node-from fresh h' p k x))),
          );
          edges = λ p k r w s. (
            (λ x. edge_to_cause fresh h' p k r w s (edge-over h h' p k r w s g (edge-from fresh h p k r w s x))),
            (λ x. edge_to_cause fresh h p k r w s (edge-over h' h p k r w s (turned h h' g) (edge-from fresh h' p k r w s x))),
          );
        }
