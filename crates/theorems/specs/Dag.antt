-- The cause graph of any history is an annotation DAG of 004's: all five conditions of definition 1. Step by step: one more kept step
-- adds a node, with edges from the last writers to it, and no edge leaves it yet. Assumes nothing.
use Rattle.std.specs.Prelude.{◌≡◌, ◌⊎◌, Bool, true, false, ℕ, ◌≤◌}
use Rattle.std.proofs.Common.{sym, ◌∙◌, subst, inl, inr, arith}
use mathlib.Core.List.{List, [], ◌∷◌, ◌++◌, Memᴰ}
use Rattle.theory.specs.Tests.{true_false}
use Rattle.rules.specs.Machine.{Kept}
use Rattle.rules.specs.Cause.{Node, Source, start_mark, node, node_of, last_writer, nodes, edges}
use Rattle.rules.specs.Annotation.{Annotation, AnyEdge, node_at, Chain, edge, onward, IsDag, Last, unwritten, written, annotation_of}
use Rattle.rules.specs.declared.Block.{Block}
use Rattle.theorems.specs.Graphs.{node-inj, not_mark}
use Rattle.theorems.specs.PaperGraph.{by-newest, numbered, Past, edge_to, New, edge_more, none-edged, last-past, sited, whole, ends}

-- ---- the last node of the write edges
module _ (A : Annotation) (r : ℕ) where
  -- no write edge leaves it
  none_after : (t : Source) (v : Node) → Last A r t → A.write_edge t r v → ⊥
  none_after t v (unwritten n) e = n start_mark v e
  none_after t v (written m n) e = n v e

  -- a write edge comes to it, if it is a node
  leads_to : (t : Source) (u : Node) → Last A r t → t ≡ node u → (s : Source) × A.write_edge s r u
  leads_to t u (unwritten n) q = absurd (not_mark u q)
  leads_to t u (written {s} {v} e n) q = (s, subst (λ (z : Node). A.write_edge s r z) (node-inj v u q) e)

module _ (program : List Block) where
  abbrev graph : List Kept → Annotation
  graph h = annotation_of program h

  abbrev Edged : List Kept → Source → ℕ → Node → Bool → Type 0
  Edged h s r v w = Memᴰ (edge_to s r v w) (edges program h)

  -- an edge of either kind, and back
  any : (h : List Kept) (s : Source) (r : ℕ) (v : Node) (w : Bool) → Edged h s r v w → AnyEdge (graph h) s r v
  any h s r v false m = inl m
  any h s r v true m = inr m

  of_any : {B : Type 0} (h : List Kept) (s : Source) (r : ℕ) (v : Node) → ((w : Bool) → Edged h s r v w → B) → AnyEdge (graph h) s r v → B
  of_any h s r v f (inl m) = f false m
  of_any h s r v f (inr m) = f true m

  -- a chain comes from a node of the history
  chain-past : (h : List Kept) (u v : Node) → Chain (graph h) u v → Past h (node u)
  chain-past h u v (edge r e) = of_any h (node u) r v (λ w m. (sited program h (node u) r v w m).from) e
  chain-past h u v (onward {v = w} c d) = chain-past h u w c

  -- a process's nodes are numbered without gaps
  counted-down : (h : List Kept) (p n k : ℕ) → (graph h).vertex (node_at p n) → k ≤ n → (graph h).vertex (node_at p k)
  counted-down h p n k m le = let lt = (numbered h p n).0 m in (numbered h p k).1 (omega (arith, lt, le))

  -- ---- no step kept
  none-dag : IsDag (graph [])
  none-dag =
      record {
        numbered = counted-down [];
        between = whole program [];
        one_source = λ s t r v e f. of_any [] s r v (λ w m. absurd (none-edged program (edge_to s r v w) m)) e;
        apart = λ s r v e f. none-edged program (edge_to s r v false) e;
        acyclic = λ v c. no_chain v v c;
        finite = (nodes [], λ v m. m);
        written = λ u v r e. absurd (none-edged program (edge_to (node u) r v true) e);
        one_writer = λ s r v w e f. absurd (none-edged program (edge_to s r v true) e);
      }
    where
      no_chain : (u v : Node) → Chain (graph []) u v → ⊥
      no_chain u v (edge r e) = of_any [] (node u) r v (λ w m. none-edged program (edge_to (node u) r v w) m) e
      no_chain u v (onward {v = w} c d) = no_chain u w c

  -- ---- one more step kept
  module _ (h : List Kept) (k : Kept) (D : IsDag (graph h)) where
    abbrev more : List Kept
    more = h ++ k ∷ []

    abbrev new : Node
    new = node_of h k

    -- an edge is the history's, or one of the new node's
    split : (s : Source) (r : ℕ) (v : Node) (w : Bool) → Edged more s r v w → Edged h s r v w ⊎ New program h k s r v w
    split s r v w m = (edge_more program h k s r v w).0 m

    not_past : {B : Type 0} (v : Node) → v ≡ new → Past h (node v) → B
    not_past v e l =
        let x : Past h (node new) = subst (λ (z : Node). Past h (node z)) e l in
        absurd (omega (arith, x))

    -- no edge of the history comes to the new node
    not_into : {B : Type 0} (s : Source) (r : ℕ) (v : Node) (w : Bool) → v ≡ new → Edged h s r v w → B
    not_into s r v w e m = not_past v e (sited program h s r v w m).onto

    one_source : (s t : Source) (r : ℕ) (v : Node) (w x : Bool) → Edged more s r v w → Edged more t r v x → s ≡ t
    one_source s t r v w x m n = go (split s r v w m) (split t r v x n)
      where
        go : Edged h s r v w ⊎ New program h k s r v w → Edged h t r v x ⊎ New program h k t r v x → s ≡ t
        go (inl a) (inl b) = D.one_source s t r v (any h s r v w a) (any h t r v x b)
        go (inl a) (inr y) = not_into s r v w y.0 a
        go (inr y) (inl b) = not_into t r v x y.0 b
        go (inr y) (inr z) = y.4 ∙ sym z.4

    apart : (s : Source) (r : ℕ) (v : Node) → Edged more s r v false → Edged more s r v true → ⊥
    apart s r v m n = go (split s r v false m) (split s r v true n)
      where
        go : Edged h s r v false ⊎ New program h k s r v false → Edged h s r v true ⊎ New program h k s r v true → ⊥
        go (inl a) (inl b) = D.apart s r v a b
        go (inl a) (inr y) = not_into s r v false y.0 a
        go (inr y) (inl b) = not_into s r v true y.0 b
        go (inr y) (inr z) = true_false (sym z.3) (sym y.3)

    -- a chain is the history's, or goes from the history to the new node
    abbrev Before : Node → Node → Type 0
    Before u v = Chain (graph h) u v ⊎ (Past h (node u) × (v ≡ new))

    before : (u v : Node) → Chain (graph more) u v → Before u v
    before u v (edge r e) = of_any more (node u) r v (λ w m. go w (split (node u) r v w m)) e
      where
        go : (w : Bool) → Edged h (node u) r v w ⊎ New program h k (node u) r v w → Before u v
        go w (inl a) = inl (edge r (any h (node u) r v w a))
        go w (inr y) = inr (subst (Past h) (sym y.4) (last-past program h r), y.0)
    before u v (onward {v = w} c d) = go (before u w c) (before w v d)
      where
        go : Before u w → Before w v → Before u v
        go (inl a) (inl b) = inl (onward a b)
        go (inl a) (inr y) = inr (chain-past h u w a, y.1)
        go (inr y) (inl b) = not_past w y.1 (chain-past h w v b)
        go (inr y) (inr z) = not_past w y.1 z.0

    acyclic : (v : Node) → Chain (graph more) v v → ⊥
    acyclic v c = go (before v v c)
      where
        go : Before v v → ⊥
        go (inl a) = D.acyclic v a
        go (inr y) = not_past v y.1 y.0

    written-before : (u v : Node) (r : ℕ) → Edged more (node u) r v true → (s : Source) × Edged more s r u true
    written-before u v r m = kept (go (split (node u) r v true m))
      where
        go : Edged h (node u) r v true ⊎ New program h k (node u) r v true → (s : Source) × Edged h s r u true
        go (inl a) = D.written u v r a
        go (inr y) = leads_to (graph h) r (last_writer program h r) u (ends program r y.1 h).is (sym y.4)

        kept : (s : Source) × Edged h s r u true → (s : Source) × Edged more s r u true
        kept x = (x.0, (edge_more program h k x.0 r u true).1 (inl x.1))

    one_writer : (s : Source) (r : ℕ) (v w : Node) → Edged more s r v true → Edged more s r w true → v ≡ w
    one_writer s r v w m n = go (split s r v true m) (split s r w true n)
      where
        -- the last writer had no write edge yet
        first : {B : Type 0} (x y : Node) → Edged h s r x true → New program h k s r y true → B
        first x y a z =
            absurd (none_after (graph h) r (last_writer program h r) x (ends program r z.1 h).is
            (subst (λ (t : Source). Edged h t r x true) z.4 a))

        go : Edged h s r v true ⊎ New program h k s r v true → Edged h s r w true ⊎ New program h k s r w true → v ≡ w
        go (inl a) (inl b) = D.one_writer s r v w a b
        go (inl a) (inr y) = first v w a y
        go (inr y) (inl b) = first w v b y
        go (inr y) (inr z) = y.0 ∙ sym z.0

    more-dag : IsDag (graph more)
    more-dag =
        record {
          numbered = counted-down more;
          between = whole program more;
          one_source = λ s t r v e f. of_any more s r v (λ w m. of_any more t r v (λ x n. one_source s t r v w x m n) f) e;
          apart = apart;
          acyclic = acyclic;
          finite = (nodes more, λ v m. m);
          written = written-before;
          one_writer = one_writer;
        }

  -- The cause graph of any history, of any program, is an annotation DAG.
  pub history-is_dag : (history : List Kept) → IsDag (annotation_of program history)
  history-is_dag history = by-newest (λ (h : List Kept). IsDag (graph h)) none-dag more-dag history
