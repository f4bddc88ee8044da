-- Source document 004, definitions 1 to 3: the annotation DAG, how a step extends it, and the semantics that both make together.
-- Sets are predicates, and two sets are equal where each holds what the other does.
use Rattle.std.specs.Prelude.{ℕ, ◌<◌, ◌≤◌, ◌≡◌, Bool, true, false, ◌⊎◌, ◌↔◌}
use mathlib.Core.List.{List, Memᴰ}
use Rattle.rules.specs.Names.{block_reads, block_writes}
use Rattle.rules.specs.Labels.{block_of}
use Rattle.rules.specs.Machine.{Kept}
use Rattle.rules.specs.Cause.{Node, Source, start_mark, node, nodes, edges}
use Rattle.rules.specs.Paper.{Configuration, Steps}
use Rattle.rules.specs.declared.Block.{Block}

-- V without the start mark, E_R and E_W
pub record Annotation : Type 1 where
  pub vertex : Node → Type 0
  pub read_edge : Source → ℕ → Node → Type 0
  pub write_edge : Source → ℕ → Node → Type 0

abbrev pub AnyEdge : Annotation → Source → ℕ → Node → Type 0
AnyEdge A s r v = A.read_edge s r v ⊎ A.write_edge s r v

abbrev pub node_at : ℕ → ℕ → Node
node_at p n = record { process = p; number = n }

-- a chain of edges from a node to a node
pub data Chain (A : Annotation) : Node → Node → Type 0 where
  edge : {v w : Node} (r : ℕ) → AnyEdge A (node v) r w → Chain A v w
  onward : {u v w : Node} → Chain A u v → Chain A v w → Chain A u w

-- definition 1, condition 2: edges are between the annotation's own nodes (or come from the start mark)
pub record Whole (A : Annotation) : Type 0 where
  pub sources : (v : Node) (r : ℕ) (w : Node) → AnyEdge A (node v) r w → A.vertex v
  pub targets : (s : Source) (r : ℕ) (w : Node) → AnyEdge A s r w → A.vertex w

-- definition 1, its five conditions
pub record IsDag (A : Annotation) : Type 0 where
  pub numbered : (p n k : ℕ) → A.vertex (node_at p n) → k ≤ n → A.vertex (node_at p k)
  pub between : Whole A
  pub one_source : (s t : Source) (r : ℕ) (v : Node) → AnyEdge A s r v → AnyEdge A t r v → s ≡ t
  pub apart : (s : Source) (r : ℕ) (v : Node) → A.read_edge s r v → A.write_edge s r v → ⊥
  pub acyclic : (v : Node) → Chain A v v → ⊥
  pub finite : (all : List Node) × ((v : Node) → A.vertex v → Memᴰ v all)
  pub written : (u v : Node) (r : ℕ) → A.write_edge (node u) r v → (s : Source) × A.write_edge s r u
  pub one_writer : (s : Source) (r : ℕ) (v w : Node) → A.write_edge s r v → A.write_edge s r w → v ≡ w

-- last(r, E_W): the last node of the write edges of r, the start mark where there is none
pub data Last (A : Annotation) (r : ℕ) : Source → Type 0 where
  unwritten : ((s : Source) (v : Node) → A.write_edge s r v → ⊥) → Last A r start_mark
  written : {s : Source} {v : Node} → A.write_edge s r v → ((w : Node) → A.write_edge (node v) r w → ⊥) → Last A r (node v)

-- definition 2: process p, that reads rd and writes wr, adds the node after its newest, with an edge for each resource
pub record Extends (A : Annotation) (p : ℕ) (rd wr : ℕ → Bool) (A' : Annotation) : Type 0 where
  pub number : ℕ
  pub newest : (k : ℕ) → A.vertex (node_at p k) ↔ (k < number)
  pub vertices : (v : Node) → A'.vertex v ↔ (A.vertex v ⊎ (v ≡ node_at p number))
  pub reads :
      (s : Source) (r : ℕ) (v : Node) →
      A'.read_edge s r v ↔ (A.read_edge s r v ⊎ ((v ≡ node_at p number) × (rd r ≡ true) × (wr r ≡ false) × Last A r s))
  pub writes :
      (s : Source) (r : ℕ) (v : Node) → A'.write_edge s r v ↔ (A.write_edge s r v ⊎ ((v ≡ node_at p number) × (wr r ≡ true) × Last A r s))

-- definition 3: the program steps and the annotation is extended, by the same process with what its block reads and writes
pub record Annotated (program : List Block) (p b : ℕ) (C : Configuration) (A : Annotation) (C' : Configuration) (A' : Annotation) : Type 0 where
  pub steps : Steps program p b C C'
  pub extends : Extends A p (block_reads (block_of program b)) (block_writes (block_of program b)) A'

-- what a history shows: its cause graph
abbrev pub annotation_of : List Block → List Kept → Annotation
annotation_of program history =
    record {
      vertex = λ v. Memᴰ v (nodes history);
      read_edge = λ s r v. Memᴰ (record { source = s; resource = r; target = v; write = false }) (edges program history);
      write_edge = λ s r v. Memᴰ (record { source = s; resource = r; target = v; write = true }) (edges program history);
    }
