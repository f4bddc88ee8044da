-- The cause graph, document 01 (004, definitions 1 and 2): nodes, edges and the start mark of a history, when two graphs are
-- equal, and when the graph holds a step.
use Rattle.std.specs.Prelude.{ℕ, ◌+◌, ◌-◌, Bool, true, false, not, ◌&&◌, ◌||◌, ◌↔◌, length, eqb}
use mathlib.Core.List.{List, [], ◌∷◌, ◌++◌, Memᴰ}
use Rattle.rules.specs.Base.{pick, each_of, those, up_from}
use Rattle.rules.specs.Names.{resources, block_reads, block_writes}
use Rattle.rules.specs.Labels.{block_of}
use Rattle.rules.specs.Machine.{Kept}
use Rattle.rules.specs.declared.Block.{Block}

-- what a kept step reads and writes
unfoldable pub reads : List Block → Kept → ℕ → Bool
reads program k r = block_reads (block_of program k.block) r

unfoldable pub writes : List Block → Kept → ℕ → Bool
writes program k r = block_writes (block_of program k.block) r

-- a kept step is the node (process, how many earlier entries the process has)
pub record Node : Type 0 where
  pub process : ℕ
  pub number : ℕ

unfoldable pub entries_of : ℕ → List Kept → ℕ
entries_of p history = length (those (λ k. eqb k.identifier p) history)

-- the node of a kept step, after the earlier ones
abbrev pub node_of : List Kept → Kept → Node
node_of earlier k = record { process = k.identifier; number = entries_of k.identifier earlier }

-- an edge comes from a node or from the start mark
pub data Source : Type 0 where
  start_mark : Source
  node : Node → Source

pub record Edge : Type 0 where
  pub source : Source
  pub resource : ℕ
  pub target : Node
  pub write : Bool

-- a resource's last writer in a history: of the steps that come after the earlier ones, or else the one before them
unfoldable pub last_from : List Block → List Kept → Source → List Kept → ℕ → Source
last_from program earlier last [] r = last
last_from program earlier last (k ∷ later) r =
    last_from program (earlier ++ k ∷ []) (pick (writes program k r) (node (node_of earlier k)) last) later r

unfoldable pub last_writer : List Block → List Kept → ℕ → Source
last_writer program history r = last_from program [] start_mark history r

-- one edge for each resource that the step reads or writes, from that resource's last writer before it or the start mark: a
-- write edge if the step writes the resource, else a read edge
abbrev pub edge_of : List Block → List Kept → Kept → ℕ → Edge
edge_of program earlier k r =
    record { source = last_writer program earlier r; resource = r; target = node_of earlier k; write = writes program k r }

unfoldable pub edges_for : List Block → List Kept → Kept → List ℕ → List Edge
edges_for program earlier k [] = []
edges_for program earlier k (r ∷ rs) =
    pick (reads program k r || writes program k r) (edge_of program earlier k r ∷ edges_for program earlier k rs)
    (edges_for program earlier k rs)

abbrev pub edges_of : List Block → List Kept → Kept → List Edge
edges_of program earlier k = edges_for program earlier k (up_from 0 resources)

-- the nodes and edges of a history
unfoldable pub nodes_from : List Kept → List Kept → List Node
nodes_from earlier [] = []
nodes_from earlier (k ∷ later) = node_of earlier k ∷ nodes_from (earlier ++ k ∷ []) later

unfoldable pub edges_from : List Block → List Kept → List Kept → List Edge
edges_from program earlier [] = []
edges_from program earlier (k ∷ later) = edges_of program earlier k ++ edges_from program (earlier ++ k ∷ []) later

unfoldable pub nodes : List Kept → List Node
nodes history = nodes_from [] history

unfoldable pub edges : List Block → List Kept → List Edge
edges program history = edges_from program [] history

-- two graphs are equal as sets of nodes and edges; the order of history may differ
pub record SameGraph (program : List Block) (one other : List Kept) : Type 0 where
  pub same_nodes : (n : Node) → Memᴰ n (nodes one) ↔ Memᴰ n (nodes other)
  pub same_edges : (e : Edge) → Memᴰ e (edges program one) ↔ Memᴰ e (edges program other)

-- ---- when the graph lets a step go back
abbrev pub same_node : Node → Node → Bool
same_node a b = eqb a.process b.process && eqb a.number b.number

abbrev pub same_source : Source → Source → Bool
same_source start_mark start_mark = true
same_source start_mark (node b) = false
same_source (node a) start_mark = false
same_source (node a) (node b) = same_node a b

-- the node is its process's newest
unfoldable pub is_newest : List Kept → Node → Bool
is_newest history n = eqb (entries_of n.process history) (n.number + 1)

-- no edge leaves it
unfoldable pub none_leaves : List Block → List Kept → Node → Bool
none_leaves program history n = each_of (λ e. not (same_source e.source (node n))) (edges program history)

-- each of its read edges still comes from the last writer
abbrev pub is_read_of : Node → Edge → Bool
is_read_of n e = same_node e.target n && not e.write

unfoldable pub reads_last : List Block → List Kept → Node → Bool
reads_last program history n =
    each_of (λ e. same_source e.source (last_writer program history e.resource)) (those (is_read_of n) (edges program history))

unfoldable pub may_go_back : List Block → List Kept → Node → Bool
may_go_back program history n = is_newest history n && (none_leaves program history n && reads_last program history n)

-- 27: the graph holds the step that an undo of the process would take back
abbrev pub newest_node : List Kept → ℕ → Node
newest_node history p = record { process = p; number = entries_of p history - 1 }

unfoldable pub holds : List Block → List Kept → ℕ → Bool
holds program history p = not (may_go_back program history (newest_node history p))
