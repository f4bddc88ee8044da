-- What a machine shows of 004: the store that its memory holds, the configuration of its processes, the annotation of its history;
-- a step of 004's from there or to there; and lent words that pass codes 16 and 17. Definitions only: the theorems of Demand2 speak of them.
use Rattle.std.specs.Prelude.{◌≡◌, ◌↔◌, true, List, ℕ, ◌+◌, ◌<◌, length, get_or, ltb}
use Rattle.rules.specs.Base.{each_of}
use Rattle.rules.specs.Value.{span}
use Rattle.rules.specs.Format.{variables, cells}
use Rattle.rules.specs.Read.{got, decoded}
use Rattle.rules.specs.Judge.{judged_blocks}
use Rattle.rules.specs.Machine.{Machine, standing, memory_words, machine_words}
use Rattle.rules.specs.Fits.{fits}
use Rattle.rules.specs.Cause.{Node, Source}
use Rattle.rules.specs.Paper.{Store, Configuration}
use Rattle.rules.specs.Annotation.{Annotation, Whole, Annotated, annotation_of}
use Rattle.rules.specs.declared.Block.{Block}
use Rattle.rules.specs.Judgement.{Judgement}

-- a memory of 288 values holds what a store says of the 32 variables and of the 256 cells (a store of 004's has a value for every
-- number; beyond those it does not matter)
pub record Holds (m : List ℕ) (s : Store) : Type 0 where
  pub size : length m ≡ memory_words
  pub variable : (x : ℕ) → x < variables → s.variable x ≡ get_or m x 0
  pub cell : (a : ℕ) → a < cells → s.cell a ≡ get_or m (variables + a) 0

-- the values of a store are words
pub record Words (s : Store) : Type 0 where
  pub variable : (x : ℕ) → x < variables → s.variable x < span
  pub cell : (a : ℕ) → a < cells → s.cell a < span

-- two annotations are equal as sets of nodes and edges
pub record Alike (A B : Annotation) : Type 0 where
  pub vertex : (v : Node) → A.vertex v ↔ B.vertex v
  pub read_edge : (s : Source) (r : ℕ) (v : Node) → A.read_edge s r v ↔ B.read_edge s r v
  pub write_edge : (s : Source) (r : ℕ) (v : Node) → A.write_edge s r v ↔ B.write_edge s r v

-- a machine shows a configuration and an annotation: its processes stand where the configuration says, its memory holds the store,
-- and the cause graph of its history is the annotation
pub record Shows (program : List Block) (m : Machine) (C : Configuration) (A : Annotation) : Type 0 where
  pub processes : (q : ℕ) → C.processes q ≡ standing m.rows q
  pub memory : Holds m.memory C.store
  pub history : Alike A (annotation_of program m.history)

-- 004's rules (figure 2 with definitions 2 and 3) have a step of process p from C and A
pub record StepFrom (program : List Block) (p : ℕ) (C : Configuration) (A : Annotation) : Type 1 where
  pub block : ℕ
  pub configuration : Configuration
  pub annotation : Annotation
  pub step : Annotated program p block C A configuration annotation

-- they have a step of process p to C and A, which is what its backward step takes back: from a configuration of words and from an
-- annotation whose edges are between its nodes
pub record StepTo (program : List Block) (p : ℕ) (C : Configuration) (A : Annotation) : Type 1 where
  pub block : ℕ
  pub configuration : Configuration
  pub annotation : Annotation
  pub words : Words configuration.store
  pub whole : Whole annotation
  pub step : Annotated program p block configuration annotation C A

-- an accepted image, whose numbers are bytes, and lent words, each below 2 ^ 32, that pass codes 16 and 17; no run need have left them
pub record Lent : Type 0 where
  pub image : List ℕ
  pub bytes : each_of (λ b. ltb b 256) image ≡ true
  pub program : List Block
  pub past : ℕ
  pub decodes : decoded image ≡ got program past
  pub blocks : ℕ
  pub peak : ℕ
  pub accepts : judged_blocks program ≡ Judgement.Accepted blocks peak
  pub words : List ℕ
  pub size : length words ≡ machine_words
  pub range : each_of (λ v. ltb v span) words ≡ true
  pub fit : fits program words ≡ true
