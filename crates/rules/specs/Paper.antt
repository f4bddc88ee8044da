-- Source document 004 as it stands, over words and 256 cells: figure 2 (expressions, instructions, entry and exit points, Inst,
-- CallFork, CallMerge) as relations. Nothing here computes a step; the theorems `paper_forward` and `paper_undo` say that Step
-- does what these rules say. Definitions 1 to 3 of 004 stand in Annotation.
use Rattle.std.specs.Prelude.{ℕ, suc, ◌+◌, ◌<◌, ◌≡◌, true, List, [], ◌∷◌, length, get_or, eqb}
use Rattle.std.proofs.Math.Option.{Option, none, some}
use Rattle.rules.specs.Base.{pick}
use Rattle.rules.specs.Value.{applied, changed}
use Rattle.rules.specs.Format.{variables, cells, named}
use Rattle.rules.specs.Labels.{block_of}
use Rattle.rules.specs.Machine.{Machine, begin, run, end, place, child, is_child_of, standing}
use Rattle.rules.specs.declared.Operand.{Operand}
use Rattle.rules.specs.declared.Target.{Target}
use Rattle.rules.specs.declared.Operator.{Operator}
use Rattle.rules.specs.declared.Expression.{Expression}
use Rattle.rules.specs.declared.Change.{Change}
use Rattle.rules.specs.declared.Names.{Names}
use Rattle.rules.specs.declared.Instruction.{Instruction}
use Rattle.rules.specs.declared.Entry.{Entry}
use Rattle.rules.specs.declared.Exit.{Exit}
use Rattle.rules.specs.declared.Block.{Block}
use Rattle.rules.specs.declared.Place.{Place}

-- ρ maps a variable to its value, σ a heap address to its value
pub record Store : Type 0 where
  pub variable : ℕ → ℕ
  pub cell : ℕ → ℕ

-- f[x ↦ a]
module _ {A : Type 0} where
  abbrev pub at : (ℕ → A) → ℕ → A → ℕ → A
  at f x a y = pick (eqb y x) a (f y)

abbrev pub with_variable : Store → ℕ → ℕ → Store
with_variable s x v = record { variable = at s.variable x v; cell = s.cell }

abbrev pub with_cell : Store → ℕ → ℕ → Store
with_cell s a v = record { variable = s.variable; cell = at s.cell a v }

-- ---- expressions: Con, Var, Mem; an expression of one operand (01's difference); Exp1, Exp2, Exp3
pub data OperandGives (s : Store) : Operand → ℕ → Type 0 where
  con : (k : ℕ) → OperandGives s (Operand.Constant k) k
  var : (x : ℕ) → OperandGives s (Operand.Variable x) (s.variable x)
  mem : (x : ℕ) → s.variable x < cells → OperandGives s (Operand.Cell x) (s.cell (s.variable x))

pub data Gives (s : Store) : Expression → ℕ → Type 0 where
  plain : {a : Operand} {v : ℕ} → OperandGives s a v → Gives s (Expression.Plain a) v
  exp1 : (operator : Operator) {a b : Operand} {v w : ℕ} → OperandGives s a v → OperandGives s b w → Gives s (Expression.Two operator a b) (applied operator v w)
  exp2 : {a : Operand} {v : ℕ} → OperandGives s a v → v ≡ 0 → Gives s (Expression.Not a) 1
  exp3 : {a : Operand} {v : ℕ} → OperandGives s a v → (v ≡ 0 → ⊥) → Gives s (Expression.Not a) 0

-- ---- instructions
pub data Does (s : Store) : Instruction → Store → Type 0 where
  ass_var : (c : Change) (x : ℕ) {e : Expression} {v : ℕ} → Gives s e v → Does s (Instruction.Update c (Target.Variable x) e) (with_variable s x (changed c (s.variable x) v))
  ass_arr :
      (c : Change) (x a : ℕ) {e : Expression} {v : ℕ} → s.variable x ≡ a → a < cells → Gives s e v →
      Does s (Instruction.Update c (Target.Cell x) e) (with_cell s a (changed c (s.cell a) v))
  swap_var_var : (x y : ℕ) → Does s (Instruction.Exchange (Target.Variable x) (Target.Variable y)) (with_variable (with_variable s x (s.variable y)) y (s.variable x))
  swap_var_arr :
      (x y a : ℕ) → s.variable y ≡ a → a < cells →
      Does s (Instruction.Exchange (Target.Variable x) (Target.Cell y)) (with_cell (with_variable s x (s.cell a)) a (s.variable x))
  swap_arr_var :
      (x y a : ℕ) → s.variable y ≡ a → a < cells →
      Does s (Instruction.Exchange (Target.Cell y) (Target.Variable x)) (with_cell (with_variable s x (s.cell a)) a (s.variable x))
  swap_arr_arr :
      (x y a b : ℕ) → s.variable x ≡ a → a < cells → s.variable y ≡ b → b < cells →
      Does s (Instruction.Exchange (Target.Cell x) (Target.Cell y)) (with_cell (with_cell s a (s.cell b)) b (s.cell a))
  op_v : (x : ℕ) → s.variable x ≡ 0 → Does s (Instruction.OpV x) (with_variable s x 1)
  op_p : (x : ℕ) → s.variable x ≡ 1 → Does s (Instruction.OpP x) (with_variable s x 0)
  skip : Does s Instruction.Skip s
  assert : {e : Expression} {v : ℕ} → Gives s e v → (v ≡ 0 → ⊥) → Does s (Instruction.Assert e) s

-- ---- entry and exit points: entry ⊢ (ρ, σ, l, stage) and exit ⊣ (ρ, σ, l, stage)
pub data Enters (s : Store) : Entry → Place → Type 0 where
  begin_at : (l : ℕ) → Enters s (Entry.Begin l) (place l begin)
  from_at : (l : ℕ) → Enters s (Entry.From l) (place l run)
  second : (l m : ℕ) {e : Expression} {v : ℕ} → Gives s e v → v ≡ 0 → Enters s (Entry.Either l m e) (place m run)
  first : (l m : ℕ) {e : Expression} {v : ℕ} → Gives s e v → (v ≡ 0 → ⊥) → Enters s (Entry.Either l m e) (place l run)

pub data Leaves (s : Store) : Exit → Place → Type 0 where
  end_at : (l : ℕ) → Leaves s (Exit.End l) (place l end)
  to_at : (l : ℕ) → Leaves s (Exit.To l) (place l run)
  second : (l m : ℕ) {e : Expression} {v : ℕ} → Gives s e v → v ≡ 0 → Leaves s (Exit.Either e l m) (place m run)
  first : (l m : ℕ) {e : Expression} {v : ℕ} → Gives s e v → (v ≡ 0 → ⊥) → Leaves s (Exit.Either e l m) (place l run)

-- ---- basic blocks
-- a program configuration: the program never changes, so ρ, σ and the process map are left
pub record Configuration : Type 0 where
  pub store : Store
  pub processes : ℕ → Option Place

-- isleaf: no process below p is active
abbrev pub IsLeaf : (ℕ → Option Place) → ℕ → Type 0
IsLeaf processes p = (q : ℕ) → is_child_of p q ≡ true → processes q ≡ none

-- Pr[p·i ↦ (lᵢ, stage), ..] for the labels from the i-th on
abbrev pub with_children : (ℕ → Option Place) → ℕ → ℕ → ℕ → List ℕ → ℕ → Option Place
with_children processes p stage i [] = processes
with_children processes p stage i (l ∷ ls) = at (with_children processes p stage (suc i) ls) (child p i) (some (place l stage))

abbrev pub configuration : Store → (ℕ → Option Place) → Configuration
configuration s processes = record { store = s; processes = processes }

-- process p steps by block b
pub data Steps (program : List Block) (p b : ℕ) : Configuration → Configuration → Type 0 where
  inst :
      {s s' : Store} {processes : ℕ → Option Place} {here next : Place} →
      IsLeaf processes p →
      b < length program →
      processes p ≡ some here →
      Enters s (block_of program b).entry here →
      Does s (block_of program b).instruction s' →
      Leaves s' (block_of program b).exit next →
      Steps program p b (configuration s processes) (configuration s' (at processes p (some next)))
  call_fork :
      {s : Store} {processes : ℕ → Option Place} (from to : ℕ) (n : Names) →
      IsLeaf processes p →
      b < length program →
      block_of program b ≡ record { entry = Entry.From from; instruction = Instruction.Call n; exit = Exit.To to } →
      processes p ≡ some (place from run) →
      Steps program p b (configuration s processes) (configuration s (with_children (at processes p (some (place to run))) p begin 1 (named n)))
  call_merge :
      {s : Store} {processes : ℕ → Option Place} (from to : ℕ) (n : Names) →
      IsLeaf processes p →
      b < length program →
      block_of program b ≡ record { entry = Entry.From from; instruction = Instruction.Call n; exit = Exit.To to } →
      processes p ≡ some (place to run) →
      Steps program p b (configuration s (with_children processes p end 1 (named n))) (configuration s processes)

-- ---- what a machine shows of a configuration
abbrev pub store_of : List ℕ → Store
store_of memory = record { variable = λ x. get_or memory x 0; cell = λ a. get_or memory (variables + a) 0 }

abbrev pub configuration_of : Machine → Configuration
configuration_of m = configuration (store_of m.memory) (standing m.rows)
