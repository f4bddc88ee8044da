-- Evaluation, instructions and the step of a leaf, document 01, "Steps" (004, figure 2), with the codes 22 to 25.
use Rattle.std.specs.Prelude.{ℕ, ◌+◌, ◌&&◌, List, get_or, set, eqb, ltb, Result, Ok, Err}
use Rattle.rules.specs.Base.{pick}
use Rattle.rules.specs.Codes.{number}
use Rattle.rules.specs.Value.{applied, changed, negated}
use Rattle.rules.specs.Format.{variables, cells}
use Rattle.rules.specs.Machine.{place, begin, run, end}
use Rattle.rules.specs.declared.Operand.{Operand}
use Rattle.rules.specs.declared.Target.{Target}
use Rattle.rules.specs.declared.Expression.{Expression}
use Rattle.rules.specs.declared.Change.{Change}
use Rattle.rules.specs.declared.Code.{Code}
use Rattle.rules.specs.declared.Instruction.{Instruction}
use Rattle.rules.specs.declared.Entry.{Entry}
use Rattle.rules.specs.declared.Exit.{Exit}
use Rattle.rules.specs.declared.Block.{Block}
use Rattle.rules.specs.declared.Place.{Place}

-- what was made, or the code of a refusal
pub data Tried (A : Type 0) : Type 0 where
  made : A → Tried A
  refused : ℕ → Tried A

-- as the code answers it
abbrev pub tried : {A : Type 0} → Result A Code → Tried A
tried (Ok a) = made a
tried (Err code) = refused (number code)

module _ {A B : Type 0} where
  -- go on from what was made; a refusal stays
  unfoldable pub after : Tried A → (A → Tried B) → Tried B
  after (made a) f = f a
  after (refused code) f = refused code

-- ---- evaluation, on a memory of 288 values
-- where M[x] lies, 25: the value of x is outside 0 to 255 (a negative one is a word far above)
unfoldable pub cell_place : List ℕ → ℕ → Tried ℕ
cell_place memory x = pick (ltb (get_or memory x 0) cells) (made (variables + get_or memory x 0)) (refused 25)

unfoldable pub target_place : List ℕ → Target → Tried ℕ
target_place memory (Target.Variable x) = made x
target_place memory (Target.Cell x) = cell_place memory x

unfoldable pub operand_value : List ℕ → Operand → Tried ℕ
operand_value memory (Operand.Constant v) = made v
operand_value memory (Operand.Variable x) = made (get_or memory x 0)
operand_value memory (Operand.Cell x) = after (cell_place memory x) (λ at. made (get_or memory at 0))

-- both sides are evaluated
unfoldable pub expression_value : List ℕ → Expression → Tried ℕ
expression_value memory (Expression.Plain a) = operand_value memory a
expression_value memory (Expression.Not a) = after (operand_value memory a) (λ v. made (negated v))
expression_value memory (Expression.Two operator a b) =
    after (operand_value memory a) (λ v. after (operand_value memory b) (λ w. made (applied operator v w)))

-- the first label where the condition is true, else the second
unfoldable pub chosen : ℕ → ℕ → ℕ → Place
chosen l m v = pick (eqb v 0) (place m run) (place l run)

-- the place that an entry, or an exit, gives on a memory
unfoldable pub entry_place : List ℕ → Entry → Tried Place
entry_place memory (Entry.From l) = made (place l run)
entry_place memory (Entry.Either l m e) = after (expression_value memory e) (λ v. made (chosen l m v))
entry_place memory (Entry.Begin l) = made (place l begin)

unfoldable pub exit_place : List ℕ → Exit → Tried Place
exit_place memory (Exit.To l) = made (place l run)
exit_place memory (Exit.Either e l m) = after (expression_value memory e) (λ v. made (chosen l m v))
exit_place memory (Exit.End l) = made (place l end)

-- ---- instructions
-- the memory after an instruction. 24: V needs 0 and leaves 1, P needs 1 and leaves 0. 23: the assertion is false.
unfoldable pub update : List ℕ → Change → Target → Expression → Tried (List ℕ)
update memory change a e =
    after (target_place memory a) (λ at. after (expression_value memory e)
    (λ v. made (set memory at (changed change (get_or memory at 0) v))))

unfoldable pub exchange : List ℕ → Target → Target → Tried (List ℕ)
exchange memory a b =
    after (target_place memory a) (λ at. after (target_place memory b)
    (λ to. made (set (set memory at (get_or memory to 0)) to (get_or memory at 0))))

unfoldable pub semaphore_step : List ℕ → ℕ → ℕ → ℕ → Tried (List ℕ)
semaphore_step memory x needs leaves = pick (eqb (get_or memory x 0) needs) (made (set memory x leaves)) (refused 24)

unfoldable pub act : List ℕ → Instruction → Tried (List ℕ)
act memory (Instruction.Update change a e) = update memory change a e
act memory (Instruction.Exchange a b) = exchange memory a b
act memory (Instruction.OpV x) = semaphore_step memory x 0 1
act memory (Instruction.OpP x) = semaphore_step memory x 1 0
act memory (Instruction.Assert e) = after (expression_value memory e) (λ v. pick (eqb v 0) (refused 23) (made memory))
act memory Instruction.Skip = made memory
act memory (Instruction.Call n) = made memory

-- inverted: += with -=, V and P trade places, assert must still hold
abbrev pub inverse_change : Change → Change
inverse_change Change.Add = Change.Subtract
inverse_change Change.Subtract = Change.Add
inverse_change Change.Xor = Change.Xor

abbrev pub inverse : Instruction → Instruction
inverse (Instruction.Update change a e) = Instruction.Update (inverse_change change) a e
inverse (Instruction.Exchange a b) = Instruction.Exchange a b
inverse (Instruction.OpV x) = Instruction.OpP x
inverse (Instruction.OpP x) = Instruction.OpV x
inverse (Instruction.Assert e) = Instruction.Assert e
inverse Instruction.Skip = Instruction.Skip
inverse (Instruction.Call n) = Instruction.Call n

-- ---- a leaf
-- where the process then stands, and the memory
pub record Moved : Type 0 where
  pub stands : Place
  pub memory : List ℕ

-- 22: the condition leads to another label than the present one
unfoldable pub present : {A : Type 0} → Place → Place → Tried A → Tried A
present here q rest = pick (eqb q.label here.label && eqb q.stage here.stage) rest (refused 22)

-- forward: the entry must give the present label; the instruction acts; the exit, on the new memory, gives the next label
unfoldable pub leaf_forward : List ℕ → Place → Block → Tried Moved
leaf_forward memory here b =
    after (entry_place memory b.entry) (λ q. present here q (after (act memory b.instruction)
    (λ new. after (exit_place new b.exit) (λ next. made (record { stands = next; memory = new })))))

-- undo: the exit on the present memory must give the present label; the instruction is inverted; the entry on the earlier
-- memory gives the label
unfoldable pub leaf_undo : List ℕ → Place → Block → Tried Moved
leaf_undo memory here b =
    after (exit_place memory b.exit) (λ q. present here q (after (act memory (inverse b.instruction))
    (λ earlier. after (entry_place earlier b.entry) (λ back. made (record { stands = back; memory = earlier })))))
