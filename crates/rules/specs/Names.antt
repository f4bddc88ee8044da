-- What an operand, an expression, an entry, an instruction and an exit name, and what an instruction changes: the resources of
-- document 01, "The cause graph" (004: read(b), write(b), Var(E)). Codes 7 and 9 ask the same of variables.
use Rattle.std.specs.Prelude.{ℕ, suc, Bool, false, ◌||◌, eqb}
use Rattle.rules.specs.Format.{variables}
use Rattle.rules.specs.declared.Operand.{Operand}
use Rattle.rules.specs.declared.Target.{Target}
use Rattle.rules.specs.declared.Expression.{Expression}
use Rattle.rules.specs.declared.Instruction.{Instruction}
use Rattle.rules.specs.declared.Entry.{Entry}
use Rattle.rules.specs.declared.Exit.{Exit}
use Rattle.rules.specs.declared.Block.{Block}

-- the resources are the 32 variables, by their numbers, and the whole heap as one
abbrev pub heap : ℕ
heap = variables

abbrev pub resources : ℕ
resources = suc heap

-- x names x; M[x] names x and the heap
abbrev pub operand_names : Operand → ℕ → Bool
operand_names (Operand.Constant v) r = false
operand_names (Operand.Variable x) r = eqb x r
operand_names (Operand.Cell x) r = eqb x r || eqb heap r

abbrev pub target_names : Target → ℕ → Bool
target_names (Target.Variable x) r = eqb x r
target_names (Target.Cell x) r = eqb x r || eqb heap r

-- what a write to the target changes
abbrev pub target_resource : Target → ℕ
target_resource (Target.Variable x) = x
target_resource (Target.Cell x) = heap

abbrev pub expression_names : Expression → ℕ → Bool
expression_names (Expression.Plain a) r = operand_names a r
expression_names (Expression.Not a) r = operand_names a r
expression_names (Expression.Two operator a b) r = operand_names a r || operand_names b r

abbrev pub entry_names : Entry → ℕ → Bool
entry_names (Entry.From l) r = false
entry_names (Entry.Either l m e) r = expression_names e r
entry_names (Entry.Begin l) r = false

abbrev pub exit_names : Exit → ℕ → Bool
exit_names (Exit.To l) r = false
exit_names (Exit.Either e l m) r = expression_names e r
exit_names (Exit.End l) r = false

-- V and P apart
abbrev pub semaphore_names : Instruction → ℕ → Bool
semaphore_names (Instruction.Update change a e) r = false
semaphore_names (Instruction.Exchange a b) r = false
semaphore_names (Instruction.OpV x) r = eqb x r
semaphore_names (Instruction.OpP x) r = eqb x r
semaphore_names (Instruction.Assert e) r = false
semaphore_names Instruction.Skip r = false
semaphore_names (Instruction.Call n) r = false

abbrev pub other_names : Instruction → ℕ → Bool
other_names (Instruction.Update change a e) r = target_names a r || expression_names e r
other_names (Instruction.Exchange a b) r = target_names a r || target_names b r
other_names (Instruction.OpV x) r = false
other_names (Instruction.OpP x) r = false
other_names (Instruction.Assert e) r = expression_names e r
other_names Instruction.Skip r = false
other_names (Instruction.Call n) r = false

-- a block names r elsewhere than in V or P
unfoldable pub block_names : Block → ℕ → Bool
block_names b r = entry_names b.entry r || (other_names b.instruction r || exit_names b.exit r)

-- a block reads every resource named in its entry, instruction and exit; a call reads none
unfoldable pub block_reads : Block → ℕ → Bool
block_reads b r = block_names b r || semaphore_names b.instruction r

-- and writes what its instruction changes
abbrev pub instruction_writes : Instruction → ℕ → Bool
instruction_writes (Instruction.Update change a e) r = eqb (target_resource a) r
instruction_writes (Instruction.Exchange a b) r = eqb (target_resource a) r || eqb (target_resource b) r
instruction_writes (Instruction.OpV x) r = eqb x r
instruction_writes (Instruction.OpP x) r = eqb x r
instruction_writes (Instruction.Assert e) r = false
instruction_writes Instruction.Skip r = false
instruction_writes (Instruction.Call n) r = false

unfoldable pub block_writes : Block → ℕ → Bool
block_writes b r = instruction_writes b.instruction r
