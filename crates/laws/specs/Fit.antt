-- What every decoded block keeps to, as predicates that contracts cite: variables below 32, labels below 256, constants that are
-- words, no update or exchange that code 7 refuses, a call of 1 to 8 labels between a plain entry and a plain exit.
use Rattle.std.specs.Prelude.{◌≡◌, true, false, List, ℕ, ◌^◌, ◌≤◌, ◌<◌, length, get_or}
use Rattle.rules.specs.Read.{updates_itself, exchanges_itself, is_call}
use Rattle.rules.specs.declared.Operand.{Operand}
use Rattle.rules.specs.declared.Target.{Target}
use Rattle.rules.specs.declared.Expression.{Expression}
use Rattle.rules.specs.declared.Names.{Names}
use Rattle.rules.specs.declared.Instruction.{Instruction}
use Rattle.rules.specs.declared.Entry.{Entry}
use Rattle.rules.specs.declared.Exit.{Exit}
use Rattle.rules.specs.declared.Block.{Block}

-- the numbers of an image are bytes
abbrev pub Bytes : List ℕ → Type 0
Bytes s = (i : ℕ) → get_or s i 0 < 256

abbrev pub OperandFit : Operand → Type 0
OperandFit (Operand.Constant v) = v < 2 ^ 32
OperandFit (Operand.Variable x) = x < 32
OperandFit (Operand.Cell x) = x < 32

abbrev pub TargetFit : Target → Type 0
TargetFit (Target.Variable x) = x < 32
TargetFit (Target.Cell x) = x < 32

abbrev pub ExpressionFit : Expression → Type 0
ExpressionFit (Expression.Plain a) = OperandFit a
ExpressionFit (Expression.Not a) = OperandFit a
ExpressionFit (Expression.Two operator a b) = OperandFit a × OperandFit b

abbrev pub EntryFit : Entry → Type 0
EntryFit (Entry.From l) = l < 256
EntryFit (Entry.Either l m e) = (l < 256) × (m < 256) × ExpressionFit e
EntryFit (Entry.Begin l) = l < 256

abbrev pub ExitFit : Exit → Type 0
ExitFit (Exit.To l) = l < 256
ExitFit (Exit.Either e l m) = (l < 256) × (m < 256) × ExpressionFit e
ExitFit (Exit.End l) = l < 256

-- a call's labels
pub record NamesFit (n : Names) : Type 0 where
  pub some : 1 ≤ n.count
  pub few : n.count ≤ 8
  pub eight : length n.labels ≡ 8
  pub bytes : Bytes n.labels

abbrev pub InstructionFit : Instruction → Type 0
InstructionFit (Instruction.Update change a e) = TargetFit a × ExpressionFit e × (updates_itself a e ≡ false)
InstructionFit (Instruction.Exchange a b) = TargetFit a × TargetFit b × (exchanges_itself a b ≡ false)
InstructionFit (Instruction.OpV x) = x < 32
InstructionFit (Instruction.OpP x) = x < 32
InstructionFit (Instruction.Assert e) = ExpressionFit e
InstructionFit Instruction.Skip = Unit {0}
InstructionFit (Instruction.Call n) = NamesFit n

-- a call stands between a plain entry and a plain exit
abbrev pub IsFrom : Entry → Type 0
IsFrom (Entry.From l) = Unit {0}
IsFrom (Entry.Either l m e) = ⊥
IsFrom (Entry.Begin l) = ⊥

abbrev pub IsTo : Exit → Type 0
IsTo (Exit.To l) = Unit {0}
IsTo (Exit.Either e l m) = ⊥
IsTo (Exit.End l) = ⊥

pub record BlockFit (b : Block) : Type 0 where
  pub entry : EntryFit b.entry
  pub instruction : InstructionFit b.instruction
  pub exit : ExitFit b.exit
  pub from : is_call b.instruction ≡ true → IsFrom b.entry
  pub to : is_call b.instruction ≡ true → IsTo b.exit
