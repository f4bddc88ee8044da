-- A block that calls. Assumes nothing.
use mathlib.Core.Path.{◌≡◌, ap, subst}
use mathlib.Core.Bool.{true}
use Rattle.rules.specs.Read.{is_call}
use Rattle.rules.specs.declared.Block.{Block}
use Rattle.rules.specs.declared.Instruction.{Instruction}
use Rattle.rules.specs.declared.Names.{Names}
use Rattle.laws.specs.Fit.{InstructionFit, NamesFit, BlockFit}

pub is-call : {i : Instruction} {names : Names} → i ≡ Instruction.Call names → is_call i ≡ true
is-call e = ap is_call e

pub names-fit : {b : Block} {names : Names} → b.instruction ≡ Instruction.Call names → BlockFit b → NamesFit names
names-fit e f = subst InstructionFit e f.instruction
