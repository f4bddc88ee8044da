-- The theorem `names-decided`: `block_reads` and `block_writes`, by which the cause graph gets its edges, decide 004's read(b) and write(b) as rules'
-- Resources has them, case by case. Assumes nothing.
use Rattle.std.specs.Prelude.{◌≡◌, refl, ◌⊎◌, ◌↔◌, true, ◌||◌, ℕ, eqb}
use Rattle.std.proofs.Common.{subst, inl, inr}
use Rattle.theory.specs.Tests.{true_false, eqb_same, eqb-eq, or_cases, or_left, or_right}
use Rattle.rules.specs.Names.{heap, operand_names, target_names, expression_names, entry_names, exit_names, semaphore_names, other_names}
use Rattle.rules.specs.Names.{block_names, block_reads, instruction_writes, block_writes}
use Rattle.rules.specs.Resources.{InOperand, InTarget, InExpression, InEntry, InExit, InInstruction, Reads, Changes, Writes}
use Rattle.rules.specs.declared.Operand.{Operand}
use Rattle.rules.specs.declared.Target.{Target}
use Rattle.rules.specs.declared.Expression.{Expression}
use Rattle.rules.specs.declared.Instruction.{Instruction}
use Rattle.rules.specs.declared.Entry.{Entry}
use Rattle.rules.specs.declared.Exit.{Exit}
use Rattle.rules.specs.declared.Block.{Block}

-- what holds of x holds of what equals it
at : (P : ℕ → Type 0) (x r : ℕ) → eqb x r ≡ true → P x → P r
at P x r h p = subst P (eqb-eq x r h) p

self : (x : ℕ) → eqb x x ≡ true
self x = eqb_same x x refl

-- ---- Var(E)
operand_in : (a : Operand) (r : ℕ) → operand_names a r ≡ true → InOperand a r
operand_in (Operand.Constant v) r h = absurd (true_false h refl)
operand_in (Operand.Variable x) r h = at (InOperand (Operand.Variable x)) x r h (InOperand.variable x)
operand_in (Operand.Cell x) r h = go (or_cases (eqb x r) (eqb heap r) h)
  where
    go : (eqb x r ≡ true) ⊎ (eqb heap r ≡ true) → InOperand (Operand.Cell x) r
    go (inl k) = at (InOperand (Operand.Cell x)) x r k (InOperand.address x)
    go (inr k) = at (InOperand (Operand.Cell x)) heap r k (InOperand.cell x)

in_operand : {a : Operand} {r : ℕ} → InOperand a r → operand_names a r ≡ true
in_operand (InOperand.variable x) = self x
in_operand (InOperand.address x) = or_left (eqb x x) (eqb heap x) (self x)
in_operand (InOperand.cell x) = or_right (eqb x heap) (eqb heap heap) refl

target-in : (a : Target) (r : ℕ) → target_names a r ≡ true → InTarget a r
target-in (Target.Variable x) r h = at (InTarget (Target.Variable x)) x r h (InTarget.variable x)
target-in (Target.Cell x) r h = go (or_cases (eqb x r) (eqb heap r) h)
  where
    go : (eqb x r ≡ true) ⊎ (eqb heap r ≡ true) → InTarget (Target.Cell x) r
    go (inl k) = at (InTarget (Target.Cell x)) x r k (InTarget.address x)
    go (inr k) = at (InTarget (Target.Cell x)) heap r k (InTarget.cell x)

in_target : {a : Target} {r : ℕ} → InTarget a r → target_names a r ≡ true
in_target (InTarget.variable x) = self x
in_target (InTarget.address x) = or_left (eqb x x) (eqb heap x) (self x)
in_target (InTarget.cell x) = or_right (eqb x heap) (eqb heap heap) refl

expression-in : (e : Expression) (r : ℕ) → expression_names e r ≡ true → InExpression e r
expression-in (Expression.Plain a) r h = InExpression.plain (operand_in a r h)
expression-in (Expression.Not a) r h = InExpression.negated (operand_in a r h)
expression-in (Expression.Two o a b) r h = go (or_cases (operand_names a r) (operand_names b r) h)
  where
    go : (operand_names a r ≡ true) ⊎ (operand_names b r ≡ true) → InExpression (Expression.Two o a b) r
    go (inl k) = InExpression.first (operand_in a r k)
    go (inr k) = InExpression.second (operand_in b r k)

in_expression : {e : Expression} {r : ℕ} → InExpression e r → expression_names e r ≡ true
in_expression (InExpression.plain i) = in_operand i
in_expression (InExpression.negated i) = in_operand i
in_expression (InExpression.first {a} {b} {r} i) = or_left (operand_names a r) (operand_names b r) (in_operand i)
in_expression (InExpression.second {a} {b} {r} i) = or_right (operand_names a r) (operand_names b r) (in_operand i)

entry_in : (e : Entry) (r : ℕ) → entry_names e r ≡ true → InEntry e r
entry_in (Entry.From l) r h = absurd (true_false h refl)
entry_in (Entry.Either l m e) r h = InEntry.condition (expression-in e r h)
entry_in (Entry.Begin l) r h = absurd (true_false h refl)

in_entry : {e : Entry} {r : ℕ} → InEntry e r → entry_names e r ≡ true
in_entry (InEntry.condition i) = in_expression i

exit_in : (e : Exit) (r : ℕ) → exit_names e r ≡ true → InExit e r
exit_in (Exit.To l) r h = absurd (true_false h refl)
exit_in (Exit.Either e l m) r h = InExit.condition (expression-in e r h)
exit_in (Exit.End l) r h = absurd (true_false h refl)

in_exit : {e : Exit} {r : ℕ} → InExit e r → exit_names e r ≡ true
in_exit (InExit.condition i) = in_expression i

-- an instruction names r, in V or P or elsewhere
pub other-in : (i : Instruction) (r : ℕ) → other_names i r ≡ true → InInstruction i r
other-in (Instruction.Update c a e) r h = go (or_cases (target_names a r) (expression_names e r) h)
  where
    go : (target_names a r ≡ true) ⊎ (expression_names e r ≡ true) → InInstruction (Instruction.Update c a e) r
    go (inl k) = InInstruction.updated (target-in a r k)
    go (inr k) = InInstruction.by (expression-in e r k)
other-in (Instruction.Exchange a b) r h = go (or_cases (target_names a r) (target_names b r) h)
  where
    go : (target_names a r ≡ true) ⊎ (target_names b r ≡ true) → InInstruction (Instruction.Exchange a b) r
    go (inl k) = InInstruction.left (target-in a r k)
    go (inr k) = InInstruction.right (target-in b r k)
other-in (Instruction.OpV x) r h = absurd (true_false h refl)
other-in (Instruction.OpP x) r h = absurd (true_false h refl)
other-in (Instruction.Assert e) r h = InInstruction.asserted (expression-in e r h)
other-in Instruction.Skip r h = absurd (true_false h refl)
other-in (Instruction.Call n) r h = absurd (true_false h refl)

semaphore-in : (i : Instruction) (r : ℕ) → semaphore_names i r ≡ true → InInstruction i r
semaphore-in (Instruction.Update c a e) r h = absurd (true_false h refl)
semaphore-in (Instruction.Exchange a b) r h = absurd (true_false h refl)
semaphore-in (Instruction.OpV x) r h = at (InInstruction (Instruction.OpV x)) x r h (InInstruction.in_v x)
semaphore-in (Instruction.OpP x) r h = at (InInstruction (Instruction.OpP x)) x r h (InInstruction.in_p x)
semaphore-in (Instruction.Assert e) r h = absurd (true_false h refl)
semaphore-in Instruction.Skip r h = absurd (true_false h refl)
semaphore-in (Instruction.Call n) r h = absurd (true_false h refl)

pub in_instruction : {i : Instruction} {r : ℕ} → InInstruction i r → (other_names i r ≡ true) ⊎ (semaphore_names i r ≡ true)
in_instruction (InInstruction.updated {c} {a} {e} {r} i) = inl (or_left (target_names a r) (expression_names e r) (in_target i))
in_instruction (InInstruction.by {c} {a} {e} {r} i) = inl (or_right (target_names a r) (expression_names e r) (in_expression i))
in_instruction (InInstruction.left {a} {b} {r} i) = inl (or_left (target_names a r) (target_names b r) (in_target i))
in_instruction (InInstruction.right {a} {b} {r} i) = inl (or_right (target_names a r) (target_names b r) (in_target i))
in_instruction (InInstruction.in_v x) = inr (self x)
in_instruction (InInstruction.in_p x) = inr (self x)
in_instruction (InInstruction.asserted i) = inl (in_expression i)

-- ---- read(b)
block_reads_decided : (b : Block) (r : ℕ) → block_reads b r ≡ true → Reads b r
unfolding block_reads block_names
block_reads_decided b r h = go (or_cases (block_names b r) (semaphore_names b.instruction r) h)
  where
    rest : (other_names b.instruction r ≡ true) ⊎ (exit_names b.exit r ≡ true) → Reads b r
    rest (inl k) = Reads.acting (other-in b.instruction r k)
    rest (inr k) = Reads.leaving (exit_in b.exit r k)

    names : (entry_names b.entry r ≡ true) ⊎ ((other_names b.instruction r || exit_names b.exit r) ≡ true) → Reads b r
    names (inl k) = Reads.entering (entry_in b.entry r k)
    names (inr k) = rest (or_cases (other_names b.instruction r) (exit_names b.exit r) k)

    go : (block_names b r ≡ true) ⊎ (semaphore_names b.instruction r ≡ true) → Reads b r
    go (inl k) = names (or_cases (entry_names b.entry r) (other_names b.instruction r || exit_names b.exit r) k)
    go (inr k) = Reads.acting (semaphore-in b.instruction r k)

-- what is read is named elsewhere than in V or P, or in V or P
pub reads-names : {b : Block} {r : ℕ} → Reads b r → (block_names b r ≡ true) ⊎ (semaphore_names b.instruction r ≡ true)
unfolding block_names
reads-names {b} {r} (Reads.entering i) = inl (or_left (entry_names b.entry r) (other_names b.instruction r || exit_names b.exit r) (in_entry i))
reads-names {b} {r} (Reads.acting i) = go (in_instruction i)
  where
    go :
        (other_names b.instruction r ≡ true) ⊎ (semaphore_names b.instruction r ≡ true) →
        (block_names b r ≡ true) ⊎ (semaphore_names b.instruction r ≡ true)
    go (inl k) =
        inl (or_right (entry_names b.entry r) (other_names b.instruction r || exit_names b.exit r)
        (or_left (other_names b.instruction r) (exit_names b.exit r) k))
    go (inr k) = inr k
reads-names {b} {r} (Reads.leaving i) =
    inl (or_right (entry_names b.entry r) (other_names b.instruction r || exit_names b.exit r)
    (or_right (other_names b.instruction r) (exit_names b.exit r) (in_exit i)))

reads-block : {b : Block} {r : ℕ} → Reads b r → block_reads b r ≡ true
unfolding block_reads
reads-block {b} {r} i = go (reads-names i)
  where
    go : (block_names b r ≡ true) ⊎ (semaphore_names b.instruction r ≡ true) → (block_names b r || semaphore_names b.instruction r) ≡ true
    go (inl k) = or_left (block_names b r) (semaphore_names b.instruction r) k
    go (inr k) = or_right (block_names b r) (semaphore_names b.instruction r) k

-- ---- write(b)
writes-in : (i : Instruction) (r : ℕ) → instruction_writes i r ≡ true → Changes i r
writes-in (Instruction.Update c (Target.Variable x) e) r h = at (Changes (Instruction.Update c (Target.Variable x) e)) x r h (Changes.ass_var x)
writes-in (Instruction.Update c (Target.Cell x) e) r h = at (Changes (Instruction.Update c (Target.Cell x) e)) heap r h (Changes.ass_arr x)
writes-in (Instruction.Exchange (Target.Variable x) (Target.Variable y)) r h = go (or_cases (eqb x r) (eqb y r) h)
  where
    go : (eqb x r ≡ true) ⊎ (eqb y r ≡ true) → Changes (Instruction.Exchange (Target.Variable x) (Target.Variable y)) r
    go (inl k) = at (Changes (Instruction.Exchange (Target.Variable x) (Target.Variable y))) x r k (Changes.swap_first x y)
    go (inr k) = at (Changes (Instruction.Exchange (Target.Variable x) (Target.Variable y))) y r k (Changes.swap_second x y)
writes-in (Instruction.Exchange (Target.Variable x) (Target.Cell y)) r h = go (or_cases (eqb x r) (eqb heap r) h)
  where
    go : (eqb x r ≡ true) ⊎ (eqb heap r ≡ true) → Changes (Instruction.Exchange (Target.Variable x) (Target.Cell y)) r
    go (inl k) = at (Changes (Instruction.Exchange (Target.Variable x) (Target.Cell y))) x r k (Changes.var_arr_var x y)
    go (inr k) = at (Changes (Instruction.Exchange (Target.Variable x) (Target.Cell y))) heap r k (Changes.var_arr_cell x y)
writes-in (Instruction.Exchange (Target.Cell y) (Target.Variable x)) r h = go (or_cases (eqb heap r) (eqb x r) h)
  where
    go : (eqb heap r ≡ true) ⊎ (eqb x r ≡ true) → Changes (Instruction.Exchange (Target.Cell y) (Target.Variable x)) r
    go (inl k) = at (Changes (Instruction.Exchange (Target.Cell y) (Target.Variable x))) heap r k (Changes.arr_var_cell x y)
    go (inr k) = at (Changes (Instruction.Exchange (Target.Cell y) (Target.Variable x))) x r k (Changes.arr_var_var x y)
writes-in (Instruction.Exchange (Target.Cell x) (Target.Cell y)) r h = go (or_cases (eqb heap r) (eqb heap r) h)
  where
    go : (eqb heap r ≡ true) ⊎ (eqb heap r ≡ true) → Changes (Instruction.Exchange (Target.Cell x) (Target.Cell y)) r
    go (inl k) = at (Changes (Instruction.Exchange (Target.Cell x) (Target.Cell y))) heap r k (Changes.arr_arr x y)
    go (inr k) = at (Changes (Instruction.Exchange (Target.Cell x) (Target.Cell y))) heap r k (Changes.arr_arr x y)
writes-in (Instruction.OpV x) r h = at (Changes (Instruction.OpV x)) x r h (Changes.op_v x)
writes-in (Instruction.OpP x) r h = at (Changes (Instruction.OpP x)) x r h (Changes.op_p x)
writes-in (Instruction.Assert e) r h = absurd (true_false h refl)
writes-in Instruction.Skip r h = absurd (true_false h refl)
writes-in (Instruction.Call n) r h = absurd (true_false h refl)

in_writes : {i : Instruction} {r : ℕ} → Changes i r → instruction_writes i r ≡ true
in_writes (Changes.ass_var x) = self x
in_writes (Changes.ass_arr x) = refl
in_writes (Changes.swap_first x y) = or_left (eqb x x) (eqb y x) (self x)
in_writes (Changes.swap_second x y) = or_right (eqb x y) (eqb y y) (self y)
in_writes (Changes.var_arr_var x y) = or_left (eqb x x) (eqb heap x) (self x)
in_writes (Changes.var_arr_cell x y) = or_right (eqb x heap) (eqb heap heap) refl
in_writes (Changes.arr_var_var x y) = or_right (eqb heap x) (eqb x x) (self x)
in_writes (Changes.arr_var_cell x y) = or_left (eqb heap heap) (eqb x heap) refl
in_writes (Changes.arr_arr x y) = refl
in_writes (Changes.op_v x) = self x
in_writes (Changes.op_p x) = self x

-- ---- the statement
pub record NamesDecided : Type 0 where
  -- A block reads a resource just where 004's read(b) has it.
  pub reads_decided : (b : Block) (r : ℕ) → (block_reads b r ≡ true) ↔ Reads b r
  -- It writes a resource just where 004's write(b) has it.
  pub writes_decided : (b : Block) (r : ℕ) → (block_writes b r ≡ true) ↔ Writes b r

pub names-decided : NamesDecided
unfolding block_writes
names-decided =
    record {
      reads_decided = λ b r. (block_reads_decided b r, reads-block);
      writes_decided = λ b r. (writes-in b.instruction r, in_writes);
    }
