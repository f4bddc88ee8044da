-- What a block reads is one of the 33 resources; so kept steps that do not conflict are apart in the theory's sense. Assumes that
-- the image is sound.
use Rattle.std.specs.Prelude.{◌≡◌, ◌⊎◌, Bool, ◌&&◌, ◌||◌, List, [], ◌∷◌, map, ℕ, ◌<◌, length, eqb}
use Rattle.std.proofs.Math.Path.{refl, sym, ap}
use Rattle.std.proofs.Common.{◌∙◌, inl, inr, arith, eqb-true, ltb-true, ltb-false, lt-ltb}
use Rattle.std.proofs.Math.Bool.{true, false}
use Rattle.std.proofs.Math.ListN.{get_or-eq_default}
use Rattle.std.proofs.Math.Dec.{ltb}
use Rattle.theory.specs.Tests.{bool_cases, true_false, or_cases}
use Rattle.theory.specs.Histories.{Indep, Apart}
use Rattle.theory.specs.Local.{feet}
use Rattle.rules.specs.Format.{variables}
use Rattle.rules.specs.Names.{heap, resources, operand_names, target_names, expression_names, entry_names, exit_names, semaphore_names, other_names, block_names, block_reads}
use Rattle.rules.specs.Labels.{block_of, no_block}
use Rattle.rules.specs.Machine.{Kept}
use Rattle.rules.specs.Cause.{reads, writes}
use Rattle.rules.specs.declared.Operand.{Operand}
use Rattle.rules.specs.declared.Target.{Target}
use Rattle.rules.specs.declared.Expression.{Expression}
use Rattle.rules.specs.declared.Instruction.{Instruction}
use Rattle.rules.specs.declared.Entry.{Entry}
use Rattle.rules.specs.declared.Exit.{Exit}
use Rattle.rules.specs.declared.Block.{Block}
use Rattle.theorems.specs.Graphs.{feet_of, written_read}
use Rattle.laws.specs.Fit.{OperandFit, TargetFit, ExpressionFit, EntryFit, ExitFit, InstructionFit, BlockFit}
use Rattle.theorems.specs.Parts.{reads_of, writes_of}
use Rattle.theorems.specs.Program.{Sound, real}
use Rattle.theorems.specs.Forward.{entry_of}

one_name : (x r : ℕ) → x < variables → eqb x r ≡ true → r < resources
one_name x r f h = let e = eqb-true x r h in omega (arith, e, f)

cell-names : (x r : ℕ) → x < variables → (eqb x r || eqb heap r) ≡ true → r < resources
cell-names x r f h = go (or_cases (eqb x r) (eqb heap r) h)
  where
    go : (eqb x r ≡ true) ⊎ (eqb heap r ≡ true) → r < resources
    go (inl y) = one_name x r f y
    go (inr y) = let e = eqb-true heap r y in omega (arith, e)

operand-named : (a : Operand) (r : ℕ) → OperandFit a → operand_names a r ≡ true → r < resources
operand-named (Operand.Constant v) r f h = absurd (true_false h refl)
operand-named (Operand.Variable x) r f h = one_name x r f h
operand-named (Operand.Cell x) r f h = cell-names x r f h

target-named : (a : Target) (r : ℕ) → TargetFit a → target_names a r ≡ true → r < resources
target-named (Target.Variable x) r f h = one_name x r f h
target-named (Target.Cell x) r f h = cell-names x r f h

expression-named : (e : Expression) (r : ℕ) → ExpressionFit e → expression_names e r ≡ true → r < resources
expression-named (Expression.Plain a) r f h = operand-named a r f h
expression-named (Expression.Not a) r f h = operand-named a r f h
expression-named (Expression.Two o a b) r f h = go (or_cases (operand_names a r) (operand_names b r) h)
  where
    go : (operand_names a r ≡ true) ⊎ (operand_names b r ≡ true) → r < resources
    go (inl x) = operand-named a r f.0 x
    go (inr x) = operand-named b r f.1 x

entry_named : (e : Entry) (r : ℕ) → EntryFit e → entry_names e r ≡ true → r < resources
entry_named (Entry.From l) r f h = absurd (true_false h refl)
entry_named (Entry.Either l m e) r f h = expression-named e r f.2 h
entry_named (Entry.Begin l) r f h = absurd (true_false h refl)

exit_named : (e : Exit) (r : ℕ) → ExitFit e → exit_names e r ≡ true → r < resources
exit_named (Exit.To l) r f h = absurd (true_false h refl)
exit_named (Exit.Either e l m) r f h = expression-named e r f.2 h
exit_named (Exit.End l) r f h = absurd (true_false h refl)

other-named : (i : Instruction) (r : ℕ) → InstructionFit i → other_names i r ≡ true → r < resources
other-named (Instruction.Update change a e) r f h = go (or_cases (target_names a r) (expression_names e r) h)
  where
    go : (target_names a r ≡ true) ⊎ (expression_names e r ≡ true) → r < resources
    go (inl x) = target-named a r f.0 x
    go (inr x) = expression-named e r f.1 x
other-named (Instruction.Exchange a b) r f h = go (or_cases (target_names a r) (target_names b r) h)
  where
    go : (target_names a r ≡ true) ⊎ (target_names b r ≡ true) → r < resources
    go (inl x) = target-named a r f.0 x
    go (inr x) = target-named b r f.1 x
other-named (Instruction.OpV x) r f h = absurd (true_false h refl)
other-named (Instruction.OpP x) r f h = absurd (true_false h refl)
other-named (Instruction.Assert e) r f h = expression-named e r f h
other-named Instruction.Skip r f h = absurd (true_false h refl)
other-named (Instruction.Call n) r f h = absurd (true_false h refl)

semaphore-named : (i : Instruction) (r : ℕ) → InstructionFit i → semaphore_names i r ≡ true → r < resources
semaphore-named (Instruction.Update change a e) r f h = absurd (true_false h refl)
semaphore-named (Instruction.Exchange a b) r f h = absurd (true_false h refl)
semaphore-named (Instruction.OpV x) r f h = one_name x r f h
semaphore-named (Instruction.OpP x) r f h = one_name x r f h
semaphore-named (Instruction.Assert e) r f h = absurd (true_false h refl)
semaphore-named Instruction.Skip r f h = absurd (true_false h refl)
semaphore-named (Instruction.Call n) r f h = absurd (true_false h refl)

block-named : (b : Block) (r : ℕ) → BlockFit b → block_reads b r ≡ true → r < resources
unfolding block_reads block_names
block-named b r f h = go (or_cases (block_names b r) (semaphore_names b.instruction r) h)
  where
    rest : (other_names b.instruction r ≡ true) ⊎ (exit_names b.exit r ≡ true) → r < resources
    rest (inl x) = other-named b.instruction r f.instruction x
    rest (inr x) = exit_named b.exit r f.exit x

    names : (entry_names b.entry r ≡ true) ⊎ ((other_names b.instruction r || exit_names b.exit r) ≡ true) → r < resources
    names (inl x) = entry_named b.entry r f.entry x
    names (inr x) = rest (or_cases (other_names b.instruction r) (exit_names b.exit r) x)

    go : (block_names b r ≡ true) ⊎ (semaphore_names b.instruction r ≡ true) → r < resources
    go (inl x) = names (or_cases (entry_names b.entry r) (other_names b.instruction r || exit_names b.exit r) x)
    go (inr x) = semaphore-named b.instruction r f.instruction x

nothing-named : (r : ℕ) → block_reads no_block r ≡ false
unfolding block_reads block_names
nothing-named r = refl

module _ (program : List Block) (S : Sound program) where
  pub near : (b r : ℕ) → reads_of program b r ≡ true → r < resources
  near b r h = go (bool_cases (ltb b (length program)))
    where
      go : (ltb b (length program) ≡ true) ⊎ (ltb b (length program) ≡ false) → r < resources
      go (inl x) = block-named (block_of program b) r (S.fit b (ltb-true b (length program) x)) h
      go (inr x) =
          let e : block_of program b ≡ no_block = get_or-eq_default program no_block (ltb-false b (length program) x) in
          absurd (true_false h (ap (λ (k : Block). block_reads k r) e ∙ nothing-named r))

  -- what a kept step reads and writes, among the 33 resources and without them
  pub reads_same : (k : Kept) (r : ℕ) → (ltb r resources && reads program k r) ≡ reads_of program k.block r
  unfolding reads
  reads_same k r = go (bool_cases (reads_of program k.block r))
    where
      go :
          (reads_of program k.block r ≡ true) ⊎ (reads_of program k.block r ≡ false) →
          (ltb r resources && reads_of program k.block r) ≡ reads_of program k.block r
      go (inl h) = ap (λ (t : Bool). t && reads_of program k.block r) (lt-ltb r resources (near k.block r h))
      go (inr h) = ap (λ (t : Bool). ltb r resources && t) h ∙ none (ltb r resources) ∙ sym h
        where
          none : (t : Bool) → (t && false) ≡ false
          none true = refl
          none false = refl

  pub writes-same : (k : Kept) (r : ℕ) → (ltb r resources && writes program k r) ≡ writes_of program k.block r
  unfolding writes
  writes-same k r = go (bool_cases (writes_of program k.block r))
    where
      go :
          (writes_of program k.block r ≡ true) ⊎ (writes_of program k.block r ≡ false) →
          (ltb r resources && writes_of program k.block r) ≡ writes_of program k.block r
      go (inl h) =
          ap (λ (t : Bool). t && writes_of program k.block r)
          (lt-ltb r resources (near k.block r (written_read (block_of program k.block) r h)))
      go (inr h) = ap (λ (t : Bool). ltb r resources && t) h ∙ none (ltb r resources) ∙ sym h
        where
          none : (t : Bool) → (t && false) ≡ false
          none true = refl
          none false = refl

  pub indep-same :
      (k j : Kept) → Indep (feet_of program) k j →
      Indep (feet (reads_of program) (writes_of program) (real program S).written_read) (entry_of k) (entry_of j)
  indep-same k j i = (
    (λ r w. sym (reads_same j r) ∙ i.0 r (writes-same k r ∙ w)),
    (λ r w. sym (reads_same k r) ∙ i.1 r (writes-same j r ∙ w)),
  )

  pub apart-same :
      (k : Kept) (later : List Kept) → Apart (feet_of program) k later →
      Apart (feet (reads_of program) (writes_of program) (real program S).written_read) (entry_of k) (map entry_of later)
  apart-same k [] a = tt
  apart-same k (j ∷ later) a = (a.0, indep-same k j a.1, apart-same k later a.2)
