-- What an accepted image has by code 9 (004: "we assume variables in P and V instruction only appear as the parameters of P and V"): a block that
-- reads or writes a semaphore, as 004's read(b) and write(b) have it, is a V or a P of it. So a semaphore changes by V and P alone. Assumes that the
-- image is sound and that its blocks pass codes 9 to 15.
use Rattle.std.specs.Prelude.{◌≡◌, refl, ◌⊎◌, Bool, true, false, ◌&&◌, List, [], ◌∷◌, ℕ, zero, suc, ◌<◌, length, get_or}
use Rattle.std.proofs.Common.{sym, ap, ◌∙◌, subst, inl, inr, arith}
use Rattle.theory.specs.Tests.{true_false, true_and, eqb_same, eqb-eq, or_left, or_right}
use Rattle.rules.specs.Base.{some_of}
use Rattle.rules.specs.Format.{variables}
use Rattle.rules.specs.Names.{semaphore_names, block_names}
use Rattle.rules.specs.Labels.{no_block, block_of, semaphore, bad9}
use Rattle.rules.specs.Judge.{judged_blocks}
use Rattle.rules.specs.Resources.{InTarget, InInstruction, Reads, Changes, Writes}
use Rattle.rules.specs.declared.Instruction.{Instruction}
use Rattle.rules.specs.declared.Block.{Block}
use Rattle.rules.specs.Judgement.{Judgement}
use Rattle.laws.specs.Fit.{InstructionFit}
use Rattle.theorems.specs.Accepted.{IsAccepted, past-lowest}
use Rattle.theorems.specs.Held.{some_below_so}
use Rattle.theorems.specs.Program.{Sound}
use Rattle.theorems_more.specs.NamesDecided.{reads-names}

-- the instruction is V x or P x
abbrev pub IsOpOf : Instruction → ℕ → Type 0
IsOpOf i x = (i ≡ Instruction.OpV x) ⊎ (i ≡ Instruction.OpP x)

-- some block of the program is V x or P x
pub record IsSemaphore (program : List Block) (x : ℕ) : Type 0 where
  pub block : ℕ
  pub inside : block < length program
  pub by : IsOpOf (block_of program block).instruction x

-- What a block writes it reads: 004's write(b) is a part of read(b).
pub writes-read : {b : Block} {r : ℕ} → Writes b r → Reads b r
writes-read w = Reads.acting (in_changes w)
  where
    in_changes : {i : Instruction} {r : ℕ} → Changes i r → InInstruction i r
    in_changes (Changes.ass_var x) = InInstruction.updated (InTarget.variable x)
    in_changes (Changes.ass_arr x) = InInstruction.updated (InTarget.cell x)
    in_changes (Changes.swap_first x y) = InInstruction.left (InTarget.variable x)
    in_changes (Changes.swap_second x y) = InInstruction.right (InTarget.variable y)
    in_changes (Changes.var_arr_var x y) = InInstruction.left (InTarget.variable x)
    in_changes (Changes.var_arr_cell x y) = InInstruction.right (InTarget.cell y)
    in_changes (Changes.arr_var_var x y) = InInstruction.right (InTarget.variable x)
    in_changes (Changes.arr_var_cell x y) = InInstruction.left (InTarget.cell y)
    in_changes (Changes.arr_arr x y) = InInstruction.left (InTarget.cell x)
    in_changes (Changes.op_v x) = InInstruction.in_v x
    in_changes (Changes.op_p x) = InInstruction.in_p x

-- ---- V and P by their tests
op_named : (i : Instruction) (x : ℕ) → semaphore_names i x ≡ true → IsOpOf i x
op_named (Instruction.Update c a e) x h = absurd (true_false h refl)
op_named (Instruction.Exchange a b) x h = absurd (true_false h refl)
op_named (Instruction.OpV y) x h = inl (ap Instruction.OpV (eqb-eq y x h))
op_named (Instruction.OpP y) x h = inr (ap Instruction.OpP (eqb-eq y x h))
op_named (Instruction.Assert e) x h = absurd (true_false h refl)
op_named Instruction.Skip x h = absurd (true_false h refl)
op_named (Instruction.Call n) x h = absurd (true_false h refl)

named-op : (i : Instruction) (x : ℕ) → IsOpOf i x → semaphore_names i x ≡ true
named-op i x (inl e) = ap (λ (k : Instruction). semaphore_names k x) e ∙ eqb_same x x refl
named-op i x (inr e) = ap (λ (k : Instruction). semaphore_names k x) e ∙ eqb_same x x refl

op_variable : (i : Instruction) (x : ℕ) → IsOpOf i x → InstructionFit i → x < variables
op_variable i x (inl e) f = subst InstructionFit e f
op_variable i x (inr e) f = subst InstructionFit e f

some_at : (p : Block → Bool) (l : List Block) (c : ℕ) → c < length l → p (get_or l c no_block) ≡ true → some_of p l ≡ true
unfolding some_of
some_at p [] c lt h = absurd (omega arith)
some_at p (b ∷ l) zero lt h = or_left (p b) (some_of p l) h
some_at p (b ∷ l) (suc c) lt h = or_right (p b) (some_of p l) (some_at p l c (omega arith) h)

-- the blocks of an accepted image pass code 9
nine_passed : (program : List Block) (blocks peak : ℕ) → judged_blocks program ≡ Judgement.Accepted blocks peak → (b : ℕ) → b < length program → bad9 program (block_of program b) ≡ false
unfolding judged_blocks
nine_passed program blocks peak e =
    let x = past-lowest 9 (λ b. bad9 program (block_of program b)) (length program) _ (subst IsAccepted (sym e) tt) in
    x.0

module _ (program : List Block) (S : Sound program) (blocks peak : ℕ) (accepts : judged_blocks program ≡ Judgement.Accepted blocks peak) where
  -- A block that reads or writes a semaphore is a V or a P of it.
  pub semaphores_alone :
      (b x : ℕ) → b < length program → IsSemaphore program x → Reads (block_of program b) x ⊎ Writes (block_of program b) x →
      IsOpOf (block_of program b).instruction x
  unfolding bad9 semaphore
  semaphores_alone b x lt s u = go (reads-names (used u))
    where
      used : Reads (block_of program b) x ⊎ Writes (block_of program b) x → Reads (block_of program b) x
      used (inl r) = r
      used (inr w) = writes-read w

      one : semaphore program x ≡ true
      one = some_at (λ k. semaphore_names k.instruction x) program s.block s.inside (named-op _ x s.by)

      go : (block_names (block_of program b) x ≡ true) ⊎ (semaphore_names (block_of program b).instruction x ≡ true) →
          IsOpOf (block_of program b).instruction x
      go (inr k) = op_named (block_of program b).instruction x k
      go (inl k) =
          absurd
          (true_false
          (some_below_so (λ y. semaphore program y && block_names (block_of program b) y) variables x
          (op_variable (block_of program s.block).instruction x s.by (S.fit s.block s.inside).instruction)
          (true_and (semaphore program x) (block_names (block_of program b) x) one k))
          (nine_passed program blocks peak accepts b lt))
