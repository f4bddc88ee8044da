-- What the entry, the instruction and the exit name, together.
use Rattle.std.proofs.Common.{◌≡◌, refl, ℕ, Bool, true, false, ◌||◌, bit_or}
use Rattle.rules.specs.Names.{block_reads, block_names, entry_names, exit_names, other_names, semaphore_names}
use Rattle.rules.specs.declared.Block.{Block}
use Rattle.masks.specs.Mask.{Mask, instruction_names}
use Rattle.masks.proofs.Bits.{mask_or, mask_same}
use Rattle.masks.proofs.mask.reads.Goals as goal

-- the code joins the instruction's names before the exit's
regroup : (a b c d : Bool) → (a || (b || c) || d) ≡ ((a || (b || d)) || c)
regroup true b c d = refl
regroup false true c d = refl
regroup false false true true = refl
regroup false false true false = refl
regroup false false false true = refl
regroup false false false false = refl

joined : (b : Block) (x y z : ℕ)
    → Mask (entry_names b.entry) x
    → Mask (instruction_names b.instruction) y
    → Mask (exit_names b.exit) z
    → Mask (block_reads b) (bit_or (bit_or x y) z)
unfolding block_reads block_names
joined b x y z e i o =
    mask_same (λ r. regroup (entry_names b.entry r) (other_names b.instruction r) (semaphore_names b.instruction r) (exit_names b.exit r))
    (mask_or (mask_or e i) o)

pub returns : goal.returns
returns c = joined c.args.b.now _ _ _ c.entry.ensures c.instruction.ensures c.exit.ensures
