-- The masks of the blocks before b stand in both tables.
use Rattle.std.proofs.Common.{ℕ, ◌≡◌, ◌<◌, length, get_or}
use Rattle.rules.specs.Names.{block_reads, block_writes}
use Rattle.rules.specs.Labels.{block_of}
use Rattle.masks.specs.Mask.{Mask}
use Rattle.masks.proofs.Masks.of.Given as goal

abbrev pub invariant-loop-b : goal.invariant-loop-b
invariant-loop-b l = record {
  reads_room : length l.reads ≡ 128;
  writes_room : length l.writes ≡ 128;
  reads_stand : (k : ℕ) → k < l.b → Mask (block_reads (block_of l.blocks k)) (get_or l.reads k 0);
  writes_stand : (k : ℕ) → k < l.b → Mask (block_writes (block_of l.blocks k)) (get_or l.writes k 0);
}
