-- The table has the marks of the blocks that are passed.
use Rattle.std.proofs.Common.{ℕ, ◌≡◌, false, length, take, get_or}
use Rattle.rules.specs.Labels.{semaphore}
use Rattle.semaphores.proofs.marks.Given as goal

abbrev pub invariant-loop-block : goal.invariant-loop-block
invariant-loop-block l = record { long : length l.table ≡ 256; marked : (x : ℕ) → get_or l.table x false ≡ semaphore (take l.block-index l.blocks) x }
