-- No entry between i and j conflicts with i, by the masks.
use Rattle.std.proofs.Common.{◌≡◌, ℕ, false, ◌<◌}
use Rattle.cause.proofs.Scan.{by_masks}
use Rattle.cause.proofs.held.held.Given as goal

abbrev pub invariant-loop-j : goal.invariant-loop-j
invariant-loop-j l = (k : ℕ) → l.i < k → k < l.j → by_masks l.masks l.m l.i k ≡ false
