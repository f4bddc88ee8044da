-- No entry from `at` on is the process's.
use Rattle.std.proofs.Common.{◌≡◌, ℕ, ◌+◌, ◌*◌, ◌<◌, ◌≤◌, get_or}
use Rattle.rules.specs.Machine.{history_count}
use Rattle.cause.proofs.newest.newest.Given as goal

abbrev pub invariant-loop-at : goal.invariant-loop-at
invariant-loop-at l = (j : ℕ) → l.at ≤ j → j < history_count l.m → get_or l.m (482 + 2 * j) 0 ≡ l.identifier → ⊥
