-- Each block that is passed has its home.
use Rattle.std.proofs.Common.{ℕ, ◌≡◌, ◌<◌, get_or, length}
use Rattle.processes.specs.Own.{first_begin}
use Rattle.processes.proofs.own.Own.homes.Given as goal

abbrev pub invariant-loop-b : goal.invariant-loop-b
invariant-loop-b l = (length l.homes ≡ 128) × ((k : ℕ) → k < l.b → get_or l.homes k 0 ≡ first_begin l.self (get_or l.groups.numbers k 0))
