-- Code 14 passed: no block is reached from itself through calls.
use Rattle.std.specs.Prelude.{ℕ, ◌<◌, ◌≡◌, false, length}
use Rattle.rules.specs.Calls.{Calling, bad14}

abbrev pub Acyclic : Calling → Type 0
Acyclic t = (b : ℕ) → b < length t.calls → bad14 t b ≡ false
