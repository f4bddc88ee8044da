-- Room for the rows of new children, and where they begin.
use Rattle.std.specs.Prelude.{ℕ, ◌≡◌, ◌+◌, ◌<◌, ◌≤◌, List, Result, Ok, Err}
use Rattle.rules.specs.Machine.{live_count, child}
use Rattle.rules.specs.declared.Code.{Code}
use Rattle.step.specs.Ready.{FirstFrom}

-- where count more rows of children of p go in, or 28 where they are too many
abbrev pub Room : List ℕ → ℕ → ℕ → Result ℕ Code → Type 0
Room w p count (Ok first) = (live_count w + count ≤ 64) × FirstFrom w (child p 1) first
Room w p count (Err code) = (64 < live_count w + count) × (code ≡ Code.NoRoom)
