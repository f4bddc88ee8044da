-- Counts that stay low: how high those of labels may go.
use Rattle.std.specs.Prelude.{ℕ, ◌*◌, ◌≤◌, List, get_or}
use Rattle.rules.specs.Format.{most_blocks}

-- blocks have at most eight labels each
abbrev pub most : ℕ
most = 8 * most_blocks

-- no count is over m
abbrev pub Low : ℕ → List ℕ → Type 0
Low m a = (x : ℕ) → get_or a x 0 ≤ m
