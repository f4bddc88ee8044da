-- Numbers that are each below a bound.
use Rattle.std.specs.Prelude.{ℕ, ◌<◌, List, get_or}

-- each number of the list is below m
abbrev pub Below : ℕ → List ℕ → Type 0
Below m l = (x : ℕ) → get_or l x 0 < m
