-- A history that an undo can be asked on.
use Rattle.std.specs.Prelude.{ℕ, ◌+◌, ◌*◌, ◌<◌, ◌≤◌, ◌≡◌, List, length, get_or}
use Rattle.rules.specs.Machine.{history_count}

-- words with a history whose blocks are below a bound
pub record BlocksBelow (w : List ℕ) (bound : ℕ) : Type 0 where
  pub long : length w ≡ 8674
  pub kept : history_count w ≤ 4096
  pub blocks : (j : ℕ) → j < history_count w → get_or w (483 + 2 * j) 0 < bound
