-- Words in order: the clauses of code 17 that need no program. The others are tested on such words.
use Rattle.std.specs.Prelude.{ℕ, ◌≤◌, ◌≡◌, Bool, true, ◌&&◌, List, length}
use Rattle.rules.specs.Machine.{live_count, history_count, view}
use Rattle.rules.specs.Fits.{counts_fit, unused_zero, ascending}

unfoldable pub in_order : List ℕ → Bool
in_order w = counts_fit w && (unused_zero w && ascending (view w).rows)

pub record Ordered (w : List ℕ) : Type 0 where
  pub long : length w ≡ 8674
  pub live : live_count w ≤ 64
  pub kept : history_count w ≤ 4096
  pub ascends : ascending (view w).rows ≡ true
