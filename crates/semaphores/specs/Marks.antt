-- Tables of marks, one for each byte.
use Rattle.std.specs.Prelude.{ℕ, ◌≡◌, Bool, false, ◌||◌, List, length, get_or}

-- those of p are marked besides
pub record Marked (before : List Bool) (p : ℕ → Bool) (after : List Bool) : Type 0 where
  pub size : length after ≡ length before
  pub each : (x : ℕ) → get_or after x false ≡ get_or before x false || p x
