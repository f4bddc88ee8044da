-- A search for a row by halves.
use Rattle.std.specs.Prelude.{ℕ, ◌+◌, ◌*◌, ◌<◌, ◌≤◌, ◌≡◌, List, get_or}
use Rattle.rules.specs.Machine.{live_count}

-- the identifiers of the rows side by side, and after them the highest number
pub record Identifiers (w ids : List ℕ) : Type 0 where
  pub rows : (i : ℕ) → i < live_count w → get_or ids i 0 ≡ get_or w (290 + 3 * i) 0
  pub past : (i : ℕ) → live_count w ≤ i → i < 64 → get_or ids i 0 ≡ 4294967295

-- the rows before r are below p, the rows after r above
pub record Around (w : List ℕ) (p r : ℕ) : Type 0 where
  pub below : (i : ℕ) → i < r → i < live_count w → get_or w (290 + 3 * i) 0 < p
  pub above : (i : ℕ) → r < i → i < live_count w → p < get_or w (290 + 3 * i) 0
