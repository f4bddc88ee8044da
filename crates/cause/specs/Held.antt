-- What the scan for code 27 needs to know of the history, and what it finds.
use Rattle.std.specs.Prelude.{Option, Some, None, ◌≡◌, Bool, List, ℕ, suc, ◌+◌, ◌*◌, ◌<◌, ◌≤◌, length, drop, get_or}
use Rattle.rules.specs.Base.{some_of}
use Rattle.rules.specs.Machine.{Kept, view, history_count}
use Rattle.rules.specs.declared.Block.{Block}
use Rattle.laws.specs.Conflict.{conflicts}

-- entry i of a machine's words
abbrev pub kept_at : List ℕ → ℕ → Kept
kept_at w i = record { identifier = get_or w (482 + 2 * i) 0; block = get_or w (483 + 2 * i) 0 }

-- words with entry i, whose blocks are below a bound
pub record Scanned (w : List ℕ) (i bound : ℕ) : Type 0 where
  pub long : length w ≡ 8674
  pub kept : history_count w ≤ 4096
  pub here : i < history_count w
  pub blocks : (j : ℕ) → j < history_count w → get_or w (483 + 2 * j) 0 < bound

-- some later step conflicts with entry i
abbrev pub later_conflict : List Block → List ℕ → ℕ → Bool
later_conflict program w i = some_of (conflicts program (kept_at w i)) (drop (suc i) (view w).history)

-- entry r is the newest of p
pub record IsNewest (w : List ℕ) (p r : ℕ) : Type 0 where
  pub within : r < history_count w
  pub here : get_or w (482 + 2 * r) 0 ≡ p
  pub past : (j : ℕ) → r < j → j < history_count w → get_or w (482 + 2 * j) 0 ≡ p → ⊥

-- the place of the newest entry of p, where p has one
abbrev pub Newest : List ℕ → ℕ → Option ℕ → Type 0
Newest w p (Some r) = IsNewest w p r
Newest w p None = (j : ℕ) → j < history_count w → get_or w (482 + 2 * j) 0 ≡ p → ⊥

-- words with a history
pub record Long (w : List ℕ) : Type 0 where
  pub long : length w ≡ 8674
  pub kept : history_count w ≤ 4096
