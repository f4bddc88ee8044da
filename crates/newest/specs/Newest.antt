-- The newest entry of each live process.
use Rattle.std.specs.Prelude.{ℕ, ◌+◌, ◌*◌, ◌<◌, ◌≡◌, List, length, get_or, eqb, Option, Some, None}
use Rattle.rules.specs.Base.{pick}
use Rattle.rules.specs.Machine.{live_count, view}
use Rattle.rules.specs.Fits.{newest}
use Rattle.laws.specs.Found.{given}

-- an entry is noted at its process's row
pub record Noted (w : List ℕ) (p block : ℕ) (before after : List (Option ℕ)) : Type 0 where
  pub size : length after ≡ length before
  pub each : (i : ℕ) → i < live_count w
      → get_or after i None ≡ pick (eqb p (get_or w (290 + 3 * i) 0)) (Some block) (get_or before i None)

abbrev pub NewestOf : List ℕ → List (Option ℕ) → Type 0
NewestOf w t = (i : ℕ) → i < live_count w → given (get_or t i None) ≡ newest (view w).history (get_or w (290 + 3 * i) 0)
