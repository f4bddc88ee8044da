-- The newest entry of a process in a history.
use Rattle.std.specs.Prelude.{ℕ, suc, ◌<◌, ◌≡◌, false, List, length, drop, get_or, eqb}
use Rattle.rules.specs.Base.{some_of}
use Rattle.rules.specs.Machine.{Kept}

-- entry i is the newest of p
pub record NewestAt (history : List Kept) (p i : ℕ) : Type 0 where
  pub there : i < length history
  pub own : (get_or history i (record { identifier = 0; block = 0 })).identifier ≡ p
  pub last : some_of (λ j. eqb j.identifier p) (drop (suc i) history) ≡ false
