-- The row of a process in a machine's words.
use Rattle.std.specs.Prelude.{ℕ, ◌+◌, ◌*◌, List, get_or, eqb}
use Rattle.rules.specs.Base.{lowest}
use Rattle.rules.specs.Machine.{live_count}

-- the lowest row with the identifier, or the live count where there is none
unfoldable pub row_of : List ℕ → ℕ → ℕ
row_of w p = lowest (λ i. eqb (get_or w (290 + 3 * i) 0) p) (live_count w)
