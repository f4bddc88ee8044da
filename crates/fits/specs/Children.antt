-- The children of each live process, counted.
use Rattle.std.specs.Prelude.{ℕ, ◌+◌, ◌*◌, ◌<◌, ◌≡◌, Bool, ◌||◌, List, length, get_or, eqb}
use Rattle.rules.specs.Base.{pick}
use Rattle.rules.specs.Machine.{Process, is_child_of, children, live_count, view}
use Rattle.rules.specs.Fits.{called_at}
use Rattle.rules.specs.declared.Block.{Block}

-- one more child at the row whose child the identifier is
pub record OneMore (w : List ℕ) (p : ℕ) (before after : List ℕ) : Type 0 where
  pub size : length after ≡ length before
  pub each : (i : ℕ) → i < live_count w → get_or after i 0 ≡ get_or before i 0 + pick (is_child_of (get_or w (290 + 3 * i) 0) p) 1 0

-- how many children the process of each row has
abbrev pub Tally : List ℕ → List ℕ → Type 0
Tally w t = (i : ℕ) → i < live_count w → get_or t i 0 ≡ length (children (view w).rows (get_or w (290 + 3 * i) 0))

-- none, or as many as the call names
unfoldable pub whole_family : List Block → List Process → Process → Bool
whole_family program rows r =
    eqb (length (children rows r.identifier)) 0 || eqb (length (children rows r.identifier)) (length (called_at program r.stands))
