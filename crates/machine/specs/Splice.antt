-- Words replaced in the middle of a list.
use Rattle.std.specs.Prelude.{ℕ, List, ◌++◌, take, drop}

-- the words from `at` up to `e` replaced by y
unfoldable pub splice : List ℕ → ℕ → List ℕ → ℕ → List ℕ
splice l at y e = take at l ++ y ++ drop e l
