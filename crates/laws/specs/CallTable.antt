-- A call table: how many labels each block calls, and eight places for them a block.
use Rattle.std.specs.Prelude.{ℕ, zero, suc, ◌*◌, List, [], ◌∷◌, ◌++◌, get_or, take, drop}
use Rattle.rules.specs.Calls.{Calling}

-- the labels that each of the first n blocks calls
unfoldable pub calls_from : List ℕ → List ℕ → ℕ → List (List ℕ)
calls_from counts names zero = []
calls_from counts names (suc b) = calls_from counts names b ++ take (get_or counts b 0) (drop (8 * b) names) ∷ []

-- what rules calls a `Calling`, of the first n blocks; `homes` has the label of each block's process block
abbrev pub calling_from : List ℕ → List ℕ → List ℕ → ℕ → Calling
calling_from homes counts names n = record { homes = take n homes; calls = calls_from counts names n }
