-- A machine with one entry or some rows changed, by their place in the list. The laws in proofs/ take each to the change by
-- identifier that rules' Step makes.
use Rattle.std.specs.Prelude.{ℕ, zero, suc, ◌+◌, List, [], ◌∷◌, ◌++◌, take, drop}
use Rattle.rules.specs.Machine.{Process, Machine, place}

-- an entry put at the end; the entry at i taken out
unfoldable pub kept : Machine → ℕ → ℕ → Machine
kept m p b = record { memory = m.memory; rows = m.rows; history = m.history ++ (record { identifier = p; block = b } ∷ []) }

unfoldable pub without : Machine → ℕ → Machine
without m i = record { memory = m.memory; rows = m.rows; history = take i m.history ++ drop (suc i) m.history }

-- row i at another label and stage
unfoldable pub row_at : List Process → ℕ → ℕ → ℕ → List Process
row_at [] i l s = []
row_at (r ∷ rows) zero l s = record { identifier = r.identifier; stands = place l s } ∷ rows
row_at (r ∷ rows) (suc i) l s = r ∷ row_at rows i l s

unfoldable pub moved : Machine → ℕ → ℕ → ℕ → Machine
moved m i l s = record { memory = m.memory; rows = row_at m.rows i l s; history = m.history }

-- rows put in at a place; n rows taken out from a place
unfoldable pub inserted : Machine → ℕ → List Process → Machine
inserted m at new = record { memory = m.memory; rows = take at m.rows ++ new ++ drop at m.rows; history = m.history }

unfoldable pub removed : Machine → ℕ → ℕ → Machine
removed m at n = record { memory = m.memory; rows = take at m.rows ++ drop (at + n) m.rows; history = m.history }
