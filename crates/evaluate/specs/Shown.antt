-- Pending writes made in a memory, and answers as rules tries them.
use Rattle.std.specs.Prelude.{ℕ, ◌<◌, List, set, Result, Ok, Err}
use Rattle.rules.specs.Codes.{number}
use Rattle.rules.specs.Machine.{memory_words}
use Rattle.rules.specs.Leaf.{Tried, made, refused}
use Rattle.rules.specs.declared.Code.{Code}
use Rattle.evaluate.specs.declared.Writes.{Writes}

-- the memory once the writes are made
unfoldable pub written : Writes → List ℕ → List ℕ
written Writes.Nothing memory = memory
written (Writes.One at value) memory = set memory at value
written (Writes.Two first value second other) memory = set (set memory first value) second other

-- each place that is written lies in the memory
abbrev pub WritesFit : Writes → Type 0
WritesFit Writes.Nothing = Unit {0}
WritesFit (Writes.One at value) = at < memory_words
WritesFit (Writes.Two first value second other) = (first < memory_words) × (second < memory_words)

-- an answer as rules tries it: what f makes of what it holds, or its code
abbrev pub tried_as : {A B : Type 0} → (A → B) → Result A Code → Tried B
tried_as f (Ok a) = made (f a)
tried_as f (Err code) = refused (number code)
