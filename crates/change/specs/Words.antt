-- Changes of a machine's words, as the code makes them: what each edit leaves. The laws in proofs/ take each to `pack` of the
-- changed machine.
use Rattle.std.specs.Prelude.{ℕ, ◌+◌, ◌-◌, ◌*◌, List, ◌++◌, take, drop, set}
use Rattle.rules.specs.Base.{zeros}
use Rattle.machine.specs.Splice.{splice}
use Rattle.rules.specs.Machine.{memory_at, live_count, history_count}

-- a value of the memory
unfoldable pub written_words : List ℕ → ℕ → ℕ → List ℕ
written_words w at v = set w (memory_at + at) v

-- an entry kept; the entry at i closed up
unfoldable pub kept_entry : List ℕ → ℕ → ℕ → List ℕ
kept_entry w p b = set (set (set w (482 + 2 * history_count w) p) (483 + 2 * history_count w) b) 1 (history_count w + 1)

unfoldable pub closed_entry : List ℕ → ℕ → List ℕ
closed_entry w i =
    let n = history_count w in
    set (splice w (482 + 2 * i) (take (2 * (n - 1 - i)) (drop (482 + 2 * i + 2) w) ++ zeros 2) (482 + 2 * n)) 1 (n - 1)

-- row i at another label and stage
unfoldable pub moved_row : List ℕ → ℕ → ℕ → ℕ → List ℕ
moved_row w i l s = set (set w (291 + 3 * i) l) (292 + 3 * i) s

-- n rows, given by their words, put in at row i; n rows from row i on taken out
unfoldable pub inserted_rows : List ℕ → ℕ → ℕ → List ℕ → List ℕ
inserted_rows w i n new =
    let live = live_count w in
    set (splice w (290 + 3 * i) (new ++ take (3 * (live - i)) (drop (290 + 3 * i) w)) (290 + 3 * (live + n))) 0 (live + n)

unfoldable pub removed_rows : List ℕ → ℕ → ℕ → List ℕ
removed_rows w i n =
    let live = live_count w in
    set (splice w (290 + 3 * i) (take (3 * (live - i - n)) (drop (290 + 3 * i + 3 * n) w) ++ zeros (3 * n)) (290 + 3 * live)) 0 (live - n)
