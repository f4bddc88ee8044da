-- The machine, document 01: as the rules speak of it, as its 8,674 words, and just started.
use Rattle.std.specs.Prelude.{ℕ, zero, suc, ◌+◌, ◌-◌, ◌*◌, ◌/◌, Bool, not, ◌&&◌, List, [], ◌∷◌, ◌++◌, length, take, drop, get_or, eqb}
use Rattle.std.proofs.Math.Option.{Option, none, some}
use Rattle.rules.specs.Base.{pick, those, zeros}
use Rattle.rules.specs.Format.{variables, cells, main}
use Rattle.rules.specs.Calls.{most_rows}
use Rattle.rules.specs.declared.Place.{Place}

-- stages
abbrev pub begin : ℕ
begin = 0

abbrev pub run : ℕ
run = 1

abbrev pub end : ℕ
end = 2

abbrev pub place : ℕ → ℕ → Place
place label stage = record { label = label; stage = stage }

-- a process row, and an entry of the history: a kept step
pub record Process : Type 0 where
  pub identifier : ℕ
  pub stands : Place

pub record Kept : Type 0 where
  pub identifier : ℕ
  pub block : ℕ

-- the memory is 288 values, the variables and then the cells; rows ascend by identifier; history is in order of making
pub record Machine : Type 0 where
  pub memory : List ℕ
  pub rows : List Process
  pub history : List Kept

-- ---- identifiers
-- the root is 0; child i of p is 16p + i
abbrev pub root : ℕ
root = 0

abbrev pub child : ℕ → ℕ → ℕ
child p i = 16 * p + i

abbrev pub parent : ℕ → ℕ
parent p = p / 16

abbrev pub is_child_of : ℕ → ℕ → Bool
is_child_of p q = not (eqb q root) && eqb (parent q) p

-- ---- rows
-- where a live process stands
unfoldable pub standing : List Process → ℕ → Option Place
standing [] p = none
standing (r ∷ rows) p = pick (eqb r.identifier p) (some r.stands) (standing rows p)

-- the children of a process
unfoldable pub children : List Process → ℕ → List Process
children rows p = those (λ r. is_child_of p r.identifier) rows

-- ---- the words: live count, history count, memory, 64 rows, 4,096 history entries
abbrev pub memory_words : ℕ
memory_words = variables + cells

abbrev pub row_words : ℕ
row_words = 3

abbrev pub kept_words : ℕ
kept_words = 2

abbrev pub most_kept : ℕ
most_kept = 4096

abbrev pub memory_at : ℕ
memory_at = 2

abbrev pub rows_at : ℕ
rows_at = memory_at + memory_words

abbrev pub history_at : ℕ
history_at = rows_at + row_words * most_rows

abbrev pub machine_words : ℕ
machine_words = history_at + kept_words * most_kept

abbrev pub live_count : List ℕ → ℕ
live_count words = get_or words 0 0

abbrev pub history_count : List ℕ → ℕ
history_count words = get_or words 1 0

-- packed: identifier, label, stage of each row; identifier, block of each entry; unused rows and entries are zero
unfoldable pub pack_rows : List Process → List ℕ
pack_rows [] = []
pack_rows (r ∷ rows) = r.identifier ∷ r.stands.label ∷ r.stands.stage ∷ pack_rows rows

unfoldable pub pack_history : List Kept → List ℕ
pack_history [] = []
pack_history (k ∷ history) = k.identifier ∷ k.block ∷ pack_history history

unfoldable pub padded : ℕ → List ℕ → List ℕ
padded n l = l ++ zeros (n - length l)

unfoldable pub pack : Machine → List ℕ
pack m =
    length m.rows
    ∷ length m.history
    ∷ m.memory
    ++ padded (row_words * most_rows) (pack_rows m.rows)
    ++ padded (kept_words * most_kept) (pack_history m.history)

-- and viewed: n rows, or n entries, read off words
unfoldable pub view_rows : ℕ → List ℕ → List Process
view_rows zero words = []
view_rows (suc n) words =
    record { identifier = get_or words 0 0; stands = place (get_or words 1 0) (get_or words 2 0) } ∷ view_rows n (drop row_words words)

unfoldable pub view_history : ℕ → List ℕ → List Kept
view_history zero words = []
view_history (suc n) words = record { identifier = get_or words 0 0; block = get_or words 1 0 } ∷ view_history n (drop kept_words words)

unfoldable pub view : List ℕ → Machine
view words =
    record {
      memory = take memory_words (drop memory_at words);
      rows = view_rows (live_count words) (drop rows_at words);
      history = view_history (history_count words) (drop history_at words);
    }

-- ---- the start: the root at main, begin, with no history
unfoldable pub started : List ℕ → Machine
started first = record { memory = first; rows = record { identifier = root; stands = place main begin } ∷ []; history = [] }
