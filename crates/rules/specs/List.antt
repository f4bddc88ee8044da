-- The list, document 01: for an accepted image and machine, one row of three numbers a live process, the rest zero.
use Rattle.std.specs.Prelude.{ℕ, ◌-◌, ◌&&◌, List, ◌++◌, map, length, replicate, eqb}
use Rattle.rules.specs.Base.{pick}
use Rattle.rules.specs.Calls.{most_rows}
use Rattle.rules.specs.Machine.{Process, Machine, machine_words, view}
use Rattle.rules.specs.Fits.{fits}
use Rattle.rules.specs.Leaf.{Tried, made, refused}
use Rattle.rules.specs.Step.{forward, undo}
use Rattle.rules.specs.Words.{Outcome, refuse, accept, on_image, words_of, has_words}
use Rattle.rules.specs.declared.Block.{Block}
use Rattle.rules.specs.declared.Row.{Row}

-- the code that a step would answer
abbrev pub code_of : Tried Machine → ℕ
code_of (made m) = 0
code_of (refused code) = code

-- identifier, forward code, undo code
unfoldable pub row_of : List Block → Machine → Process → Row
row_of program m r =
    record {
      identifier = r.identifier;
      forward = code_of (forward program m r.identifier r.stands);
      undo = code_of (undo program m r.identifier r.stands);
    }

abbrev pub zero_row : Row
zero_row = record { identifier = 0; forward = 0; undo = 0 }

unfoldable pub rows_of : List Block → Machine → List Row
rows_of program m = map (row_of program m) m.rows ++ replicate (most_rows - length m.rows) zero_row

-- 64 rows, else 16, as for a machine of another length
unfoldable pub list_in : List ℕ → List Row → List Block → Outcome (List Row)
list_in words rows program =
    pick (eqb (length words) machine_words && eqb (length rows) most_rows)
    (pick (fits program words) (accept (rows_of program (view words))) (refuse 17 0 rows))
    (refuse 16 0 rows)

unfoldable pub list : List ℕ → List ℕ → List Row → Outcome (List Row)
list image words rows = on_image image rows (list_in words rows)

-- with the machine as bytes
unfoldable pub list_bytes_in : List ℕ → List Row → List Block → Outcome (List Row)
list_bytes_in bytes rows program = pick (has_words bytes machine_words) (list_in (words_of bytes) rows program) (refuse 16 0 rows)

unfoldable pub list_bytes : List ℕ → List ℕ → List Row → Outcome (List Row)
list_bytes image bytes rows = on_image image rows (list_bytes_in bytes rows)
