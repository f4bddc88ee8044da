-- What the answer of a cursor's method shows, in the words of rules: what was read with the offset past it, or the fault.
use Rattle.std.specs.Prelude.{Result, Ok, Err}
use Rattle.rules.specs.Codes.{number}
use Rattle.rules.specs.Read.{Reading, got, fault}
use Rattle.image.specs.declared.Cursor.{Cursor}
use Rattle.image.specs.declared.Fault.{Fault}

abbrev pub shown : {A : Type 0} → Result (A × Cursor) Fault → Reading A
shown (Ok r) = got r.0 r.1.at
shown (Err f) = fault (number f.code) f.place
