-- The list by value, put into the rows that are lent: its rows, or a refusal, which leaves them.
use Rattle.std.specs.Prelude.{List, Result, Ok, Err}
use Rattle.rules.specs.Codes.{number}
use Rattle.rules.specs.Words.{Outcome, accept, refuse}
use Rattle.rules.specs.declared.Refused.{Refused}
use Rattle.rules.specs.declared.Row.{Row}

abbrev pub listed : Result (List Row) Refused → List Row → Outcome (List Row)
listed (Ok rows) lent = accept rows
listed (Err r) lent = refuse (number r.code) r.place lent
