-- What passes a code, for the contracts of this crate.
use Rattle.std.specs.Prelude.{ℕ, Option, Some, None, Result, Ok, Err}
use Rattle.rules.specs.declared.Code.{Code}
use Rattle.rules.specs.declared.Refused.{Refused}

-- nothing that is bad, or the code at it
abbrev pub passed : Code → Option ℕ → Result (Unit {0}) Refused
passed code None = Ok tt
passed code (Some b) = Err (record { code = code; place = b })
