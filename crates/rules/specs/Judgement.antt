-- What judging finds, document 01: a code with its place, or the number of blocks with main's peak.
use Rattle.std.specs.Prelude.{ℕ, Result, Ok, Err}
use Rattle.rules.specs.Codes.{number}
use Rattle.rules.specs.declared.Accepted as Found
use Rattle.rules.specs.declared.Refused as Fault

pub data Judgement : Type 0 where
  Refused : ℕ → ℕ → Judgement
  Accepted : ℕ → ℕ → Judgement

-- as the code answers it
abbrev pub judged : Result Found.Accepted Fault.Refused → Judgement
judged (Ok found) = Judgement.Accepted found.blocks found.peak
judged (Err fault) = Judgement.Refused (number fault.code) fault.place
