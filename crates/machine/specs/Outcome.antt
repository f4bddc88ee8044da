-- What an answer and the words left make together.
use Rattle.std.specs.Prelude.{ℕ, List, Result, Ok, Err}
use Rattle.rules.specs.Codes.{number}
use Rattle.rules.specs.Words.{Outcome, accept, refuse}
use Rattle.rules.specs.declared.Code.{Code}

-- a code, with place 0
abbrev pub outcome : ℕ → List ℕ → Outcome (List ℕ)
outcome code words = record { answer = record { code = code; place = 0 }; leaves = words }

-- done, or refused for a reason
abbrev pub ended : {A : Type 0} → Result A Code → List ℕ → Outcome (List ℕ)
ended (Ok a) words = accept words
ended (Err code) words = refuse (number code) 0 words
