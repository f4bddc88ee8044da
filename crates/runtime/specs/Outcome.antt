-- What a function answers and what it leaves in the lent slice, together.
use Rattle.std.specs.Prelude.{Result, Ok, Err}
use Rattle.rules.specs.Codes.{number}
use Rattle.rules.specs.Words.{Outcome, accept, refuse}
use Rattle.rules.specs.declared.Refused.{Refused}
use Rattle.rules.specs.declared.Answer.{Answer}

module _ {Lent : Type 0} where
  abbrev pub outcome_of : Answer → Lent → Outcome Lent
  outcome_of answer lent = record { answer = answer; leaves = lent }

  -- as the code has it within: done, or a refusal
  abbrev pub left : {A : Type 0} → Result A Refused → Lent → Outcome Lent
  left (Ok a) lent = accept lent
  left (Err r) lent = refuse (number r.code) r.place lent
