-- No two answers of the code's judging are read as the same judgement: each code has a number of its own.
use Rattle.std.specs.Prelude.{◌≡◌, refl, List, [], ◌∷◌, ℕ, Result, Ok, Err, get_or}
use Rattle.std.proofs.Common.{sym, ap, ◌∙◌}
use Rattle.rules.specs.Codes.{number}
use Rattle.rules.specs.Judgement.{Judgement, judged}
use Rattle.rules.specs.declared.Accepted as Found
use Rattle.rules.specs.declared.Code.{Code}
use Rattle.rules.specs.declared.Refused as Fault

-- the codes by their numbers, and 28 in the place of 0, which no code has
abbrev all : List Code
all =
    Code.NoRoom ∷ Code.ImageLength ∷ Code.Kind ∷ Code.Cut ∷ Code.Variable ∷ Code.TooManyBlocks ∷ Code.EqualLabels ∷
    Code.OwnName ∷ Code.CallPoint ∷ Code.SemaphoreNamed ∷ Code.LabelCount ∷ Code.ProcessBlock ∷ Code.UnknownLabel ∷
    Code.NoMain ∷ Code.Circle ∷ Code.TooDeep ∷ Code.SliceLength ∷ Code.Unfit ∷
    Code.NotLive ∷ Code.BadDirection ∷ Code.Children ∷ Code.Stage ∷ Code.OtherLabel ∷
    Code.Assertion ∷ Code.Semaphore ∷ Code.Address ∷ Code.HistoryFull ∷ Code.Held ∷ []

-- the code with a number
abbrev named : ℕ → Code
named n = get_or all n Code.NoRoom

named-number : (c : Code) → named (number c) ≡ c
named-number Code.ImageLength = refl
named-number Code.Kind = refl
named-number Code.Cut = refl
named-number Code.Variable = refl
named-number Code.TooManyBlocks = refl
named-number Code.EqualLabels = refl
named-number Code.OwnName = refl
named-number Code.CallPoint = refl
named-number Code.SemaphoreNamed = refl
named-number Code.LabelCount = refl
named-number Code.ProcessBlock = refl
named-number Code.UnknownLabel = refl
named-number Code.NoMain = refl
named-number Code.Circle = refl
named-number Code.TooDeep = refl
named-number Code.SliceLength = refl
named-number Code.Unfit = refl
named-number Code.NotLive = refl
named-number Code.BadDirection = refl
named-number Code.Children = refl
named-number Code.Stage = refl
named-number Code.OtherLabel = refl
named-number Code.Assertion = refl
named-number Code.Semaphore = refl
named-number Code.Address = refl
named-number Code.HistoryFull = refl
named-number Code.Held = refl
named-number Code.NoRoom = refl

-- the answer that is read as a judgement
abbrev answer_of : Judgement → Result Found.Accepted Fault.Refused
answer_of (Judgement.Accepted blocks peak) = Ok (record { blocks = blocks; peak = peak })
answer_of (Judgement.Refused code place) = Err (record { code = named code; place = place })

answer_of-judged : (a : Result Found.Accepted Fault.Refused) → answer_of (judged a) ≡ a
answer_of-judged (Ok found) = refl
answer_of-judged (Err fault) = ap (λ c. Err (record { code = c; place = fault.place })) (named-number fault.code)

pub judged-one : (a b : Result Found.Accepted Fault.Refused) → judged a ≡ judged b → a ≡ b
judged-one a b e = sym (answer_of-judged a) ∙ ap answer_of e ∙ answer_of-judged b
