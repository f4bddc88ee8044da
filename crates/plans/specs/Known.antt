-- A machine that passes code 17 on an accepted image, and what a plan on it answers.
use Rattle.std.specs.Prelude.{ℕ, ◌≡◌, true, List, length, Result, IfOk}
use Rattle.rules.specs.Fits.{fits}
use Rattle.rules.specs.Machine.{view}
use Rattle.rules.specs.Words.{Outcome, finished}
use Rattle.rules.specs.declared.Block.{Block}
use Rattle.rules.specs.declared.Code.{Code}
use Rattle.theorems.specs.Program.{Sound}
use Rattle.evaluate.specs.Shown.{tried_as}
use Rattle.step.specs.Planned.{Lent, PlanFit, planned}
use Rattle.step.specs.declared.plan.Plan.{Plan}

pub record Known (program : List Block) (w : List ℕ) : Type 0 where
  pub sound : Sound program
  pub long : length w ≡ 8674
  pub fit : fits program w ≡ true

-- words that a plan can be committed on, where it is not a refusal
abbrev pub Committed : Result Plan Code → List ℕ → Type 0
Committed plan w = IfOk plan (λ p. Lent w × PlanFit p (view w))

-- what a plan answers and leaves
abbrev pub made_by : Result Plan Code → List ℕ → Outcome (List ℕ)
made_by plan w = finished w (tried_as (λ p. planned p (view w)) plan)

-- such a plan, that makes what rules answers and leaves
pub record Finishes (w : List ℕ) (plan : Result Plan Code) (o : Outcome (List ℕ)) : Type 0 where
  pub shown : made_by plan w ≡ o
  pub committed : Committed plan w
