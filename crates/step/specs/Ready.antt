-- A live process that a plan is for, and what a plan answers.
use Rattle.std.specs.Prelude.{ℕ, ◌+◌, ◌*◌, ◌%◌, ◌<◌, ◌≤◌, ◌≡◌, true, ◌||◌, List, Result, IfOk, get_or, eqb, leb}
use Rattle.rules.specs.Base.{each_of}
use Rattle.rules.specs.Read.{is_call}
use Rattle.rules.specs.Machine.{Machine, place, live_count, view}
use Rattle.rules.specs.Fits.{ascending}
use Rattle.rules.specs.Leaf.{Tried}
use Rattle.rules.specs.declared.Block.{Block}
use Rattle.rules.specs.declared.Code.{Code}
use Rattle.rules.specs.declared.Place.{Place}
use Rattle.laws.specs.Fit.{BlockFit}
use Rattle.evaluate.specs.Shown.{tried_as}
use Rattle.step.specs.Planned.{Lent, PlanFit, planned}
use Rattle.step.specs.declared.plan.Plan.{Plan}

-- r is the first row whose identifier is at least c, or the live count where there is none
pub record FirstFrom (w : List ℕ) (c r : ℕ) : Type 0 where
  pub within : r ≤ live_count w
  pub below : (j : ℕ) → j < r → get_or w (290 + 3 * j) 0 < c
  pub from : r < live_count w → c ≤ get_or w (290 + 3 * r) 0

-- the process of a row and where it stands
abbrev pub process_at : List ℕ → ℕ → ℕ
process_at w row = get_or w (290 + 3 * row) 0

abbrev pub here_at : List ℕ → ℕ → Place
here_at w row = place (get_or w (291 + 3 * row) 0) (get_or w (292 + 3 * row) 0)

-- a row of words whose rows are in order, each numbered from 1 among its parent's children
pub record Ready (w : List ℕ) (row : ℕ) : Type 0 where
  pub lent : Lent w
  pub ascends : ascending (view w).rows ≡ true
  pub numbered : each_of (λ r. eqb r.identifier 0 || leb 1 (r.identifier % 16)) (view w).rows ≡ true
  pub live : row < live_count w

-- the block of a step is fit, and where it is a call the children's identifiers are words
pub record Apt (w : List ℕ) (row : ℕ) (block : Block) : Type 0 where
  pub fit : BlockFit block
  pub shallow : is_call block.instruction ≡ true → process_at w row < 268435456

-- a plan that the words allow, and that makes what rules tries; or the code of its refusal
pub record Plans (w : List ℕ) (plan : Result Plan Code) (tried : Tried Machine) : Type 0 where
  pub shown : tried_as (λ p. planned p (view w)) plan ≡ tried
  pub fit : IfOk plan (λ p. PlanFit p (view w))
