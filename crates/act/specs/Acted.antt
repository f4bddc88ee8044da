-- What acting answers, as rules tries it on the memory that it was answered for.
use Rattle.std.specs.Prelude.{ℕ, List, Result, eqb}
use Rattle.rules.specs.Base.{pick}
use Rattle.rules.specs.Leaf.{Tried, made, refused, after, expression_value}
use Rattle.rules.specs.declared.Code.{Code}
use Rattle.rules.specs.declared.Expression.{Expression}
use Rattle.evaluate.specs.Shown.{written, tried_as}
use Rattle.evaluate.specs.declared.Writes.{Writes}

abbrev pub acted : List ℕ → Result Writes Code → Tried (List ℕ)
acted memory r = tried_as (λ writes. written writes memory) r

-- rules' act on an assertion
abbrev pub assertion : List ℕ → Expression → Tried (List ℕ)
assertion memory e = after (expression_value memory e) (λ v. pick (eqb v 0) (refused 23) (made memory))
