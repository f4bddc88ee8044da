-- The numbers of the directions.
use Rattle.std.specs.Prelude.{ℕ, cond, eqb, Result, Ok, Err}
use Rattle.rules.specs.declared.Code.{Code}
use Rattle.accepted.specs.declared.direction.Direction.{Direction}

abbrev pub numbered : Direction → ℕ
numbered Direction.Forward = 0
numbered Direction.Undo = 1

-- the direction of a number, or 19
abbrev pub directed : ℕ → Result Direction Code
directed n = cond (eqb n 0) (Ok Direction.Forward) (cond (eqb n 1) (Ok Direction.Undo) (Err Code.BadDirection))
