-- What code may find or not find, and what rules has for it.
use Rattle.std.specs.Prelude.{ℕ, Bool, ltb, cond, Option, Some, None}
use Rattle.std.proofs.Math.Option as Math
use Rattle.rules.specs.Base.{lowest}

-- the lowest number below n that passes; nothing where none does
abbrev pub found : (ℕ → Bool) → ℕ → Option ℕ
found p n = cond (ltb (lowest p n) n) (Some (lowest p n)) None

-- what was found, or else n
abbrev pub or_else : Option ℕ → ℕ → ℕ
or_else None n = n
or_else (Some k) n = k

-- the same as rules' definitions write it
abbrev pub given : {A : Type 0} → Option A → Math.Option A
given None = Math.none
given (Some a) = Math.some a
