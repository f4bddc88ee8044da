-- A mask of resources as a number: which bits it has.
use Rattle.std.specs.Prelude.{ℕ, ◌/◌, ◌%◌, ◌^◌, ◌<◌, ◌≡◌, Bool, ◌||◌, eqb}
use Rattle.rules.specs.Value.{flag}
use Rattle.rules.specs.Names.{other_names, semaphore_names, target_resource}
use Rattle.rules.specs.declared.Instruction.{Instruction}
use Rattle.rules.specs.declared.Target.{Target}

-- bit r of a number
abbrev pub bit_of : ℕ → ℕ → ℕ
bit_of mask r = mask / 2 ^ r % 2

-- the mask has just the bits of the resources that are named
pub record Mask (names : ℕ → Bool) (mask : ℕ) : Type 0 where
  pub fits : mask < 2 ^ 33
  pub bits : (r : ℕ) → bit_of mask r ≡ flag (names r)

-- just x is named
abbrev pub single : ℕ → ℕ → Bool
single x r = eqb x r

-- all that an instruction names; the resource that a write to a target changes
abbrev pub instruction_names : Instruction → ℕ → Bool
instruction_names i r = other_names i r || semaphore_names i r

abbrev pub target_writes : Target → ℕ → Bool
target_writes a r = eqb (target_resource a) r
