-- What pending writes leave as it is: the memory's length, and a place beside them. Assumes nothing.
use mathlib.Core.Path.{◌≡◌, refl, ◌∙◌}
use mathlib.Core.List.{List}
use Prim.Native.Nat.{ℕ}
use lib.ListN.{length, get_or, set, length-set}
use lib.Seq.{get_or-set_other}
use Rattle.evaluate.specs.declared.Writes.{Writes}
use Rattle.evaluate.specs.Shown.{written}

-- writes keep the memory's length
pub length-written : (writes : Writes) (memory : List ℕ) → length (written writes memory) ≡ length memory
unfolding written
length-written Writes.Nothing memory = refl
length-written (Writes.One first value) memory = length-set memory first value
length-written (Writes.Two first value second other) memory = length-set (set memory first value) second other ∙ length-set memory first value

module _ (memory : List ℕ) (place : ℕ) {writes : Writes} where
  pub no_write : writes ≡ Writes.Nothing → get_or memory place 0 ≡ get_or (written writes memory) place 0
  unfolding written
  no_write e = rw e

  pub beside_one : {first value : ℕ} → writes ≡ Writes.One first value → (place ≡ first → ⊥) → get_or memory place 0 ≡ get_or (written writes memory) place 0
  unfolding written
  beside_one {first} {value} e n = rw (e, get_or-set_other memory first place value 0 n)

  pub beside_both :
      {first value second other : ℕ} → writes ≡ Writes.Two first value second other → (place ≡ second → ⊥) → (place ≡ first → ⊥)
      → get_or memory place 0 ≡ get_or (written writes memory) place 0
  unfolding written
  beside_both {first} {value} {second} {other} e n k =
      rw (e, get_or-set_other (set memory first value) second place other 0 n, get_or-set_other memory first place value 0 k)
