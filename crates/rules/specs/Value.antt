-- Values: document 01, "The image", last paragraph, and "Differences from 004".
-- A value is a word, a number below 2 ^ 32; what it means is a signed number. That the sums below are those of the signed
-- numbers, wrapped, is the theorem `signed-values`.
use Rattle.std.specs.Prelude.{ℕ, ◌+◌, ◌-◌, ◌%◌, ◌^◌, Bool, true, false, not, ◌&&◌, ◌||◌, ltb, eqb, ℤ, pos, negsuc}
use Rattle.std.specs.Int.Signed.{lt_z, le_z}
use Rattle.std.specs.Int.Bits.{bit_xor}
use Rattle.rules.specs.Base.{pick}
use Rattle.rules.specs.declared.Operator.{Operator}
use Rattle.rules.specs.declared.Change.{Change}

-- the bits of a value, and how many values there are
abbrev pub width : ℕ
width = 32

abbrev pub span : ℕ
span = 2 ^ width

-- the signed number that a word means: a from 0 to 2 ^ 31 - 1, and -(2 ^ 32 - a) above
unfoldable pub signed : ℕ → ℤ
signed a = pick (ltb a (2 ^ (width - 1))) (pos a) (negsuc (span - 1 - a))

-- the word that means a whole number, wrapped at 32 bits
abbrev pub word_of : ℤ → ℕ
word_of (pos n) = n % span
word_of (negsuc n) = span - 1 - n % span

-- + and - wrap; ^ works on the bits
abbrev pub plus : ℕ → ℕ → ℕ
plus a b = (a + b) % span

abbrev pub minus : ℕ → ℕ → ℕ
minus a b = (a + (span - b)) % span

abbrev pub xor : ℕ → ℕ → ℕ
xor a b = bit_xor a b

-- zero is false, all else true; what is true gives 1, what is false 0
abbrev pub truth : ℕ → Bool
truth a = not (eqb a 0)

abbrev pub flag : Bool → ℕ
flag true = 1
flag false = 0

-- comparisons are signed
unfoldable pub less : ℕ → ℕ → Bool
less a b = lt_z (signed a) (signed b)

unfoldable pub at_most : ℕ → ℕ → Bool
at_most a b = le_z (signed a) (signed b)

-- !a
unfoldable pub negated : ℕ → ℕ
negated a = flag (not (truth a))

-- a and b under an operator
abbrev pub applied : Operator → ℕ → ℕ → ℕ
applied Operator.Add a b = plus a b
applied Operator.Subtract a b = minus a b
applied Operator.Xor a b = xor a b
applied Operator.Equal a b = flag (eqb a b)
applied Operator.Unequal a b = flag (not (eqb a b))
applied Operator.Less a b = flag (less a b)
applied Operator.AtMost a b = flag (at_most a b)
applied Operator.Greater a b = flag (less b a)
applied Operator.AtLeast a b = flag (at_most b a)
applied Operator.And a b = flag (truth a && truth b)
applied Operator.Or a b = flag (truth a || truth b)

-- a after += b, -= b, ^= b
abbrev pub changed : Change → ℕ → ℕ → ℕ
changed Change.Add a b = plus a b
changed Change.Subtract a b = minus a b
changed Change.Xor a b = xor a b
