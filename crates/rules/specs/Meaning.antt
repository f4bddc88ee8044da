-- What the operators mean, on whole numbers: for each of the eleven operators and the three updates, which word is right where x and y are the signed
-- numbers of its two sides. Nothing here computes; that `applied`, `negated` and `changed` of Value make these words is the theorem
-- `signed-values` of crate
-- theorems_values.
use Rattle.std.specs.Prelude.{ℕ, suc, ◌/◌, ◌%◌, ◌^◌, ◌<◌, ◌≡◌, ◌⊎◌, ◌≢◌, ℤ, pos, ◌+ℤ◌, ◌-ℤ◌}
use Rattle.rules.specs.Value.{span, word_of}
use Rattle.rules.specs.declared.Operator.{Operator}
use Rattle.rules.specs.declared.Change.{Change}

-- the word of what is so is 1, of what is not so 0
abbrev pub TruthOf : Type 0 → ℕ → Type 0
TruthOf P v = ((v ≡ 1) × P) ⊎ ((v ≡ 0) × (P → ⊥))

-- the order of whole numbers: y is x and some more; x and one more or more
abbrev pub AtMost : ℤ → ℤ → Type 0
AtMost x y = (n : ℕ) × (y ≡ x +ℤ pos n)

abbrev pub Below : ℤ → ℤ → Type 0
Below x y = (n : ℕ) × (y ≡ x +ℤ pos (suc n))

-- zero is false, all else true
abbrev pub IsTrue : ℤ → Type 0
IsTrue x = x ≢ pos 0

-- bit i of a word
abbrev pub bit : ℕ → ℕ → ℕ
bit i a = a / 2 ^ i % 2

-- each bit is 1 where those of the two numbers' words differ
pub record Bits (x y : ℤ) (v : ℕ) : Type 0 where
  pub word : v < span
  pub each : (i : ℕ) → TruthOf (bit i (word_of x) ≢ bit i (word_of y)) (bit i v)

-- + and - wrap
abbrev pub Means : Operator → ℤ → ℤ → ℕ → Type 0
Means Operator.Add x y v = v ≡ word_of (x +ℤ y)
Means Operator.Subtract x y v = v ≡ word_of (x -ℤ y)
Means Operator.Xor x y v = Bits x y v
Means Operator.Equal x y v = TruthOf (x ≡ y) v
Means Operator.Unequal x y v = TruthOf (x ≢ y) v
Means Operator.Less x y v = TruthOf (Below x y) v
Means Operator.AtMost x y v = TruthOf (AtMost x y) v
Means Operator.Greater x y v = TruthOf (Below y x) v
Means Operator.AtLeast x y v = TruthOf (AtMost y x) v
Means Operator.And x y v = TruthOf (IsTrue x × IsTrue y) v
Means Operator.Or x y v = TruthOf (IsTrue x ⊎ IsTrue y) v

-- x after += y, -= y, ^= y
abbrev pub ChangeMeans : Change → ℤ → ℤ → ℕ → Type 0
ChangeMeans Change.Add x y v = Means Operator.Add x y v
ChangeMeans Change.Subtract x y v = Means Operator.Subtract x y v
ChangeMeans Change.Xor x y v = Means Operator.Xor x y v
