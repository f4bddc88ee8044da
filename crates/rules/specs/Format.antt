-- The kinds of an image's records, document 01's table: one byte of kind, then a body whose length the kind fixes.
-- The lengths stand with the records, in Read.
use Rattle.std.specs.Prelude.{ℕ, ◌+◌, ◌*◌, List, [], ◌∷◌, get_or, take, eqb}
use Rattle.std.proofs.Math.Option.{Option, none, some}
use Rattle.rules.specs.Base.{pick}
use Rattle.rules.specs.declared.Operator.{Operator}
use Rattle.rules.specs.declared.Names.{Names}

-- an image is 1 to 4,096 bytes, at most 128 blocks; variables are 0 to 31, the heap has cells 0 to 255, labels are 0 to 255
abbrev pub longest : ℕ
longest = 4096

abbrev pub most_blocks : ℕ
most_blocks = 128

abbrev pub variables : ℕ
variables = 32

abbrev pub cells : ℕ
cells = 256

abbrev pub labels : ℕ
labels = 256

-- main is label 0
abbrev pub main : ℕ
main = 0

-- the byte at an offset
abbrev pub byte_at : List ℕ → ℕ → ℕ
byte_at s at = get_or s at 0

-- four bytes as one word, low byte first; those from an offset on
abbrev pub word_from : ℕ → ℕ → ℕ → ℕ → ℕ
word_from a b c d = a + 256 * b + 65536 * c + 16777216 * d

abbrev pub word_at : List ℕ → ℕ → ℕ
word_at s at = word_from (byte_at s at) (byte_at s (at + 1)) (byte_at s (at + 2)) (byte_at s (at + 3))

-- 12 to 1C: + - ^ == != < <= > >= && ||
unfoldable pub operator_of : ℕ → Option Operator
operator_of kind =
    pick (eqb kind 0x12) (some Operator.Add)
    (pick (eqb kind 0x13) (some Operator.Subtract)
    (pick (eqb kind 0x14) (some Operator.Xor)
    (pick (eqb kind 0x15) (some Operator.Equal)
    (pick (eqb kind 0x16) (some Operator.Unequal)
    (pick (eqb kind 0x17) (some Operator.Less)
    (pick (eqb kind 0x18) (some Operator.AtMost)
    (pick (eqb kind 0x19) (some Operator.Greater)
    (pick (eqb kind 0x1A) (some Operator.AtLeast)
    (pick (eqb kind 0x1B) (some Operator.And)
    (pick (eqb kind 0x1C) (some Operator.Or) none))))))))))

-- the labels that a call names, in their order
abbrev pub named : Names → List ℕ
named n = take n.count n.labels
