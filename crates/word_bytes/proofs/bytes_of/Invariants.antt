-- The bytes of the words passed are right.
use Rattle.std.proofs.Common.{◌≡◌, ◌*◌, take}
use Rattle.rules.specs.Words.{bytes_of}
use Rattle.word_bytes.proofs.bytes_of.Given as goal

abbrev pub invariant-loop-i : goal.invariant-loop-i
invariant-loop-i l = take (4 * l.i) l.bytes ≡ take (4 * l.i) (bytes_of l.words)
