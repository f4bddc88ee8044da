-- The words passed are right.
use Rattle.std.proofs.Common.{◌≡◌, take}
use Rattle.rules.specs.Words.{words_of}
use Rattle.word_bytes.proofs.words_of.Given as goal

abbrev pub invariant-loop-i : goal.invariant-loop-i
invariant-loop-i l = take l.i l.words ≡ take l.i (words_of l.bytes)
