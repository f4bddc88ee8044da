-- A turn writes one word more, and at the end all are right.
use Rattle.std.proofs.Common.{◌≡◌, length, arith}
use Rattle.rules.specs.Words.{words_of}
use Rattle.word_bytes.proofs.Laws.{word-turn, length-words_of, whole}
use Rattle.word_bytes.proofs.words_of.Goals as goal

pub loop-i-preserved : goal.loop-i-preserved
loop-i-preserved c =
    let l = c.loop-i in
    word-turn c.args.bytes.now l.words l.i c.word_at.result (omega arith) (omega arith) l.invariant c.word_at.ensures

pub returns : goal.returns
returns c =
    let l = c.loop-i in
    let n : length (words_of c.args.bytes.now) ≡ length c.args.words.now = length-words_of _ _ (omega arith) in
    whole l.words (words_of c.args.bytes.now) l.i (omega arith) (omega arith) l.invariant
