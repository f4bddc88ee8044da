-- A turn writes the four bytes of one word more, and at the end all are right.
use Rattle.std.proofs.Common.{◌≡◌, ◌*◌, length, arith, ◌∙◌}
use Rattle.rules.specs.Words.{bytes_of}
use Rattle.word_bytes.proofs.Laws.{bytes-turn, length-bytes_of, whole}
use Rattle.word_bytes.proofs.bytes_of.Goals as goal

pub loop-i-preserved : goal.loop-i-preserved
loop-i-preserved c =
    let l = c.loop-i in
    bytes-turn c.args.words.now l.bytes l.i _ _ (omega arith) (omega arith) l.invariant
    (c.copy_from_slice.ensures.after ∙ c.to_le_bytes.ensures)

pub returns : goal.returns
returns c =
    let l = c.loop-i in
    let n : length (bytes_of c.args.words.now) ≡ 4 * length c.args.words.now = length-bytes_of c.args.words.now in
    whole l.bytes (bytes_of c.args.words.now) (4 * l.i) (omega arith) (omega arith) l.invariant
