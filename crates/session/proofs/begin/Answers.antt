-- What the start answers and leaves, as words.
use Rattle.session.proofs.Ways.{begun, refused}
use Rattle.session.proofs.begin.Goals as goal

pub returns-then-answer-eq0 : goal.returns-then-answer-eq0
returns-then-answer-eq0 c =
    let a = c.args in
    let s = c.tillerwrap_start-answer in
    begun a.image.now a.memory.now _ _ s.result s.ensures c.words_of.ensures _ c.if-answer-eq0.true c.empty.ensures.0

pub returns : goal.returns
returns c =
    let a = c.args in
    let s = c.tillerwrap_start-answer in
    refused a.image.now a.memory.now _ _ s.result s.ensures c.words_of.ensures _ c.if-answer-eq0.false c.refused_line.ensures
