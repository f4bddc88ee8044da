-- What the step answers and leaves, and its line.
use Rattle.session.proofs.Ways.{answered}
use Rattle.session.proofs.ask.Goals as goal

pub returns : goal.returns
returns c =
    let a = c.args in
    answered a.image.now a.words.now a.body.now _ _ a.way _ _ c.word_at-process.ensures c.step-answer.ensures c.step_line.ensures
