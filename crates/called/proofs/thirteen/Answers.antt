-- The count of label 0's begins decides.
use Rattle.called.proofs.Tabling.{bad13-is}
use Rattle.called.proofs.thirteen.Goals as goal

pub returns : goal.returns
returns c = λ program h. bad13-is program _ h
