-- The word written is that of the definition.
use Rattle.std.proofs.Common.{refl}
use Rattle.change.specs.Words.{written_words}
use Rattle.change.proofs.write.Goals as goal

pub returns : goal.returns
unfolding written_words
returns c = refl
