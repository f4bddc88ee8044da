-- The blocks of an image that judging accepts are sound.
use Rattle.decode.proofs.Answer.{slice_bytes}
use Rattle.runtime.proofs.Judged.{sound-of}
use Rattle.cases_all.proofs.graph.drawn.Goals as goal

pub lines-requires : goal.lines-requires
lines-requires c = (
  sound-of c.args.image.now c.in_ok-program.program (slice_bytes c.args.image.now c.type_inv.image) c.in_ok-program.ensures _ c.blocks-blocks.ensures.are _ c.in_ok-judge_blocks.ensures,
  c.blocks-blocks.ensures.few,
)
