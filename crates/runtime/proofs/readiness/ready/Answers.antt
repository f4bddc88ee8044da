-- Judging's refusal, or the list on the image's blocks.
use Rattle.std.proofs.Common.{List, ap, ◌∙◌, Result}
use Rattle.decode.proofs.Answer.{slice_bytes}
use Rattle.rules.specs.List.{list_in, list}
use Rattle.rules.specs.declared.Refused.{Refused}
use Rattle.rules.specs.declared.Row.{Row}
use Rattle.accepted.specs.Listed.{listed}
use Rattle.runtime.proofs.Judged.{handed, on_fault, on_bad, on_good, sound-of}
use Rattle.runtime.proofs.readiness.ready.Goals as goal

pub returns-in_err-program : goal.returns-in_err-program
unfolding list
returns-in_err-program c = λ lent size.
    ap (λ (r : Result (List Row) Refused). listed r lent) (handed _ _ c.from_residual.ensures.1)
    ∙ on_fault c.args.image.now lent (list_in c.args.words.now lent) _ c.in_err-program.ensures

pub returns-in_err-judge_blocks : goal.returns-in_err-judge_blocks
unfolding list
returns-in_err-judge_blocks c = λ lent size.
    ap (λ (r : Result (List Row) Refused). listed r lent) (handed _ _ c.from_residual-in_err-judge_blocks.ensures.1)
    ∙ on_bad c.args.image.now lent (list_in c.args.words.now lent) _ c.in_ok-program.ensures _ c.blocks-blocks.ensures.are _ c.in_err-judge_blocks.ensures

pub ready_on-requires : goal.ready_on-requires
ready_on-requires c = (
  sound-of c.args.image.now c.in_ok-program.program (slice_bytes c.args.image.now c.type_inv.image) c.in_ok-program.ensures _ c.blocks-blocks.ensures.are _ c.in_ok-judge_blocks.ensures,
  c.blocks-blocks.ensures.few,
)

pub returns : goal.returns
unfolding list
returns c = λ lent size.
    c.ready_on.ensures lent size
    ∙ on_good c.args.image.now lent (list_in c.args.words.now lent) _ c.in_ok-program.ensures _ c.blocks-blocks.ensures.are _ c.in_ok-judge_blocks.ensures
