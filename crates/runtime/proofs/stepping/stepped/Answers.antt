-- Judging's refusal, or what is made of the plan.
use Rattle.std.proofs.Common.{ap, ◌∙◌, Result}
use Rattle.decode.proofs.Answer.{slice_bytes}
use Rattle.rules.specs.Words.{step_in, step}
use Rattle.rules.specs.declared.Refused.{Refused}
use Rattle.runtime.specs.Outcome.{left}
use Rattle.runtime.proofs.Judged.{handed, coded, on_fault, on_bad, on_good, sound-of}
use Rattle.runtime.proofs.stepping.stepped.Goals as goal

pub returns-in_err-program : goal.returns-in_err-program
unfolding step
returns-in_err-program c =
    let w = c.args.words.now in
    ap (λ (r : Result (Unit {0}) Refused). left r w) (handed _ _ c.from_residual.ensures.1)
    ∙ on_fault c.args.image.now w (step_in w c.args.process c.args.direction) _ c.in_err-program.ensures

pub returns-in_err-judge_blocks : goal.returns-in_err-judge_blocks
unfolding step
returns-in_err-judge_blocks c =
    let w = c.args.words.now in
    ap (λ (r : Result (Unit {0}) Refused). left r w) (handed _ _ c.from_residual-in_err-judge_blocks.ensures.1)
    ∙ on_bad c.args.image.now w (step_in w c.args.process c.args.direction) _ c.in_ok-program.ensures _ c.blocks-blocks.ensures.are _ c.in_err-judge_blocks.ensures

pub plan_on-plan-requires : goal.plan_on-plan-requires
plan_on-plan-requires c = (
  sound-of c.args.image.now c.in_ok-program.program (slice_bytes c.args.image.now c.type_inv.image) c.in_ok-program.ensures _ c.blocks-blocks.ensures.are _ c.in_ok-judge_blocks.ensures,
  c.blocks-blocks.ensures.few,
)

pub returns-in_err-finish : goal.returns-in_err-finish
unfolding step
returns-in_err-finish c =
    let w = c.args.words.now in
    ap (λ (r : Result (Unit {0}) Refused). left r c.finish.new.m) (coded _ _ c.from_residual-in_err-finish.ensures.1)
    ∙ c.in_err-finish.ensures
    ∙ c.plan_on-plan.ensures.shown
    ∙ on_good c.args.image.now w (step_in w c.args.process c.args.direction) _ c.in_ok-program.ensures _ c.blocks-blocks.ensures.are _ c.in_ok-judge_blocks.ensures

pub returns : goal.returns
unfolding step
returns c =
    let w = c.args.words.now in
    c.in_ok-finish.ensures
    ∙ c.plan_on-plan.ensures.shown
    ∙ on_good c.args.image.now w (step_in w c.args.process c.args.direction) _ c.in_ok-program.ensures _ c.blocks-blocks.ensures.are _ c.in_ok-judge_blocks.ensures
