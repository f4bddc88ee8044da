-- What decoding shows, and what judging its blocks answers.
use Rattle.std.proofs.Common.{◌∙◌, ap}
use Rattle.rules.specs.Judge.{judgement, judged_blocks}
use Rattle.rules.specs.Read.{decoded}
use Rattle.judge.proofs.Ways.{handed, unread, read}
use Rattle.judge.proofs.judge.Goals as goal

pub returns-in_err-program : goal.returns-in_err-program
unfolding judgement
returns-in_err-program c = handed _ _ c.from_residual.ensures.1 ∙ unread (decoded c.args.image.now) _ c.in_err-program.ensures

pub returns : goal.returns
unfolding judgement
returns c =
    read (decoded c.args.image.now) c.in_ok-program.program _ c.in_ok-program.ensures
    (c.judge_blocks.ensures ∙ ap judged_blocks c.blocks-2.ensures.are)
