-- Judging's refusal, 16, or the machine at its start.
use Rattle.std.proofs.Common.{ap, ◌∙◌, Result}
use Rattle.rules.specs.Words.{start_in, start}
use Rattle.rules.specs.declared.Refused.{Refused}
use Rattle.runtime.specs.Outcome.{left}
use Rattle.runtime.proofs.Judged.{handed, coded, on_refused, on_accepted}
use Rattle.runtime.proofs.started.Goals as goal

pub returns-in_err-judge : goal.returns-in_err-judge
unfolding start
returns-in_err-judge c =
    ap (λ (r : Result (Unit {0}) Refused). left r c.args.words.now) (handed _ _ c.from_residual.ensures.1)
    ∙ on_refused c.args.image.now c.args.words.now (start_in c.args.first.now c.args.words.now) _ c.in_err-judge.ensures

pub returns-in_err-start : goal.returns-in_err-start
unfolding start
returns-in_err-start c =
    ap (λ (r : Result (Unit {0}) Refused). left r c.start.new.m) (coded _ _ c.from_residual-in_err-start.ensures.1)
    ∙ on_accepted c.args.image.now c.args.words.now (start_in c.args.first.now c.args.words.now) _ _ c.in_ok-judge.ensures c.in_err-start.ensures

pub returns : goal.returns
unfolding start
returns c =
    on_accepted c.args.image.now c.args.words.now (start_in c.args.first.now c.args.words.now) _ _ c.in_ok-judge.ensures c.in_ok-start.ensures
