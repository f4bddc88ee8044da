-- Judging's refusal, or what `start_bytes` answers and leaves.
use Rattle.std.proofs.Common.{Result, ap, ◌∙◌}
use Rattle.rules.specs.Words.{start_bytes, start_bytes_in}
use Rattle.rules.specs.declared.Refused.{Refused}
use Rattle.runtime.specs.Outcome.{left}
use Rattle.runtime.proofs.Judged.{handed, coded, on_refused, on_accepted}
use Rattle.tillerwrap.proofs.started.Goals as goal

pub returns-in_err-judge : goal.returns-in_err-judge
unfolding start_bytes
returns-in_err-judge c =
    let a = c.args in
    ap (λ (r : Result (Unit {0}) Refused). left r a.machine.now) (handed _ _ c.from_residual.ensures.1)
    ∙ on_refused a.image.now a.machine.now (start_bytes_in a.first.now a.machine.now) _ c.in_err-judge.ensures

pub returns-in_err-start_bytes : goal.returns-in_err-start_bytes
unfolding start_bytes
returns-in_err-start_bytes c =
    let a = c.args in
    ap (λ (r : Result (Unit {0}) Refused). left r c.start_bytes.new.machine) (coded _ _ c.from_residual-in_err-start_bytes.ensures.1)
    ∙ on_accepted a.image.now a.machine.now (start_bytes_in a.first.now a.machine.now) _ _ c.in_ok-judge.ensures c.in_err-start_bytes.ensures

pub returns : goal.returns
unfolding start_bytes
returns c =
    let a = c.args in
    on_accepted a.image.now a.machine.now (start_bytes_in a.first.now a.machine.now) _ _ c.in_ok-judge.ensures c.in_ok-start_bytes.ensures
