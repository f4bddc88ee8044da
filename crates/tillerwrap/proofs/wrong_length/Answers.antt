-- Judging's refusal, or 16.
use Rattle.std.proofs.Common.{refl, ap, ◌∙◌}
use Rattle.rules.specs.Codes.{number}
use Rattle.rules.specs.Words.{refuse}
use Rattle.rules.specs.declared.Refused.{Refused}
use Rattle.runtime.proofs.Judged.{on_refused, on_accepted}
use Rattle.tillerwrap.proofs.wrong_length.Goals as goal

pub returns-in-Ok-clause-words : goal.returns-in-Ok-clause-words
returns-in-Ok-clause-words c = λ lent.
    ap (λ (r : Refused). refuse (number r.code) r.place lent) c.from.ensures
    ∙ on_accepted c.args.image.now lent (λ program. refuse 16 0 lent) _ _ c.in-Ok.ensures (λ program. refl)

pub returns-in-Ok-clause-rows : goal.returns-in-Ok-clause-rows
returns-in-Ok-clause-rows c = λ lent.
    ap (λ (r : Refused). refuse (number r.code) r.place lent) c.from.ensures
    ∙ on_accepted c.args.image.now lent (λ program. refuse 16 0 lent) _ _ c.in-Ok.ensures (λ program. refl)

pub returns-in-Err-clause-words : goal.returns-in-Err-clause-words
returns-in-Err-clause-words c = λ lent. on_refused c.args.image.now lent (λ program. refuse 16 0 lent) _ c.in-Err.ensures

pub returns-in-Err-clause-rows : goal.returns-in-Err-clause-rows
returns-in-Err-clause-rows c = λ lent. on_refused c.args.image.now lent (λ program. refuse 16 0 lent) _ c.in-Err.ensures
