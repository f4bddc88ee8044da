-- A step on the words of the bytes, written back where it is accepted.
use Rattle.std.proofs.Common.{ap, ◌∙◌, rules}
use Rattle.rules.specs.declared.Answer.{Answer}
use Rattle.runtime.specs.Outcome.{outcome_of}
use Rattle.tillerwrap.proofs.Lent.{bad-bytes, stepped, kept}
use Rattle.tillerwrap.proofs.tillerwrap_step.Goals as goal

pub returns-then-machine-ne-MACHINE_BYTES : goal.returns-then-machine-ne-MACHINE_BYTES
returns-then-machine-ne-MACHINE_BYTES c =
    let a = c.args in
    bad-bytes a.image.now a.machine.now a.process a.direction _ c.if-machine-ne-MACHINE_BYTES.true
    (ap (λ (said : Answer). outcome_of said a.machine.now) c.from.ensures ∙ c.wrong_length.ensures.words a.machine.now)

pub returns-then-answer-ne0 : goal.returns-then-answer-ne0
returns-then-answer-ne0 c =
    let a = c.args in
    kept a.image.now a.machine.now a.process a.direction _ _ _ c.if-machine-ne-MACHINE_BYTES.false
    (λ i. search rules)
    c.words_of.ensures
    c.step-answer.ensures
    c.if-answer-ne0.true

pub returns : goal.returns
returns c =
    let a = c.args in
    ap (outcome_of c.step-answer.result) c.bytes_of.ensures
    ∙ stepped a.image.now a.machine.now a.process a.direction _ _ _ c.if-machine-ne-MACHINE_BYTES.false
    (λ i. search rules)
    c.words_of.ensures
    c.step-answer.ensures
