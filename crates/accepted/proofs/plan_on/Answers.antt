-- Each way out is one of Codes.
use Rattle.std.proofs.Common.{ap, ◌∙◌, rules}
use Rattle.rules.specs.Codes.{number}
use Rattle.rules.specs.Machine.{view}
use Rattle.rules.specs.Words.{step_of, refuse}
use Rattle.rules.specs.declared.Code.{Code}
use Rattle.step.specs.Ready.{process_at, here_at}
use Rattle.step.proofs.Making.{plans_at}
use Rattle.plans.specs.Known.{Known}
use Rattle.plans.proofs.Known.{lent, rows-64}
use Rattle.accepted.proofs.Codes.{refusing_as, code-unfit, code-18, code-19, goes_on_with, a-direction, no-direction, not-live, a-live}
use Rattle.accepted.proofs.plan_on.Goals as goal

pub returns-in_err-places : goal.returns-in_err-places
returns-in_err-places c =
    let s = c.args in
    refusing_as c.args.m.now _ (code-unfit s.blocks.now s.m.now s.process s.direction _ c.in_err-places.ensures) (search rules)

pub returns-in_err-direction : goal.returns-in_err-direction
returns-in_err-direction c =
    let s = c.args in
    let fit = c.in_ok-places.ensures in
    let n = no-direction s.direction _ c.in_err-direction.ensures in
    refusing_as c.args.m.now _
    (ap (λ (x : Code). refuse (number x) 0 s.m.now) n.1
    ∙ code-19 s.blocks.now s.m.now s.process s.direction fit.0 fit.1 n.0) (search rules)

pub row_of-requires : goal.row_of-requires
row_of-requires c =
    let s = c.args in
    let fit = c.in_ok-places.ensures in
    let known : Known s.blocks.now s.m.now = record { sound = c.requires.0; long = fit.0; fit = fit.1 } in
    (known.long, rows-64 s.blocks.now s.m.now known)

pub returns-in_err-row : goal.returns-in_err-row
returns-in_err-row c =
    let s = c.args in
    let fit = c.in_ok-places.ensures in
    let n = not-live s.m.now s.process _ _ c.row_of.ensures.row c.in_err-row.ensures.value in
    refusing_as c.args.m.now _
    (ap (λ (x : Code). refuse (number x) 0 s.m.now) n.1
    ∙ code-18 s.blocks.now s.m.now s.process s.direction fit.0 fit.1 (a-direction s.direction _ c.in_ok-direction.ensures).0 n.0) (search rules)

pub returns : goal.returns
returns c =
    let s = c.args in
    let w = s.m.now in
    let program = s.blocks.now in
    let fit = c.in_ok-places.ensures in
    let known : Known program w = record { sound = c.requires.0; long = fit.0; fit = fit.1 } in
    let d = a-direction s.direction _ c.in_ok-direction.ensures in
    let r = a-live w s.process _ c.in_ok-row.row c.row_of.ensures.row c.row_of.ensures.live c.in_ok-row.ensures.value in
    goes_on_with program w s.process s.direction known.long known.fit d.0 _ _ r.0 r.1 (lent program w known)
    (plans_at (ap (step_of program (view w) (process_at w c.in_ok-row.row) (here_at w c.in_ok-row.row)) d.1) c.plan_of.ensures)
