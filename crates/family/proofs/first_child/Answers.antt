-- The first row from child 1 on.
use Rattle.std.proofs.Common.{ℕ, refl, rules, arith}
use mathlib.Core.Path.{subst⁻¹}
use borrow.Author.Tests.{tests}
use Rattle.std.proofs.lemmas.Iterator.{YieldsList-from_range, IsFirst-from_position}
use Rattle.rules.specs.Machine.{child, live_count}
use Rattle.step.specs.Ready.{FirstFrom}
use Rattle.family.proofs.Rows.{From, Below, first-found}
use Rattle.family.proofs.first_child.Goals as goal

pub returns : goal.returns
returns c =
    let w = c.args.m.now in
    let from : ℕ = child c.args.p 1 in
    subst⁻¹ (FirstFrom w from) c.unwrap_or.ensures
    (first-found w from c.position.result
    (IsFirst-from_position _ _ c.position.result (From w from) (Below w from) c.position.ensures.ran
    (YieldsList-from_range 0 (live_count w) (live_count w) refl (omega arith)) (λ x q k. search (rules, tests)) (λ x q k. search (rules, tests))))
