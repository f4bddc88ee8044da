-- All rows pass the test.
use Rattle.std.proofs.Common.{ℕ, ◌+◌, ◌*◌, ◌∙◌, not, ◌||◌, eqb, get_or, refl, sym, rules, arith}
use borrow.Author.Tests.{tests}
use Rattle.std.proofs.lemmas.Iterator.{YieldsList-from_range}
use Rattle.std.proofs.lemmas.Iterator.Search.{all_from_yields_List}
use Rattle.rules.specs.Machine.{is_child_of, live_count}
use Rattle.family.proofs.Rows.{children-at}
use Rattle.family.proofs.children_at.Goals as goal

pub returns : goal.returns
returns c =
    let w = c.args.m.now in
    let p : ℕ = c.args.p in
    let stage : ℕ = c.args.stage in
    all_from_yields_List (λ i. not (is_child_of p (get_or w (290 + 3 * i) 0)) || eqb (get_or w (292 + 3 * i) 0) stage) _ _ c.all.result c.all.ensures.ran
    (YieldsList-from_range 0 (live_count w) (live_count w) refl (omega arith)) (λ x b q k. search (rules, tests))
    ∙ sym (children-at w p stage)
