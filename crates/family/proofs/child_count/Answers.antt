-- The rows that pass the test are counted.
use Rattle.std.proofs.Common.{ℕ, ◌+◌, ◌*◌, ◌∙◌, get_or, sym, rules, arith}
use borrow.Author.Tests.{tests}
use Rattle.std.proofs.lemmas.Iterator.{YieldsList-from_range}
use Rattle.std.proofs.lemmas.Iterator.Consumers.{count_from_yields_List, YieldsList-from_filter}
use Rattle.rules.specs.Machine.{is_child_of, live_count}
use Rattle.family.proofs.Rows.{children-counted}
use Rattle.family.proofs.child_count.Goals as goal

pub returns : goal.returns
returns c =
    let w = c.args.m.now in
    let p : ℕ = c.args.p in
    count_from_yields_List c.filter.result c.count.result c.count.ensures.ran
    (YieldsList-from_filter _ (λ i. is_child_of p (get_or w (290 + 3 * i) 0))
    (YieldsList-from_range 0 (live_count w) (live_count w) c.filter.ensures.source (omega arith)) c.filter.ensures.closure (λ x b q k. search (rules, tests)))
    ∙ sym (children-counted w p)
