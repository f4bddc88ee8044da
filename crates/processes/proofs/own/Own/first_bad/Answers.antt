-- The first number that is bad is the lowest.
use Rattle.std.proofs.Common.{ℕ, Bool, not, get_or, ◌∙◌, refl, sym, ap, rules, arith, zero-add}
use borrow.Author.Tests.{tests}
use Rattle.std.specs.List.{range_with_len}
use Rattle.std.proofs.lemmas.Iterator.{YieldsList-from_range}
use Rattle.std.proofs.lemmas.Iterator.Search.{position_from_yields_List}
use Rattle.std.proofs.lemmas.List.FromFn.{length-range_with_len, get_or-range_with_len}
use Rattle.laws.specs.Found.{found}
use Rattle.laws.proofs.Search.{found-position}
use Rattle.processes.specs.Own.{one_at}
use Rattle.processes.proofs.own.Own.first_bad.Goals as goal

pub returns : goal.returns
returns c =
    let n = c.args.n in
    let bad : ℕ → Bool = λ b. not (one_at c.args.self.now (get_or c.args.groups.now.numbers b 0)) in
    position_from_yields_List bad _ _ _ c.position.ensures.ran (YieldsList-from_range 0 n n refl (omega arith)) (λ x b q k. search (rules, tests))
    ∙ found-position bad 0 bad (range_with_len 0 n)
    (λ k lt. ap bad (sym (get_or-range_with_len 0 n k 0 (rw (length-range_with_len 0 n) at lt) ∙ zero-add k)))
    ∙ ap (found bad) (length-range_with_len 0 n)
