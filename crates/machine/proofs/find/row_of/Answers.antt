-- What is found is the lowest row with the identifier.
use Rattle.std.proofs.Common.{◌≡◌, ◌+◌, ◌*◌, rules, arith, tests, get_or}
use Rattle.std.proofs.lemmas.List.{get_or_read}
use Rattle.std.proofs.lemmas.Iterator.{first_from_Range}
use Rattle.machine.proofs.RowFound.{row-found}
use Rattle.machine.proofs.find.row_of.Goals as goal

pub returns-clause-row : goal.returns-clause-row
returns-clause-row c =
    let m = c.args.m.now in
    let p = c.args.identifier in
    row-found m p c.find.result
    (first_from_Range _ _ _ _ (λ i. get_or m (290 + 3 * i) 0 ≡ p) (λ i. get_or m (290 + 3 * i) 0 ≡ p → ⊥) c.find.ensures.ran
    (λ i q k. grind (arith, tests, get_or_read))
    (λ i q k. (search rules, grind (arith, tests, get_or_read))))
