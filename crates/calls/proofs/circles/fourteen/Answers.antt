-- The block found is the lowest on a circle.
use Rattle.std.proofs.Common.{◌≡◌, arith, rules, tests}
use Rattle.std.proofs.lemmas.Grind.{common_steps}
use Rattle.std.proofs.lemmas.List.{get_or_read}
use Rattle.std.proofs.lemmas.Iterator.{first_from_Range}
use Rattle.calls.specs.Grid.{cell}
use Rattle.calls.proofs.Found.{found-circle}
use Rattle.calls.proofs.circles.fourteen.Goals as goal

pub returns : goal.returns
returns c =
    let grid = c.closed.new.grid in
    found-circle _ _ _ _ grid c.closed.ensures _
    (first_from_Range _ _ _ _ (λ b. cell grid b b ≡ 1) (λ b. cell grid b b ≡ 0) c.find.ensures.ran
    (λ b q k. grind (arith, common_steps, tests, get_or_read)) (λ b q k. (search rules, grind (arith, common_steps, tests, get_or_read))))
