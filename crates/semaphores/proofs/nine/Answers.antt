-- The first block that is bad stands at the lowest number.
use Rattle.std.proofs.Common.{◌&&◌, ◌∙◌, false, get_or, rules}
use borrow.Author.Tests.{tests}
use Rattle.std.proofs.lemmas.Iterator.{YieldsList-from_slice}
use Rattle.std.proofs.lemmas.Iterator.Search.{position_from_yields_List}
use Rattle.rules.specs.Base.{some_below}
use Rattle.rules.specs.Format.{variables}
use Rattle.rules.specs.Names.{block_names}
use Rattle.rules.specs.Labels.{no_block, block_of}
use Rattle.laws.proofs.Search.{found-position}
use Rattle.semaphores.proofs.Marking.{bad9-read}
use Rattle.semaphores.proofs.nine.Goals as goal

pub returns : goal.returns
returns c =
    let blocks = c.args.blocks.now in
    let table = c.marks-table.result in
    position_from_yields_List (λ b. some_below (λ x. get_or table x false && block_names b x) variables) _ _ _ c.position.ensures.ran
    (YieldsList-from_slice blocks cc) (λ x b q k. search (rules, tests))
    ∙ found-position _ no_block _ blocks (λ k _. bad9-read blocks table (block_of blocks k) c.marks-table.ensures)
