-- The first block that is bad stands at the lowest number.
use Rattle.std.proofs.Common.{◌∙◌, rules, get_or, eqb}
use borrow.Author.Tests.{tests}
use Rattle.std.specs.List.{list_any}
use Rattle.std.proofs.lemmas.Iterator.{YieldsList-from_slice}
use Rattle.std.proofs.lemmas.Iterator.Search.{position_from_yields_List}
use Rattle.rules.specs.Labels.{no_block, block_of, called_by}
use Rattle.laws.proofs.Search.{found-position}
use Rattle.called.proofs.Tabling.{bad12-read}
use Rattle.called.proofs.twelve.Goals as goal

pub returns : goal.returns
returns c =
    let blocks = c.args.blocks.now in
    let begins = c.args.begins.now in
    position_from_yields_List (λ b. list_any (λ l. eqb (get_or begins l 0) 0) (called_by b.instruction)) _ _ _ c.position.ensures.ran
    (YieldsList-from_slice blocks cc) (λ x b q k. search (rules, tests))
    ∙ found-position _ no_block _ blocks (λ k _. bad12-read blocks begins (block_of blocks k) c.requires)
