-- The first block that is bad by the counts stands at the lowest number.
use Rattle.std.proofs.Common.{◌∙◌, rules}
use borrow.Author.Tests.{tests}
use Rattle.std.proofs.lemmas.Iterator.{YieldsList-from_slice}
use Rattle.std.proofs.lemmas.Iterator.Search.{position_from_yields_List}
use Rattle.rules.specs.Labels.{no_block, block_of}
use Rattle.laws.proofs.Search.{found-position}
use Rattle.labels.specs.Counts.{bad_by}
use Rattle.labels.proofs.Counting.{bad10-read}
use Rattle.labels.proofs.ten.Goals as goal

pub returns : goal.returns
returns c =
    let blocks = c.args.blocks.now in
    let counts = c.of-counts in
    record {
      bad =
          position_from_yields_List (bad_by counts.result) _ _ _ c.position.ensures.ran (YieldsList-from_slice blocks cc)
          (λ x b q k. search (rules, tests))
          ∙ found-position _ no_block _ blocks (λ k _. bad10-read blocks counts.result counts.ensures (block_of blocks k));
      begins = counts.ensures.begins;
    }
