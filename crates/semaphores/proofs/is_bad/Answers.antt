-- Some number below 32 is what `any` over the range says.
use Rattle.std.proofs.Common.{◌&&◌, ◌∙◌, refl, false, get_or, sym, rules}
use borrow.Author.Tests.{tests}
use Rattle.std.proofs.lemmas.Iterator.{YieldsList-from_range}
use Rattle.std.proofs.lemmas.Iterator.Search.{any_from_yields_List}
use Rattle.rules.specs.Format.{variables}
use Rattle.rules.specs.Names.{block_names}
use Rattle.short.proofs.Programs.{some_below-any}
use Rattle.semaphores.proofs.is_bad.Goals as goal

pub returns : goal.returns
returns c =
    any_from_yields_List (λ x. get_or c.args.table.now x false && block_names c.args.block.now x) _ _ _ c.any.ensures.ran
    (YieldsList-from_range 0 variables variables refl refl) (λ x b q k. search (rules, tests))
    ∙ sym (some_below-any _ variables)
