-- Each row but the first is above the one before it.
use Rattle.std.proofs.Common.{◌∙◌, refl, rules}
use Rattle.std.proofs.lemmas.Iterator.{YieldsList-from_range}
use Rattle.std.proofs.lemmas.Iterator.Search.{all_from_yields_List}
use Rattle.rules.specs.Machine.{live_count}
use Rattle.ordered.proofs.Rising.{risen, ascends-all}
use Rattle.ordered.proofs.words.ascends.Goals as goal

pub returns : goal.returns
returns c =
    let m = c.args.m.now in
    all_from_yields_List (risen m) _ _ _ c.all.ensures.ran (YieldsList-from_range 1 (live_count m) _ refl refl) (λ x b q k. search rules) ∙ ascends-all m
