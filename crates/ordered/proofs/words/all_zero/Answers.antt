-- Each word is looked at.
use Rattle.std.proofs.Common.{sym, ◌∙◌, rules, eqb}
use Rattle.std.proofs.lemmas.Iterator.{YieldsList-from_slice}
use Rattle.std.proofs.lemmas.Iterator.Search.{all_from_yields_List}
use Rattle.ordered.proofs.Zeros.{each-all}
use Rattle.ordered.proofs.words.all_zero.Goals as goal

pub returns : goal.returns
returns c =
    all_from_yields_List (λ w. eqb w 0) _ _ _ c.all.ensures.ran (YieldsList-from_slice c.args.words.now cc) (λ x b q k. search rules)
    ∙ sym (each-all (λ w. eqb w 0) c.args.words.now)
