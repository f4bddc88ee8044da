-- Each entry is looked at.
use Rattle.std.proofs.Common.{◌∙◌, refl, sym, arith, rules, ltb, get_or, ◌+◌, ◌*◌, ◌&&◌}
use Rattle.std.proofs.lemmas.Iterator.{YieldsList-from_range}
use Rattle.std.proofs.lemmas.Iterator.Search.{all_from_yields_List}
use Rattle.rules.specs.Machine.{history_count}
use Rattle.rules.specs.Fits.{digits_fit, kept_fits}
use Rattle.laws.proofs.View.{kept_at}
use Rattle.ordered.proofs.Each.{history-all}
use Rattle.kept.proofs.Digits.{kept-is}
use Rattle.kept.proofs.all_kept.Goals as goal

pub returns : goal.returns
returns c = λ program e.
    let m = c.args.m.now in
    all_from_yields_List (λ k. ltb (get_or m (483 + 2 * k) 0) c.args.n && digits_fit 8 (get_or m (482 + 2 * k) 0)) _ _ _ c.all.ensures.ran
    (YieldsList-from_range 0 (history_count m) _ refl refl) (λ x b q k. search rules)
    ∙ history-all m (kept_fits program) _ _ (omega arith) (λ k l. sym (kept-is program (kept_at m k) c.args.n _ e refl))
