-- Each row is looked at.
use Rattle.std.proofs.Common.{◌∙◌, refl, arith, rules}
use Rattle.std.proofs.lemmas.Grind.{common_steps}
use Rattle.std.proofs.lemmas.Iterator.{YieldsList-from_range}
use Rattle.std.proofs.lemmas.Iterator.Search.{all_from_yields_List}
use Rattle.rules.specs.Machine.{live_count, view}
use Rattle.laws.proofs.View.{row_at}
use Rattle.ordered.proofs.Each.{rows-all}
use Rattle.fits.specs.Children.{whole_family}
use Rattle.fits.proofs.children.all_whole.Goals as goal

pub returns : goal.returns
returns c = λ program x t.
    let m = c.args.m.now in
    all_from_yields_List (λ i. whole_family program (view m).rows (row_at m i)) _ _ _ c.all.ensures.ran
    (YieldsList-from_range 0 (live_count m) _ refl refl) (λ i b q k. (search rules, grind (arith, common_steps, x, t)))
    ∙ rows-all m (whole_family program (view m).rows) _ _ (omega arith) (λ i l. refl)
