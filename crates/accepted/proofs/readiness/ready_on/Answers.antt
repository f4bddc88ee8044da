-- 16 or 17, or the rows.
use Rattle.std.proofs.Common.{List, ap, ◌∙◌}
use Rattle.rules.specs.Words.{accept}
use Rattle.rules.specs.declared.Row.{Row}
use Rattle.accepted.proofs.Rows.{listed-err, list-unfit, list-made}
use Rattle.accepted.proofs.readiness.ready_on.Goals as goal

pub returns-in_err-places : goal.returns-in_err-places
returns-in_err-places c = λ lent size.
    listed-err _ _ c.from_residual.ensures.1 lent ∙ list-unfit c.args.blocks.now c.args.m.now lent size _ c.in_err-places.ensures

pub returns : goal.returns
returns c = λ lent size.
    let fit = c.in_ok-places.ensures in
    ap (λ (rows : List Row). accept rows) c.rows_of.ensures ∙ list-made c.args.blocks.now c.args.m.now lent size fit.0 fit.1
