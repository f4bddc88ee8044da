-- The label at the index before i; there is none at 0.
use Rattle.std.proofs.Common.{◌≡◌, ◌-◌, arith}
use Rattle.std.proofs.lemmas.Grind.{common_steps}
use Rattle.std.proofs.lemmas.Option.{gets}
use Rattle.std.specs.List.{slice_get}
use Rattle.own.proofs.Placing.{nth-none, nth-get}
use Rattle.own.proofs.nth.Goals as goal

pub returns-in_err-at : goal.returns-in_err-at
returns-in_err-at c = nth-none c.args.labels.now c.args.i _ c.in_err-at.ensures c.from_residual.ensures

pub returns : goal.returns
returns c =
    let e : c.copied.result ≡ slice_get c.args.labels.now (c.args.i - 1) = grind (arith, common_steps, gets) in
    nth-get c.args.labels.now c.args.i _ (λ e. omega arith) e
