-- The place is in the own process block, where there is one.
use Rattle.std.proofs.Common.{ℕ, ap, ◌∙◌}
use Rattle.std.proofs.Math.Option.{Option}
use Rattle.rules.specs.Fits.{own_fits, stands_in_some}
use Rattle.laws.proofs.View.{row_at}
use Rattle.own.proofs.own_fits.Goals as goal

pub returns-in-Some : goal.returns-in-Some
unfolding own_fits
returns-in-Some c = λ program t.
    c.stands_in.ensures program t.enters t.home
    ∙ ap (λ (o : Option ℕ). stands_in_some program o (row_at c.args.m.now c.args.i).stands) (c.in-Some.ensures program t.leaves t.calls)

pub returns-in-None : goal.returns-in-None
unfolding own_fits
returns-in-None c = λ program t.
    ap (λ (o : Option ℕ). stands_in_some program o (row_at c.args.m.now c.args.i).stands) (c.in-None.ensures program t.leaves t.calls)
