-- The plan of the direction at hand.
use Rattle.std.proofs.Common.{ap, arith}
use Rattle.rules.specs.Machine.{view}
use Rattle.step.specs.Ready.{process_at, here_at}
use Rattle.step.proofs.Making.{plans_at}
use Rattle.accepted.specs.Direction.{numbered}
use Rattle.accepted.proofs.Codes.{goes-forward, goes_back}
use Rattle.accepted.proofs.plan_of.Goals as goal

pub returns-in-Forward : goal.returns-in-Forward
returns-in-Forward c =
    let s = c.args in
    let w = s.m.now in
    plans_at
    (goes-forward s.blocks.now (view w) (process_at w s.row) (here_at w s.row) (numbered s.direction) (ap numbered c.in-Forward.is))
    c.forward_plan.ensures

pub returns-in-Undo : goal.returns-in-Undo
returns-in-Undo c =
    let s = c.args in
    let w = s.m.now in
    plans_at
    (goes_back s.blocks.now (view w) (process_at w s.row) (here_at w s.row) (numbered s.direction) (λ e. omega (arith, e, ap numbered c.in-Undo.is)))
    c.undo_plan.ensures
