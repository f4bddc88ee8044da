-- A call forks, any other block is a leaf's step.
use Rattle.std.proofs.Common.{sym, ap, ◌∙◌}
use Rattle.rules.specs.Read.{is_call}
use Rattle.rules.specs.Machine.{view}
use Rattle.rules.specs.Leaf.{leaf_forward}
use Rattle.rules.specs.Step.{leaf_step}
use Rattle.rules.specs.declared.Block.{Block}
use Rattle.step.specs.Ready.{process_at, here_at}
use Rattle.step.proofs.Calling.{is-call}
use Rattle.step.proofs.Making.{plans_at}
use Rattle.forward.proofs.Ways.{calls, leaves}
use Rattle.forward.proofs.childless.Goals as goal

pub returns-in-Some : goal.returns-in-Some
returns-in-Some c program e =
    let i = ap (λ (y : Block). y.instruction) e ∙ c.in-Some.ensures in
    plans_at (calls program _ _ (here_at c.args.m.now c.args.row) c.args.into (is-call i)) (c.fork.ensures program i (ap (λ (y : Block). y.exit) e))

pub returns-in-None : goal.returns-in-None
returns-in-None c program e =
    let a = c.args in
    let i = ap (λ (y : Block). is_call y.instruction) e ∙ c.in-None.ensures in
    plans_at
    (ap (λ (y : Block). leaf_step (view a.m.now) (process_at a.m.now a.row) a.into
    (leaf_forward (view a.m.now).memory (here_at a.m.now a.row) y)) (sym e)
    ∙ leaves program _ _ (here_at a.m.now a.row) a.into i)
    c.leaf.ensures
