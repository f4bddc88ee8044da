-- A call's undo is that of a merge, any other block's that of a leaf's step.
use Rattle.std.proofs.Common.{sym, ap, ◌∙◌}
use Rattle.rules.specs.Read.{is_call}
use Rattle.rules.specs.Machine.{view}
use Rattle.rules.specs.Leaf.{leaf_undo}
use Rattle.rules.specs.Step.{undo_leaf}
use Rattle.rules.specs.declared.Block.{Block}
use Rattle.step.specs.Ready.{process_at, here_at}
use Rattle.step.proofs.Calling.{is-call}
use Rattle.step.proofs.Making.{plans_at}
use Rattle.undo.proofs.Ways.{undo-calls, undo-leaves}
use Rattle.undo.proofs.childless.Goals as goal

pub returns-in-Some : goal.returns-in-Some
returns-in-Some c program b e =
    let i = ap (λ (y : Block). y.instruction) e ∙ c.in-Some.ensures in
    plans_at (undo-calls program _ _ (here_at c.args.m.now c.args.row) b (is-call i)) (c.merge.ensures program b i)

pub returns-in-None : goal.returns-in-None
returns-in-None c program b e =
    let a = c.args in
    let i = ap (λ (y : Block). is_call y.instruction) e ∙ c.in-None.ensures in
    plans_at
    (ap (λ (y : Block). undo_leaf (view a.m.now) (process_at a.m.now a.row) (leaf_undo (view a.m.now).memory (here_at a.m.now a.row) y)) (sym e)
    ∙ undo-leaves program _ _ (here_at a.m.now a.row) b i)
    c.leaf.ensures
