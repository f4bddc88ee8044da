-- The entry gives the place to go back to, or refuses.
use Rattle.std.proofs.Common.{ℕ, sym, ap, ◌∙◌, subst, rules}
use Rattle.rules.specs.Machine.{child, view}
use Rattle.rules.specs.Leaf.{entry_place}
use Rattle.rules.specs.declared.Block.{Block}
use Rattle.leaf.specs.Side.{side_place}
use Rattle.step.specs.Ready.{FirstFrom}
use Rattle.step.proofs.Standing.{rows-ready, row-ready}
use Rattle.step.proofs.Making.{makes-undo_fork, refuses-undo_fork}
use Rattle.undo.proofs.fork.Goals as goal

pub of_row-requires : goal.of_row-requires
of_row-requires c = row-ready c.args.m.now c.args.row c.requires.0

pub first_child-first-requires : goal.first_child-first-requires
first_child-first-requires c = rows-ready c.args.m.now c.args.row c.requires.0

pub returns-in_err-to : goal.returns-in_err-to
unfolding side_place
returns-in_err-to c program b e =
    let w = c.args.m.now in
    refuses-undo_fork w c.args.row c.requires.0 program b (search rules)
    (c.in_err-to.ensures ∙ ap (λ (y : Block). entry_place (view w).memory y.entry) (sym e))

pub returns : goal.returns
unfolding side_place
returns c program b e =
    let w = c.args.m.now in
    let f = c.first_child-first in
    makes-undo_fork w c.args.row c.requires.0 _
    (subst (λ (y : ℕ). FirstFrom w (child y 1) f.result) c.of_row.ensures.identifier f.ensures) _ c.requires.2 program b _ _
    (c.in_ok-to.ensures ∙ ap (λ (y : Block). entry_place (view w).memory y.entry) (sym e))
    c.requires.3
