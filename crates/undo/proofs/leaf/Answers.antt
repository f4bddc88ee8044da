-- The row says where the process stands, and the leaf's plan what is undone there.
use Rattle.std.proofs.Common.{ap, ◌∙◌, rules}
use Rattle.rules.specs.Machine.{view}
use Rattle.rules.specs.Leaf.{leaf_undo}
use Rattle.rules.specs.declared.Place.{Place}
use Rattle.step.proofs.Standing.{row-ready}
use Rattle.step.proofs.Making.{makes-undo_leaf, refuses-undo_leaf}
use Rattle.undo.proofs.leaf.Goals as goal

pub of_row-requires : goal.of_row-requires
of_row-requires c = row-ready c.args.m.now c.args.row c.requires.0

pub returns-in_err-to : goal.returns-in_err-to
returns-in_err-to c =
    let a = c.args in
    refuses-undo_leaf a.m.now a.row c.requires.0 (search rules) _
    (c.in_err-to.ensures.shown ∙ ap (λ (q : Place). leaf_undo (view a.m.now).memory q a.block.now) c.of_row.ensures.stands)

pub returns : goal.returns
returns c =
    let a = c.args in
    let to = c.in_ok-to in
    makes-undo_leaf a.m.now a.row c.requires.0 to.field-0.to to.field-0.writes a.entry _
    (to.ensures.shown ∙ ap (λ (q : Place). leaf_undo (view a.m.now).memory q a.block.now) c.of_row.ensures.stands) to.ensures.inside c.requires.2
