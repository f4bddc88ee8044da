-- Each edit of words is a change of the machine that they hold.
use Rattle.std.proofs.Common.{arith}
use Rattle.machine.specs.Index.{moved}
use Rattle.step.specs.Planned.{written_in, undo_leaf_made}
use Rattle.commit.proofs.Holds.{holds-view, long, kept-count, holds-moved, holds-closed, holds-written, row_fits}
use Rattle.commit.proofs.undo_leaf.Goals as goal

pub move_row-requires : goal.move_row-requires
move_row-requires c =
    let h = holds-written (holds-view c.args.m.now c.requires.0) c.args.writes c.write.ensures c.requires.1.within in
    (long h, (row_fits c.requires.0 c.args.row c.requires.1.live).1)

pub close_up-requires : goal.close_up-requires
unfolding written_in moved
close_up-requires c =
    let a = c.args in
    let f = c.requires.1 in
    let lent = holds-view a.m.now c.requires.0 in
    let h = holds-moved (holds-written lent a.writes c.write.ensures f.within) a.row a.to.label a.to.stage c.move_row.ensures f.live in
    (long h, omega (arith, kept-count h, lent.sized.history4096), omega (arith, kept-count h, f.there))

pub returns : goal.returns
unfolding undo_leaf_made written_in moved
returns c =
    let a = c.args in
    let f = c.requires.1 in
    let written = holds-written (holds-view a.m.now c.requires.0) a.writes c.write.ensures f.within in
    let h = holds-moved written a.row a.to.label a.to.stage c.move_row.ensures f.live in
    (holds-closed h a.entry c.close_up.ensures f.there).words
