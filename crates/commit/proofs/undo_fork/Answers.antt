-- Each edit of words is a change of the machine that they hold.
use Rattle.std.proofs.Common.{arith}
use Rattle.rules.specs.Machine.{view}
use Rattle.machine.specs.Index.{moved, removed}
use Rattle.step.specs.Planned.{undo_fork_made}
use Rattle.commit.proofs.Holds.{holds-view, long, live-count, kept-count, holds-moved, holds-closed, holds-removed, moved-many, row_fits}
use Rattle.commit.proofs.undo_fork.Goals as goal

pub move_row-requires : goal.move_row-requires
move_row-requires c = row_fits c.requires.0 c.args.row c.requires.1.live

pub remove_rows-requires : goal.remove_rows-requires
remove_rows-requires c =
    let a = c.args in
    let lent = holds-view a.m.now c.requires.0 in
    let h = holds-moved lent a.row a.to.label a.to.stage c.move_row.ensures c.requires.1.live in
    let many = moved-many (view a.m.now) a.row a.to.label a.to.stage in
    (long h, omega (arith, live-count h, lent.sized.rows64, many), omega (arith, live-count h, c.requires.1.at, many))

pub close_up-requires : goal.close_up-requires
unfolding moved removed
close_up-requires c =
    let a = c.args in
    let f = c.requires.1 in
    let lent = holds-view a.m.now c.requires.0 in
    let row_moved = holds-moved lent a.row a.to.label a.to.stage c.move_row.ensures f.live in
    let many = moved-many (view a.m.now) a.row a.to.label a.to.stage in
    let h = holds-removed row_moved a.first a.count c.remove_rows.ensures (omega (arith, f.at, many)) in
    (long h, omega (arith, kept-count h, lent.sized.history4096), omega (arith, kept-count h, f.there))

pub returns : goal.returns
unfolding undo_fork_made moved removed
returns c =
    let a = c.args in
    let f = c.requires.1 in
    let row_moved = holds-moved (holds-view a.m.now c.requires.0) a.row a.to.label a.to.stage c.move_row.ensures f.live in
    let many = moved-many (view a.m.now) a.row a.to.label a.to.stage in
    let h = holds-removed row_moved a.first a.count c.remove_rows.ensures (omega (arith, f.at, many)) in
    (holds-closed h a.entry c.close_up.ensures f.there).words
