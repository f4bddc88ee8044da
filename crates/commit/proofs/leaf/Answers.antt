-- Each edit of words is a change of the machine that they hold.
use Rattle.std.proofs.Common.{ℕ, arith}
use Rattle.rules.specs.Machine.{view}
use Rattle.machine.specs.Index.{moved}
use Rattle.step.specs.Planned.{written_in, identifier_at, leaf_made}
use Rattle.commit.proofs.Holds.{holds-view, long, kept-count, holds-moved, holds_kept, holds-written, row_fits, row-told}
use Rattle.commit.proofs.leaf.Goals as goal

pub of_row-p-requires : goal.of_row-p-requires
of_row-p-requires c = row_fits c.requires.0 c.args.row c.requires.1.live

pub move_row-requires : goal.move_row-requires
move_row-requires c =
    let h = holds-written (holds-view c.args.m.now c.requires.0) c.args.writes c.write.ensures c.requires.1.within in
    (long h, (row_fits c.requires.0 c.args.row c.requires.1.live).1)

pub keep-requires : goal.keep-requires
unfolding written_in moved
keep-requires c =
    let a = c.args in
    let f = c.requires.1 in
    let written = holds-written (holds-view a.m.now c.requires.0) a.writes c.write.ensures f.within in
    let h = holds-moved written a.row a.to.label a.to.stage c.move_row.ensures f.live in
    (long h, omega (arith, kept-count h, f.room))

pub returns : goal.returns
unfolding leaf_made written_in moved
returns c =
    let a = c.args in
    let f = c.requires.1 in
    let p : ℕ = identifier_at (view a.m.now) a.row in
    let written = holds-written (holds-view a.m.now c.requires.0) a.writes c.write.ensures f.within in
    let h = holds-moved written a.row a.to.label a.to.stage c.move_row.ensures f.live in
    (holds_kept h p a.block c.keep.ensures (row-told c.requires.0 a.row f.live c.of_row-p.ensures.identifier) f.room).words
