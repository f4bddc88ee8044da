-- Each edit of words is a change of the machine that they hold.
use Rattle.std.proofs.Common.{ℕ, arith}
use Rattle.rules.specs.Machine.{view}
use Rattle.machine.specs.Index.{removed}
use Rattle.step.specs.Planned.{identifier_at, merge_made}
use Rattle.commit.proofs.Holds.{holds-view, long, live-count, kept-count, holds_kept, holds-removed, row_fits, row-told}
use Rattle.commit.proofs.merge.Goals as goal

pub of_row-p-requires : goal.of_row-p-requires
of_row-p-requires c = row_fits c.requires.0 c.args.row c.requires.1.live

pub remove_rows-requires : goal.remove_rows-requires
remove_rows-requires c =
    let h = holds-view c.args.m.now c.requires.0 in
    (long h, omega (arith, live-count h, h.sized.rows64), omega (arith, live-count h, c.requires.1.at))

pub keep-requires : goal.keep-requires
unfolding removed
keep-requires c =
    let a = c.args in
    let h = holds-removed (holds-view a.m.now c.requires.0) a.first a.count c.remove_rows.ensures c.requires.1.at in
    (long h, omega (arith, kept-count h, c.requires.1.room))

pub returns : goal.returns
unfolding merge_made removed
returns c =
    let a = c.args in
    let f = c.requires.1 in
    let p : ℕ = identifier_at (view a.m.now) a.row in
    let h = holds-removed (holds-view a.m.now c.requires.0) a.first a.count c.remove_rows.ensures f.at in
    (holds_kept h p a.block c.keep.ensures (row-told c.requires.0 a.row f.live c.of_row-p.ensures.identifier) f.room).words
