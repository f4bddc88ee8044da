-- Each edit of words is a change of the machine that they hold.
use Rattle.std.proofs.Common.{arith, rules}
use Rattle.rules.specs.Machine.{view}
use Rattle.machine.specs.Index.{inserted}
use Rattle.step.specs.Planned.{identifier_at, undo_merge_made}
use Rattle.commit.proofs.Holds.{holds-view, long, live-count, kept-count, holds-closed, holds-children, row-told}
use Rattle.commit.proofs.undo_merge.Goals as goal

pub insert-requires : goal.insert-requires
insert-requires c =
    let a = c.args in
    let f = c.requires.1 in
    let h = holds-view a.m.now c.requires.0 in (
      long h,
      omega (arith, live-count h, f.at),
      omega (arith, live-count h, f.rooms),
      f.few,
      omega (arith, row-told c.requires.0 a.row f.live c.of_row-p.ensures.identifier, f.shallow),
    )

pub close_up-requires : goal.close_up-requires
unfolding inserted
close_up-requires c =
    let a = c.args in
    let f = c.requires.1 in
    let lent = holds-view a.m.now c.requires.0 in
    let h =
    holds-children lent a.first (identifier_at (view a.m.now) a.row) 2 a.names c.insert.ensures
    (row-told c.requires.0 a.row f.live c.of_row-p.ensures.identifier) f.few (search rules) f.at f.rooms in
    (long h, omega (arith, kept-count h, lent.sized.history4096), omega (arith, kept-count h, f.there))

pub returns : goal.returns
unfolding undo_merge_made inserted
returns c =
    let a = c.args in
    let f = c.requires.1 in
    let h =
    holds-children (holds-view a.m.now c.requires.0) a.first (identifier_at (view a.m.now) a.row) 2 a.names c.insert.ensures
    (row-told c.requires.0 a.row f.live c.of_row-p.ensures.identifier) f.few (search rules) f.at f.rooms in
    (holds-closed h a.entry c.close_up.ensures f.there).words
