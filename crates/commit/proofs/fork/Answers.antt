-- Each edit of words is a change of the machine that they hold.
use Rattle.std.proofs.Common.{ℕ, arith, rules}
use Rattle.rules.specs.Machine.{view}
use Rattle.machine.specs.Index.{moved, inserted}
use Rattle.step.specs.Planned.{identifier_at, fork_made}
use Rattle.commit.proofs.Holds.{holds-view, long, live-count, kept-count, holds-moved, holds_kept, holds-children, moved-many, row-told}
use Rattle.commit.proofs.fork.Goals as goal

pub insert-requires : goal.insert-requires
insert-requires c =
    let a = c.args in
    let f = c.requires.1 in
    let h = holds-moved (holds-view a.m.now c.requires.0) a.row a.to.label a.to.stage c.move_row.ensures f.live in
    let many = moved-many (view a.m.now) a.row a.to.label a.to.stage in (
      long h,
      omega (arith, live-count h, f.at, many),
      omega (arith, live-count h, f.rooms, many),
      f.few,
      omega (arith, row-told c.requires.0 a.row f.live c.of_row-p.ensures.identifier, f.shallow),
    )

pub keep-requires : goal.keep-requires
unfolding moved inserted
keep-requires c =
    let a = c.args in
    let f = c.requires.1 in
    let p : ℕ = identifier_at (view a.m.now) a.row in
    let row_moved = holds-moved (holds-view a.m.now c.requires.0) a.row a.to.label a.to.stage c.move_row.ensures f.live in
    let many = moved-many (view a.m.now) a.row a.to.label a.to.stage in
    let h =
    holds-children row_moved a.first p 0 a.names c.insert.ensures
    (row-told c.requires.0 a.row f.live c.of_row-p.ensures.identifier) f.few (search rules) (omega (arith, f.at, many)) (omega (arith, f.rooms, many)) in
    (long h, omega (arith, kept-count h, f.room))

pub returns : goal.returns
unfolding fork_made moved inserted
returns c =
    let a = c.args in
    let f = c.requires.1 in
    let p : ℕ = identifier_at (view a.m.now) a.row in
    let told = row-told c.requires.0 a.row f.live c.of_row-p.ensures.identifier in
    let row_moved = holds-moved (holds-view a.m.now c.requires.0) a.row a.to.label a.to.stage c.move_row.ensures f.live in
    let many = moved-many (view a.m.now) a.row a.to.label a.to.stage in
    let h =
    holds-children row_moved a.first p 0 a.names c.insert.ensures told f.few (search rules)
    (omega (arith, f.at, many)) (omega (arith, f.rooms, many)) in
    (holds_kept h p a.block c.keep.ensures told f.room).words
