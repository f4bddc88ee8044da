-- A turn fills one row more, and at the end all are there.
use Rattle.std.proofs.Common.{◌≡◌, arith, subst, ℕ}
use Rattle.rules.specs.Machine.{live_count}
use Rattle.plans.proofs.Known.{rows-64}
use Rattle.accepted.proofs.Rows.{Filled, filled_none, row-made, filled_more, filled_all}
use Rattle.accepted.proofs.readiness.rows_of.Goals as goal

pub loop-row-init : goal.loop-row-init
loop-row-init c = filled_none c.args.blocks.now c.args.m.now

pub bounds-rows-row : goal.bounds-rows-row
bounds-rows-row c = omega (arith, c.loop-row-test.true, rows-64 c.args.blocks.now c.args.m.now c.requires.0)

pub loop-row-preserved : goal.loop-row-preserved
loop-row-preserved c =
    let program = c.args.blocks.now in
    let w = c.args.m.now in
    filled_more program w c.loop-row.row c.loop-row.rows c.row_at.result
    (omega (arith, c.loop-row-test.true, rows-64 program w c.requires.0)) c.loop-row.invariant
    (row-made program w c.loop-row.row c.row_at.result c.loop-row-test.true c.row_at.ensures.0 c.row_at.ensures.1 c.row_at.ensures.2)

pub returns : goal.returns
returns c =
    let program = c.args.blocks.now in
    let w = c.args.m.now in
    let e : c.loop-row.row ≡ live_count w = omega arith in
    filled_all program w c.loop-row.rows (rows-64 program w c.requires.0) (subst (λ (i : ℕ). Filled program w i c.loop-row.rows) e c.loop-row.invariant)
