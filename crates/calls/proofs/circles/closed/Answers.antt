-- The grid takes in one block more.
use Rattle.std.proofs.Common.{◌≡◌, length, arith}
use Rattle.calls.proofs.Grid.{reaching_more}
use Rattle.calls.proofs.circles.closed.Goals as goal

pub loop-m-preserved : goal.loop-m-preserved
loop-m-preserved c =
    let long : length c.loop-m.grid ≡ c.args.calls.now.count = omega arith in
    reaching_more _ _ _ _ _ (omega arith) c.loop-m.invariant (rw long at c.onward.ensures)
