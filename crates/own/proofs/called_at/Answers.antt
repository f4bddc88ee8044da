-- The labels stand in the block's places, where there is a block.
use Rattle.std.proofs.Common.{◌≡◌, ◌+◌, ◌-◌, ◌*◌, min, sym, get_or, arith}
use Rattle.own.proofs.Placing.{called-none, called-some}
use Rattle.own.proofs.called_at.Goals as goal
use Rattle.own.proofs.called_at.Goals.{in_default-via-in-Some+else-b-calls, in_default-via-in_default}

pub returns-in-Some : goal.returns-in-Some
returns-in-Some c = λ program x t.
    let n = x.count in
    let k = t.count in
    let b = c.in-Some.b in
    let k : 8 * b + c.min.result - 8 * b ≡ min 8 (get_or c.args.calls.now.counts b 0) = omega (arith, c.min.ensures, c.from.ensures) in
    called-some program _ _ (c.in-Some.ensures.block program x) c.args.calls.now t (omega arith) _ k

pub returns-in_default : goal.returns-in_default
returns-in_default c = elim c.in_default.branch [
  | in_default-via-in-Some+else-b-calls w ↦ λ program x t.
      let n = x.count in
      let k = t.count in
      sym (called-none program _ _ (w.in-Some.ensures.block program x) (omega arith))
  | in_default-via-in_default w ↦ λ program x t.
      let n = x.count in
      sym (called-none program _ _ (w.in_default.ensures.block program x) (omega arith))
]
