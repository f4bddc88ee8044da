-- Each turn leaves half of the window, by the row in its middle.
use Rattle.std.proofs.Common.{arith}
use Rattle.ordered.proofs.Halves.{step-le, window_all, window_half, window_one}
use Rattle.ordered.proofs.find.candidate.Goals as goal

pub overflow_add-low-in-loop-width : goal.overflow_add-low-in-loop-width
overflow_add-low-in-loop-width c = omega (arith, step-le _ _ _ c.half_if_below-low.ensures)

pub loop-width-init : goal.loop-width-init
loop-width-init c = (omega arith, omega arith, λ w o t. window_all w _ o)

pub loop-width-preserved : goal.loop-width-preserved
loop-width-preserved c =
    let l = c.loop-width in (
      omega (arith, step-le _ _ _ c.half_if_below-low.ensures),
      omega arith,
      λ w o t.
          window_half w c.args.ids.now o t c.args.identifier l.low l.width _ _ (omega arith) (omega arith) (omega arith) (omega arith)
          c.half_if_below-low.ensures (l.invariant.2 w o t),
    )

pub returns : goal.returns
returns c =
    let l = c.loop-width in
    (omega arith, λ w o t. window_one w _ l.low l.width (omega arith) (l.invariant.2 w o t))
