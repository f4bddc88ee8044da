-- A label's peak is read from the memo or is one more than the largest sum over its blocks; a sum takes in one label more; and where
-- a part is over, so is the whole.
use Rattle.std.proofs.Common.{◌≡◌, ◌≤◌, suc, arith, ap, ◌∙◌}
use Rattle.rules.specs.Calls.{sum_of}
use Rattle.calls.specs.Table.{calling}
use Rattle.calls.specs.Peaks.{over, unless_over, peak_within}
use Rattle.calls.proofs.Memo as laws
use Rattle.calls.proofs.peaks.+peak_sum.Goals as goal
use Rattle.calls.proofs.peaks.+peak_sum.Goals.{peak-then-calls-b+in_ok-sum, peak-else-calls-b}

pub peak-returns-in_err-left : goal.peak-returns-in_err-left
peak-returns-in_err-left t c =
    (c.from_residual.ensures ∙ laws.peak-none _ c.args.levels c.args.label (omega (arith, c.in_err-left.ensures)), c.requires.memo)

pub peak-loop-b-init : goal.peak-loop-b-init
peak-loop-b-init t c = record { best = laws.largest-none _ _ _ _ _ _; few = omega arith; memo = c.requires.memo }

pub peak-returns-in_err-sum : goal.peak-returns-in_err-sum
peak-returns-in_err-sum t c =
    let left = c.in_ok-left in
    let level : suc left.left ≡ c.args.levels = omega (arith, left.ensures) in
    let here : over ≤ sum_of (peak_within (calling c.args.calls.now) left.left) c.called.result.now = laws.not_told _ c.in_err-sum.ensures.0 in
    let high = laws.peak-over _ _ _ _ left.left c.args.label c.loop-b.b (omega arith) c.if-calls-b.true (rw c.called.ensures at here) in
    (c.from_residual-in_err-sum.ensures ∙ laws.tells_none _ (rw level at high), c.in_err-sum.ensures.1)

pub peak-loop-b-preserved : goal.peak-loop-b-preserved
peak-loop-b-preserved t c =
    let i = c.loop-b.invariant in
    elim c.if-calls-b.branch [
      | peak-then-calls-b+in_ok-sum w ↦
          let one = laws.told _ _ w.in_ok-sum.ensures.0 in
          record {
            best =
                w.best-is ∙ w.max-best.ensures
                ∙ laws.largest-here _ _ _ _ _ c.args.label c.loop-b.b _ _ (omega arith) w.if-calls-b.true i.best
                (one.0 ∙ ap (λ ls. sum_of (peak_within (calling c.args.calls.now) c.in_ok-left.left) ls) w.called.ensures);
            few = omega (arith, w.best-is, w.max-best.ensures, one.1, i.few);
            memo = rw w.memo-is w.in_ok-sum.ensures.1;
          }
      | peak-else-calls-b w ↦ record {
        best = rw w.best-is (laws.largest-other _ _ _ _ _ _ _ _ (omega arith) w.if-calls-b.false i.best);
        few = rw w.best-is i.few;
        memo = rw w.memo-is i.memo;
      }
    ]

pub peak-returns-in_err-value : goal.peak-returns-in_err-value
peak-returns-in_err-value t c =
    let i = c.loop-b.invariant in
    let left = c.in_ok-left in
    let level : suc left.left ≡ c.args.levels = omega (arith, left.ensures) in
    let end : c.loop-b.b ≡ c.args.calls.now.count = omega arith in
    let p = laws.peak-at _ _ _ _ left.left c.args.label _ (rw end at i.best) in
    (c.from_residual-in_err-value.ensures ∙ c.in_err-value.ensures ∙ ap unless_over (rw level at p), i.memo)

pub peak-returns : goal.peak-returns
peak-returns t c =
    let i = c.loop-b.invariant in
    let left = c.in_ok-left in
    let level : suc left.left ≡ c.args.levels = omega (arith, left.ensures) in
    let end : c.loop-b.b ≡ c.args.calls.now.count = omega arith in
    let p = laws.peak-at _ _ _ _ left.left c.args.label _ (rw end at i.best) in
    let v = c.in_ok-value.ensures ∙ ap unless_over (rw level at p) in
    (v, rw c.from-2.ensures (laws.memo_write _ _ i.memo c.args.levels c.args.label left.left level _ v))

pub sum-loop-label-init : goal.sum-loop-label-init
sum-loop-label-init t c = record { summed = laws.sum-none _ c.args.labels.now; few = omega arith; memo = c.requires.memo }

pub sum-returns-in_err-peak : goal.sum-returns-in_err-peak
sum-returns-in_err-peak t c =
    let l = c.loop-label in
    let one = laws.not_told _ c.in_err-peak.ensures.0 in
    let f = peak_within (calling c.args.calls.now) c.args.levels in (
      c.from_residual.ensures
          ∙ laws.tells_none _ (laws.sum-over f c.args.labels.now l.label-index (omega arith) (omega (arith, one))),
      c.in_err-peak.ensures.1,
    )

pub sum-returns-in_err-value : goal.sum-returns-in_err-value
sum-returns-in_err-value t c =
    let l = c.loop-label in
    let both = laws.not_told _ c.in_err-value.ensures in
    let one = laws.told _ _ c.in_ok-peak.ensures.0 in
    let f = peak_within (calling c.args.calls.now) c.args.levels in (
      c.from_residual-in_err-value.ensures
          ∙ laws.tells_none _ (laws.sum-over f c.args.labels.now l.label-index (omega arith) (omega (arith, both, one.0, l.invariant.summed))),
      c.in_ok-peak.ensures.1,
    )

pub sum-loop-label-preserved : goal.sum-loop-label-preserved
sum-loop-label-preserved t c =
    let l = c.loop-label in
    let both = laws.told _ _ c.in_ok-value.ensures in
    let one = laws.told _ _ c.in_ok-peak.ensures.0 in
    let f = peak_within (calling c.args.calls.now) c.args.levels in
    let next = laws.sum-next f c.args.labels.now l.label-index (omega arith) in
    record { summed = omega (arith, both.0, one.0, l.invariant.summed, next); few = both.1; memo = c.in_ok-peak.ensures.1 }
