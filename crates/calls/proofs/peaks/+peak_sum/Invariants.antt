-- The levels left fall: twice their number for `peak`, one more for `sum`. The loops keep the largest sum of the blocks passed, the
-- sum of the labels passed, neither of which is over, and what the memo holds.
use Rattle.std.proofs.Common.{◌+◌, ◌*◌, ◌≡◌, ◌≤◌, take}
use Rattle.rules.specs.Calls.{sum_of, largest, most_rows}
use Rattle.calls.specs.Table.{calling}
use Rattle.calls.specs.Peaks.{peak_within, Memo}
use Rattle.calls.proofs.peaks.+peak_sum.Given as goal

abbrev pub decreases-peak : goal.decreases-peak
decreases-peak l = l.levels * 2

abbrev pub decreases-sum : goal.decreases-sum
decreases-sum l = l.levels * 2 + 1

abbrev pub invariant-peak-loop-b : goal.invariant-peak-loop-b
invariant-peak-loop-b l = record {
  best : l.best ≡ largest (calling l.calls) (sum_of (peak_within (calling l.calls) l.left)) l.label l.b;
  few : l.best ≤ most_rows;
  memo : Memo (calling l.calls) l.memo;
}

abbrev pub invariant-sum-loop-label : goal.invariant-sum-loop-label
invariant-sum-loop-label l = record {
  summed : l.value ≡ sum_of (peak_within (calling l.calls) l.levels) (take l.label-index l.labels);
  few : l.value ≤ most_rows;
  memo : Memo (calling l.calls) l.memo;
}
