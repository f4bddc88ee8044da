-- The rows of the labels so far are written, the words behind them are 0.
use Rattle.std.proofs.Common.{◌≡◌, ◌-◌, ◌*◌, ◌++◌, take}
use Rattle.rules.specs.Base.{zeros}
use Rattle.children.proofs.Words.{packed}
use Rattle.children.proofs.eight_rows.Given as goal

abbrev pub invariant-loop-i : goal.invariant-loop-i
invariant-loop-i l =
    l.rows ≡ packed l.p l.stage 1 (take l.i l.labels) ++ zeros (24 - 3 * l.i)
