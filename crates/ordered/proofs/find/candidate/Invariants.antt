-- Only a row of the window, of width rows from low on, can have the identifier.
use Rattle.std.proofs.Common.{ℕ, ◌+◌, ◌≤◌, List}
use Rattle.ordered.specs.Ordered.{Ordered}
use Rattle.ordered.specs.Search.{Identifiers}
use Rattle.ordered.proofs.Halves.{Window}
use Rattle.ordered.proofs.find.candidate.Given as goal

abbrev pub invariant-loop-width : goal.invariant-loop-width
invariant-loop-width l =
    (l.low + l.width ≤ 64) × (1 ≤ l.width) × ((w : List ℕ) → Ordered w → Identifiers w l.ids → Window w l.identifier l.low l.width)

abbrev pub decreases-loop-width : goal.decreases-loop-width
decreases-loop-width l = l.width
