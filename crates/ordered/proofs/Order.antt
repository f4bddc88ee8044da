-- What words in order have. Assumes nothing.
use Prim.Native.Nat.{ℕ, ◌≤◌}
use mathlib.Core.Path.{◌≡◌}
use mathlib.Core.Bool.{true, ◌&&◌}
use mathlib.Core.List.{List}
use lib.ListN.{length}
use lib.Dec.{leb}
use borrow.Author.Tests.{leb-true}
use Rattle.rules.specs.Machine.{live_count, history_count, view}
use Rattle.rules.specs.Fits.{counts_fit, unused_zero, ascending}
use Rattle.laws.proofs.Tests.{and-true}
use Rattle.ordered.specs.Ordered.{in_order, Ordered}

module _ (w : List ℕ) where
  pub live-few : counts_fit w ≡ true → live_count w ≤ 64
  unfolding counts_fit
  live-few c = leb-true _ _ (and-true (leb (live_count w) 64) (leb (history_count w) 4096) c).0

  pub kept-few : counts_fit w ≡ true → history_count w ≤ 4096
  unfolding counts_fit
  kept-few c = leb-true _ _ (and-true (leb (live_count w) 64) (leb (history_count w) 4096) c).1

  pub ordered : length w ≡ 8674 → in_order w ≡ true → Ordered w
  unfolding in_order
  ordered long h =
      let a = and-true (counts_fit w) (unused_zero w && ascending (view w).rows) h in
      let b = and-true (unused_zero w) (ascending (view w).rows) a.1 in
      record { long = long; live = live-few a.0; kept = kept-few a.0; ascends = b.1 }
