-- The row found is rules' row. Assumes nothing.
use mathlib.Core.Path.{◌≡◌}
use mathlib.Core.List.{List}
use Prim.Native.Nat.{ℕ, ◌+◌, ◌*◌, ◌<◌, ◌≤◌}
use native.Mathlib.Omega.{arith}
use lib.ListN.{get_or}
use borrow.Author.Tests.{eq-eqb, ne_eqb}
use Rattle.std.proofs.Common.{Option, Some, None, MatchOption}
use Rattle.rules.specs.Machine.{live_count}
use Rattle.laws.specs.Found.{or_else}
use Rattle.laws.proofs.Search.{lowest-is}
use Rattle.machine.specs.RowOf.{row_of}

pub row-found : (m : List ℕ) (p : ℕ) (r : Option ℕ)
    → MatchOption r ((k : ℕ) → 0 ≤ k → k < live_count m → get_or m (290 + 3 * k) 0 ≡ p → ⊥)
    (λ i. (0 ≤ i) × (i < live_count m) × (get_or m (290 + 3 * i) 0 ≡ p) × ((k : ℕ) → 0 ≤ k → k < i → get_or m (290 + 3 * k) 0 ≡ p → ⊥))
    → or_else r (live_count m) ≡ row_of m p
unfolding row_of
row-found m p None h = lowest-is _ _ _ (omega arith) (λ k l. ne_eqb _ _ (h k (omega arith) l)) (λ l. absurd (omega arith))
row-found m p (Some i) h =
    lowest-is _ _ i (omega (arith, h.1)) (λ k l. ne_eqb _ _ (h.3 k (omega arith) l)) (λ _. eq-eqb _ _ h.2)
