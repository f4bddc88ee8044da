-- How many children a call makes. Assumes nothing.
use mathlib.Core.Path.{◌≡◌, refl, ap}
use mathlib.Core.List.{List, [], ◌∷◌}
use Prim.Native.Nat.{ℕ, suc, ◌≤◌}
use lib.ListN.{length}
use lib.Seq.{length-take-le}
use Rattle.rules.specs.Format.{named}
use Rattle.rules.specs.Step.{child_rows}
use Rattle.rules.specs.declared.Names.{Names}
use native.Mathlib.Omega.{arith}

pub length-children : (p stage i : ℕ) (ls : List ℕ) → length (child_rows p stage i ls) ≡ length ls
unfolding child_rows
length-children p stage i [] = refl
length-children p stage i (l ∷ ls) = ap suc (length-children p stage (suc i) ls)

pub named_count : (n : Names) → n.count ≤ 8 → length n.labels ≡ 8 → length (named n) ≡ n.count
named_count n h e = length-take-le n.count n.labels (omega arith)
