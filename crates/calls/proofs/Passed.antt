-- For callers: where `fourteen` finds no block, code 14 passed, as `main_peak` requires. Assumes nothing.
use mathlib.Core.Path.{◌≡◌, refl}
use mathlib.Core.Bool.{Bool, true, false, cond}
use Prim.Native.Nat.{ℕ, ◌<◌}
use lib.Dec.{ltb}
use Rattle.std.proofs.Common.{Some, None}
use Rattle.rules.specs.Base.{lowest}
use Rattle.rules.specs.Calls.{bad14}
use Rattle.laws.specs.Found.{found}
use Rattle.laws.specs.Acyclic.{Acyclic}
use Rattle.laws.proofs.Search.{lowest-none}
use Rattle.laws.proofs.CallTable.{calls-length}
use Rattle.calls.specs.Table.{calling}
use Rattle.calls.specs.declared.table.Calls.{Calls}

pub none-below : (p : ℕ → Bool) (n : ℕ) → None ≡ found p n → (k : ℕ) → k < n → p k ≡ false
none-below p n e = go (ltb (lowest p n) n) (lowest-none p n) e
  where
    go : (v : Bool) → (v ≡ false → (k : ℕ) → k < n → p k ≡ false) → None ≡ cond v (Some (lowest p n)) None
        → (k : ℕ) → k < n → p k ≡ false
    go true h e = cc
    go false h e = h refl

pub passed : (c : Calls) → None ≡ found (bad14 (calling c)) c.count → Acyclic (calling c)
passed c h b l = none-below (bad14 (calling c)) c.count h b (rw calls-length at l)
