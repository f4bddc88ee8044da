-- What a row keeps to that a step is for, and the process that stands there. Assumes nothing.
use mathlib.Core.Path.{◌≡◌, sym, ap}
use mathlib.Core.List.{List}
use Prim.Native.Nat.{ℕ, ◌+◌, ◌*◌, ◌≤◌, ◌<◌}
use native.Mathlib.Omega.{arith}
use lib.ListN.{length, get_or}
use lib.Dec.{leb}
use borrow.Author.Tests.{leb-true}
use Rattle.rules.specs.Machine.{Process, live_count, history_count, view}
use Rattle.rules.specs.Fits.{counts_fit}
use Rattle.laws.proofs.Tests.{and-true}
use Rattle.laws.proofs.View.{row-at, length-rows}
use Rattle.step.specs.Planned.{identifier_at}
use Rattle.step.specs.Ready.{Ready}

pub live-identifier : (w : List ℕ) (row : ℕ) → row < length (view w).rows → get_or w (290 + 3 * row) 0 ≡ identifier_at (view w) row
live-identifier w row h =
    let k : row < live_count w = omega (arith, length-rows w) in
    ap (λ (r : Process). r.identifier) (sym (row-at w row k))

pub live-64 : (w : List ℕ) (row : ℕ) → Ready w row → live_count w ≤ 64
unfolding counts_fit
live-64 w row r = leb-true _ _ (and-true (leb (live_count w) 64) (leb (history_count w) 4096) r.lent.counts).0

pub row-64 : (w : List ℕ) (row : ℕ) → Ready w row → row < 64
row-64 w row r = omega (arith, live-64 w row r, r.live)

pub rows-ready : (w : List ℕ) (row : ℕ) → Ready w row → (length w ≡ 8674) × (live_count w ≤ 64)
rows-ready w row r = (r.lent.long, live-64 w row r)

pub row-ready : (w : List ℕ) (row : ℕ) → Ready w row → (length w ≡ 8674) × (row < 64)
row-ready w row r = (r.lent.long, row-64 w row r)
