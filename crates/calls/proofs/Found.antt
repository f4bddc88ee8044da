-- What the search for a circle answers. Assumes nothing.
use mathlib.Core.Path.{◌≡◌, refl}
use mathlib.Core.Bool.{Bool, true, false}
use Prim.Native.Nat.{ℕ, ◌<◌, ◌≤◌}
use native.Mathlib.Omega.{arith}
use borrow.Author.Tests.{lt-ltb, le-ltb}
use Rattle.std.proofs.Common.{Option, Some, None, MatchOption}
use Rattle.rules.specs.Base.{lowest}
use Rattle.laws.specs.Found.{found}
use Rattle.laws.proofs.Search.{lowest-is}
use Rattle.laws.specs.CallTable.{calling_from}
use Rattle.rules.specs.Calls.{bad14}
use Rattle.calls.specs.Grid.{cell, Reaching}
use Rattle.calls.proofs.Grid.{diagonal}
use mathlib.Core.List.{List}

-- p holds at the number answered and fails at each before it, or fails at all
found_here : (p : ℕ → Bool) (n b : ℕ) → b < n → ((k : ℕ) → k < b → p k ≡ false) → p b ≡ true → Some b ≡ found p n
found_here p n b l clean h =
    let e : b ≡ lowest p n = lowest-is p n b (omega arith) clean (λ _. h) in
    rw (← e, lt-ltb b n l) refl

found_none : (p : ℕ → Bool) (n : ℕ) → ((k : ℕ) → k < n → p k ≡ false) → None ≡ found p n
found_none p n clean =
    let e : n ≡ lowest p n = lowest-is p n n (omega arith) clean (λ l. absurd (omega arith)) in
    rw (← e, le-ltb n n (omega arith)) refl

-- the lowest bit of the diagonal that is 1 tells the block that code 14 is given for
module _
    (homes counts names : List ℕ)
    (n : ℕ)
    (grid : List ℕ)
    (h : Reaching (calling_from homes counts names n) n n grid)
  where
    pub found-circle : (r : Option ℕ)
        → MatchOption r ((k : ℕ) → 0 ≤ k → k < n → cell grid k k ≡ 0)
        (λ b. (0 ≤ b) × (b < n) × (cell grid b b ≡ 1) × ((k : ℕ) → 0 ≤ k → k < b → cell grid k k ≡ 0))
        → r ≡ found (bad14 (calling_from homes counts names n)) n
    found-circle None f = found_none _ n (λ k l. diagonal homes counts names n grid k false h l (f k (omega arith) l))
    found-circle (Some b) f =
        found_here _ n b f.1 (λ k l. diagonal homes counts names n grid k false h (omega (arith, f.1)) (f.3 k (omega arith) l))
        (diagonal homes counts names n grid b true h f.1 f.2)
