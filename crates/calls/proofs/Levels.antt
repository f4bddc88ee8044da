-- Nine levels decide code 15: a label that is nine deep is over, and one that is less deep has its own peak. For `main_peak`.
-- Assumes that code 14 passed.
use mathlib.Core.Path.{◌≡◌, refl, sym, ap, ◌∙◌}
use mathlib.Core.Bool.{Bool, true, false, ◌||◌, cond}
use mathlib.Core.List.{List, [], ◌∷◌}
use mathlib.Core.Logic.{⊎_elim}
use Prim.Native.Nat.{ℕ, zero, suc, ◌<◌, ◌≤◌, max}
use native.Mathlib.Nat.{not-suc-le-zero}
use native.Mathlib.Omega.{arith}
use lib.ListN.{length}
use Rattle.std.proofs.Common.{Some, None}
use lib.Dec.{eqb, ltb}
use borrow.Author.Tests.{lt-ltb, ltb-true, ltb-false}
use Rattle.rules.specs.Base.{pick}
use Rattle.rules.specs.Format.{main}
use Rattle.rules.specs.Calls.{Calling, home_at, calls_at, sum_of, deepest_of, largest, depth, peak, bad15, deepest, most_rows}
use Rattle.laws.proofs.Search.{lt-or_le}
use Rattle.laws.specs.Acyclic.{Acyclic}
use Rattle.calls.specs.Peaks.{over, levels_tried, peak_within, unless_over, peak_unless_refused}
use Rattle.laws.proofs.Rank.{largest-same, largest-above}
use Rattle.laws.proofs.PeakRight.{peak-right}

-- ---- where what is at least d deep is over, so is the sum of a call that goes deeper
sum_over : (f g : ℕ → ℕ) (d : ℕ) (ls : List ℕ) → ((l : ℕ) → d ≤ f l → over ≤ g l) → d < deepest_of f ls → over ≤ sum_of g ls
unfolding deepest_of sum_of
sum_over f g d [] h k = absurd (not-suc-le-zero k)
sum_over f g d (l ∷ ls) h k =
    ⊎_elim (λ a. let r = sum_over f g d ls h a in omega arith) (λ a. let r = h l (omega arith) in omega arith)
    (lt-or_le d (deepest_of f ls))

-- ---- where what is less than d deep has one peak, so has the sum of a call that goes no deeper
sum_same : (f g g' : ℕ → ℕ) (d : ℕ) (ls : List ℕ) → ((l : ℕ) → f l < d → g l ≡ g' l) → deepest_of f ls ≤ d → sum_of g ls ≡ sum_of g' ls
unfolding deepest_of sum_of
sum_same f g g' d [] h k = refl
sum_same f g g' d (l ∷ ls) h k = omega (arith, sum_same f g g' d ls h (omega arith), h l (omega arith))

-- the two tests of code 15, where less than nine deep means the label's own peak, and else over
decided : (d w p : ℕ) → (d < levels_tried → w ≡ p) → (levels_tried ≤ d → over ≤ w)
    → unless_over w ≡ cond (ltb deepest d || ltb most_rows p) None (Some p)
decided d w p low high = go (ltb deepest d) refl
  where
    go : (u : Bool) → ltb deepest d ≡ u → unless_over w ≡ cond (u || ltb most_rows p) None (Some p)
    go true eu =
        let k = high (ltb-true deepest d eu) in
        rw (lt-ltb most_rows w (omega arith)) refl
    go false eu =
        let a = ltb-false deepest d eu in
        rw (low (omega arith)) refl

module _ (t : Calling) where
  largest-over : (f g : ℕ → ℕ) (d l n : ℕ) → ((m : ℕ) → d ≤ f m → over ≤ g m) → d < largest t (deepest_of f) l n
      → over ≤ largest t (sum_of g) l n
  unfolding largest pick
  largest-over f g d l zero h k = absurd (not-suc-le-zero k)
  largest-over f g d l (suc n) h k =
      ⊎_elim (λ a. let r = largest-over f g d l n h a in omega arith) (λ a. last (eqb (home_at t n) l) a k)
      (lt-or_le d (largest t (deepest_of f) l n))
    where
      last : (v : Bool) → largest t (deepest_of f) l n ≤ d
          → d < max (largest t (deepest_of f) l n) (pick v (deepest_of f (calls_at t n)) 0)
          → over ≤ max (largest t (sum_of g) l n) (pick v (sum_of g (calls_at t n)) 0)
      last true a k = let r = sum_over f g d (calls_at t n) h (omega arith) in omega arith
      last false a k = absurd (omega arith)

  module _ (acyclic : Acyclic t) where
    peak-over : (d l : ℕ) → d ≤ depth t l → over ≤ peak_within t d l
    unfolding peak_within
    peak-over zero l h = omega arith
    peak-over (suc d) l h =
        let e = (peak-right t acyclic).depth_is l in
        let r = largest-over (depth t) (peak_within t d) d l (length t.calls) (λ m. peak-over d m) (omega arith) in
        omega arith

    peak-same : (d l : ℕ) → depth t l < d → peak_within t d l ≡ peak t l
    unfolding peak_within
    peak-same zero l h = absurd (not-suc-le-zero h)
    peak-same (suc d) l h =
        let e = (peak-right t acyclic).depth_is l in
        ap suc
        (largest-same t (sum_of (peak_within t d)) (sum_of (peak t)) l (length t.calls)
        (λ b lb home.
        let k = rw home at (largest-above t (deepest_of (depth t)) (length t.calls) b lb) in
        sum_same (depth t) (peak_within t d) (peak t) d (calls_at t b) (λ m. peak-same d m) (omega arith)))
        ∙ sym ((peak-right t acyclic).peak_is l)

    -- main's peak with nine levels is its own, or over where code 15 is given
    pub main_peak-right : unless_over (peak_within t levels_tried main) ≡ peak_unless_refused t
    unfolding bad15
    main_peak-right = decided (depth t main) (peak_within t levels_tried main) (peak t main) (peak-same levels_tried main) (peak-over levels_tried main)
