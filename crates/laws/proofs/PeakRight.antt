-- The theorem `peak-right`: where code 14 passed, depth and peak satisfy document 01's equations, which speak of no levels.
-- Each equation has one solution, so that these two determine depth and peak. Assumes nothing else.
use mathlib.Core.Path.{◌≡◌, refl, sym, ap, ap₂, ◌∙◌}
use mathlib.Core.List.Memᴰ
use mathlib.Core.List.{List, [], ◌∷◌, Memᴰ}
use mathlib.Core.Logic.{⊎_elim}
use Prim.Native.Nat.{ℕ, suc, ◌+◌, ◌<◌, max}
use native.Mathlib.Omega.{arith}
use lib.ListN.{length}
use Rattle.rules.specs.Calls.{Calling, home_at, calls_at, sum_of, deepest_of, largest, depth_below, peak_below, depth, peak}
use Rattle.laws.specs.Acyclic.{Acyclic}
use Rattle.laws.proofs.Rank.{largest-none, largest-above, settled}

-- a call's sum, and its deepest label, depend on the labels called alone
sum_same : (f g : ℕ → ℕ) (ls : List ℕ) → ((l : ℕ) → Memᴰ l ls → f l ≡ g l) → sum_of f ls ≡ sum_of g ls
unfolding sum_of
sum_same f g [] h = refl
sum_same f g (l ∷ ls) h = ap₂ ◌+◌ (h l (Memᴰ.head refl)) (sum_same f g ls (λ m k. h m (Memᴰ.tail k)))

deepest-same : (f g : ℕ → ℕ) (ls : List ℕ) → ((l : ℕ) → Memᴰ l ls → f l ≡ g l) → deepest_of f ls ≡ deepest_of g ls
unfolding deepest_of
deepest-same f g [] h = refl
deepest-same f g (l ∷ ls) h =
    ap₂ (λ (x y : ℕ). max (suc x) y) (h l (Memᴰ.head refl)) (deepest-same f g ls (λ m k. h m (Memᴰ.tail k)))

deepest-above : (f : ℕ → ℕ) (l : ℕ) (ls : List ℕ) → Memᴰ l ls → f l < deepest_of f ls
unfolding deepest_of
deepest-above f l [] m = absurd (Memᴰ.not-nil m)
deepest-above f l (x ∷ ls) m =
    ⊎_elim (λ e. let h = ap f e in omega arith) (λ k. let h = deepest-above f l ls k in omega arith) (Memᴰ.cases_cons m)

pub record PeakRight (t : Calling) : Type 0 where
  -- depth is 0 without calls, else one more than the deepest called
  pub depth_is : (l : ℕ) → depth t l ≡ largest t (deepest_of (depth t)) l (length t.calls)
  -- peak is 1 without calls, else 1 plus the largest, over its call blocks, of the sum of the peaks named
  pub peak_is : (l : ℕ) → peak t l ≡ suc (largest t (sum_of (peak t)) l (length t.calls))
  -- no other functions of a label do the same
  pub depth_only : (f : ℕ → ℕ) → ((l : ℕ) → f l ≡ largest t (deepest_of f) l (length t.calls)) → (l : ℕ) → f l ≡ depth t l
  pub peak_only : (f : ℕ → ℕ) → ((l : ℕ) → f l ≡ suc (largest t (sum_of f) l (length t.calls))) → (l : ℕ) → f l ≡ peak t l

module _ (t : Calling) (acyclic : Acyclic t) where
  depth_is : (l : ℕ) → depth t l ≡ largest t (deepest_of (depth t)) l (length t.calls)
  unfolding depth depth_below
  depth_is l =
      settled t acyclic deepest_of deepest-same (λ x. x) (depth_below t) (λ n. depth_below t (suc n)) (λ n m. refl) (λ n m. refl)
      (λ m none. sym (largest-none t (deepest_of (depth_below t 0)) m (length t.calls) none))
      l

  peak_is : (l : ℕ) → peak t l ≡ suc (largest t (sum_of (peak t)) l (length t.calls))
  unfolding peak peak_below
  peak_is l =
      settled t acyclic sum_of sum_same suc (peak_below t) (λ n. peak_below t (suc n)) (λ n m. refl) (λ n m. refl)
      (λ m none. ap suc (sym (largest-none t (sum_of (peak_below t 0)) m (length t.calls) none)))
      l

  -- two solutions are equal
  only : (G : (ℕ → ℕ) → List ℕ → ℕ) → ((f g : ℕ → ℕ) (ls : List ℕ) → ((l : ℕ) → Memᴰ l ls → f l ≡ g l) → G f ls ≡ G g ls)
      → (h : ℕ → ℕ) (f g : ℕ → ℕ)
      → ((l : ℕ) → f l ≡ h (largest t (G f) l (length t.calls))) → ((l : ℕ) → g l ≡ h (largest t (G g) l (length t.calls)))
      → (l : ℕ) → f l ≡ g l
  only G G-same h f g f-is g-is =
      settled t acyclic G G-same h (λ n. f) (λ n. g) (λ n. f-is) (λ n. g-is)
      (λ m none. f-is m ∙ ap h
      (largest-none t (G f) m (length t.calls) none ∙ sym (largest-none t (G g) m (length t.calls) none)) ∙ sym (g-is m))

  pub peak-right : PeakRight t
  peak-right =
      record {
        depth_is = depth_is;
        peak_is = peak_is;
        depth_only = λ f f-is. only deepest_of deepest-same (λ x. x) f (depth t) f-is depth_is;
        peak_only = λ f f-is. only sum_of sum_same suc f (peak t) f-is peak_is;
      }

  -- For what is told of a machine's rows: a call's sum is below the peak of its own process block, and each label called is
  -- less deep.
  pub call-peak : (b : ℕ) → b < length t.calls → sum_of (peak t) (calls_at t b) < peak t (home_at t b)
  call-peak b lb =
      let h = largest-above t (sum_of (peak t)) (length t.calls) b lb in
      let e = peak_is (home_at t b) in
      omega arith

  pub call-depth : (b l : ℕ) → b < length t.calls → Memᴰ l (calls_at t b) → depth t l < depth t (home_at t b)
  call-depth b l lb m =
      let h = largest-above t (deepest_of (depth t)) (length t.calls) b lb in
      let e = depth_is (home_at t b) in
      let k = deepest-above (depth t) l (calls_at t b) m in
      omega arith
