-- Depth and peak of an accepted image's process blocks: each call's labels lie one level deeper, and their peaks with one fit
-- into the caller's; main is at most 8 deep and its peak at most 64. Assumes that the image is sound.
use Rattle.std.specs.Prelude.{◌≡◌, refl, true, List, [], ◌∷◌, map, length, get_or, eqb, ltb}
use Rattle.std.proofs.Common.{sym, ◌∙◌}
use Rattle.std.proofs.Math.Path.{ap}
use Rattle.std.proofs.Math.Option.{some}
use Prim.Native.Nat.{ℕ, zero, suc, ◌+◌, ◌<◌, ◌≤◌}
use native.Mathlib.Omega.{arith}
use Rattle.std.proofs.Math.Decide.{ℕ_discrete}
use Rattle.std.proofs.Math.ListN.{get_elem?, length-map}
use borrow.Author.Tests.{ltb-false}
use Rattle.theory.specs.Tests.{eqb_same, none-some, or-false}
use Rattle.theory.specs.Counting.{sum_to}
use Rattle.theory.specs.Peak.{peak_of}
use Rattle.rules.specs.Base.{pick, up_from}
use Rattle.rules.specs.Format.{main}
use Rattle.rules.specs.Labels.{home, called_by, called}
use Rattle.rules.specs.Calls.{Calling, calling_of, home_at, calls_at, sum_of, deepest_of, largest, depth, peak, deepest, most_rows, bad15}
use Rattle.rules.specs.Fits.{nth}
use Rattle.rules.specs.declared.Block.{Block}
use Rattle.laws.proofs.PeakRight.{peak-right, PeakRight}
use Rattle.laws.proofs.Lists.{pick_true}
use Rattle.theorems.specs.Parts.{calls, out_of, home_of, label_of}
use Rattle.theorems.specs.Program.{Sound, call-in_image, call-home}

-- ---- the largest
module _ (t : Calling) (f : List ℕ → ℕ) (l : ℕ) where
  largest-at : (n b : ℕ) → b < n → home_at t b ≡ l → f (calls_at t b) ≤ largest t f l n
  unfolding largest
  largest-at zero b lt e = absurd (omega arith)
  largest-at (suc n) b lt e = go (ℕ_discrete b n) (λ k. largest-at n b k e)
    where
      go : Dec (b ≡ n) → (b < n → f (calls_at t b) ≤ largest t f l n) → f (calls_at t b) ≤ largest t f l (suc n)
      go (yes q) ih =
          let p : pick (eqb (home_at t n) l) (f (calls_at t n)) 0 ≡ f (calls_at t n) =
          pick_true (eqb (home_at t n) l) (f (calls_at t n)) 0 (eqb_same (home_at t n) l (ap (home_at t) (sym q) ∙ e)) in
          let z : f (calls_at t b) ≡ f (calls_at t n) = ap (λ (k : ℕ). f (calls_at t k)) q in
          omega (arith, p, z)
      go (no n₁) ih = let z = ih (omega (arith, n₁)) in omega (arith, z)

-- ---- one call's labels
sum-shift : (f : ℕ → ℕ) (l : ℕ) (ls : List ℕ) (k : ℕ) → sum_to (λ i. peak_of f (nth (l ∷ ls) i)) (suc k) ≡ f l + sum_to (λ i. peak_of f (nth ls i)) k
sum-shift f l ls zero = omega arith
sum-shift f l ls (suc k) = omega (arith, sum-shift f l ls k)

sum-none : (f : ℕ → ℕ) (k : ℕ) → sum_to (λ i. peak_of f (nth [] i)) k ≡ 0
sum-none f zero = refl
sum-none f (suc k) = omega (arith, sum-none f k)

sum-labels : (f : ℕ → ℕ) (ls : List ℕ) (k : ℕ) → sum_to (λ i. peak_of f (nth ls i)) k ≤ sum_of f ls
unfolding sum_of
sum-labels f [] k = omega (arith, sum-none f k)
sum-labels f (l ∷ ls) zero = omega arith
sum-labels f (l ∷ ls) (suc k) = omega (arith, sum-shift f l ls k, sum-labels f ls k)

deepest-label : (f : ℕ → ℕ) (ls : List ℕ) (i l : ℕ) → get_elem? ls i ≡ some l → suc (f l) ≤ deepest_of f ls
unfolding deepest_of
deepest-label f [] i l h = absurd (none-some h)
deepest-label f (k ∷ ls) zero l h = let e : k ≡ l = cc in let z : f k ≡ f l = ap f e in omega (arith, z)
deepest-label f (k ∷ ls) (suc i) l h = omega (arith, deepest-label f ls i l h)

-- ---- an image's calls
up_at : (a n i : ℕ) (f : ℕ → ℕ) → i < n → get_or (map f (up_from a n)) i 0 ≡ f (a + i)
unfolding up_from
up_at a zero i f lt = absurd (omega arith)
up_at a (suc n) zero f lt = let z : a ≡ a + 0 = omega arith in ap f z
up_at a (suc n) (suc i) f lt = let z : suc a + i ≡ a + suc i = omega arith in up_at (suc a) n i f (omega arith) ∙ ap f z

calls-at : (program : List Block) (b : ℕ) → b < length program → get_or (map (λ k. called_by k.instruction) program) b [] ≡ called program b
calls-at [] b lt = absurd (omega arith)
calls-at (k ∷ program) zero lt = refl
calls-at (k ∷ program) (suc b) lt = calls-at program b (omega arith)

module _ (program : List Block) (S : Sound program) where
  abbrev t : Calling
  t = calling_of program

  as_many : length t.calls ≡ length program
  unfolding calling_of
  as_many = length-map program (λ k. called_by k.instruction)

  home-at : (b : ℕ) → b < length program → home_at t b ≡ home program b
  unfolding calling_of
  home-at b lt = let z : 0 + b ≡ b = omega arith in up_at 0 (length program) b (home program) lt ∙ ap (home program) z

  called_at_block : (b : ℕ) → b < length program → calls_at t b ≡ called program b
  unfolding calling_of
  called_at_block b lt = calls-at program b lt

  right : PeakRight t
  right = peak-right t (λ b lt. S.passes.no_circle b (omega (arith, as_many, lt)))

  abbrev pub peak_in : ℕ → ℕ
  peak_in = peak (calling_of program)

  abbrev pub depth_in : ℕ → ℕ
  depth_in = depth (calling_of program)

  pub peak-pos : (l : ℕ) → 1 ≤ peak_in l
  peak-pos l = omega (arith, right.peak_is l)

  pub peak-call :
      (b : ℕ) → calls program b ≡ true → 1 + sum_to (λ i. peak_of peak_in (label_of program b i)) 8 ≤ peak_in (home_of program (out_of program b))
  peak-call b c =
      let lt = call-in_image program S b c in
      let e : home_at t b ≡ home_of program (out_of program b) = home-at b lt ∙ sym (call-home program S b c) in
      let l = largest-at t (sum_of peak_in) (home_of program (out_of program b)) (length t.calls) b (omega (arith, as_many, lt)) e in
      let s = sum-labels peak_in (called program b) 8 in
      let z : sum_of peak_in (calls_at t b) ≡ sum_of peak_in (called program b) = ap (sum_of peak_in) (called_at_block b lt) in
      omega (arith, right.peak_is (home_of program (out_of program b)), l, s, z)

  pub depth-call : (b i l : ℕ) → calls program b ≡ true → label_of program b i ≡ some l → 1 + depth_in l ≤ depth_in (home_of program (out_of program b))
  depth-call b zero l c h = absurd (none-some h)
  depth-call b (suc i) l c h =
      let lt = call-in_image program S b c in
      let e : home_at t b ≡ home_of program (out_of program b) = home-at b lt ∙ sym (call-home program S b c) in
      let g = largest-at t (deepest_of depth_in) (home_of program (out_of program b)) (length t.calls) b (omega (arith, as_many, lt)) e in
      let s = deepest-label depth_in (called program b) i l h in
      let z : deepest_of depth_in (calls_at t b) ≡ deepest_of depth_in (called program b) = ap (deepest_of depth_in) (called_at_block b lt) in
      omega (arith, right.depth_is (home_of program (out_of program b)), g, s, z)

  pub main-depth : depth_in main ≤ deepest
  unfolding bad15
  main-depth = ltb-false deepest (depth_in main) (or-false (ltb deepest (depth t main)) (ltb most_rows (peak t main)) S.passes.shallow).0

  pub main-peak : peak_in main ≤ most_rows
  unfolding bad15
  main-peak = ltb-false most_rows (peak_in main) (or-false (ltb deepest (depth t main)) (ltb most_rows (peak t main)) S.passes.shallow).1
