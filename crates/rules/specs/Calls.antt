-- Codes 13 to 15 of document 01, "Judging": which process blocks call which, depth and peak of a label.
use Rattle.std.specs.Prelude.{ℕ, zero, suc, ◌+◌, ◌<◌, max, Bool, ◌&&◌, ◌||◌, length, get_or, eqb, ltb}
use mathlib.Core.List.{List, [], ◌∷◌, map, Memᴰ}
use Rattle.rules.specs.Base.{pick, some_of, up_from}
use Rattle.rules.specs.Format.{main}
use Rattle.rules.specs.Labels.{begins, home, called_by}
use Rattle.rules.specs.declared.Block.{Block}

-- ---- 13
-- there is no `begin 0`
unfoldable pub bad13 : List Block → Bool
bad13 program = eqb (begins program main) 0

-- For each block the label of its process block, and the labels that it calls.
pub record Calling : Type 0 where
  pub homes : List ℕ
  pub calls : List (List ℕ)

unfoldable pub calling_of : List Block → Calling
calling_of program =
    record { homes = map (home program) (up_from 0 (length program)); calls = map (λ b. called_by b.instruction) program }

abbrev pub home_at : Calling → ℕ → ℕ
home_at t b = get_or t.homes b 0

abbrev pub calls_at : Calling → ℕ → List ℕ
calls_at t b = get_or t.calls b []

-- ---- 14
-- What the words say: block b's call names the process block of block c, or reaches a block from which c's is reached.
-- (That `reaches` below decides it is the theorem `reached`.)
pub data Reaches (t : Calling) : ℕ → ℕ → Type 0 where
  names : {b c : ℕ} → Memᴰ (home_at t c) (calls_at t b) → Reaches t b c
  onward : {b m c : ℕ} → m < length t.calls → Reaches t b m → Reaches t m c → Reaches t b c

-- What is computed: block b reaches block c over blocks below n
unfoldable pub reaches_over : Calling → ℕ → ℕ → ℕ → Bool
reaches_over t zero b c = some_of (λ l. eqb l (home_at t c)) (calls_at t b)
reaches_over t (suc n) b c = reaches_over t n b c || (reaches_over t n b n && reaches_over t n n c)

unfoldable pub reaches : Calling → ℕ → ℕ → Bool
reaches t b c = reaches_over t (length t.calls) b c

-- a call names the label of its own process block, or one from which that block is reached through calls
unfoldable pub bad14 : Calling → ℕ → Bool
bad14 t b = reaches t b b

-- ---- 15
-- Depth and peak go down from label to label; `levels` bounds how far. No more calls stand one below the other than there are
-- blocks, so that as many levels reach the ground where 14 passed (the theorem `peak-right`).
-- the sum over the labels of one call; one more than the deepest of them
unfoldable pub sum_of : (ℕ → ℕ) → List ℕ → ℕ
sum_of f [] = 0
sum_of f (l ∷ ls) = f l + sum_of f ls

unfoldable pub deepest_of : (ℕ → ℕ) → List ℕ → ℕ
deepest_of f [] = 0
deepest_of f (l ∷ ls) = max (suc (f l)) (deepest_of f ls)

-- the largest, over the first n blocks that are of label l's process block, of what f makes of the labels called
unfoldable pub largest : Calling → (List ℕ → ℕ) → ℕ → ℕ → ℕ
largest t f l zero = 0
largest t f l (suc b) = max (largest t f l b) (pick (eqb (home_at t b) l) (f (calls_at t b)) 0)

-- depth is 0 without calls, else one more than the deepest called
unfoldable pub depth_below : Calling → ℕ → ℕ → ℕ
depth_below t zero l = 0
depth_below t (suc levels) l = largest t (deepest_of (depth_below t levels)) l (length t.calls)

-- peak is 1 without calls, else 1 plus the largest, over its call blocks, of the sum of the peaks named
unfoldable pub peak_below : Calling → ℕ → ℕ → ℕ
peak_below t zero l = 1
peak_below t (suc levels) l = suc (largest t (sum_of (peak_below t levels)) l (length t.calls))

unfoldable pub depth : Calling → ℕ → ℕ
depth t l = depth_below t (length t.calls) l

unfoldable pub peak : Calling → ℕ → ℕ
peak t l = peak_below t (length t.calls) l

-- main is deeper than 8 or its peak is over 64
abbrev pub deepest : ℕ
deepest = 8

abbrev pub most_rows : ℕ
most_rows = 64

unfoldable pub bad15 : Calling → Bool
bad15 t = ltb deepest (depth t main) || ltb most_rows (peak t main)
