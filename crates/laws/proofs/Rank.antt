-- Where code 14 passed, each block reaches more blocks than any that it calls: what is defined by levels that fall from label
-- to label is settled after as many levels as there are blocks. For PeakRight. Assumes nothing.
use mathlib.Core.Path.{◌≡◌, refl, sym, ap, subst, ◌∙◌}
use mathlib.Core.Bool.{Bool, true, false}
use mathlib.Core.List.{List, Memᴰ}
use mathlib.Core.Logic.{⊎_elim}
use Prim.Native.Nat.{ℕ, zero, suc, ◌+◌, ◌<◌, ◌≤◌, max}
use native.Mathlib.Nat.{not-suc-le-zero, le_of_suc-le-suc, eq-or-lt_of_le}
use native.Mathlib.Omega.{arith}
use lib.ListN.{length}
use lib.Dec.{eqb}
use borrow.Author.Tests.{eqb-true, eq-eqb}
use Rattle.rules.specs.Base.{pick}
use Rattle.rules.specs.Value.{flag}
use Rattle.rules.specs.Calls.{Calling, home_at, calls_at, names, onward, reaches, bad14, largest}
use Rattle.laws.specs.Acyclic.{Acyclic}
use Rattle.laws.proofs.Reached.{reached}

-- ---- how many numbers below n pass a test
unfoldable count : (ℕ → Bool) → ℕ → ℕ
count p zero = 0
count p (suc n) = count p n + flag (p n)

flag-le : (a b : Bool) → (a ≡ true → b ≡ true) → flag a ≤ flag b
flag-le true b f = rw (f refl) (omega arith)
flag-le false b f = omega arith

module _ (p q : ℕ → Bool) (f : (k : ℕ) → p k ≡ true → q k ≡ true) where
  count-le : (n : ℕ) → count p n ≤ count q n
  unfolding count
  count-le zero = omega arith
  count-le (suc n) = let h = count-le n in let k = flag-le (p n) (q n) (f n) in omega arith

  count_less : (n j : ℕ) → j < n → p j ≡ false → q j ≡ true → count p n < count q n
  unfolding count
  count_less zero j l hp hq = absurd (not-suc-le-zero l)
  count_less (suc n) j l hp hq =
      ⊎_elim (λ e. here (subst (λ (k : ℕ). p k ≡ false) e hp) (subst (λ (k : ℕ). q k ≡ true) e hq))
      (λ lt. let h = count_less n j lt hp hq in let k = flag-le (p n) (q n) (f n) in omega arith)
      (eq-or-lt_of_le (le_of_suc-le-suc l))
    where
      here : p n ≡ false → q n ≡ true → count p n + flag (p n) < count q n + flag (q n)
      here a b = let h = count-le n in rw (a, b) (omega arith)

count-all : (n : ℕ) → count (λ k. true) n ≤ n
unfolding count
count-all zero = omega arith
count-all (suc n) = let h = count-all n in omega arith

-- ---- the largest over the blocks of a label depends on those blocks alone
module _ (t : Calling) where
  pub largest-same : (f g : List ℕ → ℕ) (l n : ℕ)
      → ((b : ℕ) → b < n → home_at t b ≡ l → f (calls_at t b) ≡ g (calls_at t b)) → largest t f l n ≡ largest t g l n
  unfolding largest pick
  largest-same f g l zero h = refl
  largest-same f g l (suc n) h =
      let rest = largest-same f g l n (λ b lt. h b (omega arith)) in
      rw rest (ap (max (largest t g l n)) (last (eqb (home_at t n) l) refl))
    where
      last : (v : Bool) → eqb (home_at t n) l ≡ v
          → pick (eqb (home_at t n) l) (f (calls_at t n)) 0 ≡ pick (eqb (home_at t n) l) (g (calls_at t n)) 0
      last true e = rw e (h n (omega arith) (eqb-true (home_at t n) l e))
      last false e = rw e

  pub largest-none : (f : List ℕ → ℕ) (l n : ℕ) → ((b : ℕ) → b < n → home_at t b ≡ l → ⊥) → largest t f l n ≡ 0
  unfolding largest pick
  largest-none f l zero h = refl
  largest-none f l (suc n) h =
      let rest = largest-none f l n (λ b lt. h b (omega arith)) in
      rw rest (last (eqb (home_at t n) l) refl)
    where
      last : (v : Bool) → eqb (home_at t n) l ≡ v → max 0 (pick (eqb (home_at t n) l) (f (calls_at t n)) 0) ≡ 0
      last true e = absurd (h n (omega arith) (eqb-true (home_at t n) l e))
      last false e = rw e

  -- a block is among those of its own label
  pub largest-above : (f : List ℕ → ℕ) (n b : ℕ) → b < n → f (calls_at t b) ≤ largest t f (home_at t b) n
  unfolding largest pick
  largest-above f zero b l = absurd (not-suc-le-zero l)
  largest-above f (suc n) b l =
      ⊎_elim (λ e. subst (λ (z : ℕ). f (calls_at t z) ≤ largest t f (home_at t z) (suc n)) (sym e) (last refl))
      (λ lt. let h = largest-above f n b lt in omega arith) (eq-or-lt_of_le (le_of_suc-le-suc l))
    where
      last : home_at t n ≡ home_at t n → f (calls_at t n)
          ≤ max (largest t f (home_at t n) n) (pick (eqb (home_at t n) (home_at t n)) (f (calls_at t n)) 0)
      last e = rw (eq-eqb (home_at t n) (home_at t n) e) (omega arith)

-- ---- how many blocks a block reaches
unfoldable size : Calling → ℕ → ℕ
size t b = count (reaches t b) (length t.calls)

module _ (t : Calling) (acyclic : Acyclic t) where
  size-falls : (b c : ℕ) → c < length t.calls → Memᴰ (home_at t c) (calls_at t b) → size t c < size t b
  unfolding size bad14
  size-falls b c lc m =
      count_less (reaches t c) (reaches t b) (λ k h. (reached t b k).from (onward lc (names m) ((reached t c k).to h)))
      (length t.calls) c lc
      (acyclic c lc)
      ((reached t b c).from (names m))

  size_below : (b : ℕ) → b < length t.calls → size t b < length t.calls
  unfolding size bad14
  size_below b lb =
      let h = count_less (reaches t b) (λ k. true) (λ k e. refl) (length t.calls) b lb (acyclic b lb) refl in
      let k = count-all (length t.calls) in
      omega arith

-- Two families of values for labels, level by level: where both take the next level from the last one by the largest of what
-- G makes of the labels called, they agree at a label from the level on that is above the size of each of its blocks.
module _
    (t : Calling)
    (acyclic : Acyclic t)
    (G : (ℕ → ℕ) → List ℕ → ℕ)
    (G-same : (f g : ℕ → ℕ) (ls : List ℕ) → ((l : ℕ) → Memᴰ l ls → f l ≡ g l) → G f ls ≡ G g ls)
    (h : ℕ → ℕ)
    (f g : ℕ → ℕ → ℕ)
    (f-next : (levels l : ℕ) → f (suc levels) l ≡ h (largest t (G (f levels)) l (length t.calls)))
    (g-next : (levels l : ℕ) → g (suc levels) l ≡ h (largest t (G (g levels)) l (length t.calls)))
    (ground : (l : ℕ) → ((b : ℕ) → b < length t.calls → home_at t b ≡ l → ⊥) → f 0 l ≡ g 0 l)
  where
    agree : (levels l : ℕ) → ((b : ℕ) → b < length t.calls → home_at t b ≡ l → size t b < levels) → f levels l ≡ g levels l
    agree zero l small = ground l (λ b lb e. not-suc-le-zero (small b lb e))
    agree (suc levels) l small =
        f-next levels l
        ∙ ap h
        (largest-same t (G (f levels)) (G (g levels)) l (length t.calls)
        (λ b lb e. G-same (f levels) (g levels) (calls_at t b)
        (λ m called. agree levels m
        (λ c lc e'.
        let k = small b lb e in
        let d = size-falls t acyclic b c lc (subst (λ (x : ℕ). Memᴰ x (calls_at t b)) (sym e') called) in
        omega arith))))
        ∙ sym (g-next levels l)

    -- as many levels as there are blocks are enough
    pub settled : (l : ℕ) → f (length t.calls) l ≡ g (length t.calls) l
    settled l = agree (length t.calls) l (λ b lb e. size_below t acyclic b lb)
