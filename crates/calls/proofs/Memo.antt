-- The peak of a label and the sum of a call's labels, as the loops make them, and what the memo keeps of them. Assumes nothing.
use mathlib.Core.Path.{◌≡◌, refl, sym, ap, ◌∙◌}
use mathlib.Core.Bool.{Bool, true, false, cond}
use mathlib.Core.List.{List, [], ◌∷◌}
use mathlib.Core.Logic.{⊎_elim, ◌⊎◌, inl, inr}
use Prim.Native.Nat.{ℕ, zero, suc, ◌+◌, ◌<◌, ◌≤◌, max}
use native.Mathlib.Numerals.{add-one}
use native.Mathlib.Omega.{arith}
use lib.ListN.{length, get_or, set, take, replicate, length-set, get_or-replicate}
use lib.Seq.{get_or-take, get_or-set_same, get_or-set_other, take-suc}
use lib.Dec.{eqb, ltb}
use Rattle.std.proofs.lemmas.List.{get_or_past}
use Rattle.laws.proofs.Search.{lt-or_le}
use borrow.Author.Tests.{eq-eqb, ne_eqb, eqb-true, eqb-false, lt-ltb, le-ltb, ltb-true, ltb-false}
use Rattle.std.proofs.Common.{Option, Some, None, MatchOption}
use Rattle.std.specs.Option.{IsSomeAnd}
use Rattle.rules.specs.Base.{pick}
use Rattle.rules.specs.Calls.{Calling, calls_at, sum_of, largest, most_rows}
use Rattle.laws.specs.CallTable.{calling_from}
use Rattle.laws.proofs.CallTable.{calls-length}
use Rattle.laws.proofs.Rank.{largest-above}
use Rattle.calls.specs.Peaks.{over, unless_over, peak_within, Memo}
use Rattle.calls.proofs.Labels.{sum_more}

eq-or_ne : (m n : ℕ) → (m ≡ n) ⊎ (m ≡ n → ⊥)
eq-or_ne m n = go (eqb m n) refl
  where
    go : (b : Bool) → eqb m n ≡ b → (m ≡ n) ⊎ (m ≡ n → ⊥)
    go true e = inl (eqb-true m n e)
    go false e = inr (eqb-false m n e)

-- ---- a peak that is over, and one that is not
pub told : (x v : ℕ) → Some v ≡ unless_over x → (v ≡ x) × (v ≤ most_rows)
told x v e = go (ltb most_rows x) refl e
  where
    go : (b : Bool) → ltb most_rows x ≡ b → Some v ≡ cond b None (Some x) → (v ≡ x) × (v ≤ most_rows)
    go true q e = cc
    go false q e =
        let l = ltb-false most_rows x q in
        let s : v ≡ x = cc in
        (s, omega (arith, s, l))

pub not_told : (x : ℕ) → None ≡ unless_over x → over ≤ x
not_told x e = go (ltb most_rows x) refl e
  where
    go : (b : Bool) → ltb most_rows x ≡ b → None ≡ cond b None (Some x) → over ≤ x
    go true q e = let l = ltb-true most_rows x q in omega arith
    go false q e = cc

pub tells : (v x : ℕ) → v ≡ x → v ≤ most_rows → Some v ≡ unless_over x
tells v x e l = rw (e, le-ltb most_rows x (omega arith)) refl

pub tells_none : (x : ℕ) → over ≤ x → None ≡ unless_over x
tells_none x l = rw (lt-ltb most_rows x (omega arith)) refl

-- a peak as a word of 32 bits is the same number
pub mapped-same : (o m : Option ℕ) → MatchOption o (m ≡ None) (λ x. IsSomeAnd m (λ r. r ≡ x)) → m ≡ o
mapped-same None m h = h
mapped-same (Some x) None h = absurd h
mapped-same (Some x) (Some r) h = ap Some h

-- ---- the sum of some labels
pub sum-none : (f : ℕ → ℕ) (ls : List ℕ) → 0 ≡ sum_of f (take 0 ls)
unfolding sum_of
sum-none f ls = refl

pub sum-next : (f : ℕ → ℕ) (ls : List ℕ) (k : ℕ) → k < length ls → sum_of f (take (k + 1) ls) ≡ sum_of f (take k ls) + f (get_or ls k 0)
sum-next f ls k lk = ap (sum_of f) (ap (λ (i : ℕ). take i ls) (add-one k) ∙ take-suc ls k 0 lk) ∙ sum_more f (take k ls) (get_or ls k 0)

sum-part : (f : ℕ → ℕ) (ls : List ℕ) (k : ℕ) → sum_of f (take k ls) ≤ sum_of f ls
unfolding sum_of
sum-part f [] zero = omega arith
sum-part f [] (suc k) = omega arith
sum-part f (l ∷ ls) zero = omega arith
sum-part f (l ∷ ls) (suc k) = let h = sum-part f ls k in omega arith

-- where one label more is over, all of them are
pub sum-over : (f : ℕ → ℕ) (ls : List ℕ) (k : ℕ) → k < length ls → over ≤ sum_of f (take k ls) + f (get_or ls k 0) → over ≤ sum_of f ls
sum-over f ls k lk h =
    let p = sum-part f ls (k + 1) in
    let e = sum-next f ls k lk in
    omega arith

-- ---- the largest sum over the blocks of a label
module _ (homes counts names : List ℕ) (n : ℕ) (f : ℕ → ℕ) where
  pub largest-none : (l : ℕ) → 0 ≡ largest (calling_from homes counts names n) (sum_of f) l 0
  unfolding largest
  largest-none l = refl

  -- a block of the label's process block counts, and another does not
  pub largest-here : (l b v w : ℕ) → b < n → get_or homes b 0 ≡ l → v ≡ largest (calling_from homes counts names n) (sum_of f) l b
      → w ≡ sum_of f (calls_at (calling_from homes counts names n) b)
      → max v w ≡ largest (calling_from homes counts names n) (sum_of f) l (b + 1)
  unfolding largest pick
  largest-here l b v w lb e p q = rw (add-one b, get_or-take n homes b 0 lb, eq-eqb (get_or homes b 0) l e) (omega arith)

  pub largest-other : (l b v : ℕ) → b < n → (get_or homes b 0 ≡ l → ⊥) → v ≡ largest (calling_from homes counts names n) (sum_of f) l b
      → v ≡ largest (calling_from homes counts names n) (sum_of f) l (b + 1)
  unfolding largest pick
  largest-other l b v lb d p = rw (add-one b, get_or-take n homes b 0 lb, ne_eqb (get_or homes b 0) l d) (omega arith)

-- ---- the peak of a label
pub peak-none : (t : Calling) (levels l : ℕ) → levels ≡ 0 → None ≡ unless_over (peak_within t levels l)
unfolding peak_within
peak-none t levels l e = rw e refl

-- what the loop over the blocks leaves is the peak at one level more
peak-is : (homes counts names : List ℕ) (n left l : ℕ) → peak_within (calling_from homes counts names n) (suc left) l
    ≡ suc (largest (calling_from homes counts names n) (sum_of (peak_within (calling_from homes counts names n) left)) l n)
unfolding peak_within
peak-is homes counts names n left l = rw (calls-length counts names n) refl

pub peak-at : (homes counts names : List ℕ) (n left l v : ℕ)
    → v ≡ largest (calling_from homes counts names n) (sum_of (peak_within (calling_from homes counts names n) left)) l n
    → v + 1 ≡ peak_within (calling_from homes counts names n) (suc left) l
peak-at homes counts names n left l v e = let p = peak-is homes counts names n left l in omega arith

-- where the sum of one of its blocks is over, so is the peak
pub peak-over : (homes counts names : List ℕ) (n left l b : ℕ) → b < n → get_or homes b 0 ≡ l
    → over ≤ sum_of (peak_within (calling_from homes counts names n) left) (calls_at (calling_from homes counts names n) b)
    → over ≤ peak_within (calling_from homes counts names n) (suc left) l
peak-over homes counts names n left l b lb home h =
    let t = calling_from homes counts names n in
    let f = sum_of (peak_within t left) in
    let e = peak-is homes counts names n left l in
    let k : f (calls_at t b) ≤ largest t f l n = rw (get_or-take n homes b 0 lb, home) at (largest-above t f n b lb) in
    omega arith

-- ---- the memo
-- one that is empty holds nothing
abbrev pub no_row : List (Option ℕ)
no_row = replicate 256 None

pub memo_none : (t : Calling) → Memo t (replicate 9 no_row)
memo_none t = record { right = λ levels l v e. absurd (empty levels l v e) }
  where
    inner : (l v : ℕ) → get_or no_row l None ≡ Some v → ⊥
    inner l v e =
        ⊎_elim (λ lt. let r : None ≡ Some v = sym (get_or-replicate 256 l None None lt) ∙ e in cc)
        (λ ge. let r : None ≡ Some v = sym (get_or_past no_row l None ge) ∙ e in cc) (lt-or_le l 256)

    empty : (levels l v : ℕ) → get_or (get_or (replicate 9 no_row) levels []) l None ≡ Some v → ⊥
    empty levels l v e =
        ⊎_elim (λ lt. inner l v (rw (get_or-replicate 9 levels no_row [] lt) at e))
        (λ ge. let r : None ≡ Some v = rw (get_or_past (replicate 9 no_row) levels [] ge) at e in cc) (lt-or_le levels 9)

-- reading after a write: what was written, or what was there
read_set : {A : Type 0} (xs : List A) (i j : ℕ) (x d : A) → ((j ≡ i) × (get_or (set xs i x) j d ≡ x)) ⊎ (get_or (set xs i x) j d ≡ get_or xs j d)
read_set {A} xs i j x d = ⊎_elim (λ e. at e (lt-or_le i (length xs))) (λ ne. inr (get_or-set_other xs i j x d ne)) (eq-or_ne j i)
  where
    at : j ≡ i → (i < length xs) ⊎ (length xs ≤ i) → ((j ≡ i) × (get_or (set xs i x) j d ≡ x)) ⊎ (get_or (set xs i x) j d ≡ get_or xs j d)
    at e (inl lt) = inl (e, ap (λ (k : ℕ). get_or (set xs i x) k d) e ∙ get_or-set_same xs i x d lt)
    at e (inr ge) =
        let same = length-set xs i x in
        inr (get_or_past (set xs i x) j d (omega arith) ∙ sym (get_or_past xs j d (omega arith)))

module _ (t : Calling) (memo : List (List (Option ℕ))) (h : Memo t memo) (levels l left : ℕ) (at : suc left ≡ levels) where
  pub memo_write : (v : ℕ) → Some v ≡ unless_over (peak_within t levels l) → Memo t (set memo left (set (get_or memo left []) l (Some v)))
  memo_write v p = record { right = λ levels' l' v' e. row levels' l' v' e (read_set memo left levels' (set (get_or memo left []) l (Some v)) []) }
    where
      place : (l' v' : ℕ) → get_or (set (get_or memo left []) l (Some v)) l' None ≡ Some v'
          → ((l' ≡ l) × (get_or (set (get_or memo left []) l (Some v)) l' None ≡ Some v))
          ⊎ (get_or (set (get_or memo left []) l (Some v)) l' None ≡ get_or (get_or memo left []) l' None)
          → Some v' ≡ unless_over (peak_within t (suc left) l')
      place l' v' e (inl (q, r)) = let s : v' ≡ v = cc in ap Some s ∙ p ∙ rw (at, q) refl
      place l' v' e (inr r) = h.right left l' v' (sym r ∙ e)

      row : (levels' l' v' : ℕ) → get_or (get_or (set memo left (set (get_or memo left []) l (Some v))) levels' []) l' None ≡ Some v'
          → ((levels' ≡ left) × (get_or (set memo left (set (get_or memo left []) l (Some v))) levels' [] ≡ set (get_or memo left []) l (Some v)))
          ⊎ (get_or (set memo left (set (get_or memo left []) l (Some v))) levels' [] ≡ get_or memo levels' [])
          → Some v' ≡ unless_over (peak_within t (suc levels') l')
      row levels' l' v' e (inl (q, r)) =
          rw q (place l' v' (ap (λ (k : List (Option ℕ)). get_or k l' None) (sym r) ∙ e) (read_set (get_or memo left []) l l' (Some v) None))
      row levels' l' v' e (inr r) = h.right levels' l' v' (ap (λ (k : List (Option ℕ)). get_or k l' None) (sym r) ∙ e)
