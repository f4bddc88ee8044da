-- Words that are all zero in a part of a list, and the unused words of a machine as two such parts. Assumes nothing.
use Prim.Native.Nat.{ℕ, zero, suc, ◌+◌, ◌-◌, ◌*◌, ◌≤◌}
use native.Mathlib.Omega.{arith}
use mathlib.Core.Path.{◌≡◌, refl, sym, ap, ◌∙◌}
use mathlib.Core.Bool.{Bool, true, false, ◌&&◌}
use mathlib.Core.List.{List, [], ◌∷◌}
use lib.ListN.{length, take, drop, length-drop}
use lib.Seq.{take-nil, take_all, drop-drop}
use lib.Dec.{eqb}
use Rattle.std.specs.List.{list_all}
use Rattle.rules.specs.Base.{each_of}
use Rattle.rules.specs.Machine.{live_count, history_count}
use Rattle.rules.specs.Fits.{unused_zero}

pub each-all : {A : Type 0} (p : A → Bool) (l : List A) → each_of p l ≡ list_all p l
unfolding each_of
each-all p [] = refl
each-all p (a ∷ l) = ap (λ (b : Bool). p a && b) (each-all p l)

drop-take : (k n : ℕ) (l : List ℕ) → drop k (take n l) ≡ take (n - k) (drop k l)
drop-take zero n l = ap (λ (j : ℕ). take j l) (the n)
  where
    the : (n : ℕ) → n ≡ n - 0
    the n = omega arith
drop-take (suc k) zero l = sym (ap (λ (j : ℕ). take j (drop (suc k) l)) (the k))
  where
    the : (k : ℕ) → 0 - suc k ≡ 0
    the k = omega arith
drop-take (suc k) (suc n) [] = sym (take-nil (suc n - suc k))
drop-take (suc k) (suc n) (a ∷ l) = drop-take k n l ∙ ap (λ (j : ℕ). take j (drop k l)) (the n k)
  where
    the : (n k : ℕ) → n - k ≡ suc n - suc k
    the n k = omega arith

-- the unused rows and the unused entries; L and K are the counts as the code has them
module _ (w : List ℕ) (long : length w ≡ 8674) (rows : live_count w ≤ 64) (kept : history_count w ≤ 4096) where
  unused-is : unused_zero w
      ≡ (each_of (λ x. eqb x 0) (take (482 - (290 + 3 * live_count w)) (drop (290 + 3 * live_count w) w))
      && each_of (λ x. eqb x 0) (take (8674 - (482 + 2 * history_count w)) (drop (482 + 2 * history_count w) w)))
  unfolding unused_zero
  unused-is =
      let L = live_count w in
      let K = history_count w in
      let l : length (drop (482 + 2 * K) w) ≡ length w - (482 + 2 * K) = length-drop (482 + 2 * K) w in
      let e : 192 - 3 * L ≡ 482 - (290 + 3 * L) = omega arith in
      let r : drop (3 * L) (take 192 (drop 290 w)) ≡ take (482 - (290 + 3 * L)) (drop (290 + 3 * L) w) =
      drop-take (3 * L) 192 (drop 290 w)
      ∙ ap (λ (x : List ℕ). take (192 - 3 * L) x) (drop-drop (3 * L) 290 w)
      ∙ ap (λ (j : ℕ). take j (drop (290 + 3 * L) w)) e in
      let h : drop (2 * K) (drop 482 w) ≡ take (8674 - (482 + 2 * K)) (drop (482 + 2 * K) w) =
      drop-drop (2 * K) 482 w ∙ sym (take_all (8674 - (482 + 2 * K)) (drop (482 + 2 * K) w) (omega arith)) in
      rw (r, h)

  pub unused-rows : each_of (λ x. eqb x 0) (take (482 - (290 + 3 * live_count w)) (drop (290 + 3 * live_count w) w)) ≡ false → unused_zero w ≡ false
  unused-rows e = unused-is ∙ rw e

  pub unused-history : each_of (λ x. eqb x 0) (take (482 - (290 + 3 * live_count w)) (drop (290 + 3 * live_count w) w)) ≡ true
      → unused_zero w ≡ each_of (λ x. eqb x 0) (take (length w - (482 + 2 * history_count w)) (drop (482 + 2 * history_count w) w))
  unused-history e = unused-is ∙ rw (e, long)
