-- Words replaced in the middle of a list: `splice l at y e` is l with its words from at up to e replaced by y. Assumes nothing.
use mathlib.Core.Path.{◌≡◌, sym, ap, ap₂, ◌∙◌}
use mathlib.Core.List.{List, [], ◌∷◌, ◌++◌, append_assoc}
use Prim.Native.Nat.{ℕ, ◌+◌, ◌-◌, ◌≤◌}
use native.Mathlib.Numerals.{add-one}
use native.Mathlib.Omega.{arith}
use borrow.Rule.Slice.PartMut.{put_mid}
use lib.ListN.{length, take, drop, set, length-append, length-drop, replicate-append-replicate}
use lib.Seq.{sets-eq, take_at, drop_at, take-paste, drop-paste, drop-drop, take-append-le, take-take, length-take-le}
use Rattle.rules.specs.Base.{zeros}
use Rattle.machine.specs.Splice.{splice}

-- the middle of three pieces replaced
pub mid : (w A X S y : List ℕ) (i j : ℕ) → w ≡ A ++ (X ++ S) → length A ≡ i → i + length X ≡ j → splice w i y j ≡ A ++ y ++ S
unfolding splice
mid w A X S y i j e a x =
    let l : length (A ++ X) ≡ j = length-append A X ∙ omega arith in
    ap (λ (r : List ℕ). take i r ++ y ++ drop j r) e
    ∙ ap (λ (r : List ℕ). r ++ y ++ drop j (A ++ (X ++ S))) (take_at A (X ++ S) i a)
    ∙ ap (λ (r : List ℕ). A ++ y ++ r) (ap (λ (r : List ℕ). drop j r) (sym (append_assoc A X S)) ∙ drop_at (A ++ X) S j l)

-- k words from a on, written as a part
pub put-splice : (a k : ℕ) (xs ys : List ℕ) → put_mid a k xs ys ≡ splice xs a ys (a + k)
unfolding splice
put-splice a k xs ys = sym (append_assoc (take a xs) ys (drop k (drop a xs))) ∙ ap (λ (r : List ℕ). take a xs ++ ys ++ r) (drop-drop k a xs)

-- two stores, one after the other, as code leaves them
pub two-stores : (w : List ℕ) (i a b : ℕ) → i + 2 ≤ length w → set (set w i a) (i + 1) b ≡ splice w i (a ∷ b ∷ []) (i + 2)
unfolding splice
two-stores w i a b h = ap (λ (j : ℕ). set (set w i a) j b) (add-one i) ∙ sets-eq (a ∷ b ∷ []) w i h

-- words moved down over a gap, and the words left at the end cleared
pub closed-gap : (w w₁ w₂ : List ℕ) (at by k : ℕ) → at + by + k ≤ length w
    → w₁ ≡ take at w ++ take k (drop (at + by) w) ++ drop (at + k) w
    → w₂ ≡ take (at + k) w₁ ++ zeros by ++ drop (at + k + by) w₁
    → w₂ ≡ splice w at (take k (drop (at + by) w) ++ zeros by) (at + by + k)
unfolding splice
closed-gap w w₁ w₂ at by k h e f =
    let s : List ℕ = drop (at + by) w in
    let l : length s ≡ length w - (at + by) = length-drop (at + by) w in
    let t : take (at + k) w₁ ≡ take at w ++ take k s =
    ap (λ (r : List ℕ). take (at + k) r) e ∙ take-paste w at s k (omega arith) (omega arith) in
    let d : drop (at + k + by) w₁ ≡ drop (at + by + k) w =
    sym (drop-drop by (at + k) w₁)
    ∙ ap (λ (r : List ℕ). drop by r) (ap (λ (r : List ℕ). drop (at + k) r) e ∙ drop-paste w at s k (omega arith) (omega arith))
    ∙ drop-drop by (at + k) w
    ∙ ap (λ (j : ℕ). drop j w) (nat at k by) in
    f
    ∙ ap (λ (r : List ℕ). r ++ zeros by ++ drop (at + k + by) w₁) t
    ∙ ap (λ (r : List ℕ). take at w ++ take k s ++ zeros by ++ r) d
    ∙ ap (λ (r : List ℕ). r ++ drop (at + by + k) w) (append_assoc (take at w) (take k s) (zeros by))
  where
    nat : (at k by : ℕ) → at + k + by ≡ at + by + k
    nat at k by = omega arith

pub zeros-add : (a b : ℕ) → zeros a ++ zeros b ≡ zeros (a + b)
zeros-add a b = replicate-append-replicate a b 0

-- words moved up to open a gap, and the gap filled
pub opened-gap : (w w₁ w₂ new : List ℕ) (at by k : ℕ) → at + by + k ≤ length w → length new ≡ by
    → w₁ ≡ take (at + by) w ++ take k (drop at w) ++ drop (at + by + k) w
    → w₂ ≡ take at w₁ ++ new ++ drop (at + length new) w₁
    → w₂ ≡ splice w at (new ++ take k (drop at w)) (at + by + k)
unfolding splice
opened-gap w w₁ w₂ new at by k h l e f =
    let t : List ℕ = take k (drop at w) in
    let d : List ℕ = drop (at + by + k) w in
    let lt : length (take (at + by) w) ≡ at + by = length-take-le (at + by) w (omega arith) in
    let e' : w₁ ≡ take (at + by) w ++ (t ++ d) = e ∙ append_assoc (take (at + by) w) t d in
    let a : take at w₁ ≡ take at w =
    ap (λ (r : List ℕ). take at r) e' ∙ take-append-le at (take (at + by) w) (t ++ d) (omega arith) ∙ take-take at (at + by) w (omega arith) in
    let b : drop (at + length new) w₁ ≡ t ++ d =
    ap (λ (j : ℕ). drop (at + j) w₁) l ∙ ap (λ (r : List ℕ). drop (at + by) r) e' ∙ drop_at (take (at + by) w) (t ++ d) (at + by) lt in
    f
    ∙ ap₂ (λ (x y : List ℕ). x ++ new ++ y) a b
    ∙ re (take at w) new t d
  where
    re : (p n t d : List ℕ) → p ++ n ++ (t ++ d) ≡ p ++ (n ++ t) ++ d
    re p n t d = simp append_assoc
