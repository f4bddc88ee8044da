-- What each change leaves by the calls that make it: words copied within the slice, and a part of it filled. Assumes nothing.
use mathlib.Core.Path.{◌≡◌, refl, sym, ap, ◌∙◌}
use mathlib.Core.List.{List, ◌++◌}
use Prim.Native.Nat.{ℕ, ◌+◌, ◌-◌, ◌*◌, ◌≤◌, ◌<◌}
use native.Mathlib.Omega.{arith}
use borrow.Rule.Slice.PartMut.{put_mid}
use lib.ListN.{length, take, drop, get_or, set, length-take, length-drop}
use lib.Seq.{paste}
use Rattle.std.specs.List.{copy_within}
use Rattle.rules.specs.Base.{zeros}
use Rattle.machine.specs.Splice.{splice}
use Rattle.machine.proofs.Splice.{closed-gap, opened-gap, put-splice}
use Rattle.change.specs.Words.{closed_entry, inserted_rows, removed_rows}

-- by words taken out at `at`: what stands after them, up to `end`, moved down, and the words left there cleared
closed-part : (w w₁ s : List ℕ) (at by k end : ℕ) → end ≡ at + by + k → end ≤ length w → length w₁ ≡ length w
    → w₁ ≡ copy_within w (at + by) end at → s ≡ zeros (length (take (end - (end - by)) (drop (end - by) w₁)))
    → put_mid (end - by) (end - (end - by)) w₁ s ≡ splice w at (take k (drop (at + by) w) ++ zeros by) end
unfolding splice
closed-part w w₁ s at by k end q h l e f =
    let first : end - by ≡ at + k = omega arith in
    let many : end - (end - by) ≡ by = omega arith in
    let moved : end - (at + by) ≡ k = omega arith in
    let size : length (take by (drop (at + k) w₁)) ≡ by = simp (length-take, length-drop) (omega arith) in
    let f' : s ≡ zeros by = rw (many, first) at f ∙ ap zeros size in
    rw (many, first)
    (put-splice (at + k) by w₁ s
    ∙ ap (λ (r : List ℕ). splice w₁ (at + k) r (at + k + by)) f'
    ∙ closed-gap w w₁ _ at by k (omega arith) (e ∙ ap (paste w at (drop (at + by) w)) moved) refl
    ∙ ap (splice w at (take k (drop (at + by) w) ++ zeros by)) (sym q))

-- by words put in at `at`: what stands there, up to `end`, moved up, and the words copied into the gap
opened-part : (w w₁ s new : List ℕ) (at by k end : ℕ) → end ≡ at + k → end + by ≤ length w → length new ≡ by
    → w₁ ≡ copy_within w at end (at + by) → s ≡ new
    → put_mid at (at + by - at) w₁ s ≡ splice w at (new ++ take k (drop at w)) (at + by + k)
unfolding splice
opened-part w w₁ s new at by k end q h l e f =
    let many : at + by - at ≡ length new = omega arith in
    let moved : end - at ≡ k = omega arith in
    rw many
    (put-splice at (length new) w₁ s
    ∙ ap (λ (r : List ℕ). splice w₁ at r (at + length new)) f
    ∙ opened-gap w w₁ _ new at by k (omega arith) l (e ∙ ap (paste w (at + by) (drop at w)) moved) refl)

-- what `close_up` does, by its two calls
pub closed-code : (w w₁ s : List ℕ) (i : ℕ) → i < get_or w 1 0 → 482 + 2 * get_or w 1 0 ≤ length w → length w₁ ≡ length w
    → w₁ ≡ copy_within w (482 + 2 * i + 2) (482 + 2 * get_or w 1 0) (482 + 2 * i)
    → s ≡ zeros (length (take (482 + 2 * get_or w 1 0 - (482 + 2 * get_or w 1 0 - 2)) (drop (482 + 2 * get_or w 1 0 - 2) w₁)))
    → set (put_mid (482 + 2 * get_or w 1 0 - 2) (482 + 2 * get_or w 1 0 - (482 + 2 * get_or w 1 0 - 2)) w₁ s) 1 (get_or w 1 0 - 1)
    ≡ closed_entry w i
unfolding closed_entry
closed-code w w₁ s i h l m e f =
    let n = get_or w 1 0 in
    ap (λ (r : List ℕ). set r 1 (n - 1)) (closed-part w w₁ s (482 + 2 * i) 2 (2 * (n - 1 - i)) (482 + 2 * n) (omega arith) l m e f)

-- what `insert_rows` does, by its two calls
pub inserted-code : (w w₁ s new : List ℕ) (i n : ℕ) → i ≤ get_or w 0 0 → 290 + 3 * (get_or w 0 0 + n) ≤ length w → length new ≡ 3 * n
    → w₁ ≡ copy_within w (290 + 3 * i) (290 + 3 * get_or w 0 0) (290 + 3 * i + 3 * n) → s ≡ new
    → set (put_mid (290 + 3 * i) (290 + 3 * i + 3 * n - (290 + 3 * i)) w₁ s) 0 (get_or w 0 0 + n) ≡ inserted_rows w i n new
unfolding inserted_rows
inserted-code w w₁ s new i n h l ln e f =
    let live = get_or w 0 0 in
    let end : 290 + 3 * i + 3 * n + 3 * (live - i) ≡ 290 + 3 * (live + n) = omega arith in
    ap (λ (r : List ℕ). set r 0 (live + n))
    (opened-part w w₁ s new (290 + 3 * i) (3 * n) (3 * (live - i)) (290 + 3 * live) (omega arith) (omega arith) ln e f
    ∙ ap (splice w (290 + 3 * i) (new ++ take (3 * (live - i)) (drop (290 + 3 * i) w))) end)

-- what `remove_rows` does, by its two calls
pub removed-code : (w w₁ s : List ℕ) (i n : ℕ) → i + n ≤ get_or w 0 0 → 290 + 3 * get_or w 0 0 ≤ length w → length w₁ ≡ length w
    → w₁ ≡ copy_within w (290 + 3 * i + 3 * n) (290 + 3 * get_or w 0 0) (290 + 3 * i)
    → s ≡ zeros (length (take (290 + 3 * get_or w 0 0 - (290 + 3 * get_or w 0 0 - 3 * n)) (drop (290 + 3 * get_or w 0 0 - 3 * n) w₁)))
    → set (put_mid (290 + 3 * get_or w 0 0 - 3 * n) (290 + 3 * get_or w 0 0 - (290 + 3 * get_or w 0 0 - 3 * n)) w₁ s) 0 (get_or w 0 0 - n)
    ≡ removed_rows w i n
unfolding removed_rows
removed-code w w₁ s i n h l m e f =
    let live = get_or w 0 0 in
    ap (λ (r : List ℕ). set r 0 (live - n))
    (closed-part w w₁ s (290 + 3 * i) (3 * n) (3 * (live - i - n)) (290 + 3 * live) (omega arith) l m e f)
