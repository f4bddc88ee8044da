-- Laws of words as bytes: their lengths, the word and the bytes at an index, a turn of each loop. Assumes nothing.
use mathlib.Core.Path.{◌≡◌, refl, sym, ap, ap₂, ◌∙◌}
use mathlib.Core.List.{List, [], ◌∷◌, ◌++◌}
use Prim.Native.Nat.{ℕ, zero, suc, ◌+◌, ◌*◌, ◌≤◌, ◌<◌}
use native.Mathlib.Nat.{add-zero}
use native.Mathlib.Omega.{arith}
use lib.ListN.{length, take, drop, get_or, set, length-drop}
use lib.Seq.{get_or-drop, drop-cons, take_all, take-add}
use Rattle.std.specs.Int.{w32, to_le_bytes}
use Rattle.std.proofs.lemmas.Slice.{take-put_mid}
use Rattle.std.proofs.lemmas.List.{take_more, take_more_set}
use borrow.Rule.Slice.PartMut.{put_mid}
use Rattle.rules.specs.Format.{word_from, word_at}
use Rattle.rules.specs.Words.{words_of, bytes_of}

-- ---- lengths
pub length-words_of : (b : List ℕ) (n : ℕ) → length b ≡ 4 * n → length (words_of b) ≡ n
unfolding words_of
length-words_of [] n h = omega arith
length-words_of (a ∷ []) n h = absurd (omega arith)
length-words_of (a ∷ b ∷ []) n h = absurd (omega arith)
length-words_of (a ∷ b ∷ c ∷ []) n h = absurd (omega arith)
length-words_of (a ∷ b ∷ c ∷ d ∷ r) zero h = absurd (omega arith)
length-words_of (a ∷ b ∷ c ∷ d ∷ r) (suc n) h = ap suc (length-words_of r n (omega arith))

pub length-bytes_of : (w : List ℕ) → length (bytes_of w) ≡ 4 * length w
unfolding bytes_of
length-bytes_of [] = refl
length-bytes_of (x ∷ r) = let h : length (bytes_of r) ≡ 4 * length r = length-bytes_of r in omega arith

-- ---- the rest of the words and of the bytes from an index on
four : (j : ℕ) → 4 * suc j ≡ suc (suc (suc (suc (4 * j))))
four j = omega arith

drop-words_of : (b : List ℕ) (i : ℕ) → words_of (drop (4 * i) b) ≡ drop i (words_of b)
unfolding words_of
drop-words_of b zero = refl
drop-words_of [] (suc i) = ap (λ (j : ℕ). words_of (drop j [])) (four i)
drop-words_of (a ∷ []) (suc i) = ap (λ (j : ℕ). words_of (drop j (a ∷ []))) (four i)
drop-words_of (a ∷ b ∷ []) (suc i) = ap (λ (j : ℕ). words_of (drop j (a ∷ b ∷ []))) (four i)
drop-words_of (a ∷ b ∷ c ∷ []) (suc i) = ap (λ (j : ℕ). words_of (drop j (a ∷ b ∷ c ∷ []))) (four i)
drop-words_of (a ∷ b ∷ c ∷ d ∷ r) (suc i) = ap (λ (j : ℕ). words_of (drop j (a ∷ b ∷ c ∷ d ∷ r))) (four i) ∙ drop-words_of r i

drop-bytes_of : (w : List ℕ) (i : ℕ) → drop (4 * i) (bytes_of w) ≡ bytes_of (drop i w)
unfolding bytes_of
drop-bytes_of w zero = refl
drop-bytes_of [] (suc i) = ap (λ (j : ℕ). drop {A = ℕ} j []) (four i)
drop-bytes_of (x ∷ w) (suc i) = ap (λ (j : ℕ). drop j (bytes_of (x ∷ w))) (four i) ∙ drop-bytes_of w i

-- ---- the word, and the bytes, at an index
head-word : (r : List ℕ) → 4 ≤ length r → get_or (words_of r) 0 0 ≡ word_at r 0
unfolding words_of
head-word [] h = absurd (omega arith)
head-word (a ∷ []) h = absurd (omega arith)
head-word (a ∷ b ∷ []) h = absurd (omega arith)
head-word (a ∷ b ∷ c ∷ []) h = absurd (omega arith)
head-word (a ∷ b ∷ c ∷ d ∷ r) h = refl

pub word-get : (b : List ℕ) (i : ℕ) → 4 * i + 4 ≤ length b → get_or (words_of b) i 0 ≡ word_at b (4 * i)
word-get b i h =
    let r : List ℕ = drop (4 * i) b in
    let at : (k : ℕ) → get_or r k 0 ≡ get_or b (4 * i + k) 0 = λ k. get_or-drop (4 * i) b k 0 in
    let l : 4 ≤ length r = simp length-drop (omega arith) in
    ap (λ (j : ℕ). get_or (words_of b) j 0) (sym (add-zero i))
    ∙ sym (get_or-drop i (words_of b) 0 0)
    ∙ ap (λ (q : List ℕ). get_or q 0 0) (sym (drop-words_of b i))
    ∙ head-word r l
    ∙ ap₂ (λ (x y : ℕ). word_from x y (get_or r 2 0) (get_or r 3 0)) (at 0 ∙ ap (λ (j : ℕ). get_or b j 0) (add-zero (4 * i))) (at 1)
    ∙ ap₂ (λ (x y : ℕ). word_from (get_or b (4 * i) 0) (get_or b (4 * i + 1) 0) x y) (at 2) (at 3)

-- ---- a turn of each loop: the words, or the bytes of the words, that are passed are right
pub word-turn :
    (b w : List ℕ) (i v : ℕ) → i < length w → length b ≡ 4 * length w → take i w ≡ take i (words_of b) → v ≡ word_at b (4 * i) →
    take (i + 1) (set w i v) ≡ take (i + 1) (words_of b)
word-turn b w i v h l e f =
    let n : length (words_of b) ≡ length w = length-words_of b (length w) l in
    take_more_set w i v h
    ∙ ap₂ (λ (xs : List ℕ) (x : ℕ). xs ++ x ∷ []) e (f ∙ sym (word-get b i (omega arith)))
    ∙ sym (take_more (words_of b) i 0 (omega arith))

-- the four bytes of word i
four-bytes : (w : List ℕ) (i : ℕ) → i < length w → take 4 (drop (4 * i) (bytes_of w)) ≡ to_le_bytes w32 (get_or w i 0)
unfolding bytes_of
four-bytes w i h = ap (take 4) (drop-bytes_of w i ∙ ap bytes_of (drop-cons w i 0 h))

pub bytes-turn :
    (w b : List ℕ) (i k : ℕ) (f : List ℕ) → i < length w → length b ≡ 4 * length w → take (4 * i) b ≡ take (4 * i) (bytes_of w) →
    f ≡ to_le_bytes w32 (get_or w i 0) → take (4 * (i + 1)) (put_mid (4 * i) k b f) ≡ take (4 * (i + 1)) (bytes_of w)
bytes-turn w b i k f h l e g =
    let n : length f ≡ 4 = ap length g in
    let s : 4 * i + 4 ≡ 4 * (i + 1) = omega arith in
    take-put_mid (4 * i) k b f (4 * (i + 1)) (omega arith) (omega arith)
    ∙ ap₂ ◌++◌ e (g ∙ sym (four-bytes w i h))
    ∙ sym (take-add (4 * i) 4 (bytes_of w))
    ∙ ap (λ (j : ℕ). take j (bytes_of w)) s

-- lists that begin alike are alike where nothing comes after
pub whole : (a b : List ℕ) (n : ℕ) → length a ≤ n → length b ≤ n → take n a ≡ take n b → a ≡ b
whole a b n h k e = sym (take_all n a h) ∙ e ∙ take_all n b k
