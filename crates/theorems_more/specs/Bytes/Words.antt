-- Words as bytes and back, as C hands them over: four bytes a word, low byte first. Words below 2 ^ 32 come back as they were, and a call on
-- bytes of the right length is the call on their words. Assumes nothing but what its arguments say.
use Rattle.std.specs.Prelude.{◌≡◌, true, ◌&&◌, ℕ, zero, suc, ◌+◌, ◌*◌, ◌/◌, ◌%◌, ◌<◌, length, ltb}
use Rattle.std.proofs.Math.Path.{refl, ap}
use Rattle.std.proofs.Common.{sym, ap₂, arith, ltb-true, lt-ltb}
use mathlib.Core.List.{List, [], ◌∷◌}
use Rattle.theory.specs.Tests.{and-true, true_and, eqb_same}
use Rattle.rules.specs.Base.{each_of}
use Rattle.rules.specs.Format.{word_from}
use Rattle.rules.specs.Value.{span}
use Rattle.rules.specs.Machine.{memory_words, machine_words}
use Rattle.rules.specs.Read.{Reading, got, fault, decoded}
use Rattle.rules.specs.Judge.{judged_blocks}
use Rattle.rules.specs.Words.{Outcome, refuse, judged_then, read_then, on_image, start_in, start, step_in, step, words_of, bytes_of}
use Rattle.rules.specs.Words.{to_bytes, has_words, start_bytes_in, start_bytes, step_bytes_in, step_bytes}
use Rattle.rules.specs.List.{list_in, list, list_bytes_in, list_bytes}
use Rattle.rules.specs.declared.Block.{Block}
use Rattle.rules.specs.Judgement.{Judgement}
use Rattle.rules.specs.declared.Row.{Row}
use Rattle.laws.proofs.Lists.{pick_true, each_below}
use Rattle.laws.proofs.Bytes.{bytes-again}
use Rattle.theorems.specs.Refusals.{Bytes}
use Rattle.theorems_more.specs.Subjects.{Words}

-- ---- words, to bytes and back
sum_of : (w a b c d x y z : ℕ) → w ≡ 256 * x + a → x ≡ 256 * y + b → y ≡ 256 * z + c → z ≡ d → word_from a b c d ≡ w
sum_of w a b c d x y z e f g h = omega arith

four : (w : ℕ) → w < span → word_from (w % 256) (w / 256 % 256) (w / 65536 % 256) (w / 16777216 % 256) ≡ w
four w h =
    let p : w / 65536 ≡ w / 256 / 256 = omega arith in
    let q : w / 16777216 ≡ w / 65536 / 256 = omega arith in
    let r : w / 16777216 < 256 = omega arith in
    sum_of w (w % 256) (w / 256 % 256) (w / 65536 % 256) (w / 16777216 % 256) (w / 256) (w / 65536) (w / 16777216) (omega arith) (omega (arith, p))
    (omega (arith, q)) (omega (arith, r))

-- Words below 2 ^ 32, written as bytes and read again, are as they were.
pub words-again : (words : List ℕ) → Words words → words_of (bytes_of words) ≡ words
unfolding words_of bytes_of each_of
words-again [] h = refl
words-again (w ∷ words) h =
    let e = and-true (ltb w span) (each_of (λ v. ltb v span) words) h in
    ap₂ (λ (x : ℕ) (l : List ℕ). x ∷ l) (four w (ltb-true w span e.0)) (words-again words e.1)

-- They are four bytes each.
pub length-bytes : (words : List ℕ) → length (bytes_of words) ≡ 4 * length words
unfolding bytes_of
length-bytes [] = refl
length-bytes (w ∷ words) = let h : length (bytes_of words) ≡ 4 * length words = length-bytes words in omega arith

pub are-bytes : (words : List ℕ) → Bytes (bytes_of words)
unfolding bytes_of each_of
are-bytes [] = refl
are-bytes (w ∷ words) =
    true_and _ _ (lt-ltb (w % 256) 256 (omega arith))
    (true_and _ _ (lt-ltb (w / 256 % 256) 256 (omega arith))
    (true_and _ _ (lt-ltb (w / 65536 % 256) 256 (omega arith))
    (true_and _ _ (lt-ltb (w / 16777216 % 256) 256 (omega arith)) (are-bytes words))))

-- Bytes, four a word, make as many words, each below 2 ^ 32.
pub length-words : (bytes : List ℕ) (n : ℕ) → length bytes ≡ 4 * n → length (words_of bytes) ≡ n
unfolding words_of
length-words [] n h = omega arith
length-words (a ∷ []) n h = absurd (omega arith)
length-words (a ∷ b ∷ []) n h = absurd (omega arith)
length-words (a ∷ b ∷ c ∷ []) n h = absurd (omega arith)
length-words (a ∷ b ∷ c ∷ d ∷ bytes) zero h = absurd (omega arith)
length-words (a ∷ b ∷ c ∷ d ∷ bytes) (suc n) h = ap suc (length-words bytes n (omega arith))

word-from : (a b c d : ℕ) → a < 256 → b < 256 → c < 256 → d < 256 → word_from a b c d < span
word-from a b c d i j k l = omega arith

pub are_words : (bytes : List ℕ) → Bytes bytes → Words (words_of bytes)
unfolding words_of each_of
are_words [] h = refl
are_words (a ∷ []) h = refl
are_words (a ∷ b ∷ []) h = refl
are_words (a ∷ b ∷ c ∷ []) h = refl
are_words (a ∷ b ∷ c ∷ d ∷ bytes) h =
    let r₀ = and-true (ltb a 256) _ h in
    let r₁ = and-true (ltb b 256) _ r₀.1 in
    let r₂ = and-true (ltb c 256) _ r₁.1 in
    let r₃ = and-true (ltb d 256) _ r₂.1 in
    true_and _ _
    (lt-ltb (word_from a b c d) span
    (word-from a b c d (ltb-true a 256 r₀.0) (ltb-true b 256 r₁.0) (ltb-true c 256 r₂.0) (ltb-true d 256 r₃.0)))
    (are_words bytes r₃.1)

pub bytes_back : (bytes : List ℕ) (n : ℕ) → Bytes bytes → length bytes ≡ 4 * n → bytes_of (words_of bytes) ≡ bytes
bytes_back bytes n b h = bytes-again bytes n h (each_below bytes 256 (omega arith) b)

-- ---- a call on bytes is the call on their words
module _ {A B : Type 0} (g : A → B) where
  abbrev on_lent : Outcome A → Outcome B
  on_lent o = record { answer = o.answer; leaves = g o.leaves }

  -- what is done to the lent slice may be done after judging
  image-after :
      (image : List ℕ) (lent : A) (lent' : B) (f : List Block → Outcome A) (f' : List Block → Outcome B) → lent' ≡ g lent →
      ((program : List Block) → f' program ≡ on_lent (f program)) → on_image image lent' f' ≡ on_lent (on_image image lent f)
  unfolding on_image
  image-after image lent lent' f f' e h = reading (decoded image)
    where
      judging : (j : Judgement) (program : List Block) → judged_then j lent' (f' program) ≡ on_lent (judged_then j lent (f program))
      judging (Judgement.Refused code place) program = ap (refuse code place) e
      judging (Judgement.Accepted blocks peak) program = h program

      reading : (r : Reading (List Block)) → read_then r lent' f' ≡ on_lent (read_then r lent f)
      reading (fault code place) = ap (refuse code place) e
      reading (got program at) = judging (judged_blocks program) program

module _ (image bytes : List ℕ) (are : Bytes bytes) (size : length bytes ≡ 4 * machine_words) where
  has : has_words bytes machine_words ≡ true
  has = eqb_same (length bytes) (4 * machine_words) size

  back : bytes ≡ bytes_of (words_of bytes)
  back = sym (bytes_back bytes machine_words are size)

  -- On a machine of 34,696 bytes a step, whatever the image, is the step on its 8,674 words.
  pub step-on_words : (p d : ℕ) → step_bytes image bytes p d ≡ to_bytes (step image (words_of bytes) p d)
  unfolding step_bytes step_bytes_in step to_bytes
  step-on_words p d =
      image-after bytes_of image (words_of bytes) bytes (step_in (words_of bytes) p d) (step_bytes_in bytes p d) back
      (λ program. pick_true (has_words bytes machine_words) (to_bytes (step_in (words_of bytes) p d program)) (refuse 16 0 bytes) has)

  -- So is a start, from a first memory of 1,152 bytes.
  pub start-on_words : (first : List ℕ) → length first ≡ 4 * memory_words →
      start_bytes image first bytes ≡ to_bytes (start image (words_of first) (words_of bytes))
  unfolding start_bytes start_bytes_in start to_bytes
  start-on_words first h =
      image-after bytes_of image (words_of bytes) bytes (start_in (words_of first) (words_of bytes)) (start_bytes_in first bytes) back
      (λ program. pick_true (has_words first memory_words && has_words bytes machine_words)
      (to_bytes (start_in (words_of first) (words_of bytes) program)) (refuse 16 0 bytes)
      (true_and (has_words first memory_words) (has_words bytes machine_words) (eqb_same (length first) (4 * memory_words) h) has))

  -- So is a list.
  pub list-on_words : (rows : List Row) → list_bytes image bytes rows ≡ list image (words_of bytes) rows
  unfolding list_bytes list_bytes_in list
  list-on_words rows =
      image-after (λ (l : List Row). l) image rows rows (list_in (words_of bytes) rows) (list_bytes_in bytes rows) refl
      (λ program. pick_true (has_words bytes machine_words) (list_in (words_of bytes) rows program) (refuse 16 0 rows) has)
