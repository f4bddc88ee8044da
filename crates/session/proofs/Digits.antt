-- The digits that the kit's `io` writes are those of rules' `decimal` and `hexadecimal`, for numbers of 32 bits. Assumes nothing.
use mathlib.Core.Path.{◌≡◌, refl, sym, ap, ap₂, ◌∙◌, subst}
use mathlib.Core.Bool.{Bool, true, false, cond}
use mathlib.Core.List.{List, [], ◌∷◌, ◌++◌}
use Prim.Native.Nat.{ℕ, zero, suc, ◌+◌, ◌-◌, ◌*◌, ◌/◌, ◌%◌, ◌^◌, ◌≤◌, ◌<◌}
use native.Mathlib.Nat.{pow-succ', one-le-pow, pow-le-pow_right}
use native.Mathlib.Omega.{arith}
use lib.Dec.{ltb, leb}
use borrow.Author.Tests.{lt-ltb, le-ltb, leb-true, leb-false}
use Rattle.io.specs.Digits.{hex_digit_ascii, last_digits, IsDigitCount}
use Rattle.rules.specs.Base.{pick}
use Rattle.rules.specs.Session.{digit, decimal_of, decimal, hexadecimal}
use Rattle.rules.specs.Session.{digits as Session·digits}

glyph_is : (d : ℕ) → hex_digit_ascii d ≡ digit d
unfolding pick
glyph_is d = go (ltb d 10)
  where
    go : (t : Bool) → cond t (48 + d) (87 + d) ≡ pick t (0x30 + d) (0x57 + d)
    go true = refl
    go false = refl

digits_are : (radix k n : ℕ) → last_digits radix k n ≡ Session·digits radix k n
unfolding Session·digits
digits_are radix zero n = refl
digits_are radix (suc k) n =
    ap₂ {B = ℕ} {C = List ℕ} (λ l d. l ++ (d ∷ [])) (digits_are radix k (n / radix)) (glyph_is (n % radix))

-- a number below a power takes no more digits than that, unless it is to have more
none_over :
    (radix least most n k : ℕ) → 0 < radix → least ≤ most → n < radix ^ most → IsDigitCount radix least n k → k ≤ most
none_over radix least most n k r l h f = go (leb k most) refl
  where
    go : (t : Bool) → leb k most ≡ t → k ≤ most
    go true e = leb-true k most e
    go false e =
        let o : most < k = leb-false k most e in
        let p : radix ^ most ≤ radix ^ (k - 1) = pow-le-pow_right r (omega arith) in
        let q : radix ^ (k - 1) ≤ n = f.2 (omega arith) in
        absurd (omega arith)

-- ---- eight hexadecimal digits
pub eight-hexadecimal : (n k : ℕ) → n < 4294967296 → IsDigitCount 16 8 n k → k ≡ 8
eight-hexadecimal n k h f =
    let g : k ≤ 8 = none_over 16 8 8 n k (omega arith) (omega arith) (omega arith) f in
    omega (arith, f.0)

pub hexadecimal-is : (n k : ℕ) → n < 4294967296 → IsDigitCount 16 8 n k → last_digits 16 k n ≡ hexadecimal n
hexadecimal-is n k h f = ap (λ (j : ℕ). last_digits 16 j n) (eight-hexadecimal n k h f) ∙ digits_are 16 8 n

-- ---- decimal digits
pub few-decimal : (n k : ℕ) → n < 4294967296 → IsDigitCount 10 1 n k → k ≤ 10
few-decimal n k h f = none_over 10 1 10 n k (omega arith) (omega arith) (omega arith) f

minus_one : (k : ℕ) → suc k - 1 ≡ k
minus_one k = omega arith

least : (n k : ℕ) → IsDigitCount 10 1 n (suc (suc k)) → 10 ^ suc k ≤ n
least n k f = subst (λ (j : ℕ). 10 ^ j ≤ n) (minus_one (suc k)) (f.2 (omega arith))

-- without the last digit
shorter : (n k : ℕ) → IsDigitCount 10 1 n (suc (suc k)) → IsDigitCount 10 1 (n / 10) (suc k)
shorter n k f =
    let e : 10 ^ suc (suc k) ≡ 10 * 10 ^ suc k = pow-succ' 10 (suc k) in
    let g : 10 ^ suc k ≡ 10 * 10 ^ k = pow-succ' 10 k in
    let m : 10 ^ suc k ≤ n = least n k f in
    let a : 10 ^ k ≤ n / 10 = above n (10 ^ k) (subst (λ (x : ℕ). x ≤ n) g m) in
    (omega arith, below n (10 ^ suc k) (subst (λ (x : ℕ). n < x) e f.1), λ o. subst (λ (j : ℕ). 10 ^ j ≤ n / 10) (sym (minus_one k)) a)
  where
    below : (n x : ℕ) → n < 10 * x → n / 10 < x
    below n x h = omega arith

    above : (n x : ℕ) → 10 * x ≤ n → x ≤ n / 10
    above n x h = omega arith

ten : (n k : ℕ) → IsDigitCount 10 1 n (suc (suc k)) → 10 ≤ n
ten n k f =
    let g : 10 ^ suc k ≡ 10 * 10 ^ k = pow-succ' 10 k in
    let o : 1 ≤ 10 ^ k = one-le-pow k 10 (omega arith) in
    let m : 10 ^ suc k ≤ n = least n k f in
    omega (arith, g, o, m)

decimals : (most n k : ℕ) → k ≤ most → IsDigitCount 10 1 n k → last_digits 10 k n ≡ decimal_of most n
unfolding decimal_of pick
decimals most n zero h f = absurd (omega (arith, f.0))
decimals zero n (suc k) h f = absurd (omega arith)
decimals (suc most) n (suc zero) h f =
    let l : n < 10 = f.1 in
    let e : n % 10 ≡ n = omega arith in
    ap (λ (d : ℕ). d ∷ []) (glyph_is (n % 10) ∙ ap digit e)
    ∙ sym (ap (λ (t : Bool). pick t (digit n ∷ []) (decimal_of most (n / 10) ++ digit (n % 10) ∷ [])) (lt-ltb n 10 l))
decimals (suc most) n (suc (suc k)) h f =
    ap₂ {B = ℕ} {C = List ℕ} (λ l d. l ++ (d ∷ [])) (decimals most (n / 10) (suc k) (omega arith) (shorter n k f)) (glyph_is (n % 10))
    ∙ sym (ap (λ (t : Bool). pick t (digit n ∷ []) (decimal_of most (n / 10) ++ digit (n % 10) ∷ [])) (le-ltb n 10 (ten n k f)))

pub decimal-is : (n k : ℕ) → n < 4294967296 → IsDigitCount 10 1 n k → last_digits 10 k n ≡ decimal n
decimal-is n k h f = decimals 10 n k (few-decimal n k h f) f
