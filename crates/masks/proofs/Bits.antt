-- Masks: none, one resource, two masks together, and when two have a resource in common. Assumes nothing.
use mathlib.Core.Path.{◌≡◌, refl, sym, ap, ap₂, ◌∙◌, subst}
use mathlib.Core.Bool.{Bool, true, false, not, ◌&&◌, ◌||◌}
use Prim.Native.Nat.{ℕ, zero, suc, ◌+◌, ◌-◌, ◌*◌, ◌/◌, ◌%◌, ◌^◌, ◌<◌}
use native.Mathlib.Omega.{arith}
use native.Mathlib.Decide.{ℕ_discrete, dec_lt}
use native.Mathlib.Nat.{div-div-eq-div-mul, pow-succ', div-eq_of_lt, div_self, zero-div, zero-mod, mul-div_cancel, pow-zero}
use lib.Pow.{pow_pos, pow-lt, pow-add}
use lib.Bits.{bit_and, bit_or, or_lt, or_shr, or_mod, and_shr, and_mod, and_lt}
use lib.Dec.{eqb}
use borrow.Author.Tests.{eq-eqb, ne_eqb}
use Rattle.rules.specs.Base.{some_below}
use Rattle.rules.specs.Value.{flag}
use Rattle.laws.proofs.Tests.{true_false}
use Rattle.masks.specs.Mask.{bit_of, Mask, single}

bit-zero : (r : ℕ) → bit_of 0 r ≡ 0
bit-zero r = ap (λ (n : ℕ). n % 2) (zero-div (2 ^ r)) ∙ zero-mod 2

pub mask_none : Mask (λ r. false) 0
mask_none = record { fits = omega arith; bits = bit-zero }

bit-same : (x : ℕ) → bit_of (2 ^ x) x ≡ 1
bit-same x = ap (λ (n : ℕ). n % 2) (div_self (pow_pos x))

bit-above : (x r : ℕ) → x < r → bit_of (2 ^ x) r ≡ 0
bit-above x r h = ap (λ (n : ℕ). n % 2) (div-eq_of_lt (pow-lt h)) ∙ zero-mod 2

bit_below : (x r : ℕ) → r < x → bit_of (2 ^ x) r ≡ 0
bit_below x r h =
    let k : ℕ = x - suc r in
    let e : x ≡ suc k + r = omega arith in
    let q : 2 ^ x ≡ 2 ^ suc k * 2 ^ r = ap (λ (n : ℕ). 2 ^ n) e ∙ pow-add 2 (suc k) r in
    let d : 2 ^ x / 2 ^ r ≡ 2 ^ suc k = ap (λ (n : ℕ). n / 2 ^ r) q ∙ mul-div_cancel (2 ^ suc k) (pow_pos r) in
    let s : 2 ^ suc k ≡ 2 * 2 ^ k = pow-succ' 2 k in
    ap (λ (n : ℕ). n % 2) (d ∙ s) ∙ omega arith

pub mask_single : (x : ℕ) → x < 33 → Mask (single x) (2 ^ x)
mask_single x h = record { fits = pow-lt h; bits = λ r. go r (ℕ_discrete x r) (dec_lt x r) }
  where
    go : (r : ℕ) → Dec (x ≡ r) → Dec (x < r) → bit_of (2 ^ x) r ≡ flag (single x r)
    go r (yes e) d = ap (λ (n : ℕ). bit_of (2 ^ x) n) (sym e) ∙ bit-same x ∙ sym (ap flag (eq-eqb x r e))
    go r (no n) (yes l) = bit-above x r l ∙ sym (ap flag (ne_eqb x r n))
    go r (no n) (no l) = bit_below x r (omega (arith, l, n)) ∙ sym (ap flag (ne_eqb x r n))

flag-or : (a b : Bool) → bit_or (flag a) (flag b) ≡ flag (a || b)
flag-or true true = refl
flag-or true false = refl
flag-or false true = refl
flag-or false false = refl

flag-and : (a b : Bool) → bit_and (flag a) (flag b) ≡ flag (a && b)
flag-and true true = refl
flag-and true false = refl
flag-and false true = refl
flag-and false false = refl

bit-or : (a b r : ℕ) → bit_of (bit_or a b) r ≡ bit_or (bit_of a r) (bit_of b r)
bit-or a b r = ap (λ (n : ℕ). n % 2) (or_shr a b r) ∙ or_mod (a / 2 ^ r) (b / 2 ^ r) 1

bit-and : (a b r : ℕ) → bit_of (bit_and a b) r ≡ bit_and (bit_of a r) (bit_of b r)
bit-and a b r = ap (λ (n : ℕ). n % 2) (and_shr a b r) ∙ and_mod (a / 2 ^ r) (b / 2 ^ r) 1

-- two masks together
pub mask_or : {f g : ℕ → Bool} {a b : ℕ} → Mask f a → Mask g b → Mask (λ r. f r || g r) (bit_or a b)
mask_or {f} {g} {a} {b} m n =
    record { fits = or_lt 33 a b m.fits n.fits; bits = λ r. bit-or a b r ∙ ap₂ bit_or (m.bits r) (n.bits r) ∙ flag-or (f r) (g r) }

-- a mask of the same resources
pub mask_same : {f g : ℕ → Bool} {a : ℕ} → ((r : ℕ) → f r ≡ g r) → Mask f a → Mask g a
mask_same e m = record { fits = m.fits; bits = λ r. m.bits r ∙ ap flag (e r) }

-- a number below 2 ^ k none of whose k bits is set is 0
no_bits : (k n : ℕ) → n < 2 ^ k → ((r : ℕ) → r < k → bit_of n r ≡ 0) → n ≡ 0
no_bits zero n h b = omega (arith, ap (λ (x : ℕ). x) (pow-zero 2))
no_bits (suc k) n h b =
    let s : 2 ^ suc k ≡ 2 * 2 ^ k = pow-succ' 2 k in
    let half : n / 2 < 2 ^ k = omega arith in
    let low : n / 2 ^ 0 % 2 ≡ 0 = b 0 (omega arith) in
    let rest : n / 2 ≡ 0 = no_bits k (n / 2) half (λ r q. shift r ∙ b (suc r) (omega arith)) in
    omega arith
  where
    shift : (r : ℕ) → bit_of (n / 2) r ≡ bit_of n (suc r)
    shift r = ap (λ (x : ℕ). x % 2) (div-div-eq-div-mul n 2 (2 ^ r) ∙ ap (λ (x : ℕ). n / x) (sym (pow-succ' 2 r)))

below_false : (p : ℕ → Bool) (n : ℕ) → some_below p n ≡ false → (r : ℕ) → r < n → p r ≡ false
unfolding some_below
below_false p zero h r l = absurd (omega arith)
below_false p (suc n) h r l = go (some_below p n) refl (p n) refl (λ e q. below_false p n e r q) (ℕ_discrete r n)
  where
    go : (a : Bool) → some_below p n ≡ a → (b : Bool) → p n ≡ b → (some_below p n ≡ false → r < n → p r ≡ false) → Dec (r ≡ n) → p r ≡ false
    go true ea b eb ih d = absurd (true_false (ap (λ (x : Bool). x || p n) ea) h)
    go false ea true eb ih d = absurd (true_false (ap₂ ◌||◌ ea eb) h)
    go false ea false eb ih (yes e) = ap p e ∙ eb
    go false ea false eb ih (no ne) = ih ea (omega (arith, ne))

false_below : (p : ℕ → Bool) (n : ℕ) → ((r : ℕ) → r < n → p r ≡ false) → some_below p n ≡ false
unfolding some_below
false_below p zero h = refl
false_below p (suc n) h = ap₂ ◌||◌ (false_below p n (λ r l. h r (omega arith))) (h n (omega arith))

flag-zero : (b : Bool) → flag b ≡ 0 → b ≡ false
flag-zero true h = absurd (omega arith)
flag-zero false h = refl

-- two masks have a resource in common just where their `and` is not 0
pub common : {f g : ℕ → Bool} {a b : ℕ} → Mask f a → Mask g b → not (eqb (bit_and a b) 0) ≡ some_below (λ r. f r && g r) 33
common {f} {g} {a} {b} m n = go (some_below (λ r. f r && g r) 33) refl (ℕ_discrete (bit_and a b) 0)
  where
    bits : (r : ℕ) → bit_of (bit_and a b) r ≡ flag (f r && g r)
    bits r = bit-and a b r ∙ ap₂ bit_and (m.bits r) (n.bits r) ∙ flag-and (f r) (g r)

    none : some_below (λ r. f r && g r) 33 ≡ false → bit_and a b ≡ 0
    none e = no_bits 33 (bit_and a b) (and_lt 33 a b m.fits n.fits) (λ r l. bits r ∙ ap flag (below_false (λ x. f x && g x) 33 e r l))

    clear : bit_and a b ≡ 0 → some_below (λ r. f r && g r) 33 ≡ false
    clear z = false_below (λ r. f r && g r) 33 (λ r l. flag-zero (f r && g r) (sym (bits r) ∙ ap (λ (x : ℕ). bit_of x r) z ∙ bit-zero r))

    go : (s : Bool) → some_below (λ r. f r && g r) 33 ≡ s → Dec (bit_and a b ≡ 0) → not (eqb (bit_and a b) 0) ≡ s
    go s e (yes z) = ap not (eq-eqb (bit_and a b) 0 z) ∙ sym (sym e ∙ clear z)
    go true e (no z) = ap not (ne_eqb (bit_and a b) 0 z)
    go false e (no z) = absurd (z (none e))

-- a mask of what t names, where t is u
pub mask_at : {T : Type 0} (names : T → ℕ → Bool) {t u : T} {n : ℕ} → t ≡ u → Mask (names u) n → Mask (names t) n
mask_at names {t} {u} {n} e m = subst (λ x. Mask (names x) n) (sym e) m
