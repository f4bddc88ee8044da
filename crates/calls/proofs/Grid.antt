-- Words that are made bit by bit, and grids whose rows are made one by one. Assumes nothing.
use mathlib.Core.Path.{◌≡◌, refl, sym, ap, subst, ◌∙◌}
use mathlib.Core.Bool.{Bool, true, false}
use mathlib.Core.List.{List}
use Prim.Native.Nat.{ℕ, zero, suc, ◌+◌, ◌*◌, ◌/◌, ◌%◌, ◌^◌, ◌<◌, ◌≤◌, max}
use native.Mathlib.Nat.{div-div-eq-div-mul, pow-succ', pow-zero, div-one, zero-div}
use native.Mathlib.Omega.{arith}
use native.Mathlib.Numerals.{add-one}
use native.Mathlib.Decide.{ℕ_discrete, dec_lt}
use lib.Pow.{pow_mono, pow-lt}
use lib.ListN.{get_or, set, replicate, length}
use lib.Seq.{get_or-set_same, get_or-set_other}
use lib.Dec.{eqb}
use borrow.Author.Tests.{eq-eqb, ne_eqb}
use Rattle.std.proofs.lemmas.Nat.{pow_pos}
use Rattle.std.proofs.lemmas.Nat.Bits.{bit_at-pow_same, bit_at-pow_other, bit_at_above}
use Rattle.std.proofs.lemmas.List.{get_or-replicate}
use mir.Val.{bool_byte}
use lib.Bits.{bit_or, or_lt, or_shr, or_step}
use Rattle.rules.specs.Format.{most_blocks}
use Rattle.rules.specs.Value.{flag}
use Rattle.rules.specs.Calls.{Calling, reaches_over, reaches, bad14}
use Rattle.laws.specs.CallTable.{calling_from}
use Rattle.laws.proofs.CallTable.{calls-length}
use Rattle.calls.specs.Grid.{bit_of, cell, Word, Members, Joined, RowsDone, added, Reaching}
use Rattle.laws.proofs.Tests.{flag-or_and}

-- ---- bits
bit-first : (w v : ℕ) → v ≤ 1 → bit_of (2 * w + v) 0 ≡ v
bit-first w v h = rw (pow-zero 2, div-one (2 * w + v)) (omega arith)

bit-next : (w v k : ℕ) → v ≤ 1 → bit_of (2 * w + v) (suc k) ≡ bit_of w k
bit-next w v k h =
    let half : (2 * w + v) / 2 ≡ w = omega arith in
    ap (λ (x : ℕ). x % 2)
    (ap (λ (x : ℕ). (2 * w + v) / x) (pow-succ' 2 k) ∙ sym (div-div-eq-div-mul (2 * w + v) 2 (2 ^ k)) ∙ ap (λ (x : ℕ). x / 2 ^ k) half)

bit-small : (w k : ℕ) → bit_of w k ≤ 1
bit-small w k = omega arith

bit-or : (a b k : ℕ) → bit_of (bit_or a b) k ≡ max (bit_of a k) (bit_of b k)
bit-or a b k =
    let s = or_step (a / 2 ^ k) (b / 2 ^ k) in
    ap (λ (x : ℕ). x % 2) (or_shr a b k) ∙ omega arith

-- a truth as a bit
pub bit_small : (b : Bool) → bool_byte b ≤ 1
bit_small true = omega arith
bit_small false = omega arith

pub bit_flag : (b : Bool) → bool_byte b ≡ flag b
bit_flag true = refl
bit_flag false = refl

-- ---- a word, the last bit first
pub word_none : (f : ℕ → ℕ) (k many : ℕ) → many ≡ 0 → Word f k many 0
word_none f k many e = rw e (record { fits = rw (pow-zero 2) (omega arith); each = λ j l. absurd (omega arith) })

pub word_more : (f : ℕ → ℕ) (k many w v : ℕ) → Word f (k + 1) many w → v ≡ f k → v ≤ 1 → Word f k (suc many) (2 * w + v)
word_more f k many w v h e l =
    let p = h.fits in
    record { fits = rw (pow-succ' 2 many) (omega arith); each = at }
  where
    at : (j : ℕ) → j < suc many → bit_of (2 * w + v) j ≡ f (k + j)
    at zero q = bit-first w v l ∙ e ∙ ap f (omega arith)
    at (suc j) q = bit-next w v j l ∙ h.each j (omega arith) ∙ ap f (omega arith)

-- no bit at all, and the bits of two words
pub word_zero : (f : ℕ → ℕ) (many : ℕ) → ((j : ℕ) → f j ≡ 0) → Word f 0 many 0
word_zero f many z =
    record {
      fits = pow_pos many;
      each = λ j l. ap (λ (x : ℕ). x % 2) (zero-div (2 ^ j)) ∙ sym (z (0 + j));
    }

pub word_or : (f g h : ℕ → ℕ) (many v w : ℕ) → Word f 0 many v → Word g 0 many w → ((j : ℕ) → h j ≡ max (f j) (g j)) → Word h 0 many (bit_or v w)
word_or f g h many v w a b e =
    record {
      fits = or_lt many v w a.fits b.fits;
      each = λ j l. bit-or v w j ∙ rw (a.each j l, b.each j l) (sym (e (0 + j)));
    }

-- one bit more on top: it is set, or it is not
pub word_with : (f : ℕ → ℕ) (many w : ℕ) → Word f 0 many w → f many ≡ 1 → Word f 0 (many + 1) (bit_or w (2 ^ many))
word_with f many w h e =
    let less : 2 ^ many < 2 ^ (many + 1) = pow-lt (omega arith) in
    record { fits = or_lt (many + 1) w (2 ^ many) (omega (arith, h.fits, less)) less; each = λ j l. at j (dec_lt j many) l }
  where
    at : (j : ℕ) → Dec (j < many) → j < many + 1 → bit_of (bit_or w (2 ^ many)) j ≡ f (0 + j)
    at j (yes k) l =
        let none = bit_at-pow_other many j (λ e. omega (arith, e, k)) in
        bit-or w (2 ^ many) j ∙ (let s = h.each j k in rw (s, none) (omega arith))
    at j (no k) l =
        let here : j ≡ many = omega arith in
        let set = bit_at-pow_same many in
        let small = bit-small w j in
        bit-or w (2 ^ many) j ∙ rw here (rw set (omega (arith, small))) ∙ sym e ∙ ap f (omega arith)

pub word_without : (f : ℕ → ℕ) (many w : ℕ) → Word f 0 many w → f many ≡ 0 → Word f 0 (many + 1) w
word_without f many w h e =
    let less : 2 ^ many < 2 ^ (many + 1) = pow-lt (omega arith) in
    record { fits = omega (arith, h.fits, less); each = λ j l. at j (dec_lt j many) l }
  where
    at : (j : ℕ) → Dec (j < many) → j < many + 1 → bit_of w j ≡ f (0 + j)
    at j (yes k) l = h.each j k
    at j (no k) l =
        let here : j ≡ many = omega arith in
        bit_at_above w many j h.fits (omega (arith, here)) ∙ sym e ∙ ap f (omega arith)

-- one block more among the members of its label
pub members-none : (homes : List ℕ) → Members homes 0 (replicate 256 0)
members-none homes = λ l k. subst (λ (x : ℕ). Word (λ c. flag (eqb l (get_or homes c 0))) 0 0 x) (sym (get_or-replicate 256 l 0 0 k)) (word_none _ 0 0 refl)

pub members-more : (homes table : List ℕ) (c h : ℕ) → h < length table → h ≡ get_or homes c 0 → Members homes c table
    → Members homes (c + 1) (set table h (bit_or (get_or table h 0) (2 ^ c)))
members-more homes table c h k e m = λ l q. at l q (ℕ_discrete l h)
  where
    at : (l : ℕ) → l < 256 → Dec (l ≡ h) → Word (λ x. flag (eqb l (get_or homes x 0))) 0 (c + 1) (get_or (set table h (bit_or (get_or table h 0) (2 ^ c))) l 0)
    at l q (yes p) =
        rw (p, get_or-set_same table h (bit_or (get_or table h 0) (2 ^ c)) 0 k)
        (word_with (λ x. flag (eqb h (get_or homes x 0))) c (get_or table h 0) (rw p at (m l q)) (ap flag (eq-eqb h (get_or homes c 0) e)))
    at l q (no n) =
        rw (get_or-set_other table h l (bit_or (get_or table h 0) (2 ^ c)) 0 n)
        (word_without (λ x. flag (eqb l (get_or homes x 0))) c (get_or table l 0) (m l q) (ap flag (ne_eqb l (get_or homes c 0) (λ z. n (z ∙ sym e)))))

-- one bit more has room
pub word_room : (f : ℕ → ℕ) (k many w : ℕ) → Word f k many w → many < most_blocks → 2 * w + 1 < 2 ^ 128
word_room f k many w h l =
    let p = h.fits in
    let q : 2 ^ suc many ≤ 2 ^ 128 = pow_mono {i = suc many} {j = 128} (omega arith) in
    let r : 2 ^ suc many ≡ 2 * 2 ^ many = pow-succ' 2 many in
    omega arith

pub word_at : {f : ℕ → ℕ} {k j many few w : ℕ} → k ≡ j → many ≡ few → Word f k many w → Word f j few w
word_at {f} {k} {j} {many} {few} {w} e d h = subst (λ (x : ℕ). Word f x few w) e (subst (λ (x : ℕ). Word f k x w) d h)

-- ---- a row with what block m adds
pub joined_on : (row m row_of_m : ℕ) → bit_of row m ≡ 1 → Joined row m row_of_m (bit_or row row_of_m)
joined_on row m row_of_m e =
    record { each = λ c. bit-or row row_of_m c ∙ (let s = bit-small row_of_m c in rw e (omega arith)) }

-- ---- what is reached
-- the rows tell what is reached over one block more
pub reaching_more : (t : Calling) (n m : ℕ) (grid new : List ℕ) → m < n → Reaching t n m grid
    → RowsDone (added grid m) grid n n new → Reaching t n (m + 1) new
unfolding reaches_over
reaching_more t n m grid new lm h d =
    record {
      each =
          λ b c lb lc.
          d.done b c lb lc
          ∙ rw (h.each b c lb lc, h.each b m lb lm, h.each m c lm lc)
          (rw (add-one m) (sym (flag-or_and (reaches_over t m b c) (reaches_over t m b m) (reaches_over t m m c))));
    }

-- ---- the diagonal tells where code 14 is given
pub diagonal : (homes counts names : List ℕ) (n : ℕ) (grid : List ℕ) (b : ℕ) (v : Bool) → Reaching (calling_from homes counts names n) n n grid
    → b < n → cell grid b b ≡ flag v → bad14 (calling_from homes counts names n) b ≡ v
unfolding bad14 reaches
diagonal homes counts names n grid b v h lb e =
    same (bad14 (calling_from homes counts names n) b) v (rw (calls-length counts names n) (sym (h.each b b lb lb)) ∙ e)
  where
    same : (u w : Bool) → flag u ≡ flag w → u ≡ w
    same true true e = refl
    same false false e = refl
    same true false e = absurd (omega arith)
    same false true e = absurd (omega arith)
