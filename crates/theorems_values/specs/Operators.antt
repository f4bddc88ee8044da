-- Every operator, `!` and every update makes of words just the word that it means of their signed numbers (rules' Meaning), and no other word is
-- meant. Assumes of the words that they are below 2 ^ 32.
use Rattle.std.specs.Prelude.{ℕ, zero, suc, ◌+◌, ◌*◌, ◌-◌, ◌/◌, ◌%◌, ◌^◌, ◌<◌, ◌≤◌, ◌≡◌, refl, ◌⊎◌, ◌≢◌, Bool, true, false, not, ◌&&◌, ◌||◌}
use Rattle.std.specs.Prelude.{ltb, eqb, ℤ, negsuc, ◌+ℤ◌}
use Rattle.std.proofs.Common.{sym, ap₂, ◌∙◌, subst, div-add-mod', pow-suc, mul_comm, arith, ltb-true, ltb-false, leb-true, lt-ltb, le-ltb}
use Rattle.std.proofs.Common.{le-leb, eqb-true}
use Rattle.std.proofs.Math.Path.{ap}
use Rattle.std.proofs.Math.Logic.{inl, inr}
use Rattle.std.proofs.Math.Nat.{div-div-eq-div-mul}
use Rattle.std.proofs.Math.Arith.{bin_ind}
use Rattle.std.proofs.Math.IntN.{pos, sub_ℕ}
use Rattle.std.specs.Int.Signed.{lt_z, le_z}
use Rattle.std.specs.Int.Bits.{bit_xor}
use Rattle.std.proofs.lemmas.Nat.{xor_shr, xor_mod}
use Rattle.std.proofs.lemmas.Bool.{eqb-false, not-false}
use Rattle.theory.specs.Tests.{bool_cases, true_false, and-true, or_cases, or-false}
use Rattle.rules.specs.Base.{pick}
use Rattle.rules.specs.Value.{span, signed, word_of, truth, flag, less, at_most, negated, applied, changed}
use Rattle.rules.specs.Meaning.{TruthOf, AtMost, Below, IsTrue, bit, Bits, Means, ChangeMeans}
use Rattle.rules.specs.declared.Operator.{Operator}
use Rattle.rules.specs.declared.Change.{Change}
use Rattle.laws.proofs.Words.{xor_below}
use Rattle.laws.proofs.Signed.{word-signed, plus-signed, minus-signed}

-- ---- tests that decide them
gives : (b : Bool) (P : Type 0) → (b ≡ true → P) → (b ≡ false → P → ⊥) → TruthOf P (flag b)
gives true P f g = inl (refl, f refl)
gives false P f g = inr (refl, g refl)

-- the sum of a negative number and a natural
sub_low : (a b : ℕ) → a < b → sub_ℕ a b ≡ negsuc (b - suc a)
sub_low a b h = rw (lt-ltb a b h)

sub_high : (a b : ℕ) → b ≤ a → sub_ℕ a b ≡ pos (a - b)
sub_high a b h = rw (le-ltb a b h)

at-most_is : (x y : ℤ) → le_z x y ≡ true → AtMost x y
at-most_is (pos a) (pos b) h = let le : a ≤ b = leb-true a b h in (b - a, ap pos (omega arith))
at-most_is (pos a) (negsuc b) h = absurd (true_false h refl)
at-most_is (negsuc a) (pos b) h = (suc (a + b), sym (sub_high (suc (a + b)) (suc a) (omega arith) ∙ ap pos (omega arith)))
at-most_is (negsuc a) (negsuc b) h =
    let le : b ≤ a = leb-true b a h in (a - b, sym (sub_low (a - b) (suc a) (omega arith) ∙ ap negsuc (omega arith)))

below-is : (x y : ℤ) → lt_z x y ≡ true → Below x y
below-is (pos a) (pos b) h = let lt : a < b = ltb-true a b h in (b - a - 1, ap pos (omega arith))
below-is (pos a) (negsuc b) h = absurd (true_false h refl)
below-is (negsuc a) (pos b) h = (a + b, sym (sub_high (suc (a + b)) (suc a) (omega arith) ∙ ap pos (omega arith)))
below-is (negsuc a) (negsuc b) h =
    let lt : b < a = ltb-true b a h in (a - b - 1, sym (sub_low (suc (a - b - 1)) (suc a) (omega arith) ∙ ap negsuc (omega arith)))

is-at_most : (x : ℤ) (n : ℕ) → le_z x (x +ℤ pos n) ≡ true
is-at_most (pos a) n = le-leb a (a + n) (omega arith)
is-at_most (negsuc a) n = go (ltb n (suc a)) refl
  where
    go : (t : Bool) → ltb n (suc a) ≡ t → le_z (negsuc a) (sub_ℕ n (suc a)) ≡ true
    go true e = let lt : n < suc a = ltb-true n (suc a) e in ap (le_z (negsuc a)) (sub_low n (suc a) lt) ∙ le-leb (suc a - suc n) a (omega arith)
    go false e = let le : suc a ≤ n = ltb-false n (suc a) e in ap (le_z (negsuc a)) (sub_high n (suc a) le)

is_below : (x : ℤ) (n : ℕ) → lt_z x (x +ℤ pos (suc n)) ≡ true
is_below (pos a) n = lt-ltb a (a + suc n) (omega arith)
is_below (negsuc a) n = go (ltb (suc n) (suc a)) refl
  where
    go : (t : Bool) → ltb (suc n) (suc a) ≡ t → lt_z (negsuc a) (sub_ℕ (suc n) (suc a)) ≡ true
    go true e =
        let lt : suc n < suc a = ltb-true (suc n) (suc a) e in
        ap (lt_z (negsuc a)) (sub_low (suc n) (suc a) lt) ∙ lt-ltb (suc a - suc (suc n)) a (omega arith)
    go false e = let le : suc a ≤ suc n = ltb-false (suc n) (suc a) e in ap (lt_z (negsuc a)) (sub_high (suc n) (suc a) le)

order-gives : (x y : ℤ) → TruthOf (Below x y) (flag (lt_z x y))
order-gives x y =
    gives (lt_z x y) (Below x y) (below-is x y)
    (λ no b. true_false (ap (lt_z x) b.1 ∙ is_below x b.0) no)

order-within : (x y : ℤ) → TruthOf (AtMost x y) (flag (le_z x y))
order-within x y =
    gives (le_z x y) (AtMost x y) (at-most_is x y)
    (λ no b. true_false (ap (le_z x) b.1 ∙ is-at_most x b.0) no)

-- ---- words that are equal, or zero
module _ (a b : ℕ) (ha : a < span) (hb : b < span) where
  same_number : signed a ≡ signed b → a ≡ b
  same_number e = sym (word-signed a ha) ∙ ap word_of e ∙ word-signed b hb

  equal_gives : TruthOf (signed a ≡ signed b) (flag (eqb a b))
  equal_gives = gives (eqb a b) (signed a ≡ signed b) (λ h. ap signed (eqb-true a b h)) (λ h e. eqb-false a b h (same_number e))

  unequal_gives : TruthOf (signed a ≢ signed b) (flag (not (eqb a b)))
  unequal_gives = go (bool_cases (eqb a b))
    where
      go : (eqb a b ≡ true) ⊎ (eqb a b ≡ false) → TruthOf (signed a ≢ signed b) (flag (not (eqb a b)))
      go (inl h) = inr (ap (λ (t : Bool). flag (not t)) h, λ n. n (ap signed (eqb-true a b h)))
      go (inr h) = inl (ap (λ (t : Bool). flag (not t)) h, λ e. eqb-false a b h (same_number e))

signed-zero : signed 0 ≡ pos 0
unfolding signed pick
signed-zero = refl

module _ (a : ℕ) (ha : a < span) where
  zero_number : signed a ≡ pos 0 → a ≡ 0
  zero_number e = sym (word-signed a ha) ∙ ap word_of e

  truth-holds : truth a ≡ true → IsTrue (signed a)
  truth-holds h e = true_false h (ap truth (zero_number e))

  holds-truth : truth a ≡ false → IsTrue (signed a) → ⊥
  holds-truth h n = n (ap signed (eqb-true a 0 (not-false (eqb a 0) h)) ∙ signed-zero)

  -- !a is 1 where the number is 0, else 0.
  pub not_means : TruthOf (signed a ≡ pos 0) (negated a)
  unfolding negated
  not_means = go (bool_cases (truth a))
    where
      go : (truth a ≡ true) ⊎ (truth a ≡ false) → TruthOf (signed a ≡ pos 0) (flag (not (truth a)))
      go (inl h) = inr (ap (λ (t : Bool). flag (not t)) h, truth-holds h)
      go (inr h) = inl (ap (λ (t : Bool). flag (not t)) h, ap signed (eqb-true a 0 (not-false (eqb a 0) h)) ∙ signed-zero)

-- ---- bits
one_bit : (x y : ℕ) → x < 2 → y < 2 → TruthOf (x ≢ y) (bit_xor x y)
one_bit zero zero hx hy = inr (refl, λ n. n refl)
one_bit zero (suc zero) hx hy = inl (refl, λ e. omega (arith, e))
one_bit (suc zero) zero hx hy = inl (refl, λ e. omega (arith, e))
one_bit (suc zero) (suc zero) hx hy = inr (refl, λ n. n refl)
one_bit zero (suc (suc y)) hx hy = absurd (omega arith)
one_bit (suc zero) (suc (suc y)) hx hy = absurd (omega arith)
one_bit (suc (suc x)) y hx hy = absurd (omega arith)

each-bit : (a b i : ℕ) → TruthOf (bit i a ≢ bit i b) (bit i (bit_xor a b))
each-bit a b i =
    let e : bit i (bit_xor a b) ≡ bit_xor (bit i a) (bit i b) = ap (λ (n : ℕ). n % 2) (xor_shr a b i) ∙ xor_mod (a / 2 ^ i) (b / 2 ^ i) 1 in
    subst (TruthOf (bit i a ≢ bit i b)) (sym e) (one_bit (bit i a) (bit i b) (omega arith) (omega arith))

xor-means : (a b : ℕ) → a < span → b < span → Bits (signed a) (signed b) (bit_xor a b)
xor-means a b ha hb =
    record {
      word = xor_below a b ha hb;
      each = λ i. subst (λ (x : ℕ). TruthOf (bit i x ≢ bit i (word_of (signed b))) (bit i (bit_xor a b))) (sym (word-signed a ha))
          (subst (λ (y : ℕ). TruthOf (bit i a ≢ bit i y) (bit i (bit_xor a b))) (sym (word-signed b hb)) (each-bit a b i));
    }

-- ---- the operators, `!` and the updates
-- Every operator makes of two words what it means of their signed numbers.
pub operators-mean : (o : Operator) (a b : ℕ) → a < span → b < span → Means o (signed a) (signed b) (applied o a b)
unfolding less at_most
operators-mean Operator.Add a b ha hb = plus-signed a b ha hb
operators-mean Operator.Subtract a b ha hb = minus-signed a b ha hb
operators-mean Operator.Xor a b ha hb = xor-means a b ha hb
operators-mean Operator.Equal a b ha hb = equal_gives a b ha hb
operators-mean Operator.Unequal a b ha hb = unequal_gives a b ha hb
operators-mean Operator.Less a b ha hb = order-gives (signed a) (signed b)
operators-mean Operator.AtMost a b ha hb = order-within (signed a) (signed b)
operators-mean Operator.Greater a b ha hb = order-gives (signed b) (signed a)
operators-mean Operator.AtLeast a b ha hb = order-within (signed b) (signed a)
operators-mean Operator.And a b ha hb =
    gives (truth a && truth b) (IsTrue (signed a) × IsTrue (signed b))
    (λ h. let x = and-true (truth a) (truth b) h in (truth-holds a ha x.0, truth-holds b hb x.1))
    (λ h n. go (bool_cases (truth a)) (bool_cases (truth b)) h n)
  where
    go :
        (truth a ≡ true) ⊎ (truth a ≡ false) → (truth b ≡ true) ⊎ (truth b ≡ false) → (truth a && truth b) ≡ false →
        IsTrue (signed a) × IsTrue (signed b) → ⊥
    go (inr x) y h n = holds-truth a ha x n.0
    go (inl x) (inr y) h n = holds-truth b hb y n.1
    go (inl x) (inl y) h n = true_false (ap₂ (λ (s t : Bool). s && t) x y) h
operators-mean Operator.Or a b ha hb =
    gives (truth a || truth b) (IsTrue (signed a) ⊎ IsTrue (signed b)) (λ h. go (or_cases (truth a) (truth b) h))
    (λ h n. let x = or-false (truth a) (truth b) h in none x n)
  where
    go : (truth a ≡ true) ⊎ (truth b ≡ true) → IsTrue (signed a) ⊎ IsTrue (signed b)
    go (inl x) = inl (truth-holds a ha x)
    go (inr x) = inr (truth-holds b hb x)

    none : (truth a ≡ false) × (truth b ≡ false) → IsTrue (signed a) ⊎ IsTrue (signed b) → ⊥
    none x (inl n) = holds-truth a ha x.0 n
    none x (inr n) = holds-truth b hb x.1 n

-- So does every update: += adds, -= subtracts, ^= works on the bits.
pub changes-mean : (c : Change) (a b : ℕ) → a < span → b < span → ChangeMeans c (signed a) (signed b) (changed c a b)
changes-mean Change.Add a b ha hb = plus-signed a b ha hb
changes-mean Change.Subtract a b ha hb = minus-signed a b ha hb
changes-mean Change.Xor a b ha hb = xor-means a b ha hb

-- ---- no other word is meant
truth-one : (P : Type 0) (v w : ℕ) → TruthOf P v → TruthOf P w → v ≡ w
truth-one P v w (inl a) (inl b) = a.0 ∙ sym b.0
truth-one P v w (inl a) (inr b) = absurd (b.1 a.1)
truth-one P v w (inr a) (inl b) = absurd (a.1 b.1)
truth-one P v w (inr a) (inr b) = a.0 ∙ sym b.0

-- the bits of a half are those one place up
bit_up : (i a : ℕ) → bit i (a / 2) ≡ bit (suc i) a
bit_up i a = ap (λ (n : ℕ). n % 2) (div-div-eq-div-mul a 2 (2 ^ i) ∙ ap (λ (n : ℕ). a / n) (mul_comm 2 (2 ^ i) ∙ sym (pow-suc 2 i)))

bit-low : (a : ℕ) → bit 0 a ≡ a % 2
bit-low a = ap (λ (n : ℕ). n % 2) (let one : a / 1 ≡ a = omega arith in one)

-- numbers with the same bits are the same
same_bits : (v w : ℕ) → ((i : ℕ) → bit i v ≡ bit i w) → v ≡ w
same_bits = bin_ind (λ (n : ℕ). (w : ℕ) → ((i : ℕ) → bit i n ≡ bit i w) → n ≡ w) none some
  where
    both : (n w : ℕ) → ((i : ℕ) → bit i n ≡ bit i w) → n / 2 ≡ w / 2 → n ≡ w
    both n w h e =
        sym (div-add-mod' n 2) ∙ ap₂ (λ (x y : ℕ). x * 2 + y) e (sym (bit-low n) ∙ h 0 ∙ bit-low w) ∙ div-add-mod' w 2

    halves : (n w : ℕ) → ((i : ℕ) → bit i n ≡ bit i w) → (i : ℕ) → bit i (n / 2) ≡ bit i (w / 2)
    halves n w h i = bit_up i n ∙ h (suc i) ∙ sym (bit_up i w)

    none : (w : ℕ) → ((i : ℕ) → bit i 0 ≡ bit i w) → 0 ≡ w
    none =
        bin_ind (λ (w : ℕ). ((i : ℕ) → bit i 0 ≡ bit i w) → 0 ≡ w) (λ h. refl)
        (λ w ih h. both 0 w h (ih (λ i. halves 0 w h i)))

    some : (n : ℕ) → ((w : ℕ) → ((i : ℕ) → bit i (n / 2) ≡ bit i w) → n / 2 ≡ w) → (w : ℕ) → ((i : ℕ) → bit i n ≡ bit i w) → n ≡ w
    some n ih w h = both n w h (ih (w / 2) (halves n w h))

means_one : (o : Operator) (x y : ℤ) (v w : ℕ) → Means o x y v → Means o x y w → v ≡ w
means_one Operator.Add x y v w a b = a ∙ sym b
means_one Operator.Subtract x y v w a b = a ∙ sym b
means_one Operator.Xor x y v w a b = same_bits v w (λ i. truth-one (bit i (word_of x) ≢ bit i (word_of y)) (bit i v) (bit i w) (a.each i) (b.each i))
means_one Operator.Equal x y v w a b = truth-one (x ≡ y) v w a b
means_one Operator.Unequal x y v w a b = truth-one (x ≢ y) v w a b
means_one Operator.Less x y v w a b = truth-one (Below x y) v w a b
means_one Operator.AtMost x y v w a b = truth-one (AtMost x y) v w a b
means_one Operator.Greater x y v w a b = truth-one (Below y x) v w a b
means_one Operator.AtLeast x y v w a b = truth-one (AtMost y x) v w a b
means_one Operator.And x y v w a b = truth-one (IsTrue x × IsTrue y) v w a b
means_one Operator.Or x y v w a b = truth-one (IsTrue x ⊎ IsTrue y) v w a b

change_one : (c : Change) (x y : ℤ) (v w : ℕ) → ChangeMeans c x y v → ChangeMeans c x y w → v ≡ w
change_one Change.Add = means_one Operator.Add
change_one Change.Subtract = means_one Operator.Subtract
change_one Change.Xor = means_one Operator.Xor

-- The word that is meant is the one that is made.
pub meant-applied : (o : Operator) (a b v : ℕ) → a < span → b < span → Means o (signed a) (signed b) v → v ≡ applied o a b
meant-applied o a b v ha hb m = means_one o (signed a) (signed b) v (applied o a b) m (operators-mean o a b ha hb)

pub meant-changed : (c : Change) (a b v : ℕ) → a < span → b < span → ChangeMeans c (signed a) (signed b) v → v ≡ changed c a b
meant-changed c a b v ha hb m = change_one c (signed a) (signed b) v (changed c a b) m (changes-mean c a b ha hb)
