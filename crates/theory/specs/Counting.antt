-- Counting in a list of numbers, and the descendants of a process among identifiers. Assumes nothing.
use Rattle.std.specs.Prelude.{◌≡◌, refl, ◌⊎◌, ◌≢◌, Bool, true, false, ◌||◌, List, [], ◌∷◌, ℕ, zero, suc, ◌+◌, ◌*◌, ◌≤◌, ◌/◌, ◌%◌, eqb, length}
use Rattle.std.proofs.Common.{sym, ap, ◌∙◌, subst, inl, inr, arith}
use Rattle.std.proofs.Math.Decide.{ℕ_discrete}
use Rattle.theory.specs.Tests.{true_false, eqb_same, eqb-other, eqb-eq, or_left, or_right, or_cases}
use Rattle.theory.specs.Local.{is_kid, kid-facts}

abbrev pub AllOf : (ℕ → Type 0) → List ℕ → Type 0
AllOf P [] = Unit {0}
AllOf P (x ∷ l) = P x × AllOf P l

abbrev pub Distinct : List ℕ → Type 0
Distinct [] = Unit {0}
Distinct (x ∷ l) = AllOf (λ y. y ≢ x) l × Distinct l

abbrev pub sum_to : (ℕ → ℕ) → ℕ → ℕ
sum_to f zero = 0
sum_to f (suc n) = f (suc n) + sum_to f n

abbrev pub one : Bool → ℕ
one true = 1
one false = 0

abbrev pub count_in : (ℕ → Bool) → List ℕ → ℕ
count_in f [] = 0
count_in f (x ∷ l) = one (f x) + count_in f l

abbrev pub some_to : (ℕ → Bool) → ℕ → Bool
some_to f zero = false
some_to f (suc n) = f (suc n) || some_to f n

-- x is p, or a descendant of p at most d levels down
abbrev pub descends : ℕ → ℕ → ℕ → Bool
descends zero p x = eqb x p
descends (suc d) p x = eqb x p || some_to (λ i. descends d (16 * p + i) x) 8

one-or : (a b : Bool) → one (a || b) ≤ one a + one b
one-or true b = omega arith
one-or false b = omega arith

pub count-or : (f g : ℕ → Bool) (l : List ℕ) → count_in (λ x. f x || g x) l ≤ count_in f l + count_in g l
count-or f g [] = omega arith
count-or f g (x ∷ l) = omega (arith, one-or (f x) (g x), count-or f g l)

pub count_none : (f : ℕ → Bool) (l : List ℕ) → AllOf (λ x. f x ≡ false) l → count_in f l ≡ 0
count_none f [] h = refl
count_none f (x ∷ l) h = rw (h.0, count_none f l h.1) (omega arith)

pub count-all : (f : ℕ → Bool) (l : List ℕ) → AllOf (λ x. f x ≡ true) l → count_in f l ≡ length l
count-all f [] h = refl
count-all f (x ∷ l) h = rw h.0 (omega (arith, count-all f l h.1))

pub count-any : (f : ℕ → ℕ → Bool) (n : ℕ) (l : List ℕ) → count_in (λ x. some_to (λ i. f i x) n) l ≤ sum_to (λ i. count_in (f i) l) n
count-any f zero l = zeros l
  where
    zeros : (l : List ℕ) → count_in (λ x. false) l ≤ 0
    zeros [] = omega arith
    zeros (x ∷ l) = omega (arith, zeros l)
count-any f (suc n) l = omega (arith, count-or (f (suc n)) (λ x. some_to (λ i. f i x) n) l, count-any f n l)

pub all_map : (P Q : ℕ → Type 0) → ((x : ℕ) → P x → Q x) → (l : List ℕ) → AllOf P l → AllOf Q l
all_map P Q f [] h = tt
all_map P Q f (x ∷ l) h = (f x h.0, all_map P Q f l h.1)

pub count-one : (p : ℕ) (l : List ℕ) → Distinct l → count_in (λ x. eqb x p) l ≤ 1
count-one p [] h = omega arith
count-one p (x ∷ l) h = go (count-one p l h.1) (ℕ_discrete x p)
  where
    go : count_in (λ x. eqb x p) l ≤ 1 → Dec (x ≡ p) → count_in (λ x. eqb x p) (x ∷ l) ≤ 1
    go ih (yes e) =
        let z : count_in (λ x. eqb x p) l ≡ 0 =
        count_none (λ x. eqb x p) l (all_map (λ y. y ≢ x) (λ y. eqb y p ≡ false) (λ y n. eqb-other y p (λ q. n (q ∙ sym e))) l h.0) in
        rw (eqb_same x p e) (omega (arith, z))
    go ih (no n) = rw (eqb-other x p n) (omega (arith, ih))

pub sum-le : (f g : ℕ → ℕ) (n : ℕ) → ((i : ℕ) → 1 ≤ i → i ≤ n → f i ≤ g i) → sum_to f n ≤ sum_to g n
sum-le f g zero h = omega arith
sum-le f g (suc n) h = omega (arith, h (suc n) (omega arith) (omega arith), sum-le f g n (λ i lo hi. h i lo (omega arith)))

pub sum-zero : (f : ℕ → ℕ) (n : ℕ) → ((i : ℕ) → 1 ≤ i → i ≤ n → f i ≡ 0) → sum_to f n ≡ 0
sum-zero f zero h = refl
sum-zero f (suc n) h = omega (arith, h (suc n) (omega arith) (omega arith), sum-zero f n (λ i lo hi. h i lo (omega arith)))

some_at : (f : ℕ → Bool) (n i : ℕ) → 1 ≤ i → i ≤ n → f i ≡ true → some_to f n ≡ true
some_at f zero i lo hi h = absurd (omega arith)
some_at f (suc n) i lo hi h = go (λ k. some_at f n i lo k h) (ℕ_discrete i (suc n))
  where
    go : (i ≤ n → some_to f n ≡ true) → Dec (i ≡ suc n) → some_to f (suc n) ≡ true
    go ih (yes e) = or_left (f (suc n)) (some_to f n) (ap f (sym e) ∙ h)
    go ih (no d) = or_right (f (suc n)) (some_to f n) (ih (omega arith))

at_some : (f : ℕ → Bool) (n : ℕ) → some_to f n ≡ true → (i : ℕ) × (1 ≤ i) × (i ≤ n) × (f i ≡ true)
at_some f zero h = absurd (true_false h refl)
at_some f (suc n) h = go (or_cases (f (suc n)) (some_to f n) h) (λ k. at_some f n k)
  where
    go :
        (f (suc n) ≡ true) ⊎ (some_to f n ≡ true) → (some_to f n ≡ true → (i : ℕ) × (1 ≤ i) × (i ≤ n) × (f i ≡ true)) →
        (i : ℕ) × (1 ≤ i) × (i ≤ suc n) × (f i ≡ true)
    go (inl x) ih = (suc n, omega arith, omega arith, x)
    go (inr x) ih = let y = ih x in (y.0, y.1, omega (arith, y.2), y.3)

descends-self : (d p : ℕ) → descends d p p ≡ true
descends-self zero p = eqb_same p p refl
descends-self (suc d) p = or_left (eqb p p) (some_to (λ i. descends d (16 * p + i) p) 8) (eqb_same p p refl)

descends-more : (d p x : ℕ) → descends d p x ≡ true → descends (suc d) p x ≡ true
descends-more zero p x h = or_left (eqb x p) (some_to (λ i. descends zero (16 * p + i) x) 8) h
descends-more (suc d) p x h = go (or_cases (eqb x p) (some_to (λ i. descends d (16 * p + i) x) 8) h) (λ q k. descends-more d q x k)
  where
    go :
        (eqb x p ≡ true) ⊎ (some_to (λ i. descends d (16 * p + i) x) 8 ≡ true) → ((q : ℕ) → descends d q x ≡ true → descends (suc d) q x ≡ true) →
        descends (suc (suc d)) p x ≡ true
    go (inl e) ih = or_left (eqb x p) (some_to (λ i. descends (suc d) (16 * p + i) x) 8) e
    go (inr e) ih =
        let y = at_some (λ i. descends d (16 * p + i) x) 8 e in
        or_right (eqb x p) (some_to (λ i. descends (suc d) (16 * p + i) x) 8)
        (some_at (λ i. descends (suc d) (16 * p + i) x) 8 y.0 y.1 y.2 (ih (16 * p + y.0) y.3))

descends-up : (n d p x : ℕ) → descends d p x ≡ true → descends (n + d) p x ≡ true
descends-up zero d p x h = let e : d ≡ zero + d = omega arith in subst (λ k. descends k p x ≡ true) e h
descends-up (suc n) d p x h =
    let e : suc (n + d) ≡ suc n + d = omega arith in subst (λ k. descends k p x ≡ true) e (descends-more (n + d) p x (descends-up n d p x h))

-- a child of a descendant
pub descends-kid : (d p y x : ℕ) → is_kid y x ≡ true → descends d p y ≡ true → descends (suc d) p x ≡ true
descends-kid zero p y x k h =
    let e = eqb-eq y p h in
    let f = kid-facts y x k in
    let w : x ≡ 16 * p + x % 16 = omega (arith, f.2, e) in
    or_right (eqb x p) (some_to (λ i. eqb x (16 * p + i)) 8)
    (some_at (λ i. eqb x (16 * p + i)) 8 (x % 16) f.0 f.1 (eqb_same x (16 * p + x % 16) w))
descends-kid (suc d) p y x k h = go (or_cases (eqb y p) (some_to (λ i. descends d (16 * p + i) y) 8) h) (λ q j. descends-kid d q y x k j)
  where
    f : (1 ≤ x % 16) × (x % 16 ≤ 8) × (x / 16 ≡ y)
    f = kid-facts y x k

    go :
        (eqb y p ≡ true) ⊎ (some_to (λ i. descends d (16 * p + i) y) 8 ≡ true) → ((q : ℕ) → descends d q y ≡ true → descends (suc d) q x ≡ true) →
        descends (suc (suc d)) p x ≡ true
    go (inl e) ih =
        let e' = eqb-eq y p e in
        let w : x ≡ 16 * p + x % 16 = omega (arith, f.2, e') in
        or_right (eqb x p) (some_to (λ i. descends (suc d) (16 * p + i) x) 8)
        (some_at (λ i. descends (suc d) (16 * p + i) x) 8 (x % 16) f.0 f.1
        (subst (λ z. descends (suc d) z x ≡ true) w (descends-self (suc d) x)))
    go (inr e) ih =
        let z = at_some (λ i. descends d (16 * p + i) y) 8 e in
        or_right (eqb x p) (some_to (λ i. descends (suc d) (16 * p + i) x) 8)
        (some_at (λ i. descends (suc d) (16 * p + i) x) 8 z.0 z.1 z.2 (ih (16 * p + z.0) z.3))
