-- Tests on numbers and truth values, as facts. Assumes nothing.
use Rattle.std.specs.Prelude.{◌≡◌, refl, ◌⊎◌, ◌≢◌, ℕ, T, eqb}
use Rattle.std.proofs.Common.{sym, subst, inl, inr, eqb→eq}
use mathlib.Core.Bool.{Bool, true, false, ◌&&◌, ◌||◌}
use Rattle.std.proofs.Math.Option.{Option, none, some}
use Rattle.std.proofs.Math.Dec.{eqb_refl}

-- a test on numbers, as facts
pub bool_cases : (b : Bool) → (b ≡ true) ⊎ (b ≡ false)
bool_cases true = inl refl
bool_cases false = inr refl

pub true_false : {b : Bool} → b ≡ true → b ≡ false → ⊥
true_false {b} h k = let z : ◌≡◌ {A = Bool} true false = cc in mathlib.Core.Bool.true≢false z

pub T_true : (b : Bool) → T b → b ≡ true
T_true true t = refl
T_true false t = absurd t

pub true_T : (b : Bool) → b ≡ true → T b
true_T true t = tt
true_T false t = absurd (true_false t refl)

pub eqb_same : (p q : ℕ) → p ≡ q → eqb p q ≡ true
eqb_same p q e = rw e (T_true (eqb q q) (eqb_refl q))

pub eqb-other : (p q : ℕ) → p ≢ q → eqb p q ≡ false
eqb-other p q n = go (bool_cases (eqb p q))
  where
    go : (eqb p q ≡ true) ⊎ (eqb p q ≡ false) → eqb p q ≡ false
    go (inl t) = absurd (n (eqb→eq p q (true_T (eqb p q) t)))
    go (inr f) = f

pub and-true : (a b : Bool) → (a && b) ≡ true → (a ≡ true) × (b ≡ true)
and-true true b h = (refl, h)
and-true false b h = absurd (true_false h refl)

pub true_and : (a b : Bool) → a ≡ true → b ≡ true → (a && b) ≡ true
true_and a b x y = rw (x, y)

pub eqb-eq : (p q : ℕ) → eqb p q ≡ true → p ≡ q
eqb-eq p q h = eqb→eq p q (true_T (eqb p q) h)

pub or_cases : (a b : Bool) → (a || b) ≡ true → (a ≡ true) ⊎ (b ≡ true)
or_cases true b h = inl refl
or_cases false b h = inr h

pub or_left : (a b : Bool) → a ≡ true → (a || b) ≡ true
or_left a b h = rw h

pub or_right : (a b : Bool) → b ≡ true → (a || b) ≡ true
or_right true b h = refl
or_right false b h = h

pub or-false : (a b : Bool) → (a || b) ≡ false → (a ≡ false) × (b ≡ false)
or-false true b h = absurd (true_false refl h)
or-false false b h = (refl, h)

pub not_true : (b : Bool) → (b ≡ true → ⊥) → b ≡ false
not_true true h = absurd (h refl)
not_true false h = refl

abbrev Filled : {A : Type 0} → Option A → Type 0
Filled none = ⊥
Filled (some a) = Unit {0}

pub none-some : {A : Type 0} {a : A} → Path (Option A) none (some a) → ⊥
none-some h = subst Filled (sym h) tt

pub some_inj : {X : Type 0} (x y : X) → Path (Option X) (some x) (some y) → x ≡ y
some_inj x y h = cc
