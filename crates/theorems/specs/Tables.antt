-- Rows in ascending order as a table: what stands where after rows are moved, picked out and put in; two tables that say the
-- same of each identifier are equal. Assumes nothing.
use Rattle.std.specs.Prelude.{◌≡◌, ◌⊎◌, ◌≢◌, Bool, ℕ, suc, ◌<◌, ◌≤◌, length, eqb, ltb, leb}
use Rattle.std.proofs.Math.Path.{refl, sym, subst}
use Rattle.std.proofs.Common.{ap, ◌∙◌, inl, inr, arith, leb-true, eqb-true, ltb-true, ltb-false, lt-ltb}
use Rattle.std.proofs.Math.Bool.{true, false}
use Rattle.std.proofs.Math.Option.{Option, none, some}
use mathlib.Core.List.{List, [], ◌∷◌, ◌++◌}
use Rattle.std.proofs.Math.Decide.{ℕ_discrete, dec_lt}
use Rattle.theory.specs.Tests.{bool_cases, eqb_same, eqb-other, and-true, true_and, none-some, some_inj}
use Rattle.rules.specs.Base.{pick, those, each_of}
use Rattle.rules.specs.Machine.{Process, standing}
use Rattle.rules.specs.Fits.{ascending}
use Rattle.rules.specs.Step.{move_row}
use Rattle.rules.specs.declared.Place.{Place}
use Rattle.laws.proofs.Lists.{pick_true, pick-false}

abbrev pub row_at : ℕ → Place → Process
row_at x a = record { identifier = x; stands = a }

-- ---- order
abbrev pub Above : ℕ → List Process → Type 0
Above x [] = Unit {0}
Above x (r ∷ rows) = (x < r.identifier) × Above x rows

abbrev pub Sorted : List Process → Type 0
Sorted [] = Unit {0}
Sorted (r ∷ rows) = Above r.identifier rows × Sorted rows

above_lower : (rows : List Process) (x z : ℕ) → z ≤ x → Above x rows → Above z rows
above_lower [] x z h a = tt
above_lower (r ∷ rows) x z h a = (omega (arith, a.0), above_lower rows x z h a.1)

pub sorted_of : (rows : List Process) → ascending rows ≡ true → Sorted rows
unfolding ascending
sorted_of [] h = tt
sorted_of (r ∷ []) h = (tt, tt)
sorted_of (r ∷ s ∷ rows) h =
    let x = and-true (ltb r.identifier s.identifier) (ascending (s ∷ rows)) h in
    let y = sorted_of (s ∷ rows) x.1 in
    let l = ltb-true r.identifier s.identifier x.0 in
    ((l, above_lower rows s.identifier r.identifier (omega (arith, l)) y.0), y)

pub of_sorted : (rows : List Process) → Sorted rows → ascending rows ≡ true
unfolding ascending
of_sorted [] s = refl
of_sorted (r ∷ []) s = refl
of_sorted (r ∷ q ∷ rows) s =
    true_and (ltb r.identifier q.identifier) (ascending (q ∷ rows)) (lt-ltb r.identifier q.identifier s.0.0)
    (of_sorted (q ∷ rows) s.1)

-- ---- look-up
pub standing_here : (r : Process) (rows : List Process) (x : ℕ) → r.identifier ≡ x → standing (r ∷ rows) x ≡ some r.stands
unfolding standing
standing_here r rows x e = pick_true (eqb r.identifier x) (some r.stands) (standing rows x) (eqb_same r.identifier x e)

pub standing-past : (r : Process) (rows : List Process) (x : ℕ) → r.identifier ≢ x → standing (r ∷ rows) x ≡ standing rows x
unfolding standing
standing-past r rows x n = pick-false (eqb r.identifier x) (some r.stands) (standing rows x) (eqb-other r.identifier x n)

pub standing-none : (x : ℕ) → standing [] x ≡ none
unfolding standing
standing-none x = refl

pub standing-low : (rows : List Process) (x z : ℕ) → z ≤ x → Above x rows → standing rows z ≡ none
standing-low [] x z h a = standing-none z
standing-low (r ∷ rows) x z h a = standing-past r rows z (λ e. omega (arith, a.0, e)) ∙ standing-low rows x z h a.1

-- two sorted tables that say the same are equal
pub same_rows : (l l' : List Process) → Sorted l → Sorted l' → ((x : ℕ) → standing l x ≡ standing l' x) → l ≡ l'
same_rows [] [] s s' h = refl
same_rows [] (y ∷ l) s s' h = absurd (none-some (sym (standing-none y.identifier) ∙ h y.identifier ∙ standing_here y l y.identifier refl))
same_rows (y ∷ l) [] s s' h =
    absurd (none-some (sym (standing-none y.identifier) ∙ sym (h y.identifier) ∙ standing_here y l y.identifier refl))
same_rows (y ∷ l) (z ∷ l') s s' h = go (ℕ_discrete y.identifier z.identifier) (λ k. same_rows l l' s.1 s'.1 k)
  where
    rest : y.identifier ≡ z.identifier → (x : ℕ) → Dec (y.identifier ≡ x) → standing l x ≡ standing l' x
    rest e x (yes q) =
        standing-low l y.identifier x (omega (arith, q)) s.0 ∙ sym (standing-low l' z.identifier x (omega (arith, q, e)) s'.0)
    rest e x (no n) = sym (standing-past y l x n) ∙ h x ∙ standing-past z l' x (λ q. n (e ∙ q))

    low :
        (u v : Process) (t t' : List Process) → u.identifier < v.identifier → Above v.identifier t' →
        standing (u ∷ t) u.identifier ≡ standing (v ∷ t') u.identifier → ⊥
    low u v t t' lt a q =
        let n : standing (v ∷ t') u.identifier ≡ none =
        standing-past v t' u.identifier (λ e. omega (arith, lt, e)) ∙ standing-low t' v.identifier u.identifier (omega (arith, lt)) a in
        none-some (sym n ∙ sym q ∙ standing_here u t u.identifier refl)

    order : y.identifier ≢ z.identifier → Dec (y.identifier < z.identifier) → ⊥
    order n (yes lt) = low y z l l' lt s'.0 (h y.identifier)
    order n (no ge) = low z y l' l (omega (arith, ge, n)) s.0 (sym (h z.identifier))

    go : Dec (y.identifier ≡ z.identifier) → (((x : ℕ) → standing l x ≡ standing l' x) → l ≡ l') → y ∷ l ≡ z ∷ l'
    go (yes e) ih =
        let v : y.stands ≡ z.stands =
        some_inj y.stands z.stands
        (sym (standing_here y l y.identifier refl) ∙ h y.identifier ∙ standing_here z l' y.identifier (sym e)) in
        let r : l ≡ l' = ih (λ x. rest e x (ℕ_discrete y.identifier x)) in
        λ i. record { identifier = e i; stands = v i } ∷ r i
    go (no n) ih = absurd (order n (dec_lt y.identifier z.identifier))

-- what each row passes, and each that stands
pub each-standing :
    (g : Process → Bool) (rows : List Process) (x : ℕ) (a : Place) → each_of g rows ≡ true → standing rows x ≡ some a → g (row_at x a) ≡ true
unfolding each_of
each-standing g [] x a h e = absurd (none-some (sym (standing-none x) ∙ e))
each-standing g (r ∷ rows) x a h e = go (ℕ_discrete r.identifier x) (λ k. each-standing g rows x a (and-true (g r) (each_of g rows) h).1 k)
  where
    go : Dec (r.identifier ≡ x) → (standing rows x ≡ some a → g (row_at x a) ≡ true) → g (row_at x a) ≡ true
    go (yes q) ih =
        let s : r.stands ≡ a = some_inj r.stands a (sym (standing_here r rows x q) ∙ e) in
        let same : Path Process r (row_at x a) = λ i. record { identifier = q i; stands = s i } in
        subst (λ (k : Process). g k ≡ true) same (and-true (g r) (each_of g rows) h).0
    go (no n) ih = ih (sym (standing-past r rows x n) ∙ e)

pub standing-each :
    (g : Process → Bool) (rows : List Process) → Sorted rows → ((x : ℕ) (a : Place) → standing rows x ≡ some a → g (row_at x a) ≡ true) →
    each_of g rows ≡ true
unfolding each_of
standing-each g [] s h = refl
standing-each g (r ∷ rows) s h =
    true_and (g r) (each_of g rows) (h r.identifier r.stands (standing_here r rows r.identifier refl))
    (standing-each g rows s.1 (λ x a e. h x a (later x a e (ℕ_discrete r.identifier x))))
  where
    later : (x : ℕ) (a : Place) → standing rows x ≡ some a → Dec (r.identifier ≡ x) → standing (r ∷ rows) x ≡ some a
    later x a e (yes q) = absurd (none-some (sym (standing-low rows r.identifier x (omega (arith, q)) s.0) ∙ e))
    later x a e (no n) = standing-past r rows x n ∙ e

pub none-empty : (rows : List Process) → ((x : ℕ) → standing rows x ≡ none) → rows ≡ []
none-empty [] h = refl
none-empty (r ∷ rows) h = absurd (none-some (sym (h r.identifier) ∙ standing_here r rows r.identifier refl))

-- ---- moving a row
moved-id : (r : Process) (p : ℕ) (q : Place) → (pick (eqb r.identifier p) (row_at p q) r).identifier ≡ r.identifier
moved-id r p q = go (bool_cases (eqb r.identifier p))
  where
    go : (eqb r.identifier p ≡ true) ⊎ (eqb r.identifier p ≡ false) → (pick (eqb r.identifier p) (row_at p q) r).identifier ≡ r.identifier
    go (inl e) = ap (λ (k : Process). k.identifier) (pick_true (eqb r.identifier p) (row_at p q) r e) ∙ sym (eqb-true r.identifier p e)
    go (inr e) = ap (λ (k : Process). k.identifier) (pick-false (eqb r.identifier p) (row_at p q) r e)

move-above : (rows : List Process) (p : ℕ) (q : Place) (x : ℕ) → Above x rows → Above x (move_row rows p q)
unfolding move_row
move-above [] p q x a = tt
move-above (r ∷ rows) p q x a = (subst (λ (k : ℕ). x < k) (sym (moved-id r p q)) a.0, move-above rows p q x a.1)

pub move-sorted : (rows : List Process) (p : ℕ) (q : Place) → Sorted rows → Sorted (move_row rows p q)
unfolding move_row
move-sorted [] p q s = tt
move-sorted (r ∷ rows) p q s =
    (subst (λ (k : ℕ). Above k (move_row rows p q)) (sym (moved-id r p q)) (move-above rows p q r.identifier s.0), move-sorted rows p q s.1)

pub move-length : (rows : List Process) (p : ℕ) (q : Place) → length (move_row rows p q) ≡ length rows
unfolding move_row
move-length [] p q = refl
move-length (r ∷ rows) p q = ap suc (move-length rows p q)

pub move-other : (rows : List Process) (p : ℕ) (q : Place) (x : ℕ) → x ≢ p → standing (move_row rows p q) x ≡ standing rows x
unfolding move_row
move-other [] p q x n = refl
move-other (r ∷ rows) p q x n = go (ℕ_discrete r.identifier x) (move-other rows p q x n)
  where
    r' : Process
    r' = pick (eqb r.identifier p) (row_at p q) r

    go : Dec (r.identifier ≡ x) → standing (move_row rows p q) x ≡ standing rows x → standing (r' ∷ move_row rows p q) x ≡ standing (r ∷ rows) x
    go (yes e) ih =
        let same : r' ≡ r = pick-false (eqb r.identifier p) (row_at p q) r (eqb-other r.identifier p (λ k. n (sym e ∙ k))) in
        standing_here r' (move_row rows p q) x (moved-id r p q ∙ e) ∙ ap (λ (k : Process). some k.stands) same ∙ sym (standing_here r rows x e)
    go (no d) ih = standing-past r' (move_row rows p q) x (λ k. d (sym (moved-id r p q) ∙ k)) ∙ ih ∙ sym (standing-past r rows x d)

pub move-self : (rows : List Process) (p : ℕ) (q a : Place) → standing rows p ≡ some a → standing (move_row rows p q) p ≡ some q
unfolding move_row
move-self [] p q a h = absurd (none-some (sym (standing-none p) ∙ h))
move-self (r ∷ rows) p q a h = go (ℕ_discrete r.identifier p) (λ k. move-self rows p q a k)
  where
    r' : Process
    r' = pick (eqb r.identifier p) (row_at p q) r

    go : Dec (r.identifier ≡ p) → (standing rows p ≡ some a → standing (move_row rows p q) p ≡ some q) → standing (r' ∷ move_row rows p q) p ≡ some q
    go (yes e) ih =
        let same : r' ≡ row_at p q = pick_true (eqb r.identifier p) (row_at p q) r (eqb_same r.identifier p e) in
        standing_here r' (move_row rows p q) p (moved-id r p q ∙ e) ∙ ap (λ (k : Process). some k.stands) same
    go (no d) ih = standing-past r' (move_row rows p q) p (λ k. d (sym (moved-id r p q) ∙ k)) ∙ ih (sym (standing-past r rows p d) ∙ h)

-- ---- picking out by identifier
module _ (g : ℕ → Bool) where
  those-above : (rows : List Process) (x : ℕ) → Above x rows → Above x (those (λ r. g r.identifier) rows)
  unfolding those
  those-above [] x a = tt
  those-above (r ∷ rows) x a = go (bool_cases (g r.identifier)) (those-above rows x a.1)
    where
      go :
          (g r.identifier ≡ true) ⊎ (g r.identifier ≡ false) → Above x (those (λ r. g r.identifier) rows) →
          Above x (pick (g r.identifier) (r ∷ those (λ r. g r.identifier) rows) (those (λ r. g r.identifier) rows))
      go (inl e) ih =
          subst (Above x) (sym (pick_true (g r.identifier) (r ∷ those (λ r. g r.identifier) rows) (those (λ r. g r.identifier) rows) e))
          (a.0, ih)
      go (inr e) ih =
          subst (Above x) (sym (pick-false (g r.identifier) (r ∷ those (λ r. g r.identifier) rows) (those (λ r. g r.identifier) rows) e)) ih

  pub those-sorted : (rows : List Process) → Sorted rows → Sorted (those (λ r. g r.identifier) rows)
  unfolding those
  those-sorted [] s = tt
  those-sorted (r ∷ rows) s = go (bool_cases (g r.identifier)) (those-sorted rows s.1)
    where
      go :
          (g r.identifier ≡ true) ⊎ (g r.identifier ≡ false) → Sorted (those (λ r. g r.identifier) rows) →
          Sorted (pick (g r.identifier) (r ∷ those (λ r. g r.identifier) rows) (those (λ r. g r.identifier) rows))
      go (inl e) ih =
          subst Sorted (sym (pick_true (g r.identifier) (r ∷ those (λ r. g r.identifier) rows) (those (λ r. g r.identifier) rows) e))
          (those-above rows r.identifier s.0, ih)
      go (inr e) ih =
          subst Sorted (sym (pick-false (g r.identifier) (r ∷ those (λ r. g r.identifier) rows) (those (λ r. g r.identifier) rows) e)) ih

  pub those-standing : (rows : List Process) (x : ℕ) → standing (those (λ r. g r.identifier) rows) x ≡ pick (g x) (standing rows x) none
  unfolding those
  those-standing [] x = standing-none x ∙ nothing (g x)
    where
      nothing : (t : Bool) → none ≡ pick t (standing [] x) none
      nothing true = sym (pick_true true (standing [] x) none refl ∙ standing-none x)
      nothing false = sym (pick-false false (standing [] x) none refl)
  those-standing (r ∷ rows) x = go (bool_cases (g r.identifier)) (ℕ_discrete r.identifier x) (those-standing rows x)
    where
      T : List Process
      T = those (λ r. g r.identifier) rows

      go :
          (g r.identifier ≡ true) ⊎ (g r.identifier ≡ false) → Dec (r.identifier ≡ x) → standing T x ≡ pick (g x) (standing rows x) none →
          standing (pick (g r.identifier) (r ∷ T) T) x ≡ pick (g x) (standing (r ∷ rows) x) none
      go (inl e) (yes q) ih =
          ap (λ (l : List Process). standing l x) (pick_true (g r.identifier) (r ∷ T) T e)
          ∙ standing_here r T x q ∙ sym (standing_here r rows x q)
          ∙ sym (pick_true (g x) (standing (r ∷ rows) x) none (ap g (sym q) ∙ e))
      go (inl e) (no n) ih =
          ap (λ (l : List Process). standing l x) (pick_true (g r.identifier) (r ∷ T) T e)
          ∙ standing-past r T x n ∙ ih ∙ ap (λ (o : Option Place). pick (g x) o none) (sym (standing-past r rows x n))
      go (inr e) (yes q) ih =
          let f : g x ≡ false = ap g (sym q) ∙ e in
          ap (λ (l : List Process). standing l x) (pick-false (g r.identifier) (r ∷ T) T e)
          ∙ ih ∙ pick-false (g x) (standing rows x) none f ∙ sym (pick-false (g x) (standing (r ∷ rows) x) none f)
      go (inr e) (no n) ih =
          ap (λ (l : List Process). standing l x) (pick-false (g r.identifier) (r ∷ T) T e)
          ∙ ih ∙ ap (λ (o : Option Place). pick (g x) o none) (sym (standing-past r rows x n))

-- ---- one table after another
abbrev pub first_of : Option Place → Option Place → Option Place
first_of none b = b
first_of (some a) b = some a

pub append-standing : (l m : List Process) (x : ℕ) → standing (l ++ m) x ≡ first_of (standing l x) (standing m x)
append-standing [] m x = sym (ap (λ (o : Option Place). first_of o (standing m x)) (standing-none x))
append-standing (r ∷ l) m x = go (ℕ_discrete r.identifier x) (append-standing l m x)
  where
    go :
        Dec (r.identifier ≡ x) → standing (l ++ m) x ≡ first_of (standing l x) (standing m x) →
        standing (r ∷ (l ++ m)) x ≡ first_of (standing (r ∷ l) x) (standing m x)
    go (yes e) ih = standing_here r (l ++ m) x e ∙ ap (λ (o : Option Place). first_of o (standing m x)) (sym (standing_here r l x e))
    go (no n) ih = standing-past r (l ++ m) x n ∙ ih ∙ ap (λ (o : Option Place). first_of o (standing m x)) (sym (standing-past r l x n))

-- every identifier is below a number
abbrev pub Below : ℕ → List Process → Type 0
Below x [] = Unit {0}
Below x (r ∷ rows) = (r.identifier < x) × Below x rows

above-append : (l m : List Process) (x : ℕ) → Above x l → Above x m → Above x (l ++ m)
above-append [] m x a b = b
above-append (r ∷ l) m x a b = (a.0, above-append l m x a.1 b)

pub append-sorted : (l m : List Process) (x : ℕ) → Sorted l → Sorted m → Below (suc x) l → Above x m → Sorted (l ++ m)
append-sorted [] m x s t b a = t
append-sorted (r ∷ l) m x s t b a =
    (above-append l m r.identifier s.0 (above_lower m x r.identifier (omega (arith, b.0)) a), append-sorted l m x s.1 t b.1 a)

pub below-append : (l m : List Process) (x : ℕ) → Below x l → Below x m → Below x (l ++ m)
below-append [] m x a b = b
below-append (r ∷ l) m x a b = (a.0, below-append l m x a.1 b)

pub below_more : (l : List Process) (x y : ℕ) → x ≤ y → Below x l → Below y l
below_more [] x y h b = tt
below_more (r ∷ l) x y h b = (omega (arith, b.0), below_more l x y h b.1)

pub above-less : (l : List Process) (x y : ℕ) → y ≤ x → Above x l → Above y l
above-less l x y h a = above_lower l x y h a

-- those below a number, and those from it on
pub those-below : (rows : List Process) (c : ℕ) → Below c (those (λ r. ltb r.identifier c) rows)
unfolding those
those-below [] c = tt
those-below (r ∷ rows) c = go (bool_cases (ltb r.identifier c)) (those-below rows c)
  where
    T : List Process
    T = those (λ r. ltb r.identifier c) rows

    go : (ltb r.identifier c ≡ true) ⊎ (ltb r.identifier c ≡ false) → Below c T → Below c (pick (ltb r.identifier c) (r ∷ T) T)
    go (inl e) ih = subst (Below c) (sym (pick_true (ltb r.identifier c) (r ∷ T) T e)) (ltb-true r.identifier c e, ih)
    go (inr e) ih = subst (Below c) (sym (pick-false (ltb r.identifier c) (r ∷ T) T e)) ih

-- rows from c on, where none stands from c to d, are above d
pub those-from :
    (rows : List Process) (c d : ℕ) → Sorted rows → ((x : ℕ) → c ≤ x → x ≤ d → standing rows x ≡ none) →
    Above d (those (λ r. leb c r.identifier) rows)
unfolding those
those-from [] c d s h = tt
those-from (r ∷ rows) c d s h =
    go (bool_cases (leb c r.identifier)) (those-from rows c d s.1 (λ x lo hi. rest x (h x lo hi) (ℕ_discrete r.identifier x)))
  where
    T : List Process
    T = those (λ r. leb c r.identifier) rows

    rest : (x : ℕ) → standing (r ∷ rows) x ≡ none → Dec (r.identifier ≡ x) → standing rows x ≡ none
    rest x e (yes q) = absurd (none-some (sym e ∙ standing_here r rows x q))
    rest x e (no n) = sym (standing-past r rows x n) ∙ e

    past : c ≤ r.identifier → (ltb d r.identifier ≡ true) ⊎ (ltb d r.identifier ≡ false) → d < r.identifier
    past lo (inl e) = ltb-true d r.identifier e
    past lo (inr e) = absurd (none-some (sym (h r.identifier lo (ltb-false d r.identifier e)) ∙ standing_here r rows r.identifier refl))

    go : (leb c r.identifier ≡ true) ⊎ (leb c r.identifier ≡ false) → Above d T → Above d (pick (leb c r.identifier) (r ∷ T) T)
    go (inl e) ih =
        subst (Above d) (sym (pick_true (leb c r.identifier) (r ∷ T) T e))
        (past (leb-true c r.identifier e) (bool_cases (ltb d r.identifier)), ih)
    go (inr e) ih = subst (Above d) (sym (pick-false (leb c r.identifier) (r ∷ T) T e)) ih
