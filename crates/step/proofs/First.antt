-- The rows of a process's children: the first of them by place, none before it, and how many can follow. Assumes nothing.
use mathlib.Core.Path.{◌≡◌, refl, sym, ap, ◌∙◌}
use mathlib.Core.Bool.{Bool, true, false, not, ◌&&◌, ◌||◌}
use mathlib.Core.List.{List, [], ◌∷◌, ◌++◌}
use Prim.Native.Nat.{ℕ, zero, suc, ◌+◌, ◌*◌, ◌/◌, ◌%◌, ◌≤◌, ◌<◌}
use native.Mathlib.Omega.{arith}
use lib.ListN.{length, take, drop, get_or, take-append-drop, length-drop}
use lib.Dec.{eqb, ltb, leb}
use borrow.Author.Tests.{ltb-true, leb-true, ne_eqb}
use Rattle.rules.specs.Base.{pick, each_of, those}
use Rattle.rules.specs.Machine.{Process, child, is_child_of, children, live_count, view}
use Rattle.rules.specs.Fits.{ascending}
use Rattle.laws.proofs.Lists.{those-append, those-none}
use Rattle.laws.proofs.Tests.{and-true, true_and}
use Rattle.laws.proofs.View.{no_row, row-at, length-rows}
use Rattle.step.specs.Ready.{FirstFrom}
use Rattle.step.proofs.ByIdentifier.{Parted, parted}

-- every row is the root or is numbered from 1
abbrev pub Numbered : List Process → Type 0
Numbered rows = each_of (λ r. eqb r.identifier 0 || leb 1 (r.identifier % 16)) rows ≡ true

pub first-parted : (w : List ℕ) (c i : ℕ) → ascending (view w).rows ≡ true → FirstFrom w c i → Parted (view w).rows c i
first-parted w c i a f =
    let l = length-rows w in
    parted (view w).rows c i a
    (λ j k. lower j k)
    (λ k. higher k)
    (omega (arith, f.within))
  where
    name : Process → ℕ
    name r = r.identifier

    lower : (j : ℕ) → j < i → (get_or (view w).rows j no_row).identifier < c
    lower j k =
        let g = f.within in
        let b = f.below j k in
        let e = ap name (row-at w j (omega arith)) in
        omega (arith, e, b)

    higher : i < length (view w).rows → c ≤ (get_or (view w).rows i no_row).identifier
    higher k =
        let l = length-rows w in
        let h : i < live_count w = omega (arith, l) in
        let b = f.from h in
        let e = ap name (row-at w i h) in
        omega (arith, e, b)

-- a process before child 1 of p is no child of p
no_child : (p q : ℕ) → q < 16 * p + 1 → (eqb q 0 || leb 1 (q % 16)) ≡ true → not (is_child_of p q) ≡ true
no_child p q h n = go (eqb q 0) refl n
  where
    both : (b : Bool) → not (b && false) ≡ true
    both true = refl
    both false = refl

    go : (b : Bool) → eqb q 0 ≡ b → (b || leb 1 (q % 16)) ≡ true → not (not b && eqb (q / 16) p) ≡ true
    go true e n = refl
    go false e n =
        let k : 1 ≤ q % 16 = leb-true _ _ n in
        rw (ne_eqb (q / 16) p (λ z. omega (arith, z, k)))

pub none_before : (p : ℕ) (rows : List Process) (i : ℕ) → Numbered rows → each_of (λ r. ltb r.identifier (child p 1)) (take i rows) ≡ true
    → each_of (λ r. not (is_child_of p r.identifier)) (take i rows) ≡ true
unfolding each_of
none_before p rows zero n b = refl
none_before p [] (suc i) n b = refl
none_before p (r ∷ rows) (suc i) n b =
    let s = and-true (eqb r.identifier 0 || leb 1 (r.identifier % 16)) _ n in
    let t = and-true (ltb r.identifier (child p 1)) _ b in
    true_and _ _ (no_child p r.identifier (ltb-true _ _ t.0) s.0) (none_before p rows i s.1 t.1)

-- as many as pass are no more than there are
those-few : {A : Type 0} (t : A → Bool) (l : List A) → length (those t l) ≤ length l
unfolding those pick
those-few t [] = omega arith
those-few t (a ∷ l) = go (t a) (those-few t l)
  where
    go : (b : Bool) → length (those t l) ≤ length l → length (pick b (a ∷ those t l) (those t l)) ≤ suc (length l)
    go true h = omega (arith, h)
    go false h = omega (arith, h)

pub children-within : (p : ℕ) (rows : List Process) (i : ℕ) → i ≤ length rows
    → each_of (λ r. not (is_child_of p r.identifier)) (take i rows) ≡ true → i + length (children rows p) ≤ length rows
unfolding children
children-within p rows i k h =
    let t : Process → Bool = λ r. is_child_of p r.identifier in
    let e : those t rows ≡ those t (drop i rows) =
    ap (those t) (sym (take-append-drop i rows))
    ∙ those-append t (take i rows) (drop i rows)
    ∙ ap (λ (l : List Process). l ++ those t (drop i rows)) (those-none t (take i rows) h) in
    let f = those-few t (drop i rows) in
    let d = length-drop i rows in
    let z = ap length e in
    omega (arith, f, d, z)
