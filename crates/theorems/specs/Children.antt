-- The rows of a process's children: put in at a fork, taken out at a merge, and looked at before either. Their table is the
-- theory's `put`. Assumes, where it says so, that every row hangs from the root (its identifier ends in 1 to 8).
use Rattle.std.specs.Prelude.{◌≡◌, refl, ◌⊎◌, ◌≢◌, Bool, true, false, not, List, [], ◌∷◌, ◌++◌, ℕ, zero, suc, ◌+◌, ◌*◌, ◌/◌, ◌%◌, ◌<◌, ◌≤◌, length, eqb, ltb, leb}
use Rattle.std.proofs.Common.{sym, ap, ◌∙◌, subst, inl, inr, arith, length-append, leb-false, eqb-true, ltb-true, ltb-false, leb-true, le-leb}
use Rattle.std.proofs.Math.Option.{Option, none, some}
use Rattle.std.proofs.Math.Decide.{ℕ_discrete}
use Rattle.std.proofs.Math.ListN.{get_elem?}
use Rattle.std.proofs.lemmas.Bool.{lt-leb}
use Rattle.theory.specs.Tests.{bool_cases, true_false, eqb_same, eqb-other, and-true, true_and, not_true}
use Rattle.theory.specs.Local.{slot, is_kid, kid-facts, kid-self, Touches, put, put_self, put-kid, put-outside, view}
use Rattle.theory.specs.Optional.{onto, slot_of}
use Rattle.rules.specs.Base.{pick, those}
use Rattle.rules.specs.Machine.{Process, place, root, child, parent, is_child_of, standing}
use Rattle.rules.specs.Fits.{nth}
use Rattle.rules.specs.Step.{child_rows, insert_rows, remove_rows}
use Rattle.rules.specs.declared.Place.{Place}
use Rattle.laws.proofs.Lists.{pick_true, pick-false}
use Rattle.theorems.specs.Tables.{Above, Sorted, Below, standing_here, standing-past, standing-none, those-sorted, those-standing, first_of, append-standing, append-sorted, below-append, below_more, those-below, those-from}

-- every row hangs from the root
abbrev pub Tree : (ℕ → Option Place) → Type 0
Tree R = (x : ℕ) (a : Place) → R x ≡ some a → (x ≡ 0) ⊎ (is_kid (x / 16) x ≡ true)

pub kid-child : (p x : ℕ) → is_kid p x ≡ true → is_child_of p x ≡ true
kid-child p x h =
    let f = kid-facts p x h in
    true_and (not (eqb x root)) (eqb (parent x) p)
    (ap not (eqb-other x root (λ e. let z : x % 16 ≡ 0 = ap (λ (k : ℕ). k % 16) e in omega (arith, f.0, z)))) (eqb_same (parent x) p f.2)

pub child-kid : (R : ℕ → Option Place) (p x : ℕ) (a : Place) → Tree R → R x ≡ some a → is_child_of p x ≡ true → is_kid p x ≡ true
child-kid R p x a t e h = go (t x a e)
  where
    c : (not (eqb x root) ≡ true) × (eqb (parent x) p ≡ true)
    c = and-true (not (eqb x root)) (eqb (parent x) p) h

    go : (x ≡ 0) ⊎ (is_kid (x / 16) x ≡ true) → is_kid p x ≡ true
    go (inl z) = absurd (true_false c.0 (ap not (eqb_same x root z)))
    go (inr k) = subst (λ (q : ℕ). is_kid q x ≡ true) (eqb-true (parent x) p c.1) k

-- ---- the rows of a call's children
child-past : (p stage i : ℕ) (ls : List ℕ) (x : ℕ) → (x < child p i) ⊎ (child p (i + length ls) ≤ x) → standing (child_rows p stage i ls) x ≡ none
unfolding child_rows
child-past p stage i [] x h = standing-none x
child-past p stage i (l ∷ ls) x h = standing-past _ _ x (λ e. go h e) ∙ child-past p stage (suc i) ls x (later h)
  where
    go : (x < child p i) ⊎ (child p (i + length (l ∷ ls)) ≤ x) → child p i ≡ x → ⊥
    go (inl lt) e = omega (arith, lt, e)
    go (inr ge) e = omega (arith, ge, e)

    later : (x < child p i) ⊎ (child p (i + length (l ∷ ls)) ≤ x) → (x < child p (suc i)) ⊎ (child p (suc i + length ls) ≤ x)
    later (inl lt) = inl (omega (arith, lt))
    later (inr ge) = inr (omega (arith, ge))

child-at : (p stage i : ℕ) (ls : List ℕ) (k : ℕ) → standing (child_rows p stage i ls) (child p (i + k)) ≡ onto (λ l. place l stage) (get_elem? ls k)
unfolding child_rows
child-at p stage i [] k = standing-none (child p (i + k))
child-at p stage i (l ∷ ls) zero = standing_here _ _ (child p (i + 0)) (let z : child p i ≡ child p (i + 0) = omega arith in z)
child-at p stage i (l ∷ ls) (suc k) =
    let z : child p (suc i + k) ≡ child p (i + suc k) = omega arith in
    standing-past _ _ (child p (i + suc k)) (λ e. omega (arith, e)) ∙ ap (standing (child_rows p stage (suc i) ls)) (sym z) ∙ child-at p stage
    (suc i) ls k

child-above : (p stage i : ℕ) (ls : List ℕ) (x : ℕ) → x < child p i → Above x (child_rows p stage i ls)
unfolding child_rows
child-above p stage i [] x h = tt
child-above p stage i (l ∷ ls) x h = (h, child-above p stage (suc i) ls x (omega (arith, h)))

child-sorted : (p stage i : ℕ) (ls : List ℕ) → Sorted (child_rows p stage i ls)
unfolding child_rows
child-sorted p stage i [] = tt
child-sorted p stage i (l ∷ ls) = (child-above p stage (suc i) ls (child p i) (omega arith), child-sorted p stage (suc i) ls)

child-below : (p stage i : ℕ) (ls : List ℕ) → Below (child p (i + length ls)) (child_rows p stage i ls)
unfolding child_rows
child-below p stage i [] = tt
child-below p stage i (l ∷ ls) = (
  omega arith,
  below_more (child_rows p stage (suc i) ls) (child p (suc i + length ls)) (child p (i + length (l ∷ ls))) (omega arith)
      (child-below p stage (suc i) ls),
)

pub child-length : (p stage i : ℕ) (ls : List ℕ) → length (child_rows p stage i ls) ≡ length ls
unfolding child_rows
child-length p stage i [] = refl
child-length p stage i (l ∷ ls) = ap suc (child-length p stage (suc i) ls)

pub new_kid : (p stage : ℕ) (ls : List ℕ) (x : ℕ) → is_kid p x ≡ true → standing (child_rows p stage 1 ls) x ≡ onto (λ l. place l stage) (nth ls (x % 16))
new_kid p stage ls x h = go (x % 16) refl
  where
    f : (1 ≤ x % 16) × (x % 16 ≤ 8) × (x / 16 ≡ p)
    f = kid-facts p x h

    go : (d : ℕ) → x % 16 ≡ d → standing (child_rows p stage 1 ls) x ≡ onto (λ l. place l stage) (nth ls d)
    go zero e = absurd (omega (arith, f.0, e))
    go (suc k) e =
        let z : child p (1 + k) ≡ x = omega (arith, f.2, e) in
        subst (λ (y : ℕ). standing (child_rows p stage 1 ls) y ≡ onto (λ l. place l stage) (get_elem? ls k)) z (child-at p stage 1 ls k)

pub new-other : (p stage : ℕ) (ls : List ℕ) (x : ℕ) → length ls ≤ 8 → is_kid p x ≡ false → standing (child_rows p stage 1 ls) x ≡ none
new-other p stage ls x few h = go (bool_cases (ltb x (child p 1))) (bool_cases (leb (child p (1 + length ls)) x))
  where
    go :
        (ltb x (child p 1) ≡ true) ⊎ (ltb x (child p 1) ≡ false) →
        (leb (child p (1 + length ls)) x ≡ true) ⊎ (leb (child p (1 + length ls)) x ≡ false) → standing (child_rows p stage 1 ls) x ≡ none
    go (inl e) k = child-past p stage 1 ls x (inl (ltb-true x (child p 1) e))
    go (inr e) (inl k) = child-past p stage 1 ls x (inr (leb-true (child p (1 + length ls)) x k))
    go (inr e) (inr k) =
        let lo : child p 1 ≤ x = ltb-false x (child p 1) e in
        let hi : x < child p (1 + length ls) = leb-false (child p (1 + length ls)) x k in
        let d : x / 16 ≡ p = omega (arith, lo, hi, few) in
        let r₁ : 1 ≤ x % 16 = omega (arith, lo, hi, few) in
        let r₂ : x % 16 ≤ 8 = omega (arith, lo, hi, few) in
        absurd (true_false (true_and (slot (x % 16)) (eqb (x / 16) p) (slot_of (x % 16) r₁ r₂) (eqb_same (x / 16) p d)) h)

-- ---- putting rows in
pub after_none : (o : Option Place) → first_of o none ≡ o
after_none none = refl
after_none (some a) = refl

insert_standing :
    (rows : List Process) (p : ℕ) (new : List Process) (x : ℕ) → (standing rows x ≡ none) ⊎ (standing new x ≡ none) →
    standing (insert_rows rows p new) x ≡ first_of (standing new x) (standing rows x)
unfolding insert_rows
insert_standing rows p new x h =
    append-standing (those (λ r. ltb r.identifier (child p 1)) rows ++ new) (those (λ r. leb (child p 1) r.identifier) rows) x
    ∙ ap (λ (o : Option Place). first_of o (standing (those (λ r. leb (child p 1) r.identifier) rows) x))
    (append-standing (those (λ r. ltb r.identifier (child p 1)) rows) new x)
    ∙ ap (λ (o : Option Place). first_of (first_of o (standing new x)) (standing (those (λ r. leb (child p 1) r.identifier) rows) x))
    (those-standing (λ i. ltb i (child p 1)) rows x)
    ∙ ap (λ (o : Option Place). first_of (first_of (pick (ltb x (child p 1)) (standing rows x) none) (standing new x)) o)
    (those-standing (λ i. leb (child p 1) i) rows x)
    ∙ go (standing rows x) (standing new x) h (bool_cases (ltb x (child p 1)))
  where
    go :
        (o n : Option Place) → (o ≡ none) ⊎ (n ≡ none) → (ltb x (child p 1) ≡ true) ⊎ (ltb x (child p 1) ≡ false) →
        first_of (first_of (pick (ltb x (child p 1)) o none) n) (pick (leb (child p 1) x) o none) ≡ first_of n o
    go o n h (inl e) =
        let lt = ltb-true x (child p 1) e in
        ap (λ (k : Option Place). first_of (first_of k n) (pick (leb (child p 1) x) o none)) (pick_true (ltb x (child p 1)) o none e)
        ∙ ap (λ (k : Option Place). first_of (first_of o n) k) (pick-false (leb (child p 1) x) o none (lt-leb (child p 1) x lt))
        ∙ after_none (first_of o n)
        ∙ swap o n h
      where
        swap : (o n : Option Place) → (o ≡ none) ⊎ (n ≡ none) → first_of o n ≡ first_of n o
        swap o n (inl q) = rw q (sym (after_none n))
        swap o n (inr q) = rw q (after_none o)
    go o n h (inr e) =
        let ge = ltb-false x (child p 1) e in
        ap (λ (k : Option Place). first_of (first_of k n) (pick (leb (child p 1) x) o none)) (pick-false (ltb x (child p 1)) o none e)
        ∙ ap (λ (k : Option Place). first_of n k) (pick_true (leb (child p 1) x) o none (le-leb (child p 1) x ge))

parted :
    (rows : List Process) (c : ℕ) → length (those (λ r. ltb r.identifier c) rows) + length (those (λ r. leb c r.identifier) rows) ≡ length rows
unfolding those
parted [] c = refl
parted (r ∷ rows) c = go (bool_cases (ltb r.identifier c)) (parted rows c)
  where
    A : List Process
    A = those (λ r. ltb r.identifier c) rows

    B : List Process
    B = those (λ r. leb c r.identifier) rows

    go :
        (ltb r.identifier c ≡ true) ⊎ (ltb r.identifier c ≡ false) → length A + length B ≡ length rows →
        length (pick (ltb r.identifier c) (r ∷ A) A) + length (pick (leb c r.identifier) (r ∷ B) B) ≡ length (r ∷ rows)
    go (inl e) ih =
        let a : length (pick (ltb r.identifier c) (r ∷ A) A) ≡ suc (length A) = ap length (pick_true (ltb r.identifier c) (r ∷ A) A e) in
        let b : length (pick (leb c r.identifier) (r ∷ B) B) ≡ length B =
        ap length (pick-false (leb c r.identifier) (r ∷ B) B (lt-leb c r.identifier (ltb-true r.identifier c e))) in
        omega (arith, a, b, ih)
    go (inr e) ih =
        let a : length (pick (ltb r.identifier c) (r ∷ A) A) ≡ length A = ap length (pick-false (ltb r.identifier c) (r ∷ A) A e) in
        let b : length (pick (leb c r.identifier) (r ∷ B) B) ≡ suc (length B) =
        ap length (pick_true (leb c r.identifier) (r ∷ B) B (le-leb c r.identifier (ltb-false r.identifier c e))) in
        omega (arith, a, b, ih)

pub insert_length : (rows : List Process) (p : ℕ) (new : List Process) → length (insert_rows rows p new) ≡ length rows + length new
unfolding insert_rows
insert_length rows p new =
    let A = those (λ r. ltb r.identifier (child p 1)) rows in
    let B = those (λ r. leb (child p 1) r.identifier) rows in
    let e₁ = length-append (A ++ new) B in
    let e₂ = length-append A new in
    let e₃ = parted rows (child p 1) in
    omega (arith, e₁, e₂, e₃)

-- no row stands among a process's children
abbrev pub Childless : (ℕ → Option Place) → ℕ → Type 0
Childless R p = (x : ℕ) → is_kid p x ≡ true → R x ≡ none

pub insert_sorted :
    (rows : List Process) (p stage : ℕ) (ls : List ℕ) → Sorted rows → Tree (standing rows) → Childless (standing rows) p → length ls ≤ 8 →
    Sorted (insert_rows rows p (child_rows p stage 1 ls))
unfolding insert_rows
insert_sorted rows p stage ls s t free few =
    let c = child p 1 in
    let A = those (λ r. ltb r.identifier c) rows in
    let N = child_rows p stage 1 ls in
    let B = those (λ r. leb c r.identifier) rows in
    let below-a : Below (suc (16 * p)) A = below_more A c (suc (16 * p)) (omega arith) (those-below rows c) in
    let sorted-an : Sorted (A ++ N) =
    append-sorted A N (16 * p) (those-sorted (λ i. ltb i c) rows s) (child-sorted p stage 1 ls) below-a
    (child-above p stage 1 ls (16 * p) (omega arith)) in
    let below-an : Below (suc (16 * p + 15)) (A ++ N) =
    below-append A N (suc (16 * p + 15)) (below_more A (suc (16 * p)) (suc (16 * p + 15)) (omega arith) below-a)
    (below_more N (child p (1 + length ls)) (suc (16 * p + 15)) (omega (arith, few)) (child-below p stage 1 ls)) in
    append-sorted (A ++ N) B (16 * p + 15) sorted-an (those-sorted (λ i. leb c i) rows s) below-an
    (those-from rows c (16 * p + 15) s (λ x lo hi. empty x lo hi (standing rows x) refl))
  where
    empty : (x : ℕ) → child p 1 ≤ x → x ≤ 16 * p + 15 → (o : Option Place) → standing rows x ≡ o → o ≡ none
    empty x lo hi none e = refl
    empty x lo hi (some a) e = go (t x a e)
      where
        go : (x ≡ 0) ⊎ (is_kid (x / 16) x ≡ true) → some a ≡ none
        go (inl z) = absurd (omega (arith, lo, z))
        go (inr k) = let d : x / 16 ≡ p = omega (arith, lo, hi) in sym e ∙ free x (subst (λ (q : ℕ). is_kid q x ≡ true) d k)

-- ---- as the theory's rows
abbrev pub puts : (ℕ → Option Place) → ℕ → Option Place → (ℕ → Option Place) → ℕ → Option Place
puts R p ρ k = put R p ρ k

abbrev pub kids : (ℕ → Option Place) → ℕ → ℕ → Option Place
kids R p = view R p

pub outside : (p x : ℕ) → x ≢ p → is_kid p x ≡ false → Touches p x ≡ false
outside p x n k = rw (eqb-other x p n, k)

-- by cases: the process, a child of it, any other
module _ (p : ℕ) (P : ℕ → Type 0) (self : P p) (kid : (x : ℕ) → x ≢ p → is_kid p x ≡ true → P x)
    (other : (x : ℕ) → x ≢ p → is_kid p x ≡ false → P x) where
  pub by_row : (x : ℕ) → P x
  by_row x = go (ℕ_discrete x p) (bool_cases (is_kid p x))
    where
      go : Dec (x ≡ p) → (is_kid p x ≡ true) ⊎ (is_kid p x ≡ false) → P x
      go (yes e) k = subst P (sym e) self
      go (no n) (inl k) = kid x n k
      go (no n) (inr k) = other x n k

pub insert_puts :
    (rows : List Process) (p stage : ℕ) (ls : List ℕ) (ρ : Place) → standing rows p ≡ some ρ → Childless (standing rows) p → length ls ≤ 8 → (x : ℕ) →
    standing (insert_rows rows p (child_rows p stage 1 ls)) x ≡ puts (standing rows) p (some ρ) (λ i. onto (λ l. place l stage) (nth ls i)) x
insert_puts rows p stage ls ρ live free few =
    by_row p (λ x. standing (insert_rows rows p N) x ≡ puts (standing rows) p (some ρ) K x)
    (insert_standing rows p N p (inr (new-other p stage ls p few own))
    ∙ ap (λ (o : Option Place). first_of o (standing rows p)) (new-other p stage ls p few own)
    ∙ live
    ∙ sym (put_self (standing rows) p (some ρ) K))
    (λ x n k.
    insert_standing rows p N x (inl (free x k))
    ∙ ap (λ (o : Option Place). first_of (standing N x) o) (free x k)
    ∙ after_none (standing N x)
    ∙ new_kid p stage ls x k
    ∙ sym (put-kid (standing rows) p (some ρ) K x k))
    (λ x n k.
    insert_standing rows p N x (inr (new-other p stage ls x few k))
    ∙ ap (λ (o : Option Place). first_of o (standing rows x)) (new-other p stage ls x few k)
    ∙ sym (put-outside (standing rows) p (some ρ) K x (outside p x n k)))
  where
    N : List Process
    N = child_rows p stage 1 ls

    K : ℕ → Option Place
    K i = onto (λ l. place l stage) (nth ls i)

    own : is_kid p p ≡ false
    own = not_true (is_kid p p) (kid-self p)

-- ---- taking rows out
pub remove_sorted : (rows : List Process) (p : ℕ) → Sorted rows → Sorted (remove_rows rows p)
unfolding remove_rows
remove_sorted rows p s = those-sorted (λ i. not (is_child_of p i)) rows s

remove_standing : (rows : List Process) (p x : ℕ) → standing (remove_rows rows p) x ≡ pick (not (is_child_of p x)) (standing rows x) none
unfolding remove_rows
remove_standing rows p x = those-standing (λ i. not (is_child_of p i)) rows x

remove_kid : (rows : List Process) (p x : ℕ) → is_kid p x ≡ true → standing (remove_rows rows p) x ≡ none
remove_kid rows p x k = remove_standing rows p x ∙ pick-false (not (is_child_of p x)) (standing rows x) none (ap not (kid-child p x k))

pub remove_other : (rows : List Process) (p x : ℕ) → Tree (standing rows) → is_kid p x ≡ false → standing (remove_rows rows p) x ≡ standing rows x
remove_other rows p x t k = remove_standing rows p x ∙ go (standing rows x) refl (bool_cases (is_child_of p x))
  where
    go : (o : Option Place) → standing rows x ≡ o → (is_child_of p x ≡ true) ⊎ (is_child_of p x ≡ false) → pick (not (is_child_of p x)) o none ≡ o
    go none e h = both (not (is_child_of p x))
      where
        both : (b : Bool) → Path (Option Place) (pick b none none) none
        both true = pick_true true none none refl
        both false = pick-false false none none refl
    go (some a) e (inl h) = absurd (true_false (child-kid (standing rows) p x a t e h) k)
    go (some a) e (inr h) = pick_true (not (is_child_of p x)) (some a) none (ap not h)

pub remove_puts :
    (rows : List Process) (p : ℕ) (ρ : Place) → standing rows p ≡ some ρ → Tree (standing rows) → (x : ℕ) →
    standing (remove_rows rows p) x ≡ puts (standing rows) p (some ρ) (λ i. none) x
remove_puts rows p ρ live t =
    by_row p (λ x. standing (remove_rows rows p) x ≡ puts (standing rows) p (some ρ) K x)
    (remove_other rows p p t (not_true (is_kid p p) (kid-self p)) ∙ live ∙ sym (put_self (standing rows) p (some ρ) K))
    (λ x n k. remove_kid rows p x k ∙ sym (put-kid (standing rows) p (some ρ) K x k))
    (λ x n k. remove_other rows p x t k ∙ sym (put-outside (standing rows) p (some ρ) K x (outside p x n k)))
  where
    K : ℕ → Option Place
    K i = none
