-- Changes of rows and history by their place, as rules makes them by identifier, on rows that ascend. Assumes nothing.
use mathlib.Core.Path.{◌≡◌, refl, sym, ap, ap₂, ◌∙◌}
use mathlib.Core.Bool.{Bool, true, false, not, ◌&&◌}
use mathlib.Core.List.{List, [], ◌∷◌, ◌++◌, append-nil}
use Prim.Native.Nat.{ℕ, zero, suc, ◌+◌, ◌*◌, ◌/◌, ◌≤◌, ◌<◌}
use native.Mathlib.Omega.{arith}
use native.Mathlib.Decide.{dec_lt}
use native.Mathlib.Nat.{le_of_suc-le-suc, not-suc-le-zero}
use lib.ListN.{length, take, drop, get_or, take-append-drop}
use lib.Seq.{split_at, drop-drop}
use lib.Dec.{eqb, ltb, leb}
use borrow.Author.Tests.{ltb-true, leb-true, eq-eqb, lt-ltb, le-leb, lt-leb, ne_eqb, le-ltb}
use Rattle.rules.specs.Base.{pick, some_of, each_of, those}
use Rattle.rules.specs.Machine.{Process, Kept, place, child, is_child_of, children}
use Rattle.rules.specs.Fits.{ascending}
use Rattle.rules.specs.Step.{move_row, insert_rows, remove_rows, close_up}
use Rattle.laws.proofs.Lists.{those-append, those-all, those-none}
use Rattle.laws.proofs.Tests.{true_false, and-true, true_and}
use Rattle.laws.proofs.Ascending.{AllAbove, ascending-head, ascending-tail, none_above, move_at, close_at}
use Rattle.machine.specs.Index.{row_at}

abbrev no_row : Process
no_row = record { identifier = 0; stands = place 0 0 }

module _ {A : Type 0} where
  each_at : (t : A → Bool) (l : List A) (i : ℕ) (d : A) → each_of t l ≡ true → i < length l → t (get_or l i d) ≡ true
  unfolding each_of
  each_at t [] i d h k = absurd (not-suc-le-zero k)
  each_at t (a ∷ l) zero d h k = (and-true (t a) (each_of t l) h).0
  each_at t (a ∷ l) (suc i) d h k = each_at t l i d (and-true (t a) (each_of t l) h).1 (le_of_suc-le-suc k)

  -- a test that follows from another
  each_from : (t u : A → Bool) → ((a : A) → t a ≡ true → u a ≡ true) → (l : List A) → each_of t l ≡ true → each_of u l ≡ true
  unfolding each_of
  each_from t u g [] h = refl
  each_from t u g (a ∷ l) h =
      let e = and-true (t a) (each_of t l) h in
      true_and _ _ (g a e.0) (each_from t u g l e.1)

  -- those that pass stand first, or last
  those-first : (t : A → Bool) (l : List A) (i : ℕ) → each_of t (take i l) ≡ true → each_of (λ a. not (t a)) (drop i l) ≡ true → those t l ≡ take i l
  those-first t l i h k =
      ap (those t) (sym (take-append-drop i l))
      ∙ those-append t (take i l) (drop i l)
      ∙ ap₂ (λ (x y : List A). x ++ y) (those-all t (take i l) h) (those-none t (drop i l) k)
      ∙ append-nil (take i l)

  those-last : (t : A → Bool) (l : List A) (i : ℕ) → each_of (λ a. not (t a)) (take i l) ≡ true → each_of t (drop i l) ≡ true → those t l ≡ drop i l
  those-last t l i h k =
      ap (those t) (sym (take-append-drop i l))
      ∙ those-append t (take i l) (drop i l)
      ∙ ap₂ (λ (x y : List A). x ++ y) (those-none t (take i l) h) (those-all t (drop i l) k)

-- ---- a row moved
pub moved_by :
    (rows : List Process) (i l s : ℕ) → ascending rows ≡ true → i < length rows
    → row_at rows i l s ≡ move_row rows (get_or rows i no_row).identifier (place l s)
unfolding row_at move_row pick each_of
moved_by [] i l s a h = absurd (not-suc-le-zero h)
moved_by (r ∷ rows) zero l s a h = sym (move_at [] r rows (place l s) refl (none_above r.identifier rows (ascending-head r rows a)))
moved_by (r ∷ rows) (suc i) l s a h =
    let g : r.identifier < (get_or rows i no_row).identifier =
    ltb-true _ _ (each_at (λ (x : Process). ltb r.identifier x.identifier) rows i no_row (ascending-head r rows a) (le_of_suc-le-suc h)) in
    rw (ne_eqb r.identifier (get_or rows i no_row).identifier (λ q. omega arith))
    (ap (λ (t : List Process). r ∷ t) (moved_by rows i l s (ascending-tail r rows a) (le_of_suc-le-suc h)))

-- ---- rows put in
-- row i is the first whose identifier is at least c
pub record Parted (rows : List Process) (c i : ℕ) : Type 0 where
  pub below : each_of (λ r. ltb r.identifier c) (take i rows) ≡ true
  pub above : each_of (λ r. leb c r.identifier) (drop i rows) ≡ true

all_from : (c p : ℕ) (rows : List Process) → c ≤ p → AllAbove p rows → each_of (λ r. leb c r.identifier) rows ≡ true
all_from c p rows h a = each_from (λ r. ltb p r.identifier) (λ r. leb c r.identifier) (λ r t. over r t) rows a
  where
    over : (r : Process) → ltb p r.identifier ≡ true → leb c r.identifier ≡ true
    over r t = let g : p < r.identifier = ltb-true _ _ t in le-leb c r.identifier (omega arith)

pub parted :
    (rows : List Process) (c i : ℕ) → ascending rows ≡ true → ((j : ℕ) → j < i → (get_or rows j no_row).identifier < c)
    → (i < length rows → c ≤ (get_or rows i no_row).identifier) → i ≤ length rows → Parted rows c i
unfolding each_of
parted [] c zero a lo hi l = record { below = refl; above = refl }
parted [] c (suc i) a lo hi l = absurd (not-suc-le-zero l)
parted (r ∷ rows) c zero a lo hi l =
    let g : c ≤ r.identifier = hi (omega arith) in
    record { below = refl; above = true_and _ _ (le-leb c r.identifier g) (all_from c r.identifier rows g (ascending-head r rows a)) }
parted (r ∷ rows) c (suc i) a lo hi l =
    let ih = parted rows c i (ascending-tail r rows a) (λ j k. lo (suc j) (omega arith)) (λ k. hi (omega arith)) (le_of_suc-le-suc l) in
    record { below = true_and _ _ (lt-ltb r.identifier c (lo zero (omega arith))) ih.below; above = ih.above }

pub inserted_by :
    (rows : List Process) (p i : ℕ) (new : List Process) → Parted rows (child p 1) i
    → take i rows ++ new ++ drop i rows ≡ insert_rows rows p new
unfolding insert_rows
inserted_by rows p i new s =
    sym
    (ap₂ (λ (x y : List Process). x ++ new ++ y)
    (those-first (λ r. ltb r.identifier (child p 1)) rows i s.below
    (each_from (λ r. leb (child p 1) r.identifier) (λ r. not (ltb r.identifier (child p 1))) (λ r t. up r t) (drop i rows) s.above))
    (those-last (λ r. leb (child p 1) r.identifier) rows i
    (each_from (λ r. ltb r.identifier (child p 1)) (λ r. not (leb (child p 1) r.identifier)) (λ r t. down r t) (take i rows) s.below)
    s.above))
  where
    up : (r : Process) → leb (child p 1) r.identifier ≡ true → not (ltb r.identifier (child p 1)) ≡ true
    up r t = ap not (le-ltb r.identifier (child p 1) (leb-true _ _ t))

    down : (r : Process) → ltb r.identifier (child p 1) ≡ true → not (leb (child p 1) r.identifier) ≡ true
    down r t = ap not (lt-leb (child p 1) r.identifier (ltb-true _ _ t))

-- ---- an entry closed up
pub closed-by :
    (history : List Kept) (p i : ℕ) → i < length history → (get_or history i (record { identifier = 0; block = 0 })).identifier ≡ p
    → some_of (λ j. eqb j.identifier p) (drop (suc i) history) ≡ false
    → take i history ++ drop (suc i) history ≡ close_up history p
closed-by history p i h e n =
    let d : Kept = record { identifier = 0; block = 0 } in
    sym
    (ap (λ (l : List Kept). close_up l p) (split_at history i d h)
    ∙ close_at p (take i history) (get_or history i d) (drop (suc i) history) e n)

-- ---- rows taken out
nonzero_child : (p q : ℕ) → 16 * p + 1 ≤ q → q < 16 * p + 16 → is_child_of p q ≡ true
nonzero_child p q h k =
    true_and _ _ (ap not (ne_eqb q 0 (λ e. omega arith))) (eq-eqb (q / 16) p (omega arith))

past-children : (p q : ℕ) → 16 * p + 16 ≤ q → not (is_child_of p q) ≡ true
past-children p q h = rw (ne_eqb (q / 16) p (λ e. omega arith)) (both (not (eqb q 0)))
  where
    both : (b : Bool) → not (b && false) ≡ true
    both true = refl
    both false = refl

beyond : (p q : ℕ) → 16 * p + 1 ≤ q → is_child_of p q ≡ false → 16 * p + 16 ≤ q
beyond p q h n = go (dec_lt q (16 * p + 16))
  where
    go : Dec (q < 16 * p + 16) → 16 * p + 16 ≤ q
    go (yes k) = absurd (true_false (nonzero_child p q h k) n)
    go (no k) = omega (arith, k)

abbrev Mine : ℕ → List Process → List Process
Mine p rows = those (λ r. is_child_of p r.identifier) rows

abbrev Others : ℕ → List Process → List Process
Others p rows = those (λ r. not (is_child_of p r.identifier)) rows

none_left : (p : ℕ) (r : Process) (rows : List Process) → 16 * p + 16 ≤ r.identifier → AllAbove r.identifier rows
    → each_of (λ x. not (is_child_of p x.identifier)) rows ≡ true
none_left p r rows h a =
    each_from (λ x. ltb r.identifier x.identifier) (λ x. not (is_child_of p x.identifier)) (λ x t. past x t) rows a
  where
    past : (x : Process) → ltb r.identifier x.identifier ≡ true → not (is_child_of p x.identifier) ≡ true
    past x t = let g : r.identifier < x.identifier = ltb-true _ _ t in past-children p x.identifier (omega arith)

-- where rows ascend from child 1 on, the children come first
children-first :
    (p : ℕ) (rows : List Process) → ascending rows ≡ true → each_of (λ r. leb (child p 1) r.identifier) rows ≡ true
    → Others p rows ≡ drop (length (Mine p rows)) rows
unfolding those pick each_of
children-first p [] a h = refl
children-first p (r ∷ rows) a h =
    let e = and-true (leb (child p 1) r.identifier) (each_of (λ x. leb (child p 1) x.identifier) rows) h in
    go (is_child_of p r.identifier) refl (leb-true _ _ e.0) (children-first p rows (ascending-tail r rows a) e.1)
  where
    go : (b : Bool) → is_child_of p r.identifier ≡ b → 16 * p + 1 ≤ r.identifier → Others p rows ≡ drop (length (Mine p rows)) rows
        → pick (not b) (r ∷ Others p rows) (Others p rows) ≡ drop (length (pick b (r ∷ Mine p rows) (Mine p rows))) (r ∷ rows)
    go true q l ih = ih
    go false q l ih =
        let n = none_left p r rows (beyond p r.identifier l q) (ascending-head r rows a) in
        ap (λ (t : List Process). r ∷ t) (those-all (λ x. not (is_child_of p x.identifier)) rows n)
        ∙ sym (ap (λ (t : List Process). drop (length t) (r ∷ rows)) (those-none (λ x. is_child_of p x.identifier) rows n))

tail-ascends : (rows : List Process) (i : ℕ) → ascending rows ≡ true → ascending (drop i rows) ≡ true
unfolding ascending
tail-ascends rows zero a = a
tail-ascends [] (suc i) a = refl
tail-ascends (r ∷ rows) (suc i) a = tail-ascends rows i (ascending-tail r rows a)

-- the children of p are the rows from i on, as many as there are, where none of them comes before
pub removed-by :
    (rows : List Process) (p i n : ℕ) → ascending rows ≡ true → Parted rows (child p 1) i
    → each_of (λ r. not (is_child_of p r.identifier)) (take i rows) ≡ true → n ≡ length (children rows p)
    → take i rows ++ drop (i + n) rows ≡ remove_rows rows p
unfolding remove_rows children
removed-by rows p i n a s h e =
    let A : List Process = take i rows in
    let D : List Process = drop i rows in
    let m : those (λ r. is_child_of p r.identifier) rows ≡ Mine p D =
    ap (λ (l : List Process). Mine p l) (sym (take-append-drop i rows))
    ∙ those-append (λ r. is_child_of p r.identifier) A D
    ∙ ap (λ (l : List Process). l ++ Mine p D) (those-none (λ r. is_child_of p r.identifier) A h) in
    sym
    (ap (λ (l : List Process). Others p l) (sym (take-append-drop i rows))
    ∙ those-append (λ r. not (is_child_of p r.identifier)) A D
    ∙ ap₂ (λ (x y : List Process). x ++ y) (those-all (λ r. not (is_child_of p r.identifier)) A h)
    (children-first p D (tail-ascends rows i a) s.above
    ∙ ap (λ (k : ℕ). drop k D) (sym (e ∙ ap length m))
    ∙ drop-drop n i rows))
