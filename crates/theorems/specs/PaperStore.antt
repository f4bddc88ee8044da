-- Stores of 004's and the memories that hold them: a memory for every store, one store for a memory once what lies beyond the 32
-- variables and 256 cells is chosen. Assumes nothing.
use Rattle.std.specs.Prelude.{◌≡◌, refl, ◌⊎◌, true, false, List, [], ◌∷◌, ℕ, zero, suc, ◌+◌, ◌-◌, ◌<◌, length, get_or, ltb}
use Rattle.std.proofs.Common.{sym, ap, ◌∙◌, subst, inl, inr, arith, ext_get_or, ltb-true, ltb-false, lt-ltb, le-ltb}
use Rattle.std.proofs.Math.Path.{fun_ext}
use Rattle.std.proofs.Math.ListN.{get_or-eq_default}
use Rattle.theory.specs.Tests.{bool_cases}
use Rattle.rules.specs.Base.{pick}
use Rattle.rules.specs.Value.{span}
use Rattle.rules.specs.Format.{variables, cells}
use Rattle.rules.specs.Machine.{memory_words}
use Rattle.rules.specs.Paper.{Store}
use Rattle.laws.proofs.Lists.{pick_true, pick-false}
use Rattle.theorems.specs.Memory.{Fine}
use Rattle.theorems.specs.PaperShown.{Holds, Words}
use Rattle.theorems.specs.PaperLeaf.{Outside}

-- ---- the memory of a store
listed : (ℕ → ℕ) → ℕ → ℕ → List ℕ
listed f a zero = []
listed f a (suc n) = f a ∷ listed f (suc a) n

listed-length : (f : ℕ → ℕ) (a n : ℕ) → length (listed f a n) ≡ n
unfolding listed
listed-length f a zero = refl
listed-length f a (suc n) = ap suc (listed-length f (suc a) n)

listed_at : (f : ℕ → ℕ) (a n i : ℕ) → i < n → get_or (listed f a n) i 0 ≡ f (a + i)
unfolding listed
listed_at f a zero i lt = absurd (omega arith)
listed_at f a (suc n) zero lt = let z : a ≡ a + 0 = omega arith in ap f z
listed_at f a (suc n) (suc i) lt = let z : suc a + i ≡ a + suc i = omega arith in listed_at f (suc a) n i (omega arith) ∙ ap f z

store_word : Store → ℕ → ℕ
store_word s i = pick (ltb i variables) (s.variable i) (s.cell (i - variables))

pub memory_of : Store → List ℕ
memory_of s = listed (store_word s) 0 memory_words

memory-at : (s : Store) (i : ℕ) → i < memory_words → get_or (memory_of s) i 0 ≡ store_word s i
unfolding memory_of
memory-at s i lt = let z : 0 + i ≡ i = omega arith in listed_at (store_word s) 0 memory_words i lt ∙ ap (store_word s) z

word-variable : (s : Store) (x : ℕ) → x < variables → store_word s x ≡ s.variable x
unfolding store_word
word-variable s x lt = pick_true (ltb x variables) (s.variable x) (s.cell (x - variables)) (lt-ltb x variables lt)

word_cell : (s : Store) (a : ℕ) → store_word s (variables + a) ≡ s.cell a
unfolding store_word
word_cell s a =
    let z : variables + a - variables ≡ a = omega arith in
    pick-false (ltb (variables + a) variables) (s.variable (variables + a)) (s.cell (variables + a - variables))
    (le-ltb (variables + a) variables (omega arith))
    ∙ ap s.cell z

memory_size : (s : Store) → length (memory_of s) ≡ memory_words
unfolding memory_of
memory_size s = listed-length (store_word s) 0 memory_words

pub memory-holds : (s : Store) → Holds (memory_of s) s
memory-holds s =
    record {
      size = memory_size s;
      variable = λ x lt. sym (memory-at s x (omega (arith, lt)) ∙ word-variable s x lt);
      cell = λ a lt. sym (memory-at s (variables + a) (omega (arith, lt)) ∙ word_cell s a);
    }

pub memory-fine : (s : Store) → Words s → Fine (memory_of s)
memory-fine s w = record { size = memory_size s; words = λ i. go i (bool_cases (ltb i memory_words)) (bool_cases (ltb i variables)) }
  where
    go :
        (i : ℕ) → (ltb i memory_words ≡ true) ⊎ (ltb i memory_words ≡ false) → (ltb i variables ≡ true) ⊎ (ltb i variables ≡ false) →
        get_or (memory_of s) i 0 < span
    go i (inl h) (inl k) =
        let lt = ltb-true i variables k in
        subst (λ (v : ℕ). v < span) (sym (memory-at s i (ltb-true i memory_words h) ∙ word-variable s i lt)) (w.variable i lt)
    go i (inl h) (inr k) =
        let ge = ltb-false i variables k in
        let lt = ltb-true i memory_words h in
        let z : variables + (i - variables) ≡ i = omega (arith, ge) in
        let e : store_word s i ≡ s.cell (i - variables) = ap (store_word s) (sym z) ∙ word_cell s (i - variables) in
        subst (λ (v : ℕ). v < span) (sym (memory-at s i lt ∙ e)) (w.cell (i - variables) (omega (arith, ge, lt)))
    go i (inr h) k =
        let ge = ltb-false i memory_words h in
        let n = memory_size s in
        let z : get_or (memory_of s) i 0 ≡ 0 = get_or-eq_default (memory_of s) 0 (omega (arith, ge, n)) in
        omega (arith, z)

-- one memory holds a store
pub holds-one : (m n : List ℕ) (s : Store) → Holds m s → Holds n s → m ≡ n
holds-one m n s H K = ext_get_or 0 m n (H.size ∙ sym K.size) (λ i lt. go i lt (bool_cases (ltb i variables)))
  where
    go : (i : ℕ) → i < length m → (ltb i variables ≡ true) ⊎ (ltb i variables ≡ false) → get_or m i 0 ≡ get_or n i 0
    go i lt (inl k) = let l = ltb-true i variables k in sym (H.variable i l) ∙ K.variable i l
    go i lt (inr k) =
        let ge = ltb-false i variables k in
        let e = H.size in
        let z : variables + (i - variables) ≡ i = omega (arith, ge) in
        let l : i - variables < cells = omega (arith, ge, lt, e) in
        subst (λ (j : ℕ). get_or m j 0 ≡ get_or n j 0) z (sym (H.cell (i - variables) l) ∙ K.cell (i - variables) l)

-- what a memory of words holds is words
pub holds-words : (m : List ℕ) (s : Store) → Fine m → Holds m s → Words s
holds-words m s fine H =
    record {
      variable = λ x lt. subst (λ (v : ℕ). v < span) (sym (H.variable x lt)) (fine.words x);
      cell = λ a lt. subst (λ (v : ℕ). v < span) (sym (H.cell a lt)) (fine.words (variables + a));
    }

-- ---- the store of a memory, that is beyond it as another store is
pub store_from : List ℕ → Store → Store
store_from m s =
    record {
      variable = λ x. pick (ltb x variables) (get_or m x 0) (s.variable x);
      cell = λ a. pick (ltb a cells) (get_or m (variables + a) 0) (s.cell a);
    }

pub from-holds : (m : List ℕ) (s : Store) → length m ≡ memory_words → Holds m (store_from m s)
unfolding store_from
from-holds m s size =
    record {
      size = size;
      variable = λ x lt. pick_true (ltb x variables) (get_or m x 0) (s.variable x) (lt-ltb x variables lt);
      cell = λ a lt. pick_true (ltb a cells) (get_or m (variables + a) 0) (s.cell a) (lt-ltb a cells lt);
    }

pub from-outside : (m : List ℕ) (s : Store) → Outside s (store_from m s)
unfolding store_from
from-outside m s =
    record {
      variable = λ x ge. pick-false (ltb x variables) (get_or m x 0) (s.variable x) (le-ltb x variables ge);
      cell = λ a ge. pick-false (ltb a cells) (get_or m (variables + a) 0) (s.cell a) (le-ltb a cells ge);
    }

-- stores that one memory holds, and that are the same beyond it, are the same
pub one_store : (m : List ℕ) (r s t : Store) → Holds m s → Holds m t → Outside r s → Outside r t → s ≡ t
one_store m r s t H K o u = λ i. record { variable = fun_ext values i; cell = fun_ext contents i }
  where
    values : (x : ℕ) → s.variable x ≡ t.variable x
    values x = go (bool_cases (ltb x variables))
      where
        go : (ltb x variables ≡ true) ⊎ (ltb x variables ≡ false) → s.variable x ≡ t.variable x
        go (inl k) = let l = ltb-true x variables k in H.variable x l ∙ sym (K.variable x l)
        go (inr k) = let g = ltb-false x variables k in o.variable x g ∙ sym (u.variable x g)

    contents : (a : ℕ) → s.cell a ≡ t.cell a
    contents a = go (bool_cases (ltb a cells))
      where
        go : (ltb a cells ≡ true) ⊎ (ltb a cells ≡ false) → s.cell a ≡ t.cell a
        go (inl k) = let l = ltb-true a cells k in H.cell a l ∙ sym (K.cell a l)
        go (inr k) = let g = ltb-false a cells k in o.cell a g ∙ sym (u.cell a g)
