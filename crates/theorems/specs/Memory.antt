-- The memory seen by resources: what each of the 32 variables and the heap has. Two memories that show the same are equal, and a
-- write shows at one resource. Assumes nothing.
use Rattle.std.specs.Prelude.{◌≡◌, refl, ◌⊎◌, ◌≢◌, true, false, List, [], ◌∷◌, ℕ, ◌+◌, ◌-◌, ◌<◌, ◌≤◌, length, get_or, set, drop, eqb, ltb}
use Rattle.std.proofs.Common.{sym, ap, ap₂, ◌∙◌, subst, inl, inr, arith, length-set, get_or-set_same, get_or-set_other, drop-set-lt, get_or-drop, ext_get_or, ltb-true, ltb-false, lt-ltb, le-ltb, ne_eqb}
use Rattle.std.proofs.Math.Decide.{ℕ_discrete}
use Rattle.std.proofs.lemmas.List.{drop-set-add}
use Rattle.std.proofs.Math.Seq.{set_out}
use Rattle.theory.specs.Tests.{bool_cases}
use Rattle.rules.specs.Base.{pick}
use Rattle.rules.specs.Value.{span}
use Rattle.rules.specs.Format.{variables}
use Rattle.rules.specs.Names.{heap}
use Rattle.rules.specs.Machine.{memory_words}

-- a variable shows its value, the heap its cells; all show how long the memory is, so that a write is in range or not alike
unfoldable pub look : List ℕ → ℕ → List ℕ
look m r = length m ∷ pick (ltb r heap) (get_or m r 0 ∷ []) (pick (eqb r heap) (drop variables m) [])

pub look-variable : (m : List ℕ) (r : ℕ) → r < heap → look m r ≡ length m ∷ get_or m r 0 ∷ []
unfolding look pick
look-variable m r h = rw (lt-ltb r heap h)

pub look-heap : (m : List ℕ) → look m heap ≡ length m ∷ drop variables m
unfolding look pick
look-heap m = refl

look-far : (m : List ℕ) (r : ℕ) → heap < r → look m r ≡ length m ∷ []
unfolding look pick
look-far m r h = rw (le-ltb r heap (omega arith), ne_eqb r heap (λ e. omega (arith, h, e)))

-- the three kinds of resource
cases : (r : ℕ) → (r < heap) ⊎ (r ≡ heap) ⊎ (heap < r)
cases r = go (bool_cases (ltb r heap)) (ℕ_discrete r heap)
  where
    go : (ltb r heap ≡ true) ⊎ (ltb r heap ≡ false) → Dec (r ≡ heap) → (r < heap) ⊎ (r ≡ heap) ⊎ (heap < r)
    go (inl h) d = inl (ltb-true r heap h)
    go (inr h) (yes e) = inr (inl e)
    go (inr h) (no n) = inr (inr (let g : heap ≤ r = ltb-false r heap h in omega (arith, g, n)))

head : List ℕ → ℕ
head [] = 0
head (x ∷ l) = x

tail : List ℕ → List ℕ
tail [] = []
tail (x ∷ l) = l

pub same_length : (m n : List ℕ) (r : ℕ) → look n r ≡ look m r → length n ≡ length m
unfolding look head
same_length m n r e = ap head e

pub same-variable : (m n : List ℕ) (r : ℕ) → r < heap → look n r ≡ look m r → get_or n r 0 ≡ get_or m r 0
unfolding head tail
same-variable m n r h e = ap (λ (l : List ℕ). head (tail l)) (sym (look-variable n r h) ∙ e ∙ look-variable m r h)

pub same_heap : (m n : List ℕ) → look n heap ≡ look m heap → drop variables n ≡ drop variables m
unfolding tail
same_heap m n e = ap tail (sym (look-heap n) ∙ e ∙ look-heap m)

pub same-cell : (m n : List ℕ) (v : ℕ) → look n heap ≡ look m heap → get_or n (variables + v) 0 ≡ get_or m (variables + v) 0
same-cell m n v e = sym (get_or-drop variables n v 0) ∙ ap (λ (l : List ℕ). get_or l v 0) (same_heap m n e) ∙ get_or-drop variables m v 0

-- memories that show the same are equal
pub same_look : (m n : List ℕ) → ((r : ℕ) → look m r ≡ look n r) → m ≡ n
same_look m n h = ext_get_or 0 m n (same_length n m 0 (h 0)) (λ i lt. at i (bool_cases (ltb i heap)))
  where
    at : (i : ℕ) → (ltb i heap ≡ true) ⊎ (ltb i heap ≡ false) → get_or m i 0 ≡ get_or n i 0
    at i (inl l) = same-variable n m i (ltb-true i heap l) (h i)
    at i (inr l) =
        let g : heap ≤ i = ltb-false i heap l in
        let z : variables + (i - heap) ≡ i = omega arith in
        subst (λ (k : ℕ). get_or m k 0 ≡ get_or n k 0) z (same-cell n m (i - heap) (h heap))

-- ---- writes
set-same_at : (m n : List ℕ) (r at v : ℕ) → length n ≡ length m → get_or n r 0 ≡ get_or m r 0 → get_or (set n at v) r 0 ≡ get_or (set m at v) r 0
set-same_at m n r at v e h = go (ℕ_discrete r at) (bool_cases (ltb at (length m)))
  where
    go : Dec (r ≡ at) → (ltb at (length m) ≡ true) ⊎ (ltb at (length m) ≡ false) → get_or (set n at v) r 0 ≡ get_or (set m at v) r 0
    go (yes q) (inl l) =
        let lm : at < length m = ltb-true at (length m) l in
        let ln : at < length n = omega (arith, e, lm) in
        ap (λ (k : ℕ). get_or (set n at v) k 0) q ∙ get_or-set_same n at v 0 ln ∙ sym (get_or-set_same m at v 0 lm) ∙ ap (λ (k : ℕ). get_or (set m at v) k 0)
        (sym q)
    go (yes q) (inr l) =
        let lm : length m ≤ at = ltb-false at (length m) l in
        let ln : length n ≤ at = omega (arith, e, lm) in
        ap (λ (k : List ℕ). get_or k r 0) (set_out n at v ln) ∙ h ∙ ap (λ (k : List ℕ). get_or k r 0) (sym (set_out m at v lm))
    go (no q) l = get_or-set_other n at r v 0 q ∙ h ∙ sym (get_or-set_other m at r v 0 q)

set-same_heap : (m n : List ℕ) (at v : ℕ) → drop variables n ≡ drop variables m → drop variables (set n at v) ≡ drop variables (set m at v)
set-same_heap m n at v h = go (bool_cases (ltb at variables))
  where
    go : (ltb at variables ≡ true) ⊎ (ltb at variables ≡ false) → drop variables (set n at v) ≡ drop variables (set m at v)
    go (inl l) = let lt : at < variables = ltb-true at variables l in drop-set-lt variables n at v lt ∙ h ∙ sym (drop-set-lt variables m at v lt)
    go (inr l) =
        let ge : variables ≤ at = ltb-false at variables l in
        let z : variables + (at - variables) ≡ at = omega arith in
        subst (λ (k : ℕ). drop variables (set n k v) ≡ drop variables (set m k v)) z
        (drop-set-add variables n (at - variables) v ∙ ap (λ (l : List ℕ). set l (at - variables) v) h ∙ sym
        (drop-set-add variables m (at - variables) v))

-- one write to two memories that show the same at r leaves them so
pub set-look : (m n : List ℕ) (r at v : ℕ) → look n r ≡ look m r → look (set n at v) r ≡ look (set m at v) r
set-look m n r at v e = go (cases r)
  where
    len : length (set n at v) ≡ length (set m at v)
    len = length-set n at v ∙ same_length m n r e ∙ sym (length-set m at v)

    go : (r < heap) ⊎ (r ≡ heap) ⊎ (heap < r) → look (set n at v) r ≡ look (set m at v) r
    go (inl h) =
        look-variable (set n at v) r h
        ∙ ap₂ (λ (a b : ℕ). a ∷ b ∷ []) len (set-same_at m n r at v (same_length m n r e) (same-variable m n r h e))
        ∙ sym (look-variable (set m at v) r h)
    go (inr (inl h)) =
        let e' : look n heap ≡ look m heap = subst (λ (k : ℕ). look n k ≡ look m k) h e in
        subst (λ (k : ℕ). look (set n at v) k ≡ look (set m at v) k) (sym h)
        (look-heap (set n at v) ∙ ap₂ (λ (a : ℕ) (b : List ℕ). a ∷ b) len (set-same_heap m n at v (same_heap m n e')) ∙ sym (look-heap (set m at v)))
    go (inr (inr h)) = look-far (set n at v) r h ∙ ap (λ (a : ℕ). a ∷ []) len ∙ sym (look-far (set m at v) r h)

-- a write to a variable shows at no other resource; one to a cell shows at the heap alone
pub set-variable : (m : List ℕ) (r x v : ℕ) → x < heap → r ≢ x → look (set m x v) r ≡ look m r
set-variable m r x v lx n = go (cases r)
  where
    go : (r < heap) ⊎ (r ≡ heap) ⊎ (heap < r) → look (set m x v) r ≡ look m r
    go (inl h) =
        look-variable (set m x v) r h ∙ ap₂ (λ (a b : ℕ). a ∷ b ∷ []) (length-set m x v) (get_or-set_other m x r v 0 n) ∙ sym (look-variable m r h)
    go (inr (inl h)) =
        subst (λ (k : ℕ). look (set m x v) k ≡ look m k) (sym h)
        (look-heap (set m x v) ∙ ap₂ (λ (a : ℕ) (b : List ℕ). a ∷ b) (length-set m x v) (drop-set-lt variables m x v lx) ∙ sym (look-heap m))
    go (inr (inr h)) = look-far (set m x v) r h ∙ ap (λ (a : ℕ). a ∷ []) (length-set m x v) ∙ sym (look-far m r h)

pub set-cell : (m : List ℕ) (r at v : ℕ) → heap ≤ at → r ≢ heap → look (set m at v) r ≡ look m r
set-cell m r at v la n = go (cases r)
  where
    go : (r < heap) ⊎ (r ≡ heap) ⊎ (heap < r) → look (set m at v) r ≡ look m r
    go (inl h) =
        look-variable (set m at v) r h
        ∙ ap₂ (λ (a b : ℕ). a ∷ b ∷ []) (length-set m at v) (get_or-set_other m at r v 0 (λ e. omega (arith, h, la, e)))
        ∙ sym (look-variable m r h)
    go (inr (inl h)) = absurd (n h)
    go (inr (inr h)) = look-far (set m at v) r h ∙ ap (λ (a : ℕ). a ∷ []) (length-set m at v) ∙ sym (look-far m r h)

-- ---- a memory of 288 words
pub record Fine (m : List ℕ) : Type 0 where
  pub size : length m ≡ memory_words
  pub words : (i : ℕ) → get_or m i 0 < span

pub fine-set : (m : List ℕ) (at v : ℕ) → Fine m → v < span → Fine (set m at v)
fine-set m at v f h = record { size = length-set m at v ∙ f.size; words = λ i. go i (ℕ_discrete i at) (bool_cases (ltb at (length m))) }
  where
    go : (i : ℕ) → Dec (i ≡ at) → (ltb at (length m) ≡ true) ⊎ (ltb at (length m) ≡ false) → get_or (set m at v) i 0 < span
    go i (yes e) (inl l) = subst (λ (k : ℕ). get_or (set m at v) k 0 < span) (sym e) (rw (get_or-set_same m at v 0 (ltb-true at (length m) l)) h)
    go i (yes e) (inr l) = rw (set_out m at v (ltb-false at (length m) l)) (f.words i)
    go i (no n) l = rw (get_or-set_other m at i v 0 n) (f.words i)
