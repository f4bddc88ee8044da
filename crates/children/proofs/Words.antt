-- The words of the children's rows, and of the first of them. Assumes nothing.
use mathlib.Core.Path.{◌≡◌, refl, sym, ap, ap₂, ◌∙◌}
use mathlib.Core.List.{List, [], ◌∷◌, ◌++◌, append_assoc}
use Prim.Native.Nat.{ℕ, zero, suc, ◌+◌, ◌-◌, ◌*◌, ◌<◌}
use native.Mathlib.Nat.{not-suc-le-zero}
use native.Mathlib.Omega.{arith}
use lib.ListN.{length, take, get_or, set}
use lib.Seq.{length-take-le}
use Rattle.rules.specs.Base.{zeros}
use Rattle.rules.specs.Machine.{child, pack_rows}
use Rattle.rules.specs.Step.{child_rows}

three-more : (n : ℕ) → 3 * suc n ≡ suc (suc (suc (3 * n)))
three-more n = omega arith

-- the words of the rows of labels, from child `from` on
abbrev pub packed : ℕ → ℕ → ℕ → List ℕ → List ℕ
packed p stage from ls = pack_rows (child_rows p stage from ls)

-- the words of the first n rows are those of the first n labels
pub first_rows : (p stage i n : ℕ) (ls : List ℕ) → take (3 * n) (packed p stage i ls) ≡ packed p stage i (take n ls)
unfolding pack_rows child_rows
first_rows p stage i zero ls = refl
first_rows p stage i (suc n) [] = ap (λ (k : ℕ). take {A = ℕ} k []) (three-more n)
first_rows p stage i (suc n) (l ∷ ls) =
    ap (λ (k : ℕ). take k (packed p stage i (l ∷ ls))) (three-more n)
    ∙ ap (λ (r : List ℕ). (16 * p + i) ∷ l ∷ stage ∷ r) (first_rows p stage (suc i) n ls)

length-packed : (p stage from : ℕ) (ls : List ℕ) → length (packed p stage from ls) ≡ 3 * length ls
unfolding pack_rows child_rows
length-packed p stage from [] = refl
length-packed p stage from (l ∷ ls) = let e = length-packed p stage (suc from) ls in omega arith

-- one label more
row-more : (p stage from : ℕ) (ls : List ℕ) (i : ℕ) → i < length ls
    → packed p stage from (take (suc i) ls) ≡ packed p stage from (take i ls) ++ child p (from + i) ∷ get_or ls i 0 ∷ stage ∷ []
unfolding pack_rows child_rows
row-more p stage from [] i h = absurd (not-suc-le-zero h)
row-more p stage from (l ∷ ls) zero h = ap (λ (k : ℕ). child p k ∷ l ∷ stage ∷ []) (omega arith)
row-more p stage from (l ∷ ls) (suc i) h =
    ap (λ (r : List ℕ). child p from ∷ l ∷ stage ∷ r)
    (row-more p stage (suc from) ls i (omega arith)
    ∙ ap (λ (k : ℕ). packed p stage (suc from) (take i ls) ++ child p k ∷ get_or ls i 0 ∷ stage ∷ []) (omega arith))

-- three words written behind those that are there
three-set : (done : List ℕ) (a b c x y z : ℕ) (rest : List ℕ)
    → set (set (set (done ++ a ∷ b ∷ c ∷ rest) (length done) x) (suc (length done)) y) (suc (suc (length done))) z ≡ done ++ x ∷ y ∷ z ∷ rest
three-set [] a b c x y z rest = refl
three-set (d ∷ done) a b c x y z rest = ap (λ (l : List ℕ). d ∷ l) (three-set done a b c x y z rest)

-- the row of label i written, behind those before it
pub row-written : (p stage : ℕ) (labels rows : List ℕ) (i : ℕ) {x y : ℕ} → rows ≡ packed p stage 1 (take i labels) ++ zeros (24 - 3 * i)
    → length labels ≡ 8 → i < 8 → x ≡ child p (i + 1) → y ≡ get_or labels i 0
    → set (set (set rows (3 * i) x) (3 * i + 1) y) (3 * i + 2) stage ≡ packed p stage 1 (take (i + 1) labels) ++ zeros (24 - 3 * (i + 1))
row-written p stage labels rows i {x} {y} e l h f g =
    let done : List ℕ = packed p stage 1 (take i labels) in
    let rest : List ℕ = zeros (24 - 3 * (i + 1)) in
    let n : 3 * i ≡ length done = omega (arith, length-packed p stage 1 (take i labels), length-take-le i labels (omega arith)) in
    let n1 : 3 * i + 1 ≡ suc (length done) = omega (arith, n) in
    let n2 : 3 * i + 2 ≡ suc (suc (length done)) = omega (arith, n) in
    let k : 24 - 3 * i ≡ suc (suc (suc (24 - 3 * (i + 1)))) = omega arith in
    let s : i + 1 ≡ suc i = omega arith in
    let m : packed p stage 1 (take (i + 1) labels) ≡ done ++ x ∷ y ∷ stage ∷ [] =
    ap (λ (j : ℕ). packed p stage 1 (take j labels)) s
    ∙ row-more p stage 1 labels i (omega arith)
    ∙ ap₂ (λ (a b : ℕ). done ++ a ∷ b ∷ stage ∷ []) (ap (λ (j : ℕ). child p j) (omega arith) ∙ sym f) (sym g) in
    rw (e, k, n1, n2, n)
    (three-set done 0 0 0 x y stage rest ∙ sym (append_assoc done (x ∷ y ∷ stage ∷ []) rest) ∙ sym (ap (λ (w : List ℕ). w ++ rest) m))
