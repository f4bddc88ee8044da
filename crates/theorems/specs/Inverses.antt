-- An act is taken back by the inverse instruction. Assumes that the instruction is fit (laws' Fit), so that it does not change what it
-- reads (code 7), and that the memory is 288 words.
use Rattle.std.specs.Prelude.{◌≡◌, refl, ◌≢◌, false, List, ℕ, ◌+◌, ◌<◌, length, get_or, set, eqb, ltb}
use Rattle.std.proofs.Common.{sym, ap, ap₂, ◌∙◌, subst, arith, length-set, get_or-set_same, get_or-set_other, set-set, eqb-true}
use Rattle.std.proofs.Math.Decide.{ℕ_discrete}
use Rattle.std.proofs.lemmas.List.{set_comm, set-get_or}
use Rattle.std.proofs.lemmas.Bool.{eqb-false}
use Rattle.theory.specs.Tests.{true_false, eqb_same, or-false}
use Rattle.rules.specs.Base.{pick}
use Rattle.rules.specs.Value.{changed}
use Rattle.rules.specs.Format.{variables, cells}
use Rattle.rules.specs.Names.{heap, target_resource, expression_names}
use Rattle.rules.specs.Read.{updates_itself, exchanges_itself}
use Rattle.rules.specs.Leaf.{made, refused, cell_place, target_place, expression_value, update, exchange, semaphore_step, act, inverse, inverse_change}
use Rattle.rules.specs.declared.Target.{Target}
use Rattle.rules.specs.declared.Expression.{Expression}
use Rattle.rules.specs.declared.Change.{Change}
use Rattle.rules.specs.declared.Instruction.{Instruction}
use Rattle.laws.proofs.Words.{changed-back}
use Rattle.laws.proofs.Lists.{pick_true}
use Rattle.theorems.specs.Memory.{look, set-variable, set-cell, Fine}
use Rattle.laws.specs.Fit.{TargetFit, InstructionFit}
use Rattle.theorems.specs.Evaluate.{made-inj, pick-made, made-pick, after-made, made_after, cell-made, expression-alike, expression-word}

-- where a target lies, it lies in memory
target-in : (m : List ℕ) (a : Target) (at : ℕ) → Fine m → TargetFit a → target_place m a ≡ made at → at < length m
unfolding target_place
target-in m (Target.Variable x) at k f e = let q = made-inj x at e in omega (arith, q, f, k.size)
target-in m (Target.Cell x) at k f e = let q = cell-made m x at e in omega (arith, q.0, q.1, k.size)

-- a target lies there still, where the variable of its address is as it was
target-again :
    (m n : List ℕ) (a : Target) (at : ℕ) → ((x : ℕ) → a ≡ Target.Cell x → get_or n x 0 ≡ get_or m x 0) → target_place m a ≡ made at →
    target_place n a ≡ made at
unfolding target_place cell_place
target-again m n (Target.Variable x) at h e = e
target-again m n (Target.Cell x) at h e = ap (λ (v : ℕ). pick (ltb v cells) (made (variables + v)) (refused 25)) (h x refl) ∙ e

-- writing to a target shows at its resource alone
target_writes_so :
    (m : List ℕ) (a : Target) (at v r : ℕ) → TargetFit a → target_place m a ≡ made at → r ≢ target_resource a → look (set m at v) r ≡ look m r
unfolding target_place
target_writes_so m (Target.Variable x) at v r f e n =
    let q = made-inj x at e in set-variable m r at v (subst (λ (k : ℕ). k < heap) q f) (λ z. n (z ∙ sym q))
target_writes_so m (Target.Cell x) at v r f e n = let q = cell-made m x at e in set-cell m r at v (omega (arith, q.0)) n

cell-inj : (x y : ℕ) → Target.Cell x ≡ Target.Cell y → x ≡ y
cell-inj x y h = cc

not_cell : (x y : ℕ) → Target.Variable x ≡ Target.Cell y → ⊥
not_cell x y h = let z : ◌≡◌ {A = ℕ} 0 1 = cc in omega arith

-- the address of the target of an update is not what it writes
address_kept :
    (m : List ℕ) (a : Target) (at v : ℕ) → TargetFit a → target_place m a ≡ made at → (x : ℕ) → a ≡ Target.Cell x → get_or (set m at v) x 0 ≡ get_or m x 0
unfolding target_place
address_kept m (Target.Variable y) at v f e x h = absurd (not_cell y x h)
address_kept m (Target.Cell y) at v f e x h =
    let q = cell-made m y at e in
    let z = cell-inj y x h in
    get_or-set_other m at x v 0 (λ w. omega (arith, q.0, f, w, z))

update-back :
    (m : List ℕ) (change : Change) (a : Target) (e : Expression) (m' : List ℕ) → Fine m → InstructionFit (Instruction.Update change a e) →
    update m change a e ≡ made m' → update m' (inverse_change change) a e ≡ made m
unfolding update updates_itself
update-back m change a e m' k f h =
    let x = after-made (target_place m a) _ m' h in
    let at = x.0 in
    let y = after-made (expression_value m e) _ m' x.2 in
    let v = y.0 in
    let w = changed change (get_or m at 0) v in
    let is : set m at w ≡ m' = made-inj (set m at w) m' y.2 in
    let t : target_place (set m at w) a ≡ made at = target-again m (set m at w) a at (address_kept m a at w f.0 x.1) x.1 in
    let ev : expression_value (set m at w) e ≡ made v =
    expression-alike m (set m at w) e f.1
    (λ r n. target_writes_so m a at w r f.0 x.1 (λ z. true_false n (subst (λ (j : ℕ). expression_names e j ≡ false) (sym z) f.2))) ∙ y.1 in
    let g : get_or (set m at w) at 0 ≡ w = get_or-set_same m at w 0 (target-in m a at k f.0 x.1) in
    let b : changed (inverse_change change) w v ≡ get_or m at 0 =
    changed-back change (get_or m at 0) v (k.words at) (expression-word m k e v f.1 y.1) in
    let r : update (set m at w) (inverse_change change) a e ≡ made m =
    made_after (target_place (set m at w) a) _ at t
    ∙ made_after (expression_value (set m at w) e) _ v ev
    ∙ ap (λ (j : ℕ). made (set (set m at w) at (changed (inverse_change change) j v))) g
    ∙ ap (λ (j : ℕ). made (set (set m at w) at j)) b
    ∙ ap made (set-set m at w (get_or m at 0) ∙ set-get_or m at 0) in
    subst (λ (l : List ℕ). update l (inverse_change change) a e ≡ made m) is r

-- two places exchanged twice
swap_twice : (m : List ℕ) (at k : ℕ) → at < length m → k < length m →
    set (set (set (set m at (get_or m k 0)) k (get_or m at 0)) at (get_or (set (set m at (get_or m k 0)) k (get_or m at 0)) k 0)) k
    (get_or (set (set m at (get_or m k 0)) k (get_or m at 0)) at 0) ≡ m
swap_twice m at k la lk = go (ℕ_discrete at k)
  where
    A : ℕ
    A = get_or m at 0

    B : ℕ
    B = get_or m k 0

    n : List ℕ
    n = set (set m at B) k A

    nk : get_or n k 0 ≡ A
    nk = let z = length-set m at B in get_or-set_same (set m at B) k A 0 (omega (arith, z, lk))

    go : Dec (at ≡ k) → set (set n at (get_or n k 0)) k (get_or n at 0) ≡ m
    go (yes e) =
        let BA : B ≡ A = ap (λ (j : ℕ). get_or m j 0) (sym e) in
        let m₁ : n ≡ m = ap (λ (j : ℕ). set (set m at B) j A) (sym e) ∙ set-set m at B A ∙ set-get_or m at 0 in
        let s : set (set n at (get_or n k 0)) k (get_or n at 0) ≡ set (set m at (get_or m k 0)) k (get_or m at 0) =
        ap (λ (l : List ℕ). set (set l at (get_or l k 0)) k (get_or l at 0)) m₁ in
        s ∙ m₁
    go (no d) =
        let na : get_or n at 0 ≡ B = get_or-set_other (set m at B) k at A 0 d ∙ get_or-set_same m at B 0 la in
        let s₁ : set n at A ≡ set m k A =
        ap (λ (l : List ℕ). set l at A) (set_comm m at k B A d) ∙ set-set (set m k A) at B A ∙ sym (set_comm m at k A A d) ∙ ap
        (λ (l : List ℕ). set l k A) (set-get_or m at 0) in
        ap₂ (λ (u v : ℕ). set (set n at u) k v) nk na ∙ ap (λ (l : List ℕ). set l k B) s₁ ∙ set-set m k A B ∙ set-get_or m k 0

-- the addresses of an exchange are not what it writes
first-kept :
    (m : List ℕ) (a b : Target) (at k u v : ℕ) → TargetFit a → TargetFit b → exchanges_itself a b ≡ false → target_place m a ≡ made at →
    target_place m b ≡ made k → (x : ℕ) → a ≡ Target.Cell x → get_or (set (set m at u) k v) x 0 ≡ get_or m x 0
unfolding exchanges_itself target_place
first-kept m (Target.Variable y) b at k u v fa fb o ea eb x h = absurd (not_cell y x h)
first-kept m (Target.Cell y) (Target.Variable z) at k u v fa fb o ea eb x h =
    let q = cell-made m y at ea in
    let e = cell-inj y x h in
    let p : z ≡ k = made-inj z k eb in
    get_or-set_other (set m at u) k x v 0 (λ w. eqb-false z y o (p ∙ sym w ∙ sym e)) ∙ get_or-set_other m at x u 0 (λ w. omega (arith, q.0, fa, w, e))
first-kept m (Target.Cell y) (Target.Cell z) at k u v fa fb o ea eb x h =
    let q = cell-made m y at ea in
    let p = cell-made m z k eb in
    let e = cell-inj y x h in
    get_or-set_other (set m at u) k x v 0 (λ w. omega (arith, p.0, fa, w, e)) ∙ get_or-set_other m at x u 0 (λ w. omega (arith, q.0, fa, w, e))

second-kept :
    (m : List ℕ) (a b : Target) (at k u v : ℕ) → TargetFit a → TargetFit b → exchanges_itself a b ≡ false → target_place m a ≡ made at →
    target_place m b ≡ made k → (x : ℕ) → b ≡ Target.Cell x → get_or (set (set m at u) k v) x 0 ≡ get_or m x 0
unfolding exchanges_itself target_place
second-kept m a (Target.Variable y) at k u v fa fb o ea eb x h = absurd (not_cell y x h)
second-kept m (Target.Variable z) (Target.Cell y) at k u v fa fb o ea eb x h =
    let q = cell-made m y k eb in
    let e = cell-inj y x h in
    let p : z ≡ at = made-inj z at ea in
    let d = (or-false (eqb y z) (eqb heap z) o).0 in
    get_or-set_other (set m at u) k x v 0 (λ w. omega (arith, q.0, fb, w, e)) ∙ get_or-set_other m at x u 0 (λ w. eqb-false y z d (e ∙ w ∙ sym p))
second-kept m (Target.Cell z) (Target.Cell y) at k u v fa fb o ea eb x h =
    let q = cell-made m y k eb in
    let p = cell-made m z at ea in
    let e = cell-inj y x h in
    get_or-set_other (set m at u) k x v 0 (λ w. omega (arith, q.0, fb, w, e)) ∙ get_or-set_other m at x u 0 (λ w. omega (arith, p.0, fb, w, e))

exchange-back :
    (m : List ℕ) (a b : Target) (m' : List ℕ) → Fine m → InstructionFit (Instruction.Exchange a b) → exchange m a b ≡ made m' →
    exchange m' a b ≡ made m
unfolding exchange
exchange-back m a b m' fm f h =
    let x = after-made (target_place m a) _ m' h in
    let at = x.0 in
    let y = after-made (target_place m b) _ m' x.2 in
    let k = y.0 in
    let n : List ℕ = set (set m at (get_or m k 0)) k (get_or m at 0) in
    let is : n ≡ m' = made-inj n m' y.2 in
    let ta = target-again m n a at (first-kept m a b at k (get_or m k 0) (get_or m at 0) f.0 f.1 f.2 x.1 y.1) x.1 in
    let tb = target-again m n b k (second-kept m a b at k (get_or m k 0) (get_or m at 0) f.0 f.1 f.2 x.1 y.1) y.1 in
    let r : exchange n a b ≡ made m =
    made_after (target_place n a) _ at ta ∙ made_after (target_place n b) _ k tb
    ∙ ap made (swap_twice m at k (target-in m a at fm f.0 x.1) (target-in m b k fm f.1 y.1)) in
    subst (λ (l : List ℕ). exchange l a b ≡ made m) is r

semaphore-back :
    (m : List ℕ) (x needs leaves : ℕ) (m' : List ℕ) → Fine m → x < variables → semaphore_step m x needs leaves ≡ made m' →
    semaphore_step m' x leaves needs ≡ made m
unfolding semaphore_step
semaphore-back m x needs leaves m' k f h =
    let p = pick-made (eqb (get_or m x 0) needs) (made (set m x leaves)) 24 m' h in
    let is : set m x leaves ≡ m' = made-inj (set m x leaves) m' p.1 in
    let e : get_or m x 0 ≡ needs = eqb-true (get_or m x 0) needs p.0 in
    let g : get_or (set m x leaves) x 0 ≡ leaves = get_or-set_same m x leaves 0 (omega (arith, k.size, f)) in
    let r : semaphore_step (set m x leaves) x leaves needs ≡ made m =
    pick_true (eqb (get_or (set m x leaves) x 0) leaves) (made (set (set m x leaves) x needs)) (refused 24)
    (eqb_same (get_or (set m x leaves) x 0) leaves g)
    ∙ ap made (set-set m x leaves needs ∙ ap (set m x) (sym e) ∙ set-get_or m x 0) in
    subst (λ (l : List ℕ). semaphore_step l x leaves needs ≡ made m) is r

assert-same : (m : List ℕ) (e : Expression) (m' : List ℕ) → act m (Instruction.Assert e) ≡ made m' → m ≡ m'
unfolding act
assert-same m e m' h =
    let x = after-made (expression_value m e) _ m' h in
    made-inj m m' (made-pick (eqb x.0 0) (made m) 23 m' x.2).1

pub act-back : (m : List ℕ) (i : Instruction) (m' : List ℕ) → Fine m → InstructionFit i → act m i ≡ made m' → act m' (inverse i) ≡ made m
unfolding act
act-back m (Instruction.Update change a e) m' k f h = update-back m change a e m' k f h
act-back m (Instruction.Exchange a b) m' k f h = exchange-back m a b m' k f h
act-back m (Instruction.OpV x) m' k f h = semaphore-back m x 0 1 m' k f h
act-back m (Instruction.OpP x) m' k f h = semaphore-back m x 1 0 m' k f h
act-back m (Instruction.Assert e) m' k f h =
    let s = assert-same m e m' h in
    subst (λ (l : List ℕ). act l (Instruction.Assert e) ≡ made m) s (h ∙ ap made (sym s))
act-back m Instruction.Skip m' k f h = ap made (sym (made-inj m m' h))
act-back m (Instruction.Call n) m' k f h = ap made (sym (made-inj m m' h))
