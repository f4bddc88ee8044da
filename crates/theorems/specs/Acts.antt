-- Instructions: what an act writes is fixed by what its instruction names, goes to what the instruction writes, and is words.
-- Assumes that the instruction is fit (laws' Fit).
use Rattle.std.specs.Prelude.{◌≡◌, refl, ◌⊎◌, Bool, true, false, ◌||◌, List, [], ◌∷◌, ℕ, ◌<◌, ◌≤◌, get_or, set, eqb}
use Rattle.std.proofs.Common.{sym, ap, ap₂, ◌∙◌, subst, inl, inr, arith}
use Rattle.theory.specs.Tests.{true_false, eqb_same, or_left, or_right}
use Rattle.rules.specs.Base.{pick}
use Rattle.rules.specs.Value.{span, changed}
use Rattle.rules.specs.Names.{heap, target_names, target_resource, expression_names, semaphore_names, other_names, instruction_writes}
use Rattle.rules.specs.Leaf.{Tried, made, refused, after, target_place, expression_value, update, exchange, semaphore_step, act}
use Rattle.rules.specs.declared.Target.{Target}
use Rattle.rules.specs.declared.Instruction.{Instruction}
use Rattle.laws.proofs.Words.{changed-below}
use Rattle.theorems.specs.Memory.{look, set-look, set-variable, set-cell, same-variable, Fine, fine-set}
use Rattle.laws.specs.Fit.{TargetFit, InstructionFit}
use Rattle.theorems.specs.Evaluate.{made-inj, pick-made, made-pick, after-made, made_after, after-alike, cell-made, Agree, agree_left, agree_right, expression-alike, target-alike, target-value, expression-word}

-- ---- the writes of an instruction, in order: where, and what
record Write : Type 0 where
  at : ℕ
  value : ℕ

abbrev to : ℕ → ℕ → Write
to a v = record { at = a; value = v }

unfoldable written : List Write → List ℕ → List ℕ
written [] m = m
written (w ∷ ws) m = written ws (set m w.at w.value)

unfoldable plan : List ℕ → Instruction → Tried (List Write)
plan m (Instruction.Update change a e) =
    after (target_place m a) (λ at. after (expression_value m e) (λ v. made (to at (changed change (get_or m at 0) v) ∷ [])))
plan m (Instruction.Exchange a b) =
    after (target_place m a) (λ at. after (target_place m b) (λ k. made (to at (get_or m k 0) ∷ to k (get_or m at 0) ∷ [])))
plan m (Instruction.OpV x) = pick (eqb (get_or m x 0) 0) (made (to x 1 ∷ [])) (refused 24)
plan m (Instruction.OpP x) = pick (eqb (get_or m x 0) 1) (made (to x 0 ∷ [])) (refused 24)
plan m (Instruction.Assert e) = after (expression_value m e) (λ v. pick (eqb v 0) (refused 23) (made []))
plan m Instruction.Skip = made []
plan m (Instruction.Call n) = made []

carried : List ℕ → Tried (List Write) → Tried (List ℕ)
carried m t = after t (λ ws. made (written ws m))

-- an act is its plan, carried out
act-plan : (m : List ℕ) (i : Instruction) → act m i ≡ carried m (plan m i)
unfolding act plan carried written update exchange semaphore_step after pick
act-plan m (Instruction.Update change a e) = go (target_place m a) (expression_value m e)
  where
    go :
        (t : Tried ℕ) (u : Tried ℕ) →
        after t (λ at. after u (λ v. made (set m at (changed change (get_or m at 0) v)))) ≡ carried m
        (after t (λ at. after u (λ v. made (to at (changed change (get_or m at 0) v) ∷ []))))
    go (made at) (made v) = refl
    go (made at) (refused c) = refl
    go (refused c) u = refl
act-plan m (Instruction.Exchange a b) = go (target_place m a) (target_place m b)
  where
    go :
        (t u : Tried ℕ) →
        after t (λ at. after u (λ k. made (set (set m at (get_or m k 0)) k (get_or m at 0)))) ≡ carried m
        (after t (λ at. after u (λ k. made (to at (get_or m k 0) ∷ to k (get_or m at 0) ∷ []))))
    go (made at) (made v) = refl
    go (made at) (refused c) = refl
    go (refused c) u = refl
act-plan m (Instruction.OpV x) = go (eqb (get_or m x 0) 0)
  where
    go : (t : Bool) → pick t (made (set m x 1)) (refused 24) ≡ carried m (pick t (made (to x 1 ∷ [])) (refused 24))
    go true = refl
    go false = refl
act-plan m (Instruction.OpP x) = go (eqb (get_or m x 0) 1)
  where
    go : (t : Bool) → pick t (made (set m x 0)) (refused 24) ≡ carried m (pick t (made (to x 0 ∷ [])) (refused 24))
    go true = refl
    go false = refl
act-plan m (Instruction.Assert e) = go (expression_value m e)
  where
    last : (t : Bool) → pick t (refused 23) (made m) ≡ carried m (pick t (refused 23) (made []))
    last true = refl
    last false = refl

    go : (t : Tried ℕ) → after t (λ v. pick (eqb v 0) (refused 23) (made m)) ≡ carried m (after t (λ v. pick (eqb v 0) (refused 23) (made [])))
    go (made v) = last (eqb v 0)
    go (refused c) = refl
act-plan m Instruction.Skip = refl
act-plan m (Instruction.Call n) = refl

record Planned (m : List ℕ) (i : Instruction) (m' : List ℕ) : Type 0 where
  writes : List Write
  planned : plan m i ≡ made writes
  result : m' ≡ written writes m

planned-of : (m : List ℕ) (i : Instruction) (m' : List ℕ) → act m i ≡ made m' → Planned m i m'
unfolding carried
planned-of m i m' h =
    let x = after-made (plan m i) (λ ws. made (written ws m)) m' (sym (act-plan m i) ∙ h) in
    record { writes = x.0; planned = x.1; result = sym (made-inj (written x.0 m) m' x.2) }

-- ---- an act on another memory that shows the same at what is named
plan-alike : (m n : List ℕ) (i : Instruction) → InstructionFit i → Agree (λ r. other_names i r || semaphore_names i r) m n → plan n i ≡ plan m i
unfolding plan
plan-alike m n (Instruction.Update change a e) f h =
    let h' = agree_left (other_names (Instruction.Update change a e)) (λ r. false) m n h in
    let ha = agree_left (target_names a) (expression_names e) m n h' in
    let he = agree_right (target_names a) (expression_names e) m n h' in
    after-alike (target_place n a) (target_place m a) _ _ (target-alike m n a f.0 ha)
    (λ at q. after-alike (expression_value n e) (expression_value m e) _ _ (expression-alike m n e f.1 he)
    (λ v p. ap (λ (k : ℕ). made (to at (changed change k v) ∷ [])) (target-value m n a at f.0 ha q)))
plan-alike m n (Instruction.Exchange a b) f h =
    let h' = agree_left (other_names (Instruction.Exchange a b)) (λ r. false) m n h in
    let ha = agree_left (target_names a) (target_names b) m n h' in
    let hb = agree_right (target_names a) (target_names b) m n h' in
    after-alike (target_place n a) (target_place m a) _ _ (target-alike m n a f.0 ha)
    (λ at q. after-alike (target_place n b) (target_place m b) _ _ (target-alike m n b f.1 hb)
    (λ k p. ap₂ (λ (u v : ℕ). made (to at u ∷ to k v ∷ [])) (target-value m n b k f.1 hb p) (target-value m n a at f.0 ha q)))
plan-alike m n (Instruction.OpV x) f h =
    ap (λ (v : ℕ). pick (eqb v 0) (made (to x 1 ∷ [])) (refused 24)) (same-variable m n x f (h x (or_right false (eqb x x) (eqb_same x x refl))))
plan-alike m n (Instruction.OpP x) f h =
    ap (λ (v : ℕ). pick (eqb v 1) (made (to x 0 ∷ [])) (refused 24)) (same-variable m n x f (h x (or_right false (eqb x x) (eqb_same x x refl))))
plan-alike m n (Instruction.Assert e) f h =
    ap (λ (t : Tried ℕ). after t (λ v. pick (eqb v 0) (refused 23) (made [])))
    (expression-alike m n e f (agree_left (expression_names e) (λ r. false) m n h))
plan-alike m n Instruction.Skip f h = refl
plan-alike m n (Instruction.Call k) f h = refl

written-look : (ws : List Write) (m n : List ℕ) (r : ℕ) → look n r ≡ look m r → look (written ws n) r ≡ look (written ws m) r
unfolding written
written-look [] m n r h = h
written-look (w ∷ ws) m n r h = written-look ws (set m w.at w.value) (set n w.at w.value) r (set-look m n r w.at w.value h)

pub act-alike :
    (m n : List ℕ) (i : Instruction) (m' : List ℕ) → InstructionFit i → Agree (λ r. other_names i r || semaphore_names i r) m n → act m i ≡ made m' →
    (n' : List ℕ) × (act n i ≡ made n') × ((r : ℕ) → look n r ≡ look m r → look n' r ≡ look m' r)
unfolding carried
act-alike m n i m' f h e =
    let p = planned-of m i m' e in
    let q : plan n i ≡ made p.writes = plan-alike m n i f h ∙ p.planned in (
      written p.writes n,
      act-plan n i ∙ made_after (plan n i) (λ ws. made (written ws n)) p.writes q,
      (λ r k. written-look p.writes m n r k ∙ ap (λ (l : List ℕ). look l r) (sym p.result)),
    )

-- ---- each write goes to a resource that the instruction writes, and is a word
record Own (i : Instruction) (w : Write) : Type 0 where
  mine : ((w.at < heap) × (instruction_writes i w.at ≡ true)) ⊎ ((heap ≤ w.at) × (instruction_writes i heap ≡ true))

abbrev AllOwn : Instruction → List Write → Type 0
AllOwn i [] = Unit {0}
AllOwn i (w ∷ ws) = Own i w × AllOwn i ws

target-own :
    (m : List ℕ) (a : Target) (at : ℕ) → TargetFit a → target_place m a ≡ made at →
    ((at < heap) × (eqb (target_resource a) at ≡ true)) ⊎ ((heap ≤ at) × (eqb (target_resource a) heap ≡ true))
unfolding target_place
target-own m (Target.Variable x) at f e = let q = made-inj x at e in inl (subst (λ (k : ℕ). k < heap) q f, eqb_same x at q)
target-own m (Target.Cell x) at f e = let q = cell-made m x at e in inr (omega (arith, q.0), refl)

plan-own : (m : List ℕ) (i : Instruction) (ws : List Write) → InstructionFit i → plan m i ≡ made ws → AllOwn i ws
unfolding plan
plan-own m (Instruction.Update change a e) ws f h =
    let x = after-made (target_place m a) _ ws h in
    let y = after-made (expression_value m e) _ ws x.2 in
    subst (AllOwn (Instruction.Update change a e)) (made-inj (to x.0 (changed change (get_or m x.0 0) y.0) ∷ []) ws y.2)
    (record { mine = target-own m a x.0 f.0 x.1 }, tt)
plan-own m (Instruction.Exchange a b) ws f h =
    let x = after-made (target_place m a) _ ws h in
    let y = after-made (target_place m b) _ ws x.2 in
    subst (AllOwn (Instruction.Exchange a b)) (made-inj (to x.0 (get_or m y.0 0) ∷ to y.0 (get_or m x.0 0) ∷ []) ws y.2)
    (record { mine = left x.0 (target-own m a x.0 f.0 x.1) }, (record { mine = right y.0 (target-own m b y.0 f.1 y.1) }, tt))
  where
    left :
        (at : ℕ) → ((at < heap) × (eqb (target_resource a) at ≡ true)) ⊎ ((heap ≤ at) × (eqb (target_resource a) heap ≡ true)) →
        ((at < heap) × (instruction_writes (Instruction.Exchange a b) at ≡ true)) ⊎
        ((heap ≤ at) × (instruction_writes (Instruction.Exchange a b) heap ≡ true))
    left at (inl x) = inl (x.0, or_left (eqb (target_resource a) at) (eqb (target_resource b) at) x.1)
    left at (inr x) = inr (x.0, or_left (eqb (target_resource a) heap) (eqb (target_resource b) heap) x.1)

    right :
        (at : ℕ) → ((at < heap) × (eqb (target_resource b) at ≡ true)) ⊎ ((heap ≤ at) × (eqb (target_resource b) heap ≡ true)) →
        ((at < heap) × (instruction_writes (Instruction.Exchange a b) at ≡ true)) ⊎
        ((heap ≤ at) × (instruction_writes (Instruction.Exchange a b) heap ≡ true))
    right at (inl x) = inl (x.0, or_right (eqb (target_resource a) at) (eqb (target_resource b) at) x.1)
    right at (inr x) = inr (x.0, or_right (eqb (target_resource a) heap) (eqb (target_resource b) heap) x.1)
plan-own m (Instruction.OpV x) ws f h =
    let p = pick-made (eqb (get_or m x 0) 0) (made (to x 1 ∷ [])) 24 ws h in
    subst (AllOwn (Instruction.OpV x)) (made-inj (to x 1 ∷ []) ws p.1) (record { mine = inl (f, eqb_same x x refl) }, tt)
plan-own m (Instruction.OpP x) ws f h =
    let p = pick-made (eqb (get_or m x 0) 1) (made (to x 0 ∷ [])) 24 ws h in
    subst (AllOwn (Instruction.OpP x)) (made-inj (to x 0 ∷ []) ws p.1) (record { mine = inl (f, eqb_same x x refl) }, tt)
plan-own m (Instruction.Assert e) ws f h =
    let x = after-made (expression_value m e) _ ws h in
    let y = made-pick (eqb x.0 0) (made []) 23 ws x.2 in
    subst (AllOwn (Instruction.Assert e)) (made-inj [] ws y.1) tt
plan-own m Instruction.Skip ws f h = subst (AllOwn Instruction.Skip) (made-inj [] ws h) tt
plan-own m (Instruction.Call k) ws f h = subst (AllOwn (Instruction.Call k)) (made-inj [] ws h) tt

written_keeps :
    (i : Instruction) (ws : List Write) (m : List ℕ) (r : ℕ) → AllOwn i ws → instruction_writes i r ≡ false → look (written ws m) r ≡ look m r
unfolding written
written_keeps i [] m r o h = refl
written_keeps i (w ∷ ws) m r o h = written_keeps i ws (set m w.at w.value) r o.1 h ∙ go o.0.mine
  where
    go :
        ((w.at < heap) × (instruction_writes i w.at ≡ true)) ⊎ ((heap ≤ w.at) × (instruction_writes i heap ≡ true)) →
        look (set m w.at w.value) r ≡ look m r
    go (inl x) = set-variable m r w.at w.value x.0 (λ e. true_false x.1 (subst (λ (k : ℕ). instruction_writes i k ≡ false) e h))
    go (inr x) = set-cell m r w.at w.value x.0 (λ e. true_false x.1 (subst (λ (k : ℕ). instruction_writes i k ≡ false) e h))

-- an act changes nothing but what its instruction writes
pub act-keeps :
    (m : List ℕ) (i : Instruction) (m' : List ℕ) → InstructionFit i → act m i ≡ made m' → (r : ℕ) → instruction_writes i r ≡ false →
    look m' r ≡ look m r
act-keeps m i m' f e r h =
    let p = planned-of m i m' e in
    ap (λ (l : List ℕ). look l r) p.result ∙ written_keeps i p.writes m r (plan-own m i p.writes f p.planned) h

-- ---- what an act leaves is words
abbrev AllWords : List Write → Type 0
AllWords [] = Unit {0}
AllWords (w ∷ ws) = (w.value < span) × AllWords ws

plan-words : (m : List ℕ) (i : Instruction) (ws : List Write) → Fine m → InstructionFit i → plan m i ≡ made ws → AllWords ws
unfolding plan
plan-words m (Instruction.Update change a e) ws k f h =
    let x = after-made (target_place m a) _ ws h in
    let y = after-made (expression_value m e) _ ws x.2 in
    subst AllWords (made-inj (to x.0 (changed change (get_or m x.0 0) y.0) ∷ []) ws y.2)
    (changed-below change (get_or m x.0 0) y.0 (k.words x.0) (expression-word m k e y.0 f.1 y.1), tt)
plan-words m (Instruction.Exchange a b) ws k f h =
    let x = after-made (target_place m a) _ ws h in
    let y = after-made (target_place m b) _ ws x.2 in
    subst AllWords (made-inj (to x.0 (get_or m y.0 0) ∷ to y.0 (get_or m x.0 0) ∷ []) ws y.2) (k.words y.0, (k.words x.0, tt))
plan-words m (Instruction.OpV x) ws k f h =
    let p = pick-made (eqb (get_or m x 0) 0) (made (to x 1 ∷ [])) 24 ws h in
    subst AllWords (made-inj (to x 1 ∷ []) ws p.1) (omega arith, tt)
plan-words m (Instruction.OpP x) ws k f h =
    let p = pick-made (eqb (get_or m x 0) 1) (made (to x 0 ∷ [])) 24 ws h in
    subst AllWords (made-inj (to x 0 ∷ []) ws p.1) (omega arith, tt)
plan-words m (Instruction.Assert e) ws k f h =
    let x = after-made (expression_value m e) _ ws h in
    let y = made-pick (eqb x.0 0) (made []) 23 ws x.2 in
    subst AllWords (made-inj [] ws y.1) tt
plan-words m Instruction.Skip ws k f h = subst AllWords (made-inj [] ws h) tt
plan-words m (Instruction.Call n) ws k f h = subst AllWords (made-inj [] ws h) tt

written-fine : (ws : List Write) (m : List ℕ) → Fine m → AllWords ws → Fine (written ws m)
unfolding written
written-fine [] m f h = f
written-fine (w ∷ ws) m f h = written-fine ws (set m w.at w.value) (fine-set m w.at w.value f h.0) h.1

pub act-fine : (m : List ℕ) (i : Instruction) (m' : List ℕ) → Fine m → InstructionFit i → act m i ≡ made m' → Fine m'
act-fine m i m' k f e =
    let p = planned-of m i m' e in
    subst Fine (sym p.result) (written-fine p.writes m k (plan-words m i p.writes k f p.planned))
