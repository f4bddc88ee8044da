-- Evaluation depends on the resources that are named, and gives words. Assumes that what is evaluated is fit (laws' Fit).
use Rattle.std.specs.Prelude.{◌≡◌, Bool, ◌||◌, List, ℕ, ◌+◌, ◌<◌, ltb}
use Rattle.std.proofs.Math.Path.{refl, ap, subst}
use Rattle.std.proofs.Common.{sym, ltb-true}
use Rattle.std.proofs.Math.Bool.{true, false}
use Rattle.std.proofs.Math.ListN.{get_or}
use Rattle.std.proofs.Math.Dec.{eqb}
use Rattle.theory.specs.Tests.{eqb_same, or_left, or_right}
use Rattle.rules.specs.Base.{pick}
use Rattle.rules.specs.Value.{span, applied, negated}
use Rattle.rules.specs.Format.{variables, cells}
use Rattle.rules.specs.Names.{heap, operand_names, target_names, expression_names, entry_names, exit_names}
use Rattle.rules.specs.Leaf.{Tried, made, refused, after, cell_place, target_place, operand_value, expression_value, chosen, entry_place, exit_place}
use Rattle.rules.specs.declared.Operand.{Operand}
use Rattle.rules.specs.declared.Target.{Target}
use Rattle.rules.specs.declared.Expression.{Expression}
use Rattle.rules.specs.declared.Entry.{Entry}
use Rattle.rules.specs.declared.Exit.{Exit}
use Rattle.laws.proofs.Words.{applied-below, negated-below}
use Rattle.theorems.specs.Memory.{look, same-variable, same-cell, Fine}
use Rattle.laws.specs.Fit.{OperandFit, TargetFit, ExpressionFit, EntryFit, ExitFit}

-- ---- what was made
abbrev IsMade : {A : Type 0} → Tried A → Type 0
IsMade (made a) = Unit {0}
IsMade (refused code) = ⊥

pub refused-made : {A B : Type 0} (code : ℕ) (a : A) → Path (Tried A) (refused code) (made a) → B
refused-made code a h = absurd (subst IsMade (sym h) tt)

module _ {A : Type 0} where
  pub made-inj : (a b : A) → Path (Tried A) (made a) (made b) → a ≡ b
  made-inj a b h = cc

  pub pick-made : (t : Bool) (x : Tried A) (code : ℕ) (a : A) → pick t x (refused code) ≡ made a → (t ≡ true) × (x ≡ made a)
  unfolding pick
  pick-made true x code a h = (refl, h)
  pick-made false x code a h = refused-made code a h

  pub made-pick : (t : Bool) (x : Tried A) (code : ℕ) (a : A) → pick t (refused code) x ≡ made a → (t ≡ false) × (x ≡ made a)
  unfolding pick
  made-pick true x code a h = refused-made code a h
  made-pick false x code a h = (refl, h)

module _ {A B : Type 0} where
  pub after-made : (t : Tried A) (f : A → Tried B) (b : B) → after t f ≡ made b → (a : A) × (t ≡ made a) × (f a ≡ made b)
  unfolding after
  after-made (made a) f b h = (a, refl, h)
  after-made (refused code) f b h = refused-made code b h

  pub made_after : (t : Tried A) (f : A → Tried B) (a : A) → t ≡ made a → after t f ≡ f a
  unfolding after
  made_after t f a h = rw h

  pub after-alike : (t t' : Tried A) (f g : A → Tried B) → t ≡ t' → ((a : A) → t' ≡ made a → f a ≡ g a) → after t f ≡ after t' g
  unfolding after
  after-alike t (made a) f g e h = rw e (h a refl)
  after-alike t (refused code) f g e h = rw e

-- ---- where a cell lies
pub cell-made : (m : List ℕ) (x at : ℕ) → cell_place m x ≡ made at → (at ≡ variables + get_or m x 0) × (get_or m x 0 < cells)
unfolding cell_place
cell-made m x at h =
    let p = pick-made (ltb (get_or m x 0) cells) (made (variables + get_or m x 0)) 25 at h in
    (sym (made-inj (variables + get_or m x 0) at p.1), ltb-true (get_or m x 0) cells p.0)

-- two memories that show the same at what is named
abbrev pub Agree : (ℕ → Bool) → List ℕ → List ℕ → Type 0
Agree names m n = (r : ℕ) → names r ≡ true → look n r ≡ look m r

pub agree_left : (f g : ℕ → Bool) (m n : List ℕ) → Agree (λ r. f r || g r) m n → Agree f m n
agree_left f g m n a r h = a r (or_left (f r) (g r) h)

pub agree_right : (f g : ℕ → Bool) (m n : List ℕ) → Agree (λ r. f r || g r) m n → Agree g m n
agree_right f g m n a r h = a r (or_right (f r) (g r) h)

named-one : (x : ℕ) → eqb x x ≡ true
named-one x = eqb_same x x refl

module _ (m n : List ℕ) where
  value-alike : (x : ℕ) → x < variables → Agree (λ r. eqb x r) m n → get_or n x 0 ≡ get_or m x 0
  value-alike x lt a = same-variable m n x lt (a x (named-one x))

  cell-alike : (x : ℕ) → x < variables → Agree (λ r. eqb x r) m n → cell_place n x ≡ cell_place m x
  unfolding cell_place
  cell-alike x lt a = ap (λ (v : ℕ). pick (ltb v cells) (made (variables + v)) (refused 25)) (value-alike x lt a)

  cell-value : (x at : ℕ) → Agree (λ r. eqb heap r) m n → cell_place m x ≡ made at → get_or n at 0 ≡ get_or m at 0
  cell-value x at a h =
      subst (λ (k : ℕ). get_or n k 0 ≡ get_or m k 0) (sym (cell-made m x at h).0) (same-cell m n (get_or m x 0) (a heap (named-one heap)))

  pub operand-alike : (a : Operand) → OperandFit a → Agree (operand_names a) m n → operand_value n a ≡ operand_value m a
  unfolding operand_value
  operand-alike (Operand.Constant v) f h = refl
  operand-alike (Operand.Variable x) f h = ap made (value-alike x f h)
  operand-alike (Operand.Cell x) f h =
      after-alike (cell_place n x) (cell_place m x) (λ at. made (get_or n at 0)) (λ at. made (get_or m at 0))
      (cell-alike x f (agree_left (λ r. eqb x r) (λ r. eqb heap r) m n h))
      (λ at e. ap made (cell-value x at (agree_right (λ r. eqb x r) (λ r. eqb heap r) m n h) e))

  pub expression-alike : (e : Expression) → ExpressionFit e → Agree (expression_names e) m n → expression_value n e ≡ expression_value m e
  unfolding expression_value
  expression-alike (Expression.Plain a) f h = operand-alike a f h
  expression-alike (Expression.Not a) f h = ap (λ (t : Tried ℕ). after t (λ v. made (negated v))) (operand-alike a f h)
  expression-alike (Expression.Two o a b) f h =
      after-alike (operand_value n a) (operand_value m a) _ _ (operand-alike a f.0 (agree_left (operand_names a) (operand_names b) m n h))
      (λ v e. ap (λ (t : Tried ℕ). after t (λ w. made (applied o v w)))
      (operand-alike b f.1 (agree_right (operand_names a) (operand_names b) m n h)))

  pub target-alike : (a : Target) → TargetFit a → Agree (target_names a) m n → target_place n a ≡ target_place m a
  unfolding target_place
  target-alike (Target.Variable x) f h = refl
  target-alike (Target.Cell x) f h = cell-alike x f (agree_left (λ r. eqb x r) (λ r. eqb heap r) m n h)

  pub target-value : (a : Target) (at : ℕ) → TargetFit a → Agree (target_names a) m n → target_place m a ≡ made at → get_or n at 0 ≡ get_or m at 0
  unfolding target_place
  target-value (Target.Variable x) at f h e = subst (λ (k : ℕ). get_or n k 0 ≡ get_or m k 0) (made-inj x at e) (value-alike x f h)
  target-value (Target.Cell x) at f h e = cell-value x at (agree_right (λ r. eqb x r) (λ r. eqb heap r) m n h) e

  pub entry-alike : (e : Entry) → EntryFit e → Agree (entry_names e) m n → entry_place n e ≡ entry_place m e
  unfolding entry_place
  entry-alike (Entry.From l) f h = refl
  entry-alike (Entry.Either l k e) f h = ap (λ (t : Tried ℕ). after t (λ v. made (chosen l k v))) (expression-alike e f.2 h)
  entry-alike (Entry.Begin l) f h = refl

  pub exit-alike : (e : Exit) → ExitFit e → Agree (exit_names e) m n → exit_place n e ≡ exit_place m e
  unfolding exit_place
  exit-alike (Exit.To l) f h = refl
  exit-alike (Exit.Either e l k) f h = ap (λ (t : Tried ℕ). after t (λ v. made (chosen l k v))) (expression-alike e f.2 h)
  exit-alike (Exit.End l) f h = refl

-- ---- what is evaluated is a word
module _ (m : List ℕ) (f : Fine m) where
  operand-word : (a : Operand) (v : ℕ) → OperandFit a → operand_value m a ≡ made v → v < span
  unfolding operand_value
  operand-word (Operand.Constant w) v h e = subst (λ (k : ℕ). k < span) (made-inj w v e) h
  operand-word (Operand.Variable x) v h e = subst (λ (k : ℕ). k < span) (made-inj (get_or m x 0) v e) (f.words x)
  operand-word (Operand.Cell x) v h e =
      let y = after-made (cell_place m x) (λ at. made (get_or m at 0)) v e in
      subst (λ (k : ℕ). k < span) (made-inj (get_or m y.0 0) v y.2) (f.words y.0)

  pub expression-word : (e : Expression) (v : ℕ) → ExpressionFit e → expression_value m e ≡ made v → v < span
  unfolding expression_value
  expression-word (Expression.Plain a) v h e = operand-word a v h e
  expression-word (Expression.Not a) v h e =
      let y = after-made (operand_value m a) (λ w. made (negated w)) v e in
      subst (λ (k : ℕ). k < span) (made-inj (negated y.0) v y.2) (negated-below y.0)
  expression-word (Expression.Two o a b) v h e =
      let y = after-made (operand_value m a) _ v e in
      let z = after-made (operand_value m b) (λ w. made (applied o y.0 w)) v y.2 in
      subst (λ (k : ℕ). k < span) (made-inj (applied o y.0 z.0) v z.2)
      (applied-below o y.0 z.0 (operand-word a y.0 h.0 y.1) (operand-word b z.0 h.1 z.1))
