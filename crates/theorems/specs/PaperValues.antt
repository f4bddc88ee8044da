-- 004's values and places (rules' Paper: `Gives`, `Enters`, `Leaves`) on a store, and rules' own on a memory that holds the store: the
-- same, both ways. Assumes that what is evaluated is fit (laws' Fit).
use Rattle.std.specs.Prelude.{◌≡◌, List, ℕ, ◌+◌, ◌<◌, length, set, eqb, ltb}
use Rattle.std.proofs.Math.Path.{refl, sym, ap, subst}
use Rattle.std.proofs.Common.{◌∙◌, arith, length-set, get_or-set_same, get_or-set_other, lt-ltb}
use Rattle.std.proofs.Math.Decide.{ℕ_discrete}
use Rattle.std.proofs.Math.ListN.{get_or}
use Rattle.theory.specs.Tests.{eqb_same, eqb-other}
use Rattle.rules.specs.Value.{applied, negated}
use Rattle.rules.specs.Format.{variables, cells}
use Rattle.rules.specs.Machine.{place, begin, run, end}
use Rattle.rules.specs.Leaf.{Tried, made, refused, cell_place, operand_value, expression_value, chosen, entry_place, exit_place}
use Rattle.rules.specs.Paper.{Store, at, with_variable, with_cell, OperandGives, con, var, mem, Gives, plain, exp1, exp2, exp3, Enters, Leaves}
use Rattle.rules.specs.declared.Operand.{Operand}
use Rattle.rules.specs.declared.Expression.{Expression}
use Rattle.rules.specs.declared.Entry.{Entry}
use Rattle.rules.specs.declared.Exit.{Exit}
use Rattle.rules.specs.declared.Place.{Place}
use Rattle.laws.specs.Fit.{OperandFit, ExpressionFit, EntryFit, ExitFit}
use Rattle.laws.proofs.Lists.{pick_true, pick-false}
use Rattle.theorems.specs.Evaluate.{made-inj, after-made, made_after, cell-made}
use Rattle.theorems.specs.PaperShown.{Holds}

-- ---- small facts
not_of_zero : (v : ℕ) → v ≡ 0 → negated v ≡ 1
unfolding negated
not_of_zero v e = rw (eqb_same v 0 e)

not_of_other : (v : ℕ) → (v ≡ 0 → ⊥) → negated v ≡ 0
unfolding negated
not_of_other v n = rw (eqb-other v 0 n)

chosen-second : (l k v : ℕ) → v ≡ 0 → chosen l k v ≡ place k run
unfolding chosen
chosen-second l k v e = pick_true (eqb v 0) (place k run) (place l run) (eqb_same v 0 e)

chosen-first : (l k v : ℕ) → (v ≡ 0 → ⊥) → chosen l k v ≡ place l run
unfolding chosen
chosen-first l k v n = pick-false (eqb v 0) (place k run) (place l run) (eqb-other v 0 n)

module _ {A : Type 0} where
  pub at_same : (f : ℕ → A) (x : ℕ) (a : A) (y : ℕ) → y ≡ x → at f x a y ≡ a
  at_same f x a y e = pick_true (eqb y x) a (f y) (eqb_same y x e)

  pub at_other : (f : ℕ → A) (x : ℕ) (a : A) (y : ℕ) → (y ≡ x → ⊥) → at f x a y ≡ f y
  at_other f x a y n = pick-false (eqb y x) a (f y) (eqb-other y x n)

module _ (m : List ℕ) (s : Store) (H : Holds m s) where
  -- ---- writes
  pub holds-variable : (x v : ℕ) → x < variables → Holds (set m x v) (with_variable s x v)
  holds-variable x v lx =
      record {
        size = length-set m x v ∙ H.size;
        variable = λ y ly. go y ly (ℕ_discrete y x);
        cell = λ a la. H.cell a la ∙ sym (get_or-set_other m x (variables + a) v 0 (λ e. omega (arith, lx, e)));
      }
    where
      inside : x < length m
      inside = let z = H.size in omega (arith, z, lx)

      go : (y : ℕ) → y < variables → Dec (y ≡ x) → at s.variable x v y ≡ get_or (set m x v) y 0
      go y ly (yes e) = at_same s.variable x v y e ∙ sym (get_or-set_same m x v 0 inside) ∙ ap (λ (k : ℕ). get_or (set m x v) k 0) (sym e)
      go y ly (no n) = at_other s.variable x v y n ∙ H.variable y ly ∙ sym (get_or-set_other m x y v 0 n)

  pub holds-cell : (a v : ℕ) → a < cells → Holds (set m (variables + a) v) (with_cell s a v)
  holds-cell a v la =
      record {
        size = length-set m (variables + a) v ∙ H.size;
        variable = λ y ly. H.variable y ly ∙ sym (get_or-set_other m (variables + a) y v 0 (λ e. omega (arith, ly, e)));
        cell = λ c lc. go c lc (ℕ_discrete c a);
      }
    where
      inside : variables + a < length m
      inside = let z = H.size in omega (arith, z, la)

      go : (c : ℕ) → c < cells → Dec (c ≡ a) → at s.cell a v c ≡ get_or (set m (variables + a) v) (variables + c) 0
      go c lc (yes e) =
          at_same s.cell a v c e ∙ sym (get_or-set_same m (variables + a) v 0 inside)
          ∙ ap (λ (k : ℕ). get_or (set m (variables + a) v) (variables + k) 0) (sym e)
      go c lc (no n) =
          at_other s.cell a v c n ∙ H.cell c lc
          ∙ sym (get_or-set_other m (variables + a) (variables + c) v 0 (λ e. n (omega (arith, e))))

module _ (m : List ℕ) (s : Store) (H : Holds m s) where
  -- ---- where a cell lies
  pub cell-there : (x a : ℕ) → x < variables → s.variable x ≡ a → a < cells → cell_place m x ≡ made (variables + a)
  unfolding cell_place
  cell-there x a lx e la =
      let q : get_or m x 0 ≡ a = sym (H.variable x lx) ∙ e in
      pick_true (ltb (get_or m x 0) cells) (made (variables + get_or m x 0)) (refused 25)
      (lt-ltb (get_or m x 0) cells (subst (λ (v : ℕ). v < cells) (sym q) la))
      ∙ ap (λ (v : ℕ). made (variables + v)) q

  -- its address, where it lies in memory
  pub record There (x at : ℕ) : Type 0 where
    pub address : ℕ
    pub is : s.variable x ≡ address
    pub inside : address < cells
    pub lies : at ≡ variables + address

  pub there-cell : (x at : ℕ) → x < variables → cell_place m x ≡ made at → There x at
  there-cell x at lx h =
      let q = cell-made m x at h in
      record { address = get_or m x 0; is = H.variable x lx; inside = q.1; lies = q.0 }

  -- ---- expressions
  operand-made : {a : Operand} {v : ℕ} → OperandGives s a v → OperandFit a → operand_value m a ≡ made v
  unfolding operand_value
  operand-made (con k) f = refl
  operand-made (var x) f = ap made (sym (H.variable x f))
  operand-made (mem x lt) f =
      made_after (cell_place m x) (λ at. made (get_or m at 0)) (variables + s.variable x) (cell-there x (s.variable x) f refl lt)
      ∙ ap made (sym (H.cell (s.variable x) lt))

  made-operand : (a : Operand) (v : ℕ) → OperandFit a → operand_value m a ≡ made v → OperandGives s a v
  unfolding operand_value
  made-operand (Operand.Constant k) v f h = subst (OperandGives s (Operand.Constant k)) (made-inj k v h) (con k)
  made-operand (Operand.Variable x) v f h =
      subst (OperandGives s (Operand.Variable x)) (H.variable x f ∙ made-inj (get_or m x 0) v h) (var x)
  made-operand (Operand.Cell x) v f h =
      let y = after-made (cell_place m x) (λ at. made (get_or m at 0)) v h in
      let t = there-cell x y.0 f y.1 in
      let lt : s.variable x < cells = subst (λ (k : ℕ). k < cells) (sym t.is) t.inside in
      let e : s.cell (s.variable x) ≡ v =
      H.cell (s.variable x) lt ∙ ap (λ (k : ℕ). get_or m (variables + k) 0) t.is ∙ ap (λ (k : ℕ). get_or m k 0) (sym t.lies)
      ∙ made-inj (get_or m y.0 0) v y.2 in
      subst (OperandGives s (Operand.Cell x)) e (mem x lt)

  pub expression-made : {e : Expression} {v : ℕ} → Gives s e v → ExpressionFit e → expression_value m e ≡ made v
  unfolding expression_value
  expression-made (plain g) f = operand-made g f
  expression-made (exp1 o {a} {b} {v} {w} g h) f =
      made_after (operand_value m a) _ v (operand-made g f.0) ∙ made_after (operand_value m b) _ w (operand-made h f.1)
  expression-made (exp2 {a} {v} g z) f = made_after (operand_value m a) _ v (operand-made g f) ∙ ap made (not_of_zero v z)
  expression-made (exp3 {a} {v} g n) f = made_after (operand_value m a) _ v (operand-made g f) ∙ ap made (not_of_other v n)

  pub made-expression : (e : Expression) (v : ℕ) → ExpressionFit e → expression_value m e ≡ made v → Gives s e v
  unfolding expression_value
  made-expression (Expression.Plain a) v f h = plain (made-operand a v f h)
  made-expression (Expression.Not a) v f h = go (ℕ_discrete y.0 0)
    where
      y : (w : ℕ) × (operand_value m a ≡ made w) × (Path (Tried ℕ) (made (negated w)) (made v))
      y = after-made (operand_value m a) (λ w. made (negated w)) v h

      g : OperandGives s a y.0
      g = made-operand a y.0 f y.1

      is : negated y.0 ≡ v
      is = made-inj (negated y.0) v y.2

      go : Dec (y.0 ≡ 0) → Gives s (Expression.Not a) v
      go (yes z) = subst (Gives s (Expression.Not a)) (sym (not_of_zero y.0 z) ∙ is) (exp2 g z)
      go (no n) = subst (Gives s (Expression.Not a)) (sym (not_of_other y.0 n) ∙ is) (exp3 g n)
  made-expression (Expression.Two o a b) v f h =
      let y = after-made (operand_value m a) _ v h in
      let z = after-made (operand_value m b) (λ w. made (applied o y.0 w)) v y.2 in
      subst (Gives s (Expression.Two o a b)) (made-inj (applied o y.0 z.0) v z.2)
      (exp1 o (made-operand a y.0 f.0 y.1) (made-operand b z.0 f.1 z.1))

  -- ---- entries and exits
  pub enter_made : {e : Entry} {q : Place} → Enters s e q → EntryFit e → entry_place m e ≡ made q
  unfolding entry_place
  enter_made (Enters.begin_at l) f = refl
  enter_made (Enters.from_at l) f = refl
  enter_made (Enters.second l k {e} {v} g z) f =
      made_after (expression_value m e) _ v (expression-made g f.2) ∙ ap made (chosen-second l k v z)
  enter_made (Enters.first l k {e} {v} g n) f =
      made_after (expression_value m e) _ v (expression-made g f.2) ∙ ap made (chosen-first l k v n)

  pub made-enter : (e : Entry) (q : Place) → EntryFit e → entry_place m e ≡ made q → Enters s e q
  unfolding entry_place
  made-enter (Entry.From l) q f h = subst (Enters s (Entry.From l)) (made-inj (place l run) q h) (Enters.from_at l)
  made-enter (Entry.Begin l) q f h = subst (Enters s (Entry.Begin l)) (made-inj (place l begin) q h) (Enters.begin_at l)
  made-enter (Entry.Either l k e) q f h = go (ℕ_discrete y.0 0)
    where
      y : (w : ℕ) × (expression_value m e ≡ made w) × (Path (Tried Place) (made (chosen l k w)) (made q))
      y = after-made (expression_value m e) (λ w. made (chosen l k w)) q h

      g : Gives s e y.0
      g = made-expression e y.0 f.2 y.1

      is : chosen l k y.0 ≡ q
      is = made-inj (chosen l k y.0) q y.2

      go : Dec (y.0 ≡ 0) → Enters s (Entry.Either l k e) q
      go (yes z) = subst (Enters s (Entry.Either l k e)) (sym (chosen-second l k y.0 z) ∙ is) (Enters.second l k g z)
      go (no n) = subst (Enters s (Entry.Either l k e)) (sym (chosen-first l k y.0 n) ∙ is) (Enters.first l k g n)

  pub leave_made : {e : Exit} {q : Place} → Leaves s e q → ExitFit e → exit_place m e ≡ made q
  unfolding exit_place
  leave_made (Leaves.end_at l) f = refl
  leave_made (Leaves.to_at l) f = refl
  leave_made (Leaves.second l k {e} {v} g z) f =
      made_after (expression_value m e) _ v (expression-made g f.2) ∙ ap made (chosen-second l k v z)
  leave_made (Leaves.first l k {e} {v} g n) f =
      made_after (expression_value m e) _ v (expression-made g f.2) ∙ ap made (chosen-first l k v n)

  pub made-leave : (e : Exit) (q : Place) → ExitFit e → exit_place m e ≡ made q → Leaves s e q
  unfolding exit_place
  made-leave (Exit.To l) q f h = subst (Leaves s (Exit.To l)) (made-inj (place l run) q h) (Leaves.to_at l)
  made-leave (Exit.End l) q f h = subst (Leaves s (Exit.End l)) (made-inj (place l end) q h) (Leaves.end_at l)
  made-leave (Exit.Either e l k) q f h = go (ℕ_discrete y.0 0)
    where
      y : (w : ℕ) × (expression_value m e ≡ made w) × (Path (Tried Place) (made (chosen l k w)) (made q))
      y = after-made (expression_value m e) (λ w. made (chosen l k w)) q h

      g : Gives s e y.0
      g = made-expression e y.0 f.2 y.1

      is : chosen l k y.0 ≡ q
      is = made-inj (chosen l k y.0) q y.2

      go : Dec (y.0 ≡ 0) → Leaves s (Exit.Either e l k) q
      go (yes z) = subst (Leaves s (Exit.Either e l k)) (sym (chosen-second l k y.0 z) ∙ is) (Leaves.second l k g z)
      go (no n) = subst (Leaves s (Exit.Either e l k)) (sym (chosen-first l k y.0 n) ∙ is) (Leaves.first l k g n)
