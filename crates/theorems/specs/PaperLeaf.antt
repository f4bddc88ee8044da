-- 004's instructions (rules' Paper: `Does`) on a store, and rules' acts on a memory that holds the store: the same, both ways; and so
-- the step of a leaf. Assumes that the block is fit (laws' Fit).
use Rattle.std.specs.Prelude.{◌≡◌, false, List, ℕ, ◌+◌, ◌<◌, ◌≤◌, get_or, eqb}
use Rattle.std.proofs.Math.Path.{refl, ap}
use Rattle.std.proofs.Common.{sym, ◌∙◌, subst, arith}
use Rattle.std.proofs.Math.ListN.{set}
use borrow.Author.Tests.{eqb-true, eqb-false}
use Rattle.theory.specs.Tests.{true_false, eqb_same, eqb-other}
use Rattle.rules.specs.Value.{changed}
use Rattle.rules.specs.Format.{variables, cells}
use Rattle.rules.specs.Read.{is_call}
use Rattle.rules.specs.Leaf.{made, refused, after, Moved, cell_place, target_place, expression_value, update, exchange, semaphore_step, act, leaf_forward}
use Rattle.rules.specs.Paper.{Store, with_variable, with_cell, Does, ass_var, ass_arr, swap_var_var, swap_var_arr, swap_arr_var, swap_arr_arr, op_v, op_p, skip, assert, Enters, Leaves}
use Rattle.rules.specs.declared.Target.{Target}
use Rattle.rules.specs.declared.Expression.{Expression}
use Rattle.rules.specs.declared.Change.{Change}
use Rattle.rules.specs.declared.Instruction.{Instruction}
use Rattle.rules.specs.declared.Block.{Block}
use Rattle.rules.specs.declared.Place.{Place}
use Rattle.laws.specs.Fit.{InstructionFit, BlockFit}
use Rattle.laws.proofs.Lists.{pick_true, pick-false}
use Rattle.theorems.specs.Evaluate.{made-inj, pick-made, made-pick, after-made, made_after}
use Rattle.theorems.specs.Leaves.{forth-of, of_forth}
use Rattle.theorems.specs.PaperShown.{Holds}
use Rattle.theorems.specs.PaperValues.{at_other, holds-variable, holds-cell, cell-there, there-cell, expression-made, made-expression, enter_made, made-enter, leave_made, made-leave}

module _ (m : List ℕ) (s : Store) (H : Holds m s) where
  -- ---- instructions
  update-there :
      (c : Change) (a : Target) (e : Expression) (k u v : ℕ) → target_place m a ≡ made k → get_or m k 0 ≡ u → expression_value m e ≡ made v →
      act m (Instruction.Update c a e) ≡ made (set m k (changed c u v))
  unfolding act update
  update-there c a e k u v t g ev =
      made_after (target_place m a) _ k t ∙ made_after (expression_value m e) _ v ev ∙ ap (λ (z : ℕ). made (set m k (changed c z v))) g

  exchange-there :
      (a b : Target) (k j u v : ℕ) → target_place m a ≡ made k → target_place m b ≡ made j → get_or m k 0 ≡ u → get_or m j 0 ≡ v →
      act m (Instruction.Exchange a b) ≡ made (set (set m k v) j u)
  unfolding act exchange
  exchange-there a b k j u v ta tb gu gv =
      made_after (target_place m a) _ k ta ∙ made_after (target_place m b) _ j tb
      ∙ ap (λ (z : ℕ). made (set (set m k z) j (get_or m k 0))) gv ∙ ap (λ (z : ℕ). made (set (set m k v) j z)) gu

  semaphore-there : (x needs leaves : ℕ) → x < variables → s.variable x ≡ needs → semaphore_step m x needs leaves ≡ made (set m x leaves)
  unfolding semaphore_step
  semaphore-there x needs leaves lx e =
      pick_true (eqb (get_or m x 0) needs) (made (set m x leaves)) (refused 24) (eqb_same (get_or m x 0) needs (sym (H.variable x lx) ∙ e))

  variable-there : (x : ℕ) → target_place m (Target.Variable x) ≡ made x
  unfolding target_place
  variable-there x = refl

  target-there : (x a : ℕ) → x < variables → s.variable x ≡ a → a < cells → target_place m (Target.Cell x) ≡ made (variables + a)
  unfolding target_place
  target-there x a lx e la = cell-there m s H x a lx e la

  -- what the paper does, the act makes
  abbrev Makes : Instruction → Store → Type 0
  Makes i s' = (m' : List ℕ) × (act m i ≡ made m') × Holds m' s'

  pub does_made : {i : Instruction} {s' : Store} → Does s i s' → InstructionFit i → Makes i s'
  unfolding act
  does_made (ass_var c x {e} {v} g) f =
      let w = changed c (s.variable x) v in (
        set m x w,
        update-there c (Target.Variable x) e x (s.variable x) v (variable-there x) (sym (H.variable x f.0)) (expression-made m s H g f.1),
        holds-variable m s H x w f.0,
      )
  does_made (ass_arr c x a {e} {v} q la g) f =
      let w = changed c (s.cell a) v in (
        set m (variables + a) w,
        update-there c (Target.Cell x) e (variables + a) (s.cell a) v (target-there x a f.0 q la) (sym (H.cell a la))
            (expression-made m s H g f.1),
        holds-cell m s H a w la,
      )
  does_made (swap_var_var x y) f =
      let u = s.variable x in
      let v = s.variable y in (
        set (set m x v) y u,
        exchange-there (Target.Variable x) (Target.Variable y) x y u v (variable-there x) (variable-there y) (sym (H.variable x f.0))
            (sym (H.variable y f.1)),
        holds-variable (set m x v) (with_variable s x v) (holds-variable m s H x v f.0) y u f.1,
      )
  does_made (swap_var_arr x y a q la) f =
      let u = s.variable x in
      let v = s.cell a in (
        set (set m x v) (variables + a) u,
        exchange-there (Target.Variable x) (Target.Cell y) x (variables + a) u v (variable-there x) (target-there y a f.1 q la)
            (sym (H.variable x f.0)) (sym (H.cell a la)),
        holds-cell (set m x v) (with_variable s x v) (holds-variable m s H x v f.0) a u la,
      )
  does_made (swap_arr_var x y a q la) f =
      let u = s.variable x in
      let v = s.cell a in (
        set (set m (variables + a) u) x v,
        exchange-there (Target.Cell y) (Target.Variable x) (variables + a) x v u (target-there y a f.0 q la) (variable-there x)
            (sym (H.cell a la)) (sym (H.variable x f.1)),
        holds-variable (set m (variables + a) u) (with_cell s a u) (holds-cell m s H a u la) x v f.1,
      )
  does_made (swap_arr_arr x y a b qa la qb lb) f =
      let u = s.cell a in
      let v = s.cell b in (
        set (set m (variables + a) v) (variables + b) u,
        exchange-there (Target.Cell x) (Target.Cell y) (variables + a) (variables + b) u v (target-there x a f.0 qa la)
            (target-there y b f.1 qb lb) (sym (H.cell a la)) (sym (H.cell b lb)),
        holds-cell (set m (variables + a) v) (with_cell s a v) (holds-cell m s H a v la) b u lb,
      )
  does_made (op_v x q) f = (set m x 1, semaphore-there x 0 1 f q, holds-variable m s H x 1 f)
  does_made (op_p x q) f = (set m x 0, semaphore-there x 1 0 f q, holds-variable m s H x 0 f)
  does_made skip f = (m, refl, H)
  does_made (assert {e} {v} g n) f = (
    m,
    made_after (expression_value m e) _ v (expression-made m s H g f) ∙ pick-false (eqb v 0) (refused 23) (made m) (eqb-other v 0 n),
    H,
  )

  -- what the act makes, the paper does
  abbrev Done : Instruction → Type 0
  Done i = (s' : Store) × Does s i s'

  made-update : (c : Change) (a : Target) (e : Expression) (m' : List ℕ) → InstructionFit (Instruction.Update c a e) → update m c a e ≡ made m' →
      Done (Instruction.Update c a e)
  unfolding update target_place after
  made-update c (Target.Variable x) e m' f h =
      let y = after-made (expression_value m e) _ m' h in
      (with_variable s x (changed c (s.variable x) y.0), ass_var c x (made-expression m s H e y.0 f.1 y.1))
  made-update c (Target.Cell x) e m' f h =
      let z = after-made (cell_place m x) _ m' h in
      let t = there-cell m s H x z.0 f.0 z.1 in
      let y = after-made (expression_value m e) _ m' z.2 in (
        with_cell s t.address (changed c (s.cell t.address) y.0),
        ass_arr c x t.address t.is t.inside (made-expression m s H e y.0 f.1 y.1),
      )

  made-exchange :
      (a b : Target) (m' : List ℕ) → InstructionFit (Instruction.Exchange a b) → exchange m a b ≡ made m' → Done (Instruction.Exchange a b)
  unfolding exchange target_place after
  made-exchange (Target.Variable x) (Target.Variable y) m' f h = (_, swap_var_var x y)
  made-exchange (Target.Variable x) (Target.Cell y) m' f h =
      let z = after-made (cell_place m y) _ m' h in
      let t = there-cell m s H y z.0 f.1 z.1 in
      (_, swap_var_arr x y t.address t.is t.inside)
  made-exchange (Target.Cell y) (Target.Variable x) m' f h =
      let z = after-made (cell_place m y) _ m' h in
      let t = there-cell m s H y z.0 f.0 z.1 in
      (_, swap_arr_var x y t.address t.is t.inside)
  made-exchange (Target.Cell x) (Target.Cell y) m' f h =
      let z = after-made (cell_place m x) _ m' h in
      let t = there-cell m s H x z.0 f.0 z.1 in
      let w = after-made (cell_place m y) _ m' z.2 in
      let r = there-cell m s H y w.0 f.1 w.1 in
      (_, swap_arr_arr x y t.address r.address t.is t.inside r.is r.inside)

  made-semaphore : (x needs leaves : ℕ) (m' : List ℕ) → x < variables → semaphore_step m x needs leaves ≡ made m' → s.variable x ≡ needs
  unfolding semaphore_step
  made-semaphore x needs leaves m' lx h =
      H.variable x lx ∙ eqb-true (get_or m x 0) needs (pick-made (eqb (get_or m x 0) needs) (made (set m x leaves)) 24 m' h).0

  made-done : (i : Instruction) (m' : List ℕ) → InstructionFit i → is_call i ≡ false → act m i ≡ made m' → Done i
  unfolding act
  made-done (Instruction.Update c a e) m' f n h = made-update c a e m' f h
  made-done (Instruction.Exchange a b) m' f n h = made-exchange a b m' f h
  made-done (Instruction.OpV x) m' f n h = (_, op_v x (made-semaphore x 0 1 m' f h))
  made-done (Instruction.OpP x) m' f n h = (_, op_p x (made-semaphore x 1 0 m' f h))
  made-done (Instruction.Assert e) m' f n h =
      let y = after-made (expression_value m e) _ m' h in
      let p = made-pick (eqb y.0 0) (made m) 23 m' y.2 in
      (s, assert (made-expression m s H e y.0 f y.1) (eqb-false y.0 0 p.0))
  made-done Instruction.Skip m' f n h = (s, skip)
  made-done (Instruction.Call k) m' f n h = absurd (true_false refl n)

  pub made-does :
      (i : Instruction) (m' : List ℕ) → InstructionFit i → is_call i ≡ false → act m i ≡ made m' → (s' : Store) × Does s i s' × Holds m' s'
  made-does i m' f n h =
      let d = made-done i m' f n h in
      let x = does_made d.1 f in
      (d.0, d.1, subst (λ (l : List ℕ). Holds l d.0) (made-inj x.0 m' (sym x.1 ∙ h)) x.2)

-- ---- what an instruction leaves as it was: all beyond the 32 variables and the 256 cells
pub record Outside (s s' : Store) : Type 0 where
  pub variable : (x : ℕ) → variables ≤ x → s'.variable x ≡ s.variable x
  pub cell : (a : ℕ) → cells ≤ a → s'.cell a ≡ s.cell a

outside-self : (s : Store) → Outside s s
outside-self s = record { variable = λ x h. refl; cell = λ a h. refl }

pub outside-back : (s t : Store) → Outside s t → Outside t s
outside-back s t o = record { variable = λ x h. sym (o.variable x h); cell = λ a h. sym (o.cell a h) }

outside-variable : (r s : Store) (x v : ℕ) → x < variables → Outside r s → Outside r (with_variable s x v)
outside-variable r s x v lx o =
    record { variable = λ y h. at_other s.variable x v y (λ e. omega (arith, lx, h, e)) ∙ o.variable y h; cell = o.cell }

outside-cell : (r s : Store) (a v : ℕ) → a < cells → Outside r s → Outside r (with_cell s a v)
outside-cell r s a v la o =
    record { variable = o.variable; cell = λ c h. at_other s.cell a v c (λ e. omega (arith, la, h, e)) ∙ o.cell c h }

pub does_outside : {s s' : Store} {i : Instruction} → Does s i s' → InstructionFit i → Outside s s'
does_outside {s} (ass_var c x g) f = outside-variable s s x _ f.0 (outside-self s)
does_outside {s} (ass_arr c x a q la g) f = outside-cell s s a _ la (outside-self s)
does_outside {s} (swap_var_var x y) f =
    outside-variable s (with_variable s x (s.variable y)) y (s.variable x) f.1 (outside-variable s s x (s.variable y) f.0 (outside-self s))
does_outside {s} (swap_var_arr x y a q la) f =
    outside-cell s (with_variable s x (s.cell a)) a (s.variable x) la (outside-variable s s x (s.cell a) f.0 (outside-self s))
does_outside {s} (swap_arr_var x y a q la) f =
    outside-cell s (with_variable s x (s.cell a)) a (s.variable x) la (outside-variable s s x (s.cell a) f.1 (outside-self s))
does_outside {s} (swap_arr_arr x y a b qa la qb lb) f =
    outside-cell s (with_cell s a (s.cell b)) b (s.cell a) lb (outside-cell s s a (s.cell b) la (outside-self s))
does_outside {s} (op_v x q) f = outside-variable s s x 1 f (outside-self s)
does_outside {s} (op_p x q) f = outside-variable s s x 0 f (outside-self s)
does_outside {s} skip f = outside-self s
does_outside {s} (assert g n) f = outside-self s

-- ---- a leaf's step
module _ (b : Block) (fit : BlockFit b) (m : List ℕ) (s : Store) (H : Holds m s) (here : Place) where
  pub leaf_made_so :
      {s' : Store} {next : Place} → Enters s b.entry here → Does s b.instruction s' → Leaves s' b.exit next →
      (m' : List ℕ) × (leaf_forward m here b ≡ made (record { stands = next; memory = m' })) × Holds m' s'
  leaf_made_so {s'} {next} enters does leaves =
      let x = does_made m s H does fit.instruction in
      let moved : Moved = record { stands = next; memory = x.0 } in (
        x.0,
        of_forth m here b moved
            (record { enters = enter_made m s H enters fit.entry; acts = x.1; leaves = leave_made x.0 s' x.2 leaves fit.exit }),
        x.2,
      )

  pub made-leaf :
      (next : Moved) → is_call b.instruction ≡ false → leaf_forward m here b ≡ made next →
      (s' : Store) × Enters s b.entry here × Does s b.instruction s' × Leaves s' b.exit next.stands × Holds next.memory s'
  made-leaf next uncalled h =
      let w = forth-of m here b next h in
      let x = made-does m s H b.instruction next.memory fit.instruction uncalled w.acts in (
        x.0,
        made-enter m s H b.entry here fit.entry w.enters,
        x.1,
        made-leave next.memory x.0 x.2 b.exit next.stands fit.exit w.leaves,
        x.2,
      )
