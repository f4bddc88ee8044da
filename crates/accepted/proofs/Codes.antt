-- The codes of a step on words, in their order, each by the tests that lead to it. Assumes nothing.
use Prim.Native.Nat.{ℕ, ◌<◌, ◌≤◌}
use native.Mathlib.Omega.{arith}
use mathlib.Core.Path.{◌≡◌, refl, sym, ap, ◌∙◌, subst}
use mathlib.Core.Bool.{Bool, true, false}
use mathlib.Core.List.{List}
use mathlib.Core.Option.{some}
use lib.ListN.{length}
use lib.Dec.{eqb}
use borrow.Author.Tests.{eq-eqb, ne_eqb, lt-ltb, le-ltb, eqb-true, eqb-false}
use Rattle.accepted.specs.Direction.{numbered, directed}
use Rattle.accepted.specs.declared.direction.Direction.{Direction}
use Rattle.rules.specs.Base.{pick}
use Rattle.rules.specs.Machine.{Machine, standing, live_count, view}
use Rattle.rules.specs.Fits.{fits}
use Rattle.rules.specs.Step.{forward, undo}
use Rattle.rules.specs.Words.{Outcome, refuse, finished, step_of, step_at, step_in}
use Rattle.rules.specs.declared.Block.{Block}
use Rattle.rules.specs.declared.Place.{Place}
use Rattle.machine.specs.RowOf.{row_of}
use Rattle.ordered.proofs.Standing.{row_is, standing-found, standing-lost}
use Rattle.step.specs.Planned.{Lent, PlanFit}
use Rattle.step.specs.Ready.{process_at, here_at, Plans}
use Rattle.step.specs.declared.plan.Plan.{Plan}
use Rattle.plans.specs.Known.{Finishes}
use Rattle.std.specs.Prelude.{Result, Ok, Err, IfOk, Option, Some, None, IfSome}
use Rattle.std.specs.Option.{ok_or}
use Rattle.laws.specs.Found.{or_else}
use Rattle.accepted.specs.Fitting.{Fitting}
use Rattle.accepted.proofs.Unfit.{either}
use Rattle.rules.specs.Codes.{number}
use Rattle.rules.specs.declared.Code.{Code}

-- what an equation of results says of what they hold
plan-err : {x : Plan} {c : Code} → ◌≡◌ {A = Result Plan Code} (Ok x) (Err c) → ⊥
plan-err e = cc

same-err : {x y : Code} → ◌≡◌ {A = Result Plan Code} (Err x) (Err y) → x ≡ y
same-err e = cc

row-err : {x y : Code} → ◌≡◌ {A = Result ℕ Code} (Err x) (Err y) → x ≡ y
row-err e = cc

row-ok : {x : ℕ} {c : Code} → ◌≡◌ {A = Result ℕ Code} (Ok x) (Err c) → ⊥
row-ok e = cc

row-one : {x y : ℕ} → ◌≡◌ {A = Result ℕ Code} (Ok x) (Ok y) → x ≡ y
row-one e = cc

-- a refusal asks nothing of the words
pub refusing : {w : List ℕ} {code : Code} {o : Outcome (List ℕ)} → refuse (number code) 0 w ≡ o → Finishes w (Err code) o
refusing e = record { shown = e; committed = tt }

pub refusing_as : (w : List ℕ) {code : Code} {o : Outcome (List ℕ)} (out : Result Plan Code) → refuse (number code) 0 w ≡ o → out ≡ Err code → Finishes w out o
refusing_as w (Ok p) e h = absurd (plan-err h)
refusing_as w (Err c) e h = refusing (ap (λ (x : Code). refuse (number x) 0 w) (same-err h) ∙ e)

-- a row that is found, or none
pub not-live : (w : List ℕ) (p : ℕ) (o : Option ℕ) (d : Code) → or_else o (live_count w) ≡ row_of w p → Err d ≡ ok_or o Code.NotLive
    → (live_count w ≡ row_of w p) × (d ≡ Code.NotLive)
not-live w p None d r e = (r, row-err e)
not-live w p (Some k) d r e = absurd (row-ok (sym e))

pub a-live : (w : List ℕ) (p : ℕ) (o : Option ℕ) (row : ℕ) → or_else o (live_count w) ≡ row_of w p → IfSome o (λ i. i < live_count w)
    → Ok row ≡ ok_or o Code.NotLive → (row ≡ row_of w p) × (row < live_count w)
a-live w p None row r l e = absurd (row-ok e)
a-live w p (Some k) row r l e = let z = row-one e in (z ∙ r, rw z l)

-- the direction of a number, and the numbers that have none
ok-one : {x y : Direction} → ◌≡◌ {A = Result Direction Code} (Ok x) (Ok y) → x ≡ y
ok-one e = cc

ok-err : {x : Direction} {c : Code} → ◌≡◌ {A = Result Direction Code} (Ok x) (Err c) → ⊥
ok-err e = cc

pub a-direction : (d : ℕ) (x : Direction) → Ok x ≡ directed d → (d ≤ 1) × (numbered x ≡ d)
a-direction d x e = go (eqb d 0) refl (eqb d 1) refl
  where
    go : (a : Bool) → eqb d 0 ≡ a → (b : Bool) → eqb d 1 ≡ b → (d ≤ 1) × (numbered x ≡ d)
    go true p b q =
        let z = eqb-true d 0 p in
        let f : Ok x ≡ Ok Direction.Forward = rw p at e in
        (omega (arith, z), ap numbered (ok-one f) ∙ sym z)
    go false p true q =
        let z = eqb-true d 1 q in
        let f : Ok x ≡ Ok Direction.Undo = rw (p, q) at e in
        (omega (arith, z), ap numbered (ok-one f) ∙ sym z)
    go false p false q = absurd (ok-err (rw (p, q) at e))

err-one : {x y : Code} → ◌≡◌ {A = Result Direction Code} (Err x) (Err y) → x ≡ y
err-one e = cc

pub no-direction : (d : ℕ) (c : Code) → Err c ≡ directed d → (1 < d) × (c ≡ Code.BadDirection)
no-direction d c e = go (eqb d 0) refl (eqb d 1) refl
  where
    go : (a : Bool) → eqb d 0 ≡ a → (b : Bool) → eqb d 1 ≡ b → (1 < d) × (c ≡ Code.BadDirection)
    go true p b q = absurd (ok-err (sym (rw p at e)))
    go false p true q = absurd (ok-err (sym (rw (p, q) at e)))
    go false p false q =
        let f : Err c ≡ Err Code.BadDirection = rw (p, q) at e in
        (omega (arith, eqb-false d 0 p, eqb-false d 1 q), err-one f)

-- words that pass 17 are lent words
lent_too : {w : List ℕ} (plan : Result Plan Code) → Lent w → IfOk plan (λ p. PlanFit p (view w)) → IfOk plan (λ p. Lent w × PlanFit p (view w))
lent_too (Ok p) t f = (t, f)
lent_too (Err c) t f = tt

-- the direction picks the step
module _ (program : List Block) (m : Machine) (p : ℕ) (here : Place) where
  pub goes-forward : (d : ℕ) → d ≡ 0 → forward program m p here ≡ step_of program m p here d
  unfolding pick
  goes-forward d e = rw (eq-eqb d 0 e)

  pub goes_back : (d : ℕ) → (d ≡ 0 → ⊥) → undo program m p here ≡ step_of program m p here d
  unfolding pick
  goes_back d n = rw (ne_eqb d 0 n)

module _ (program : List Block) (w : List ℕ) (p d : ℕ) where
  code-16 : (length w ≡ 8674 → ⊥) → refuse 16 0 w ≡ step_in w p d program
  unfolding step_in pick
  code-16 n = rw (ne_eqb (length w) 8674 n)

  module _ (l : length w ≡ 8674) where
    code-17 : fits program w ≡ false → refuse 17 0 w ≡ step_in w p d program
    unfolding step_in pick
    code-17 f = rw (eq-eqb (length w) 8674 l, f)

    module _ (f : fits program w ≡ true) where
      pub code-19 : 1 < d → refuse 19 0 w ≡ step_in w p d program
      unfolding step_in pick
      code-19 h = rw (eq-eqb (length w) 8674 l, f, lt-ltb 1 d h)

      module _ (h : d ≤ 1) where
        standing-in : step_at w program p d (standing (view w).rows p) ≡ step_in w p d program
        unfolding step_in pick
        standing-in = rw (eq-eqb (length w) 8674 l, f, le-ltb 1 d h)

        pub code-18 : live_count w ≡ row_of w p → refuse 18 0 w ≡ step_in w p d program
        code-18 r = ap (step_at w program p d) (sym (standing-lost w p (omega (arith, r)))) ∙ standing-in

        pub goes_on_with :
            (row : ℕ) (plan : Result Plan Code) → row ≡ row_of w p → row < live_count w → Lent w →
            Plans w plan (step_of program (view w) (process_at w row) (here_at w row) d) → Finishes w plan (step_in w p d program)
        goes_on_with row plan r n t s =
            let k : row_of w p < live_count w = subst (λ (x : ℕ). x < live_count w) r n in
            let q : process_at w row ≡ p = ap (λ (x : ℕ). process_at w x) r ∙ eqb-true _ _ (row_is w p k) in
            let here : standing (view w).rows p ≡ some (here_at w row) = standing-found w p k ∙ ap (λ (x : ℕ). some (here_at w x)) (sym r) in
            record {
              shown =
                  ap (finished w) (s.shown ∙ ap (λ (x : ℕ). step_of program (view w) x (here_at w row) d) q)
                  ∙ ap (step_at w program p d) (sym here)
                  ∙ standing-in;
              committed = lent_too plan t s.fit;
            }

  -- 16 or 17, whichever it is
  pub code-unfit : (code : Code) → Fitting program w (Err code) → refuse (number code) 0 w ≡ step_in w p d program
  code-unfit code u = either program w (λ n. refuse n 0 w ≡ step_in w p d program) code-16 code-17 code u
