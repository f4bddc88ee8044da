-- The only row that can have the identifier has it, or no row has.
use Rattle.std.proofs.Common.{◌≡◌, ℕ, None, eqb, get_or, subst, sym, rules, arith}
use Rattle.std.specs.Bool.{then_some}
use Rattle.std.specs.Prelude.{Option}
use Rattle.rules.specs.Machine.{live_count}
use Rattle.machine.specs.RowOf.{row_of}
use Rattle.laws.specs.Found.{or_else}
use Rattle.ordered.proofs.Halves.{found-if, lost}
use Rattle.ordered.proofs.find.row_in.Goals as goal
use Rattle.ordered.proofs.find.row_in.Goals.{then-row-m, else-row-m}

pub returns-clause-row : goal.returns-clause-row
returns-clause-row c =
    let w = c.args.m.now in
    let ids = c.args.ids.now in
    let o = c.requires.0 in
    let t = c.requires.1 in
    let row : ℕ = c.candidate-row.result in
    let a = c.candidate-row.ensures.1 w o t in
    elim c.if-row-m.branch [
      | then-row-m b ↦
          let e : c.then_some.result ≡ then_some (eqb (get_or ids row 0) c.args.identifier) row = search rules in
          found-if w ids o t _ _ a _ (omega (arith, b.if-row-m.true)) e
      | else-row-m b ↦
          let e : c.then_some.result ≡ None = search rules in
          subst (λ (q : Option ℕ). or_else q (live_count w) ≡ row_of w c.args.identifier) (sym e)
          (lost w ids o t _ _ a (λ l. absurd (omega (arith, b.if-row-m.false))))
    ]
