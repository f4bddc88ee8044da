-- The root's is main's; a child's is what is called where its parent stands.
use Rattle.std.proofs.Common.{◌≡◌, ℕ, ◌/◌, ◌%◌, ap, ◌∙◌, arith}
use Rattle.std.proofs.Math.Path.{ap₂}
use Rattle.rules.specs.Fits.{nth}
use Rattle.machine.specs.RowOf.{row_of}
use Rattle.own.proofs.Owning.{own_root, own-lost, own-called}
use Rattle.identifier.specs.declared.Identifier.{Identifier}
use Rattle.laws.specs.Found.{given}
use Rattle.own.proofs.own_label.Goals as goal

abbrev number : Identifier → ℕ
number p = p.number

pub returns-then-identifier-eq-ROOT : goal.returns-then-identifier-eq-ROOT
returns-then-identifier-eq-ROOT c = λ program x t. own_root program c.args.m.now c.args.identifier c.if-identifier-eq-ROOT.true

pub returns-in_err-parent : goal.returns-in_err-parent
returns-in_err-parent c = λ program x t.
    let p = c.args.identifier in
    let above : c.parent.result.number ≡ p / 16 = omega (arith, c.parent.ensures, ap number c.from-process.ensures) in
    ap given c.from_residual.ensures
    ∙ own-lost program c.args.m.now p c.if-identifier-eq-ROOT.false _ (c.in_err-parent.ensures.row ∙ ap (row_of c.args.m.now) above) (omega arith)

pub returns : goal.returns
returns c = λ program x t.
    let p = c.args.identifier in
    let above : c.parent.result.number ≡ p / 16 = omega (arith, c.parent.ensures, ap number c.from-process.ensures) in
    let digit : c.digit.result ≡ p % 16 = omega (arith, c.digit.ensures, ap number c.from-process.ensures) in
    c.nth.ensures
    ∙ ap₂ nth (c.called_at-called.ensures program x t) digit
    ∙ own-called program c.args.m.now p c.if-identifier-eq-ROOT.false _ (c.in_ok-parent.ensures.row ∙ ap (row_of c.args.m.now) above)
    c.in_ok-parent.ensures.live
