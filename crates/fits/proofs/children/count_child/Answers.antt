-- The root is no child; a child's parent is not live, or has one child more.
use Rattle.std.proofs.Common.{◌≡◌, ◌/◌, ℕ, ap, ◌∙◌, arith}
use Rattle.identifier.specs.declared.Identifier.{Identifier}
use Rattle.machine.specs.RowOf.{row_of}
use Rattle.fits.proofs.Tallying.{more-root, more-lost, more-found}
use Rattle.fits.proofs.children.count_child.Goals as goal

abbrev number : Identifier → ℕ
number p = p.number

pub returns-then-identifier-eq-ROOT : goal.returns-then-identifier-eq-ROOT
returns-then-identifier-eq-ROOT c = more-root c.args.m.now c.args.identifier c.args.tally.now c.if-identifier-eq-ROOT.true

pub returns-in-Some : goal.returns-in-Some
returns-in-Some c =
    let above : c.parent.result.number ≡ c.args.identifier / 16 = omega (arith, c.parent.ensures, ap number c.from.ensures) in
    more-found c.args.m.now c.args.identifier c.args.tally.now c.requires.0 c.if-identifier-eq-ROOT.false _
    (c.in-Some.ensures.row ∙ ap (row_of c.args.m.now) above) (omega arith) c.in-Some.ensures.live

pub returns-in_default : goal.returns-in_default
returns-in_default c =
    let above : c.parent.result.number ≡ c.args.identifier / 16 = omega (arith, c.parent.ensures, ap number c.from.ensures) in
    more-lost c.args.m.now c.args.identifier c.args.tally.now c.requires.0 c.if-identifier-eq-ROOT.false _
    (c.in_default.ensures.row ∙ ap (row_of c.args.m.now) above) (omega arith)
