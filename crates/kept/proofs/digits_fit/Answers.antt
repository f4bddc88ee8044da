-- Each turn looks at one digit, as each step of the definition does.
use Rattle.std.proofs.Common.{◌≡◌, ◌+◌, ◌-◌, ◌/◌, sym, ap, ◌∙◌, arith}
use Rattle.rules.specs.Fits.{digits_fit}
use Rattle.identifier.specs.declared.Identifier.{Identifier}
use Rattle.kept.proofs.Digits.{digits-none, digits_low, digits-high, digits-next, digits-end}
use Rattle.kept.proofs.digits_fit.Goals as goal
use Rattle.kept.proofs.digits_fit.Goals.{then-digit-lt1-via-then-digit-lt1, then-digit-lt1-via-else-digit-lt1+then-digit-gt-MOST_CALLED}

pub loop-init : goal.loop-init
loop-init c = ap (digits_fit 8) (sym (ap (λ (p : Identifier). p.number) c.from-rest.ensures))

pub returns-then-rest-eq-ROOT : goal.returns-then-rest-eq-ROOT
returns-then-rest-eq-ROOT c = sym (c.loop.invariant ∙ digits-none _ _ c.if-rest-eq-ROOT.true)

pub returns-then-digit-lt1 : goal.returns-then-digit-lt1
returns-then-digit-lt1 c =
    let i = c.loop.invariant in
    let some = c.if-rest-eq-ROOT.false in
    elim c.then-digit-lt1.branch [
      | then-digit-lt1-via-then-digit-lt1 w ↦ sym (i ∙ digits_low _ some _ (omega arith) (omega arith))
      | then-digit-lt1-via-else-digit-lt1+then-digit-gt-MOST_CALLED w ↦
          sym (i ∙ digits-high _ some _ (omega arith) (omega arith) (omega arith))
    ]

pub loop-preserved : goal.loop-preserved
loop-preserved c =
    let n = 8 - c.loop.counter in
    let less : n - 1 ≡ 8 - (c.loop.counter + 1) = omega arith in
    c.loop.invariant
    ∙ digits-next _ c.if-rest-eq-ROOT.false n (omega arith) (omega arith) (omega arith)
    ∙ ap (λ j. digits_fit j (c.loop.rest.number / 16)) less
    ∙ ap (digits_fit _) (sym c.parent-rest.ensures)

pub returns : goal.returns
returns c = sym (c.loop.invariant ∙ digits-end _ _ (omega arith))
