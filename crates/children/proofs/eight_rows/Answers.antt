-- Each turn writes one row more.
use Rattle.std.proofs.Common.{refl, ap, ◌∙◌, ◌+◌, arith, rules}
use Rattle.rules.specs.Machine.{child, pack_rows}
use Rattle.rules.specs.Step.{child_rows}
use Rattle.identifier.specs.declared.Identifier.{Identifier}
use Rattle.children.proofs.Words.{row-written}
use Rattle.children.proofs.eight_rows.Goals as goal

pub loop-i-init : goal.loop-i-init
unfolding pack_rows child_rows
loop-i-init c = refl

pub loop-i-preserved : goal.loop-i-preserved
loop-i-preserved c =
    let l = c.loop-i in
    row-written c.args.p c.args.stage c.args.labels.now l.rows l.i l.invariant (search rules) (omega arith)
    (c.child.ensures ∙ ap (λ (q : Identifier). child q.number (l.i + 1)) c.from-parent.ensures) c.from.ensures
