-- One node more is renamed, or stays.
use Rattle.std.proofs.Common.{ap, arith, set, ◌∙◌}
use Rattle.groups.proofs.Grouping.{renamed-node, other-node}
use Rattle.groups.proofs.rename.Goals.{then-number-old, else-number-old}
use Rattle.groups.proofs.rename.Goals as goal

pub loop-number-preserved : goal.loop-number-preserved
loop-number-preserved c =
    let p = c.loop-number in
    elim c.if-number-old.branch [
      | then-number-old w ↦ ap (set p.nodes p.number-index) w.number-is ∙ renamed-node _ _ c.args.nodes.now p.nodes p.number-index (omega arith) p.invariant w.if-number-old.true
      | else-number-old w ↦ ap (set p.nodes p.number-index) w.number-is ∙ other-node _ _ c.args.nodes.now p.nodes p.number-index (omega arith) p.invariant w.if-number-old.false
    ]
