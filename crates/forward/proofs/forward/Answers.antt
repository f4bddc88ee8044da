-- Each way out is one of Ways.
use Rattle.std.proofs.Common.{ℕ, sym, ap, ◌∙◌, subst, length, arith}
use Rattle.rules.specs.Machine.{child, children, view}
use Rattle.laws.proofs.View.{length-history}
use Rattle.step.specs.Ready.{FirstFrom}
use Rattle.step.proofs.Standing.{rows-ready, row-ready}
use Rattle.step.proofs.Making.{refuses, plans_at, makes-merge}
use Rattle.forward.proofs.Ways.{at-end, waiting, full, alone, merging}
use Rattle.forward.proofs.forward.Goals as goal

pub of_row-process-requires : goal.of_row-process-requires
of_row-process-requires c = row-ready c.args.m.now c.args.row c.requires.0

pub returns-then-process-eq-END : goal.returns-then-process-eq-END
returns-then-process-eq-END c program i o b =
    let row = c.of_row-process.ensures in
    refuses (at-end program (view c.args.m.now) row.identifier row.stands c.if-process-eq-END.true)

pub children_at-requires : goal.children_at-requires
children_at-requires c = rows-ready c.args.m.now c.args.row c.requires.0

pub returns-then-not-children_at : goal.returns-then-not-children_at
returns-then-not-children_at c program i o b =
    let row = c.of_row-process.ensures in
    refuses
    (waiting program (view c.args.m.now) row.identifier row.stands c.if-process-eq-END.false (sym c.children_at.ensures ∙ c.if-not-children_at.true))

pub returns-then-m-ge-MOST_KEPT : goal.returns-then-m-ge-MOST_KEPT
returns-then-m-ge-MOST_KEPT c program i o b =
    let w = c.args.m.now in
    let row = c.of_row-process.ensures in
    refuses
    (full program (view w) row.identifier row.stands c.if-process-eq-END.false (sym c.children_at.ensures ∙ c.if-not-children_at.false)
    (omega (arith, length-history w)))

pub child_count-count-requires : goal.child_count-count-requires
child_count-count-requires c = rows-ready c.args.m.now c.args.row c.requires.0

pub returns-then-count-eq0 : goal.returns-then-count-eq0
returns-then-count-eq0 c program i o b =
    let w = c.args.m.now in
    let row = c.of_row-process.ensures in
    plans_at
    (alone program (view w) row.identifier row.stands c.if-process-eq-END.false (sym c.children_at.ensures ∙ c.if-not-children_at.false)
    (omega (arith, length-history w)) c.child_count-count.ensures i c.if-count-eq0.true)
    (c.childless.ensures program b)

pub first_child-requires : goal.first_child-requires
first_child-requires c = rows-ready c.args.m.now c.args.row c.requires.0

pub returns : goal.returns
returns c program i o b =
    let w = c.args.m.now in
    let row = c.of_row-process.ensures in
    let n = c.child_count-count.ensures in
    plans_at
    (merging program (view w) row.identifier row.stands c.if-process-eq-END.false (sym c.children_at.ensures ∙ c.if-not-children_at.false)
    (omega (arith, length-history w)) n o c.if-count-eq0.false)
    (makes-merge w c.args.row c.requires.0 _
    (subst (λ (y : ℕ). FirstFrom w (child y 1) c.first_child.result) row.identifier c.first_child.ensures) _
    (n ∙ ap (λ (y : ℕ). length (children (view w).rows y)) row.identifier) c.args.out (omega arith))
