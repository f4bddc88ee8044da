-- At begin and end by the label alone, at run by the block.
use Rattle.std.proofs.Common.{sym, ap, ◌∙◌, eqb, arith, ℕ}
use Rattle.own.proofs.Placing.{stands-begin, stands-end, stands-nowhere, stands-run, home-at}
use Rattle.own.proofs.stands_in.Goals as goal
use Rattle.own.proofs.stands_in.Goals.{then-stage-eq-BEGIN-via-then-stage-eq-BEGIN, then-stage-eq-BEGIN-via-else-stage-eq-BEGIN+then-stage-eq-END}

pub returns-then-stage-eq-BEGIN : goal.returns-then-stage-eq-BEGIN
returns-then-stage-eq-BEGIN c = λ program t h.
    let a = c.args in
    ap (eqb a.label) c.from.ensures
    ∙ sym
    (elim c.then-stage-eq-BEGIN.branch [
      | then-stage-eq-BEGIN-via-then-stage-eq-BEGIN w ↦ stands-begin program a.l a.label a.stage w.if-stage-eq-BEGIN.true
      | then-stage-eq-BEGIN-via-else-stage-eq-BEGIN+then-stage-eq-END w ↦
          stands-end program a.l a.label a.stage w.if-stage-eq-BEGIN.false w.if-stage-eq-END.true
    ])

pub returns-in-Some : goal.returns-in-Some
returns-in-Some c = λ program t h.
    let a = c.args in
    let n = t.count in
    let k = h.count in
    ap (λ (x : ℕ). eqb x a.l) (home-at program a.calls.now _ h (omega arith))
    ∙ sym
    (stands-run program a.l a.label a.stage c.if-stage-eq-BEGIN.false c.if-stage-eq-END.false _
    (c.in-Some.ensures.block program t) (omega arith))

pub returns-in_default : goal.returns-in_default
returns-in_default c = λ program t h.
    let a = c.args in
    let n = t.count in
    let k = h.count in
    sym
    (stands-nowhere program a.l a.label a.stage c.if-stage-eq-BEGIN.false c.if-stage-eq-END.false _
    (c.in-Some.ensures.block program t) (omega arith))

pub returns-in_default-2 : goal.returns-in_default-2
returns-in_default-2 c = λ program t h.
    let a = c.args in
    let n = t.count in
    sym
    (stands-nowhere program a.l a.label a.stage c.if-stage-eq-BEGIN.false c.if-stage-eq-END.false _
    (c.in_default.ensures.block program t) (omega arith))
