-- 16, or the list on the words of the bytes.
use Rattle.std.proofs.Common.{sym, ◌∙◌}
use Rattle.tillerwrap.proofs.Listed.{no-rows, no-machine, on-words}
use Rattle.tillerwrap.proofs.listing_of.Goals as goal
use Rattle.tillerwrap.proofs.listing_of.Goals.{then-n-ne-ROWS-via-then-n-ne-ROWS, then-n-ne-ROWS-via-else-n-ne-ROWS+then-machine-ne-MACHINE_BYTES}

pub returns-then-n-ne-ROWS-clause-list : goal.returns-then-n-ne-ROWS-clause-list
returns-then-n-ne-ROWS-clause-list c = λ lent size.
    let a = c.args in
    c.wrong_length.ensures.rows lent
    ∙ (elim c.then-n-ne-ROWS.branch [
      | then-n-ne-ROWS-via-then-n-ne-ROWS w ↦ no-rows a.image.now a.machine.now lent (λ l. w.if-n-ne-ROWS.true (sym size ∙ l))
      | then-n-ne-ROWS-via-else-n-ne-ROWS+then-machine-ne-MACHINE_BYTES w ↦ no-machine a.image.now a.machine.now lent w.if-machine-ne-MACHINE_BYTES.true
    ])

pub returns-clause-list : goal.returns-clause-list
returns-clause-list c = λ lent size.
    let a = c.args in
    c.ready.ensures lent (size ∙ c.if-n-ne-ROWS.false)
    ∙ on-words a.image.now a.machine.now lent _ c.if-machine-ne-MACHINE_BYTES.false c.words_of.ensures
