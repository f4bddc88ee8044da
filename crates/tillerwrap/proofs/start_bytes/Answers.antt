-- A start on the words of the bytes.
use Rattle.std.proofs.Common.{ℕ, List, refl, ap, ◌∙◌}
use Rattle.rules.specs.Base.{zeros}
use Rattle.rules.specs.Words.{start_in}
use Rattle.machine.specs.Outcome.{ended}
use Rattle.tillerwrap.proofs.Lent.{bad-first, bad-machine, well}
use Rattle.tillerwrap.proofs.start_bytes.Goals as goal
use Rattle.tillerwrap.proofs.start_bytes.Goals.{then-first-ne-MEMORY_BYTES-via-then-first-ne-MEMORY_BYTES, then-first-ne-MEMORY_BYTES-via-else-first-ne-MEMORY_BYTES+then-machine-ne-MACHINE_BYTES}

pub returns-then-first-ne-MEMORY_BYTES : goal.returns-then-first-ne-MEMORY_BYTES
returns-then-first-ne-MEMORY_BYTES c = λ program.
    let a = c.args in
    elim c.then-first-ne-MEMORY_BYTES.branch [
      | then-first-ne-MEMORY_BYTES-via-then-first-ne-MEMORY_BYTES w ↦ bad-first a.first.now a.machine.now program w.if-first-ne-MEMORY_BYTES.true
      | then-first-ne-MEMORY_BYTES-via-else-first-ne-MEMORY_BYTES+then-machine-ne-MACHINE_BYTES w ↦
          bad-machine a.first.now a.machine.now program w.if-first-ne-MEMORY_BYTES.false w.if-machine-ne-MACHINE_BYTES.true
    ]

pub returns : goal.returns
returns c =
    let a = c.args in
    λ program.
    ap (ended c.start-done.result) c.bytes_of.ensures
    ∙ well a.first.now a.machine.now program c.start-done.result
    (zeros 8674) c.start-done.new.m c.if-first-ne-MEMORY_BYTES.false c.if-machine-ne-MACHINE_BYTES.false refl
    (c.start-done.ensures program ∙ ap (λ (f : List ℕ). start_in f (zeros 8674) program) c.words_of.ensures)
