-- The words cleared, the memory copied in and the live count set are the packed start.
use Rattle.std.proofs.Common.{List, ℕ}
use Rattle.machine.proofs.Begin.{start-words, bad-first, bad-machine, well}
use Rattle.machine.proofs.start.start.Goals as goal
use Rattle.machine.proofs.start.start.Goals.{then-first-ne-MEMORY_WORDS-via-then-first-ne-MEMORY_WORDS}
use Rattle.machine.proofs.start.start.Goals.{then-first-ne-MEMORY_WORDS-via-else-first-ne-MEMORY_WORDS+then-m-ne-WORDS}

pub returns-then-first-ne-MEMORY_WORDS : goal.returns-then-first-ne-MEMORY_WORDS
returns-then-first-ne-MEMORY_WORDS c = λ program.
    elim c.then-first-ne-MEMORY_WORDS.branch [
      | then-first-ne-MEMORY_WORDS-via-then-first-ne-MEMORY_WORDS w ↦
          bad-first c.args.first.now c.args.m.now program w.if-first-ne-MEMORY_WORDS.true
      | then-first-ne-MEMORY_WORDS-via-else-first-ne-MEMORY_WORDS+then-m-ne-WORDS w ↦
          bad-machine c.args.first.now c.args.m.now program w.if-first-ne-MEMORY_WORDS.false w.if-m-ne-WORDS.true
    ]

pub returns : goal.returns
returns c =
    let w : List ℕ = c.args.m.now in
    let f : List ℕ = c.args.first.now in
    λ program. well f w program _ c.if-first-ne-MEMORY_WORDS.false c.if-m-ne-WORDS.false
    (start-words f w c.fill.new.self c.copy_from_slice.new.self c.if-m-ne-WORDS.false (c.fill.ensures.after (λ y e. e)) c.copy_from_slice.ensures.after)
