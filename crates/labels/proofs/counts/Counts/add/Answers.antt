-- Each of the four tables has room for a block's labels, and counts them.
use Rattle.std.proofs.Common.{◌∙◌}
use Rattle.short.proofs.Programs.{entry-short, exit-short, begin-short, end-short}
use Rattle.labels.proofs.Counting.{counted-room, counted-more}
use Rattle.labels.proofs.counts.Counts.add.Goals as goal

pub raise-requires : goal.raise-requires
raise-requires c =
    counted-room _ (λ b. entry-short b.entry) _ _ _ c.args.block.now c.requires.1 c.requires.2.entries
    (c.labels.ensures ∙ c.of_entry.ensures)

pub raise-requires-2 : goal.raise-requires-2
raise-requires-2 c =
    counted-room _ (λ b. exit-short b.exit) _ _ _ c.args.block.now c.requires.1 c.requires.2.exits
    (c.labels-2.ensures ∙ c.of_exit.ensures)

pub raise-requires-3 : goal.raise-requires-3
raise-requires-3 c =
    counted-room _ (λ b. begin-short b.entry) _ _ _ c.args.block.now c.requires.1 c.requires.2.begins
    (c.labels-3.ensures ∙ c.of_begin.ensures)

pub raise-requires-4 : goal.raise-requires-4
raise-requires-4 c =
    counted-room _ (λ b. end-short b.exit) _ _ _ c.args.block.now c.requires.1 c.requires.2.ends
    (c.labels-4.ensures ∙ c.of_end.ensures)

pub returns : goal.returns
returns c =
    λ program h.
    record {
      entries = counted-more _ program _ _ _ _ h.entries (c.labels.ensures ∙ c.of_entry.ensures) c.raise.ensures;
      exits = counted-more _ program _ _ _ _ h.exits (c.labels-2.ensures ∙ c.of_exit.ensures) c.raise-2.ensures;
      begins = counted-more _ program _ _ _ _ h.begins (c.labels-3.ensures ∙ c.of_begin.ensures) c.raise-3.ensures;
      ends = counted-more _ program _ _ _ _ h.ends (c.labels-4.ensures ∙ c.of_end.ensures) c.raise-4.ensures;
    }
