-- The unused words are those past the last row and those past the last entry.
use Rattle.std.proofs.Common.{sym, ◌∙◌}
use Rattle.ordered.proofs.Zeros.{unused-rows, unused-history}
use Rattle.ordered.proofs.words.unused_zero.Goals as goal

pub returns-then-all_zero : goal.returns-then-all_zero
returns-then-all_zero c =
    let q = c.requires in
    c.all_zero-then-all_zero.ensures ∙ sym (unused-history c.args.m.now q.0 q.1 q.2 (sym c.if-all_zero.ensures))

pub returns-else-all_zero : goal.returns-else-all_zero
returns-else-all_zero c =
    let q = c.requires in
    c.if-all_zero.false ∙ sym (unused-rows c.args.m.now q.0 q.1 q.2 (sym c.if-all_zero.ensures))
