-- Nothing is noted at first, and then one block more.
use Rattle.std.proofs.Common.{◌≡◌, arith, get_or, length, take, ◌∙◌, sym, ap, length-take-le}
use Rattle.std.proofs.lemmas.List.{take_more}
use Rattle.short.proofs.Programs.{blank, begin-short, end-short}
use Rattle.processes.proofs.Owning.{tallied-none, tallied-room, tallied-more}
use Rattle.processes.proofs.own.Own.of.Goals as goal

pub loop-b-init : goal.loop-b-init
loop-b-init c =
    let gs = c.args.groups.now.numbers in
    record { begins = rw c.blank.ensures (tallied-none _ gs); ends = rw c.blank-2.ensures (tallied-none _ gs) }

pub note-requires : goal.note-requires
note-requires c =
    let p = c.loop-b in
    let blocks = c.args.blocks.now in
    let long : length (take p.b blocks) ≡ p.b = length-take-le p.b blocks (omega arith) in
    (c.of_block-g.ensures.1, tallied-room _ (λ b. begin-short b.entry) c.args.groups.now.numbers _ (take p.b blocks) _ (omega arith) p.invariant.begins)

pub note-requires-in-loop-b : goal.note-requires-in-loop-b
note-requires-in-loop-b c =
    let p = c.loop-b in
    let blocks = c.args.blocks.now in
    let long : length (take p.b blocks) ≡ p.b = length-take-le p.b blocks (omega arith) in
    (c.of_block-g.ensures.1, tallied-room _ (λ b. end-short b.exit) c.args.groups.now.numbers _ (take p.b blocks) _ (omega arith) p.invariant.ends)

pub loop-b-preserved : goal.loop-b-preserved
loop-b-preserved c =
    let p = c.loop-b in
    let blocks = c.args.blocks.now in
    let gs = c.args.groups.now.numbers in
    let g = c.of_block-g in
    let at : g.result ≡ get_or gs (length (take p.b blocks)) 0 =
    g.ensures.0 ∙ ap (λ k. get_or gs k 0) (sym (length-take-le p.b blocks (omega arith))) in
    rw (take_more blocks p.b blank (omega arith))
    record {
      begins =
          tallied-more _ gs (take p.b blocks) _ p.invariant.begins (get_or blocks p.b blank) g.result at g.ensures.1 _ _ c.of_begin.ensures
          c.note.ensures;
      ends =
          tallied-more _ gs (take p.b blocks) _ p.invariant.ends (get_or blocks p.b blank) g.result at g.ensures.1 _ _ c.of_end.ensures
          c.note-in-loop-b.ensures;
    }
