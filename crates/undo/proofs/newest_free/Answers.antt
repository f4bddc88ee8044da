-- The process has no entry, or the graph holds its newest, or that entry is free.
use Rattle.std.proofs.Common.{rules}
use Rattle.undo.proofs.Freeing.{newest-kept, free-kept, scanned}
use Rattle.undo.proofs.newest_free.Goals as goal

pub returns-clause-newest : goal.returns-clause-newest
returns-clause-newest c = newest-kept c.args.m.now c.args.p _ c.newest.result c.filter.result c.newest.ensures c.filter.ensures

pub returns-clause-free : goal.returns-clause-free
returns-clause-free c program t b =
    let w = c.args.m.now in
    free-kept w c.args.p _ program c.newest.result c.filter.result c.newest.ensures
    (λ k x q n. let s = scanned w _ _ b n.within in search rules) c.filter.ensures
