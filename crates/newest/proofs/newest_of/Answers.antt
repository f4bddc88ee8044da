-- Each turn notes the next entry; the last has noted all.
use Rattle.std.proofs.Common.{arith}
use Rattle.newest.proofs.Recent.{newer_none, newer_more, newer_all}
use Rattle.newest.proofs.newest_of.Goals as goal

pub loop-k-init : goal.loop-k-init
loop-k-init c = newer_none c.args.m.now c.requires

pub loop-k-preserved : goal.loop-k-preserved
loop-k-preserved c = newer_more c.args.m.now c.requires c.loop-k.k _ _ (omega arith) c.loop-k.invariant c.note.ensures

pub returns : goal.returns
returns c = newer_all c.args.m.now c.requires c.loop-k.k _ (omega arith) c.loop-k.invariant
