-- Each turn counts the next row; the last has counted all.
use Rattle.std.proofs.Common.{arith}
use Rattle.fits.proofs.Tallying.{tallied-none, tallied-room, tallied-more, tallied-all}
use Rattle.fits.proofs.children.tally_of.Goals as goal

pub loop-i-init : goal.loop-i-init
loop-i-init c = tallied-none c.args.m.now c.requires

pub count_child-requires : goal.count_child-requires
count_child-requires c = (c.requires, tallied-room c.args.m.now c.requires c.loop-i.i _ (omega arith) c.loop-i.invariant)

pub loop-i-preserved : goal.loop-i-preserved
loop-i-preserved c = tallied-more c.args.m.now c.requires c.loop-i.i _ _ (omega arith) c.loop-i.invariant c.count_child.ensures

pub returns : goal.returns
returns c = tallied-all c.args.m.now c.requires c.loop-i.i _ (omega arith) c.loop-i.invariant
