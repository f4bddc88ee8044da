-- A live process's row takes the block; a process that is not live has no row.
use Rattle.std.proofs.Common.{arith}
use Rattle.newest.proofs.Recent.{noted_lost, noted_found}
use Rattle.newest.proofs.note.Goals as goal

pub returns-in-Some : goal.returns-in-Some
returns-in-Some c =
    noted_found c.args.m.now c.requires.0 c.args.identifier c.args.block _ c.args.newest.now c.in-Some.ensures.row (omega arith) c.in-Some.ensures.live

pub returns-in_default : goal.returns-in_default
returns-in_default c =
    noted_lost c.args.m.now c.requires.0 c.args.identifier c.args.block _ c.args.newest.now c.in_default.ensures.row (omega arith)
