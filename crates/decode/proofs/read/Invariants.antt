-- What the whole reading gives is the blocks that were read, with what is read from the cursor on. The measure is the room that is left.
use Rattle.std.proofs.Common.{◌≡◌, ◌-◌, ◌≤◌, length, take}
use Rattle.decode.proofs.Blocks.{Stand}
use Rattle.decode.proofs.read.Given as goal

abbrev pub invariant-loop-cursor : goal.invariant-loop-cursor
invariant-loop-cursor l = record {
  read : Stand l.s 128 (take l.count l.blocks) l.cursor.at;
  few : l.count ≤ 128;
  room : length l.blocks ≡ 128;
}

abbrev pub decreases-loop-cursor : goal.decreases-loop-cursor
decreases-loop-cursor l = 128 - l.count
