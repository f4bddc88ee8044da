-- The block is put at the labels passed.
use Rattle.std.proofs.Common.{take}
use Rattle.places.specs.Places.{Noted}
use Rattle.places.proofs.note.Given as goal

abbrev pub invariant-loop-label : goal.invariant-loop-label
invariant-loop-label l = Noted (take l.label-index l.labels) l.b l.initial.table l.table
