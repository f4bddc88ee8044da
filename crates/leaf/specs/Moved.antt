-- A leaf's move as rules shows it, on the memory that it was made for.
use Rattle.std.specs.Prelude.{ℕ, List}
use Rattle.rules.specs.Leaf.{Moved}
use Rattle.rules.specs.declared.Place.{Place}
use Rattle.evaluate.specs.Shown.{written}
use Rattle.leaf.specs.declared.plan.Move.{Move}

abbrev pub moved_to : Place → List ℕ → Moved
moved_to q memory = record { stands = q; memory = memory }

abbrev pub moved : List ℕ → Move → Moved
moved memory m = moved_to m.to (written m.writes memory)
