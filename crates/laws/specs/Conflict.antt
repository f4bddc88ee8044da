-- When two kept steps conflict: one writes what the other reads. (What is written is also read.)
use Rattle.std.specs.Prelude.{Bool, ◌&&◌, ◌||◌, List}
use Rattle.rules.specs.Base.{some_below}
use Rattle.rules.specs.Names.{resources}
use Rattle.rules.specs.Machine.{Kept}
use Rattle.rules.specs.Cause.{reads, writes}
use Rattle.rules.specs.declared.Block.{Block}

unfoldable pub conflicts : List Block → Kept → Kept → Bool
conflicts program k j =
    some_below (λ r. writes program k r && reads program j r) resources || some_below (λ r. reads program k r && writes program j r) resources
