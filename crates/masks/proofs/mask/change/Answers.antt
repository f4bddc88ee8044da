-- An exchange changes what a write to each of its targets changes.
use Rattle.rules.specs.Names.{instruction_writes}
use Rattle.masks.proofs.Bits.{mask_or, mask_at}
use Rattle.masks.proofs.mask.change.Goals as goal

pub returns-in-Exchange : goal.returns-in-Exchange
returns-in-Exchange c =
    mask_at instruction_writes c.in-Exchange.is (mask_or c.changed-in-Exchange.ensures c.changed-in-Exchange-2.ensures)
