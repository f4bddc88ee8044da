-- An update and an exchange name what their two parts name, and no semaphore.
use Rattle.std.proofs.Common.{sym}
use mathlib.Core.Bool.{or-false}
use Rattle.masks.specs.Mask.{instruction_names}
use Rattle.masks.proofs.Bits.{mask_or, mask_same, mask_at}
use Rattle.masks.proofs.mask.instruction.Goals as goal

pub returns-in-Update : goal.returns-in-Update
returns-in-Update c =
    mask_at instruction_names c.in-Update.is
    (mask_same (λ r. sym (or-false _)) (mask_or c.target.ensures c.expression.ensures))

pub returns-in-Exchange : goal.returns-in-Exchange
returns-in-Exchange c =
    mask_at instruction_names c.in-Exchange.is
    (mask_same (λ r. sym (or-false _)) (mask_or c.target-in-Exchange.ensures c.target-in-Exchange-2.ensures))
