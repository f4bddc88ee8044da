-- Two operands name what each of them names.
use Rattle.rules.specs.Names.{expression_names}
use Rattle.masks.proofs.Bits.{mask_or, mask_at}
use Rattle.masks.proofs.mask.expression.Goals as goal

pub returns-in-Two : goal.returns-in-Two
returns-in-Two c =
    mask_at expression_names c.in-Two.is (mask_or c.operand.ensures c.operand-in-Two.ensures)
