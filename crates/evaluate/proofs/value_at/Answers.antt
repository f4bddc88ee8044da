-- A place that is not written holds what the memory holds.
use Rattle.std.proofs.Common.{◌≡◌, ◌∙◌}
use Rattle.evaluate.proofs.Written.{no_write, beside_one, beside_both}
use Rattle.evaluate.proofs.value_at.Goals as goal
use Rattle.evaluate.proofs.value_at.Goals.{in_default-via-in-One+else-place-at, in_default-via-in-Two-2+else-place-first, in_default-via-in_default}

pub returns-in_default : goal.returns-in_default
returns-in_default c =
    elim c.in_default.branch [
      | in_default-via-in-One+else-place-at w ↦ beside_one c.args.memory.now c.args.place w.in-One.is w.if-place-at.false
      | in_default-via-in-Two-2+else-place-first w ↦
          let e : w.in-Two-2.field-2 ≡ w.in-Two.second = cc in
          beside_both c.args.memory.now c.args.place w.in-Two-2.is (λ h. w.if-place-second.false (h ∙ e)) w.if-place-first.false
      | in_default-via-in_default w ↦ no_write c.args.memory.now c.args.place w.in_default.is
    ]
