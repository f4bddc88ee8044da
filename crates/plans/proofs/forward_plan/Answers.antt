-- The block whose entry holds the row's place is fit for the step.
use Rattle.std.proofs.Common.{ap, ◌∙◌, arith}
use mathlib.Core.Logic.{inl}
use Rattle.rules.specs.Fits.{entry_block}
use Rattle.step.proofs.Standing.{row-ready}
use Rattle.plans.proofs.Known.{ready_of, apt_block}
use Rattle.places.proofs.Looking.{unwrapped, unwrapped_within}
use Rattle.plans.proofs.forward_plan.Goals as goal

pub of_row-requires : goal.of_row-requires
of_row-requires c = row-ready c.args.m.now c.args.row (ready_of c.args.blocks.now c.args.m.now c.requires.0 c.args.row c.requires.2)

pub overflow_cast-into : goal.overflow_cast-into
overflow_cast-into c =
    omega (
      arith,
      c.unwrap_or-into.ensures,
      unwrapped_within c.entry_block.result c.args.places.now.count c.entry_block.ensures.below,
      c.requires.3.entries.count,
      c.requires.1,
    )

pub overflow_cast-out : goal.overflow_cast-out
overflow_cast-out c =
    omega (
      arith,
      c.unwrap_or-out.ensures,
      unwrapped_within c.exit_block.result c.args.places.now.count c.exit_block.ensures.below,
      c.requires.3.exits.count,
      c.requires.1,
    )

pub forward-requires : goal.forward-requires
forward-requires c =
    let w = c.args.m.now in
    let program = c.args.blocks.now in
    let e =
    c.unwrap_or-into.ensures ∙ unwrapped c.entry_block.result c.args.places.now.count
    ∙ c.entry_block.ensures.block program c.requires.3.entries ∙ ap (entry_block program) c.of_row.ensures.stands in (
      ready_of program w c.requires.0 c.args.row c.requires.2,
      apt_block program w c.requires.0 c.args.row c.requires.2 (inl e) c.block_at-block.ensures,
    )
