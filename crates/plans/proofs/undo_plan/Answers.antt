-- The block whose exit holds the row's place is fit for the undo.
use Rattle.std.proofs.Common.{sym, ap, ◌∙◌}
use mathlib.Core.Logic.{inr}
use Rattle.rules.specs.Labels.{block_of}
use Rattle.rules.specs.Fits.{exit_block}
use Rattle.step.proofs.Standing.{row-ready}
use Rattle.plans.proofs.Known.{ready_of, apt_block, blocks-below, below-128}
use Rattle.places.proofs.Looking.{unwrapped}
use Rattle.plans.proofs.undo_plan.Goals as goal

pub of_row-requires : goal.of_row-requires
of_row-requires c = row-ready c.args.m.now c.args.row (ready_of c.args.blocks.now c.args.m.now c.requires.0 c.args.row c.requires.2)

pub undo-requires : goal.undo-requires
undo-requires c =
    let w = c.args.m.now in
    let program = c.args.blocks.now in
    let e =
    c.unwrap_or-out.ensures ∙ unwrapped c.exit_block.result c.args.places.now.count
    ∙ c.exit_block.ensures.block program c.requires.3 ∙ ap (exit_block program) c.of_row.ensures.stands in (
      ready_of program w c.requires.0 c.args.row c.requires.2,
      apt_block program w c.requires.0 c.args.row c.requires.2 (inr e) c.block_at-block.ensures,
      below-128 program w c.requires.0,
    )

pub returns : goal.returns
returns c =
    let w = c.args.m.now in
    let program = c.args.blocks.now in
    let e =
    c.unwrap_or-out.ensures ∙ unwrapped c.exit_block.result c.args.places.now.count
    ∙ c.exit_block.ensures.block program c.requires.3 ∙ ap (exit_block program) c.of_row.ensures.stands in
    c.undo.ensures program c.requires.4 (blocks-below program w c.requires.0) (ap (block_of program) (sym e) ∙ sym c.block_at-block.ensures)
