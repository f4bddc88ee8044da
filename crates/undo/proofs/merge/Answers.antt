-- Without room the undo of a merge is refused; else the children's rows go in at the first row from child 1 on.
use Rattle.std.proofs.Common.{◌≡◌, ℕ, Err, subst, rules}
use mathlib.Core.Path.{subst⁻¹}
use Rattle.rules.specs.Machine.{child, view}
use Rattle.rules.specs.Step.{undo_merge}
use Rattle.rules.specs.declared.Code.{Code}
use Rattle.step.specs.Ready.{process_at, FirstFrom, Plans}
use Rattle.step.proofs.Standing.{rows-ready, row-ready}
use Rattle.step.proofs.Making.{refuses-merge, makes-undo_merge}
use Rattle.undo.proofs.merge.Goals as goal

pub of_row-requires : goal.of_row-requires
of_row-requires c = row-ready c.args.m.now c.args.row c.requires.0

pub room-requires : goal.room-requires
room-requires c = rows-ready c.args.m.now c.args.row c.requires.0

pub returns-in_err-first : goal.returns-in_err-first
returns-in_err-first c program b i =
    let w = c.args.m.now in
    let n = c.requires.1 in
    let full = c.in_err-first.ensures in
    let e : c.from_residual.result ≡ Err Code.NoRoom = search rules in
    subst⁻¹ (λ y. Plans w y (undo_merge program (view w) (process_at w c.args.row) b)) e
    (refuses-merge w c.args.row c.requires.0 program b c.args.names i n.few n.eight full.0)

pub returns : goal.returns
returns c program b i =
    let w = c.args.m.now in
    let n = c.requires.1 in
    let room = c.in_ok-first.ensures in
    makes-undo_merge w c.args.row c.requires.0 program b c.args.names i n.few n.eight room.0
    c.requires.2 _ (subst (λ (y : ℕ). FirstFrom w (child y 1) c.in_ok-first.first) c.of_row.ensures.identifier room.1) _ c.requires.3
