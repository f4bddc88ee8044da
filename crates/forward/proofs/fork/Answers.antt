-- Without room the fork is refused; else the exit gives the place, or refuses.
use Rattle.std.proofs.Common.{◌≡◌, ℕ, Err, sym, ap, ◌∙◌, subst, arith, rules}
use mathlib.Core.Path.{subst⁻¹}
use Rattle.rules.specs.Machine.{child, view}
use Rattle.rules.specs.Leaf.{exit_place}
use Rattle.rules.specs.Step.{fork}
use Rattle.rules.specs.declared.Code.{Code}
use Rattle.rules.specs.declared.Exit.{Exit}
use Rattle.leaf.specs.Side.{side_place}
use Rattle.step.specs.Ready.{process_at, FirstFrom, Plans}
use Rattle.step.proofs.Standing.{rows-ready, row-ready}
use Rattle.step.proofs.Making.{refuses-fork, refuses-outside, makes-fork}
use Rattle.forward.proofs.fork.Goals as goal

pub of_row-requires : goal.of_row-requires
of_row-requires c = row-ready c.args.m.now c.args.row c.requires.0

pub room-requires : goal.room-requires
room-requires c = rows-ready c.args.m.now c.args.row c.requires.0

pub returns-in_err-first : goal.returns-in_err-first
returns-in_err-first c program i x =
    let w = c.args.m.now in
    let n = c.requires.1 in
    let full = c.in_err-first.ensures in
    let e : c.from_residual.result ≡ Err Code.NoRoom = search rules in
    subst⁻¹ (λ y. Plans w y (fork program (view w) (process_at w c.args.row) c.args.into)) e
    (refuses-fork w c.args.row c.requires.0 program c.args.into c.args.names i n.few n.eight full.0)

pub returns-in_err-to : goal.returns-in_err-to
unfolding side_place
returns-in_err-to c program i x =
    let w = c.args.m.now in
    let n = c.requires.1 in
    refuses-outside w c.args.row c.requires.0 program c.args.into c.args.names i n.few n.eight c.in_ok-first.ensures.0 (search rules)
    (c.in_err-to.ensures ∙ ap (λ (y : Exit). exit_place (view w).memory y) (sym x))

pub returns : goal.returns
unfolding side_place
returns c program i x =
    let w = c.args.m.now in
    let n = c.requires.1 in
    let room = c.in_ok-first.ensures in
    makes-fork w c.args.row c.requires.0 program c.args.into c.args.names i n.few n.eight room.0 c.requires.3 _
    (subst (λ (y : ℕ). FirstFrom w (child y 1) c.in_ok-first.first) c.of_row.ensures.identifier room.1) _
    (c.in_ok-to.ensures ∙ ap (λ (y : Exit). exit_place (view w).memory y) (sym x))
    (omega arith)
