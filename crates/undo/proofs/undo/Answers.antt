-- Each way out is one of Ways.
use Rattle.std.proofs.Common.{◌≡◌, Err, is_none, sym, ap, ◌∙◌, rules}
use mathlib.Core.Path.{subst⁻¹}
use Rattle.rules.specs.Step.{undo}
use Rattle.rules.specs.declared.Code.{Code}
use Rattle.step.specs.Ready.{process_at, here_at, Plans}
use Rattle.undo.proofs.Freeing.{none-free, some-free, newest-of}
use Rattle.rules.specs.Machine.{view}
use Rattle.step.proofs.Standing.{rows-ready, row-ready}
use Rattle.step.proofs.Making.{refuses, plans_at}
use Rattle.undo.proofs.Ways.{at-begin, undo-waiting, held_back, undo-alone, undo-forking}
use Rattle.undo.proofs.undo.Goals as goal

pub of_row-process-requires : goal.of_row-process-requires
of_row-process-requires c = row-ready c.args.m.now c.args.row c.requires.0

pub returns-then-process-eq-BEGIN : goal.returns-then-process-eq-BEGIN
returns-then-process-eq-BEGIN c program t below b =
    let row = c.of_row-process.ensures in
    refuses (at-begin program (view c.args.m.now) row.identifier row.stands c.if-process-eq-BEGIN.true)

pub children_at-requires : goal.children_at-requires
children_at-requires c = rows-ready c.args.m.now c.args.row c.requires.0

pub returns-then-not-children_at : goal.returns-then-not-children_at
returns-then-not-children_at c program t below b =
    let row = c.of_row-process.ensures in
    refuses
    (undo-waiting program (view c.args.m.now) row.identifier row.stands c.if-process-eq-BEGIN.false (sym c.children_at.ensures ∙ c.if-not-children_at.true))

pub returns-in_err-entry : goal.returns-in_err-entry
returns-in_err-entry c program t below b =
    let w = c.args.m.now in
    let row = c.of_row-process.ensures in
    let n = none-free _ _ c.in_err-entry.ensures.value in
    let e : c.from_residual.result ≡ Err Code.Held = let d = n.1 in search rules in
    subst⁻¹ (λ y. Plans w y (undo program (view w) (process_at w c.args.row) (here_at w c.args.row))) e
    (refuses
    (held_back program (view w) row.identifier row.stands c.if-process-eq-BEGIN.false (sym c.children_at.ensures ∙ c.if-not-children_at.false)
    (c.newest_free.ensures.free program t below ∙ n.0)))

pub child_count-count-requires : goal.child_count-count-requires
child_count-count-requires c = rows-ready c.args.m.now c.args.row c.requires.0

pub returns-then-count-eq0 : goal.returns-then-count-eq0
returns-then-count-eq0 c program t below b =
    let row = c.of_row-process.ensures in
    plans_at
    (undo-alone program (view c.args.m.now) row.identifier row.stands c.if-process-eq-BEGIN.false (sym c.children_at.ensures ∙ c.if-not-children_at.false)
    (c.newest_free.ensures.free program t below ∙ ap is_none (some-free _ _ c.in_ok-entry.ensures.value)) c.child_count-count.ensures c.if-count-eq0.true)
    (c.childless.ensures program _ b)

pub returns : goal.returns
returns c program t below b =
    let row = c.of_row-process.ensures in
    plans_at
    (undo-forking program (view c.args.m.now) row.identifier row.stands c.if-process-eq-BEGIN.false (sym c.children_at.ensures ∙ c.if-not-children_at.false)
    (c.newest_free.ensures.free program t below ∙ ap is_none (some-free _ _ c.in_ok-entry.ensures.value)) c.child_count-count.ensures c.if-count-eq0.false)
    (c.fork.ensures program _ b)

pub childless-requires : goal.childless-requires
childless-requires c =
    let n = newest-of c.args.m.now _ _ _ c.in_ok-entry.entry c.in_ok-entry.ensures.value c.of_row-process.ensures.identifier c.newest_free.ensures.newest in
    search rules

pub fork-requires : goal.fork-requires
fork-requires c =
    let n = newest-of c.args.m.now _ _ _ c.in_ok-entry.entry c.in_ok-entry.ensures.value c.of_row-process.ensures.identifier c.newest_free.ensures.newest in
    search rules
