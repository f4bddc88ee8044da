-- An image that is too short or too long is refused by code 1; any other is the reading of its blocks.
use Rattle.std.proofs.Common.{sym, eqb-true}
use Rattle.std.proofs.lemmas.Result.{err_from_is_err_and}
use borrow.Author.Tests.{eqb-false}
use Rattle.decode.proofs.Whole.{too_short, too_long, fitting}
use Rattle.decode.proofs.Answer.{shows_err, err-in_front, ok-in_front}
use Rattle.decode.proofs.decode.Goals as goal
use Rattle.decode.proofs.decode.Goals.{then-is_empty-via-then-is_empty, then-is_empty-via-else-is_empty+then-s-gt-LONGEST}

pub returns-then-is_empty : goal.returns-then-is_empty
returns-then-is_empty c =
    elim c.then-is_empty.branch [
      | then-is_empty-via-then-is_empty w ↦ shows_err _ _ _ _ (too_short c.args.s.now (eqb-true _ _ (sym w.if-is_empty.ensures))) c.from.ensures
      | then-is_empty-via-else-is_empty+then-s-gt-LONGEST w ↦ shows_err _ _ _ _ (too_long c.args.s.now w.if-s-gt-LONGEST.true) c.from.ensures
    ]

pub returns-in_err-count : goal.returns-in_err-count
returns-in_err-count c =
    let p = err_from_is_err_and c.from_residual.result c.from_residual.ensures.1 in
    let whole = fitting c.args.s.now (eqb-false _ _ (sym c.if-is_empty.ensures)) c.if-s-gt-LONGEST.false in
    rw (p.1, p.2, whole) (err-in_front _ _ _ c.in_err-count.ensures)

pub returns : goal.returns
returns c =
    let whole = fitting c.args.s.now (eqb-false _ _ (sym c.if-is_empty.ensures)) c.if-s-gt-LONGEST.false in
    rw whole (ok-in_front _ _ c.in_ok-count.ensures)
