-- The labels that were copied are those that names_at lists; the count and the offset are the code's own.
use Rattle.image.proofs.Labels.{called}
use Rattle.image.proofs.Cursor.call.Goals as goal

pub returns : goal.returns
returns c =
    rw c.in-From.is
    (called c.args.s.now c.in_ok-body.body.now _ c.args.self.at c.args.n c.from-count.result _ c.from-count.ensures c.requires c.copy_from_slice.ensures.after
    c.in_ok-body.ensures)
