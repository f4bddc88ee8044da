-- The first of eight rows are the children's.
use Rattle.std.proofs.Common.{◌≡◌, ℕ, ◌*◌, List, take, ap, ap₂, ◌∙◌}
use Rattle.rules.specs.Format.{named}
use Rattle.change.specs.Words.{inserted_rows}
use Rattle.children.proofs.Words.{packed, first_rows}
use Rattle.children.proofs.insert.Goals as goal

pub returns : goal.returns
returns c =
    let a = c.args in
    let n : ℕ = c.from-n.result in
    let e : take (3 * n) c.eight_rows-rows.result ≡ packed a.p a.stage 1 (named a.names) =
    ap (take (3 * n)) c.eight_rows-rows.ensures
    ∙ first_rows a.p a.stage 1 n a.names.labels
    ∙ ap (λ (j : ℕ). packed a.p a.stage 1 (take j a.names.labels)) c.from-n.ensures in
    c.insert_rows.ensures ∙ ap₂ (λ (j : ℕ) (l : List ℕ). inserted_rows a.m.now a.i j l) c.from-n.ensures e
