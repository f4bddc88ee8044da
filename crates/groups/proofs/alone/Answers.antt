-- Each node's number is its own.
use Rattle.std.proofs.Common.{◌≡◌, get_or, ◌∙◌, sym, rules, zero-add}
use Rattle.std.proofs.Math.Seq.{ext_get_or}
use borrow.Author.Tests.{tests}
use Rattle.rules.specs.Base.{up_from}
use Rattle.groups.specs.Nodes.{all_nodes}
use Rattle.groups.proofs.Grouping.{length-up_from, get_or-up_from}
use Rattle.groups.proofs.alone.Goals as goal

pub returns : goal.returns
returns c =
    let made = c.from_fn.ensures.items in
    let nodes = c.from_fn.result in
    ext_get_or 0 nodes (up_from 0 all_nodes) (made.long ∙ sym (length-up_from 0 all_nodes))
    (λ k lt.
    let within = rw made.long at lt in
    let at = made.at k 0 within in
    let e : get_or nodes k 0 ≡ k = search (rules, tests) in
    e ∙ sym (get_or-up_from 0 all_nodes k within ∙ zero-add k))
