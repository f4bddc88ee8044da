-- The labels stand in the block's places.
use Rattle.std.proofs.Common.{◌+◌, ◌-◌, ◌*◌, ◌≡◌, arith, sym, ap, ◌∙◌, get_or, take, drop}
use Rattle.laws.proofs.CallTable.{calls-at}
use Rattle.calls.proofs.table.Calls.called.Goals as goal

pub returns : goal.returns
returns c =
    let s = c.args.self.now in
    let many : 8 * c.args.b + c.from.result - 8 * c.args.b ≡ get_or s.counts c.args.b 0 = omega (arith, c.from.ensures) in
    ap (λ k. take k (drop (8 * c.args.b) s.names)) many ∙ sym (calls-at s.counts s.names s.count c.args.b c.requires.b_lt_count)
