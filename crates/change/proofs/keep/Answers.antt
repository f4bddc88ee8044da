-- The words written are those past the last entry.
use Rattle.std.proofs.Common.{◌≡◌, ap, ℕ, ◌+◌, ◌*◌, get_or, arith}
use Rattle.std.proofs.Math.ListN.{set}
use Rattle.change.specs.Words.{kept_entry}
use Rattle.change.proofs.keep.Goals as goal

pub returns : goal.returns
unfolding kept_entry
returns c =
    let a = c.args in
    let n : ℕ = get_or a.m.now 1 0 in
    let next : 482 + 2 * n + 1 ≡ 483 + 2 * n = omega arith in
    ap (λ (j : ℕ). set (set (set a.m.now (482 + 2 * n) a.identifier) j a.block) 1 (n + 1)) next
