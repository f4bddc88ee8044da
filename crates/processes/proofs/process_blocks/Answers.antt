-- The tallies of the groups are rules' begins and ends.
use Rattle.std.proofs.Common.{length, arith, ◌∙◌, rules}
use Rattle.processes.proofs.Owning.{bad11-is, homes-are, found-same}
use Rattle.processes.proofs.process_blocks.Goals as goal

pub returns : goal.returns
returns c =
    let program = c.args.blocks.now in
    let n = length program in
    let g = c.of-groups in
    let o = c.of-own in
    record {
      bad = c.first_bad.ensures ∙ found-same _ _ n (bad11-is program g.result.numbers o.result g.ensures o.ensures);
      homes = homes-are program g.result.numbers o.result g.ensures o.ensures c.homes.result n (search rules) (λ b lt. c.homes.ensures b (omega arith));
    }
