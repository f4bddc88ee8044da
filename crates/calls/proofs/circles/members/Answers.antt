-- The block is one of those of its label's process block.
use Rattle.std.proofs.Common.{◌*◌, ◌%◌, ◌^◌, ◌≡◌, arith, refl, length-set, ◌∙◌}
use Rattle.std.proofs.lemmas.Nat.{one_shl}
use Rattle.calls.proofs.Grid.{members-none, members-more}
use Rattle.calls.proofs.circles.members.Goals as goal

pub loop-c-init : goal.loop-c-init
loop-c-init c = record { each = members-none _; size = refl }

pub loop-c-preserved : goal.loop-c-preserved
loop-c-preserved c =
    let few = c.requires.few in
    let i = c.loop-c.invariant in
    let bit : 1 * 2 ^ c.loop-c.c % 340282366920938463463374607431768211456 ≡ 2 ^ c.loop-c.c = one_shl c.loop-c.c 128 (omega arith) in
    record {
      each = rw bit (members-more _ _ _ c.from.result (omega (arith, i.size, c.from.ensures, c.type_inv.calls)) c.from.ensures i.each);
      size = length-set _ _ _ ∙ i.size;
    }

pub returns : goal.returns
returns c =
    let end : c.loop-c.c ≡ c.args.calls.now.count = omega arith in
    rw end at c.loop-c.invariant.each
