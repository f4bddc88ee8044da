-- One block more has its home.
use Rattle.std.proofs.Common.{arith, get_or, length, length-set, ◌≡◌, ◌∙◌}
use Rattle.processes.specs.Own.{first_begin}
use Rattle.processes.proofs.Owning.{set-each}
use Rattle.processes.proofs.own.Own.homes.Goals as goal

pub loop-b-preserved : goal.loop-b-preserved
loop-b-preserved c =
    let p = c.loop-b in
    let long : length p.homes ≡ 128 = p.invariant.0 in (
      length-set p.homes p.b c.home.result ∙ long,
      set-each (λ k. first_begin c.args.self.now (get_or c.args.groups.now.numbers k 0)) p.homes p.b _ (omega (arith, long)) c.home.ensures p.invariant.1,
    )
