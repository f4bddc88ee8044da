-- The calls of one block more are stored, and those of all blocks at the end.
use Rattle.std.proofs.Common.{◌≡◌, ◌≤◌, arith, refl, ◌∙◌, ap, length, map, length-take}
use Rattle.std.proofs.Math.Seq.{take-length}
use Rattle.rules.specs.Labels.{called_by}
use Rattle.called.proofs.Tabling.{listed-none, listed-more, listed-all}
use Rattle.called.proofs.call_table.Goals as goal

pub loop-b-init : goal.loop-b-init
loop-b-init c = listed-none _

pub loop-b-preserved : goal.loop-b-preserved
loop-b-preserved c =
    let p = c.loop-b in
    let f = c.of_call-called.result in
    let short : length c.labels-labels.result.now ≤ 8 = omega (arith, f.within, ap length c.labels-labels.ensures, length-take f.count f.labels) in
    listed-more _ p.b _ _ _ _ _ (omega arith) p.invariant (c.labels-labels.ensures ∙ c.of_call-called.ensures) refl short c.store.ensures

pub returns : goal.returns
returns c =
    let p = c.loop-b in
    let blocks = c.args.blocks.now in
    let n = length blocks in
    let e : p.b ≡ n = omega arith in
    record {
      homes = refl;
      count = refl;
      calls = listed-all blocks _ _ n (omega arith) (rw e at p.invariant.each) ∙ ap (map (λ b. called_by b.instruction)) (take-length blocks);
      few = p.invariant.few;
      tabled = record { few = c.requires; few_names = λ b _. p.invariant.few b };
    }
