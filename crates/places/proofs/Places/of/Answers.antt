-- Each turn puts one block more at the labels that it holds; the last has put all.
use Rattle.std.proofs.Common.{◌≡◌, ◌-◌, refl, sym, arith, length, ◌∙◌}
use Rattle.rules.specs.Machine.{begin, run, end}
use Rattle.rules.specs.Fits.{entry_block, exit_block}
use Rattle.places.proofs.Noting.{entry_at, begin_at, exit_at, end_at}
use Rattle.places.proofs.Tabling.{tabled_none, tabled_more, tabled_all}
use Rattle.places.proofs.Places.of.Goals as goal

pub loop-b-init : goal.loop-b-init
loop-b-init c =
    let n = length c.args.blocks.now in
    record {
      count = refl;
      entry = tabled_none _ _ n;
      begin = tabled_none _ _ n;
      exit = tabled_none _ _ n;
      end = tabled_none _ _ n;
    }

pub loop-b-preserved : goal.loop-b-preserved
loop-b-preserved c =
    let v = c.loop-b.invariant in
    let b = c.loop-b.b in
    let n = length c.args.blocks.now in
    record {
      count = v.count;
      entry =
          tabled_more _ _ n b _ _ _ (omega arith) (omega arith) (entry_at c.args.blocks.now (b - 1) _ _ (omega arith) (c.labels.ensures ∙ c.of_entry.ensures))
          v.entry c.note.ensures;
      begin =
          tabled_more _ _ n b _ _ _ (omega arith) (omega arith)
          (begin_at c.args.blocks.now (b - 1) _ _ (omega arith) (c.labels-in-loop-b.ensures ∙ c.of_begin.ensures)) v.begin c.note-in-loop-b.ensures;
      exit =
          tabled_more _ _ n b _ _ _ (omega arith) (omega arith)
          (exit_at c.args.blocks.now (b - 1) _ _ (omega arith) (c.labels-in-loop-b-2.ensures ∙ c.of_exit.ensures)) v.exit c.note-in-loop-b-2.ensures;
      end =
          tabled_more _ _ n b _ _ _ (omega arith) (omega arith)
          (end_at c.args.blocks.now (b - 1) _ _ (omega arith) (c.labels-in-loop-b-3.ensures ∙ c.of_end.ensures)) v.end c.note-in-loop-b-3.ensures;
    }

pub returns : goal.returns
unfolding entry_block exit_block
returns c =
    let v = c.loop-b.invariant in
    let z : c.loop-b.b ≡ 0 = omega arith in
    record {
      entries =
          record {
            count = sym v.count;
            runs = tabled_all _ _ _ _ _ z (sym v.count) (rw (← v.count) at v.entry) _ run (λ x. refl);
            begins = tabled_all _ _ _ _ _ z (sym v.count) (rw (← v.count) at v.begin) _ begin (λ x. refl);
          };
      exits =
          record {
            count = sym v.count;
            runs = tabled_all _ _ _ _ _ z (sym v.count) (rw (← v.count) at v.exit) _ run (λ x. refl);
            ends = tabled_all _ _ _ _ _ z (sym v.count) (rw (← v.count) at v.end) _ end (λ x. refl);
          };
    }
