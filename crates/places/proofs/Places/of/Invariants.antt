-- Each table has, for each label, the lowest of the blocks from b on that hold it.
use Rattle.std.proofs.Common.{◌≡◌, length}
use Rattle.rules.specs.Machine.{place, begin, run, end}
use Rattle.rules.specs.Fits.{entry_holds, exit_holds}
use Rattle.places.proofs.Tabling.{Tabled}
use Rattle.places.proofs.Places.of.Given as goal

abbrev pub invariant-loop-b : goal.invariant-loop-b
invariant-loop-b l = record {
  count : l.places.count ≡ length l.blocks;
  entry : Tabled (λ x y. entry_holds x.entry (place y run)) l.blocks (length l.blocks) l.b l.places.entry;
  begin : Tabled (λ x y. entry_holds x.entry (place y begin)) l.blocks (length l.blocks) l.b l.places.begin;
  exit : Tabled (λ x y. exit_holds x.exit (place y run)) l.blocks (length l.blocks) l.b l.places.exit;
  end : Tabled (λ x y. exit_holds x.exit (place y end)) l.blocks (length l.blocks) l.b l.places.end;
}
