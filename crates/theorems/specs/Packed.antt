-- The words of a machine of the right sizes pass the clauses of code 17 that speak of words alone. Assumes nothing.
use Rattle.std.specs.Prelude.{◌≡◌, refl, true, ◌&&◌, take, leb}
use Rattle.std.proofs.Math.Path.{ap}
use Rattle.std.proofs.Common.{◌∙◌, take_at, le-leb}
use mathlib.Core.List.{List, ◌++◌, append_assoc}
use Prim.Native.Nat.{ℕ, zero, suc, ◌-◌, ◌*◌}
use Rattle.std.proofs.Math.ListN.{length, drop}
use Rattle.std.proofs.Math.Seq.{drop_at}
use Rattle.std.proofs.Math.Dec.{eqb}
use Rattle.theory.specs.Tests.{true_and}
use Rattle.rules.specs.Base.{each_of, zeros}
use Rattle.rules.specs.Calls.{most_rows}
use Rattle.rules.specs.Machine.{Machine, pack_rows, pack_history, padded, pack, view, most_kept}
use Rattle.rules.specs.Fits.{counts_fit, unused_zero, machine_fits, fits}
use Rattle.rules.specs.declared.Block.{Block}
use Rattle.laws.proofs.Pack.{Sized, front, length_front, length-head, length-padded, length-pack_rows, length-pack_history, rows_fit_words, view-pack}

each-zero : (n : ℕ) → each_of (λ w. eqb w 0) (zeros n) ≡ true
unfolding each_of
each-zero zero = refl
each-zero (suc n) = each-zero n

module _ (m : Machine) (s : Sized m) where
  counts-packed : counts_fit (pack m) ≡ true
  unfolding counts_fit pack
  counts-packed =
      true_and (leb (length m.rows) most_rows) (leb (length m.history) most_kept) (le-leb (length m.rows) most_rows s.rows64)
      (le-leb (length m.history) most_kept s.history4096)

  rows-part : drop (3 * length m.rows) (take 192 (drop 290 (pack m))) ≡ zeros (192 - length (pack_rows m.rows))
  unfolding pack front padded
  rows-part =
      let R : List ℕ = padded 192 (pack_rows m.rows) in
      let H : List ℕ = padded 8192 (pack_history m.history) in
      ap (λ (l : List ℕ). drop (3 * length m.rows) (take 192 l))
      (ap (λ (l : List ℕ). drop 290 l) (append_assoc (front m) R H) ∙ drop_at (front m) (R ++ H) 290 (length_front m s))
      ∙ ap (drop (3 * length m.rows)) (take_at R H 192 (length-padded 192 (pack_rows m.rows) (rows_fit_words m s)))
      ∙ drop_at (pack_rows m.rows) (zeros (192 - length (pack_rows m.rows))) (3 * length m.rows) (length-pack_rows m.rows)

  history-part : drop (2 * length m.history) (drop 482 (pack m)) ≡ zeros (8192 - length (pack_history m.history))
  unfolding pack front padded
  history-part =
      let R : List ℕ = padded 192 (pack_rows m.rows) in
      let H : List ℕ = padded 8192 (pack_history m.history) in
      ap (drop (2 * length m.history)) (drop_at (front m ++ R) H 482 (length-head m s))
      ∙ drop_at (pack_history m.history) (zeros (8192 - length (pack_history m.history))) (2 * length m.history)
      (length-pack_history m.history)

  unused-packed : unused_zero (pack m) ≡ true
  unfolding unused_zero pack
  unused-packed =
      true_and (each_of (λ w. eqb w 0) (drop (3 * length m.rows) (take 192 (drop 290 (pack m)))))
      (each_of (λ w. eqb w 0) (drop (2 * length m.history) (drop 482 (pack m))))
      (ap (each_of (λ w. eqb w 0)) rows-part ∙ each-zero (192 - length (pack_rows m.rows)))
      (ap (each_of (λ w. eqb w 0)) history-part ∙ each-zero (8192 - length (pack_history m.history)))

  pub packed-fits : (program : List Block) → machine_fits program m ≡ true → fits program (pack m) ≡ true
  unfolding fits
  packed-fits program h =
      true_and (counts_fit (pack m)) (unused_zero (pack m) && machine_fits program (view (pack m))) counts-packed
      (true_and (unused_zero (pack m)) (machine_fits program (view (pack m))) unused-packed (ap (machine_fits program) (view-pack m s) ∙ h))
