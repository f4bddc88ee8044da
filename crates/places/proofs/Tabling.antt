-- A table that is filled from the last block to the first has the lowest block of each label. Assumes nothing.
use Prim.Native.Nat.{ℕ, suc, ◌-◌, ◌<◌, ◌≤◌}
use native.Mathlib.Omega.{arith}
use mathlib.Core.Path.{◌≡◌, sym, ap, ◌∙◌}
use mathlib.Core.Bool.{Bool}
use mathlib.Core.List.{List}
use lib.ListN.{length, get_or, replicate, length-replicate}
use Rattle.rules.specs.Base.{pick, some_of, lowest_from, lowest}
use lib.Dec.{eqb}
use Rattle.short.proofs.Programs.{get_or-same}
use Rattle.rules.specs.Labels.{block_of}
use Rattle.rules.specs.Machine.{place}
use Rattle.rules.specs.declared.Block.{Block}
use Rattle.rules.specs.declared.Place.{Place}
use Rattle.places.specs.Places.{Noted, TableOf}

-- the blocks from b on are put at the labels that they hold
pub record Tabled (holds : Block → ℕ → Bool) (program : List Block) (n b : ℕ) (t : List ℕ) : Type 0 where
  pub size : length t ≡ 256
  pub each : (x : ℕ) → get_or t x n ≡ lowest_from (λ i. holds (block_of program i) x) (n - b) b

module _ (holds : Block → ℕ → Bool) (program : List Block) (n : ℕ) where
  pub tabled_none : Tabled holds program n n (replicate 256 n)
  unfolding lowest_from
  tabled_none =
      let z : n - n ≡ 0 = omega arith in
      record {
        size = length-replicate 256 n;
        each =
            λ x.
            get_or-same 256 x n
            ∙ sym (ap (λ (k : ℕ). lowest_from (λ i. holds (block_of program i) x) k n) z);
      }

  -- one block more, which holds the labels
  pub tabled_more : (b : ℕ) (labels t u : List ℕ) → 0 < b → b ≤ n
      → ((x : ℕ) → holds (block_of program (b - 1)) x ≡ some_of (eqb x) labels) → Tabled holds program n b t → Noted labels (b - 1) t u
      → Tabled holds program n (b - 1) u
  unfolding lowest_from
  tabled_more b labels t u l h q s g =
      record { size = g.size ∙ s.size; each = λ x. g.each x n ∙ rw (s.each x, ← q x) (turn x) }
    where
      turn : (x : ℕ) → pick (holds (block_of program (b - 1)) x) (b - 1) (lowest_from (λ i. holds (block_of program i) x) (n - b) b)
          ≡ lowest_from (λ i. holds (block_of program i) x) (n - (b - 1)) (b - 1)
      turn x =
          let m : n - (b - 1) ≡ suc (n - b) = omega arith in
          let j : b ≡ suc (b - 1) = omega arith in
          ap (λ (y : ℕ). pick (holds (block_of program (b - 1)) x) (b - 1) (lowest_from (λ i. holds (block_of program i) x) (n - b) y)) j
          ∙ sym (ap (λ (y : ℕ). lowest_from (λ i. holds (block_of program i) x) y (b - 1)) m)

  pub tabled_all : (b : ℕ) (t : List ℕ) → b ≡ 0 → length program ≡ n → Tabled holds program n b t
      → (block : Place → ℕ) (stage : ℕ) → ((x : ℕ) → block (place x stage) ≡ lowest (λ i. holds (block_of program i) x) (length program))
      → TableOf block stage n t
  unfolding lowest
  tabled_all b t e h k block stage f =
      let z : n - b ≡ length program = omega arith in
      record { each = λ x. k.each x ∙ rw (z, e) (sym (f x)) }
