-- Looking a block up: at a stage that no entry, or no exit, has, there is none; at the others it is the table's. Assumes nothing.
use Prim.Native.Nat.{ℕ, ◌<◌, ◌≤◌}
use native.Mathlib.Omega.{arith}
use native.Mathlib.Nat.{le_refl}
use mathlib.Core.Path.{◌≡◌, refl, sym, ◌∙◌}
use mathlib.Core.Bool.{Bool, true, false}
use mathlib.Core.List.{List}
use lib.ListN.{length, get_or}
use lib.Dec.{ltb}
use borrow.Author.Tests.{ne_eqb, ltb-true}
use Rattle.rules.specs.Base.{lowest}
use Rattle.rules.specs.Labels.{block_of}
use Rattle.rules.specs.Machine.{place, begin, run, end}
use Rattle.rules.specs.Fits.{entry_holds, exit_holds, entry_block, exit_block}
use Rattle.rules.specs.declared.Block.{Block}
use Rattle.rules.specs.declared.Entry.{Entry}
use Rattle.rules.specs.declared.Exit.{Exit}
use Rattle.std.specs.Prelude.{Option, None, Some, IfSome, unwrap_or}
use Rattle.laws.specs.Found.{or_else}
use Rattle.laws.proofs.Search.{lowest-is, lowest-none}
use Rattle.places.specs.Places.{TableOf}

module _ (label stage : ℕ) (r : stage ≡ run → ⊥) where
  entry-none : (e : Entry) → (stage ≡ begin → ⊥) → entry_holds e (place label stage) ≡ false
  entry-none (Entry.From l) b = rw (ne_eqb stage run r)
  entry-none (Entry.Either l m e) b = rw (ne_eqb stage run r)
  entry-none (Entry.Begin l) b = rw (ne_eqb stage begin b)

  exit-none : (e : Exit) → (stage ≡ end → ⊥) → exit_holds e (place label stage) ≡ false
  exit-none (Exit.To l) b = rw (ne_eqb stage run r)
  exit-none (Exit.Either e l m) b = rw (ne_eqb stage run r)
  exit-none (Exit.End l) b = rw (ne_eqb stage end b)

  module _ (program : List Block) (n : ℕ) (size : length program ≡ n) where
    pub no_entry_there : (stage ≡ begin → ⊥) → n ≡ entry_block program (place label stage)
    unfolding entry_block
    no_entry_there b =
        sym size
        ∙ lowest-is _ (length program) (length program) (le_refl _) (λ k _. entry-none (block_of program k).entry b) (λ l. absurd (omega arith))

    pub no_exit : (stage ≡ end → ⊥) → n ≡ exit_block program (place label stage)
    unfolding exit_block
    no_exit b =
        sym size
        ∙ lowest-is _ (length program) (length program) (le_refl _) (λ k _. exit-none (block_of program k).exit b) (λ l. absurd (omega arith))

lowest-within : (p : ℕ → Bool) (n : ℕ) → lowest p n ≤ n
lowest-within p n = go (ltb (lowest p n) n) refl
  where
    go : (b : Bool) → ltb (lowest p n) n ≡ b → lowest p n ≤ n
    go true e = omega (arith, ltb-true _ _ e)
    go false e = omega (arith, lowest-is p n n (le_refl _) (lowest-none p n e) (λ l. absurd (omega arith)))

-- the lowest block is none past the last, so a table's number is what is looked up
module _ (program : List Block) (stage n label : ℕ) (table : List ℕ) (r : Option ℕ) (size : length program ≡ n)
    (looked : get_or table label n ≤ n → or_else r n ≡ get_or table label n)
  where
    pub entry_there : TableOf (entry_block program) stage n table → or_else r n ≡ entry_block program (place label stage)
    unfolding entry_block
    entry_there t = looked (rw (t.each label, ← size) (lowest-within _ (length program))) ∙ t.each label

    pub exit_there : TableOf (exit_block program) stage n table → or_else r n ≡ exit_block program (place label stage)
    unfolding exit_block
    exit_there t = looked (rw (t.each label, ← size) (lowest-within _ (length program))) ∙ t.each label

-- what a caller makes of the answer
pub unwrapped : (r : Option ℕ) (n : ℕ) → unwrap_or r n ≡ or_else r n
unwrapped None n = refl
unwrapped (Some b) n = refl

pub unwrapped_within : (r : Option ℕ) (n : ℕ) → IfSome r (λ b. b < n) → unwrap_or r n ≤ n
unwrapped_within None n h = le_refl n
unwrapped_within (Some b) n h = omega (arith, h)
