-- What tables of marks hold, block by block. Assumes nothing.
use Prim.Native.Nat.{ℕ, ◌+◌, ◌<◌}
use mathlib.Core.Path.{◌≡◌, sym, ap, fun_ext, ◌∙◌}
use mathlib.Core.Bool.{Bool, false, ◌&&◌, ◌||◌}
use mathlib.Core.List.{List}
use lib.ListN.{length, take, get_or, replicate}
use Rattle.rules.specs.Base.{some_of, some_below}
use Rattle.rules.specs.Format.{variables}
use Rattle.rules.specs.Names.{block_names, semaphore_names}
use Rattle.rules.specs.Labels.{semaphore, bad9}
use Rattle.rules.specs.declared.Block.{Block}
use Rattle.semaphores.specs.Marks.{Marked}
use Rattle.short.proofs.Programs.{blank, get_or-same, some-of_more}

pub semaphore-none : (n : ℕ) (blocks : List Block) (x : ℕ) → get_or (replicate n false) x false ≡ semaphore (take 0 blocks) x
unfolding semaphore some_of
semaphore-none n blocks x = get_or-same n x false

pub semaphore-more : (blocks : List Block) (i : ℕ) (t u : List Bool) → i < length blocks
    → ((x : ℕ) → get_or t x false ≡ semaphore (take i blocks) x) → Marked t (semaphore_names (get_or blocks i blank).instruction) u
    → (x : ℕ) → get_or u x false ≡ semaphore (take (i + 1) blocks) x
unfolding semaphore
semaphore-more blocks i t u h e m x =
    m.each x ∙ ap (λ (b : Bool). b || semaphore_names (get_or blocks i blank).instruction x) (e x)
    ∙ sym (some-of_more (λ (b : Block). semaphore_names b.instruction x) blocks i blank h)

pub bad9-read : (program : List Block) (t : List Bool) (b : Block) → ((x : ℕ) → get_or t x false ≡ semaphore program x)
    → bad9 program b ≡ some_below (λ x. get_or t x false && block_names b x) variables
unfolding bad9
bad9-read program t b h = sym (ap (λ (p : ℕ → Bool). some_below (λ x. p x && block_names b x) variables) (fun_ext h))
