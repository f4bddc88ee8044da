-- How the reading of a row of blocks goes on, by what stands at its place: the laws of the loop that reads them. Assumes nothing.
use Prim.Native.Nat.{ℕ, zero, suc, ◌+◌, ◌-◌, ◌<◌, ◌≤◌}
use mathlib.Core.Path.{◌≡◌, refl, sym, ap, ◌∙◌}
use mathlib.Core.List.{List, [], ◌∷◌, ◌++◌, append_assoc, append-nil}
use native.Mathlib.Omega.{arith}
use lib.ListN.{length, length-append}
use borrow.Author.Tests.{lt-ltb, le-ltb}
use Rattle.std.proofs.Common.{Result, Ok, Err}
use Rattle.std.specs.Result.{MatchResult, IsErrAnd}
use Rattle.rules.specs.Base.{pick}
use Rattle.rules.specs.Read.{Reading, got, fault, next, block_at, blocks_at}
use Rattle.rules.specs.declared.Block.{Block}
use Rattle.rules.specs.declared.Refused.{Refused}
use Rattle.image.specs.declared.Cursor.{Cursor}
use Rattle.image.specs.declared.Fault.{Fault}

-- more blocks in front
after : List Block → Reading (List Block) → Reading (List Block)
after l r = next r (λ m k. got (l ++ m) k)

after-nil : (r : Reading (List Block)) → after [] r ≡ r
unfolding after next
after-nil (got m k) = refl
after-nil (fault code place) = refl

after-after : (l m : List Block) (r : Reading (List Block)) → after l (after m r) ≡ after (l ++ m) r
unfolding after next
after-after l m (got n k) = ap (λ (x : List Block). got x k) (sym (append_assoc l m n))
after-after l m (fault code place) = refl

module _ (s : List ℕ) where
  from_end : (k at : ℕ) → length s ≤ at → blocks_at k s at ≡ got [] at
  unfolding blocks_at pick
  from_end zero at h = simp (le-ltb _ _ h)
  from_end (suc k) at h = simp (le-ltb _ _ h)

  from-full : (at : ℕ) → at < length s → blocks_at zero s at ≡ fault 5 at
  unfolding blocks_at pick
  from-full at h = simp (lt-ltb _ _ h)

  from-got : (k at m : ℕ) (b : Block)
      → at < length s
      → block_at s at ≡ got b m
      → blocks_at (suc k) s at ≡ after (b ∷ []) (blocks_at k s m)
  unfolding blocks_at pick next after
  from-got k at m b h e = simp (lt-ltb _ _ h, e)

  from-fault : (k at code place : ℕ)
      → at < length s
      → block_at s at ≡ fault code place
      → blocks_at (suc k) s at ≡ fault code place
  unfolding blocks_at pick next
  from-fault k at code place h e = simp (lt-ltb _ _ h, e)

  -- the blocks l, of at most `most`, are read, and the rest is still to come
  pub Stand : ℕ → List Block → ℕ → Type 0
  Stand most l at = blocks_at most s 0 ≡ after l (blocks_at (most - length l) s at)

  module _ (most : ℕ) where
    pub stand_start : Stand most [] 0
    unfolding Stand
    stand_start =
        let d : most ≡ most - 0 = omega arith in
        sym (after-nil (blocks_at most s 0)) ∙ ap (λ (k : ℕ). after [] (blocks_at k s 0)) d

    module _ (l : List Block) where
      pub stand_got : (at m : ℕ) (b : Block)
          → length l < most
          → at < length s
          → block_at s at ≡ got b m
          → Stand most l at
          → Stand most (l ++ b ∷ []) m
      unfolding Stand
      stand_got at m b hn h e st =
          let d : most - length l ≡ suc (most - length (l ++ b ∷ [])) = omega (arith, length-append l (b ∷ [])) in
          st
          ∙ ap (λ (k : ℕ). after l (blocks_at k s at)) d
          ∙ ap (after l) (from-got (most - length (l ++ b ∷ [])) at m b h e)
          ∙ after-after l (b ∷ []) _

      pub stand_fault : (at code place : ℕ)
          → length l < most
          → at < length s
          → block_at s at ≡ fault code place
          → Stand most l at
          → blocks_at most s 0 ≡ fault code place
      unfolding Stand after next
      stand_fault at code place hn h e st =
          let d : most - length l ≡ suc (most - (length l + 1)) = omega arith in
          st
          ∙ ap (λ (k : ℕ). after l (blocks_at k s at)) d
          ∙ ap (after l) (from-fault (most - (length l + 1)) at code place h e)

      pub stand_full : (at : ℕ) → length l ≡ most → at < length s → Stand most l at → blocks_at most s 0 ≡ fault 5 at
      unfolding Stand after next
      stand_full at e h st =
          let d : most - length l ≡ zero = omega arith in
          st ∙ ap (λ (k : ℕ). after l (blocks_at k s at)) d ∙ ap (after l) (from-full at h)

      pub stand_end : (at : ℕ) → length s ≤ at → Stand most l at → blocks_at most s 0 ≡ got l at
      unfolding Stand after next
      stand_end at h st = st ∙ ap (after l) (from_end (most - length l) at h) ∙ ap (λ (x : List Block). got x at) (append-nil l)

-- a block that was read with a refusal in the place of its fault
module _ (r : Result (Block × Cursor) Fault) (m : Result (Block × Cursor) Refused) where
  abbrev pub Mapped : Type 0
  Mapped = MatchResult r (λ x. m ≡ Ok x) (λ e. IsErrAnd m (λ d. d ≡ record { code = e.code; place = e.place }))

pub was_read : (r : Result (Block × Cursor) Fault) (m : Result (Block × Cursor) Refused) (x : Block × Cursor) → m ≡ Ok x → Mapped r m → r ≡ Ok x
was_read (Ok y) m x e w = cc
was_read (Err f) (Ok y) x e w = absurd w
was_read (Err f) (Err d) x e w = cc

pub was_refused : (r : Result (Block × Cursor) Fault) (m : Result (Block × Cursor) Refused) (d : Refused)
    → m ≡ Err d
    → Mapped r m
    → (f : Fault) × (r ≡ Err f) × (d ≡ record { code = f.code; place = f.place })
was_refused (Ok y) m d e w = cc
was_refused (Err f) (Ok y) d e w = cc
was_refused (Err f) (Err c) d e w = (f, refl, cc)
