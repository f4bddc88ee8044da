-- When a whole image is read, and when it is refused: code 1 comes first, and what is read goes up to the end. Assumes nothing.
use Prim.Native.Nat.{ℕ, zero, suc, ◌<◌, ◌≤◌}
use mathlib.Core.Path.{◌≡◌, refl, subst}
use mathlib.Core.Bool.{Bool, true, false, ◌||◌}
use mathlib.Core.List.{List, [], ◌∷◌}
use native.Mathlib.Omega.{arith}
use lib.ListN.{length}
use lib.Dec.{eqb, ltb}
use borrow.Author.Tests.{eqb-false, ltb-true, ltb-false, lt-ltb, le-ltb, eq-eqb, ne_eqb}
use Rattle.rules.specs.Base.{pick}
use Rattle.rules.specs.Format.{longest, most_blocks}
use Rattle.rules.specs.Read.{Reading, got, fault, next, block_at, blocks_at, decoded}
use Rattle.rules.specs.declared.Block.{Block}
use Rattle.decode.proofs.Good.{Refusal, Good, goes, stops}
use Rattle.decode.proofs.Readings.{block-good}

-- ---- code 1 comes first
module _ (s : List ℕ) where
  pub too_short : length s ≡ 0 → decoded s ≡ fault 1 0
  unfolding decoded pick
  too_short e = simp (eq-eqb _ _ e)

  pub too_long : longest < length s → decoded s ≡ fault 1 0
  unfolding decoded pick
  too_long h = let n : length s ≡ 0 → ⊥ = λ e. omega arith in simp (ne_eqb _ _ n, lt-ltb _ _ h)

  pub fitting : (length s ≡ 0 → ⊥) → length s ≤ longest → decoded s ≡ blocks_at most_blocks s 0
  unfolding decoded pick
  fitting n h = simp (ne_eqb _ _ n, le-ltb _ _ h)

-- ---- a row of blocks
module _ (s : List ℕ) where
  -- up to the end of the image; at least one block where something is left of it
  abbrev Row : ℕ → Reading (List Block) → Type 0
  Row at (got l k) = (k ≡ length s) × (at < length s → 1 ≤ length l)
  Row at (fault code place) = Refusal s code place

  row-pick : (at : ℕ) (x y : Reading (List Block))
      → (at < length s → Row at x)
      → (length s ≤ at → Row at y)
      → Row at (pick (ltb at (length s)) x y)
  unfolding pick
  row-pick at x y f g = go (ltb at (length s)) refl
    where
      go : (b : Bool) → ltb at (length s) ≡ b → Row at (pick b x y)
      go true e = f (ltb-true _ _ e)
      go false e = g (ltb-false _ _ e)

  row-end : (at : ℕ) → at ≤ length s → length s ≤ at → Row at (got [] at)
  row-end at h l = let e : at ≡ length s = omega arith in (e, λ k. omega arith)

  row_cons : (at m : ℕ) (b : Block) (r : Reading (List Block)) → Row m r → Row at (next r (λ l k. got (b ∷ l) k))
  unfolding next
  row_cons at m b (got l k) g = (g.0, λ h. omega arith)
  row_cons at m b (fault code place) g = g

  row_next : (n at : ℕ) (r : Reading Block)
      → Good s at r
      → ((m : ℕ) → m ≤ length s → Row m (blocks_at n s m))
      → Row at (next r (λ b m. next (blocks_at n s m) (λ l k. got (b ∷ l) k)))
  unfolding next
  row_next n at (got b m) (goes k e) h = row_cons at m b (blocks_at n s m) (h m e)
  row_next n at (fault code place) (stops k) h = k

  row-good : (n at : ℕ) → at ≤ length s → Row at (blocks_at n s at)
  unfolding blocks_at
  row-good zero at h = row-pick at _ _ (λ l. omega arith) (λ l. row-end at h l)
  row-good (suc n) at h =
      row-pick at _ _ (λ l. row_next n at (block_at s at) (block-good s at) (λ m k. row-good n m k)) (λ l. row-end at h l)

-- ---- a whole image
neither : (a b : Bool) → (a || b) ≡ false → (a ≡ false) × (b ≡ false)
neither true b e = let z : ◌≡◌ {A = ℕ} 0 1 = cc in absurd (omega arith)
neither false b e = (refl, e)

module _ (s : List ℕ) where
  pub record Decodes (program : List Block) (at : ℕ) : Type 0 where
    pub ends : at ≡ length s
    pub short : length s ≤ longest
    pub some : 1 ≤ length program

  abbrev Whole : Reading (List Block) → Type 0
  Whole (got program at) = Decodes program at
  Whole (fault code place) = Refusal s code place × (place ≤ longest)

  row-whole : (r : Reading (List Block)) → 0 < length s → length s ≤ longest → Row s 0 r → Whole r
  row-whole (got program at) h k w = record { ends = w.0; short = k; some = w.1 h }
  row-whole (fault code place) h k w = (w, omega (arith, w.2))

  whole : Whole (decoded s)
  unfolding decoded pick
  whole = go (eqb (length s) 0 || ltb longest (length s)) refl
    where
      go : (b : Bool)
          → (eqb (length s) 0 || ltb longest (length s)) ≡ b
          → Whole (pick b (fault 1 0) (blocks_at most_blocks s 0))
      go true e = (omega arith, omega arith)
      go false e =
          let w = neither (eqb (length s) 0) (ltb longest (length s)) e in
          let n : length s ≡ 0 → ⊥ = eqb-false _ _ w.0 in
          let h : length s ≤ longest = ltb-false _ _ w.1 in
          let k : 0 < length s = omega arith in
          row-whole (blocks_at most_blocks s 0) k h (row-good s most_blocks 0 (omega arith))

  pub decoded-got : (program : List Block) (at : ℕ) → decoded s ≡ got program at → Decodes program at
  decoded-got program at e = subst (λ (r : Reading (List Block)). Whole r) e whole

  pub decoded-fault : (code place : ℕ) → decoded s ≡ fault code place → Refusal s code place × (place ≤ longest)
  decoded-fault code place e = subst (λ (r : Reading (List Block)). Whole r) e whole
