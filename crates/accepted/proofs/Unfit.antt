-- Words that are refused are refused with 16 or with 17. Assumes nothing.
use Prim.Native.Nat.{ℕ}
use mathlib.Core.Path.{◌≡◌, refl, ap, ◌∙◌}
use mathlib.Core.Bool.{Bool, true, false}
use mathlib.Core.List.{List}
use lib.ListN.{length}
use lib.Dec.{eqb}
use borrow.Author.Tests.{eq-eqb, ne_eqb, eqb-true, eqb-false}
use Rattle.std.specs.Prelude.{Err}
use Rattle.rules.specs.Codes.{number}
use Rattle.rules.specs.Fits.{fits}
use Rattle.rules.specs.declared.Block.{Block}
use Rattle.rules.specs.declared.Code.{Code}
use Rattle.accepted.specs.Fitting.{Fitting}

module _ (program : List Block) (w : List ℕ) where
  pub is-16 : (length w ≡ 8674 → ⊥) → Fitting program w (Err Code.SliceLength)
  is-16 n = (rw (ne_eqb (length w) 8674 n), λ l. absurd (n l))

  pub is-17 : length w ≡ 8674 → fits program w ≡ false → Fitting program w (Err Code.Unfit)
  is-17 l f = (rw (eq-eqb (length w) 8674 l), λ k. f)

  -- what holds of both holds of the code
  pub either : (P : ℕ → Type 0) → ((length w ≡ 8674 → ⊥) → P 16) → (length w ≡ 8674 → fits program w ≡ false → P 17)
      → (code : Code) → Fitting program w (Err code) → P (number code)
  either P a b code u = go (eqb (length w) 8674) refl
    where
      go : (t : Bool) → eqb (length w) 8674 ≡ t → P (number code)
      go true e =
          let l = eqb-true (length w) 8674 e in
          let c : number code ≡ 17 = ap number u.0 ∙ (rw e) in
          rw c (b l (u.1 l))
      go false e =
          let c : number code ≡ 16 = ap number u.0 ∙ (rw e) in
          rw c (a (eqb-false (length w) 8674 e))
