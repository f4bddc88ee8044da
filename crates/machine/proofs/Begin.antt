-- What `start` leaves is the packed machine at its start. Assumes nothing.
use mathlib.Core.Path.{◌≡◌, refl, sym, ap, ◌∙◌}
use mathlib.Core.List.{List, [], ◌∷◌, ◌++◌, append_assoc}
use Prim.Native.Nat.{ℕ, ◌+◌}
use native.Mathlib.Omega.{arith}
use borrow.Rule.Slice.PartMut.{put_mid}
use lib.ListN.{length, set, length-replicate}
use borrow.Author.Tests.{eq-eqb, ne_eqb}
use Rattle.rules.specs.Base.{pick, zeros}
use Rattle.rules.specs.Machine.{pack, started, padded, pack_rows, pack_history}
use Rattle.rules.specs.Words.{start_in, accept, refuse}
use Rattle.rules.specs.declared.Block.{Block}
use Rattle.machine.specs.Splice.{splice}
use Rattle.machine.proofs.Splice.{mid, zeros-add, put-splice}

-- the first memory put at 2 into 290 + k zeros, and a 1 in front
filled : (first w₁ : List ℕ) (n k : ℕ) → n ≡ 290 + k → w₁ ≡ zeros n → set (splice w₁ 2 first 290) 0 1 ≡ 1 ∷ 0 ∷ (first ++ zeros k)
filled first w₁ n k e h =
    let cut : w₁ ≡ (0 ∷ 0 ∷ []) ++ (zeros 288 ++ zeros k) =
    h ∙ ap zeros (e ∙ re k) ∙ sym (zeros-add 2 (288 + k)) ∙ ap (λ (r : List ℕ). 0 ∷ 0 ∷ r) (sym (zeros-add 288 k)) in
    ap (λ (r : List ℕ). set r 0 1)
    (mid w₁ (0 ∷ 0 ∷ []) (zeros 288) (zeros k) first 2 290 cut refl (ap (λ (j : ℕ). 2 + j) (length-replicate {A = ℕ} 288 0)))
  where
    re : (k : ℕ) → 290 + k ≡ 2 + (288 + k)
    re k = omega arith

-- the same as the packed machine, with its numbers left open
packed : (first : List ℕ) (k r h : ℕ) → k ≡ 3 + r + h → first ++ zeros k ≡ first ++ ((0 ∷ 0 ∷ 0 ∷ []) ++ zeros r) ++ zeros h
packed first k r h e =
    ap (λ (j : ℕ). first ++ zeros j) e
    ∙ ap (λ (x : List ℕ). first ++ x) (sym (zeros-add (3 + r) h) ∙ ap (λ (x : List ℕ). x ++ zeros h) (sym (zeros-add 3 r)))
    ∙ sym (append_assoc first (zeros 3 ++ zeros r) (zeros h))

pub start-words : (first w w₁ s : List ℕ) → length w ≡ 8674 → w₁ ≡ zeros (length w) → s ≡ first
    → set (put_mid 2 288 w₁ s) 0 1 ≡ pack (started first)
unfolding pack started padded pack_rows pack_history splice
start-words first w w₁ s lw e q =
    ap (λ (r : List ℕ). set (put_mid 2 288 w₁ r) 0 1) q
    ∙ ap (λ (r : List ℕ). set r 0 1) (put-splice 2 288 w₁ first)
    ∙ filled first w₁ 8674 8384 refl (e ∙ ap zeros lw)
    ∙ ap (λ (r : List ℕ). 1 ∷ 0 ∷ r) (packed first 8384 189 8192 refl)

-- the three ways out of `start`
module _ (first w : List ℕ) (program : List Block) where
  pub bad-first : (length first ≡ 288 → ⊥) → refuse 16 0 w ≡ start_in first w program
  unfolding start_in pick
  bad-first h = rw (ne_eqb (length first) 288 h)

  pub bad-machine : length first ≡ 288 → (length w ≡ 8674 → ⊥) → refuse 16 0 w ≡ start_in first w program
  unfolding start_in pick
  bad-machine f h = rw (eq-eqb (length first) 288 f, ne_eqb (length w) 8674 h)

  pub well : (x : List ℕ) → length first ≡ 288 → length w ≡ 8674 → x ≡ pack (started first) → accept x ≡ start_in first w program
  unfolding start_in pick
  well x f h e = rw (eq-eqb (length first) 288 f, eq-eqb (length w) 8674 h) (ap accept e)
