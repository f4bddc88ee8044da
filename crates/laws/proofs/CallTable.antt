-- What a call table has for each block. Assumes nothing.
use mathlib.Core.Path.{◌≡◌, refl, sym, subst, ◌∙◌}
use mathlib.Core.List.{List, []}
use mathlib.Core.Logic.{⊎_elim}
use Prim.Native.Nat.{ℕ, zero, suc, ◌*◌, ◌<◌}
use native.Mathlib.Nat.{not-suc-le-zero, le_of_suc-le-suc, eq-or-lt_of_le}
use native.Mathlib.Omega.{arith}
use lib.ListN.{length, get_or, take, drop, length-append, get_or-append}
use lib.Seq.{get_or_at}
use Rattle.laws.specs.CallTable.{calls_from}

module _ (counts names : List ℕ) where
  pub calls-length : (n : ℕ) → length (calls_from counts names n) ≡ n
  unfolding calls_from
  calls-length zero = refl
  calls-length (suc n) = length-append (calls_from counts names n) _ ∙ rw (calls-length n) (omega arith)

  -- the labels that block b calls
  pub calls-at : (n b : ℕ) → b < n → get_or (calls_from counts names n) b [] ≡ take (get_or counts b 0) (drop (8 * b) names)
  unfolding calls_from
  calls-at zero b l = absurd (not-suc-le-zero l)
  calls-at (suc n) b l =
      ⊎_elim
      (λ e. subst (λ (k : ℕ). get_or (calls_from counts names (suc n)) k [] ≡ take (get_or counts k 0) (drop (8 * k) names)) (sym e)
      (get_or_at (calls_from counts names n) _ [] [] n (calls-length n)))
      (λ lt. get_or-append (calls_from counts names n) _ [] b (rw (calls-length n) lt) ∙ calls-at n b lt)
      (eq-or-lt_of_le (le_of_suc-le-suc l))
