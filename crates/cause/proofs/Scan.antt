-- What the scan over the later entries finds, by the masks of their blocks. Assumes nothing.
use mathlib.Core.Path.{◌≡◌, sym, ap, ap₂, ◌∙◌}
use mathlib.Core.Bool.{Bool, true, false, not, ◌||◌, or-true}
use mathlib.Core.List.{List}
use Prim.Native.Nat.{ℕ, zero, suc, ◌+◌, ◌-◌, ◌*◌, ◌≤◌, ◌<◌}
use native.Mathlib.Omega.{arith}
use native.Mathlib.Nat.{add-zero}
use lib.ListN.{length, drop, get_or}
use lib.Bits.{bit_and}
use lib.Dec.{eqb}
use Rattle.rules.specs.Base.{some_of}
use Rattle.rules.specs.Cause.{reads, writes}
use Rattle.rules.specs.Machine.{Kept, view, history_count}
use Rattle.rules.specs.declared.Block.{Block}
use Rattle.laws.specs.Conflict.{conflicts}
use Rattle.laws.proofs.View.{history-from, history-end}
use Rattle.masks.specs.Masks.{MasksOf}
use Rattle.masks.specs.declared.Masks.{Masks}
use Rattle.masks.proofs.Bits.{common}
use Rattle.cause.specs.Held.{Scanned, kept_at, later_conflict}

-- the blocks of entries i and j conflict, by the tables
abbrev pub by_masks : Masks → List ℕ → ℕ → ℕ → Bool
by_masks masks w i j =
    not (eqb (bit_and (get_or masks.writes (get_or w (483 + 2 * i) 0) 0) (get_or masks.reads (get_or w (483 + 2 * j) 0) 0)) 0)
    || not (eqb (bit_and (get_or masks.reads (get_or w (483 + 2 * i) 0) 0) (get_or masks.writes (get_or w (483 + 2 * j) 0) 0)) 0)

module _ (w : List ℕ) (p : Kept → Bool) where
  none_from : (d k : ℕ) → k + d ≡ history_count w → ((j : ℕ) → k ≤ j → j < history_count w → p (kept_at w j) ≡ false) → some_of p (drop k (view w).history) ≡ false
  unfolding some_of
  none_from zero k e h = ap (λ (n : ℕ). some_of p (drop n (view w).history)) (sym (add-zero k) ∙ e) ∙ ap (some_of p) (history-end w)
  none_from (suc d) k e h =
      ap (some_of p) (history-from w k (omega arith))
      ∙ ap₂ ◌||◌ (h k (omega arith) (omega arith)) (none_from d (suc k) (omega arith) (λ j lo hi. h j (omega arith) hi))

  some_at : (d k : ℕ) → k + d < history_count w → p (kept_at w (k + d)) ≡ true → some_of p (drop k (view w).history) ≡ true
  unfolding some_of
  some_at zero k l t =
      ap (some_of p) (history-from w k (omega arith))
      ∙ ap (λ (b : Bool). b || some_of p (drop (suc k) (view w).history)) (ap (λ (n : ℕ). p (kept_at w n)) (sym (add-zero k)) ∙ t)
  some_at (suc d) k l t =
      ap (some_of p) (history-from w k (omega arith))
      ∙ ap (λ (b : Bool). p (kept_at w k) || b) (some_at d (suc k) (omega arith) (ap (λ (n : ℕ). p (kept_at w n)) (same k d) ∙ t))
      ∙ or-true (p (kept_at w k))
    where
      same : (k d : ℕ) → suc k + d ≡ k + suc d
      same k d = omega arith

module _ (program : List Block) (masks : Masks) (w : List ℕ) (i : ℕ) (M : MasksOf program masks) (S : Scanned w i (length program)) where
  by-masks : (j : ℕ) → j < history_count w → conflicts program (kept_at w i) (kept_at w j) ≡ by_masks masks w i j
  unfolding conflicts reads writes
  by-masks j h =
      let a = S.blocks i S.here in
      let b = S.blocks j h in
      sym (ap₂ ◌||◌ (common (M.write (get_or w (483 + 2 * i) 0) a) (M.read (get_or w (483 + 2 * j) 0) b)) (common (M.read (get_or w (483 + 2 * i) 0) a) (M.write (get_or w (483 + 2 * j) 0) b)))

  pub none-later : ((j : ℕ) → i < j → j < history_count w → by_masks masks w i j ≡ false) → false ≡ later_conflict program w i
  none-later h =
      let e : suc i + (history_count w - suc i) ≡ history_count w = omega (arith, S.here) in
      sym (none_from w (conflicts program (kept_at w i)) (history_count w - suc i) (suc i) e (λ j lo hi. by-masks j hi ∙ h j lo hi))

  pub some-later : (j : ℕ) → i < j → j < history_count w → by_masks masks w i j ≡ true → true ≡ later_conflict program w i
  some-later j lo hi t =
      let e : suc i + (j - suc i) ≡ j = omega arith in
      sym
      (some_at w (conflicts program (kept_at w i)) (j - suc i) (suc i) (omega arith)
      (ap (λ (n : ℕ). conflicts program (kept_at w i) (kept_at w n)) e ∙ by-masks j hi ∙ t))
