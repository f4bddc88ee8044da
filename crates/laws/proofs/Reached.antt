-- The theorem `reached`: what is computed of "reached through calls" is what the words say. Assumes nothing, not even that
-- the blocks are in range.
use mathlib.Core.Path.{◌≡◌, sym, subst}
use mathlib.Core.Bool.{true}
use mathlib.Core.List.Memᴰ
use mathlib.Core.List.{List, [], ◌∷◌, Memᴰ}
use mathlib.Core.Logic.{◌⊎◌, inl, inr, ⊎_elim}
use Prim.Native.Nat.{ℕ, zero, suc, ◌<◌, ◌≤◌}
use native.Mathlib.Nat.{not-suc-le-zero, le_of_suc-le-suc, eq-or-lt_of_le}
use native.Mathlib.Omega.{arith}
use lib.ListN.{length}
use lib.Dec.{eqb}
use borrow.Author.Tests.{eqb-true, eq-eqb}
use Rattle.rules.specs.Base.{some_of}
use Rattle.rules.specs.Calls.{Calling, home_at, calls_at, Reaches, names, onward, reaches_over, reaches}
use Rattle.laws.proofs.Tests.{never, or_cases, or_left, or_right, and-true}

-- a label that is called, and the test for it
named-from : (l : ℕ) (ls : List ℕ) → some_of (λ m. eqb m l) ls ≡ true → Memᴰ l ls
unfolding some_of
named-from l [] h = never h
named-from l (m ∷ ls) h =
    ⊎_elim (λ e. Memᴰ.head (sym (eqb-true m l e))) (λ e. Memᴰ.tail (named-from l ls e)) (or_cases (eqb m l) _ h)

named-at : (l : ℕ) (ls : List ℕ) → Memᴰ l ls → some_of (λ m. eqb m l) ls ≡ true
unfolding some_of
named-at l [] h = absurd (Memᴰ.not-nil h)
named-at l (m ∷ ls) h =
    ⊎_elim (λ e. or_left (eqb m l) _ (eq-eqb m l (sym e))) (λ k. or_right (eqb m l) _ (named-at l ls k)) (Memᴰ.cases_cons h)

module _ (t : Calling) where
  -- one block more to go over
  split : (n b c : ℕ) → reaches_over t (suc n) b c ≡ true
      → (reaches_over t n b c ≡ true) ⊎ ((reaches_over t n b n ≡ true) × (reaches_over t n n c ≡ true))
  unfolding reaches_over
  split n b c h =
      ⊎_elim inl (λ a. inr (and-true (reaches_over t n b n) (reaches_over t n n c) a)) (or_cases (reaches_over t n b c) _ h)

  stays : (n b c : ℕ) → reaches_over t n b c ≡ true → reaches_over t (suc n) b c ≡ true
  unfolding reaches_over
  stays n b c h = or_left (reaches_over t n b c) _ h

  over : (n b c : ℕ) → reaches_over t n b n ≡ true → reaches_over t n n c ≡ true → reaches_over t (suc n) b c ≡ true
  unfolding reaches_over
  over n b c h k = or_right (reaches_over t n b c) _ (rw (h, k))

  -- what is computed, is reached
  sound : (n b c : ℕ) → n ≤ length t.calls → reaches_over t n b c ≡ true → Reaches t b c
  unfolding reaches_over
  sound zero b c l h = names (named-from (home_at t c) (calls_at t b) h)
  sound (suc n) b c l h =
      ⊎_elim (λ a. sound n b c (omega arith) a) (λ p. onward l (sound n b n (omega arith) p.0) (sound n n c (omega arith) p.1))
      (split n b c h)

  -- what is reached over no blocks, is over more
  grows : (n b c : ℕ) → reaches_over t 0 b c ≡ true → reaches_over t n b c ≡ true
  grows zero b c h = h
  grows (suc n) b c h = stays n b c (grows n b c h)

  -- what is reached over blocks below n can be joined at each of them
  joins : (n m b c : ℕ) → m < n → reaches_over t n b m ≡ true → reaches_over t n m c ≡ true → reaches_over t n b c ≡ true
  joins zero m b c l h k = absurd (not-suc-le-zero l)
  joins (suc n) m b c l h k =
      ⊎_elim (λ e. at_last (subst (λ (x : ℕ). reaches_over t (suc n) b x ≡ true) e h)
      (subst (λ (x : ℕ). reaches_over t (suc n) x c ≡ true) e k))
      (λ lt. below (λ x y. joins n m x y lt))
      (eq-or-lt_of_le (le_of_suc-le-suc l))
    where
      at_last : reaches_over t (suc n) b n ≡ true → reaches_over t (suc n) n c ≡ true → reaches_over t (suc n) b c ≡ true
      at_last h k = over n b c (⊎_elim (λ a. a) (λ p. p.0) (split n b n h)) (⊎_elim (λ a. a) (λ p. p.1) (split n n c k))

      below : ((x y : ℕ) → reaches_over t n x m ≡ true → reaches_over t n m y ≡ true → reaches_over t n x y ≡ true)
          → reaches_over t (suc n) b c ≡ true
      below ih =
          ⊎_elim (λ p. ⊎_elim (λ q. stays n b c (ih b c p q)) (λ q. over n b c (ih b n p q.0) q.1) (split n m c k))
          (λ p. ⊎_elim (λ q. over n b c p.0 (ih n c p.1 q)) (λ q. over n b c p.0 q.1) (split n m c k))
          (split n b m h)

  -- what is reached, is computed
  complete : {b c : ℕ} → Reaches t b c → reaches_over t (length t.calls) b c ≡ true
  unfolding reaches_over
  complete (names {b} {c} m) = grows (length t.calls) b c (named-at (home_at t c) (calls_at t b) m)
  complete (onward {b} {m} {c} l p q) = joins (length t.calls) m b c l (complete p) (complete q)

  pub record Reached (b c : ℕ) : Type 0 where
    pub to : reaches t b c ≡ true → Reaches t b c
    pub from : Reaches t b c → reaches t b c ≡ true

  pub reached : (b c : ℕ) → Reached b c
  unfolding reaches
  reached b c = record { to = sound (length t.calls) b c (omega arith); from = complete }
