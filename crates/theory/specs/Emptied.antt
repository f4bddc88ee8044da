-- A machine whose history can be emptied by undoing the newest entry again and again (code 35 asks it): it is what its history
-- gives, made forward from the machine that is left; that machine need not be a start. And on the way of any string of undos that
-- leaves the first entry, each row's entry is the newest of its process (a clause of code 17). Assumes nothing else.
use Rattle.std.specs.Prelude.{◌≡◌, refl, ◌⊎◌, Bool, true, List, [], ◌∷◌, ◌++◌, ℕ}
use Rattle.std.proofs.Common.{sym, ap, subst, inl, inr, arith}
use Rattle.std.proofs.Math.Option.{Option, some}
use Rattle.theory.specs.Cause.{Feet}
use Rattle.theory.specs.Tests.{true_false}
use Rattle.theory.specs.Histories.{All, NoneBy}
use Rattle.theory.specs.Replay.{Step, Back, Runs, Lawful, Newest, runs-split, runs_append, runs-ok, mark-newest}
use Rattle.theory.specs.TakingBack.{Mark, stays, gone, all, kept, Follows, Closed}

module _ (Φ : Feet) where
  open Φ use {Entry, process}

  -- oldest first
  abbrev pub turned : List Entry → List Entry
  turned [] = []
  turned (e ∷ t) = turned t ++ e ∷ []

  module _ {C : Type 0} (onward backward : C → ℕ → Option (Entry × C)) where
    -- the history t, newest first, goes back entry by entry, and b is left
    abbrev pub Empties : C → List Entry → C → Type 0
    Empties c [] b = c ≡ b
    Empties c (e ∷ t) b = (c₁ : C) × Back Φ onward backward c e c₁ × Empties c₁ t b

    -- what a machine brings besides `Lawful`: what an accepted undo leaves is well-formed, and the step forward from there is its inverse
    pub record Redoable (Ok : C → Type 0) : Type 0 where
      pub ok_back : (s s' : C) (e : Entry) → Ok s → Back Φ onward backward s e s' → Ok s'
      pub forth : (s s' : C) (e : Entry) → Ok s → Back Φ onward backward s e s' → Step Φ onward backward s' e s

    module _ (Ok : C → Type 0) (mark : C → ℕ → Option Entry) (L : Lawful Φ onward backward Ok mark) where
      pub emptied : Redoable Ok → (t : List Entry) (c b : C) → Ok c → Empties c t b → Ok b × Runs Φ onward backward b (turned t) c
      emptied D [] c b o x = (subst Ok x o, sym x)
      emptied D (e ∷ t) c b o x =
          let i = emptied D t x.0 b (D.ok_back c x.0 e o x.1) x.2 in
          (i.0, runs_append Φ onward backward b x.0 c (turned t) (e ∷ []) i.1 (c, D.forth c x.0 e o x.1, refl))

      -- and the other way: a machine that its history gives from some base can be emptied, and the base is left
      pub can_be_emptied : (t : List Entry) (b c : C) → Ok b → Runs Φ onward backward b (turned t) c → Empties c t b
      can_be_emptied [] b c o r = sym r
      can_be_emptied (e ∷ t) b c o r =
          let i = runs-split Φ onward backward b c (turned t) (e ∷ []) r in
          let s = i.0 in
          let st : Step Φ onward backward s e c = subst (λ z. Step Φ onward backward s e z) i.2.2 i.2.1 in
          (s, L.inverse s c e (runs-ok Φ onward backward Ok mark L b s (turned t) o i.1) st, can_be_emptied t b s o i.1)

      -- ---- code 17 on the way: the entry that a row names is the newest of its process
      abbrev pub NamesNewest : C → List Entry → Type 0
      NamesNewest c h = (q : ℕ) (x : Entry) → mark c q ≡ some x → Newest Φ onward backward Ok mark L h x × (process x ≡ q)

      -- it holds after the first entry (it is asked there before the last undo), so it holds wherever that entry stays
      pub names-newest :
          (s₁ c : C) (e : Entry) (t : List Entry) → NamesNewest s₁ (e ∷ []) → Runs Φ onward backward s₁ t c → NamesNewest c (e ∷ t)
      names-newest s₁ c e t f r q x k = go (mark-newest Φ onward backward Ok mark L s₁ c t q x r k)
        where
          only : Newest Φ onward backward Ok mark L (e ∷ []) x → e ≡ x
          only n = one n.front n.rest n.whole
            where
              one : (u w : List Entry) → e ∷ [] ≡ u ++ x ∷ w → e ≡ x
              one [] w h = cc
              one (y ∷ []) w h = let z : ◌≡◌ {A = ℕ} 0 1 = cc in absurd (omega arith)
              one (y ∷ y' ∷ u) w h = let z : ◌≡◌ {A = ℕ} 0 1 = cc in absurd (omega arith)

          go :
              ((mark s₁ q ≡ some x) × NoneBy Φ q t) ⊎ (Newest Φ onward backward Ok mark L t x × (process x ≡ q)) →
              Newest Φ onward backward Ok mark L (e ∷ t) x × (process x ≡ q)
          go (inl y) =
              let n = f q x y.0 in
              (record { front = []; rest = t; whole = ap (λ z. z ∷ t) (only n.0); last = subst (λ z. NoneBy Φ z t) (sym n.1) y.1 }, n.1)
          go (inr y) = (record { front = e ∷ y.0.front; rest = y.0.rest; whole = ap (λ l. e ∷ l) y.0.whole; last = y.0.last }, y.1)

      -- an entry that all later ones depend on goes last: while it is gone, nothing stays
      pub goes_last :
          (dep : Entry → Entry → Bool) (e : Entry) (m : List (Mark Entry)) → All Φ (λ f. dep e f ≡ true) (all m) →
          Closed dep (gone e ∷ m) → kept m ≡ []
      goes_last dep e m d c = go m d c.0
        where
          go : (m : List (Mark Entry)) → All Φ (λ f. dep e f ≡ true) (all m) → Follows dep e m → kept m ≡ []
          go [] d f = refl
          go (stays x ∷ m) d f = absurd (true_false d.0 f.0)
          go (gone x ∷ m) d f = go m d.1 f
