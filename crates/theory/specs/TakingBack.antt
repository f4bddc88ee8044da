-- Taking back one kept entry and what came of it. A history some of whose entries are taken out is a list of marks; a string of
-- undos turns marks from `stays` to `gone`, one for each undo. Definitions only; assumes nothing.
use Rattle.std.specs.Prelude.{◌≡◌, Bool, false, cond, not, ◌&&◌, ◌||◌, List, [], ◌∷◌, ◌++◌, ℕ, eqb}
use Rattle.std.proofs.Math.Option.{Option, some}
use Rattle.theory.specs.Cause.{Feet, Free, number}

pub data Mark (E : Type 0) : Type 0 where
  stays : E → Mark E
  gone : E → Mark E

module _ {E : Type 0} where
  -- all entries, those that stay, and a history of which nothing is gone yet
  abbrev pub all : List (Mark E) → List E
  all [] = []
  all (stays e ∷ t) = e ∷ all t
  all (gone e ∷ t) = e ∷ all t

  abbrev pub kept : List (Mark E) → List E
  kept [] = []
  kept (stays e ∷ t) = e ∷ kept t
  kept (gone e ∷ t) = kept t

  abbrev pub whole : List E → List (Mark E)
  whole [] = []
  whole (e ∷ t) = stays e ∷ whole t

  -- the same entries, and what the first has taken out the second has too
  abbrev pub Covers : List (Mark E) → List (Mark E) → Type 0
  Covers [] [] = Unit {0}
  Covers [] (x ∷ m) = ⊥
  Covers (x ∷ t) [] = ⊥
  Covers (stays e ∷ t) (stays f ∷ m) = (e ≡ f) × Covers t m
  Covers (stays e ∷ t) (gone f ∷ m) = (e ≡ f) × Covers t m
  Covers (gone e ∷ t) (gone f ∷ m) = (e ≡ f) × Covers t m
  Covers (gone e ∷ t) (stays f ∷ m) = ⊥

  -- `dep v w`: the later entry w is not independent of v
  module _ (dep : E → E → Bool) where
    abbrev pub hit : List E → E → Bool
    hit [] f = false
    hit (s ∷ S) f = dep s f || hit S f

    -- one pass over the later entries: an entry goes where it depends on one that goes, S being those that go so far
    abbrev pub follow : List E → List E → List (Mark E)
    follow S [] = []
    follow S (f ∷ t) = cond (hit S f) (gone f ∷ follow (f ∷ S) t) (stays f ∷ follow S t)

    -- the entry e of the history u ++ e ∷ w, and what came of it
    abbrev pub taken : List E → E → List E → List (Mark E)
    taken u e w = whole u ++ gone e ∷ follow (e ∷ []) w

    -- what depends on v is gone; where an entry is gone, so is all that is later and depends on it
    abbrev pub Follows : E → List (Mark E) → Type 0
    Follows v [] = Unit {0}
    Follows v (stays w ∷ t) = (dep v w ≡ false) × Follows v t
    Follows v (gone w ∷ t) = Follows v t

    abbrev pub Closed : List (Mark E) → Type 0
    Closed [] = Unit {0}
    Closed (stays v ∷ t) = Closed t
    Closed (gone v ∷ t) = Follows v t × Closed t

module _ (Φ : Feet) where
  open Φ use {Entry, process}

  -- an undo of p takes the newest entry of p that stays; a string of undos, one after the other
  abbrev pub some_by : ℕ → List Entry → Bool
  some_by p [] = false
  some_by p (e ∷ t) = eqb (process e) p || some_by p t

  abbrev pub gone_by : List (Mark Entry) → ℕ → List (Mark Entry)
  gone_by [] p = []
  gone_by (gone e ∷ t) p = gone e ∷ gone_by t p
  gone_by (stays e ∷ t) p = cond (eqb (process e) p && not (some_by p (kept t))) (gone e ∷ t) (stays e ∷ gone_by t p)

  abbrev pub gone_by_all : List (Mark Entry) → List ℕ → List (Mark Entry)
  gone_by_all m [] = m
  gone_by_all m (p ∷ ps) = gone_by_all (gone_by m p) ps

  -- the processes of those that go, newest first
  abbrev pub newest_first : List (Mark Entry) → List ℕ
  newest_first [] = []
  newest_first (stays e ∷ t) = newest_first t
  newest_first (gone e ∷ t) = newest_first t ++ process e ∷ []

  module _ {C : Type 0} (backward : C → ℕ → Option (Entry × C)) where
    -- an accepted undo of process p: the graph of what stays lets its newest entry go, and the machine steps back
    pub record Undone (c : C) (m : List (Mark Entry)) (p : ℕ) (c' : C) (m' : List (Mark Entry)) : Type 0 where
      pub before : List (Mark Entry)
      pub step : Entry
      pub later : List (Mark Entry)
      pub said : Entry
      pub was : m ≡ before ++ stays step ∷ later
      pub is : m' ≡ before ++ gone step ∷ later
      pub own : process step ≡ p
      pub free : Free Φ (kept before ++ step ∷ kept later) (process step) (number Φ (kept before) step)
      pub back : backward c p ≡ some (said, c')

    -- a string of accepted undos
    abbrev pub Undos : C → List (Mark Entry) → List ℕ → C → List (Mark Entry) → Type 0
    Undos c m [] c' m' = (c ≡ c') × (m ≡ m')
    Undos c m (p ∷ ps) c' m' = (c₁ : C) × (m₁ : List (Mark Entry)) × Undone c m p c₁ m₁ × Undos c₁ m₁ ps c' m'
