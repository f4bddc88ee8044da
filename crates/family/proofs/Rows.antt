-- A process's children among the rows of words, by the rows' numbers. Assumes nothing.
use mathlib.Core.Path.{◌≡◌, refl, ap, subst, ◌∙◌}
use mathlib.Core.Bool.{Bool, true, false, not, cond, ◌&&◌, ◌||◌}
use mathlib.Core.List.{List, [], ◌∷◌, map}
use Prim.Native.Nat.{ℕ, suc, ◌+◌, ◌*◌, ◌≤◌, ◌<◌}
use native.Mathlib.Omega.{arith}
use lib.Dec.{eqb}
use lib.ListN.{length, get_or}
use Rattle.std.specs.Prelude.{Option, Some, None, MatchOption}
use Rattle.std.specs.Option.{unwrap_or}
use Rattle.std.specs.List.{range_with_len, filter, list_all, AllWithin, HoldsAt}
use Rattle.std.proofs.lemmas.List.FromFn.{length-range_with_len, get_or-range_with_len, fill_by_all}
use Rattle.rules.specs.Base.{pick, each_of, those}
use Rattle.rules.specs.Machine.{Process, is_child_of, children, live_count, view}
use Rattle.laws.proofs.View.{row_at, no_row, row-at, length-rows}
use Rattle.step.specs.Ready.{FirstFrom}

abbrev pub numbers : List ℕ → List ℕ
numbers w = range_with_len 0 (live_count w)

rows-by_number : (w : List ℕ) → (view w).rows ≡ map (row_at w) (numbers w)
rows-by_number w = fill_by_all (row_at w) (view w).rows (live_count w) no_row (length-rows w) (row-at w)

module _ (f : ℕ → Process) (t : Process → Bool) where
  those-counted : (l : List ℕ) → length (those t (map f l)) ≡ length (filter (λ i. t (f i)) l)
  unfolding those pick
  those-counted [] = refl
  those-counted (i ∷ l) = go (t (f i)) (those-counted l)
    where
      go : (b : Bool) → length (those t (map f l)) ≡ length (filter (λ i. t (f i)) l)
          → length (pick b (f i ∷ those t (map f l)) (those t (map f l))) ≡ length (cond b (i ∷ filter (λ i. t (f i)) l) (filter (λ i. t (f i)) l))
      go true ih = ap suc ih
      go false ih = ih

  each-all : (l : List ℕ) → each_of t (map f l) ≡ list_all (λ i. t (f i)) l
  unfolding each_of
  each-all [] = refl
  each-all (i ∷ l) = ap (λ (b : Bool). t (f i) && b) (each-all l)

children-each : (t : Process → Bool) (p : ℕ) (rows : List Process)
    → each_of t (children rows p) ≡ each_of (λ r. not (is_child_of p r.identifier) || t r) rows
unfolding children those each_of pick
children-each t p [] = refl
children-each t p (r ∷ rows) = go (is_child_of p r.identifier) (children-each t p rows)
  where
    rest : List Process
    rest = those (λ x. is_child_of p x.identifier) rows

    go : (b : Bool) → each_of t rest ≡ each_of (λ x. not (is_child_of p x.identifier) || t x) rows
        → each_of t (pick b (r ∷ rest) rest) ≡ ((not b || t r) && each_of (λ x. not (is_child_of p x.identifier) || t x) rows)
    go true ih = ap (λ (k : Bool). t r && k) ih
    go false ih = ih

module _ (w : List ℕ) (p : ℕ) where
  pub children-counted : length (children (view w).rows p) ≡ length (filter (λ i. is_child_of p (get_or w (290 + 3 * i) 0)) (numbers w))
  unfolding children
  children-counted =
      ap (λ (rows : List Process). length (those (λ r. is_child_of p r.identifier) rows)) (rows-by_number w)
      ∙ those-counted (row_at w) (λ r. is_child_of p r.identifier) (numbers w)

  pub children-at : (stage : ℕ)
      → each_of (λ c. eqb c.stands.stage stage) (children (view w).rows p)
      ≡ list_all (λ i. not (is_child_of p (get_or w (290 + 3 * i) 0)) || eqb (get_or w (292 + 3 * i) 0) stage) (numbers w)
  children-at stage =
      children-each (λ c. eqb c.stands.stage stage) p (view w).rows
      ∙ ap (each_of (λ r. not (is_child_of p r.identifier) || eqb r.stands.stage stage)) (rows-by_number w)
      ∙ each-all (row_at w) (λ r. not (is_child_of p r.identifier) || eqb r.stands.stage stage) (numbers w)

-- the first row from c on, as it is found among the rows' numbers
module _ (w : List ℕ) (c : ℕ) where
  abbrev pub From : ℕ → Type 0
  From i = c ≤ get_or w (290 + 3 * i) 0

  abbrev pub Below : ℕ → Type 0
  Below i = get_or w (290 + 3 * i) 0 < c

  below_all : (r : ℕ) → r ≤ live_count w → AllWithin Below (numbers w) 0 r → (j : ℕ) → j < r → Below j
  below_all r h below j k = subst Below (get_or-range_with_len 0 (live_count w) j 0 (omega arith) ∙ (omega arith)) (below j 0 (omega arith) k)

  pub first-found : (r : Option ℕ) →
      MatchOption r (AllWithin Below (numbers w) 0 (length (numbers w)))
      (λ i. (i < length (numbers w)) × HoldsAt From (numbers w) i × AllWithin Below (numbers w) 0 i)
      → FirstFrom w c (unwrap_or r (live_count w))
  first-found None below =
      let e = length-range_with_len 0 (live_count w) in
      record { within = omega arith; below = below_all (live_count w) (omega arith) (rw e at below); from = λ h. absurd (omega arith) }
  first-found (Some i) found =
      let e = length-range_with_len 0 (live_count w) in
      let k : i < live_count w = omega (arith, found.0) in
      record {
        within = omega arith;
        below = below_all i (omega arith) found.2;
        from = λ _. subst From (get_or-range_with_len 0 (live_count w) i 0 k ∙ (omega arith)) (found.1 0);
      }
