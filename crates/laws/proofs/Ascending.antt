-- Rows that ascend by identifier, taken apart at one row: where it stands, and the row moved. An entry closed up. Assumes nothing.
use mathlib.Core.Path.{◌≡◌, refl, ap}
use mathlib.Core.Bool.{Bool, true, false, not, ◌&&◌, ◌||◌}
use mathlib.Core.List.{List, [], ◌∷◌, ◌++◌}
use mathlib.Core.Option.{none, some}
use Prim.Native.Nat.{ℕ, ◌<◌}
use native.Mathlib.Omega.{arith}
use lib.Dec.{eqb, ltb}
use borrow.Author.Tests.{ltb-true, lt-ltb, eq-eqb, ne_eqb}
use Rattle.rules.specs.Base.{pick, some_of, each_of}
use Rattle.rules.specs.Machine.{Process, Kept, standing}
use Rattle.rules.specs.Fits.{ascending}
use Rattle.rules.specs.Step.{move_row, close_up}
use Rattle.rules.specs.declared.Place.{Place}
use Rattle.laws.proofs.Tests.{and-true, true_and, true_false}

-- every row has a lower, or a higher, identifier than p; none has p
abbrev pub AllBelow : ℕ → List Process → Type 0
AllBelow p rows = each_of (λ r. ltb r.identifier p) rows ≡ true

abbrev pub AllAbove : ℕ → List Process → Type 0
AllAbove p rows = each_of (λ r. ltb p r.identifier) rows ≡ true

abbrev pub NoneIs : ℕ → List Process → Type 0
NoneIs p rows = each_of (λ r. not (eqb r.identifier p)) rows ≡ true

pub ascending-tail : (r : Process) (rows : List Process) → ascending (r ∷ rows) ≡ true → ascending rows ≡ true
unfolding ascending
ascending-tail r [] h = refl
ascending-tail r (s ∷ rows) h = (and-true (ltb r.identifier s.identifier) (ascending (s ∷ rows)) h).1

above_lower : (p q : ℕ) (rows : List Process) → p < q → AllAbove q rows → AllAbove p rows
unfolding each_of
above_lower p q [] h a = refl
above_lower p q (r ∷ rows) h a =
    let e = and-true (ltb q r.identifier) (each_of (λ x. ltb q x.identifier) rows) a in
    let g : q < r.identifier = ltb-true _ _ e.0 in
    true_and _ _ (lt-ltb p r.identifier (omega arith)) (above_lower p q rows h e.1)

pub ascending-head : (r : Process) (rows : List Process) → ascending (r ∷ rows) ≡ true → AllAbove r.identifier rows
unfolding each_of ascending
ascending-head r [] h = refl
ascending-head r (s ∷ rows) h =
    let e = and-true (ltb r.identifier s.identifier) (ascending (s ∷ rows)) h in
    true_and _ _ e.0 (above_lower r.identifier s.identifier rows (ltb-true _ _ e.0) (ascending-head s rows e.1))

-- rows that ascend, with one row in their midst
pub record Apart (A : List Process) (r : Process) (B : List Process) : Type 0 where
  pub before : AllBelow r.identifier A
  pub after : AllAbove r.identifier B
  pub front : ascending A ≡ true
  pub back : ascending B ≡ true

in_midst : (p : ℕ) (A : List Process) (r : Process) (B : List Process) → AllAbove p (A ++ r ∷ B) → p < r.identifier
unfolding each_of
in_midst p [] r B h = ltb-true _ _ (and-true (ltb p r.identifier) (each_of (λ x. ltb p x.identifier) B) h).0
in_midst p (a ∷ A) r B h = in_midst p A r B (and-true (ltb p a.identifier) (each_of (λ x. ltb p x.identifier) (A ++ r ∷ B)) h).1

front-ascends : (A : List Process) (r : Process) (B : List Process) → ascending (A ++ r ∷ B) ≡ true → ascending A ≡ true
unfolding ascending
front-ascends [] r B h = refl
front-ascends (a ∷ []) r B h = refl
front-ascends (a ∷ b ∷ A) r B h =
    let e = and-true (ltb a.identifier b.identifier) (ascending (b ∷ (A ++ r ∷ B))) h in
    true_and _ _ e.0 (front-ascends (b ∷ A) r B e.1)

back-ascends : (A : List Process) (r : Process) (B : List Process) → ascending (A ++ r ∷ B) ≡ true → ascending (r ∷ B) ≡ true
back-ascends [] r B h = h
back-ascends (a ∷ A) r B h = back-ascends A r B (ascending-tail a (A ++ r ∷ B) h)

before_of : (A : List Process) (r : Process) (B : List Process) → ascending (A ++ r ∷ B) ≡ true → AllBelow r.identifier A
unfolding each_of
before_of [] r B h = refl
before_of (a ∷ A) r B h =
    true_and _ _ (lt-ltb a.identifier r.identifier (in_midst a.identifier A r B (ascending-head a (A ++ r ∷ B) h)))
    (before_of A r B (ascending-tail a (A ++ r ∷ B) h))

pub apart : (A : List Process) (r : Process) (B : List Process) → ascending (A ++ r ∷ B) ≡ true → Apart A r B
apart A r B h =
    let b = back-ascends A r B h in
    record { before = before_of A r B h; after = ascending-head r B b; front = front-ascends A r B h; back = ascending-tail r B b }

pub none_below : (p : ℕ) (rows : List Process) → AllBelow p rows → NoneIs p rows
unfolding each_of
none_below p [] h = refl
none_below p (r ∷ rows) h =
    let e = and-true (ltb r.identifier p) (each_of (λ x. ltb x.identifier p) rows) h in
    let g : r.identifier < p = ltb-true _ _ e.0 in
    true_and _ _ (ap not (ne_eqb r.identifier p (λ q. omega arith))) (none_below p rows e.1)

pub none_above : (p : ℕ) (rows : List Process) → AllAbove p rows → NoneIs p rows
unfolding each_of
none_above p [] h = refl
none_above p (r ∷ rows) h =
    let e = and-true (ltb p r.identifier) (each_of (λ x. ltb p x.identifier) rows) h in
    let g : p < r.identifier = ltb-true _ _ e.0 in
    true_and _ _ (ap not (ne_eqb r.identifier p (λ q. omega arith))) (none_above p rows e.1)

is-not : (b : Bool) → not b ≡ true → b ≡ false
is-not true h = absurd (true_false h refl)
is-not false h = refl

-- where the process of a row stands; and no process where no row has its identifier
pub standing-at : (A : List Process) (r : Process) (B : List Process) → NoneIs r.identifier A → standing (A ++ r ∷ B) r.identifier ≡ some r.stands
unfolding standing each_of pick
standing-at [] r B h = rw (eq-eqb r.identifier r.identifier refl)
standing-at (a ∷ A) r B h =
    let e = and-true (not (eqb a.identifier r.identifier)) (each_of (λ x. not (eqb x.identifier r.identifier)) A) h in
    rw (is-not (eqb a.identifier r.identifier) e.0) (standing-at A r B e.1)

pub standing-none : (p : ℕ) (rows : List Process) → NoneIs p rows → standing rows p ≡ none
unfolding standing each_of pick
standing-none p [] h = refl
standing-none p (r ∷ rows) h =
    let e = and-true (not (eqb r.identifier p)) (each_of (λ x. not (eqb x.identifier p)) rows) h in
    rw (is-not (eqb r.identifier p) e.0) (standing-none p rows e.1)

-- a row moved
move-none : (p : ℕ) (q : Place) (rows : List Process) → NoneIs p rows → move_row rows p q ≡ rows
unfolding move_row each_of pick
move-none p q [] h = refl
move-none p q (r ∷ rows) h =
    let e = and-true (not (eqb r.identifier p)) (each_of (λ x. not (eqb x.identifier p)) rows) h in
    rw (is-not (eqb r.identifier p) e.0) (ap (λ (l : List Process). r ∷ l) (move-none p q rows e.1))

pub move_at :
    (A : List Process) (r : Process) (B : List Process) (q : Place) → NoneIs r.identifier A → NoneIs r.identifier B →
    move_row (A ++ r ∷ B) r.identifier q ≡ A ++ record { identifier = r.identifier; stands = q } ∷ B
unfolding move_row each_of pick
move_at [] r B q h k =
    rw (eq-eqb r.identifier r.identifier refl)
    (ap (λ (l : List Process). record { identifier = r.identifier; stands = q } ∷ l) (move-none r.identifier q B k))
move_at (a ∷ A) r B q h k =
    let e = and-true (not (eqb a.identifier r.identifier)) (each_of (λ x. not (eqb x.identifier r.identifier)) A) h in
    rw (is-not (eqb a.identifier r.identifier) e.0) (ap (λ (l : List Process). a ∷ l) (move_at A r B q e.1 k))

-- ---- history
has-later : (p : ℕ) (A : List Kept) (k : Kept) (B : List Kept) → k.identifier ≡ p → some_of (λ j. eqb j.identifier p) (A ++ k ∷ B) ≡ true
unfolding some_of
has-later p [] k B e = rw (eq-eqb k.identifier p e)
has-later p (a ∷ A) k B e = or_right (eqb a.identifier p) (has-later p A k B e)
  where
    or_right : (a : Bool) {b : Bool} → b ≡ true → (a || b) ≡ true
    or_right true h = refl
    or_right false h = h

-- the newest entry of a process closed up
pub close_at :
    (p : ℕ) (A : List Kept) (k : Kept) (B : List Kept) → k.identifier ≡ p → some_of (λ j. eqb j.identifier p) B ≡ false →
    close_up (A ++ k ∷ B) p ≡ A ++ B
unfolding close_up pick
close_at p [] k B e n = rw (eq-eqb k.identifier p e, n)
close_at p (a ∷ A) k B e n = rw (has-later p A k B e) (go (eqb a.identifier p) (close_at p A k B e n))
  where
    go : (b : Bool) → close_up (A ++ k ∷ B) p ≡ A ++ B → pick (b && false) (A ++ k ∷ B) (a ∷ close_up (A ++ k ∷ B) p) ≡ a ∷ (A ++ B)
    go true ih = ap (λ (l : List Kept). a ∷ l) ih
    go false ih = ap (λ (l : List Kept). a ∷ l) ih
