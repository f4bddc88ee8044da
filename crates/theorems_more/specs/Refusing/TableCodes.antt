-- The codes of RefusalTable's tables: each is from 1 to 28, judging's at most 15, a start's at most 16, a list's at most 17. So the first
-- row given has
-- such a code, and is 0 just where no row is given. Assumes nothing.
use Rattle.std.specs.Prelude.{◌≡◌, refl, Bool, true, false, List, [], ◌∷◌, ◌++◌, ℕ, ◌≤◌, eqb}
use Rattle.std.proofs.Math.Option.{Option, none, some}
use native.Mathlib.Omega.{arith}
use Rattle.theory.specs.Tests.{true_false}
use Rattle.rules.specs.Base.{pick}
use Rattle.rules.specs.Format.{most_blocks}
use Rattle.rules.specs.Read.{Reading, got, fault, blocks_at}
use Rattle.rules.specs.Machine.{Machine, standing, view}
use Rattle.rules.specs.Leaf.{Tried, made, refused, entry_place, exit_place, leaf_forward, leaf_undo}
use Rattle.rules.specs.declared.Block.{Block}
use Rattle.rules.specs.declared.Place.{Place}
use Rattle.theorems.specs.Codes.{Only, entry-only, exit-only, leaf-only, unleaf-only}
use Rattle.theorems_more.specs.Refusing.FaultCodes.{Early, blocks-early}
use Rattle.rules.specs.RefusalTable.{Refusal, row, first_given, fault_code, is_fault, program_in, nine_on, judging, starting, listing}
use Rattle.rules.specs.RefusalTable.{placed, refusal_in, is_met, met_code, block, has_none, calling, met_ahead, met_back, trying, stepping}

-- ---- tables whose codes are 1 to a highest one
abbrev pub Right : ℕ → Refusal → Type 0
Right most r = (r.code ≤ most) × (r.given ≡ true → 1 ≤ r.code)

abbrev pub AllRight : ℕ → List Refusal → Type 0
AllRight most [] = Unit {0}
AllRight most (r ∷ rows) = Right most r × AllRight most rows

-- no row is given
abbrev pub NoneGiven : List Refusal → Type 0
NoneGiven [] = Unit {0}
NoneGiven (r ∷ rows) = (r.given ≡ false) × NoneGiven rows

right-append : (most : ℕ) (l m : List Refusal) → AllRight most l → AllRight most m → AllRight most (l ++ m)
right-append most [] m a b = b
right-append most (r ∷ l) m a b = (a.0, right-append most l m a.1 b)

pub none-parts : (l m : List Refusal) → NoneGiven (l ++ m) → NoneGiven l × NoneGiven m
none-parts [] m h = (tt, h)
none-parts (r ∷ l) m h = let x = none-parts l m h.1 in ((h.0, x.0), x.1)

pub first-most : (most : ℕ) (rows : List Refusal) → AllRight most rows → first_given rows ≤ most
unfolding first_given pick
first-most most [] a = omega arith
first-most most (r ∷ rows) a = go r.given (first-most most rows a.1)
  where
    go : (t : Bool) → first_given rows ≤ most → pick t r.code (first_given rows) ≤ most
    go true h = a.0.0
    go false h = h

pub first-zero : (most : ℕ) (rows : List Refusal) → AllRight most rows → first_given rows ≡ 0 → NoneGiven rows
unfolding first_given pick
first-zero most [] a e = tt
first-zero most (r ∷ rows) a e = go r.given refl e (λ k. first-zero most rows a.1 k)
  where
    go : (t : Bool) → r.given ≡ t → pick t r.code (first_given rows) ≡ 0 → (first_given rows ≡ 0 → NoneGiven rows) → NoneGiven (r ∷ rows)
    go true g e ih = absurd (let lo = a.0.1 g in omega (arith, lo, e))
    go false g e ih = (g, ih e)

pub zero_first : (rows : List Refusal) → NoneGiven rows → first_given rows ≡ 0
unfolding first_given pick
zero_first [] h = refl
zero_first (r ∷ rows) h = rw h.0 (zero_first rows h.1)

plain : {most : ℕ} (code : ℕ) (given : Bool) → 1 ≤ code → code ≤ most → Right most (row code given)
plain code given lo hi = (hi, λ g. lo)

-- ---- those of document 01
read_right : (most : ℕ) → 15 ≤ most → (r : Reading (List Block)) → Early r → Right most (row (fault_code r) (is_fault r))
read_right most k (got program at) e = (omega arith, λ g. absurd (true_false g refl))
read_right most k (fault code place) e = let lo = e.0 in let hi = e.1 in (omega (arith, hi, k), λ g. lo)

nine-right : (most : ℕ) → 15 ≤ most → (program : List Block) → AllRight most (nine_on program)
unfolding nine_on
nine-right most k program = (
  plain 9 _ (omega arith) (omega arith),
  (
    plain 10 _ (omega arith) (omega arith),
    (
      plain 11 _ (omega arith) (omega arith),
      (
        plain 12 _ (omega arith) (omega arith),
        (
          plain 13 _ (omega arith) (omega arith),
          (
            plain 14 _ (omega arith) (omega arith),
            (plain 15 _ (omega arith) (omega arith), tt),
          ),
        ),
      ),
    ),
  ),
)

pub judging-right : (most : ℕ) → 15 ≤ most → (image : List ℕ) → AllRight most (judging image)
unfolding judging
judging-right most k image = (
  plain 1 _ (omega arith) (omega arith),
  ((read_right most k (blocks_at most_blocks image 0) (blocks-early image most_blocks 0), nine-right most k (program_in image))),
)

abbrev Late : ℕ → Type 0
Late code = (1 ≤ code) × (code ≤ 28)

abbrev MetLate : Option ℕ → Type 0
MetLate none = Unit {0}
MetLate (some code) = Late code

met-right : (o : Option ℕ) → MetLate o → Right 28 (row (met_code o) (is_met o))
met-right none h = (omega arith, λ g. absurd (true_false g refl))
met-right (some code) h = (h.1, λ g. h.0)

met-pick : (t : Bool) (a b : Option ℕ) → MetLate a → MetLate b → MetLate (pick t a b)
unfolding pick
met-pick true a b h k = h
met-pick false a b h k = k

module _ {A : Type 0} where
  met-in : (t : Tried A) → Only Late t → MetLate (refusal_in t)
  met-in (made a) h = tt
  met-in (refused code) h = h

module _ (program : List Block) (m : Machine) (p : ℕ) (here : Place) (ahead : Bool) where
  abbrev b : Block
  b = block program m p here ahead

  abbrev none? : Bool
  none? = has_none program m p here ahead

  abbrev called? : Bool
  called? = calling program m p here ahead

  abbrev out : Option ℕ
  out = refusal_in (exit_place m.memory b.exit)

  abbrev back : Option ℕ
  back = refusal_in (entry_place m.memory b.entry)

  abbrev leap : Option ℕ
  leap = refusal_in (leaf_forward m.memory here b)

  abbrev fall : Option ℕ
  fall = refusal_in (leaf_undo m.memory here b)

  trying-right : AllRight 28 (trying program m p here ahead)
  unfolding trying met_ahead met_back
  trying-right = (
    plain 21 _ (omega arith) (omega arith),
    (
      plain 20 _ (omega arith) (omega arith),
      (
        plain 26 _ (omega arith) (omega arith),
        (
          plain 27 _ (omega arith) (omega arith),
          (
            plain 28 _ (omega arith) (omega arith),
            (
              met-right (pick ahead (met_ahead program m p here ahead) (met_back program m p here ahead))
                  (met-pick ahead (met_ahead program m p here ahead) (met_back program m p here ahead)
                  (met-pick none? (pick called? out leap) none
                  (met-pick called? out leap (met-in (exit_place m.memory b.exit) (exit-only Late l22 l23 l24 l25 m.memory b.exit))
                  (met-in (leaf_forward m.memory here b) (leaf-only Late l22 l23 l24 l25 m.memory here b))) tt)
                  (met-pick none? (pick called? none fall) back
                  (met-pick called? none fall tt (met-in (leaf_undo m.memory here b) (unleaf-only Late l22 l23 l24 l25 m.memory here b)))
                  (met-in (entry_place m.memory b.entry) (entry-only Late l22 l23 l24 l25 m.memory b.entry)))),
              tt,
            ),
          ),
        ),
      ),
    ),
  )
    where
      l22 : Late 22
      l22 = (omega arith, omega arith)

      l23 : Late 23
      l23 = (omega arith, omega arith)

      l24 : Late 24
      l24 = (omega arith, omega arith)

      l25 : Late 25
      l25 = (omega arith, omega arith)

pub starting-right : (image : List ℕ) (lengths : Bool) → AllRight 16 (starting image lengths)
unfolding starting
starting-right image lengths = right-append 16 (judging image) _ (judging-right 16 (omega arith) image) (plain 16 _ (omega arith) (omega arith), tt)

pub listing-right : (image : List ℕ) (lengths : Bool) (words : List ℕ) → AllRight 17 (listing image lengths words)
unfolding listing
listing-right image lengths words =
    right-append 17 (judging image) _ (judging-right 17 (omega arith) image)
    (plain 16 _ (omega arith) (omega arith), (plain 17 _ (omega arith) (omega arith), tt))

pub stepping-right : (image : List ℕ) (lengths : Bool) (words : List ℕ) (p d : ℕ) → AllRight 28 (stepping image lengths words p d)
unfolding stepping
stepping-right image lengths words p d =
    right-append 28 (judging image) _ (judging-right 28 (omega arith) image) (
      plain 16 _ (omega arith) (omega arith),
      (
        plain 17 _ (omega arith) (omega arith),
        (
          plain 19 _ (omega arith) (omega arith),
          (
            plain 18 _ (omega arith) (omega arith),
            (trying-right (program_in image) (view words) p (placed (standing (view words).rows p)) (eqb d 0)),
          ),
        ),
      ),
    )
