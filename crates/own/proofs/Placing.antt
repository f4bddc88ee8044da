-- The process block of a place and the labels called there, by the tables of a program. Assumes nothing.
use Prim.Native.Nat.{ℕ, zero, suc, ◌+◌, ◌-◌, ◌*◌, ◌<◌, ◌≤◌, min}
use native.Mathlib.Nat.{not-suc-le-zero, le_of_suc-le-suc}
use native.Mathlib.Omega.{arith}
use mathlib.Core.Path.{◌≡◌, refl, sym, ap, ◌∙◌}
use mathlib.Core.Bool.{false}
use mathlib.Core.List.{List, [], ◌∷◌, map}
use Rattle.std.proofs.Common.{Option, None}
use lib.ListN.{length, take, drop, get_or, get_elem?, get_or-eq_default, get_or-map}
use lib.Seq.{get_or-take}
use lib.Dec.{eqb}
use borrow.Author.Tests.{eq-eqb, ne_eqb, lt-ltb, le-ltb}
use Rattle.rules.specs.Base.{pick, up_from}
use Rattle.rules.specs.Labels.{no_block, home, called_by}
use Rattle.rules.specs.Machine.{place, begin, end}
use Rattle.rules.specs.Fits.{entry_block, exit_block, stands_in, called_at, nth}
use Rattle.rules.specs.declared.Block.{Block}
use Rattle.rules.specs.declared.Place.{Place}
use Rattle.laws.proofs.CallTable.{calls-at}
use Rattle.std.proofs.Common.{slice_get}
use Rattle.laws.specs.Found.{given}
use Rattle.calls.specs.declared.table.Calls.{Calls}
use Rattle.own.specs.Tables.{Homes, CallsIn}

-- ---- in the process block of label l
module _ (program : List Block) (l label stage : ℕ) where
  pub stands-begin : stage ≡ begin → stands_in program l (place label stage) ≡ eqb label l
  unfolding stands_in pick
  stands-begin e = rw (eq-eqb stage begin e)

  pub stands-end : (stage ≡ begin → ⊥) → stage ≡ end → stands_in program l (place label stage) ≡ eqb label l
  unfolding stands_in pick
  stands-end f e = rw (ne_eqb stage begin f, eq-eqb stage end e)

  module _ (f : stage ≡ begin → ⊥) (g : stage ≡ end → ⊥) (b : ℕ) (e : b ≡ entry_block program (place label stage)) where
    pub stands-nowhere : length program ≤ b → stands_in program l (place label stage) ≡ false
    unfolding stands_in pick
    stands-nowhere h = rw (ne_eqb stage begin f, ne_eqb stage end g, ← e, le-ltb b (length program) h)

    pub stands-run : b < length program → stands_in program l (place label stage) ≡ eqb (home program b) l
    unfolding stands_in pick
    stands-run h = rw (ne_eqb stage begin f, ne_eqb stage end g, ← e, lt-ltb b (length program) h)

numbers-at : {A : Type 0} (f : ℕ → A) (a n b : ℕ) (d : A) → b < n → get_or (map f (up_from a n)) b d ≡ f (a + b)
unfolding up_from
numbers-at f a zero b d h = absurd (not-suc-le-zero h)
numbers-at f a (suc n) zero d h = ap f (omega arith)
numbers-at f a (suc n) (suc b) d h = numbers-at f (suc a) n b d (le_of_suc-le-suc h) ∙ ap f (next a b)
  where
    next : (a b : ℕ) → suc a + b ≡ a + suc b
    next a b = omega arith

pub home-at : (program : List Block) (c : Calls) (b : ℕ) → Homes program c → b < length program → get_or c.homes b 0 ≡ home program b
home-at program c b h l =
    let z : 0 + b ≡ b = omega arith in
    let m : b < c.count = omega (arith, h.count) in
    sym (get_or-take c.count c.homes b 0 m) ∙ ap (λ (t : List ℕ). get_or t b 0) h.are ∙ numbers-at (home program) 0 c.count b 0 m ∙ ap (home program) z

-- ---- the labels called
module _ (program : List Block) (q : Place) (b : ℕ) (e : b ≡ exit_block program q) where
  pub called-none : length program ≤ b → called_at program q ≡ []
  unfolding called_at
  called-none h = rw (← e) (ap (λ (x : Block). called_by x.instruction) (get_or-eq_default program no_block h))

  -- k labels of the block are read, as many as it calls and no more than eight
  pub called-some : (c : Calls) → CallsIn program c → b < length program → (k : ℕ) → k ≡ min 8 (get_or c.counts b 0)
      → take k (drop (8 * b) c.names) ≡ called_at program q
  unfolding called_at
  called-some c t l k f =
      let m : b < c.count = omega (arith, t.count) in
      let d : k ≡ get_or c.counts b 0 = omega (arith, t.few b m) in
      ap (λ (j : ℕ). take j (drop (8 * b) c.names)) d
      ∙ sym
      (rw (← e)
      (sym (get_or-map (λ (x : Block). called_by x.instruction) program b no_block)
      ∙ ap (λ (x : List (List ℕ)). get_or x b []) (sym t.calls)
      ∙ calls-at c.counts c.names c.count b m))

-- the label at an index, as rules read it
pub given-get : (l : List ℕ) (i : ℕ) → given (slice_get l i) ≡ get_elem? l i
given-get [] i = refl
given-get (a ∷ l) zero = refl
given-get (a ∷ l) (suc i) = given-get l i

pub nth-none : (l : List ℕ) (i : ℕ) (r : Option ℕ) → (1 ≤ i → ⊥) → r ≡ None → given r ≡ nth l i
nth-none l zero r f e = ap given e
nth-none l (suc i) r f e = absurd (f (omega arith))

pub nth-get : (l : List ℕ) (i : ℕ) (r : Option ℕ) → (i ≡ 0 → ⊥) → r ≡ slice_get l (i - 1) → given r ≡ nth l i
nth-get l zero r f e = absurd (f refl)
nth-get l (suc i) r f e =
    let j : suc i - 1 ≡ i = omega arith in
    ap given (e ∙ ap (slice_get l) j) ∙ given-get l i
