-- Children counted are children named: where each child stands in its own process block and the rows ascend, as many children as the
-- call names are that call's 1 to n. Assumes nothing.
use Prim.Native.Nat.{ℕ, zero, suc, ◌+◌, ◌*◌, ◌/◌, ◌%◌, ◌<◌, ◌≤◌}
use native.Mathlib.Omega.{arith}
use mathlib.Core.Path.{◌≡◌, refl, sym, ap, ap₂, subst, ◌∙◌}
use mathlib.Core.Bool.{Bool, true, false, not, ◌||◌}
use mathlib.Core.List.{List, [], ◌∷◌, map}
use mathlib.Core.Option.{Option, some}
use lib.ListN.{length, get_or, get_elem?, length-map}
use lib.Dec.{eqb, ltb}
use borrow.Author.Tests.{eq-eqb, eqb-true, eqb-false, ltb-true, not-true}
use Rattle.rules.specs.Base.{each_of, pick, those, up_from, alike}
use Rattle.rules.specs.Machine.{Process, is_child_of, children, live_count, standing, view}
use Rattle.rules.specs.Fits.{ascending, called_at, nth, child_label, stands_in_some, own_fits, children_fit}
use Rattle.rules.specs.declared.Block.{Block}
use Rattle.rules.specs.declared.Place.{Place}
use Rattle.laws.proofs.Tests.{and-true, true_false}
use Rattle.laws.proofs.Ascending.{ascending-head, ascending-tail}
use Rattle.laws.proofs.View.{row_at, no_row, row-at, length-rows}
use Rattle.ordered.specs.Ordered.{Ordered}
use Rattle.fits.specs.Children.{whole_family}
use Rattle.ordered.proofs.Standing.{row-mine, standing-found}
use Rattle.own.proofs.Owning.{own-child}
use Rattle.ordered.proofs.Each.{rows_at}
use Rattle.laws.proofs.Lists.{each_at}

-- ---- numbers that climb from lo on and stay below hi
abbrev Climbs : ℕ → ℕ → List ℕ → Type 0
Climbs lo hi [] = lo ≤ hi
Climbs lo hi (x ∷ l) = (lo ≤ x) × (x < hi) × Climbs (suc x) hi l

climbs_few : (lo hi : ℕ) (l : List ℕ) → Climbs lo hi l → lo + length l ≤ hi
climbs_few lo hi [] c = omega arith
climbs_few lo hi (x ∷ l) c = let h = climbs_few (suc x) hi l c.2 in omega (arith, c.0)

-- as many as there is room for are all of them
climbs_all : (a : ℕ) (l : List ℕ) → Climbs a (a + length l) l → l ≡ up_from a (length l)
unfolding up_from
climbs_all a [] c = refl
climbs_all a (x ∷ l) c =
    let h = climbs_few (suc x) (a + suc (length l)) l c.2 in
    let e : x ≡ a = omega (arith, c.0) in
    let s : a + suc (length l) ≡ suc a + length l = omega arith in
    ap₂ (λ (y : ℕ) (m : List ℕ). y ∷ m) e
    (climbs_all (suc a) l (subst (λ (k : ℕ). Climbs (suc a) k l) s (subst (λ (k : ℕ). Climbs (suc k) (a + suc (length l)) l) e c.2)))

alike_same : (l : List ℕ) → alike l l ≡ true
unfolding alike
alike_same [] = refl
alike_same (x ∷ l) = rw (eq-eqb x x refl) (alike_same l)

alike-length : (l m : List ℕ) → alike l m ≡ true → length l ≡ length m
unfolding alike
alike-length [] [] h = refl
alike-length [] (y ∷ m) h = absurd (true_false h refl)
alike-length (x ∷ l) [] h = absurd (true_false h refl)
alike-length (x ∷ l) (y ∷ m) h = ap suc (alike-length l m (and-true (eqb x y) (alike l m) h).1)

length-up_from : (a n : ℕ) → length (up_from a n) ≡ n
unfolding up_from
length-up_from a zero = refl
length-up_from a (suc n) = ap suc (length-up_from (suc a) n)

alike-up : (l : List ℕ) (a n : ℕ) → Climbs a (a + n) l → alike l (up_from a n) ≡ eqb (length l) n
alike-up l a n c = go (eqb (length l) n) refl
  where
    is_false : (b : Bool) → (b ≡ true → ⊥) → b ≡ false
    is_false true f = absurd (f refl)
    is_false false f = refl

    go : (b : Bool) → eqb (length l) n ≡ b → alike l (up_from a n) ≡ b
    go true e =
        let q : length l ≡ n = eqb-true (length l) n e in
        let u : l ≡ up_from a n = climbs_all a l (rw q c) ∙ ap (up_from a) q in
        ap (λ (m : List ℕ). alike m (up_from a n)) u ∙ alike_same (up_from a n)
    go false e = is_false (alike l (up_from a n)) (λ t. eqb-false (length l) n e (alike-length l (up_from a n) t ∙ length-up_from a n))

-- ---- the children's identifiers climb
module _ (p hi : ℕ) (d : Process) where
  climbs_children : (rows : List Process) (lo : ℕ) → lo ≤ hi → ascending rows ≡ true
      → ((i : ℕ) → i < length rows → is_child_of p (get_or rows i d).identifier ≡ true
      → (lo ≤ (get_or rows i d).identifier) × ((get_or rows i d).identifier < hi))
      → Climbs lo hi (map (λ r. r.identifier) (those (λ r. is_child_of p r.identifier) rows))
  unfolding those pick
  climbs_children [] lo h a f = h
  climbs_children (r ∷ rows) lo h a f =
      go (is_child_of p r.identifier) refl (λ l k g. climbs_children rows l k (ascending-tail r rows a) g)
    where
      go : (b : Bool) → is_child_of p r.identifier ≡ b
          → ((l : ℕ) → l ≤ hi
          → ((i : ℕ) → i < length rows → is_child_of p (get_or rows i d).identifier ≡ true
          → (l ≤ (get_or rows i d).identifier) × ((get_or rows i d).identifier < hi))
          → Climbs l hi (map (λ x. x.identifier) (those (λ x. is_child_of p x.identifier) rows)))
          → Climbs lo hi (map (λ x. x.identifier) (pick b (r ∷ those (λ x. is_child_of p x.identifier) rows) (those (λ x. is_child_of p x.identifier) rows)))
      go true e k =
          let g = f 0 (omega arith) e in (
            g.0,
            g.1,
            k (suc r.identifier) g.1
                (λ i l q. (ltb-true _ _ (each_at (λ x. ltb r.identifier x.identifier) d rows (ascending-head r rows a) i l), (f (suc i) (omega arith) q).1)),
          )
      go false e k = k lo h (λ i l q. f (suc i) (omega arith) q)

-- ---- a child that stands in its own process block is one of the call's
nth-range : (program : List Block) (l : List ℕ) (i : ℕ) (q : Place) → stands_in_some program (nth l i) q ≡ true → (1 ≤ i) × (i ≤ length l)
nth-range program l zero q h = absurd (true_false h refl)
nth-range program l (suc i) q h = (omega arith, go l i h)
  where
    go : (l : List ℕ) (i : ℕ) → stands_in_some program (get_elem? l i) q ≡ true → suc i ≤ length l
    go [] i h = absurd (true_false h refl)
    go (a ∷ l) zero h = omega arith
    go (a ∷ l) (suc i) h = let k = go l i h in omega arith

module _ (program : List Block) (w : List ℕ) (o : Ordered w) (own : each_of (own_fits program (view w).rows) (view w).rows ≡ true)
    (j : ℕ) (l : j < live_count w) where
  parent-stands : standing (view w).rows (get_or w (290 + 3 * j) 0) ≡ some (row_at w j).stands
  parent-stands =
      let e = row-mine w o j l in
      standing-found w (get_or w (290 + 3 * j) 0) (rw e at l) ∙ ap (λ (i : ℕ). some (row_at w i).stands) (sym e)

  child-between : (i : ℕ) → i < live_count w → is_child_of (get_or w (290 + 3 * j) 0) (get_or w (290 + 3 * i) 0) ≡ true
      → (16 * get_or w (290 + 3 * j) 0 + 1 ≤ get_or w (290 + 3 * i) 0)
      × (get_or w (290 + 3 * i) 0 < 16 * get_or w (290 + 3 * j) 0 + 1 + length (called_at program (row_at w j).stands))
  unfolding own_fits
  child-between i k c =
      let p = get_or w (290 + 3 * j) 0 in
      let q = get_or w (290 + 3 * i) 0 in
      let b = and-true (not (eqb q 0)) (eqb (q / 16) p) c in
      let f = eqb-false q 0 (not-true (eqb q 0) b.0) in
      let e : q / 16 ≡ p = eqb-true (q / 16) p b.1 in
      let s : child_label program (standing (view w).rows (q / 16)) (q % 16) ≡ nth (called_at program (row_at w j).stands) (q % 16) =
      ap (λ (x : Option Place). child_label program x (q % 16)) (ap (standing (view w).rows) e ∙ parent-stands) in
      let t : stands_in_some program (nth (called_at program (row_at w j).stands) (q % 16)) (row_at w i).stands ≡ true =
      sym (ap (λ (x : Option ℕ). stands_in_some program x (row_at w i).stands) (own-child program w q f ∙ s))
      ∙ rows_at w (own_fits program (view w).rows) own i k in
      let r = nth-range program (called_at program (row_at w j).stands) (q % 16) (row_at w i).stands t in
      let m : 16 * (q / 16) + q % 16 ≡ q = omega arith in
      (omega (arith, r.0), omega (arith, r.1))

  pub children-is : children_fit program (view w).rows (row_at w j) ≡ whole_family program (view w).rows (row_at w j)
  unfolding children_fit whole_family children
  children-is =
      let p = get_or w (290 + 3 * j) 0 in
      let n = length (called_at program (row_at w j).stands) in
      let c = children (view w).rows p in
      let s = length-rows w in
      ap (λ (b : Bool). eqb (length c) 0 || b)
      (alike-up (map (λ r. r.identifier) c) (16 * p + 1) n
      (climbs_children p (16 * p + 1 + n) no_row (view w).rows (16 * p + 1) (omega arith) o.ascends
      (λ i k q.
      let h : i < live_count w = omega arith in
      let e = row-at w i h in
      rw e (child-between i h (rw e at q))))
      ∙ ap (λ (x : ℕ). eqb x n) (length-map c (λ r. r.identifier)))
