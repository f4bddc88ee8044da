-- Has a process children, and do they all stand at one stage: the tests of code 20 on rows, and the theory's. Assumes that rows
-- ascend and hang from the root.
use Rattle.std.specs.Prelude.{◌≡◌, refl, ◌⊎◌, Bool, true, false, List, [], ◌∷◌, ℕ, ◌%◌, length}
use Rattle.std.proofs.Math.Path.{sym, ap}
use Rattle.std.proofs.Common.{◌∙◌, inl, inr, arith, eqb-true}
use Rattle.std.proofs.Math.Bool.{not}
use Rattle.std.proofs.Math.Option.{Option, none, some}
use Rattle.std.proofs.Math.Dec.{eqb}
use Rattle.std.proofs.lemmas.Bool.{not-false}
use Rattle.theory.specs.Tests.{bool_cases, true_false, not_true, none-some}
use Rattle.theory.specs.Local.{slot, is_kid, kid-facts, kid_of, put_self, put-kid, put-outside}
use Rattle.theory.specs.Optional.{some_kid, each_kid, any_none, none_any, all-at, all_of, slot_of}
use Rattle.rules.specs.Base.{pick, each_of}
use Rattle.rules.specs.Machine.{Process, Machine, child, is_child_of, standing, children}
use Rattle.rules.specs.Step.{move_row, waits}
use Rattle.rules.specs.declared.Place.{Place}
use Rattle.laws.proofs.Lists.{pick_true, pick-false}
use Rattle.theorems.specs.Tables.{Sorted, standing-none, each-standing, standing-each, none-empty, those-sorted, those-standing, move-self, move-other}
use Rattle.theorems.specs.Children.{Tree, Childless, kid-child, child-kid, puts, kids, by_row, outside}

-- a child's place, by its number
pub kids-at : (R : ℕ → Option Place) (p i : ℕ) → slot i ≡ true → kids R p i ≡ R (child p i)
kids-at R p i h = rw h

pub kids-kid : (R : ℕ → Option Place) (p x : ℕ) → is_kid p x ≡ true → kids R p (x % 16) ≡ R x
kids-kid R p x h =
    let f = kid-facts p x h in
    let e : child p (x % 16) ≡ x = omega (arith, f.2) in
    kids-at R p (x % 16) (slot_of (x % 16) f.0 f.1) ∙ ap R e

children-standing : (rows : List Process) (p x : ℕ) → standing (children rows p) x ≡ pick (is_child_of p x) (standing rows x) none
unfolding children
children-standing rows p x = those-standing (is_child_of p) rows x

pub children-kid : (rows : List Process) (p x : ℕ) → is_kid p x ≡ true → standing (children rows p) x ≡ standing rows x
children-kid rows p x k = children-standing rows p x ∙ pick_true (is_child_of p x) (standing rows x) none (kid-child p x k)

pub children-sorted : (rows : List Process) (p : ℕ) → Sorted rows → Sorted (children rows p)
unfolding children
children-sorted rows p s = those-sorted (is_child_of p) rows s

-- a row among the children is a child's
pub children-some :
    (rows : List Process) (p x : ℕ) (a : Place) → Tree (standing rows) → standing (children rows p) x ≡ some a →
    (is_kid p x ≡ true) × (standing rows x ≡ some a)
children-some rows p x a t h = go (bool_cases (is_child_of p x))
  where
    go : (is_child_of p x ≡ true) ⊎ (is_child_of p x ≡ false) → (is_kid p x ≡ true) × (standing rows x ≡ some a)
    go (inl c) =
        let e : standing rows x ≡ some a = sym (pick_true (is_child_of p x) (standing rows x) none c) ∙ sym (children-standing rows p x) ∙ h in
        (child-kid (standing rows) p x a t e c, e)
    go (inr c) = absurd (none-some (sym (pick-false (is_child_of p x) (standing rows x) none c) ∙ sym (children-standing rows p x) ∙ h))

-- ---- no children
empty-length : (l : List Process) → eqb (length l) 0 ≡ true → l ≡ []
empty-length [] h = refl
empty-length (r ∷ l) h = absurd (let z : length (r ∷ l) ≡ 0 = eqb-true (length (r ∷ l)) 0 h in omega (arith, z))

pub childless-of : (rows : List Process) (p : ℕ) → eqb (length (children rows p)) 0 ≡ true → Childless (standing rows) p
childless-of rows p h x k =
    sym (children-kid rows p x k) ∙ ap (λ (l : List Process). standing l x) (empty-length (children rows p) h) ∙ standing-none x

pub no_kids : (R : ℕ → Option Place) (p : ℕ) → Childless R p → some_kid (kids R p) 8 ≡ false
no_kids R p free = none_any (kids R p) 8 (λ i lo hi. let s = slot_of i lo hi in kids-at R p i s ∙ free (child p i) (kid_of p i s))

pub kids-none : (R : ℕ → Option Place) (p : ℕ) → some_kid (kids R p) 8 ≡ false → Childless R p
kids-none R p h x k = let f = kid-facts p x k in sym (kids-kid R p x k) ∙ any_none (kids R p) 8 h (x % 16) f.0 f.1

pub no_children :
    (rows : List Process) (p : ℕ) → Sorted rows → Tree (standing rows) → Childless (standing rows) p → eqb (length (children rows p)) 0 ≡ true
no_children rows p s t free =
    let e : children rows p ≡ [] = none-empty (children rows p) (λ x. go x (standing (children rows p) x) refl) in
    ap (λ (l : List Process). eqb (length l) 0) e
  where
    go : (x : ℕ) (o : Option Place) → standing (children rows p) x ≡ o → standing (children rows p) x ≡ none
    go x none e = e
    go x (some a) e = let c = children-some rows p x a t e in absurd (none-some (sym (free x c.0) ∙ c.1))

pub some-children :
    (rows : List Process) (p : ℕ) → Sorted rows → Tree (standing rows) → eqb (length (children rows p)) 0 ≡ false →
    some_kid (kids (standing rows) p) 8 ≡ true
some-children rows p s t h = go (bool_cases (some_kid (kids (standing rows) p) 8))
  where
    go : (some_kid (kids (standing rows) p) 8 ≡ true) ⊎ (some_kid (kids (standing rows) p) 8 ≡ false) → some_kid (kids (standing rows) p) 8 ≡ true
    go (inl e) = e
    go (inr e) = absurd (true_false (no_children rows p s t (kids-none (standing rows) p e)) h)

pub some-kids : (rows : List Process) (p : ℕ) → some_kid (kids (standing rows) p) 8 ≡ true → eqb (length (children rows p)) 0 ≡ false
some-kids rows p h = not_true (eqb (length (children rows p)) 0) (λ e. true_false h (no_kids (standing rows) p (childless-of rows p e)))

-- ---- all at one stage
module _ (m : Machine) (p stage : ℕ) (A : Place → Bool) (is : (a : Place) → A a ≡ eqb a.stage stage) where
  pub all_there : waits m p stage ≡ false → each_kid A (kids (standing m.rows) p) 8 ≡ true
  unfolding waits
  all_there h =
      all_of A (kids (standing m.rows) p) 8
      (λ i a lo hi e. let s = slot_of i lo hi in
      let k = kid_of p i s in
      is a
      ∙ each-standing (λ c. eqb c.stands.stage stage) (children m.rows p) (child p i) a (not-false _ h)
      (children-kid m.rows p (child p i) k ∙ sym (kids-at (standing m.rows) p i s) ∙ e))

  pub there-all : Sorted m.rows → Tree (standing m.rows) → each_kid A (kids (standing m.rows) p) 8 ≡ true → waits m p stage ≡ false
  unfolding waits
  there-all s t h =
      ap not
      (standing-each (λ c. eqb c.stands.stage stage) (children m.rows p) (children-sorted m.rows p s)
      (λ x a e. let c = children-some m.rows p x a t e in
      let f = kid-facts p x c.0 in
      sym (is a) ∙ all-at A (kids (standing m.rows) p) 8 h (x % 16) a f.0 f.1 (kids-kid (standing m.rows) p x c.0 ∙ c.1)))

pub none-wait : (m : Machine) (p stage : ℕ) → eqb (length (children m.rows p)) 0 ≡ true → waits m p stage ≡ false
unfolding waits each_of
none-wait m p stage h = ap (λ (l : List Process). not (each_of (λ c. eqb c.stands.stage stage) l)) (empty-length (children m.rows p) h)

-- ---- a moved row
pub move-puts :
    (rows : List Process) (p : ℕ) (a q : Place) → standing rows p ≡ some a → (x : ℕ) →
    standing (move_row rows p q) x ≡ puts (standing rows) p (some q) (kids (standing rows) p) x
move-puts rows p a q live =
    by_row p (λ x. standing (move_row rows p q) x ≡ puts R p (some q) (kids R p) x)
    (move-self rows p q a live ∙ sym (put_self R p (some q) (kids R p)))
    (λ x n k. move-other rows p q x n ∙ sym (kids-kid R p x k) ∙ sym (put-kid R p (some q) (kids R p) x k))
    (λ x n k. move-other rows p q x n ∙ sym (put-outside R p (some q) (kids R p) x (outside p x n k)))
  where
    R : ℕ → Option Place
    R = standing rows
