-- 004's tables of processes (rules' Paper: `at`, `with_children`, `IsLeaf`) as the theory's rows: a process moved, its children put
-- in, its children taken out. Assumes, where it says so, that rows are well-formed (theory's `OkRows`) and hang from the root.
use Rattle.std.specs.Prelude.{◌≡◌, refl, ◌⊎◌, ◌≢◌, Bool, true, false, not, List, [], ◌∷◌, ℕ, suc, ◌+◌, ◌*◌, ◌≤◌, length, eqb}
use Rattle.std.proofs.Common.{sym, ap, ◌∙◌, subst, inl, inr, arith, eqb-true}
use Rattle.std.proofs.Math.Path.{fun_ext}
use Rattle.std.proofs.Math.Option.{Option, none, some}
use Rattle.std.proofs.Math.Decide.{ℕ_discrete}
use Rattle.theory.specs.Tests.{bool_cases, true_false, eqb_same, and-true, not_true, none-some, some_inj}
use Rattle.theory.specs.Local.{slot, slot-range, is_kid, kid-self, put_self, put-kid, put-outside}
use Rattle.theory.specs.Family.{OfLabel, Family, view-put}
use Rattle.theory.specs.Optional.{onto, slot_of, any_of, all_of, some_kid, each_kid}
use Rattle.rules.specs.Labels.{called}
use Rattle.rules.specs.Machine.{begin, end, place, root, child, parent, is_child_of, standing}
use Rattle.rules.specs.Fits.{nth}
use Rattle.rules.specs.Step.{child_rows}
use Rattle.rules.specs.Paper.{at, IsLeaf, with_children}
use Rattle.rules.specs.declared.Block.{Block}
use Rattle.rules.specs.declared.Place.{Place}
use Rattle.theorems.specs.Parts.{calls, label_of}
use Rattle.theorems.specs.Leaves.{same_place}
use Rattle.theorems.specs.Program.{Sound, real, home-outer, call_one}
use Rattle.theorems.specs.Tables.{standing_here, standing-past, standing-none, first_of}
use Rattle.theorems.specs.Children.{Tree, Childless, kid-child, child-kid, puts, kids, by_row, outside, new_kid, new-other, after_none}
use Rattle.theorems.specs.Waiting.{kids-kid, kids-at}
use Rattle.theorems.specs.Forward.{puts-over}
use Rattle.theorems.specs.PaperValues.{at_same, at_other}

abbrev pub Rows : Type 0
Rows = ℕ → Option Place

not_self : (p x : ℕ) → is_kid p x ≡ true → x ≢ p
not_self p x k e = kid-self p (subst (λ (z : ℕ). is_kid p z ≡ true) e k)

-- a moved process
pub at-puts : (R : Rows) (p : ℕ) (a : Option Place) → at R p a ≡ puts R p a (kids R p)
at-puts R p a =
    fun_ext (by_row p (λ x. at R p a x ≡ puts R p a (kids R p) x)
    (at_same R p a p refl ∙ sym (put_self R p a (kids R p)))
    (λ x n k. at_other R p a x n ∙ sym (kids-kid R p x k) ∙ sym (put-kid R p a (kids R p) x k))
    (λ x n k. at_other R p a x n ∙ sym (put-outside R p a (kids R p) x (outside p x n k))))

-- moved twice, and back where it was
pub at_back : (R : Rows) (p : ℕ) (a b : Option Place) → R p ≡ a → at (at R p b) p a ≡ R
at_back R p a b e = fun_ext (λ x. go x (ℕ_discrete x p))
  where
    go : (x : ℕ) → Dec (x ≡ p) → at (at R p b) p a x ≡ R x
    go x (yes q) = at_same (at R p b) p a x q ∙ sym e ∙ ap R (sym q)
    go x (no n) = at_other (at R p b) p a x n ∙ at_other R p b x n

-- ---- no process below
pub leaf-childless : (R : Rows) (p : ℕ) → IsLeaf R p → Childless R p
leaf-childless R p leaf x k = leaf x (kid-child p x k)

pub childless-leaf : (R : Rows) (p : ℕ) → Tree R → Childless R p → IsLeaf R p
childless-leaf R p tree free x c = go (R x) refl
  where
    go : (o : Option Place) → R x ≡ o → R x ≡ none
    go none e = e
    go (some a) e = free x (child-kid R p x a tree e c)

not_below : (p : ℕ) → is_child_of p p ≡ true → ⊥
not_below p h =
    let x = and-true (not (eqb p root)) (eqb (parent p) p) h in
    let z = eqb-true (parent p) p x.1 in
    true_false x.0 (ap not (eqb_same p root (omega (arith, z))))

pub leaf-at : (R : Rows) (p : ℕ) (a : Option Place) → IsLeaf R p → IsLeaf (at R p a) p
leaf-at R p a leaf x c = go (ℕ_discrete x p)
  where
    go : Dec (x ≡ p) → at R p a x ≡ none
    go (yes e) = absurd (not_below p (subst (λ (z : ℕ). is_child_of p z ≡ true) e c))
    go (no n) = at_other R p a x n ∙ leaf x c

childless-at : (R : Rows) (p : ℕ) (a : Option Place) → Childless R p → Childless (at R p a) p
childless-at R p a free x k = at_other R p a x (not_self p x k) ∙ free x k

-- ---- a call's children
-- where child i of a call's labels stands, all at one stage
abbrev pub call_kids : ℕ → List ℕ → ℕ → Option Place
call_kids stage ls i = onto (λ l. place l stage) (nth ls i)

with_rows : (R : Rows) (p stage i : ℕ) (ls : List ℕ) (x : ℕ) → with_children R p stage i ls x ≡ first_of (standing (child_rows p stage i ls) x) (R x)
unfolding child_rows
with_rows R p stage i [] x = sym (ap (λ (o : Option Place). first_of o (R x)) (standing-none x))
with_rows R p stage i (l ∷ ls) x = go (ℕ_discrete x (child p i)) (with_rows R p stage (suc i) ls x)
  where
    go :
        Dec (x ≡ child p i) → with_children R p stage (suc i) ls x ≡ first_of (standing (child_rows p stage (suc i) ls) x) (R x) →
        at (with_children R p stage (suc i) ls) (child p i) (some (place l stage)) x
        ≡ first_of (standing (record { identifier = child p i; stands = place l stage } ∷ child_rows p stage (suc i) ls) x) (R x)
    go (yes e) ih =
        at_same (with_children R p stage (suc i) ls) (child p i) (some (place l stage)) x e
        ∙ sym (ap (λ (o : Option Place). first_of o (R x)) (standing_here _ _ x (sym e)))
    go (no n) ih =
        at_other (with_children R p stage (suc i) ls) (child p i) (some (place l stage)) x n
        ∙ ih
        ∙ sym (ap (λ (o : Option Place). first_of o (R x)) (standing-past _ _ x (λ e. n (sym e))))

pub with_puts : (R : Rows) (p stage : ℕ) (ls : List ℕ) → length ls ≤ 8 → Childless R p →
    with_children R p stage 1 ls ≡ puts R p (R p) (call_kids stage ls)
with_puts R p stage ls few free =
    fun_ext (by_row p (λ x. with_children R p stage 1 ls x ≡ puts R p (R p) K x)
    (with_rows R p stage 1 ls p ∙ ap (λ (o : Option Place). first_of o (R p)) (new-other p stage ls p few own) ∙ sym (put_self R p (R p) K))
    (λ x n k.
    with_rows R p stage 1 ls x ∙ ap (λ (o : Option Place). first_of (standing (child_rows p stage 1 ls) x) o) (free x k)
    ∙ after_none (standing (child_rows p stage 1 ls) x)
    ∙ new_kid p stage ls x k
    ∙ sym (put-kid R p (R p) K x k))
    (λ x n k.
    with_rows R p stage 1 ls x ∙ ap (λ (o : Option Place). first_of o (R x)) (new-other p stage ls x few k)
    ∙ sym (put-outside R p (R p) K x (outside p x n k))))
  where
    K : ℕ → Option Place
    K = call_kids stage ls

    own : is_kid p p ≡ false
    own = not_true (is_kid p p) (kid-self p)

-- a process moved and its children put in
pub fork-puts : (R : Rows) (p stage : ℕ) (a : Place) (ls : List ℕ) → length ls ≤ 8 → Childless R p →
    with_children (at R p (some a)) p stage 1 ls ≡ puts R p (some a) (call_kids stage ls)
fork-puts R p stage a ls few free =
    with_puts (at R p (some a)) p stage ls few (childless-at R p (some a) free)
    ∙ ap (λ (o : Option Place). puts (at R p (some a)) p o (call_kids stage ls)) (at_same R p (some a) p refl)
    ∙ fun_ext (puts-over R (at R p (some a)) p (some a) (call_kids stage ls) (λ x n. at_other R p (some a) x n))

-- a process's children, taken out
pub out-leaf : (R : Rows) (p : ℕ) (a : Place) → Tree R → IsLeaf (puts R p (some a) (λ i. none)) p
out-leaf R p a tree x c = go (ℕ_discrete x p) (bool_cases (is_kid p x))
  where
    R' : Rows
    R' = puts R p (some a) (λ i. none)

    go : Dec (x ≡ p) → (is_kid p x ≡ true) ⊎ (is_kid p x ≡ false) → R' x ≡ none
    go (yes e) k = absurd (not_below p (subst (λ (z : ℕ). is_child_of p z ≡ true) e c))
    go (no n) (inl k) = put-kid R p (some a) (λ i. none) x k
    go (no n) (inr k) = put-outside R p (some a) (λ i. none) x (outside p x n k) ∙ was (R x) refl
      where
        was : (o : Option Place) → R x ≡ o → R x ≡ none
        was none e = e
        was (some q) e = absurd (true_false (child-kid R p x q tree e c) k)

pub out-childless : (R : Rows) (p : ℕ) (a : Option Place) → Childless (puts R p a (λ i. none)) p
out-childless R p a x k = put-kid R p a (λ i. none) x k

module _ (program : List Block) (S : Sound program) where
  -- the children of a call are there
  pub call-kids : (R : Rows) (p b stage : ℕ) (a : Option Place) → calls program b ≡ true →
      some_kid (kids (puts R p a (call_kids stage (called program b))) p) 8 ≡ true
  call-kids R p b stage a c =
      let one = call_one program S b c in
      let range = slot-range one.0 one.2 in
      any_of (kids (puts R p a (call_kids stage (called program b))) p) 8 one.0 (place one.1 stage) range.0 range.1
      (view-put (real program S) R p a (call_kids stage (called program b)) one.0 one.2 ∙ ap (onto (λ l. place l stage)) one.3)

  -- and all at one stage
  pub call-staged : (R : Rows) (p b stage : ℕ) (a : Option Place) (P : Place → Bool) → ((l : ℕ) → P (place l stage) ≡ true) →
      each_kid P (kids (puts R p a (call_kids stage (called program b))) p) 8 ≡ true
  call-staged R p b stage a P is =
      all_of P (kids (puts R p a (call_kids stage (called program b))) p) 8
      (λ i q lo hi e. each (label_of program b i) q
      (sym (view-put (real program S) R p a (call_kids stage (called program b)) i (slot_of i lo hi)) ∙ e))
    where
      each : (t : Option ℕ) (q : Place) → onto (λ l. place l stage) t ≡ some q → P q ≡ true
      each none q e = absurd (none-some e)
      each (some l) q e = subst (λ (z : Place). P z ≡ true) (some_inj (place l stage) q e) (is l)

  -- the children that a family has, where all stand at begin or all at end, are the call's
  pub family-kids :
      (R : Rows) (p stage : ℕ) (F : Family (real program S) R p) → (stage ≡ begin) ⊎ (stage ≡ end) →
      ((i : ℕ) (q : Place) → slot i ≡ true → kids R p i ≡ some q → q.stage ≡ stage) → (i : ℕ) → slot i ≡ true →
      call_kids stage (called program F.b) i ≡ R (16 * p + i)
  family-kids R p stage F outer all i k = go (label_of program F.b i) (kids R p i) refl (F.each i k) ∙ kids-at R p i k
    where
      staged : (q : Place) → q.stage ≡ stage → (q.stage ≡ begin) ⊎ (q.stage ≡ end)
      staged q e = which outer
        where
          which : (stage ≡ begin) ⊎ (stage ≡ end) → (q.stage ≡ begin) ⊎ (q.stage ≡ end)
          which (inl x) = inl (e ∙ x)
          which (inr x) = inr (e ∙ x)

      go : (t : Option ℕ) (v : Option Place) → kids R p i ≡ v → OfLabel (real program S) v t → onto (λ l. place l stage) t ≡ v
      go none none e x = refl
      go (some l) none e x = absurd x
      go none (some q) e x = absurd x
      go (some l) (some q) e x =
          let s = all i q k e in
          ap some (sym (same_place q (place l stage) (sym (home-outer program S q (staged q s)) ∙ x) s))
