-- Code 27 by one look at the later entries: the graph holds the newest kept step of a process just where some later step writes
-- what it reads, or reads what it writes. Assumes nothing.
use Rattle.std.specs.Prelude.{◌≡◌, ◌⊎◌, Bool, ◌&&◌, ◌||◌, ℕ, zero, suc, ◌+◌, ◌-◌, ◌<◌, length, ltb}
use Rattle.std.proofs.Math.Path.{refl, sym, ap, subst}
use Rattle.std.proofs.Common.{◌∙◌, inl, inr}
use Rattle.std.proofs.Math.Bool.{true, false, not}
use mathlib.Core.List.Memᴰ
use mathlib.Core.List.{List, [], ◌∷◌, ◌++◌, Memᴰ}
use native.Mathlib.Omega.{arith}
use Rattle.std.proofs.Math.Decide.{ℕ_discrete}
use Rattle.std.proofs.Math.Dec.{eqb}
use borrow.Author.Tests.{eqb-true, lt-ltb, ltb-true}
use Rattle.theory.specs.Cause.{Feet, Origin, step, Base, fresh, push, after, Free, number}
use Rattle.theory.specs.Tests.{bool_cases, true_false, eqb_same, eqb-other, and-true, true_and, or_left, or_right, or_cases, not_true, or-false}
use Rattle.theory.specs.Histories.{Indep, Apart}
use Rattle.theory.specs.Undoable.{free-is_apart}
use Rattle.theory.specs.Cause
use Rattle.rules.specs.Base.{pick, those, each_of, some_of, some_below}
use Rattle.rules.specs.Names.{resources}
use Rattle.rules.specs.Machine.{Kept}
use Rattle.rules.specs.Cause.{reads, writes, Node, Source, start_mark, node, entries_of, last_writer, edges, same_node, same_source, is_newest, none_leaves, is_read_of, reads_last, may_go_back, newest_node, holds}
use Rattle.rules.specs.declared.Block.{Block}
use Rattle.laws.specs.Conflict.{conflicts}
use Rattle.theorems.specs.Graphs.{feet_of, source_of, source-inj, Shows, shows-none, shows-after, edge_at, edge-listed, listed-edge}

-- ---- tests over a list, as facts
module _ {A : Type 0} where
  each-mem : (p : A → Bool) (l : List A) (x : A) → each_of p l ≡ true → Memᴰ x l → p x ≡ true
  unfolding each_of
  each-mem p [] x h m = absurd (Memᴰ.not-nil m)
  each-mem p (a ∷ l) x h m = go (Memᴰ.cases_cons m) (λ m'. each-mem p l x (and-true (p a) (each_of p l) h).1 m')
    where
      go : (x ≡ a) ⊎ Memᴰ x l → (Memᴰ x l → p x ≡ true) → p x ≡ true
      go (inl e) ih = subst (λ (z : A). p z ≡ true) (sym e) (and-true (p a) (each_of p l) h).0
      go (inr m') ih = ih m'

  pub mem-each : (p : A → Bool) (l : List A) → ((x : A) → Memᴰ x l → p x ≡ true) → each_of p l ≡ true
  unfolding each_of
  mem-each p [] h = refl
  mem-each p (a ∷ l) h = true_and (p a) (each_of p l) (h a (Memᴰ.head refl)) (mem-each p l (λ x m. h x (Memᴰ.tail m)))

  mem-those : (p : A → Bool) (l : List A) (x : A) → Memᴰ x l → p x ≡ true → Memᴰ x (those p l)
  unfolding those pick
  mem-those p [] x m h = absurd (Memᴰ.not-nil m)
  mem-those p (a ∷ l) x m h = go (p a) refl (Memᴰ.cases_cons m) (λ m'. mem-those p l x m' h)
    where
      go :
          (t : Bool) → p a ≡ t → (x ≡ a) ⊎ Memᴰ x l → (Memᴰ x l → Memᴰ x (those p l)) →
          Memᴰ x (pick t (a ∷ those p l) (those p l))
      go true e (inl q) ih = Memᴰ.head q
      go true e (inr m') ih = Memᴰ.tail (ih m')
      go false e (inl q) ih = absurd (true_false (subst (λ (z : A). p z ≡ true) q h) e)
      go false e (inr m') ih = ih m'

  pub those-mem : (p : A → Bool) (l : List A) (x : A) → Memᴰ x (those p l) → Memᴰ x l × (p x ≡ true)
  unfolding those pick
  those-mem p [] x m = absurd (Memᴰ.not-nil m)
  those-mem p (a ∷ l) x m = go (p a) refl m (λ m'. those-mem p l x m')
    where
      more : Memᴰ x l × (p x ≡ true) → Memᴰ x (a ∷ l) × (p x ≡ true)
      more y = (Memᴰ.tail y.0, y.1)

      first :
          p a ≡ true → (x ≡ a) ⊎ Memᴰ x (those p l) → (Memᴰ x (those p l) → Memᴰ x l × (p x ≡ true)) →
          Memᴰ x (a ∷ l) × (p x ≡ true)
      first e (inl q) ih = (Memᴰ.head q, subst (λ (z : A). p z ≡ true) (sym q) e)
      first e (inr m') ih = more (ih m')

      go :
          (t : Bool) → p a ≡ t → Memᴰ x (pick t (a ∷ those p l) (those p l)) → (Memᴰ x (those p l) → Memᴰ x l × (p x ≡ true)) →
          Memᴰ x (a ∷ l) × (p x ≡ true)
      go true e m ih = first e (Memᴰ.cases_cons m) ih
      go false e m ih = more (ih m)

pub some_below_so : (p : ℕ → Bool) (n r : ℕ) → r < n → p r ≡ true → some_below p n ≡ true
unfolding some_below
some_below_so p zero r lt h = absurd (omega arith)
some_below_so p (suc n) r lt h = go (ℕ_discrete r n) (λ l. some_below_so p n r l h)
  where
    go : Dec (r ≡ n) → (r < n → some_below p n ≡ true) → (some_below p n || p n) ≡ true
    go (yes e) ih = or_right (some_below p n) (p n) (subst (λ (z : ℕ). p z ≡ true) e h)
    go (no d) ih = or_left (some_below p n) (p n) (ih (omega (arith, d)))

pub below-some : (p : ℕ → Bool) (n : ℕ) → some_below p n ≡ true → (r : ℕ) × (r < n) × (p r ≡ true)
unfolding some_below
below-some p zero h = absurd (true_false h refl)
below-some p (suc n) h = go (or_cases (some_below p n) (p n) h) (λ k. below-some p n k)
  where
    go : (some_below p n ≡ true) ⊎ (p n ≡ true) → (some_below p n ≡ true → (r : ℕ) × (r < n) × (p r ≡ true)) → (r : ℕ) × (r < suc n) × (p r ≡ true)
    go (inl k) ih = let x = ih k in (x.0, omega (arith, x.1), x.2)
    go (inr k) ih = (n, omega arith, k)

pub unread : (w : Bool) → not w ≡ true → w ≡ false
unread true h = absurd (true_false h refl)
unread false h = refl

-- ---- sources
pub same_source_is : (a b : Source) → same_source a b ≡ true → a ≡ b
same_source_is start_mark start_mark h = refl
same_source_is start_mark (node b) h = absurd (true_false h refl)
same_source_is (node a) start_mark h = absurd (true_false h refl)
same_source_is (node a) (node b) h =
    let x = and-true (eqb a.process b.process) (eqb a.number b.number) h in
    let p = eqb-true a.process b.process x.0 in
    let k = eqb-true a.number b.number x.1 in
    λ i. node (record { process = p i; number = k i })

pub source-same : (a b : Source) → a ≡ b → same_source a b ≡ true
source-same a b e = subst (λ (z : Source). same_source a z ≡ true) e (self a)
  where
    self : (a : Source) → same_source a a ≡ true
    self start_mark = refl
    self (node n) =
        true_and (eqb n.process n.process) (eqb n.number n.number) (eqb_same n.process n.process refl)
        (eqb_same n.number n.number refl)

-- no entry is of process p
abbrev pub NoneOf : ℕ → List Kept → Type 0
NoneOf p later = some_of (λ j. eqb j.identifier p) later ≡ false

module _ (program : List Block) where
  abbrev Φ : Feet
  Φ = feet_of program

  -- an edge is for one of the 33 resources
  bound : (G : Base) (l : List Kept) (q j r : ℕ) (w : Bool) (s : Origin) → Cause.Edge Φ G l q j r w s → r < resources
  bound G [] q j r w s a = absurd a
  bound G (f ∷ l) q j r w s (inl x) = ltb-true r resources (and-true (ltb r resources) (reads program f r) x.2).0
  bound G (f ∷ l) q j r w s (inr y) = bound (push Φ G f) l q j r w s y

  shown : (h : List Kept) → Shows program (after Φ fresh h) h
  shown h = shows-after program fresh [] h (shows-none program)

  -- ---- the three conditions
  module _ (h : List Kept) (p k : ℕ) where
    abbrev n : Node
    n = record { process = p; number = k }

    free-may : Free Φ h p k → may_go_back program h n ≡ true
    unfolding may_go_back is_newest none_leaves reads_last edges
    free-may F =
        let S = shown h in
        let newest : eqb (entries_of p h) (k + 1) ≡ true =
        eqb_same (entries_of p h) (k + 1) (let a = S.counts p in let b = F.newest in omega (arith, a, b)) in
        let leaves : none_leaves program h n ≡ true = mem-each (λ e. not (same_source e.source (node n))) (edges program h)
        (λ e m. let x = listed-edge program fresh [] h e (shows-none program) m in
        ap not (not_true (same_source e.source (node n))
        (λ q. let s : x.0 ≡ step p k = source-inj x.0 (step p k) (x.1 ∙ same_source_is e.source (node n) q) in
        F.leaves e.target.process e.target.number e.resource e.write
        (subst (λ (z : Origin). Cause.Edge Φ fresh h e.target.process e.target.number e.resource e.write z) s x.2)))) in
        let last : reads_last program h n ≡ true =
        mem-each (λ e. same_source e.source (last_writer program h e.resource)) (those (is_read_of n) (edges program h))
        (λ e m. let y = those-mem (is_read_of n) (edges program h) e m in
        let x = listed-edge program fresh [] h e (shows-none program) y.0 in
        let c = and-true (same_node e.target n) (not e.write) y.1 in
        let d = and-true (eqb e.target.process p) (eqb e.target.number k) c.0 in
        let lt = bound fresh h e.target.process e.target.number e.resource e.write x.0 x.2 in
        let w : e.write ≡ false = unread e.write c.1 in
        let g =
        F.reads e.resource x.0
        (moved e.target.process e.target.number e.resource e.write x.0 (eqb-true e.target.process p d.0)
        (eqb-true e.target.number k d.1) w x.2) in
        source-same e.source (last_writer program h e.resource) (sym x.1 ∙ ap source_of g ∙ S.last e.resource lt)) in
        true_and (is_newest h n) (none_leaves program h n && reads_last program h n) newest
        (true_and (none_leaves program h n) (reads_last program h n) leaves last)
      where
        moved : (q j r : ℕ) (w : Bool) (s : Origin) → q ≡ p → j ≡ k → w ≡ false → Cause.Edge Φ fresh h q j r w s → Cause.Edge Φ fresh h p k r false s
        moved q j r w s a b c x =
            subst (λ (z : Bool). Cause.Edge Φ fresh h p k r z s) c
            (subst (λ (z : ℕ). Cause.Edge Φ fresh h p z r w s) b (subst (λ (z : ℕ). Cause.Edge Φ fresh h z j r w s) a x))

    may_free : may_go_back program h n ≡ true → Free Φ h p k
    unfolding may_go_back is_newest none_leaves reads_last edges
    may_free m =
        let S = shown h in
        let x = and-true (is_newest h n) (none_leaves program h n && reads_last program h n) m in
        let y = and-true (none_leaves program h n) (reads_last program h n) x.1 in
        record {
          newest = let a = S.counts p in let b = eqb-true (entries_of p h) (k + 1) x.0 in omega (arith, a, b);
          leaves = λ q j r w e. let l = edge-listed program fresh [] h q j r w (step p k) (shows-none program) e in
              let z = each-mem (λ e. not (same_source e.source (node n))) (edges program h) (edge_at program q j r w (step p k)) y.0 l in
              true_false (source-same (node n) (node n) refl) (unread (same_source (node n) (node n)) z);
          reads = λ r s e. let l = edge-listed program fresh [] h p k r false s (shows-none program) e in
              let t =
              mem-those (is_read_of n) (edges program h) (edge_at program p k r false s) l
              (true_and (same_node n n) true (true_and (eqb p p) (eqb k k) (eqb_same p p refl) (eqb_same k k refl)) refl) in
              let z =
              each-mem (λ e. same_source e.source (last_writer program h e.resource)) (those (is_read_of n) (edges program h))
              (edge_at program p k r false s) y.1 t in
              let lt = bound fresh h p k r false s e in
              source-inj s ((after Φ fresh h).last r) (same_source_is (source_of s) (last_writer program h r) z ∙ sym (S.last r lt));
        }

  -- ---- conflicts
  clash :
      (k j : Kept) (r : ℕ) → r < resources → ((writes program k r && reads program j r) ≡ true) ⊎ ((reads program k r && writes program j r) ≡ true) →
      conflicts program k j ≡ true
  unfolding conflicts
  clash k j r lt (inl x) =
      or_left (some_below (λ r. writes program k r && reads program j r) resources)
      (some_below (λ r. reads program k r && writes program j r) resources)
      (some_below_so (λ r. writes program k r && reads program j r) resources r lt x)
  clash k j r lt (inr x) =
      or_right (some_below (λ r. writes program k r && reads program j r) resources)
      (some_below (λ r. reads program k r && writes program j r) resources)
      (some_below_so (λ r. reads program k r && writes program j r) resources r lt x)

  pub apart-steps : (k j : Kept) → conflicts program k j ≡ false → Indep Φ k j
  apart-steps k j h = (
    (λ r w. not_true (ltb r resources && reads program j r)
        (λ x. let a = and-true (ltb r resources) (writes program k r) w in let b = and-true (ltb r resources) (reads program j r) x in true_false
        (clash k j r (ltb-true r resources a.0) (inl (true_and (writes program k r) (reads program j r) a.1 b.1))) h)),
    (λ r w. not_true (ltb r resources && reads program k r)
        (λ x. let a = and-true (ltb r resources) (writes program j r) w in let b = and-true (ltb r resources) (reads program k r) x in true_false
        (clash k j r (ltb-true r resources a.0) (inr (true_and (reads program k r) (writes program j r) b.1 a.1))) h)),
  )

  pub steps_apart : (k j : Kept) → Indep Φ k j → conflicts program k j ≡ false
  unfolding conflicts
  steps_apart k j i =
      not_true _ (λ h. go (or_cases (some_below (λ r. writes program k r && reads program j r) resources)
      (some_below (λ r. reads program k r && writes program j r) resources) h))
    where
      go :
          (some_below (λ r. writes program k r && reads program j r) resources ≡ true) ⊎
          (some_below (λ r. reads program k r && writes program j r) resources ≡ true) → ⊥
      go (inl x) =
          let y = below-some (λ r. writes program k r && reads program j r) resources x in
          let c = and-true (writes program k y.0) (reads program j y.0) y.2 in
          let l = lt-ltb y.0 resources y.1 in
          true_false (true_and (ltb y.0 resources) (reads program j y.0) l c.1)
          (i.0 y.0 (true_and (ltb y.0 resources) (writes program k y.0) l c.0))
      go (inr x) =
          let y = below-some (λ r. reads program k r && writes program j r) resources x in
          let c = and-true (reads program k y.0) (writes program j y.0) y.2 in
          let l = lt-ltb y.0 resources y.1 in
          true_false (true_and (ltb y.0 resources) (reads program k y.0) l c.0)
          (i.1 y.0 (true_and (ltb y.0 resources) (writes program j y.0) l c.1))

  none_or : (a b : Bool) → a ≡ false → b ≡ false → (a || b) ≡ false
  none_or a b x y = rw (x, y)

  pub apart-all : (k : Kept) (later : List Kept) → NoneOf k.identifier later → some_of (conflicts program k) later ≡ false → Apart Φ k later
  unfolding some_of
  apart-all k [] n h = tt
  apart-all k (j ∷ later) n h =
      let a = or-false (eqb j.identifier k.identifier) (some_of (λ i. eqb i.identifier k.identifier) later) n in
      let b = or-false (conflicts program k j) (some_of (conflicts program k) later) h in
      ((λ e. true_false (eqb_same j.identifier k.identifier e) a.0), apart-steps k j b.0, apart-all k later a.1 b.1)

  all_apart : (k : Kept) (later : List Kept) → Apart Φ k later → some_of (conflicts program k) later ≡ false
  unfolding some_of
  all_apart k [] a = refl
  all_apart k (j ∷ later) a =
      none_or (conflicts program k j) (some_of (conflicts program k) later) (steps_apart k j a.1) (all_apart k later a.2)

  -- ---- the newest node
  pub none-counted : (p : ℕ) (later : List Kept) → NoneOf p later → entries_of p later ≡ 0
  unfolding entries_of those some_of pick
  none-counted p [] n = refl
  none-counted p (j ∷ later) n =
      let a = or-false (eqb j.identifier p) (some_of (λ i. eqb i.identifier p) later) n in
      rw a.0 (none-counted p later a.1)

  counted : (p : ℕ) (u v : List Kept) → entries_of p (u ++ v) ≡ entries_of p u + entries_of p v
  unfolding entries_of those pick
  counted p [] v = omega arith
  counted p (j ∷ u) v = go (eqb j.identifier p) (counted p u v)
    where
      T : List Kept
      T = those (λ i. eqb i.identifier p) (u ++ v)

      T' : List Kept
      T' = those (λ i. eqb i.identifier p) u

      go : (t : Bool) → length T ≡ length T' + entries_of p v → length (pick t (j ∷ T) T) ≡ length (pick t (j ∷ T') T') + entries_of p v
      go true ih = omega (arith, ih)
      go false ih = ih

  one-counted : (k : Kept) (later : List Kept) → entries_of k.identifier (k ∷ later) ≡ 1 + entries_of k.identifier later
  unfolding entries_of those pick
  one-counted k later = rw (eqb_same k.identifier k.identifier refl) (omega arith)

  pub held :
      (h : List Kept) (k : Kept) (later : List Kept) → NoneOf k.identifier later →
      holds program (h ++ k ∷ later) k.identifier ≡ some_of (conflicts program k) later
  unfolding holds
  held h k later none = go (bool_cases (some_of (conflicts program k) later)) (bool_cases (may_go_back program H (newest_node H p)))
    where
      H : List Kept
      H = h ++ k ∷ later

      p : ℕ
      p = k.identifier

      num : entries_of p H - 1 ≡ number Φ h k
      num =
          let a = counted p h (k ∷ later) in
          let b = one-counted k later in
          let c = none-counted p later none in
          let d = (shown h).counts p in
          omega (arith, a, b, c, d)

      go :
          (some_of (conflicts program k) later ≡ true) ⊎ (some_of (conflicts program k) later ≡ false) →
          (may_go_back program H (newest_node H p) ≡ true) ⊎ (may_go_back program H (newest_node H p) ≡ false) →
          not (may_go_back program H (newest_node H p)) ≡ some_of (conflicts program k) later
      go (inl x) (inr y) = ap not y ∙ sym x
      go (inr x) (inl y) = ap not y ∙ sym x
      go (inl x) (inl y) =
          let F = subst (λ (z : ℕ). Free Φ H p z) num (may_free H p (entries_of p H - 1) y) in
          absurd (true_false x (all_apart k later ((free-is_apart Φ h k later).0 F)))
      go (inr x) (inr y) =
          let F = (free-is_apart Φ h k later).1 (apart-all k later none x) in
          absurd (true_false (free-may H p (entries_of p H - 1) (subst (λ (z : ℕ). Free Φ H p z) (sym num) F)) y)

  -- a process that the graph does not hold has an entry
  pub held_none : (h : List Kept) (p : ℕ) → entries_of p h ≡ 0 → holds program h p ≡ true
  unfolding holds may_go_back is_newest
  held_none h p e =
      let n : eqb (entries_of p h) (entries_of p h - 1 + 1) ≡ false = eqb-other (entries_of p h) (entries_of p h - 1 + 1) (λ q. omega (arith, e, q)) in
      ap (λ (t : Bool). not (t && (none_leaves program h (newest_node h p) && reads_last program h (newest_node h p)))) n
