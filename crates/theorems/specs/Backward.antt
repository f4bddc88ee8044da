-- An undo that rules accept is one of the theory's, and keeps rows in order; and where the theory goes back, the graph does not
-- hold the step and there is room, rules accept the undo. Assumes that the image is sound and the rows are well-formed
-- (theory's `OkRows`), ascend and hang from the root.
use Rattle.std.specs.Prelude.{◌≡◌, ◌⊎◌, ◌≢◌, Bool, ℕ, ◌+◌, ◌≤◌, eqb, ltb}
use Rattle.std.proofs.Math.Path.{refl, sym, subst}
use Rattle.std.proofs.Common.{ap, ◌∙◌, inl, inr, arith}
use Rattle.std.proofs.Math.Bool.{true, false}
use Rattle.std.proofs.Math.Option.{Option, none, some}
use mathlib.Core.List.{List}
use Rattle.std.proofs.Math.Decide.{ℕ_discrete}
use Rattle.std.proofs.Math.ListN.{length}
use borrow.Author.Tests.{eqb-false, le-ltb}
use Rattle.theory.specs.Tests.{bool_cases, eqb-other, not_true, some_inj}
use Rattle.theory.specs.Local.{Taken, Outcome, is_kid, kid-self, fire, fired, done, entry, put_self, put-kid, put-outside}
use Rattle.theory.specs.Shapes.{has_kids, at_begin, back, result, unleaf-back, unmerge_back, unfork-back, back-shape, Backward}
use Rattle.theory.specs.Machine.{backward}
use Rattle.theory.specs.Optional.{onto}
use Rattle.rules.specs.Base.{pick}
use Rattle.rules.specs.Read.{is_call}
use Rattle.rules.specs.Labels.{block_of, called}
use Rattle.rules.specs.Calls.{most_rows}
use Rattle.rules.specs.Machine.{Process, Kept, Machine, begin, run, end, place, standing, children}
use Rattle.rules.specs.Fits.{exit_block, nth}
use Rattle.rules.specs.Cause.{holds}
use Rattle.rules.specs.Leaf.{Tried, made, refused, Moved, leaf_undo, entry_place}
use Rattle.rules.specs.Step.{move_row, child_rows, insert_rows, remove_rows, close_up, waits, crowded, undo_fork, undo_merge, undo_leaf, undo_childless}
use Rattle.rules.specs.Step
use Rattle.rules.specs.declared.Entry.{Entry}
use Rattle.rules.specs.declared.Block.{Block}
use Rattle.rules.specs.declared.Place.{Place}
use Rattle.laws.proofs.Lists.{pick_true, pick-false}
use Rattle.laws.specs.Fit.{IsFrom}
use Rattle.theorems.specs.Evaluate.{made-inj, made-pick, after-made, made_after}
use Rattle.theorems.specs.Parts.{unleaf_of, exit_at, calls, out_of, into_of, Standing, from_label}
use Rattle.theorems.specs.Program.{Sound, real, some-exit, made-unleaf, unleaf-made, call-in_image, exit-some}
use Rattle.theorems.specs.Tables.{Sorted, move-sorted, move-self, move-other}
use Rattle.theorems.specs.Children.{Tree, Childless, puts, kids, outside, insert_sorted, insert_puts, remove_sorted, remove_puts, remove_other}
use Rattle.theorems.specs.Waiting.{childless-of, no_kids, kids-none, no_children, some-children, some-kids, none-wait, all_there, there-all, move-puts}
use Rattle.theorems.specs.Forward.{Configuration, configuration_of, entry_of, step_of, Well, begin-test, standing-exit, few-labels, same-configuration}

pub entry-from : (m : List ℕ) (e : Entry) → IsFrom e → entry_place m e ≡ made (place (from_label e) run)
unfolding entry_place
entry-from m (Entry.From l) h = refl
entry-from m (Entry.Either l k e) h = absurd h
entry-from m (Entry.Begin l) h = absurd h

module _ (program : List Block) (S : Sound program) where
  abbrev pub behind : Configuration → ℕ → Option (Taken × Configuration)
  behind s p = backward (real program S) s p

  abbrev backs : Option Place → (ℕ → Option Place) → List ℕ → Option (Outcome Place (List ℕ))
  backs = back (real program S)

  abbrev leaves : ℕ → Place → (ℕ → Option Place) → List ℕ → Outcome Place (List ℕ)
  leaves = result (real program S)

  fires : (s : Configuration) (p : ℕ) (o : Outcome Place (List ℕ)) (k : Kept) (s' : Configuration) →
      backs (s.rows p) (kids s.rows p) s.memory ≡ some o → entry p o ≡ entry_of k → done s p o ≡ s' → behind s p ≡ some (entry_of k, s')
  fires s p o k s' h e d = fire backs s p o h ∙ (λ i. some (e i, d i))

  pub record Unstepped (m : Machine) (p : ℕ) (m' : Machine) : Type 0 where
    pub block : ℕ
    pub moves : behind (configuration_of m) p ≡ some (entry_of (step_of p block), configuration_of m')
    pub closed : m'.history ≡ close_up m.history p
    pub ordered : Sorted m'.rows

  module _ (m : Machine) (p : ℕ) (here : Place) (live : standing m.rows p ≡ some here) (sorted : Sorted m.rows)
      (tree : Tree (standing m.rows)) (well : Well program S (standing m.rows)) where
    abbrev R : ℕ → Option Place
    R = standing m.rows

    valid : Standing program here
    valid = well.places p here live

    at_row : (o : Outcome Place (List ℕ)) → backs (some here) (kids R p) m.memory ≡ some o → backs (R p) (kids R p) m.memory ≡ some o
    at_row o h = ap (λ ρ. backs ρ (kids R p) m.memory) live ∙ h

    -- a leaf's step undone
    leaf-unstepped : here.stage ≢ begin → Childless R p → calls program (exit_block program here) ≡ false → (m' : Machine) →
        undo_leaf m p (leaf_undo m.memory here (block_of program (exit_block program here))) ≡ made m' → Unstepped m p m'
    unfolding undo_leaf
    leaf-unstepped n free plain m' h =
        let b = exit_block program here in
        let x = after-made (leaf_undo m.memory here (block_of program b)) _ m' h in
        let s = x.0 in
        let is : Path Machine (record { memory = s.memory; rows = move_row m.rows p s.stands; history = close_up m.history p }) m' =
        made-inj _ m' x.2 in
        let lf = made-unleaf program S here b m.memory s (standing-exit program S here valid n) x.1 in
        let f =
        unleaf-back (real program S) here s.stands b (kids R p) m.memory s.memory (some-exit program S here b n refl)
        (no_kids R p free) plain lf in
        subst (Unstepped m p) is
        (record {
          block = b;
          moves = fires (configuration_of m) p (leaves b s.stands (kids R p) s.memory) (step_of p b) _ (at_row _ f) refl
              (same-configuration (puts R p (some s.stands) (kids R p)) (standing (move_row m.rows p s.stands)) s.memory s.memory
              (λ y. sym (move-puts m.rows p here s.stands live y)) refl);
          closed = refl;
          ordered = move-sorted m.rows p s.stands sorted;
        }
        )

    -- a merge undone: the machine with the children's rows back
    abbrev pub unmerged : Machine
    unmerged =
        record {
          memory = m.memory;
          rows = insert_rows m.rows p (child_rows p end 1 (called program (exit_block program here)));
          history = close_up
              m.history p;
        }

    pub merge-moves : here.stage ≢ begin → Childless R p → calls program (exit_block program here) ≡ true → Unstepped m p unmerged
    merge-moves n free c =
        let b = exit_block program here in
        let few = few-labels program S b c in
        let f = unmerge_back (real program S) here b (kids R p) m.memory (some-exit program S here b n refl) (no_kids R p free) c in
        let K : ℕ → Option Place = λ i. onto (λ l. place l end) (nth (called program b) i) in
        record {
          block = b;
          moves = fires (configuration_of m) p (leaves b here K m.memory) (step_of p b) _ (at_row _ f) refl
              (same-configuration (puts R p (some here) K) (standing (insert_rows m.rows p (child_rows p end 1 (called program b)))) m.memory
              m.memory
              (λ y. sym (insert_puts m.rows p end (called program b) here live free few y)) refl);
          closed = refl;
          ordered = insert_sorted m.rows p end (called program b) sorted tree free few;
        }

    merge-unstepped :
        here.stage ≢ begin → Childless R p → calls program (exit_block program here) ≡ true → (m' : Machine) →
        undo_merge program m p (exit_block program here) ≡ made m' → Unstepped m p m'
    unfolding undo_merge
    merge-unstepped n free c m' h =
        let w = made-pick (crowded m (called program (exit_block program here))) _ 28 m' h in
        subst (Unstepped m p) (made-inj unmerged m' w.1) (merge-moves n free c)

    -- what a process with children stands at
    pub at_call : has_kids (real program S) (kids R p) ≡ true → (calls program (exit_block program here) ≡ true) × (here.stage ≢ begin)
    at_call has =
        let F = well.family p has in
        let at : here ≡ out_of program F.b = some_inj here (out_of program F.b) (sym live ∙ F.at_out) in
        let k : exit_block program (out_of program F.b) ≡ F.b =
        (exit-some program S (out_of program F.b) F.b ((real program S).out_exit F.b F.called)).1 in
        let e : exit_block program here ≡ F.b = ap (exit_block program) at ∙ k in
        (ap (calls program) e ∙ F.called, (λ q. let z : ◌≡◌ {A = ℕ} 1 0 = sym (ap (λ (a : Place). a.stage) at) ∙ q in omega (arith, z)))

    -- a fork undone
    fork-unstepped :
        has_kids (real program S) (kids R p) ≡ true → waits m p begin ≡ false → (m' : Machine) →
        undo_fork program m p (exit_block program here) ≡ made m' → Unstepped m p m'
    unfolding undo_fork
    fork-unstepped has ready m' h =
        let b = exit_block program here in
        let c = at_call has in
        let into = into_of program b in
        let x = after-made (entry_place m.memory (block_of program b).entry) _ m' h in
        let e : x.0 ≡ into =
        sym (made-inj into x.0
        (sym (entry-from m.memory (block_of program b).entry ((S.fit b (call-in_image program S b c.0)).from c.0)) ∙ x.1)) in
        let M : List Process = remove_rows m.rows p in
        let is : Path Machine (record { memory = m.memory; rows = move_row M p x.0; history = close_up m.history p }) m' =
        made-inj _ m' x.2 in
        let is' : Path Machine (record { memory = m.memory; rows = move_row M p into; history = close_up m.history p }) m' =
        (λ i. record { memory = m.memory; rows = move_row M p (sym e i); history = close_up m.history p }) ∙ is in
        let f = unfork-back (real program S) here b (kids R p) m.memory (some-exit program S here b c.1 refl) has
        (all_there m p begin (at_begin (real program S)) (begin-test program S) ready) in
        subst (Unstepped m p) is'
        (record {
          block = b;
          moves = fires (configuration_of m) p (leaves b into (λ i. none) m.memory) (step_of p b) _ (at_row _ f) refl
              (same-configuration (puts R p (some into) (λ i. none)) (standing (move_row M p into)) m.memory m.memory
              (λ y. sym (gone into y)) refl);
          closed = refl;
          ordered = move-sorted M p into (remove_sorted m.rows p sorted);
        }
        )
      where
        gone : (q : Place) (y : ℕ) → standing (move_row (remove_rows m.rows p) p q) y ≡ puts R p (some q) (λ i. none) y
        gone q y = at y (ℕ_discrete y p)
          where
            at : (y : ℕ) → Dec (y ≡ p) → standing (move_row (remove_rows m.rows p) p q) y ≡ puts R p (some q) (λ i. none) y
            at y (yes d) =
                subst (λ (z : ℕ). standing (move_row (remove_rows m.rows p) p q) z ≡ puts R p (some q) (λ i. none) z) (sym d)
                (move-self (remove_rows m.rows p) p q here (remove_other m.rows p p tree (not_true (is_kid p p) (kid-self p)) ∙ live) ∙ sym
                (put_self R p (some q) (λ i. none)))
            at y (no d) =
                move-other (remove_rows m.rows p) p q y d ∙ remove_puts m.rows p here live tree y ∙ same (bool_cases (is_kid p y))
              where
                same : (is_kid p y ≡ true) ⊎ (is_kid p y ≡ false) → puts R p (some here) (λ i. none) y ≡ puts R p (some q) (λ i. none) y
                same (inl k) = put-kid R p (some here) (λ i. none) y k ∙ sym (put-kid R p (some q) (λ i. none) y k)
                same (inr k) = let o = outside p y d k in put-outside R p (some here) (λ i. none) y o ∙ sym (put-outside R p (some q) (λ i. none) y o)

    pub unstepped : (m' : Machine) → Step.undo program m p here ≡ made m' → Unstepped m p m' × (holds program m.history p ≡ false)
    unfolding Step.undo undo_childless
    unstepped m' h =
        let t₁ = made-pick (eqb here.stage begin) _ 21 m' h in
        let n : here.stage ≢ begin = eqb-false here.stage begin t₁.0 in
        let t₂ = made-pick (waits m p begin) _ 20 m' t₁.1 in
        let t₃ = made-pick (holds program m.history p) _ 27 m' t₂.1 in
        (go n t₂.0 (eqb (length (children m.rows p)) 0) refl t₃.1, t₃.0)
      where
        leafy : (here.stage ≢ begin) → Childless R p → (t : Bool) → calls program (exit_block program here) ≡ t →
            pick t (undo_merge program m p (exit_block program here))
            (undo_leaf m p (leaf_undo m.memory here (block_of program (exit_block program here)))) ≡ made m' → Unstepped m p m'
        leafy n free true c g = merge-unstepped n free c m' (sym (pick_true true _ _ refl) ∙ g)
        leafy n free false c g = leaf-unstepped n free c m' (sym (pick-false false _ _ refl) ∙ g)

        go : (here.stage ≢ begin) → waits m p begin ≡ false → (t : Bool) → eqb (length (children m.rows p)) 0 ≡ t →
            pick t (undo_childless program m p here (exit_block program here)) (undo_fork program m p (exit_block program here)) ≡ made m' →
            Unstepped m p m'
        go n ready true e g = leafy n (childless-of m.rows p e) (calls program (exit_block program here)) refl (sym (pick_true true _ _ refl) ∙ g)
        go n ready false e g = fork-unstepped (some-children m.rows p sorted tree e) ready m' (sym (pick-false false _ _ refl) ∙ g)

    -- ---- the other way
    -- room for the children that an undone merge brings back
    abbrev pub Room : Type 0
    Room = calls program (exit_block program here) ≡ true → length m.rows + length (called program (exit_block program here)) ≤ most_rows

    undone : (s : Moved) (t : Tried Moved) → t ≡ made s → (m' : Machine) × (undo_leaf m p t ≡ made m')
    unfolding undo_leaf
    undone s t e = (record { memory = s.memory; rows = move_row m.rows p s.stands; history = close_up m.history p }, made_after t _ s e)

    merged : (b : ℕ) → length m.rows + length (called program b) ≤ most_rows → (m' : Machine) × (undo_merge program m p b ≡ made m')
    unfolding undo_merge crowded
    merged b h = (
      record { memory = m.memory; rows = insert_rows m.rows p (child_rows p end 1 (called program b)); history = close_up m.history p },
      pick-false (ltb most_rows (length m.rows + length (called program b))) (refused 28) _
          (le-ltb most_rows (length m.rows + length (called program b)) h),
    )

    unforked : (b : ℕ) → calls program b ≡ true → (m' : Machine) × (undo_fork program m p b ≡ made m')
    unfolding undo_fork
    unforked b c = (
      record { memory = m.memory; rows = move_row (remove_rows m.rows p) p (into_of program b); history = close_up m.history p },
      made_after (entry_place m.memory (block_of program b).entry) _ (into_of program b)
          (entry-from m.memory (block_of program b).entry ((S.fit b (call-in_image program S b c)).from c)),
    )

    pub goes_back :
        (e : Taken) (s' : Configuration) → behind (configuration_of m) p ≡ some (e, s') → holds program m.history p ≡ false →
        (here.stage ≢ begin → Childless R p → Room) → (m' : Machine) × (Step.undo program m p here ≡ made m')
    unfolding Step.undo undo_childless
    goes_back e s' h free room =
        let x = fired backs (configuration_of m) p e s' h in
        shape x.out (back-shape (real program S) (R p) (kids R p) m.memory x.out x.at)
      where
        passes :
            {t₁ t₂ t₃ : Bool} → (r : Tried Machine) → t₁ ≡ false → t₂ ≡ false → t₃ ≡ false →
            pick t₁ (refused 21) (pick t₂ (refused 20) (pick t₃ (refused 27) r)) ≡ r
        passes {t₁} {t₂} {t₃} r a b c =
            pick-false t₁ (refused 21) (pick t₂ (refused 20) (pick t₃ (refused 27) r)) a ∙ pick-false t₂ (refused 20) (pick t₃ (refused 27) r) b
            ∙ pick-false t₃ (refused 27) r c

        there : (a : Place) (b : ℕ) → R p ≡ some a → exit_at program a ≡ some b → (here.stage ≢ begin) × (exit_block program here ≡ b)
        there a b r q = exit-some program S here b (subst (λ (z : Place). exit_at program z ≡ some b) (some_inj a here (sym r ∙ live)) q)

        leafed :
            (a a' : Place) (b : ℕ) (n : List ℕ) → R p ≡ some a → exit_at program a ≡ some b → Childless R p → calls program b ≡ false →
            unleaf_of program b a m.memory ≡ some (a', n) →
            (m' : Machine) × (Step.undo program m p here ≡ made m')
        leafed a a' b n r q alone c u =
            let t = there a b r q in
            let at : a ≡ here = some_inj a here (sym r ∙ live) in
            let d = (unleaf-made program S a a' b m.memory n u).1 in
            let d₁ = subst (λ (z : Place). leaf_undo m.memory z (block_of program b) ≡ made (record { stands = a'; memory = n })) at d in
            let d₂ : leaf_undo m.memory here (block_of program (exit_block program here)) ≡ made (record { stands = a'; memory = n }) =
            ap (λ (k : ℕ). leaf_undo m.memory here (block_of program k)) t.1 ∙ d₁ in
            let z = no_children m.rows p sorted tree alone in
            let y = undone (record { stands = a'; memory = n }) (leaf_undo m.memory here (block_of program (exit_block program here))) d₂ in (
              y.0,
              passes _ (eqb-other here.stage begin t.0) (none-wait m p begin z) free
                  ∙ pick_true (eqb (length (children m.rows p)) 0) _ _ z
                  ∙ pick-false (is_call (block_of program (exit_block program here)).instruction) _ _ (ap (calls program) t.1 ∙ c)
                  ∙ y.1,
            )

        shape :
            (o : Outcome Place (List ℕ)) → Backward (real program S) (R p) (kids R p) m.memory o →
            (m' : Machine) × (Step.undo program m p here ≡ made m')
        shape o (inl L) = leafed L.a L.a' L.b L.m' L.row_is L.exit_is (kids-none R p L.childless) L.plain L.acts
        shape o (inr (inl U)) =
            let t = there U.a U.b U.row_is U.exit_is in
            let alone = kids-none R p U.childless in
            let z = no_children m.rows p sorted tree alone in
            let c : calls program (exit_block program here) ≡ true = ap (calls program) t.1 ∙ U.called in
            let y = merged (exit_block program here) (room t.0 alone c) in (
              y.0,
              passes _ (eqb-other here.stage begin t.0) (none-wait m p begin z) free
                  ∙ pick_true (eqb (length (children m.rows p)) 0) _ _ z
                  ∙ pick_true (is_call (block_of program (exit_block program here)).instruction) _ _ c
                  ∙ y.1,
            )
        shape o (inr (inr F)) =
            let t = there F.a F.b F.row_is F.exit_is in
            let y = unforked (exit_block program here) (at_call F.childed).0 in (
              y.0,
              passes _ (eqb-other here.stage begin t.0)
                  (there-all m p begin (at_begin (real program S)) (begin-test program S) sorted tree F.begun) free
                  ∙ pick-false (eqb (length (children m.rows p)) 0) _ _ (some-kids m.rows p F.childed)
                  ∙ y.1,
            )
