-- What a plan makes, by place, is what rules' step makes, by identifier, on rows that ascend. Assumes nothing.
use mathlib.Core.Path.{◌≡◌, refl, sym, ap, ap₂, ◌∙◌}
use mathlib.Core.Bool.{Bool, true, false, not, ◌&&◌}
use mathlib.Core.List.{List, [], ◌∷◌}
use Prim.Native.Nat.{ℕ, zero, suc, ◌/◌, ◌<◌}
use native.Mathlib.Omega.{arith}
use lib.ListN.{length, take, drop}
use lib.Dec.{eqb, ltb, leb}
use borrow.Author.Tests.{ne_eqb, eqb-true}
use Rattle.rules.specs.Base.{pick, each_of, those}
use Rattle.rules.specs.Format.{named}
use Rattle.rules.specs.Machine.{Process, Kept, Machine, place, begin, end, child, is_child_of, children}
use Rattle.rules.specs.Fits.{ascending}
use Rattle.rules.specs.Leaf.{made, after}
use Rattle.rules.specs.Step.{move_row, insert_rows, remove_rows, child_rows, keep, close_up, merge, leaf_step, undo_leaf}
use Rattle.rules.specs.declared.Names.{Names}
use Rattle.rules.specs.declared.Place.{Place}
use Rattle.evaluate.specs.Shown.{written}
use Rattle.evaluate.specs.declared.Writes.{Writes}
use Rattle.laws.proofs.Tests.{true_false}
use Rattle.machine.specs.Index.{kept, without, row_at, moved, inserted, removed}
use Rattle.step.specs.Planned.{written_in, identifier_at, planned, leaf_made, fork_made, merge_made, undo_leaf_made, undo_fork_made, undo_merge_made}
use Rattle.step.specs.History.{NewestAt}
use Rattle.step.specs.declared.plan.Plan.{Plan}
use Rattle.step.proofs.ByIdentifier.{Parted, moved_by, inserted_by, removed-by, closed-by}

abbrev machine : List ℕ → List Process → List Kept → Machine
machine memory rows history = record { memory = memory; rows = rows; history = history }

-- identifiers stay where a row is moved
pub parted-moved : (rows : List Process) (c i j l s : ℕ) → Parted rows c i → Parted (row_at rows j l s) c i
unfolding row_at each_of
parted-moved rows c i j l s h =
    record { below = before rows i j ∙ h.below; above = behind rows i j ∙ h.above }
  where
    all : (rows : List Process) (j : ℕ) → each_of (λ r. leb c r.identifier) (row_at rows j l s) ≡ each_of (λ r. leb c r.identifier) rows
    all [] j = refl
    all (r ∷ rows) zero = refl
    all (r ∷ rows) (suc j) = ap (λ (b : Bool). leb c r.identifier && b) (all rows j)

    before : (rows : List Process) (i j : ℕ) → each_of (λ r. ltb r.identifier c) (take i (row_at rows j l s)) ≡ each_of (λ r. ltb r.identifier c) (take i rows)
    before rows zero j = refl
    before [] (suc i) j = refl
    before (r ∷ rows) (suc i) zero = refl
    before (r ∷ rows) (suc i) (suc j) = ap (λ (b : Bool). ltb r.identifier c && b) (before rows i j)

    behind : (rows : List Process) (i j : ℕ) → each_of (λ r. leb c r.identifier) (drop i (row_at rows j l s)) ≡ each_of (λ r. leb c r.identifier) (drop i rows)
    behind rows zero j = all rows j
    behind [] (suc i) j = refl
    behind (r ∷ rows) (suc i) zero = refl
    behind (r ∷ rows) (suc i) (suc j) = behind rows i j

-- a process is no child of its own: its row stays where its children's are taken out
own-child : (p : ℕ) → is_child_of p p ≡ false
own-child zero = refl
own-child (suc n) = rw (ne_eqb (suc n / 16) (suc n) (λ e. omega arith)) (both (not (eqb (suc n) 0)))
  where
    both : (b : Bool) → (b && false) ≡ false
    both true = refl
    both false = refl

move-removed : (rows : List Process) (p : ℕ) (q : Place) → remove_rows (move_row rows p q) p ≡ move_row (remove_rows rows p) p q
unfolding remove_rows move_row those pick
move-removed [] p q = refl
move-removed (r ∷ rows) p q = go (eqb r.identifier p) refl (is_child_of p r.identifier) refl (move-removed rows p q)
  where
    R : List Process
    R = those (λ x. not (is_child_of p x.identifier)) rows

    L : List Process
    L = those (λ x. not (is_child_of p x.identifier)) (move_row rows p q)

    at : Process
    at = record { identifier = p; stands = q }

    go : (b : Bool) → eqb r.identifier p ≡ b → (k : Bool) → is_child_of p r.identifier ≡ k → L ≡ move_row R p q
        → pick (not (is_child_of p (pick b at r).identifier)) (pick b at r ∷ L) L ≡ move_row (pick (not k) (r ∷ R) R) p q
    go true e true f ih = absurd (true_false (sym (ap (λ (x : ℕ). is_child_of p x) (eqb-true r.identifier p e)) ∙ f) (own-child p))
    go true e false f ih = rw (own-child p, e) (ap (λ (l : List Process). at ∷ l) ih)
    go false e true f ih = rw f ih
    go false e false f ih = rw (f, e) (ap (λ (l : List Process). r ∷ l) ih)

-- tests of identifiers, where a row is moved
same-each : (t : ℕ → Bool) (rows : List Process) (i j l s : ℕ)
    → each_of (λ r. t r.identifier) (take i (row_at rows j l s)) ≡ each_of (λ r. t r.identifier) (take i rows)
unfolding row_at each_of
same-each t rows zero j l s = refl
same-each t [] (suc i) j l s = refl
same-each t (r ∷ rows) (suc i) zero l s = refl
same-each t (r ∷ rows) (suc i) (suc j) l s = ap (λ (b : Bool). t r.identifier && b) (same-each t rows i j l s)

same-many : (t : ℕ → Bool) (rows : List Process) (j l s : ℕ)
    → length (those (λ r. t r.identifier) (row_at rows j l s)) ≡ length (those (λ r. t r.identifier) rows)
unfolding row_at those pick
same-many t [] j l s = refl
same-many t (r ∷ rows) zero l s = go (t r.identifier)
  where
    rest : List Process
    rest = those (λ r. t r.identifier) rows

    go : (b : Bool) → length (pick b (record { identifier = r.identifier; stands = place l s } ∷ rest) rest)
        ≡ length (pick b (r ∷ those (λ r. t r.identifier) rows) (those (λ r. t r.identifier) rows))
    go true = refl
    go false = refl
same-many t (r ∷ rows) (suc j) l s = go (t r.identifier) (same-many t rows j l s)
  where
    go : (b : Bool) → length (those (λ r. t r.identifier) (row_at rows j l s)) ≡ length (those (λ r. t r.identifier) rows)
        → length (pick b (r ∷ those (λ r. t r.identifier) (row_at rows j l s)) (those (λ r. t r.identifier) (row_at rows j l s)))
        ≡ length (pick b (r ∷ those (λ r. t r.identifier) rows) (those (λ r. t r.identifier) rows))
    go true ih = ap suc ih
    go false ih = ih

same-order : (rows : List Process) (j l s : ℕ) → ascending (row_at rows j l s) ≡ ascending rows
unfolding row_at ascending
same-order [] j l s = refl
same-order (r ∷ []) zero l s = refl
same-order (r ∷ []) (suc j) l s = refl
same-order (r ∷ q ∷ rows) zero l s = refl
same-order (r ∷ q ∷ rows) (suc zero) l s = ap (λ (b : Bool). ltb r.identifier q.identifier && b) (same-order (q ∷ rows) zero l s)
same-order (r ∷ q ∷ rows) (suc (suc j)) l s = ap (λ (b : Bool). ltb r.identifier q.identifier && b) (same-order (q ∷ rows) (suc j) l s)

module _ (m : Machine) (row : ℕ) (a : ascending m.rows ≡ true) (h : row < length m.rows) where
  pub leaf-is : (q : Place) (writes : Writes) (block : ℕ)
      → made (planned (Plan.Leaf row q writes block) m)
      ≡ leaf_step m (identifier_at m row) block (made (record { stands = q; memory = written writes m.memory }))
  unfolding planned leaf_made leaf_step after kept moved written_in keep
  leaf-is q writes block =
      ap (λ (r : List Process). made (machine (written writes m.memory) r (keep m.history (identifier_at m row) block)))
      (moved_by m.rows row q.label q.stage a h)

  pub undo-leaf_is : (q : Place) (writes : Writes) (entry : ℕ) → NewestAt m.history (identifier_at m row) entry
      → made (planned (Plan.UndoLeaf row q writes entry) m)
      ≡ undo_leaf m (identifier_at m row) (made (record { stands = q; memory = written writes m.memory }))
  unfolding planned undo_leaf_made undo_leaf after without moved written_in
  undo-leaf_is q writes entry n =
      ap₂ (λ (r : List Process) (k : List Kept). made (machine (written writes m.memory) r k))
      (moved_by m.rows row q.label q.stage a h)
      (closed-by m.history (identifier_at m row) entry n.there n.own n.last)

  pub fork-is : (q : Place) (names : Names) (block first : ℕ) → Parted m.rows (child (identifier_at m row) 1) first
      → made (planned (Plan.Fork row q names block first) m)
      ≡ made (machine m.memory
      (insert_rows (move_row m.rows (identifier_at m row) q) (identifier_at m row) (child_rows (identifier_at m row) begin 1 (named names)))
      (keep m.history (identifier_at m row) block))
  unfolding planned fork_made kept inserted moved keep
  fork-is q names block first s =
      let p : ℕ = identifier_at m row in
      let new : List Process = child_rows p begin 1 (named names) in
      ap (λ (r : List Process). made (machine m.memory r (keep m.history p block)))
      (inserted_by (row_at m.rows row q.label q.stage) p first new (parted-moved m.rows (child p 1) first row q.label q.stage s)
      ∙ ap (λ (r : List Process). insert_rows r p new) (moved_by m.rows row q.label q.stage a h))

  pub merge-is : (block first count : ℕ) → Parted m.rows (child (identifier_at m row) 1) first
      → each_of (λ r. not (is_child_of (identifier_at m row) r.identifier)) (take first m.rows) ≡ true
      → count ≡ length (children m.rows (identifier_at m row))
      → made (planned (Plan.Merge row block first count) m) ≡ merge m (identifier_at m row) block
  unfolding planned merge_made kept removed merge keep
  merge-is block first count s n e =
      ap (λ (r : List Process). made (machine m.memory r (keep m.history (identifier_at m row) block)))
      (removed-by m.rows (identifier_at m row) first count a s n e)

  pub undo-merge_is : (names : Names) (first entry : ℕ) → Parted m.rows (child (identifier_at m row) 1) first
      → NewestAt m.history (identifier_at m row) entry
      → made (planned (Plan.UndoMerge row names first entry) m)
      ≡ made (machine m.memory (insert_rows m.rows (identifier_at m row) (child_rows (identifier_at m row) end 1 (named names)))
      (close_up m.history (identifier_at m row)))
  unfolding planned undo_merge_made without inserted
  undo-merge_is names first entry s n =
      let p : ℕ = identifier_at m row in
      ap₂ (λ (r : List Process) (k : List Kept). made (machine m.memory r k))
      (inserted_by m.rows p first (child_rows p end 1 (named names)) s)
      (closed-by m.history p entry n.there n.own n.last)

  pub undo-fork_is : (q : Place) (first count entry : ℕ) → Parted m.rows (child (identifier_at m row) 1) first
      → each_of (λ r. not (is_child_of (identifier_at m row) r.identifier)) (take first m.rows) ≡ true
      → count ≡ length (children m.rows (identifier_at m row)) → NewestAt m.history (identifier_at m row) entry
      → made (planned (Plan.UndoFork row q first count entry) m)
      ≡ made (machine m.memory (move_row (remove_rows m.rows (identifier_at m row)) (identifier_at m row) q) (close_up m.history (identifier_at m row)))
  unfolding planned undo_fork_made without removed moved children
  undo-fork_is q first count entry s n e k =
      let p : ℕ = identifier_at m row in
      let R : List Process = row_at m.rows row q.label q.stage in
      ap₂ (λ (r : List Process) (x : List Kept). made (machine m.memory r x))
      (removed-by R p first count (same-order m.rows row q.label q.stage ∙ a)
      (parted-moved m.rows (child p 1) first row q.label q.stage s)
      (same-each (λ x. not (is_child_of p x)) m.rows first row q.label q.stage ∙ n)
      (e ∙ sym (same-many (λ x. is_child_of p x) m.rows row q.label q.stage))
      ∙ ap (λ (r : List Process). remove_rows r p) (moved_by m.rows row q.label q.stage a h)
      ∙ move-removed m.rows p q)
      (closed-by m.history p entry k.there k.own k.last)
