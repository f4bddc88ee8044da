-- After an accepted step there are still at most 64 rows and at most 4,096 history entries. Assumes that there were.
use Rattle.std.specs.Prelude.{◌≡◌, refl, Bool, true, false, not, ◌&&◌, List, [], ◌∷◌, length, eqb, leb, ltb}
use Rattle.std.proofs.Common.{sym, ap, ◌∙◌, arith, length-append, leb-false, ltb-false}
use Prim.Native.Nat.{ℕ, suc, ◌+◌, ◌≤◌}
use Rattle.rules.specs.Base.{pick, some_of, those}
use Rattle.rules.specs.Read.{is_call}
use Rattle.rules.specs.Labels.{block_of, called}
use Rattle.rules.specs.Calls.{most_rows}
use Rattle.rules.specs.Machine.{Process, Kept, Machine, begin, end, children, is_child_of, most_kept}
use Rattle.rules.specs.Fits.{entry_block, exit_block}
use Rattle.rules.specs.Cause.{holds}
use Rattle.rules.specs.Leaf.{made, leaf_forward, leaf_undo, entry_place, exit_place}
use Rattle.rules.specs.Step.{move_row, child_rows, remove_rows, keep, close_up, waits, crowded, fork, merge, leaf_step, forward_childless, forward, undo_fork, undo_merge, undo_leaf, undo_childless, undo}
use Rattle.rules.specs.declared.Block.{Block}
use Rattle.rules.specs.declared.Place.{Place}
use Rattle.laws.proofs.Lists.{pick_true, pick-false}
use Rattle.theorems.specs.Evaluate.{made-inj, made-pick, after-made}
use Rattle.theorems.specs.Tables.{move-length}
use Rattle.theorems.specs.Children.{insert_length, child-length}

those-length : {A : Type 0} (g : A → Bool) (l : List A) → length (those g l) ≤ length l
unfolding those
those-length g [] = omega arith
those-length g (a ∷ l) = go (g a) (those-length g l)
  where
    go : (t : Bool) → length (those g l) ≤ length l → length (pick t (a ∷ those g l) (those g l)) ≤ length (a ∷ l)
    go true ih = let e = ap length (pick_true true (a ∷ those g l) (those g l) refl) in omega (arith, e, ih)
    go false ih = let e = ap length (pick-false false (a ∷ those g l) (those g l) refl) in omega (arith, e, ih)

remove_length : (rows : List Process) (p : ℕ) → length (remove_rows rows p) ≤ length rows
unfolding remove_rows
remove_length rows p = those-length (λ r. not (is_child_of p r.identifier)) rows

keep-length : (h : List Kept) (p b : ℕ) → length (keep h p b) ≡ length h + 1
unfolding keep
keep-length h p b = length-append h (record { identifier = p; block = b } ∷ [])

close_length : (h : List Kept) (p : ℕ) → length (close_up h p) ≤ length h
unfolding close_up
close_length [] p = omega arith
close_length (k ∷ h) p = go (eqb k.identifier p && not (some_of (λ j. eqb j.identifier p) h)) (close_length h p)
  where
    go : (t : Bool) → length (close_up h p) ≤ length h → length (pick t h (k ∷ close_up h p)) ≤ length (k ∷ h)
    go true ih = let e = ap length (pick_true true h (k ∷ close_up h p) refl) in omega (arith, e)
    go false ih = let e = ap length (pick-false false h (k ∷ close_up h p) refl) in omega (arith, e, ih)

pub record Within (m : Machine) : Type 0 where
  pub rows : length m.rows ≤ most_rows
  pub history : length m.history ≤ most_kept

-- what was made has the sizes that are known of it
within : (k m : Machine) (n h : ℕ) → k ≡ m → length k.rows ≤ n → length k.history ≤ h → n ≤ most_rows → h ≤ most_kept → Within m
within k m n h e a b c d =
    let r = ap (λ (z : Machine). length z.rows) e in
    let t = ap (λ (z : Machine). length z.history) e in
    record { rows = omega (arith, r, a, c); history = omega (arith, t, b, d) }

module _ (program : List Block) (m : Machine) (p : ℕ) (here : Place) (few : Within m) (m' : Machine) where
  pub forward-within : forward program m p here ≡ made m' → Within m'
  unfolding forward forward_childless fork leaf_step merge crowded
  forward-within h =
      let t₁ = made-pick (eqb here.stage end) _ 21 m' h in
      let t₂ = made-pick (waits m p end) _ 20 m' t₁.1 in
      let t₃ = made-pick (leb most_kept (length m.history)) _ 26 m' t₂.1 in
      childed (leb-false most_kept (length m.history) t₃.0) (eqb (length (children m.rows p)) 0) t₃.1
    where
      b : ℕ
      b = entry_block program here

      kept : suc (length m.history) ≤ most_kept → (c : ℕ) → length (keep m.history p c) ≤ most_kept
      kept lt c = let e = keep-length m.history p c in omega (arith, e, lt)

      childless : suc (length m.history) ≤ most_kept → (t : Bool) →
          pick t (fork program m p b) (leaf_step m p b (leaf_forward m.memory here (block_of program b))) ≡ made m' → Within m'
      childless lt true g =
          let w = made-pick (ltb most_rows (length m.rows + length (called program b))) _ 28 m' (sym (pick_true true _ _ refl) ∙ g) in
          let x = after-made (exit_place m.memory (block_of program b).exit) _ m' w.1 in
          let room = ltb-false most_rows (length m.rows + length (called program b)) w.0 in
          let M = move_row m.rows p x.0 in
          let N = child_rows p begin 1 (called program b) in
          let e₁ = insert_length M p N in
          let e₂ = move-length m.rows p x.0 in
          let e₃ = child-length p begin 1 (called program b) in
          within _ m' (length m.rows + length (called program b)) most_kept (made-inj _ m' x.2) (omega (arith, e₁, e₂, e₃)) (kept lt b) room
          (omega arith)
      childless lt false g =
          let x = after-made (leaf_forward m.memory here (block_of program b)) _ m' (sym (pick-false false _ _ refl) ∙ g) in
          let e = move-length m.rows p x.0.stands in
          within _ m' (length m.rows) most_kept (made-inj _ m' x.2) (omega (arith, e)) (kept lt b) few.rows (omega arith)

      childed : suc (length m.history) ≤ most_kept → (t : Bool) →
          pick t (forward_childless program m p here b) (merge m p (exit_block program here)) ≡ made m' → Within m'
      childed lt true g = childless lt (is_call (block_of program b).instruction) (sym (pick_true true _ _ refl) ∙ g)
      childed lt false g =
          within _ m' (length m.rows) most_kept (made-inj _ m' (sym (pick-false false _ _ refl) ∙ g)) (remove_length m.rows p)
          (kept lt (exit_block program here)) few.rows (omega arith)

  pub undo-within : undo program m p here ≡ made m' → Within m'
  unfolding undo undo_childless undo_fork undo_leaf undo_merge crowded
  undo-within h =
      let t₁ = made-pick (eqb here.stage begin) _ 21 m' h in
      let t₂ = made-pick (waits m p begin) _ 20 m' t₁.1 in
      let t₃ = made-pick (holds program m.history p) _ 27 m' t₂.1 in
      childed (eqb (length (children m.rows p)) 0) t₃.1
    where
      b : ℕ
      b = exit_block program here

      closed : length (close_up m.history p) ≤ length m.history
      closed = close_length m.history p

      childless : (t : Bool) → pick t (undo_merge program m p b) (undo_leaf m p (leaf_undo m.memory here (block_of program b))) ≡ made m' → Within m'
      childless true g =
          let w = made-pick (ltb most_rows (length m.rows + length (called program b))) _ 28 m' (sym (pick_true true _ _ refl) ∙ g) in
          let room = ltb-false most_rows (length m.rows + length (called program b)) w.0 in
          let e₁ = insert_length m.rows p (child_rows p end 1 (called program b)) in
          let e₂ = child-length p end 1 (called program b) in
          within _ m' (length m.rows + length (called program b)) (length m.history) (made-inj _ m' w.1) (omega (arith, e₁, e₂)) closed room
          few.history
      childless false g =
          let x = after-made (leaf_undo m.memory here (block_of program b)) _ m' (sym (pick-false false _ _ refl) ∙ g) in
          let e = move-length m.rows p x.0.stands in
          within _ m' (length m.rows) (length m.history) (made-inj _ m' x.2) (omega (arith, e)) closed few.rows few.history

      childed : (t : Bool) → pick t (undo_childless program m p here b) (undo_fork program m p b) ≡ made m' → Within m'
      childed true g = childless (is_call (block_of program b).instruction) (sym (pick_true true _ _ refl) ∙ g)
      childed false g =
          let x = after-made (entry_place m.memory (block_of program b).entry) _ m' (sym (pick-false false _ _ refl) ∙ g) in
          let e = move-length (remove_rows m.rows p) p x.0 in
          let r = remove_length m.rows p in
          within _ m' (length m.rows) (length m.history) (made-inj _ m' x.2) (omega (arith, e, r)) closed few.rows few.history
