-- The theorem `joined`: two nodes have one number in `groups` just where they are joined. It speaks of rules' definitions alone.
-- Assumes at most 128 blocks and labels below 256, as decoding makes them.
use Prim.Native.Nat.{ℕ, zero, suc, ◌+◌, ◌<◌, ◌≤◌}
use native.Mathlib.Nat.{add-zero, zero-add, add-suc, suc-add, not-suc-le-zero, le_of_suc-le-suc}
use native.Mathlib.Omega.{arith}
use mathlib.Core.Path.{◌≡◌, refl, sym, ap, subst, ◌∙◌}
use mathlib.Core.Bool.{Bool, true, false}
use mathlib.Core.Logic.{◌⊎◌, inl, inr, ⊎_elim, ◌↔◌}
use mathlib.Core.List.Memᴰ
use mathlib.Core.List.{List, [], ◌∷◌, Memᴰ}
use lib.ListN.{length, get_or}
use lib.Dec.{eqb}
use borrow.Author.Tests.{eq-eqb, eqb-true}
use Rattle.rules.specs.Base.{pick, up_from}
use Rattle.rules.specs.Format.{most_blocks, labels}
use Rattle.rules.specs.Labels.{block_of, label_node, entry_labels, exit_labels, ordinary_labels, Joined, same, holds, back, chain, renamed, join_nodes, join_labels, groups_from, groups}
use Rattle.rules.specs.declared.Block.{Block}
use Rattle.rules.specs.declared.Entry.{Entry}
use Rattle.rules.specs.declared.Exit.{Exit}
use Rattle.laws.specs.Fit.{EntryFit, ExitFit, BlockFit}
use Rattle.groups.specs.Nodes.{all_nodes}
use Rattle.groups.proofs.Grouping.{get_d_map, length-up_from, get_or-up_from, length-join, length-joins}

-- each ordinary label is one of the 256
abbrev pub Labelled : List Block → Type 0
Labelled program = (b l : ℕ) → b < length program → Memᴰ l (ordinary_labels (block_of program b)) → l < labels

-- as decoding makes them
entry-labels : (e : Entry) → EntryFit e → (l : ℕ) → Memᴰ l (entry_labels e) → l < labels
entry-labels (Entry.From k) h l m = subst (λ (x : ℕ). x < labels) (sym (Memᴰ.eq_of_singleton m)) h
entry-labels (Entry.Either k n e) h l m =
    ⊎_elim (λ q. subst (λ (x : ℕ). x < labels) (sym q) h.0) (λ t. subst (λ (x : ℕ). x < labels) (sym (Memᴰ.eq_of_singleton t)) h.1)
    (Memᴰ.cases_cons m)
entry-labels (Entry.Begin k) h l m = absurd (Memᴰ.not-nil m)

exit-labels : (e : Exit) → ExitFit e → (l : ℕ) → Memᴰ l (exit_labels e) → l < labels
exit-labels (Exit.To k) h l m = subst (λ (x : ℕ). x < labels) (sym (Memᴰ.eq_of_singleton m)) h
exit-labels (Exit.Either e k n) h l m =
    ⊎_elim (λ q. subst (λ (x : ℕ). x < labels) (sym q) h.0) (λ t. subst (λ (x : ℕ). x < labels) (sym (Memᴰ.eq_of_singleton t)) h.1)
    (Memᴰ.cases_cons m)
exit-labels (Exit.End k) h l m = absurd (Memᴰ.not-nil m)

pub labelled-fit : (program : List Block) → ((b : ℕ) → b < length program → BlockFit (block_of program b)) → Labelled program
labelled-fit program fit b l h m =
    ⊎_elim (entry-labels (block_of program b).entry (fit b h).entry l) (exit-labels (block_of program b).exit (fit b h).exit l)
    (Memᴰ.append_cases (entry_labels (block_of program b).entry) m)

-- ---- renaming one group
number : (g : List ℕ) (a b x : ℕ) → x < length g → get_or (join_nodes g a b) x 0 ≡ renamed (get_or g b 0) (get_or g a 0) (get_or g x 0)
unfolding join_nodes
number g a b x h = get_d_map _ g x 0 h

renamed-old : (old new : ℕ) → renamed old new old ≡ new
unfolding pick
renamed-old old new = rw (eq-eqb old old refl)

renamed-new : (old new : ℕ) → renamed old new new ≡ new
unfolding pick
renamed-new old new = go (eqb new old)
  where
    go : (t : Bool) → pick t new new ≡ new
    go true = refl
    go false = refl

-- equal after the renaming: equal before, or one of each of the two groups
split : (old new y z : ℕ) → renamed old new y ≡ renamed old new z → (y ≡ z) ⊎ (((y ≡ old) × (new ≡ z)) ⊎ ((y ≡ new) × (z ≡ old)))
unfolding pick
split old new y z e = go (eqb y old) (eqb z old) refl refl e
  where
    go : (s t : Bool) → eqb y old ≡ s → eqb z old ≡ t → pick s new y ≡ pick t new z → (y ≡ z) ⊎ (((y ≡ old) × (new ≡ z)) ⊎ ((y ≡ new) × (z ≡ old)))
    go true true p q h = inl (eqb-true y old p ∙ sym (eqb-true z old q))
    go true false p q h = inr (inl (eqb-true y old p, h))
    go false true p q h = inr (inr (h, eqb-true z old q))
    go false false p q h = inl h

-- ---- what is joined has one number
-- equal numbers stay equal
kept-join : (g : List ℕ) (a b x y : ℕ) → x < length g → y < length g → get_or g x 0 ≡ get_or g y 0 → get_or (join_nodes g a b) x 0 ≡ get_or (join_nodes g a b) y 0
kept-join g a b x y hx hy e = number g a b x hx ∙ ap (renamed (get_or g b 0) (get_or g a 0)) e ∙ sym (number g a b y hy)

kept-joins : (g : List ℕ) (b : ℕ) (l : List ℕ) (x y : ℕ) → x < length g → y < length g → get_or g x 0 ≡ get_or g y 0
    → get_or (join_labels g b l) x 0 ≡ get_or (join_labels g b l) y 0
unfolding join_labels
kept-joins g b [] x y hx hy e = e
kept-joins g b (k ∷ l) x y hx hy e =
    let s : length (join_nodes g b (label_node k)) ≡ length g = length-join g b (label_node k) in
    kept-joins (join_nodes g b (label_node k)) b l x y (omega arith) (omega arith) (kept-join g b (label_node k) x y hx hy e)

kept_from : (g : List ℕ) (b : ℕ) (p : List Block) (x y : ℕ) → x < length g → y < length g → get_or g x 0 ≡ get_or g y 0
    → get_or (groups_from g b p) x 0 ≡ get_or (groups_from g b p) y 0
unfolding groups_from
kept_from g b [] x y hx hy e = e
kept_from g b (k ∷ p) x y hx hy e =
    let s : length (join_labels g b (ordinary_labels k)) ≡ length g = length-joins g b (ordinary_labels k) in
    kept_from (join_labels g b (ordinary_labels k)) (suc b) p x y (omega arith) (omega arith) (kept-joins g b (ordinary_labels k) x y hx hy e)

-- a block and a label of its
met : (g : List ℕ) (b l : ℕ) → b < length g → label_node l < length g → get_or (join_nodes g b (label_node l)) b 0 ≡ get_or (join_nodes g b (label_node l)) (label_node l) 0
met g b l hb hl =
    number g b (label_node l) b hb ∙ renamed-new (get_or g (label_node l) 0) (get_or g b 0)
    ∙ sym (number g b (label_node l) (label_node l) hl ∙ renamed-old (get_or g (label_node l) 0) (get_or g b 0))

met-among : (g : List ℕ) (b l : ℕ) (ls : List ℕ) → b < length g → label_node l < length g → Memᴰ l ls
    → get_or (join_labels g b ls) b 0 ≡ get_or (join_labels g b ls) (label_node l) 0
unfolding join_labels
met-among g b l [] hb hl m = absurd (Memᴰ.not-nil m)
met-among g b l (k ∷ ls) hb hl m =
    let s : length (join_nodes g b (label_node k)) ≡ length g = length-join g b (label_node k) in
    ⊎_elim
    (λ e. subst (λ (x : ℕ). get_or (join_labels (join_nodes g b (label_node x)) b ls) b 0 ≡ get_or (join_labels (join_nodes g b (label_node x)) b ls) (label_node l) 0) e
    (kept-joins (join_nodes g b (label_node l)) b ls b (label_node l) (rw (length-join g b (label_node l)) hb) (rw (length-join g b (label_node l)) hl) (met g b l hb hl)))
    (λ t. met-among (join_nodes g b (label_node k)) b l ls (omega arith) (omega arith) t)
    (Memᴰ.cases_cons m)

met-from : (g : List ℕ) (i : ℕ) (p : List Block) (k l : ℕ) → length g ≡ all_nodes → i + length p ≤ most_blocks → k < length p → l < labels
    → Memᴰ l (ordinary_labels (block_of p k)) → get_or (groups_from g i p) (i + k) 0 ≡ get_or (groups_from g i p) (label_node l) 0
unfolding groups_from
met-from g i [] k l s h hk hl m = absurd (not-suc-le-zero hk)
met-from g i (b ∷ p) zero l s h hk hl m =
    let t : length (join_labels g i (ordinary_labels b)) ≡ length g = length-joins g i (ordinary_labels b) in
    rw (add-zero i)
    (kept_from (join_labels g i (ordinary_labels b)) (suc i) p i (label_node l) (omega arith) (omega arith)
    (met-among g i l (ordinary_labels b) (omega arith) (omega arith) m))
met-from g i (b ∷ p) (suc k) l s h hk hl m =
    rw (add-suc i k, ← suc-add i k)
    (met-from (join_labels g i (ordinary_labels b)) (suc i) p k l (length-joins g i (ordinary_labels b) ∙ s) (omega arith) (le_of_suc-le-suc hk) hl m)

module _ (program : List Block) (few : length program ≤ most_blocks) (labelled : Labelled program) where
  pub one_number : {a b : ℕ} → Joined program a b → get_or (groups program) a 0 ≡ get_or (groups program) b 0
  unfolding groups
  one_number (same a) = refl
  one_number (holds b l h m) =
      rw (← zero-add b) (met-from (up_from 0 all_nodes) 0 program b l (length-up_from 0 all_nodes) (omega arith) h (labelled b l h m) m)
  one_number (back j) = sym (one_number j)
  one_number (chain j k) = one_number j ∙ one_number k

  -- ---- what has one number is joined
  abbrev Good : List ℕ → Type 0
  Good g = (a b : ℕ) → a < all_nodes → b < all_nodes → get_or g a 0 ≡ get_or g b 0 → Joined program a b

  good-join : (g : List ℕ) (p q : ℕ) → length g ≡ all_nodes → p < all_nodes → q < all_nodes → Joined program p q → Good g → Good (join_nodes g p q)
  good-join g p q s hp hq j good a b ha hb e =
      ⊎_elim (λ h. good a b ha hb h)
      (⊎_elim (λ h. chain (good a q ha hq h.0) (chain (back j) (good p b hp hb h.1)))
      (λ h. chain (good a p ha hp h.0) (chain j (good q b hq hb (sym h.1)))))
      (split (get_or g q 0) (get_or g p 0) (get_or g a 0) (get_or g b 0) (sym (number g p q a (omega arith)) ∙ e ∙ number g p q b (omega arith)))

  good-joins : (g : List ℕ) (b : ℕ) (ls : List ℕ) → length g ≡ all_nodes → b < all_nodes → ((l : ℕ) → Memᴰ l ls → (l < labels) × Joined program b (label_node l))
      → Good g → Good (join_labels g b ls)
  unfolding join_labels
  good-joins g b [] s hb all good = good
  good-joins g b (l ∷ ls) s hb all good =
      let h : l < labels = (all l (Memᴰ.head refl)).0 in
      good-joins (join_nodes g b (label_node l)) b ls (length-join g b (label_node l) ∙ s) hb (λ k m. all k (Memᴰ.tail m))
      (good-join g b (label_node l) s hb (omega arith) (all l (Memᴰ.head refl)).1 good)

  good-from : (g : List ℕ) (i : ℕ) (p : List Block) → length g ≡ all_nodes → i + length p ≤ most_blocks
      → ((k l : ℕ) → k < length p → Memᴰ l (ordinary_labels (block_of p k)) → (l < labels) × Joined program (i + k) (label_node l))
      → Good g → Good (groups_from g i p)
  unfolding groups_from
  good-from g i [] s h all good = good
  good-from g i (b ∷ p) s h all good =
      good-from (join_labels g i (ordinary_labels b)) (suc i) p (length-joins g i (ordinary_labels b) ∙ s) (omega arith)
      (λ k l hk m. let r = all (suc k) l (omega arith) m in (r.0, subst (λ (x : ℕ). Joined program x (label_node l)) (add-suc i k ∙ sym (suc-add i k)) r.1))
      (good-joins g i (ordinary_labels b) s (omega arith)
      (λ l m. let r = all 0 l (omega arith) m in (r.0, subst (λ (x : ℕ). Joined program x (label_node l)) (add-zero i) r.1)) good)

  pub are-joined : (a b : ℕ) → a < all_nodes → b < all_nodes → get_or (groups program) a 0 ≡ get_or (groups program) b 0 → Joined program a b
  unfolding groups
  are-joined =
      good-from (up_from 0 all_nodes) 0 program (length-up_from 0 all_nodes) (omega arith)
      (λ k l h m. (labelled k l h m, subst (λ (x : ℕ). Joined program x (label_node l)) (sym (zero-add k)) (holds k l h m)))
      (λ a b ha hb e.
      subst (Joined program a) (sym (get_or-up_from 0 all_nodes a ha ∙ zero-add a) ∙ e ∙ get_or-up_from 0 all_nodes b hb ∙ zero-add b) (same a))

  -- the words of document 01, "blocks joined by ordinary labels, over any chain", and what is computed, are one
  pub joined : (a b : ℕ) → a < all_nodes → b < all_nodes → (get_or (groups program) a 0 ≡ get_or (groups program) b 0) ↔ Joined program a b
  joined a b ha hb = (are-joined a b ha hb, one_number)
