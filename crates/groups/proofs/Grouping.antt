-- The groups of nodes, label by label and block by block. Assumes nothing.
use Prim.Native.Nat.{ℕ, zero, suc, ◌+◌, ◌<◌}
use native.Mathlib.Nat.{add-zero, zero-add, add-suc, suc-add, not-suc-le-zero, le_of_suc-le-suc}
use native.Mathlib.Omega.{arith}
use mathlib.Core.Path.{◌≡◌, refl, sym, ap, ◌∙◌}
use mathlib.Core.List.{List, [], ◌∷◌, ◌++◌, map}
use lib.ListN.{length, take, drop, get_or, set, length-map, length-append}
use lib.Seq.{length-take-le}
use borrow.Author.Tests.{eq-eqb, ne_eqb}
use Rattle.std.proofs.lemmas.List.{take_more, take-append-drop}
use Rattle.std.proofs.lemmas.List.Edits.{map_over_more}
use Rattle.rules.specs.Base.{pick, up_from}
use Rattle.rules.specs.Labels.{label_node, ordinary_labels, entry_labels, exit_labels, renamed, join_nodes, join_labels, groups_from, groups}
use Rattle.rules.specs.declared.Block.{Block}
use Rattle.laws.proofs.Lists.{get_d_any}
use Rattle.groups.specs.Nodes.{all_nodes}
use Rattle.short.proofs.Programs.{blank}

-- ---- lists
pub get_d_map : (f : ℕ → ℕ) (l : List ℕ) (i d : ℕ) → i < length l → get_or (map f l) i d ≡ f (get_or l i d)
get_d_map f [] i d h = absurd (not-suc-le-zero h)
get_d_map f (x ∷ l) zero d h = refl
get_d_map f (x ∷ l) (suc i) d h = get_d_map f l i d (le_of_suc-le-suc h)

pub length-up_from : (a n : ℕ) → length (up_from a n) ≡ n
unfolding up_from
length-up_from a zero = refl
length-up_from a (suc n) = ap suc (length-up_from (suc a) n)

pub get_or-up_from : (a n i : ℕ) → i < n → get_or (up_from a n) i 0 ≡ a + i
unfolding up_from
get_or-up_from a zero i h = absurd (not-suc-le-zero h)
get_or-up_from a (suc n) zero h = sym (add-zero a)
get_or-up_from a (suc n) (suc i) h = get_or-up_from (suc a) n i (le_of_suc-le-suc h) ∙ omega arith

-- ---- a group renamed, node by node
module _ (old new : ℕ) (xs ys : List ℕ) (i : ℕ) (lt : i < length xs) (e : ys ≡ map (renamed old new) (take i xs) ++ drop i xs) where
  node : set ys i (renamed old new (get_or ys i 0)) ≡ map (renamed old new) (take (i + 1) xs) ++ drop (i + 1) xs
  node =
      let whole : length (take i xs) + length (drop i xs) ≡ length xs = sym (length-append (take i xs) (drop i xs)) ∙ ap length (take-append-drop i xs) in
      let long : length ys ≡ length xs =
      ap length e ∙ length-append (map (renamed old new) (take i xs)) (drop i xs) ∙ rw (length-map (take i xs) (renamed old new)) whole in
      map_over_more (renamed old new) xs ys i (get_or ys i 0) lt e (get_d_any ys i 0 _ (omega arith))

  pub renamed-node : get_or ys i 0 ≡ old → set ys i new ≡ map (renamed old new) (take (i + 1) xs) ++ drop (i + 1) xs
  unfolding pick
  renamed-node h = ap (set ys i) (sym (rw (eq-eqb (get_or ys i 0) old h) refl)) ∙ node

  pub other-node : (get_or ys i 0 ≡ old → ⊥) → set ys i (get_or ys i 0) ≡ map (renamed old new) (take (i + 1) xs) ++ drop (i + 1) xs
  unfolding pick
  other-node h = ap (set ys i) (sym (rw (ne_eqb (get_or ys i 0) old h) refl)) ∙ node

-- ---- joining
pub length-join : (g : List ℕ) (a b : ℕ) → length (join_nodes g a b) ≡ length g
unfolding join_nodes
length-join g a b = length-map g _

pub length-joins : (g : List ℕ) (b : ℕ) (l : List ℕ) → length (join_labels g b l) ≡ length g
unfolding join_labels
length-joins g b [] = refl
length-joins g b (x ∷ l) = length-joins (join_nodes g b (label_node x)) b l ∙ length-join g b (label_node x)

pub joins-append : (g : List ℕ) (b : ℕ) (l m : List ℕ) → join_labels g b (l ++ m) ≡ join_labels (join_labels g b l) b m
unfolding join_labels
joins-append g b [] m = refl
joins-append g b (x ∷ l) m = joins-append (join_nodes g b (label_node x)) b l m

-- one label more joined
pub joins-more : (g : List ℕ) (b : ℕ) (l r s : List ℕ) (k : ℕ) → k < length l → r ≡ join_labels g b (take k l)
    → s ≡ map (renamed (get_or r (128 + get_or l k 0) 0) (get_or r b 0)) r → s ≡ join_labels g b (take (k + 1) l)
unfolding join_labels join_nodes
joins-more g b l r s k h e d = d ∙ rw e (sym (rw (take_more l k 0 h) (joins-append g b (take k l) (get_or l k 0 ∷ []))))

-- ---- a program, block by block
pub length-groups_from : (g : List ℕ) (b : ℕ) (p : List Block) → length (groups_from g b p) ≡ length g
unfolding groups_from
length-groups_from g b [] = refl
length-groups_from g b (x ∷ p) = length-groups_from (join_labels g b (ordinary_labels x)) (suc b) p ∙ length-joins g b (ordinary_labels x)

groups_from-append : (g : List ℕ) (b : ℕ) (p q : List Block) → groups_from g b (p ++ q) ≡ groups_from (groups_from g b p) (b + length p) q
unfolding groups_from
groups_from-append g b [] q = ap (λ (k : ℕ). groups_from g k q) (sym (add-zero b))
groups_from-append g b (x ∷ p) q =
    groups_from-append (join_labels g b (ordinary_labels x)) (suc b) p q
    ∙ ap (λ (k : ℕ). groups_from (groups_from (join_labels g b (ordinary_labels x)) (suc b) p) k q) (suc-add b (length p) ∙ sym (add-suc b (length p)))

module _ (blocks : List Block) (i : ℕ) where
  pub length-groups : length (groups (take i blocks)) ≡ all_nodes
  unfolding groups
  length-groups = length-groups_from (up_from 0 all_nodes) 0 (take i blocks) ∙ length-up_from 0 all_nodes

  -- one block more: its entry's labels, then its exit's
  pub groups-more : (g h k l m : List ℕ) → i < length blocks → g ≡ groups (take i blocks)
      → l ≡ entry_labels (get_or blocks i blank).entry → m ≡ exit_labels (get_or blocks i blank).exit
      → h ≡ join_labels g i l → k ≡ join_labels h i m → k ≡ groups (take (i + 1) blocks)
  unfolding groups groups_from
  groups-more g h k l m lt e p q r s =
      let e1 : join_labels h i m ≡ join_labels (groups (take i blocks)) i (ordinary_labels (get_or blocks i blank)) =
      rw (r, p, q, e)
      (sym (joins-append (groups (take i blocks)) i (entry_labels (get_or blocks i blank).entry) (exit_labels (get_or blocks i blank).exit))) in
      let at : 0 + length (take i blocks) ≡ i = zero-add (length (take i blocks)) ∙ length-take-le i blocks (omega arith) in
      let e2 : groups (take (i + 1) blocks) ≡ join_labels (groups (take i blocks)) i (ordinary_labels (get_or blocks i blank)) =
      rw (take_more blocks i blank lt)
      (groups_from-append (up_from 0 all_nodes) 0 (take i blocks) (get_or blocks i blank ∷ [])
      ∙ ap (λ (x : ℕ). join_labels (groups (take i blocks)) x (ordinary_labels (get_or blocks i blank))) at) in
      s ∙ e1 ∙ sym e2
