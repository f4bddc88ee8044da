-- The begins and ends of groups, block by block; code 11 and the labels of process blocks from them. Assumes nothing.
use Prim.Native.Nat.{ℕ, suc, ◌+◌, ◌*◌, ◌<◌, ◌≤◌}
use native.Mathlib.Nat.{add-zero, zero-add, add-suc, suc-add}
use native.Mathlib.Omega.{arith}
use mathlib.Core.Path.{◌≡◌, refl, sym, ap, fun_ext, ◌∙◌}
use mathlib.Core.Bool.{Bool, true, false, not, ◌&&◌}
use mathlib.Core.Logic.{⊎_elim}
use mathlib.Core.List.{List, [], ◌∷◌, ◌++◌, map, append_assoc, append-nil}
use lib.ListN.{length, take, get_or, set, length-set, length-append, length-map, get_or-eq_default}
use lib.Seq.{length-take-le, get_or-take, get_or-set_same, get_or-set_other, ext_get_or}
use lib.Dec.{eqb}
use borrow.Author.Tests.{ne_eqb, eqb-true}
use Rattle.std.specs.Prelude.{Option, None, slice_get}
use Rattle.std.specs.Option.{option_eq, option_or, unwrap_or}
use Rattle.rules.specs.Base.{pick, up_from}
use Rattle.rules.specs.Labels.{label_node, ordinary_labels, renamed, join_nodes, join_labels, groups_from, groups}
use Rattle.rules.specs.Labels.{within, own_begins, own_ends, begin_labels, one_label, bad11, home}
use Rattle.rules.specs.declared.Block.{Block}
use Rattle.laws.specs.Found.{found}
use Rattle.laws.proofs.Search.{lt-or_le}
use Rattle.groups.specs.Nodes.{all_nodes}
use Rattle.processes.specs.declared.own.Own.{Own}
use Rattle.processes.specs.declared.tally.Tally.{Tally}
use Rattle.processes.specs.Below.{Below}
use Rattle.processes.specs.Own.{blank_tally, noted, Tallied, OwnOf, one_at, first_begin}
use Rattle.short.specs.Low.{most}
use Rattle.short.proofs.Programs.{get_or-same, get_d_set}
use Rattle.groups.proofs.Grouping.{get_d_map, length-up_from, get_or-up_from}

-- ---- a group goes by the number of a node
below-map : (f : ℕ → ℕ) (l : List ℕ) (m : ℕ) → 0 < m → ((a : ℕ) → a < m → f a < m) → Below m l → Below m (map f l)
below-map f l m p h b x =
    ⊎_elim (λ s. rw (get_d_map f l x 0 s) (h (get_or l x 0) (b x))) (λ s. rw (get_or-eq_default (map f l) 0 {n = x} (rw (length-map l f) s)) p)
    (lt-or_le x (length l))

below-pick : (t : Bool) (a b m : ℕ) → a < m → b < m → pick t a b < m
unfolding pick
below-pick true a b m p q = p
below-pick false a b m p q = q

below-join : (g : List ℕ) (a b m : ℕ) → 0 < m → Below m g → Below m (join_nodes g a b)
unfolding join_nodes
below-join g a b m p h = below-map (renamed (get_or g b 0) (get_or g a 0)) g m p (λ c l. below-pick (eqb c (get_or g b 0)) (get_or g a 0) c m (h a) l) h

below-joins : (g : List ℕ) (b m : ℕ) (l : List ℕ) → 0 < m → Below m g → Below m (join_labels g b l)
unfolding join_labels
below-joins g b m [] p h = h
below-joins g b m (x ∷ l) p h = below-joins (join_nodes g b (label_node x)) b m l p (below-join g b (label_node x) m p h)

below-from : (g : List ℕ) (b m : ℕ) (q : List Block) → 0 < m → Below m g → Below m (groups_from g b q)
unfolding groups_from
below-from g b m [] p h = h
below-from g b m (x ∷ q) p h = below-from (join_labels g b (ordinary_labels x)) (suc b) m q p (below-joins g b m (ordinary_labels x) p h)

groups-below : (program : List Block) → Below all_nodes (groups program)
unfolding groups
groups-below program = below-from (up_from 0 all_nodes) 0 all_nodes program (omega arith) alone
  where
    alone : Below all_nodes (up_from 0 all_nodes)
    alone x =
        ⊎_elim (λ s. rw (get_or-up_from 0 all_nodes x s) (omega arith))
        (λ s. rw (get_or-eq_default (up_from 0 all_nodes) 0 {n = x} (rw (length-up_from 0 all_nodes) s)) (omega arith))
        (lt-or_le x all_nodes)

pub below-is : (program : List Block) (gs : List ℕ) → gs ≡ groups program → Below all_nodes gs
below-is program gs e = rw e (groups-below program)

-- ---- what stands so in a group, one block more
within-append : (stands : Block → List ℕ) (gs : List ℕ) (g b : ℕ) (p q : List Block)
    → within stands gs g b (p ++ q) ≡ within stands gs g b p ++ within stands gs g (b + length p) q
unfolding within
within-append stands gs g b [] q = ap (λ (k : ℕ). within stands gs g k q) (sym (add-zero b))
within-append stands gs g b (x ∷ p) q =
    ap (λ (l : List ℕ). pick (eqb (get_or gs b 0) g) (stands x) [] ++ l) (within-append stands gs g (suc b) p q)
    ∙ sym (append_assoc (pick (eqb (get_or gs b 0) g) (stands x) []) (within stands gs g (suc b) p) _)
    ∙ ap (λ (k : ℕ). pick (eqb (get_or gs b 0) g) (stands x) [] ++ within stands gs g (suc b) p ++ within stands gs g k q)
    (suc-add b (length p) ∙ sym (add-suc b (length p)))

-- a block that stands in at most eight labels of a kind adds no more to a group
module _ (stands : Block → List ℕ) (short : (b : Block) → length (stands b) ≤ 8) (gs : List ℕ) (g : ℕ) where
  within-le : (b : ℕ) (program : List Block) → length (within stands gs g b program) ≤ 8 * length program
  unfolding within pick
  within-le b [] = omega arith
  within-le b (x ∷ program) =
      let e : length (pick (eqb (get_or gs b 0) g) (stands x) []) ≤ 8 = some-or-none (eqb (get_or gs b 0) g) in
      omega (arith, e, length-append (pick (eqb (get_or gs b 0) g) (stands x) []) (within stands gs g (suc b) program), within-le (suc b) program)
    where
      some-or-none : (t : Bool) → length (pick t (stands x) []) ≤ 8
      some-or-none true = short x
      some-or-none false = omega arith

  pub tallied-room : (program : List Block) (t : Tally) → length program ≤ 128 → Tallied stands gs program t → get_or t.counts g 0 ≤ most
  tallied-room program t few h = omega (arith, h.many g, within-le 0 program)

-- what a group's tally becomes where its list gets more
many_more : (l m : List ℕ) (t : Bool) → pick t (length l + length m) (length l) ≡ length (l ++ pick t m [])
unfolding pick
many_more l m true = sym (length-append l m)
many_more l m false = sym (ap length (append-nil l))

first_more : (l m : List ℕ) (t : Bool) → pick t (option_or (slice_get l 0) (slice_get m 0)) (slice_get l 0) ≡ slice_get (l ++ pick t m []) 0
unfolding pick
first_more [] m true = refl
first_more (x ∷ l) m true = refl
first_more [] m false = refl
first_more (x ∷ l) m false = refl

-- at the place itself the other place's value is the same
pick_at : {A : Type 0} (g x : ℕ) (f : ℕ → A) (z : A) → pick (eqb g x) (f g) z ≡ pick (eqb g x) (f x) z
unfolding pick
pick_at g x f z = go (eqb g x) refl
  where
    go : (t : Bool) → eqb g x ≡ t → pick t (f g) z ≡ pick t (f x) z
    go true e = ap f (eqb-true g x e)
    go false e = refl

-- ---- tallies
pub tallied-none : (stands : Block → List ℕ) (gs : List ℕ) → Tallied stands gs [] blank_tally
unfolding within
tallied-none stands gs =
    record { all_counts = refl; all_firsts = refl; many = λ g. get_or-same all_nodes g 0; first = λ g. get_or-same all_nodes g None }

module _ (stands : Block → List ℕ) (gs : List ℕ) (program : List Block) (t : Tally) (h : Tallied stands gs program t) (b : Block) (g : ℕ)
    (e : g ≡ get_or gs (length program) 0) (s : g < all_nodes) where
  grown : (x : ℕ) → within stands gs x 0 (program ++ b ∷ []) ≡ within stands gs x 0 program ++ pick (eqb g x) (stands b) []
  unfolding within
  grown x =
      within-append stands gs x 0 program (b ∷ [])
      ∙ ap (λ (l : List ℕ). within stands gs x 0 program ++ l) (append-nil _)
      ∙ ap (λ (k : ℕ). within stands gs x 0 program ++ pick (eqb (get_or gs k 0) x) (stands b) []) (zero-add (length program))
      ∙ ap (λ (k : ℕ). within stands gs x 0 program ++ pick (eqb k x) (stands b) []) (sym e)

  many-after : (x : ℕ) → get_or (noted t g (stands b)).counts x 0 ≡ length (within stands gs x 0 (program ++ b ∷ []))
  many-after x =
      get_d_set t.counts g x (get_or t.counts g 0 + length (stands b)) 0 (rw h.all_counts s)
      ∙ pick_at g x (λ y. get_or t.counts y 0 + length (stands b)) (get_or t.counts x 0)
      ∙ rw (h.many x) (many_more (within stands gs x 0 program) (stands b) (eqb g x))
      ∙ ap length (sym (grown x))

  first-after : (x : ℕ) → get_or (noted t g (stands b)).firsts x None ≡ slice_get (within stands gs x 0 (program ++ b ∷ [])) 0
  first-after x =
      get_d_set t.firsts g x _ None (rw h.all_firsts s)
      ∙ pick_at g x (λ y. option_or (get_or t.firsts y None) (slice_get (stands b) 0)) (get_or t.firsts x None)
      ∙ rw (h.first x) (first_more (within stands gs x 0 program) (stands b) (eqb g x))
      ∙ ap (λ (l : List ℕ). slice_get l 0) (sym (grown x))

  pub tallied-more : (labels : List ℕ) (u : Tally) → labels ≡ stands b → u ≡ noted t g labels → Tallied stands gs (program ++ b ∷ []) u
  tallied-more labels u l n =
      rw (n, l)
      record {
        all_counts = length-set t.counts g _ ∙ h.all_counts;
        all_firsts = length-set t.firsts g _ ∙ h.all_firsts;
        many = many-after;
        first = first-after;
      }

-- ---- code 11 and the labels of process blocks
one-label_is : (l m : List ℕ) → (eqb (length l) 1 && (eqb (length m) 1 && option_eq eqb (slice_get l 0) (slice_get m 0))) ≡ one_label l m
one-label_is [] m = refl
one-label_is (x ∷ []) [] = refl
one-label_is (x ∷ []) (y ∷ []) = refl
one-label_is (x ∷ []) (y ∷ z ∷ m) = rw (ne_eqb (suc (suc (length m))) 1 (λ q. omega arith))
one-label_is (x ∷ k ∷ l) m = rw (ne_eqb (suc (suc (length l))) 1 (λ q. omega arith))

-- the first of a list, or 0
first-or_0 : (l : List ℕ) → unwrap_or (slice_get l 0) 0 ≡ get_or l 0 0
first-or_0 [] = refl
first-or_0 (x ∷ l) = refl

module _ (program : List Block) (gs : List ℕ) (o : Own) (e : gs ≡ groups program) (h : OwnOf gs program o) where
  pub bad11-is : (b : ℕ) → not (one_at o (get_or gs b 0)) ≡ bad11 program b
  unfolding bad11 own_begins own_ends
  bad11-is b =
      let g = get_or gs b 0 in
      rw (h.begins.many g, h.ends.many g, h.begins.first g, h.ends.first g, e) (ap not (one-label_is (own_begins program b) (own_ends program b)))

  pub home-is : (b : ℕ) → first_begin o (get_or gs b 0) ≡ home program b
  unfolding home own_begins
  home-is b =
      ap (λ (f : Option ℕ). unwrap_or f 0) (h.begins.first (get_or gs b 0))
      ∙ first-or_0 (within (λ c. begin_labels c.entry) gs (get_or gs b 0) 0 program)
      ∙ ap (λ (x : List ℕ). get_or (within (λ c. begin_labels c.entry) x (get_or x b 0) 0 program) 0 0) e

  pub homes-are : (homes : List ℕ) (n : ℕ) → n ≤ length homes → ((b : ℕ) → b < n → get_or homes b 0 ≡ first_begin o (get_or gs b 0))
      → take n homes ≡ map (home program) (up_from 0 n)
  homes-are homes n long each =
      let all : length (take n homes) ≡ n = length-take-le n homes long in
      ext_get_or 0 (take n homes) (map (home program) (up_from 0 n)) (all ∙ sym (length-map (up_from 0 n) (home program) ∙ length-up_from 0 n))
      (λ b lt.
      let l : b < n = omega arith in
      get_or-take n homes b 0 l ∙ each b l ∙ home-is b
      ∙ sym (get_d_map (home program) (up_from 0 n) b 0 (rw (length-up_from 0 n) l) ∙ ap (home program) (get_or-up_from 0 n b l ∙ zero-add b)))

-- one more element is set to what f has there
pub set-each :
    (f : ℕ → ℕ) (ys : List ℕ) (i v : ℕ) → i < length ys → v ≡ f i → ((k : ℕ) → k < i → get_or ys k 0 ≡ f k) → (k : ℕ) → k < i + 1 → get_or (set ys i v) k 0 ≡ f k
set-each f ys i v lt at before k h =
    ⊎_elim (λ less. get_or-set_other ys i k v 0 (λ e. absurd (omega arith)) ∙ before k less) (λ least. let e : k ≡ i = omega arith in rw e (get_or-set_same ys i v 0 lt ∙ at)) (lt-or_le k i)

-- the same test finds the same
pub found-same : (p q : ℕ → Bool) (n : ℕ) → ((k : ℕ) → p k ≡ q k) → found p n ≡ found q n
found-same p q n h = ap (λ (f : ℕ → Bool). found f n) (fun_ext h)
