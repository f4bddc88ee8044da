-- Process blocks, where codes 10 and 11 passed: blocks that share an ordinary label have one home, and a block's begin or end
-- has its home's label. Assumes that the image is accepted and its labels are below 256.
use Rattle.std.specs.Prelude.{◌≡◌, refl, Bool, true, false, ℕ, zero, suc, ◌+◌, ◌<◌, ◌≤◌, length, eqb}
use Rattle.std.proofs.Math.Path.{sym, ap, subst}
use Rattle.std.proofs.Common.{◌∙◌, eqb-true}
use mathlib.Core.List.{List, [], ◌∷◌, map}
use native.Mathlib.Omega.{arith}
use Rattle.std.proofs.Math.Decide.{ℕ_discrete}
use Rattle.std.proofs.Math.ListN.{get_or}
use Rattle.std.proofs.lemmas.Bool.{not-false}
use Rattle.theory.specs.Tests.{true_false, eqb_same}
use Rattle.rules.specs.Base.{pick, times, up_from}
use Rattle.rules.specs.Format.{most_blocks, labels}
use Rattle.rules.specs.Labels.{block_of, begin_labels, end_labels, label_node, ordinary_labels, renamed, join_nodes, join_labels, groups_from, groups, within, own_begins, own_ends, one_label, bad11, home}
use Rattle.rules.specs.declared.Block.{Block}
use Rattle.laws.proofs.Lists.{pick_true, pick-false}
use Rattle.laws.proofs.Times.{times-append, times-one, times-other}
use Rattle.theorems.specs.Accepted.{Passed}

-- ---- joining
map-length : (f : ℕ → ℕ) (l : List ℕ) → length (map f l) ≡ length l
map-length f [] = refl
map-length f (x ∷ l) = ap suc (map-length f l)

map_at : (f : ℕ → ℕ) (l : List ℕ) (i : ℕ) → i < length l → get_or (map f l) i 0 ≡ f (get_or l i 0)
map_at f [] i h = absurd (omega arith)
map_at f (x ∷ l) zero h = refl
map_at f (x ∷ l) (suc i) h = map_at f l i (omega arith)

-- two nodes have one group
abbrev Same : List ℕ → ℕ → ℕ → Type 0
Same g a b = get_or g a 0 ≡ get_or g b 0

join-length : (g : List ℕ) (x y : ℕ) → length (join_nodes g x y) ≡ length g
unfolding join_nodes
join-length g x y = map-length (renamed (get_or g y 0) (get_or g x 0)) g

join-keeps : (g : List ℕ) (x y a b : ℕ) → a < length g → b < length g → Same g a b → Same (join_nodes g x y) a b
unfolding join_nodes
join-keeps g x y a b la lb s =
    let f = renamed (get_or g y 0) (get_or g x 0) in
    map_at f g a la ∙ ap f s ∙ sym (map_at f g b lb)

join-same : (g : List ℕ) (x y : ℕ) → x < length g → y < length g → Same (join_nodes g x y) x y
unfolding join_nodes
join-same g x y lx ly =
    let old = get_or g y 0 in
    let new = get_or g x 0 in
    map_at (renamed old new) g x lx ∙ here old new (eqb new old) refl ∙ sym (pick_true (eqb old old) new old (eqb_same old old refl)) ∙ sym
    (map_at (renamed old new) g y ly)
  where
    here : (old new : ℕ) (t : Bool) → eqb new old ≡ t → renamed old new new ≡ new
    here old new true e = pick_true (eqb new old) new new e
    here old new false e = pick-false (eqb new old) new new e

labels_length : (g : List ℕ) (b : ℕ) (ls : List ℕ) → length (join_labels g b ls) ≡ length g
unfolding join_labels
labels_length g b [] = refl
labels_length g b (l ∷ ls) = labels_length (join_nodes g b (label_node l)) b ls ∙ join-length g b (label_node l)

labels-keep : (g : List ℕ) (b : ℕ) (ls : List ℕ) (x y : ℕ) → x < length g → y < length g → Same g x y → Same (join_labels g b ls) x y
unfolding join_labels
labels-keep g b [] x y lx ly s = s
labels-keep g b (l ∷ ls) x y lx ly s =
    let e = join-length g b (label_node l) in
    labels-keep (join_nodes g b (label_node l)) b ls x y (omega (arith, e, lx)) (omega (arith, e, ly)) (join-keeps g b (label_node l) x y lx ly s)

labels_join :
    (g : List ℕ) (b : ℕ) (ls : List ℕ) (l : ℕ) → b < length g → label_node l < length g → 1 ≤ times l ls → Same (join_labels g b ls) b (label_node l)
unfolding join_labels times
labels_join g b [] l lb ll h = absurd (omega arith)
labels_join g b (m ∷ ls) l lb ll h =
    go (ℕ_discrete m l) (λ k. labels_join (join_nodes g b (label_node m)) b ls l (omega (arith, e, lb)) (omega (arith, e, ll)) k)
  where
    e : length (join_nodes g b (label_node m)) ≡ length g
    e = join-length g b (label_node m)

    go :
        Dec (m ≡ l) → (1 ≤ times l ls → Same (join_labels (join_nodes g b (label_node m)) b ls) b (label_node l)) →
        Same (join_labels g b (m ∷ ls)) b (label_node l)
    go (yes q) ih =
        let s : Same (join_nodes g b (label_node m)) b (label_node l) =
        subst (λ (k : ℕ). Same (join_nodes g b (label_node m)) b (label_node k)) q
        (join-same g b (label_node m) lb (subst (λ (k : ℕ). label_node k < length g) (sym q) ll)) in
        labels-keep (join_nodes g b (label_node m)) b ls b (label_node l) (omega (arith, e, lb)) (omega (arith, e, ll)) s
    go (no n) ih = ih (omega (arith, times-other l m ls n, h))

groups-keep : (g : List ℕ) (b : ℕ) (program : List Block) (x y : ℕ) → x < length g → y < length g → Same g x y → Same (groups_from g b program) x y
unfolding groups_from
groups-keep g b [] x y lx ly s = s
groups-keep g b (c ∷ program) x y lx ly s =
    let e = labels_length g b (ordinary_labels c) in
    groups-keep (join_labels g b (ordinary_labels c)) (suc b) program x y (omega (arith, e, lx)) (omega (arith, e, ly))
    (labels-keep g b (ordinary_labels c) x y lx ly s)

groups-join :
    (g : List ℕ) (b : ℕ) (program : List Block) (c l : ℕ) → b + length program ≤ length g → label_node l < length g → c < length program →
    1 ≤ times l (ordinary_labels (block_of program c)) → Same (groups_from g b program) (b + c) (label_node l)
unfolding groups_from
groups-join g b [] c l fits ll lc h = absurd (omega arith)
groups-join g b (k ∷ program) zero l fits ll lc h =
    let e = labels_length g b (ordinary_labels k) in
    let z : b + 0 ≡ b = omega arith in
    subst (λ (x : ℕ). Same (groups_from g b (k ∷ program)) x (label_node l)) (sym z)
    (groups-keep (join_labels g b (ordinary_labels k)) (suc b) program b (label_node l) (omega (arith, e, fits)) (omega (arith, e, ll))
    (labels_join g b (ordinary_labels k) l (omega (arith, fits)) ll h))
groups-join g b (k ∷ program) (suc c) l fits ll lc h =
    let e = labels_length g b (ordinary_labels k) in
    let z : suc b + c ≡ b + suc c = omega arith in
    subst (λ (x : ℕ). Same (groups_from g b (k ∷ program)) x (label_node l)) z
    (groups-join (join_labels g b (ordinary_labels k)) (suc b) program c l (omega (arith, e, fits)) (omega (arith, e, ll)) (omega arith) h)

up-length : (a n : ℕ) → length (up_from a n) ≡ n
unfolding up_from
up-length a zero = refl
up-length a (suc n) = ap suc (up-length (suc a) n)

-- the group of a block is that of its ordinary labels
pub joined-label :
    (program : List Block) (b l : ℕ) → length program ≤ most_blocks → b < length program → l < labels →
    1 ≤ times l (ordinary_labels (block_of program b)) →
    get_or (groups program) b 0 ≡ get_or (groups program) (label_node l) 0
unfolding groups
joined-label program b l few lb ll h =
    let e = up-length 0 (most_blocks + labels) in
    let z : 0 + b ≡ b = omega arith in
    subst (λ (x : ℕ). Same (groups program) x (label_node l)) z
    (groups-join (up_from 0 (most_blocks + labels)) 0 program b l (omega (arith, e, few)) (omega (arith, e, ll)) lb h)

-- ---- the labels of a group
within-at :
    (stands : Block → List ℕ) (g : List ℕ) (k l b c : ℕ) (program : List Block) → c < length program → get_or g (b + c) 0 ≡ k →
    times l (stands (block_of program c)) ≤ times l (within stands g k b program)
unfolding within
within-at stands g k l b c [] lc e = absurd (omega arith)
within-at stands g k l b zero (x ∷ program) lc e =
    let z : b + 0 ≡ b = omega arith in
    let p : pick (eqb (get_or g b 0) k) (stands x) [] ≡ stands x =
    pick_true (eqb (get_or g b 0) k) (stands x) [] (eqb_same (get_or g b 0) k (ap (λ (i : ℕ). get_or g i 0) (sym z) ∙ e)) in
    let t = times-append l (pick (eqb (get_or g b 0) k) (stands x) []) (within stands g k (suc b) program) in
    let q : times l (pick (eqb (get_or g b 0) k) (stands x) []) ≡ times l (stands x) = ap (times l) p in
    omega (arith, t, q)
within-at stands g k l b (suc c) (x ∷ program) lc e =
    let z : suc b + c ≡ b + suc c = omega arith in
    let t = times-append l (pick (eqb (get_or g b 0) k) (stands x) []) (within stands g k (suc b) program) in
    let ih = within-at stands g k l (suc b) c program (omega arith) (ap (λ (i : ℕ). get_or g i 0) z ∙ e) in
    omega (arith, t, ih)

pub one_label_is : (x y : List ℕ) → one_label x y ≡ true → (l : ℕ) × (x ≡ l ∷ []) × (y ≡ l ∷ [])
one_label_is [] y h = absurd (true_false h refl)
one_label_is (l ∷ []) [] h = absurd (true_false h refl)
one_label_is (l ∷ []) (m ∷ []) h = (l, refl, ap (λ (k : ℕ). k ∷ []) (sym (eqb-true l m h)))
one_label_is (l ∷ []) (m ∷ n ∷ y) h = absurd (true_false h refl)
one_label_is (l ∷ k ∷ x) y h = absurd (true_false h refl)

module _ (program : List Block) (ok : Passed program) where
  own : (b : ℕ) → b < length program → (l : ℕ) × (own_begins program b ≡ l ∷ []) × (own_ends program b ≡ l ∷ [])
  unfolding bad11
  own b lt = one_label_is (own_begins program b) (own_ends program b) (not-false _ (ok.one_process b lt))

  home-own : (b : ℕ) (lt : b < length program) → home program b ≡ (own b lt).0
  unfolding home
  home-own b lt = ap (λ (x : List ℕ). get_or x 0 0) (own b lt).1

  -- a begin, and an end, have the label of the block's home
  pub home-begin : (b l : ℕ) → b < length program → 1 ≤ times l (begin_labels (block_of program b).entry) → home program b ≡ l
  unfolding own_begins
  home-begin b l lt h =
      let z : 0 + b ≡ b = omega arith in
      let w =
      within-at (λ c. begin_labels c.entry) (groups program) (get_or (groups program) b 0) l 0 b program lt
      (ap (λ (i : ℕ). get_or (groups program) i 0) z) in
      let o = own b lt in
      let k : 1 ≤ times l (o.0 ∷ []) = subst (λ (x : List ℕ). 1 ≤ times l x) o.1 (omega (arith, w, h)) in
      home-own b lt ∙ sym (times-one l o.0 k)

  pub home-end : (b l : ℕ) → b < length program → 1 ≤ times l (end_labels (block_of program b).exit) → home program b ≡ l
  unfolding own_ends
  home-end b l lt h =
      let z : 0 + b ≡ b = omega arith in
      let w =
      within-at (λ c. end_labels c.exit) (groups program) (get_or (groups program) b 0) l 0 b program lt
      (ap (λ (i : ℕ). get_or (groups program) i 0) z) in
      let o = own b lt in
      let k : 1 ≤ times l (o.0 ∷ []) = subst (λ (x : List ℕ). 1 ≤ times l x) o.2 (omega (arith, w, h)) in
      home-own b lt ∙ sym (times-one l o.0 k)

-- blocks that share an ordinary label have one home
pub home-shared :
    (program : List Block) (b c l : ℕ) → length program ≤ most_blocks → b < length program → c < length program → l < labels →
    1 ≤ times l (ordinary_labels (block_of program b)) → 1 ≤ times l (ordinary_labels (block_of program c)) → home program b ≡ home program c
unfolding home own_begins
home-shared program b c l few lb lc ll hb hc =
    let e : get_or (groups program) b 0 ≡ get_or (groups program) c 0 =
    joined-label program b l few lb ll hb ∙ sym (joined-label program c l few lc ll hc) in
    ap (λ (g : ℕ). get_or (within (λ k. begin_labels k.entry) (groups program) g 0 program) 0 0) e
