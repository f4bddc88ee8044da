-- A machine and its words, there and back: lengths, `view` after `pack`, `pack` after `view`. Assumes nothing.
use mathlib.Core.Path.{◌≡◌, refl, sym, ap, ap₂, ◌∙◌}
use mathlib.Core.Bool.{true}
use mathlib.Core.List.{List, [], ◌∷◌, ◌++◌, append_assoc}
use Prim.Native.Nat.{ℕ, zero, suc, ◌+◌, ◌-◌, ◌*◌, ◌≤◌}
use native.Mathlib.Omega.{arith}
use lib.ListN.{length, take, drop, get_or, length-append, length-drop, length-replicate, take-append-drop}
use lib.Seq.{take_at, drop_at, drop-drop, take-take, length-take-le}
use lib.Dec.{eqb}
use borrow.Author.Tests.{eqb-true, leb-true}
use Rattle.rules.specs.Base.{each_of, zeros}
use Rattle.rules.specs.Machine.{Process, Kept, Machine, pack_rows, pack_history, padded, pack, view, view_rows, view_history, live_count, history_count}
use Rattle.rules.specs.Fits.{counts_fit, unused_zero}
use Rattle.laws.proofs.Tests.{and-true}

-- the sizes that a machine keeps
pub record Sized (m : Machine) : Type 0 where
  pub memory288 : length m.memory ≡ 288
  pub rows64 : length m.rows ≤ 64
  pub history4096 : length m.history ≤ 4096

pub pack_history-append : (a b : List Kept) → pack_history (a ++ b) ≡ pack_history a ++ pack_history b
unfolding pack_history
pack_history-append [] b = refl
pack_history-append (k ∷ a) b = ap (λ (l : List ℕ). k.identifier ∷ k.block ∷ l) (pack_history-append a b)

pub length-pack_history : (a : List Kept) → length (pack_history a) ≡ 2 * length a
unfolding pack_history
length-pack_history [] = refl
length-pack_history (k ∷ a) = let h : length (pack_history a) ≡ 2 * length a = length-pack_history a in omega arith

pub pack_rows-append : (a b : List Process) → pack_rows (a ++ b) ≡ pack_rows a ++ pack_rows b
unfolding pack_rows
pack_rows-append [] b = refl
pack_rows-append (r ∷ a) b = ap (λ (l : List ℕ). r.identifier ∷ r.stands.label ∷ r.stands.stage ∷ l) (pack_rows-append a b)

pub length-pack_rows : (a : List Process) → length (pack_rows a) ≡ 3 * length a
unfolding pack_rows
length-pack_rows [] = refl
length-pack_rows (r ∷ a) = let h : length (pack_rows a) ≡ 3 * length a = length-pack_rows a in omega arith

pub length-padded : (n : ℕ) (l : List ℕ) → length l ≤ n → length (padded n l) ≡ n
unfolding padded
length-padded n l h = length-append l (zeros (n - length l)) ∙ ap (λ (k : ℕ). length l + k) (length-replicate (n - length l) 0) ∙ omega arith

-- the words before the rows
unfoldable pub front : Machine → List ℕ
front m = length m.rows ∷ length m.history ∷ m.memory

module _ (m : Machine) (s : Sized m) where
  pub length_front : length (front m) ≡ 290
  unfolding front
  length_front = omega (arith, s.memory288)

  pub rows_fit_words : length (pack_rows m.rows) ≤ 192
  rows_fit_words = omega (arith, length-pack_rows m.rows, s.rows64)

  pub history-fit : length (pack_history m.history) ≤ 8192
  history-fit = omega (arith, length-pack_history m.history, s.history4096)

  pub length-head : length (front m ++ padded 192 (pack_rows m.rows)) ≡ 482
  length-head = length-append (front m) (padded 192 (pack_rows m.rows)) ∙ omega (arith, length_front, length-padded 192 (pack_rows m.rows) rows_fit_words)

  pub length-pack : length (pack m) ≡ 8674
  unfolding pack front
  length-pack =
      length-append (front m ++ padded 192 (pack_rows m.rows)) (padded 8192 (pack_history m.history))
      ∙ omega (arith, length-head, length-padded 8192 (pack_history m.history) history-fit)

rows_back : (rows : List Process) (q : List ℕ) → view_rows (length rows) (pack_rows rows ++ q) ≡ rows
unfolding view_rows pack_rows
rows_back [] q = refl
rows_back (r ∷ rows) q = ap {B = List Process} (λ l. r ∷ l) (rows_back rows q)

history-back : (history : List Kept) (q : List ℕ) → view_history (length history) (pack_history history ++ q) ≡ history
unfolding view_history pack_history
history-back [] q = refl
history-back (k ∷ history) q = ap {B = List Kept} (λ l. k ∷ l) (history-back history q)

right3 : (a b c : List ℕ) → a ++ b ++ c ≡ a ++ (b ++ c)
right3 a b c = append_assoc a b c

module _ (m : Machine) (s : Sized m) where
  -- a packed machine is viewed as itself
  pub view-pack : view (pack m) ≡ m
  unfolding view pack front padded
  view-pack =
      let R : List ℕ = padded 192 (pack_rows m.rows) in
      let H : List ℕ = padded 8192 (pack_history m.history) in
      let v : take 288 (drop 2 (pack m)) ≡ m.memory =
      ap (λ (l : List ℕ). take 288 l) (right3 m.memory R H) ∙ take_at m.memory (R ++ H) 288 s.memory288 in
      let r : view_rows (length m.rows) (drop 290 (pack m)) ≡ m.rows =
      ap (λ (l : List ℕ). view_rows (length m.rows) l)
      (ap (λ (l : List ℕ). drop 290 l) (append_assoc (front m) R H)
      ∙ drop_at (front m) (R ++ H) 290 (length_front m s)
      ∙ append_assoc (pack_rows m.rows) (zeros (192 - length (pack_rows m.rows))) H)
      ∙ rows_back m.rows _ in
      let h : view_history (length m.history) (drop 482 (pack m)) ≡ m.history =
      ap (λ (l : List ℕ). view_history (length m.history) l) (drop_at (front m ++ R) H 482 (length-head m s))
      ∙ history-back m.history _ in
      λ i. record { memory = v i; rows = r i; history = h i }

rows_words : (n : ℕ) (l : List ℕ) → 3 * n ≤ length l → pack_rows (view_rows n l) ≡ take (3 * n) l
unfolding view_rows pack_rows
rows_words zero l h = refl
rows_words (suc n) [] h = absurd (omega arith)
rows_words (suc n) (a ∷ []) h = absurd (omega arith)
rows_words (suc n) (a ∷ b ∷ []) h = absurd (omega arith)
rows_words (suc n) (a ∷ b ∷ c ∷ l) h =
    ap (λ (q : List ℕ). a ∷ b ∷ c ∷ q) (rows_words n l (omega arith)) ∙ ap (λ (k : ℕ). take k (a ∷ b ∷ c ∷ l)) (sym (three n))
  where
    three : (n : ℕ) → 3 * suc n ≡ suc (suc (suc (3 * n)))
    three n = omega arith

history-words : (n : ℕ) (l : List ℕ) → 2 * n ≤ length l → pack_history (view_history n l) ≡ take (2 * n) l
unfolding view_history pack_history
history-words zero l h = refl
history-words (suc n) [] h = absurd (omega arith)
history-words (suc n) (a ∷ []) h = absurd (omega arith)
history-words (suc n) (a ∷ b ∷ l) h =
    ap (λ (q : List ℕ). a ∷ b ∷ q) (history-words n l (omega arith)) ∙ ap (λ (k : ℕ). take k (a ∷ b ∷ l)) (sym (two n))
  where
    two : (n : ℕ) → 2 * suc n ≡ suc (suc (2 * n))
    two n = omega arith

pub length-view_rows : (n : ℕ) (l : List ℕ) → length (view_rows n l) ≡ n
unfolding view_rows
length-view_rows zero l = refl
length-view_rows (suc n) l = ap suc (length-view_rows n (drop 3 l))

pub length-view_history : (n : ℕ) (l : List ℕ) → length (view_history n l) ≡ n
unfolding view_history
length-view_history zero l = refl
length-view_history (suc n) l = ap suc (length-view_history n (drop 2 l))

-- words of the right length whose counts are in range and whose unused rows and entries are zero
pub record Clean (w : List ℕ) : Type 0 where
  pub long : length w ≡ 8674
  pub live : live_count w ≤ 64
  pub kept : history_count w ≤ 4096
  pub rows0 : drop (3 * live_count w) (take 192 (drop 290 w)) ≡ zeros (192 - 3 * live_count w)
  pub history0 : drop (2 * history_count w) (drop 482 w) ≡ zeros (8192 - 2 * history_count w)

-- a list whose numbers are all 0 is a row of zeros
pub all-zeros : (l : List ℕ) → each_of (λ x. eqb x 0) l ≡ true → l ≡ zeros (length l)
unfolding each_of
all-zeros [] h = refl
all-zeros (x ∷ l) h =
    let e = and-true (eqb x 0) (each_of (λ y. eqb y 0) l) h in
    ap₂ (λ (a : ℕ) (r : List ℕ). a ∷ r) (eqb-true x 0 e.0) (all-zeros l e.1)

-- the two clauses of code 17 that speak of words alone, on words of the right length
pub clean : (w : List ℕ) → length w ≡ 8674 → counts_fit w ≡ true → unused_zero w ≡ true → Clean w
unfolding counts_fit unused_zero
clean w long c u =
    let cs = and-true _ _ c in
    let us = and-true _ _ u in
    let live : live_count w ≤ 64 = leb-true _ _ cs.0 in
    let kept : history_count w ≤ 4096 = leb-true _ _ cs.1 in
    let lr : length (take 192 (drop 290 w)) ≡ 192 = length-take-le 192 (drop 290 w) (simp length-drop (omega arith)) in
    let l1 : length (drop (3 * live_count w) (take 192 (drop 290 w))) ≡ 192 - 3 * live_count w =
    length-drop (3 * live_count w) (take 192 (drop 290 w)) ∙ ap (λ (k : ℕ). k - 3 * live_count w) lr in
    let l2 : length (drop (2 * history_count w) (drop 482 w)) ≡ 8192 - 2 * history_count w =
    length-drop (2 * history_count w) (drop 482 w) ∙ ap (λ (k : ℕ). k - 2 * history_count w) (length-drop 482 w ∙ omega arith) in
    record {
      long = long;
      live = live;
      kept = kept;
      rows0 = all-zeros _ us.0 ∙ ap zeros l1;
      history0 = all-zeros _ us.1 ∙ ap zeros l2;
    }

pub view-sized : (w : List ℕ) → Clean w → Sized (view w)
unfolding view
view-sized w c =
    record {
      memory288 = length-take-le 288 (drop 2 w) (simp length-drop (omega (arith, c.long)));
      rows64 = omega (arith, length-view_rows (live_count w) (drop 290 w), c.live);
      history4096 = omega (arith, length-view_history (history_count w) (drop 482 w), c.kept);
    }

-- a part, and what follows it
onward : (a n b : ℕ) (l : List ℕ) → a + n ≡ b → take n (drop a l) ++ drop b l ≡ drop a l
onward a n b l e =
    ap (λ (k : ℕ). take n (drop a l) ++ drop k l) (sym e)
    ∙ ap (λ (q : List ℕ). take n (drop a l) ++ q) (sym (drop-drop n a l))
    ∙ take-append-drop n (drop a l)

two-first : (w : List ℕ) → 2 ≤ length w → get_or w 0 0 ∷ get_or w 1 0 ∷ drop 2 w ≡ w
two-first [] h = absurd (omega arith)
two-first (a ∷ []) h = absurd (omega arith)
two-first (a ∷ b ∷ w) h = refl

-- the words read and written again, and the zeros after them, are the part
again : (x l : List ℕ) (k n : ℕ) → k ≤ n → length l ≡ n → x ≡ take k l → drop k l ≡ zeros (n - k) → padded n x ≡ l
unfolding padded
again x l k n h e p z =
    let q : length x ≡ k = ap length p ∙ length-take-le k l (omega arith) in
    ap (λ (j : ℕ). x ++ zeros (n - j)) q ∙ ap₂ (λ (u v : List ℕ). u ++ v) p (sym z) ∙ take-append-drop k l

-- clean words are those of the machine that they show
pub pack-view : (w : List ℕ) → Clean w → pack (view w) ≡ w
unfolding pack view
pack-view w c =
    let n : ℕ = live_count w in
    let k : ℕ = history_count w in
    let lr : length (take 192 (drop 290 w)) ≡ 192 = length-take-le 192 (drop 290 w) (simp length-drop (omega (arith, c.long))) in
    let lh : length (drop 482 w) ≡ 8192 = length-drop 482 w ∙ omega (arith, c.long) in
    let ld : length (drop 290 w) ≡ length w - 290 = length-drop 290 w in
    let r : padded 192 (pack_rows (view_rows n (drop 290 w))) ≡ take 192 (drop 290 w) =
    again (pack_rows (view_rows n (drop 290 w))) (take 192 (drop 290 w)) (3 * n) 192 (omega (arith, c.live)) lr
    (rows_words n (drop 290 w) (omega (arith, c.live, c.long)) ∙ sym (take-take (3 * n) 192 (drop 290 w) (omega (arith, c.live)))) c.rows0 in
    let h : padded 8192 (pack_history (view_history k (drop 482 w))) ≡ drop 482 w =
    again (pack_history (view_history k (drop 482 w))) (drop 482 w) (2 * k) 8192 (omega (arith, c.kept)) lh
    (history-words k (drop 482 w) (omega (arith, c.kept))) c.history0 in
    ap₂ (λ (x y : ℕ). x ∷ y ∷ take 288 (drop 2 w) ++ padded 192 (pack_rows (view_rows n (drop 290 w))) ++ padded 8192 (pack_history (view_history k (drop 482 w))))
    (length-view_rows n (drop 290 w)) (length-view_history k (drop 482 w))
    ∙ ap₂ (λ (x y : List ℕ). n ∷ k ∷ take 288 (drop 2 w) ++ x ++ y) r h
    ∙ ap (λ (q : List ℕ). n ∷ k ∷ q)
    (right3 (take 288 (drop 2 w)) (take 192 (drop 290 w)) (drop 482 w)
    ∙ ap (λ (q : List ℕ). take 288 (drop 2 w) ++ q) (onward 290 192 482 w refl)
    ∙ onward 2 288 290 w refl)
    ∙ two-first w (omega (arith, c.long))
