-- What tables of counts hold, label by label and block by block, and that code 10 is read off them. Assumes nothing.
use Prim.Native.Nat.{ℕ, ◌+◌, ◌*◌, ◌<◌, ◌≤◌}
use native.Mathlib.Nat.{add-zero, zero-add, add_assoc}
use native.Mathlib.Omega.{arith}
use mathlib.Core.Path.{◌≡◌, refl, sym, ap, ap₂, fun_ext, ◌∙◌}
use mathlib.Core.Bool.{Bool, true, false, not, ◌&&◌, and_assoc}
use mathlib.Core.List.{List, [], ◌∷◌, ◌++◌}
use lib.ListN.{length, take, get_or, set, length-set, replicate}
use lib.Seq.{get_or-set_same, get_or-set_other}
use lib.Dec.{eqb}
use borrow.Author.Tests.{eqb-true, eqb-false}
use Rattle.std.specs.List.{list_all}
use Rattle.std.proofs.lemmas.List.{take_more}
use Rattle.std.proofs.lemmas.List.Folds.{list_all-append}
use Rattle.rules.specs.Base.{pick, times, each_of}
use Rattle.rules.specs.Labels.{entry_labels, exit_labels, begin_labels, end_labels, ordinary_labels, count, ordinary, outer, bad10}
use Rattle.rules.specs.declared.Block.{Block}
use Rattle.laws.proofs.Times.{times-append}
use Rattle.labels.specs.declared.counts.Counts.{Counts}
use Rattle.short.specs.Low.{most, Low}
use Rattle.labels.specs.Counts.{Raised, Counted, CountsOf, ordinary_in, outer_in, bad_by}
use Rattle.short.proofs.Programs.{each_of-all, pick-le, get_or-same}

-- ---- how often a label stands in a list
pub times-le : (x : ℕ) (l : List ℕ) → times x l ≤ length l
unfolding times
times-le x [] = omega arith
times-le x (y ∷ l) = omega (arith, times-le x l, pick-le (eqb y x) 1 0 1 (omega arith) (omega arith))

-- ---- a table is raised, label by label
pub raised-none : (a l : List ℕ) → Raised a (take 0 l) a
unfolding times
raised-none a l = record { size = refl; each = λ x. sym (add-zero (get_or a x 0)) }

times_more : (x : ℕ) (l : List ℕ) (k : ℕ) → k < length l → times x (take (k + 1) l) ≡ times x (take k l) + pick (eqb (get_or l k 0) x) 1 0
unfolding times
times_more x l k h =
    rw (take_more l k 0 h) (times-append x (take k l) (get_or l k 0 ∷ [])
    ∙ ap (λ (m : ℕ). times x (take k l) + m) (add-zero (pick (eqb (get_or l k 0) x) 1 0)))

-- one more at y, as a list sees it at x
raised_at : (b : List ℕ) (y x : ℕ) → y < length b → get_or (set b y (get_or b y 0 + 1)) x 0 ≡ get_or b x 0 + pick (eqb y x) 1 0
unfolding pick
raised_at b y x h = go (eqb y x) refl
  where
    go : (e : Bool) → eqb y x ≡ e → get_or (set b y (get_or b y 0 + 1)) x 0 ≡ get_or b x 0 + pick (eqb y x) 1 0
    go true e = rw (e, ← eqb-true y x e) (get_or-set_same b y (get_or b y 0 + 1) 0 h)
    go false e = rw e (get_or-set_other b y x (get_or b y 0 + 1) 0 (λ q. eqb-false y x e (sym q)) ∙ sym (add-zero (get_or b x 0)))

pub raised-more : (a l b : List ℕ) (k : ℕ) → k < length l → get_or l k 0 < length a → Raised a (take k l) b
    → Raised a (take (k + 1) l) (set b (get_or l k 0) (get_or b (get_or l k 0) 0 + 1))
raised-more a l b k h s r =
    let y = get_or l k 0 in
    let t : length b ≡ length a = r.size in
    record {
      size = length-set b y (get_or b y 0 + 1) ∙ r.size;
      each =
          λ x.
          raised_at b y x (omega arith) ∙ ap (λ (m : ℕ). m + pick (eqb y x) 1 0) (r.each x)
          ∙ add_assoc (get_or a x 0) (times x (take k l)) (pick (eqb y x) 1 0)
          ∙ ap (λ (m : ℕ). get_or a x 0 + m) (sym (times_more x l k h));
    }

pub raised-low : (a l b : List ℕ) (m j x : ℕ) → Low m a → Raised a l b → length l ≤ j → get_or b x 0 ≤ m + j
raised-low a l b m j x low r h = omega (arith, low x, r.each x, times-le x l)

-- ---- the counts of a program, block by block
count-append : (stands : Block → List ℕ) (p q : List Block) (x : ℕ) → count stands (p ++ q) x ≡ count stands p x + count stands q x
unfolding count
count-append stands [] q x = sym (zero-add (count stands q x))
count-append stands (b ∷ p) q x = rw (count-append stands p q x) (sym (add_assoc (times x (stands b)) (count stands p x) (count stands q x)))

pub counted-none : (stands : Block → List ℕ) → Counted stands [] (replicate 256 0)
unfolding count
counted-none stands = record { size = refl; each = λ x. get_or-same 256 x 0 }

module _ (stands : Block → List ℕ) (program : List Block) where
  pub counted-more : (b : Block) (a l c : List ℕ) → Counted stands program a → l ≡ stands b → Raised a l c → Counted stands (program ++ b ∷ []) c
  unfolding count
  counted-more b a l c h e r =
      record {
        size = r.size ∙ h.size;
        each =
            λ x.
            r.each x ∙ ap (λ (m : ℕ). m + times x l) (h.each x) ∙ ap (λ (m : List ℕ). count stands program x + times x m) e
            ∙ sym (count-append stands program (b ∷ []) x ∙ ap (λ (m : ℕ). count stands program x + m) (add-zero (times x (stands b))));
      }

-- a block stands in at most eight labels of a kind, so the counts stay low
module _ (stands : Block → List ℕ) (short : (b : Block) → length (stands b) ≤ 8) where
  count-le : (program : List Block) (x : ℕ) → count stands program x ≤ 8 * length program
  unfolding count
  count-le [] x = omega arith
  count-le (b ∷ program) x = omega (arith, count-le program x, times-le x (stands b), short b)

  pub counted-room :
      (program : List Block) (a l : List ℕ) (b : Block) → length program < 128 → Counted stands program a → l ≡ stands b → Low most a × (length l ≤ most)
  counted-room program a l b few h e = (λ x. omega (arith, h.each x, count-le program x), omega (arith, ap length e, short b))

-- ---- code 10
parts : (p : ℕ → Bool) (l m : List ℕ) → each_of p (l ++ m) ≡ list_all p l && list_all p m
parts p l m = each_of-all p (l ++ m) ∙ list_all-append p l m

pub bad10-read : (program : List Block) (c : Counts) → CountsOf program c → (b : Block) → bad10 program b ≡ bad_by c b
unfolding bad10 ordinary outer
bad10-read program c h b =
    ap (λ (p : ℕ → Bool). not (each_of p (ordinary_labels b) && each_of (outer program) outer_labels)) (fun_ext inner)
    ∙ ap (λ (p : ℕ → Bool). not (each_of (ordinary_in c) (ordinary_labels b) && each_of p outer_labels)) (fun_ext around)
    ∙ ap₂ (λ (p q : Bool). not (p && q)) (parts (ordinary_in c) (entry_labels b.entry) (exit_labels b.exit))
    (parts (outer_in c) (begin_labels b.entry) (end_labels b.exit))
    ∙ ap not (and_assoc (list_all (ordinary_in c) (entry_labels b.entry)) (list_all (ordinary_in c) (exit_labels b.exit)) _)
  where
    outer_labels : List ℕ
    outer_labels = begin_labels b.entry ++ end_labels b.exit

    inner : (l : ℕ) → ordinary program l ≡ ordinary_in c l
    inner l = rw (h.entries.each l, h.exits.each l, h.begins.each l, h.ends.each l) refl

    around : (l : ℕ) → outer program l ≡ outer_in c l
    around l = rw (h.begins.each l, h.ends.each l, h.entries.each l, h.exits.each l) refl
