-- What a table of calls holds, block by block; codes 12 and 13 from the counts. Assumes nothing.
use Prim.Native.Nat.{ℕ, zero, suc, ◌+◌, ◌*◌, ◌<◌, ◌≤◌}
use native.Mathlib.Nat.{suc-add, zero-add}
use native.Mathlib.Omega.{arith}
use mathlib.Core.Path.{◌≡◌, refl, sym, ap, fun_ext, ◌∙◌}
use mathlib.Core.Bool.{Bool}
use mathlib.Core.List.{List, [], ◌∷◌, ◌++◌, map, map-append, append_assoc}
use lib.ListN.{length, take, drop, get_or, set, length-set, replicate}
use lib.Seq.{get_or-set_same, get_or-set_other, take-suc, take-nil, take-take, take-length, take_at, drop_at, length-take-le, paste, length-paste}
use lib.Dec.{eqb}
use borrow.Author.Count.{below_none, below_more}
use Rattle.std.specs.List.{list_any}
use Rattle.rules.specs.Base.{some_of}
use Rattle.rules.specs.Labels.{called_by, bad12}
use Rattle.rules.specs.Calls.{bad13}
use Rattle.rules.specs.declared.Block.{Block}
use Rattle.laws.specs.CallTable.{calls_from}
use Rattle.called.specs.Calls.{places}
use Rattle.labels.specs.Counts.{BeginsOf}
use Rattle.short.proofs.Programs.{blank, pick-le, get_or-same, get_d_set, some_of-any}

-- ---- codes 12 and 13
pub bad12-read : (program : List Block) (a : List ℕ) (b : Block) → BeginsOf program a
    → bad12 program b ≡ list_any (λ l. eqb (get_or a l 0) 0) (called_by b.instruction)
unfolding bad12
bad12-read program a b h =
    ap (λ (p : ℕ → Bool). some_of p (called_by b.instruction)) (fun_ext (λ x. ap (λ (k : ℕ). eqb k 0) (sym (h.each x))))
    ∙ some_of-any _ (called_by b.instruction)

pub bad13-is : (program : List Block) (a : List ℕ) → BeginsOf program a → eqb (get_or a 0 0) 0 ≡ bad13 program
unfolding bad13
bad13-is program a h = ap (λ (k : ℕ). eqb k 0) (h.each 0)

-- ---- the table
module _ {A : Type 0} where
  drop-take : (a c : ℕ) (l : List A) → drop a (take (a + c) l) ≡ take c (drop a l)
  drop-take zero c l = rw (zero-add c)
  drop-take (suc a) c [] = rw (take-nil {A = A} (suc a + c)) (sym (take-nil c))
  drop-take (suc a) c (x ∷ l) = rw (suc-add a c) (drop-take a c l)

  -- two lists that are alike up to m have alike windows there
  same-window : (a c m : ℕ) (l k : List A) → a + c ≤ m → take m l ≡ take m k → take c (drop a l) ≡ take c (drop a k)
  same-window a c m l k h e =
      sym (drop-take a c l)
      ∙ ap (drop a) (sym (take-take (a + c) m l h) ∙ ap (take (a + c)) e ∙ take-take (a + c) m k h)
      ∙ drop-take a c k

-- the calls of the first i blocks
pub record Listed (blocks : List Block) (i : ℕ) (counts names : List ℕ) : Type 0 where
  pub all_counts : length counts ≡ 128
  pub all_names : length names ≡ places
  pub few : (b : ℕ) → get_or counts b 0 ≤ 8
  pub each : (b : ℕ) → b < i → take (get_or counts b 0) (drop (8 * b) names) ≡ called_by (get_or blocks b blank).instruction

-- labels stored from a place on leave what stands before it, and stand from there on
stored-before : (names labels : List ℕ) (at n : ℕ) → at ≤ length names → take at (paste names at labels n) ≡ take at names
stored-before names labels at n h =
    ap (take at) (append_assoc (take at names) (take n labels) (drop (at + n) names))
    ∙ take_at (take at names) (take n labels ++ drop (at + n) names) at (length-take-le at names h)

stored-there : (names labels : List ℕ) (at n : ℕ) → at ≤ length names → n ≡ length labels → take n (drop at (paste names at labels n)) ≡ labels
stored-there names labels at n h e =
    ap (λ (k : List ℕ). take n (drop at k)) (append_assoc (take at names) (take n labels) (drop (at + n) names))
    ∙ ap (take n) (drop_at (take at names) (take n labels ++ drop (at + n) names) at (length-take-le at names h))
    ∙ rw (e, take-length labels) (take_at labels (drop (at + length labels) names) (length labels) refl)

module _ (blocks : List Block) where
  pub listed-none : Listed blocks 0 (replicate 128 0) (replicate places 0)
  listed-none = record { all_counts = refl; all_names = refl; few = λ b. omega (arith, get_or-same {A = ℕ} 128 b 0); each = below_none _ }

  pub listed-more : (i : ℕ) (counts names labels after : List ℕ) (c : ℕ) → i < 128 → Listed blocks i counts names
      → labels ≡ called_by (get_or blocks i blank).instruction → c ≡ length labels → c ≤ 8 → after ≡ paste names (8 * i) labels c
      → Listed blocks (i + 1) (set counts i c) after
  listed-more i counts names labels after c h t e n small p =
      let all : length names ≡ places = t.all_names in
      let m : length counts ≡ 128 = t.all_counts in
      rw p
      record {
        all_counts = length-set counts i c ∙ m;
        all_names = length-paste names (8 * i) labels c (omega arith) (omega arith) ∙ all;
        few = λ b. rw (get_d_set counts i b c 0 (omega arith)) (pick-le (eqb i b) c (get_or counts b 0) 8 small (t.few b));
        each =
            below_more _ i
            (λ b l.
            rw (get_or-set_other counts i b c 0 (omega arith))
            (same-window (8 * b) (get_or counts b 0) (8 * i) _ names (omega (arith, t.few b)) (stored-before names labels (8 * i) c (omega arith))
            ∙ t.each b l))
            (rw (get_or-set_same counts i c 0 (omega arith)) (stored-there names labels (8 * i) c (omega arith) n ∙ e));
      }

  pub listed-all : (counts names : List ℕ) (n : ℕ) → n ≤ length blocks
      → ((b : ℕ) → b < n → take (get_or counts b 0) (drop (8 * b) names) ≡ called_by (get_or blocks b blank).instruction)
      → calls_from counts names n ≡ map (λ (b : Block). called_by b.instruction) (take n blocks)
  unfolding calls_from
  listed-all counts names zero h each = refl
  listed-all counts names (suc n) h each =
      rw (take-suc blocks n blank h, listed-all counts names n (omega arith) (λ b l. each b (omega arith)), each n (omega arith))
      (sym (map-append _ (take n blocks) (get_or blocks n blank ∷ [])))
