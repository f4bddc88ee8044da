-- The labels of a call, as rules looks through them and adds them up. Assumes nothing.
use mathlib.Core.Path.{◌≡◌, refl, sym, ap, ◌∙◌}
use mathlib.Core.Bool.{Bool, true, false, ◌||◌}
use mathlib.Core.List.{List, [], ◌∷◌, ◌++◌}
use Prim.Native.Nat.{ℕ, ◌+◌, ◌<◌, ◌≤◌, max}
use native.Mathlib.Omega.{arith}
use lib.ListN.{length, take, get_or}
use lib.Seq.{get_or-take}
use Rattle.std.proofs.lemmas.List.{take_all}
use lib.Dec.{eqb}
use lib.Bits.{bit_or}
use Rattle.std.specs.List.{list_any}
use Rattle.std.proofs.lemmas.List.Folds.{list_any_more}
use Rattle.rules.specs.Base.{some_of}
use Rattle.rules.specs.Value.{flag}
use Rattle.rules.specs.Calls.{calls_at, sum_of, reaches_over}
use Rattle.laws.specs.CallTable.{calling_from}
use Rattle.calls.specs.Grid.{Word, Members}
use Rattle.calls.proofs.Grid.{word_zero, word_or}

some-any : (p : ℕ → Bool) (ls : List ℕ) → some_of p ls ≡ list_any p ls
unfolding some_of
some-any p [] = refl
some-any p (l ∷ ls) = ap (λ (a : Bool). p l || a) (some-any p ls)

-- block b's call names the process block of block c
pub named-any : (homes counts names : List ℕ) (n b c : ℕ) → c < n
    → reaches_over (calling_from homes counts names n) 0 b c
    ≡ list_any (λ l. eqb l (get_or homes c 0)) (calls_at (calling_from homes counts names n) b)
unfolding reaches_over
named-any homes counts names n b c l = rw (get_or-take n homes c 0 l) (some-any (λ m. eqb m (get_or homes c 0)) _)

-- the sum over one label more
pub sum_more : (f : ℕ → ℕ) (ls : List ℕ) (x : ℕ) → sum_of f (ls ++ x ∷ []) ≡ sum_of f ls + f x
unfolding sum_of
sum_more f [] x = omega arith
sum_more f (l ∷ ls) x = let h = sum_more f ls x in omega arith

-- ---- a row by the labels of a call, the first of them passed
flag-or : (a b : Bool) → flag (a || b) ≡ max (flag a) (flag b)
flag-or true true = refl
flag-or true false = refl
flag-or false true = refl
flag-or false false = refl

module _ (homes ls : List ℕ) where
  -- whether one of the first i labels is that of block c's process block
  abbrev pub named_by : ℕ → ℕ → ℕ
  named_by i c = flag (list_any (λ l. eqb l (get_or homes c 0)) (take i ls))

  pub row-none : (n : ℕ) → Word (named_by 0) 0 n 0
  row-none n = word_zero (named_by 0) n (λ c. refl)

  pub row-more : (table : List ℕ) (n i h v : ℕ) → Members homes n table → h ≡ get_or ls i 0 → h < 256 → i < length ls → Word (named_by i) 0 n v
      → Word (named_by (i + 1)) 0 n (bit_or v (get_or table h 0))
  row-more table n i h v m e few k a =
      word_or (named_by i) (λ c. flag (eqb h (get_or homes c 0))) (named_by (i + 1)) n v (get_or table h 0) a (m h few)
      (λ c.
      ap flag (list_any_more (λ l. eqb l (get_or homes c 0)) ls i 0 k)
      ∙ flag-or (list_any (λ l. eqb l (get_or homes c 0)) (take i ls)) (eqb (get_or ls i 0) (get_or homes c 0))
      ∙ ap (λ (x : ℕ). max (named_by i c) (flag (eqb x (get_or homes c 0)))) (sym e))

-- all of them passed
pub row-all : (homes counts names : List ℕ) (n b i w : ℕ) → length (calls_at (calling_from homes counts names n) b) ≤ i
    → Word (named_by homes (calls_at (calling_from homes counts names n) b) i) 0 n w
    → Word (λ c. flag (reaches_over (calling_from homes counts names n) 0 b c)) 0 n w
row-all homes counts names n b i w h r =
    record {
      fits = r.fits;
      each =
          λ c l.
          let k : 0 + c < n = omega arith in
          r.each c l
          ∙ ap flag
          (ap (list_any (λ x. eqb x (get_or homes (0 + c) 0))) (take_all i _ h) ∙ sym (named-any homes counts names n b (0 + c) k));
    }
