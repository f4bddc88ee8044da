-- The newest entry of a process, read off the words: where it stands in the history, and whether the graph holds it. Assumes nothing.
use mathlib.Core.Path.{◌≡◌, refl, sym, ap, ◌∙◌, subst}
use mathlib.Core.Bool.{true, false}
use mathlib.Core.List.{List, [], ◌∷◌, ◌++◌}
use Rattle.std.specs.Prelude.{Option, Some, None, is_none, IfSome, MatchOption, Result, Ok, Err}
use Rattle.std.specs.Option.{ok_or}
use Rattle.std.specs.Bool.{then_some}
use mathlib.Core.Bool.{Bool, not}
use Rattle.rules.specs.declared.Code.{Code}
use Prim.Native.Nat.{ℕ, zero, suc, ◌+◌, ◌-◌, ◌*◌, ◌≤◌, ◌<◌}
use native.Mathlib.Omega.{arith}
use lib.ListN.{take, drop, get_or}
use lib.Seq.{split_at}
use lib.Dec.{eqb}
use borrow.Author.Tests.{ne_eqb}
use Rattle.rules.specs.Base.{some_of}
use Rattle.rules.specs.Machine.{Kept, history_count, view}
use Rattle.rules.specs.Cause.{holds}
use Rattle.rules.specs.declared.Block.{Block}
use Rattle.laws.specs.Conflict.{conflicts}
use Rattle.laws.proofs.View.{kept_at, no_entry, kept-at, length-history, history-from, history-end}
use Rattle.cause.specs.Held.{IsNewest, Newest, Scanned, later_conflict}
use Rattle.theorems.specs.Held.{held, held_none, none-counted}
use Rattle.step.specs.History.{NewestAt}
use Rattle.undo.specs.Freed.{BlocksBelow}

-- no entry from i on is of p
none_from : (w : List ℕ) (p : ℕ) (n i : ℕ) → i + n ≡ history_count w → ((j : ℕ) → i ≤ j → j < history_count w → get_or w (482 + 2 * j) 0 ≡ p → ⊥)
    → some_of (λ j. eqb j.identifier p) (drop i (view w).history) ≡ false
unfolding some_of
none_from w p zero i e h =
    let z : i ≡ history_count w = omega arith in
    let q : drop i (view w).history ≡ [] = ap (λ (k : ℕ). drop k (view w).history) z ∙ history-end w in
    rw q
none_from w p (suc n) i e h =
    let k : i < history_count w = omega arith in
    rw (history-from w i k, ne_eqb (get_or w (482 + 2 * i) 0) p (h i (omega arith) k))
    (none_from w p n (suc i) (omega arith) (λ j l s. h j (omega arith) s))

pub newest-at : (w : List ℕ) (p r : ℕ) → IsNewest w p r → NewestAt (view w).history p r
newest-at w p r n =
    record {
      there = omega (arith, length-history w, n.within);
      own = ap (λ (k : Kept). k.identifier) (kept-at w r n.within) ∙ n.here;
      last = none_from w p (history_count w - suc r) (suc r) (omega (arith, n.within)) (λ j l s. n.past j l s);
    }

-- where p has no entry, there is none that could go back
pub none-holds : (program : List Block) (w : List ℕ) (p : ℕ) → Newest w p None → holds program (view w).history p ≡ true
none-holds program w p n =
    held_none program (view w).history p
    (none-counted program p (view w).history (none_from w p (history_count w) 0 (omega arith) (λ j h s. n j s)))

-- code 27 by the later entries
pub held-is : (program : List Block) (w : List ℕ) (p r : ℕ) → IsNewest w p r → later_conflict program w r ≡ holds program (view w).history p
held-is program w p r n =
    let H : List Kept = (view w).history in
    let g = newest-at w p r n in
    let s : H ≡ take r H ++ get_or H r no_entry ∷ drop (suc r) H = split_at H r no_entry g.there in
    let k : get_or H r no_entry ≡ kept_at w r = kept-at w r n.within in
    let l = held program (take r H) (get_or H r no_entry) (drop (suc r) H)
    (subst (λ (x : ℕ). some_of (λ j. eqb j.identifier x) (drop (suc r) H) ≡ false) (sym g.own) g.last) in
    ap (λ (x : Kept). some_of (conflicts program x) (drop (suc r) H)) (sym k)
    ∙ sym l
    ∙ ap (λ (x : ℕ). holds program (take r H ++ get_or H r no_entry ∷ drop (suc r) H) x) g.own
    ∙ ap (λ (x : List Kept). holds program x p) (sym s)

pub scanned : (w : List ℕ) (bound i : ℕ) → BlocksBelow w bound → i < history_count w → Scanned w i bound
scanned w bound i b h = record { long = b.long; kept = b.kept; here = h; blocks = b.blocks }

-- ---- the newest entry, kept where a test b passes
module _ (w : List ℕ) (p : ℕ) (Q : Bool → ℕ → Type 0) where
  pub newest-kept : (o r : Option ℕ) → Newest w p o → MatchOption o (r ≡ None) (λ x. (b : Bool) × Q b x × (r ≡ then_some b x))
      → IfSome r (λ i. NewestAt (view w).history p i)
  newest-kept None r n e = rw e tt
  newest-kept (Some x) r n f = go f.0 f.2
    where
      go : (b : Bool) → r ≡ then_some b x → IfSome r (λ i. NewestAt (view w).history p i)
      go true e = rw e (newest-at w p x n)
      go false e = rw e tt

  pub free-kept : (program : List Block) (o r : Option ℕ) → Newest w p o
      → ((b : Bool) (x : ℕ) → Q b x → IsNewest w p x → b ≡ not (later_conflict program w x))
      → MatchOption o (r ≡ None) (λ x. (b : Bool) × Q b x × (r ≡ then_some b x)) → holds program (view w).history p ≡ is_none r
  free-kept program None r n k e = none-holds program w p n ∙ sym (ap is_none e)
  free-kept program (Some x) r n k f = go f.0 (later_conflict program w x) refl (k f.0 x f.1 n) f.2
    where
      go : (b c : Bool) → later_conflict program w x ≡ c → b ≡ not (later_conflict program w x) → r ≡ then_some b x
          → holds program (view w).history p ≡ is_none r
      go true true l h e = let z = h ∙ ap not l in cc
      go true false l h e = sym (held-is program w p x n) ∙ l ∙ sym (ap is_none e)
      go false true l h e = sym (held-is program w p x n) ∙ l ∙ sym (ap is_none e)
      go false false l h e = let z = h ∙ ap not l in cc

-- code 27 where there is no such entry
held-error : {x y : Code} → ◌≡◌ {A = Result ℕ Code} (Err x) (Err y) → x ≡ y
held-error e = cc

not-held : {x : ℕ} {c : Code} → ◌≡◌ {A = Result ℕ Code} (Ok x) (Err c) → ⊥
not-held e = cc

same-entry : {x y : ℕ} → ◌≡◌ {A = Result ℕ Code} (Ok x) (Ok y) → x ≡ y
same-entry e = cc

pub none-free : (o : Option ℕ) (d : Code) → Err d ≡ ok_or o Code.Held → (is_none o ≡ true) × (d ≡ Code.Held)
none-free None d e = (refl, held-error e)
none-free (Some k) d e = absurd (not-held (sym e))

pub some-free : (o : Option ℕ) (i : ℕ) → Ok i ≡ ok_or o Code.Held → o ≡ Some i
some-free None i e = absurd (not-held e)
some-free (Some k) i e = ap Some (sym (same-entry e))

pub newest-of : (w : List ℕ) (p q : ℕ) (o : Option ℕ) (i : ℕ) → Ok i ≡ ok_or o Code.Held → p ≡ q → IfSome o (λ j. NewestAt (view w).history p j)
    → NewestAt (view w).history q i
newest-of w p q None i e s n = absurd (not-held e)
newest-of w p q (Some k) i e s n =
    subst (λ (x : ℕ). NewestAt (view w).history x i) s (subst (λ (j : ℕ). NewestAt (view w).history p j) (sym (same-entry e)) n)
