-- A block put at labels, one after the other. Assumes nothing.
use Prim.Native.Nat.{ℕ, ◌+◌, ◌<◌, ◌≤◌}
use mathlib.Core.Path.{◌≡◌, refl, sym, ap, subst, ◌∙◌}
use mathlib.Core.Bool.{Bool, true, false, ◌||◌, or-false}
use mathlib.Core.List.{List, [], ◌∷◌}
use lib.ListN.{length, get_or, set, take, length-set}
use lib.Seq.{get_or-set_same, get_or-set_other, take_all}
use lib.Dec.{eqb}
use borrow.Author.Tests.{eqb-true, eqb-false}
use Rattle.rules.specs.Base.{pick, some_of}
use Rattle.rules.specs.Machine.{place, begin, run, end}
use Rattle.laws.proofs.Lists.{get_d_any}
use Rattle.rules.specs.Labels.{no_block, block_of, entry_labels, exit_labels, begin_labels, end_labels}
use Rattle.rules.specs.Fits.{entry_holds, exit_holds}
use Rattle.rules.specs.declared.Block.{Block}
use Rattle.rules.specs.declared.Entry.{Entry}
use Rattle.rules.specs.declared.Exit.{Exit}
use Rattle.short.proofs.Programs.{take_more, some-of_append}
use Rattle.places.specs.Places.{Noted}

pub noted_none : (ls t : List ℕ) (b : ℕ) → Noted (take 0 ls) b t t
unfolding pick some_of
noted_none ls t b = record { size = refl; each = λ x d. refl }

-- at one label more
pub noted_more : (ls t u : List ℕ) (i l b : ℕ) → i < length ls → l ≡ get_or ls i 0 → l < length u → Noted (take i ls) b t u
    → Noted (take (i + 1) ls) b t (set u l b)
unfolding pick some_of
noted_more ls t u i l b h e within n =
    record {
      size = length-set u l b ∙ n.size;
      each = λ x d. rw (take_more ls i 0 h, some-of_append (eqb x) (take i ls) (get_or ls i 0 ∷ []), ← e) (go x d (eqb x l) refl);
    }
  where
    first : (u : Bool) (old : ℕ) → b ≡ pick (u || (true || false)) b old
    first true old = refl
    first false old = refl

    kept : (u : Bool) (old : ℕ) → pick u b old ≡ pick (u || (false || false)) b old
    kept true old = refl
    kept false old = refl

    go : (x d : ℕ) (v : Bool) → eqb x l ≡ v → get_or (set u l b) x d ≡ pick (some_of (eqb x) (take i ls) || (eqb x l || false)) b (get_or t x d)
    go x d true q = rw q (rw (eqb-true x l q) (get_or-set_same u l b d within) ∙ first (some_of (eqb x) (take i ls)) (get_or t x d))
    go x d false q = rw q (get_or-set_other u l x b d (eqb-false x l q) ∙ n.each x d ∙ kept (some_of (eqb x) (take i ls)) (get_or t x d))

pub noted_all : (ls t u : List ℕ) (i b : ℕ) → length ls ≤ i → Noted (take i ls) b t u → Noted ls b t u
noted_all ls t u i b h n = subst (λ (l : List ℕ). Noted l b t u) (take_all i ls h) n

-- rules' tests look through the same labels
entry-run : (e : Entry) (x : ℕ) → entry_holds e (place x run) ≡ some_of (eqb x) (entry_labels e)
unfolding some_of
entry-run (Entry.From l) x = sym (or-false (eqb x l))
entry-run (Entry.Either l m c) x = ap (λ (v : Bool). eqb x l || v) (sym (or-false (eqb x m)))
entry-run (Entry.Begin l) x = refl

entry-begin : (e : Entry) (x : ℕ) → entry_holds e (place x begin) ≡ some_of (eqb x) (begin_labels e)
unfolding some_of
entry-begin (Entry.From l) x = refl
entry-begin (Entry.Either l m c) x = refl
entry-begin (Entry.Begin l) x = sym (or-false (eqb x l))

exit-run : (e : Exit) (x : ℕ) → exit_holds e (place x run) ≡ some_of (eqb x) (exit_labels e)
unfolding some_of
exit-run (Exit.To l) x = sym (or-false (eqb x l))
exit-run (Exit.Either c l m) x = ap (λ (v : Bool). eqb x l || v) (sym (or-false (eqb x m)))
exit-run (Exit.End l) x = refl

exit-end : (e : Exit) (x : ℕ) → exit_holds e (place x end) ≡ some_of (eqb x) (end_labels e)
unfolding some_of
exit-end (Exit.To l) x = refl
exit-end (Exit.Either c l m) x = refl
exit-end (Exit.End l) x = sym (or-false (eqb x l))

-- the same for a block as the code reads it
module _ (blocks : List Block) (i : ℕ) (d : Block) (ls : List ℕ) (l : i < length blocks) where
  here : block_of blocks i ≡ get_or blocks i d
  here = get_d_any blocks i no_block d l

  pub entry_at : ls ≡ entry_labels (get_or blocks i d).entry → (x : ℕ) → entry_holds (block_of blocks i).entry (place x run) ≡ some_of (eqb x) ls
  entry_at e x = entry-run (block_of blocks i).entry x ∙ ap (λ (k : Block). some_of (eqb x) (entry_labels k.entry)) here ∙ ap (some_of (eqb x)) (sym e)

  pub begin_at : ls ≡ begin_labels (get_or blocks i d).entry → (x : ℕ) → entry_holds (block_of blocks i).entry (place x begin) ≡ some_of (eqb x) ls
  begin_at e x =
      entry-begin (block_of blocks i).entry x ∙ ap (λ (k : Block). some_of (eqb x) (begin_labels k.entry)) here ∙ ap (some_of (eqb x)) (sym e)

  pub exit_at : ls ≡ exit_labels (get_or blocks i d).exit → (x : ℕ) → exit_holds (block_of blocks i).exit (place x run) ≡ some_of (eqb x) ls
  exit_at e x = exit-run (block_of blocks i).exit x ∙ ap (λ (k : Block). some_of (eqb x) (exit_labels k.exit)) here ∙ ap (some_of (eqb x)) (sym e)

  pub end_at : ls ≡ end_labels (get_or blocks i d).exit → (x : ℕ) → exit_holds (block_of blocks i).exit (place x end) ≡ some_of (eqb x) ls
  end_at e x = exit-end (block_of blocks i).exit x ∙ ap (λ (k : Block). some_of (eqb x) (end_labels k.exit)) here ∙ ap (some_of (eqb x)) (sym e)
