-- Programs that grow by one block at the end, as loops over them go; rules' tests over lists and numbers are std's. Assumes nothing.
use Prim.Native.Nat.{ℕ, zero, suc, ◌+◌, ◌<◌, ◌≤◌}
use native.Mathlib.Nat.{add-zero, zero-add}
use native.Mathlib.Omega.{arith}
use mathlib.Core.Path.{◌≡◌, refl, sym, ap, ap₂, ◌∙◌}
use mathlib.Core.Bool.{Bool, true, false, ◌&&◌, ◌||◌, or-false}
use mathlib.Core.List.{List, [], ◌∷◌, ◌++◌}
use lib.ListN.{length, take, get_or, set, replicate}
use lib.Seq.{get_or-set_same, get_or-set_other}
use lib.Dec.{eqb}
use borrow.Author.Tests.{eqb-true, eqb-false}
use Rattle.std.specs.List.{list_any, list_all, range_with_len}
use Rattle.std.proofs.lemmas.List.Folds.{list_any-append, list_any_more}
use Rattle.std.proofs.lemmas.List.Recursion.{same_from_clauses}
pub use Rattle.std.proofs.lemmas.List.{take_more}
use Rattle.rules.specs.Base.{pick, some_of, each_of, some_below}
use Rattle.rules.specs.Labels.{entry_labels, exit_labels, begin_labels, end_labels}
use Rattle.rules.specs.declared.Block.{Block}
use Rattle.rules.specs.declared.Entry.{Entry}
use Rattle.rules.specs.declared.Exit.{Exit}
use Rattle.rules.specs.declared.Instruction.{Instruction}
use Rattle.rules.specs.declared.Change.{Change}
use Rattle.rules.specs.declared.Target.{Target}
use Rattle.rules.specs.declared.Expression.{Expression}
use Rattle.rules.specs.declared.Operand.{Operand}

-- what a slice of blocks is taken to have past its end
abbrev pub blank : Block
blank =
    record {
      entry = Entry.From 0;
      instruction = Instruction.Update Change.Add (Target.Variable 0) (Expression.Plain (Operand.Constant 0));
      exit = Exit.To 0;
    }

-- no part of a block has over eight labels
pub entry-short : (e : Entry) → length (entry_labels e) ≤ 8
entry-short (Entry.From l) = omega arith
entry-short (Entry.Either l m e) = omega arith
entry-short (Entry.Begin l) = omega arith

pub exit-short : (e : Exit) → length (exit_labels e) ≤ 8
exit-short (Exit.To l) = omega arith
exit-short (Exit.Either e l m) = omega arith
exit-short (Exit.End l) = omega arith

pub begin-short : (e : Entry) → length (begin_labels e) ≤ 8
begin-short (Entry.From l) = omega arith
begin-short (Entry.Either l m e) = omega arith
begin-short (Entry.Begin l) = omega arith

pub end-short : (e : Exit) → length (end_labels e) ≤ 8
end-short (Exit.To l) = omega arith
end-short (Exit.Either e l m) = omega arith
end-short (Exit.End l) = omega arith

-- ---- lists
pub pick-le : (t : Bool) (a b m : ℕ) → a ≤ m → b ≤ m → pick t a b ≤ m
unfolding pick
pick-le true a b m p q = p
pick-le false a b m p q = q

module _ {A : Type 0} where
  pub get_or-same : (n i : ℕ) (a : A) → get_or (replicate n a) i a ≡ a
  get_or-same zero i a = refl
  get_or-same (suc n) zero a = refl
  get_or-same (suc n) (suc i) a = get_or-same n i a

  -- an element changed
  pub get_d_set : (l : List A) (i x : ℕ) (v d : A) → i < length l → get_or (set l i v) x d ≡ pick (eqb i x) v (get_or l x d)
  unfolding pick
  get_d_set l i x v d h = go (eqb i x) refl
    where
      go : (b : Bool) → eqb i x ≡ b → get_or (set l i v) x d ≡ pick (eqb i x) v (get_or l x d)
      go true e = rw (e, ← eqb-true i x e) (get_or-set_same l i v d h)
      go false e = rw e (get_or-set_other l i x v d (λ q. eqb-false i x e (sym q)))

-- ---- tests
module _ {A : Type 0} (p : A → Bool) where
  pub some_of-any : (l : List A) → some_of p l ≡ list_any p l
  unfolding some_of
  some_of-any = same_from_clauses (some_of p) (list_any p) (λ a b. p a || b) refl (λ _ _. refl) (λ _ _. refl)

  pub each_of-all : (l : List A) → each_of p l ≡ list_all p l
  unfolding each_of
  each_of-all = same_from_clauses (each_of p) (list_all p) (λ a b. p a && b) refl (λ _ _. refl) (λ _ _. refl)

  pub some-of_append : (l m : List A) → some_of p (l ++ m) ≡ some_of p l || some_of p m
  some-of_append l m = some_of-any (l ++ m) ∙ list_any-append p l m ∙ sym (ap₂ (λ (a b : Bool). a || b) (some_of-any l) (some_of-any m))

  pub some-of_more : (l : List A) (i : ℕ) (d : A) → i < length l → some_of p (take (i + 1) l) ≡ some_of p (take i l) || p (get_or l i d)
  some-of_more l i d h =
      some_of-any (take (i + 1) l) ∙ list_any_more p l i d h ∙ ap (λ (b : Bool). b || p (get_or l i d)) (sym (some_of-any (take i l)))

range_more : (a n : ℕ) → range_with_len a (suc n) ≡ range_with_len a n ++ (a + n) ∷ []
range_more a zero = ap (λ (k : ℕ). k ∷ []) (sym (add-zero a))
range_more a (suc n) =
    let e : a + 1 + n ≡ a + suc n = omega arith in
    ap (λ (l : List ℕ). a ∷ l) (range_more (a + 1) n ∙ ap (λ (k : ℕ). range_with_len (a + 1) n ++ k ∷ []) e)

pub some_below-any : (p : ℕ → Bool) (n : ℕ) → some_below p n ≡ list_any p (range_with_len 0 n)
unfolding some_below
some_below-any p zero = refl
some_below-any p (suc n) =
    sym
    (ap (list_any p) (range_more 0 n)
    ∙ list_any-append p (range_with_len 0 n) ((0 + n) ∷ [])
    ∙ rw (or-false (p (0 + n)), zero-add n, some_below-any p n) refl)
