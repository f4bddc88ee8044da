-- Where code 10 passed, a place is held by one entry and by one exit: the block at a place, and the block that it leads to.
-- Assumes that the image is accepted.
use Rattle.std.specs.Prelude.{◌≡◌, refl, ◌⊎◌, ◌≢◌, true, ◌||◌, eqb}
use Rattle.std.proofs.Common.{sym, ap, subst, inl, inr}
use mathlib.Core.List.{List, [], ◌∷◌, ◌++◌}
use Prim.Native.Nat.{ℕ, zero, suc, ◌+◌, ◌<◌, ◌≤◌}
use native.Mathlib.Omega.{arith}
use Rattle.std.proofs.Math.Decide.{ℕ_discrete}
use Rattle.std.proofs.Math.ListN.{length}
use borrow.Author.Tests.{eqb-true, not-false}
use Rattle.theory.specs.Tests.{eqb_same, and-true, or_cases, or_left, or_right}
use Rattle.rules.specs.Base.{pick, each_of, times}
use Rattle.rules.specs.Labels.{block_of, entry_labels, exit_labels, begin_labels, end_labels, count, entries, exits, begins, ends, ordinary, outer, bad10}
use Rattle.rules.specs.Machine.{begin, run, end, place}
use Rattle.rules.specs.Fits.{entry_holds, exit_holds, entry_block, exit_block}
use Rattle.rules.specs.declared.Entry.{Entry}
use Rattle.rules.specs.declared.Exit.{Exit}
use Rattle.rules.specs.declared.Block.{Block}
use Rattle.rules.specs.declared.Place.{Place}
use Rattle.laws.proofs.Lists.{each-parts}
use Rattle.laws.proofs.Search.{lowest-one, lowest-found}
use Rattle.laws.proofs.Times.{each-times, times-here, times-past, times-other}
use Rattle.theorems.specs.Accepted.{Passed}

-- ---- counting
module _ (stands : Block → List ℕ) (l : ℕ) where
  abbrev of_block : List Block → ℕ → ℕ
  of_block program b = times l (stands (block_of program b))

  count_at : (program : List Block) (b : ℕ) → b < length program → of_block program b ≤ count stands program l
  unfolding count
  count_at [] b lt = absurd (omega arith)
  count_at (c ∷ program) zero lt = omega arith
  count_at (c ∷ program) (suc b) lt = omega (arith, count_at program b (omega arith))

  count-two :
      (program : List Block) (b c : ℕ) → b < length program → c < length program → b ≢ c →
      of_block program b + of_block program c ≤ count stands program l
  unfolding count
  count-two [] b c lb lc n = absurd (omega arith)
  count-two (x ∷ program) zero zero lb lc n = absurd (n refl)
  count-two (x ∷ program) zero (suc c) lb lc n = omega (arith, count_at program c (omega arith))
  count-two (x ∷ program) (suc b) zero lb lc n = omega (arith, count_at program b (omega arith))
  count-two (x ∷ program) (suc b) (suc c) lb lc n = omega (arith, count-two program b c (omega arith) (omega arith) (λ e. n (ap suc e)))

  pub count-some : (program : List Block) → 1 ≤ count stands program l → (b : ℕ) × (b < length program) × (1 ≤ of_block program b)
  unfolding count
  count-some [] h = absurd (omega arith)
  count-some (x ∷ program) h = go (ℕ_discrete (times l (stands x)) 0) (λ k. count-some program k)
    where
      go :
          Dec (times l (stands x) ≡ 0) → (1 ≤ count stands program l → (b : ℕ) × (b < length program) × (1 ≤ of_block program b)) →
          (b : ℕ) × (b < length (x ∷ program)) × (1 ≤ of_block (x ∷ program) b)
      go (yes e) ih = let y = ih (omega (arith, e)) in (suc y.0, omega (arith, y.1), y.2)
      go (no n) ih = (0, omega arith, omega (arith, n))

  one_place :
      (program : List Block) (b c : ℕ) → b < length program → c < length program → count stands program l ≡ 1 → 1 ≤ of_block program b →
      1 ≤ of_block program c → c ≡ b
  one_place program b c lb lc e hb hc = go (ℕ_discrete c b)
    where
      go : Dec (c ≡ b) → c ≡ b
      go (yes x) = x
      go (no n) = absurd (omega (arith, count-two program b c lb lc (λ x. n (sym x)), e, hb, hc))

-- ---- what an entry and an exit hold
pub entry_in :
    (e : Entry) (q : Place) → entry_holds e q ≡ true →
    ((q.stage ≡ run) × (1 ≤ times q.label (entry_labels e))) ⊎ ((q.stage ≡ begin) × (1 ≤ times q.label (begin_labels e)))
unfolding times pick
entry_in (Entry.From l) q h =
    let x = and-true (eqb q.stage run) (eqb q.label l) h in
    inl (eqb-true q.stage run x.0, omega (arith, times-here q.label l [] (sym (eqb-true q.label l x.1))))
entry_in (Entry.Either l m e) q h =
    let x = and-true (eqb q.stage run) (eqb q.label l || eqb q.label m) h in
    inl (eqb-true q.stage run x.0, go (or_cases (eqb q.label l) (eqb q.label m) x.1))
  where
    go : (eqb q.label l ≡ true) ⊎ (eqb q.label m ≡ true) → 1 ≤ times q.label (l ∷ m ∷ [])
    go (inl y) = omega (arith, times-here q.label l (m ∷ []) (sym (eqb-true q.label l y)))
    go (inr y) = omega (arith, times-here q.label m [] (sym (eqb-true q.label m y)), times-past q.label l (m ∷ []))
entry_in (Entry.Begin l) q h =
    let x = and-true (eqb q.stage begin) (eqb q.label l) h in
    inr (eqb-true q.stage begin x.0, omega (arith, times-here q.label l [] (sym (eqb-true q.label l x.1))))

pub exit_in :
    (e : Exit) (q : Place) → exit_holds e q ≡ true →
    ((q.stage ≡ run) × (1 ≤ times q.label (exit_labels e))) ⊎ ((q.stage ≡ end) × (1 ≤ times q.label (end_labels e)))
unfolding times pick
exit_in (Exit.To l) q h =
    let x = and-true (eqb q.stage run) (eqb q.label l) h in
    inl (eqb-true q.stage run x.0, omega (arith, times-here q.label l [] (sym (eqb-true q.label l x.1))))
exit_in (Exit.Either e l m) q h =
    let x = and-true (eqb q.stage run) (eqb q.label l || eqb q.label m) h in
    inl (eqb-true q.stage run x.0, go (or_cases (eqb q.label l) (eqb q.label m) x.1))
  where
    go : (eqb q.label l ≡ true) ⊎ (eqb q.label m ≡ true) → 1 ≤ times q.label (l ∷ m ∷ [])
    go (inl y) = omega (arith, times-here q.label l (m ∷ []) (sym (eqb-true q.label l y)))
    go (inr y) = omega (arith, times-here q.label m [] (sym (eqb-true q.label m y)), times-past q.label l (m ∷ []))
exit_in (Exit.End l) q h =
    let x = and-true (eqb q.stage end) (eqb q.label l) h in
    inr (eqb-true q.stage end x.0, omega (arith, times-here q.label l [] (sym (eqb-true q.label l x.1))))

-- one that stands in a list of one, or of two
in_one : (x l : ℕ) → 1 ≤ times x (l ∷ []) → eqb x l ≡ true
unfolding times
in_one x l h = go (ℕ_discrete l x)
  where
    go : Dec (l ≡ x) → eqb x l ≡ true
    go (yes e) = eqb_same x l (sym e)
    go (no n) = let z : times x (l ∷ []) ≡ 0 = times-other x l [] n in absurd (omega (arith, z, h))

in_two : (x l m : ℕ) → 1 ≤ times x (l ∷ m ∷ []) → (eqb x l || eqb x m) ≡ true
in_two x l m h = go (ℕ_discrete l x)
  where
    go : Dec (l ≡ x) → (eqb x l || eqb x m) ≡ true
    go (yes e) = or_left (eqb x l) (eqb x m) (eqb_same x l (sym e))
    go (no n) = or_right (eqb x l) (eqb x m) (in_one x m (omega (arith, times-other x l (m ∷ []) n, h)))

none_in : {A : Type 0} (x : ℕ) → 1 ≤ times x [] → A
unfolding times
none_in x h = absurd (omega arith)

pub at-run : (e : Entry) (l : ℕ) → 1 ≤ times l (entry_labels e) → entry_holds e (place l run) ≡ true
at-run (Entry.From m) l h = in_one l m h
at-run (Entry.Either m k e) l h = in_two l m k h
at-run (Entry.Begin m) l h = none_in l h

pub at-begin : (e : Entry) (l : ℕ) → 1 ≤ times l (begin_labels e) → entry_holds e (place l begin) ≡ true
at-begin (Entry.From m) l h = none_in l h
at-begin (Entry.Either m k e) l h = none_in l h
at-begin (Entry.Begin m) l h = in_one l m h

pub out-run : (e : Exit) (l : ℕ) → 1 ≤ times l (exit_labels e) → exit_holds e (place l run) ≡ true
out-run (Exit.To m) l h = in_one l m h
out-run (Exit.Either e m k) l h = in_two l m k h
out-run (Exit.End m) l h = none_in l h

pub at-end : (e : Exit) (l : ℕ) → 1 ≤ times l (end_labels e) → exit_holds e (place l end) ≡ true
at-end (Exit.To m) l h = none_in l h
at-end (Exit.Either e m k) l h = none_in l h
at-end (Exit.End m) l h = in_one l m h

-- ---- the blocks at a place
module _ (program : List Block) (ok : Passed program) where
  pub record Once (l : ℕ) : Type 0 where
    pub entered : entries program l ≡ 1
    pub left : exits program l ≡ 1

  pub record Framed (l : ℕ) : Type 0 where
    pub begun : begins program l ≡ 1
    pub ended : ends program l ≡ 1

  both : (b : ℕ) → b < length program →
      (each_of (ordinary program) (entry_labels (block_of program b).entry ++ exit_labels (block_of program b).exit) ≡ true)
      × (each_of (outer program) (begin_labels (block_of program b).entry ++ end_labels (block_of program b).exit) ≡ true)
  unfolding bad10
  both b lt = and-true _ _ (not-false _ (ok.labels_right b lt))

  once-of : (l : ℕ) → ordinary program l ≡ true → Once l
  unfolding ordinary
  once-of l h =
      let x = and-true (eqb (entries program l) 1) _ h in
      let y = and-true (eqb (exits program l) 1) _ x.1 in
      record { entered = eqb-true (entries program l) 1 x.0; left = eqb-true (exits program l) 1 y.0 }

  framed_of : (l : ℕ) → outer program l ≡ true → Framed l
  unfolding outer
  framed_of l h =
      let x = and-true (eqb (begins program l) 1) _ h in
      let y = and-true (eqb (ends program l) 1) _ x.1 in
      record { begun = eqb-true (begins program l) 1 x.0; ended = eqb-true (ends program l) 1 y.0 }

  pub entry-once : (b l : ℕ) → b < length program → 1 ≤ times l (entry_labels (block_of program b).entry) → Once l
  entry-once b l lt h =
      once-of l (each-times (ordinary program) _ l (each-parts (ordinary program) (entry_labels (block_of program b).entry) _ (both b lt).0).0 h)

  pub exit-once : (b l : ℕ) → b < length program → 1 ≤ times l (exit_labels (block_of program b).exit) → Once l
  exit-once b l lt h =
      once-of l (each-times (ordinary program) _ l (each-parts (ordinary program) (entry_labels (block_of program b).entry) _ (both b lt).0).1 h)

  pub begin-framed : (b l : ℕ) → b < length program → 1 ≤ times l (begin_labels (block_of program b).entry) → Framed l
  begin-framed b l lt h =
      framed_of l (each-times (outer program) _ l (each-parts (outer program) (begin_labels (block_of program b).entry) _ (both b lt).1).0 h)

  pub end_framed : (b l : ℕ) → b < length program → 1 ≤ times l (end_labels (block_of program b).exit) → Framed l
  end_framed b l lt h =
      framed_of l (each-times (outer program) _ l (each-parts (outer program) (begin_labels (block_of program b).entry) _ (both b lt).1).1 h)

  entry-one :
      (q : Place) (b c : ℕ) → b < length program → c < length program → entry_holds (block_of program b).entry q ≡ true →
      entry_holds (block_of program c).entry q ≡ true → c ≡ b
  entry-one q b c lb lc hb hc = go (entry_in (block_of program b).entry q hb) (entry_in (block_of program c).entry q hc)
    where
      go :
          ((q.stage ≡ run) × (1 ≤ times q.label (entry_labels (block_of program b).entry))) ⊎ ((q.stage ≡ begin) × (1 ≤ times q.label (begin_labels (block_of program b).entry))) →
          ((q.stage ≡ run) × (1 ≤ times q.label (entry_labels (block_of program c).entry))) ⊎ ((q.stage ≡ begin) × (1 ≤ times q.label (begin_labels (block_of program c).entry))) → c ≡ b
      go (inl x) (inl y) =
          one_place (λ k. entry_labels k.entry) q.label program b c lb lc (entry-once b q.label lb x.1).entered x.1 y.1
      go (inr x) (inr y) =
          one_place (λ k. begin_labels k.entry) q.label program b c lb lc (begin-framed b q.label lb x.1).begun x.1 y.1
      go (inl x) (inr y) = absurd (omega (arith, x.0, y.0))
      go (inr x) (inl y) = absurd (omega (arith, x.0, y.0))

  exit-one :
      (q : Place) (b c : ℕ) → b < length program → c < length program → exit_holds (block_of program b).exit q ≡ true →
      exit_holds (block_of program c).exit q ≡ true → c ≡ b
  exit-one q b c lb lc hb hc = go (exit_in (block_of program b).exit q hb) (exit_in (block_of program c).exit q hc)
    where
      go :
          ((q.stage ≡ run) × (1 ≤ times q.label (exit_labels (block_of program b).exit))) ⊎ ((q.stage ≡ end) × (1 ≤ times q.label (end_labels (block_of program b).exit))) →
          ((q.stage ≡ run) × (1 ≤ times q.label (exit_labels (block_of program c).exit))) ⊎ ((q.stage ≡ end) × (1 ≤ times q.label (end_labels (block_of program c).exit))) → c ≡ b
      go (inl x) (inl y) = one_place (λ k. exit_labels k.exit) q.label program b c lb lc (exit-once b q.label lb x.1).left x.1 y.1
      go (inr x) (inr y) = one_place (λ k. end_labels k.exit) q.label program b c lb lc (end_framed b q.label lb x.1).ended x.1 y.1
      go (inl x) (inr y) = absurd (omega (arith, x.0, y.0))
      go (inr x) (inl y) = absurd (omega (arith, x.0, y.0))

  -- the block whose entry holds a place; whose exit does
  pub entry-block : (q : Place) (b : ℕ) → b < length program → entry_holds (block_of program b).entry q ≡ true → entry_block program q ≡ b
  unfolding entry_block
  entry-block q b lt h = lowest-one (λ c. entry_holds (block_of program c).entry q) (length program) b lt h (λ c lc hc. entry-one q b c lt lc h hc)

  pub exit-block : (q : Place) (b : ℕ) → b < length program → exit_holds (block_of program b).exit q ≡ true → exit_block program q ≡ b
  unfolding exit_block
  exit-block q b lt h = lowest-one (λ c. exit_holds (block_of program c).exit q) (length program) b lt h (λ c lc hc. exit-one q b c lt lc h hc)

  pub entry-holds : (q : Place) → entry_block program q < length program → entry_holds (block_of program (entry_block program q)).entry q ≡ true
  unfolding entry_block
  entry-holds q lt = lowest-found (λ c. entry_holds (block_of program c).entry q) (length program) lt

  pub exit-holds : (q : Place) → exit_block program q < length program → exit_holds (block_of program (exit_block program q)).exit q ≡ true
  unfolding exit_block
  exit-holds q lt = lowest-found (λ c. exit_holds (block_of program c).exit q) (length program) lt

  -- the label that an exit leads to is some block's entry
  pub leads_on :
      (b l : ℕ) → b < length program → 1 ≤ times l (exit_labels (block_of program b).exit) → entry_block program (place l run) < length program
  leads_on b l lt h =
      let o = exit-once b l lt h in
      let s = count-some (λ k. entry_labels k.entry) l program (omega (arith, o.entered)) in
      let e = entry-block (place l run) s.0 s.1 (at-run (block_of program s.0).entry l s.2) in
      subst (λ (k : ℕ). k < length program) (sym e) s.1

  -- a label that some begin has
  pub begins-at : (l : ℕ) → 1 ≤ begins program l → entry_block program (place l begin) < length program
  begins-at l h =
      let s = count-some (λ k. begin_labels k.entry) l program h in
      let e = entry-block (place l begin) s.0 s.1 (at-begin (block_of program s.0).entry l s.2) in
      subst (λ (k : ℕ). k < length program) (sym e) s.1
