-- A machine that passes code 17 over an accepted image is words, each below 2 ^ 32, if its variables and cells are: counts, identifiers, labels,
-- stages and blocks are small numbers by the clauses of 17. So is every machine that a run reaches, and demand 2 speaks of it. Assumes that the
-- image is sound.
use Rattle.std.specs.Prelude.{◌≡◌, ◌⊎◌, Bool, true, ◌&&◌, ◌||◌, ℕ, zero, suc, ◌-◌, ◌*◌, ◌<◌, length, eqb, ltb}
use Rattle.std.proofs.Math.Path.{refl}
use Rattle.std.proofs.Common.{sym, ◌∙◌, subst, inl, inr, arith}
use mathlib.Core.List.{List, [], ◌∷◌, ◌++◌}
use Rattle.std.proofs.Math.Option.{some}
use borrow.Author.Tests.{eqb-true, ltb-true, lt-ltb}
use Rattle.theory.specs.Tests.{and-true, true_and, or_cases}
use Rattle.rules.specs.Base.{each_of, zeros}
use Rattle.rules.specs.Value.{span}
use Rattle.rules.specs.Calls.{most_rows, deepest}
use Rattle.rules.specs.Labels.{block_of}
use Rattle.rules.specs.Machine.{Process, Kept, Machine, begin, run, end, standing, row_words, kept_words, most_kept, machine_words}
use Rattle.rules.specs.Machine.{pack_rows, pack_history, padded, pack}
use Rattle.rules.specs.Fits.{entry_holds, exit_holds, entry_block, exit_block, root_fits, row_fits, kept_fits, block_fits, digits_fit}
use Rattle.rules.specs.Fits.{ascending, machine_fits}
use Rattle.rules.specs.declared.Entry.{Entry}
use Rattle.rules.specs.declared.Exit.{Exit}
use Rattle.rules.specs.declared.Block.{Block}
use Rattle.rules.specs.declared.Place.{Place}
use Rattle.laws.specs.Fit.{EntryFit, ExitFit}
use Rattle.laws.proofs.Pack.{Sized}
use Rattle.laws.proofs.Lists.{each_append, each-true}
use Rattle.theorems.specs.Memory.{Fine}
use Rattle.theorems.specs.Sites.{entry-holds, exit-holds}
use Rattle.theorems.specs.Parts.{Standing}
use Rattle.theorems.specs.Program.{Sound}
use Rattle.theorems.specs.Tables.{standing-each}
use Rattle.theorems.specs.Identifiers.{digits-below, live-fits}
use Rattle.theorems.specs.Fitted.{fitted, fitted-order}
use Rattle.theorems.specs.Played.{Call, Subject, played_in}
use Rattle.theorems.specs.PaperShown.{Lent}
use Rattle.theorems_more.specs.Subjects.{Words}
use Rattle.theorems.specs.Linked.{sound, sized, Linked, linked-length, linked-fits, played}
use Rattle.theorems.specs.Reached.{reached-memory}
use Rattle.theorems.specs.Linked.{first_fine}
use Rattle.theorems.specs.Fitting.{reached-machine_fits}

-- ---- lists of words
append-words : (l m : List ℕ) → Words l → Words m → Words (l ++ m)
append-words l m a b = each_append (λ v. ltb v span) l m ∙ true_and _ _ a b

zero_words : (n : ℕ) → Words (zeros n)
unfolding each_of
zero_words zero = refl
zero_words (suc n) = true_and (ltb 0 span) (each_of (λ v. ltb v span) (zeros n)) refl (zero_words n)

padded-words : (n : ℕ) (l : List ℕ) → Words l → Words (padded n l)
unfolding padded
padded-words n l h = append-words l (zeros (n - length l)) h (zero_words (n - length l))

-- ---- places of the image
small : (x y : ℕ) → y < 256 → eqb x y ≡ true → x < 256
small x y lt h = let e = eqb-true x y h in omega (arith, e, lt)

entry_place : (e : Entry) (q : Place) → EntryFit e → entry_holds e q ≡ true → (q.label < 256) × (q.stage < 256)
entry_place (Entry.From l) q f h =
    let x = and-true (eqb q.stage run) (eqb q.label l) h in
    (small q.label l f x.1, small q.stage run (omega arith) x.0)
entry_place (Entry.Either l m e) q f h =
    let x = and-true (eqb q.stage run) (eqb q.label l || eqb q.label m) h in
    (go (or_cases (eqb q.label l) (eqb q.label m) x.1), small q.stage run (omega arith) x.0)
  where
    go : (eqb q.label l ≡ true) ⊎ (eqb q.label m ≡ true) → q.label < 256
    go (inl k) = small q.label l f.0 k
    go (inr k) = small q.label m f.1 k
entry_place (Entry.Begin l) q f h =
    let x = and-true (eqb q.stage begin) (eqb q.label l) h in
    (small q.label l f x.1, small q.stage begin (omega arith) x.0)

exit-place : (e : Exit) (q : Place) → ExitFit e → exit_holds e q ≡ true → (q.label < 256) × (q.stage < 256)
exit-place (Exit.To l) q f h =
    let x = and-true (eqb q.stage run) (eqb q.label l) h in
    (small q.label l f x.1, small q.stage run (omega arith) x.0)
exit-place (Exit.Either e l m) q f h =
    let x = and-true (eqb q.stage run) (eqb q.label l || eqb q.label m) h in
    (go (or_cases (eqb q.label l) (eqb q.label m) x.1), small q.stage run (omega arith) x.0)
  where
    go : (eqb q.label l ≡ true) ⊎ (eqb q.label m ≡ true) → q.label < 256
    go (inl k) = small q.label l f.0 k
    go (inr k) = small q.label m f.1 k
exit-place (Exit.End l) q f h =
    let x = and-true (eqb q.stage end) (eqb q.label l) h in
    (small q.label l f x.1, small q.stage end (omega arith) x.0)

-- ---- rows and entries of words
abbrev pub RowWords : Process → Bool
RowWords r = ltb r.identifier span && (ltb r.stands.label span && ltb r.stands.stage span)

abbrev pub KeptWords : Kept → Bool
KeptWords k = ltb k.identifier span && ltb k.block span

rows_words : (rows : List Process) → each_of RowWords rows ≡ true → Words (pack_rows rows)
unfolding pack_rows each_of
rows_words [] h = refl
rows_words (r ∷ rows) h =
    let x = and-true (RowWords r) (each_of RowWords rows) h in
    let y = and-true (ltb r.identifier span) _ x.0 in
    let z = and-true (ltb r.stands.label span) (ltb r.stands.stage span) y.1 in
    true_and _ _ y.0 (true_and _ _ z.0 (true_and _ _ z.1 (rows_words rows x.1)))

history-words : (history : List Kept) → each_of KeptWords history ≡ true → Words (pack_history history)
unfolding pack_history each_of
history-words [] h = refl
history-words (k ∷ history) h =
    let x = and-true (KeptWords k) (each_of KeptWords history) h in
    let y = and-true (ltb k.identifier span) (ltb k.block span) x.0 in
    true_and _ _ y.0 (true_and _ _ y.1 (history-words history x.1))

-- a machine of words
pub record Worded (m : Machine) : Type 0 where
  pub rows : each_of RowWords m.rows ≡ true
  pub history : each_of KeptWords m.history ≡ true
  pub memory : Fine m.memory

pub fine-words : (memory : List ℕ) → Fine memory → Words memory
fine-words memory f = each-true (λ v. ltb v span) 0 memory (λ i lt. lt-ltb _ span (f.words i))

-- its words are below 2 ^ 32
pub worded-words : (m : Machine) → Sized m → Worded m → Words (pack m)
unfolding pack each_of
worded-words m s w =
    let r = s.rows64 in
    let k = s.history4096 in
    true_and _ _ (lt-ltb (length m.rows) span (omega (arith, r)))
    (true_and _ _ (lt-ltb (length m.history) span (omega (arith, k)))
    (append-words (m.memory ++ padded (row_words * most_rows) (pack_rows m.rows)) (padded (kept_words * most_kept) (pack_history m.history))
    (append-words m.memory (padded (row_words * most_rows) (pack_rows m.rows)) (fine-words m.memory w.memory)
    (padded-words (row_words * most_rows) (pack_rows m.rows) (rows_words m.rows w.rows)))
    (padded-words (kept_words * most_kept) (pack_history m.history) (history-words m.history w.history))))

module _ (program : List Block) (S : Sound program) where
  kept-words : (history : List Kept) → each_of (kept_fits program) history ≡ true → each_of KeptWords history ≡ true
  unfolding each_of kept_fits block_fits
  kept-words [] h = refl
  kept-words (k ∷ history) h =
      let x = and-true (kept_fits program k) (each_of (kept_fits program) history) h in
      let y = and-true (ltb k.block (length program)) (digits_fit deepest k.identifier) x.0 in
      let lt = ltb-true k.block (length program) y.0 in
      let few = S.few in
      let d = digits-below deepest k.identifier y.1 in
      true_and _ _
      (true_and _ _ (lt-ltb k.identifier span (omega (arith, d))) (lt-ltb k.block span (omega (arith, lt, few)))) (kept-words history x.1)

  place-words : (q : Place) → Standing program q → (q.label < 256) × (q.stage < 256)
  place-words q (inl x) =
      entry_place (block_of program (entry_block program q)).entry q (S.fit (entry_block program q) x.1).entry (entry-holds program S.passes q x.1)
  place-words q (inr (inl x)) =
      entry_place (block_of program (entry_block program q)).entry q (S.fit (entry_block program q) x.1).entry (entry-holds program S.passes q x.1)
  place-words q (inr (inr x)) =
      exit-place (block_of program (exit_block program q)).exit q (S.fit (exit_block program q) x.1).exit (exit-holds program S.passes q x.1)

  module _ (m : Machine) (passed : machine_fits program m ≡ true) where
    -- the identifier of a live process is a word
    pub live-word : (x : ℕ) (a : Place) → standing m.rows x ≡ some a → x < span
    live-word x a e =
        let f = fitted program S m passed in
        let d = digits-below deepest x (live-fits program S (standing m.rows) x a f.0 f.1 e) in omega (arith, d)

    row_words_fit : each_of RowWords m.rows ≡ true
    row_words_fit =
        standing-each RowWords m.rows (fitted-order program m passed)
        (λ x a e. let q = place-words a ((fitted program S m passed).0.places x a e) in
        let ql = q.0 in
        let qs = q.1 in
        true_and _ _ (lt-ltb x span (live-word x a e))
        (true_and _ _ (lt-ltb a.label span (omega (arith, ql))) (lt-ltb a.stage span (omega (arith, qs)))))

    kept : each_of (kept_fits program) m.history ≡ true
    unfolding machine_fits
    kept =
        let x = and-true (ascending m.rows) _ passed in
        let y = and-true (root_fits program m.rows) _ x.1 in
        (and-true (each_of (row_fits program m) m.rows) (each_of (kept_fits program) m.history) y.1).1

    -- A machine that passes 17 is words, if its memory is.
    pub fit-worded : Fine m.memory → Worded m
    fit-worded f = record { rows = row_words_fit; history = kept-words m.history kept; memory = f }

-- ---- runs
module _ (s : Subject) where
  -- the words of a reached machine are words
  pub linked-words : (w : List ℕ) → Linked s w → Words w
  linked-words w l =
      let m = l.machine in
      let fit = reached-machine_fits s.program (sound s) s.memory (first_fine s) m l.reached in
      subst Words (sym l.packed)
      (worded-words m (sized s m l.reached)
      (fit-worded s.program (sound s) m fit (reached-memory s.program (sound s) s.memory (first_fine s) m l.reached)))

module _ (s : Subject) (lent : List ℕ) (size : length lent ≡ machine_words) (calls : List Call) where
  -- Every word of a machine that is reached from a start by any string of calls is below 2 ^ 32.
  pub played-words : Words (played_in s lent calls)
  played-words = linked-words s (played_in s lent calls) (played s lent calls size)

  pub played-length : length (played_in s lent calls) ≡ machine_words
  played-length = linked-length s (played_in s lent calls) (played s lent calls size)

  -- So it is what demand 2 speaks of: an accepted image with lent words that pass codes 16 and 17.
  abbrev pub played-lent : Lent
  played-lent =
      record {
        image = s.image;
        bytes = s.bytes;
        program = s.program;
        past = s.past;
        decodes = s.decodes;
        blocks = s.blocks;
        peak = s.peak;
        accepts = s.accepts;
        words = played_in s lent calls;
        size = played-length;
        range = played-words;
        fit = linked-fits s (played_in s lent calls) (played s lent calls size);
      }
