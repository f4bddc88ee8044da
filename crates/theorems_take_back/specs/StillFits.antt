-- Code 17 after an undo of the newest entry, row by row: of a machine that passed it before, only the process undone and its children
-- are to be asked whether their newest entries are theirs. So the test of code 35 need not ask all of 17 before each undo; nor the
-- graph, which never holds a newest entry. Assumes that the image is sound and the memory is 288 words.
use Rattle.std.specs.Prelude.{◌≡◌, ◌⊎◌, ◌≢◌, Bool, false, ℕ, eqb}
use Rattle.std.proofs.Math.Path.{refl, sym, ap}
use Rattle.std.proofs.Common.{◌∙◌, subst, inl, inr}
use Rattle.std.proofs.Math.Bool.{true}
use Rattle.std.proofs.Math.Option.{Option, none, some}
use mathlib.Core.List.{List, [], ◌∷◌, ◌++◌, map}
use Rattle.theory.specs.Tests.{bool_cases, true_false, eqb_same, eqb-other, eqb-eq, and-true, or_cases, or-false, none-some, some_inj}
use Rattle.theory.specs.Histories.{NoneBy}
use Rattle.theory.specs.Replay.{Newest}
use Rattle.theory.specs.Local.{Taken, Touches, is_kid, fired, put-outside}
use Rattle.theory.specs.Shapes.{back}
use Rattle.theory.specs.Family.{Ok}
use Rattle.theory.specs.Machine.{mark, named}
use Rattle.theory.specs.Optional.{onto}
use Rattle.rules.specs.Base.{pick, some_of, each_of}
use Rattle.rules.specs.Machine.{Kept, Machine, begin, standing}
use Rattle.rules.specs.Fits.{exit_block, or_else, newest, is_block, newest_fits, kept_fits, parent_fits, own_fits, children_fit, row_fits}
use Rattle.rules.specs.Fits.{ascending, root_fits, machine_fits}
use Rattle.rules.specs.Cause.{holds}
use Rattle.rules.specs.declared.Block.{Block}
use Rattle.rules.specs.declared.Place.{Place}
use Rattle.laws.specs.Conflict.{conflicts}
use Rattle.theorems.specs.Parts.{exit_at}
use Rattle.theorems.specs.Memory.{Fine}
use Rattle.theorems.specs.Program.{Sound, real, exit-some}
use Rattle.theorems.specs.Tables.{row_at, each-standing}
use Rattle.theorems.specs.Held.{held}
use Rattle.theorems.specs.Fitting.{Names, parts-fit}
use Rattle.theorems.specs.Forward.{configuration_of, entry_of, ahead}
use Rattle.theorems.specs.Backward.{behind}
use Rattle.theorems.specs.PaperFitted as PaperFitted
use Rattle.theorems.specs.PaperFitted.{is_block_some}
use Rattle.theorems_take_back.specs.Rooted.{Φ, laws, UndoneBy}
use Rattle.theorems_take_back.specs.Bottom.{newest-moves}
use Rattle.theorems_take_back.specs.RowsKept.{rows_fit, undo-keeps}

-- the graph does not hold a newest entry
nobody : (g : Kept → Bool) → some_of g [] ≡ false
unfolding some_of
nobody g = refl

pub newest-free : (program : List Block) (h : List Kept) (k : Kept) → holds program (h ++ k ∷ []) k.identifier ≡ false
newest-free program h k = held program h k [] (nobody (λ (j : Kept). eqb j.identifier k.identifier)) ∙ nobody (conflicts program k)

-- the newest entry of a process stays where the last entry, of another one, goes
newest-before : (h : List Kept) (k : Kept) (q : ℕ) → k.identifier ≢ q → newest (h ++ k ∷ []) q ≡ newest h q
unfolding newest pick
newest-before [] k q n = rw (eqb-other k.identifier q n)
newest-before (j ∷ h) k q n = ap (λ (o : Option ℕ). or_else o (pick (eqb j.identifier q) (some j.block) none)) (newest-before h k q n)

each-front : (g : Kept → Bool) (h : List Kept) (k : Kept) → each_of g (h ++ k ∷ []) ≡ true → each_of g h ≡ true
unfolding each_of
each-front g [] k e = refl
each-front g (j ∷ h) k e =
    let x = and-true (g j) (each_of g (h ++ k ∷ [])) e in
    rw x.0 (each-front g h k x.1)

module _ (program : List Block) (S : Sound program) where
  abbrev New : List Taken → Taken → Type 0
  New = Newest (Φ program S) (ahead program S) (behind program S) (Ok (real program S)) (mark (real program S)) (laws program S)

  none-there : (h : List Kept) (q : ℕ) → newest h q ≡ none → NoneBy (Φ program S) q (map entry_of h)
  unfolding newest pick
  none-there [] q e = tt
  none-there (k ∷ h) q e = go (λ x. none-there h q x) (newest h q) refl (bool_cases (eqb k.identifier q)) e
    where
      go :
          (newest h q ≡ none → NoneBy (Φ program S) q (map entry_of h)) → (o : Option ℕ) → newest h q ≡ o →
          (eqb k.identifier q ≡ true) ⊎ (eqb k.identifier q ≡ false) →
          or_else (newest h q) (pick (eqb k.identifier q) (some k.block) none) ≡ none →
          (k.identifier ≢ q) × NoneBy (Φ program S) q (map entry_of h)
      go ih (some b) x c e = absurd (none-some (sym (rw x at e)))
      go ih none x (inl c) e = absurd (none-some (sym (rw (x, c) at e)))
      go ih none x (inr c) e = ((λ y. true_false (eqb_same k.identifier q y) c), ih x)

  found : (h : List Kept) (q b : ℕ) → newest h q ≡ some b → New (map entry_of h) (record { process = q; block = b })
  unfolding newest pick
  found [] q b e = absurd (none-some e)
  found (k ∷ h) q b e = go (λ c x. found h q c x) (newest h q) refl (bool_cases (eqb k.identifier q)) e
    where
      go :
          ((c : ℕ) → newest h q ≡ some c → New (map entry_of h) (record { process = q; block = c })) → (o : Option ℕ) → newest h q ≡ o →
          (eqb k.identifier q ≡ true) ⊎ (eqb k.identifier q ≡ false) →
          or_else (newest h q) (pick (eqb k.identifier q) (some k.block) none) ≡ some b →
          New (entry_of k ∷ map entry_of h) (record { process = q; block = b })
      go ih (some c) x d e =
          let cb : c ≡ b = some_inj c b (rw x at e) in
          let i = ih b (x ∙ ap some cb) in
          record { front = entry_of k ∷ i.front; rest = i.rest; whole = ap (λ (l : List Taken). entry_of k ∷ l) i.whole; last = i.last }
      go ih none x (inl d) e =
          let kb : k.block ≡ b = some_inj k.block b (rw (x, d) at e) in
          let kq = eqb-eq k.identifier q d in
          record {
            front = [];
            rest = map entry_of h;
            whole = λ i. record { process = kq i; block = kb i } ∷ map entry_of h;
            last = none-there h q x;
          }
      go ih none x (inr d) e = absurd (none-some (rw (x, d) at e))

  -- what the rows of a machine name, by the entries that are newest
  names_of :
      (m : Machine) (h : List Kept) →
      ((q : ℕ) (a : Place) → standing m.rows q ≡ some a → a.stage ≢ begin → newest h q ≡ some (exit_block program a)) →
      Names program S (configuration_of m) (map entry_of h)
  names_of m h f q x k = go (standing m.rows q) refl k
    where
      go : (o : Option Place) → standing m.rows q ≡ o → named (real program S) q o ≡ some x → New (map entry_of h) x × (x.process ≡ q)
      go none e g = absurd (none-some g)
      go (some a) e g = at (exit_at program a) refl g
        where
          at : (o : Option ℕ) → exit_at program a ≡ o → onto (λ (b : ℕ). record { process = q; block = b }) o ≡ some x →
              New (map entry_of h) x × (x.process ≡ q)
          at none y w = absurd (none-some w)
          at (some b) y w =
              let z = exit-some program S a b y in
              let same : Path Taken (record { process = q; block = b }) x = some_inj (record { process = q; block = b }) x w in
              let n = found h q b (f q a e z.0 ∙ ap some z.1) in
              (subst (New (map entry_of h)) same n, sym (ap (λ (v : Taken). v.process) same))

  module _ (m m₁ : Machine) (h : List Kept) (k : Kept) (passed : machine_fits program m ≡ true) (fine : Fine m.memory)
      (parts : m.history ≡ h ++ k ∷ []) (d : UndoneBy program S m k.identifier m₁) where
    left : (behind program S (configuration_of m) k.identifier ≡ some (entry_of k, configuration_of m₁)) × (m₁.history ≡ h)
    left = newest-moves program S m m₁ h k passed parts d

    -- a row that is neither the process's nor a child's stays
    same_row : (q : ℕ) → Touches k.identifier q ≡ false → standing m₁.rows q ≡ standing m.rows q
    same_row q t =
        let x = fired (back (real program S)) (configuration_of m) k.identifier (entry_of k) (configuration_of m₁) left.0 in
        ap (λ z. z.rows q) x.is_done ∙ put-outside (standing m.rows) k.identifier x.out.row x.out.kids q t

    -- Of the machine left, code 17 is to be asked at the process undone and its children alone, and there only for their newest entries.
    pub still_fits :
        ((q : ℕ) (a : Place) → Touches k.identifier q ≡ true → standing m₁.rows q ≡ some a → newest_fits program h (row_at q a) ≡ true) →
        machine_fits program m₁ ≡ true
    unfolding machine_fits newest_fits
    still_fits near =
        let r = undo-keeps program S m (rows_fit program S m passed fine) k.identifier d.here d.live m₁ d.undone in
        let a = and-true (ascending m.rows) _ passed in
        let b = and-true (root_fits program m.rows) _ a.1 in
        let c = and-true (each_of (row_fits program m) m.rows) _ b.1 in
        let known : each_of (kept_fits program) m₁.history ≡ true =
        ap (each_of (kept_fits program)) left.1 ∙ each-front (kept_fits program) h k (sym (ap (each_of (kept_fits program)) parts) ∙ c.1) in
        let names = names_of m₁ h (λ q a e n. at q a e n (bool_cases (Touches k.identifier q))) in
        parts-fit program S m₁ r.ordered r.well r.hangs
        (subst (λ (l : List Kept). Names program S (configuration_of m₁) (map entry_of l)) (sym left.1) names) known
      where
        at :
            (q : ℕ) (a : Place) → standing m₁.rows q ≡ some a → a.stage ≢ begin →
            (Touches k.identifier q ≡ true) ⊎ (Touches k.identifier q ≡ false) → newest h q ≡ some (exit_block program a)
        at q a e n (inl t) = go (or_cases (eqb a.stage begin) (is_block (newest h q) (exit_block program a)) (near q a t e))
          where
            go : (eqb a.stage begin ≡ true) ⊎ (is_block (newest h q) (exit_block program a) ≡ true) → newest h q ≡ some (exit_block program a)
            go (inl y) = absurd (n (eqb-eq a.stage begin y))
            go (inr y) = is_block_some (newest h q) (exit_block program a) y
        at q a e n (inr t) =
            let o = or-false (eqb q k.identifier) (is_kid k.identifier q) t in
            let v = PaperFitted.kept program S m passed q a (sym (same_row q t) ∙ e) n in
            sym (newest-before h k q (λ y. true_false (eqb_same q k.identifier (sym y)) o.0)) ∙ ap (λ (l : List Kept). newest l q) (sym parts) ∙ v

    -- and there it is asked
    pub asked : machine_fits program m₁ ≡ true → (q : ℕ) (a : Place) → standing m₁.rows q ≡ some a →
        newest_fits program m₁.history (row_at q a) ≡ true
    unfolding machine_fits row_fits
    asked p₁ q a e =
        let x = and-true (ascending m₁.rows) _ p₁ in
        let y = and-true (root_fits program m₁.rows) _ x.1 in
        let z = and-true (each_of (row_fits program m₁) m₁.rows) _ y.1 in
        let r = each-standing (row_fits program m₁) m₁.rows q a z.0 e in
        let s = and-true (parent_fits m₁.rows (row_at q a)) _ r in
        let t = and-true (own_fits program m₁.rows (row_at q a)) _ s.1 in
        (and-true (children_fit program m₁.rows (row_at q a)) _ t.1).1
