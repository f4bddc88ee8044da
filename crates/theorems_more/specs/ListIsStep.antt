-- The list is the step's: where a list answers 0, its rows are one for each live process, in the machine's order, with the codes that `step` answers
-- for that process forward and as an undo, and zeros after them. On words and on bytes. Assumes nothing.
use Rattle.std.specs.Prelude.{◌≡◌, true, false, ◌&&◌, ℕ, ◌-◌, ltb}
use Rattle.std.proofs.Math.Path.{refl, sym, ap}
use Rattle.std.proofs.Common.{ap₂, ◌∙◌, arith}
use Rattle.std.proofs.Math.Bool.{not}
use mathlib.Core.List.{List, [], ◌∷◌, ◌++◌, map}
use Rattle.std.proofs.Math.Option.{some}
use Rattle.std.proofs.Math.Decide.{ℕ_discrete}
use Rattle.std.proofs.Math.ListN.{length, replicate}
use Rattle.std.proofs.Math.Dec.{eqb}
use Rattle.theory.specs.Tests.{eqb_same, true_and, and-true, none-some}
use Rattle.rules.specs.Base.{pick}
use Rattle.rules.specs.Calls.{most_rows}
use Rattle.rules.specs.Machine.{Process, Machine, standing, machine_words, view}
use Rattle.rules.specs.Fits.{counts_fit, unused_zero, machine_fits, fits}
use Rattle.rules.specs.Words.{Outcome, refuse, step_of, step_at, step_in, step, words_of, to_bytes, step_bytes}
use Rattle.rules.specs.List.{code_of, row_of, zero_row, rows_of, list_in, list, list_bytes}
use Rattle.rules.specs.declared.Block.{Block}
use Rattle.rules.specs.declared.Place.{Place}
use Rattle.rules.specs.declared.Row.{Row}
use Rattle.laws.proofs.Lists.{pick_true, pick-false}
use Rattle.theorems.specs.Tables.{Above, Sorted, standing_here, standing-past, standing-low}
use Rattle.theorems.specs.Fitted.{fitted-order}
use Rattle.theorems.specs.Refusals.{Bytes}
use Rattle.theorems_more.specs.Bytes.Words.{step-on_words, list-on_words}
use Rattle.theorems_more.specs.Refusing.FaultCodes.{Judged, accepted-image, on_accepted}
use Rattle.rules.specs.RefusalTable.{program_in}
use Rattle.theorems_more.specs.FirstGiven.{finished-code}
use Rattle.theorems_more.specs.ZeroOnly.{zero_only}

-- a process with the two codes that `step` answers for it
abbrev pub step_row : List ℕ → List ℕ → ℕ → Row
step_row image words p =
    record { identifier = p; forward = (step image words p 0).answer.code; undo = (step image words p 1).answer.code }

abbrev pub step_row_bytes : List ℕ → List ℕ → ℕ → Row
step_row_bytes image bytes p =
    record { identifier = p; forward = (step_bytes image bytes p 0).answer.code; undo = (step_bytes image bytes p 1).answer.code }

-- one row a live process, in the machine's order, the rest zero
abbrev pub rows_by : (ℕ → Row) → Machine → List Row
rows_by f m = map (λ r. f r.identifier) m.rows ++ replicate (most_rows - length m.rows) zero_row

-- ---- every row of a machine is the one that its identifier stands for
later : (r : Process) (rows : List Process) → Above r.identifier rows → (x : ℕ) (a : Place) → standing rows x ≡ some a → standing (r ∷ rows) x ≡ some a
later r rows above x a e = go (ℕ_discrete r.identifier x)
  where
    go : Dec (r.identifier ≡ x) → standing (r ∷ rows) x ≡ some a
    go (yes q) = absurd (none-some (sym (standing-low rows r.identifier x (omega (arith, q)) above) ∙ e))
    go (no n) = standing-past r rows x n ∙ e

same_map :
    (f g : Process → Row) (all l : List Process) → Sorted l → ((x : ℕ) (a : Place) → standing l x ≡ some a → standing all x ≡ some a) →
    ((r : Process) → standing all r.identifier ≡ some r.stands → f r ≡ g r) → map f l ≡ map g l
same_map f g all [] s among h = refl
same_map f g all (r ∷ l) s among h =
    ap₂ (λ (x : Row) (y : List Row). x ∷ y) (h r (among r.identifier r.stands (standing_here r l r.identifier refl)))
    (same_map f g all l s.1 (λ x a e. among x a (later r l s.0 x a e)) h)

module _ (image words : List ℕ) (i : Judged image) (size : length words ≡ machine_words) (fit : fits (program_in image) words ≡ true) where
  abbrev m : Machine
  m = view words

  abbrev program : List Block
  program = program_in image

  passed : machine_fits program m ≡ true
  unfolding fits
  passed = (and-true (unused_zero words) (machine_fits program m) (and-true (counts_fit words) _ fit).1).1

  step_is :
      (p d : ℕ) (here : Place) → ltb 1 d ≡ false → standing m.rows p ≡ some here →
      (step image words p d).answer.code ≡ code_of (step_of program m p here d)
  unfolding step step_in
  step_is p d here k live =
      ap (λ (o : Outcome (List ℕ)). o.answer.code)
      (on_accepted image i words (step_in words p d)
      ∙ pick-false (not (eqb (length words) machine_words)) (refuse 16 0 words) _ (ap not (eqb_same (length words) machine_words size))
      ∙ pick-false (not (fits program words)) (refuse 17 0 words) _ (ap not fit)
      ∙ pick-false (ltb 1 d) (refuse 19 0 words) _ k
      ∙ ap (step_at words program p d) live)
      ∙ finished-code words (step_of program m p here d)

  row_is : (r : Process) → standing m.rows r.identifier ≡ some r.stands → row_of program m r ≡ step_row image words r.identifier
  unfolding row_of pick
  row_is r live =
      let f = step_is r.identifier 0 r.stands refl live in
      let u = step_is r.identifier 1 r.stands refl live in
      λ j. record { identifier = r.identifier; forward = sym f j; undo = sym u j }

  rows_are : rows_of program m ≡ rows_by (step_row image words) m
  unfolding rows_of
  rows_are =
      ap (λ (l : List Row). l ++ replicate (most_rows - length m.rows) zero_row)
      (same_map (row_of program m) (λ r. step_row image words r.identifier) m.rows m.rows (fitted-order program m passed) (λ x a e. e) row_is)

  list-leaves : (rows : List Row) → length rows ≡ most_rows → (list image words rows).leaves ≡ rows_of program m
  unfolding list list_in
  list-leaves rows n =
      ap (λ (o : Outcome (List Row)). o.leaves)
      (on_accepted image i rows (list_in words rows)
      ∙ pick_true (eqb (length words) machine_words && eqb (length rows) most_rows) _ (refuse 16 0 rows)
      (true_and _ _ (eqb_same (length words) machine_words size) (eqb_same (length rows) most_rows n))
      ∙ pick_true (fits program words) _ (refuse 17 0 rows) fit)

-- Where a list answers 0, it leaves a row for each live process with the codes that `step` answers for it, and zeros after them.
pub list-is_step :
    (image words : List ℕ) (rows : List Row) → (list image words rows).answer.code ≡ 0 →
    (list image words rows).leaves ≡ rows_by (step_row image words) (view words)
list-is_step image words rows e =
    let z = (zero_only.list_zero image words rows).0 e in
    let i = accepted-image image z.0.accepted in
    let fit = z.0.fit in
    list-leaves image words i z.1 fit rows z.2 ∙ rows_are image words i z.1 fit

-- The same on bytes.
pub list-is_step_bytes :
    (image bytes : List ℕ) (rows : List Row) → Bytes bytes → (list_bytes image bytes rows).answer.code ≡ 0 →
    (list_bytes image bytes rows).leaves ≡ rows_by (step_row_bytes image bytes) (view (words_of bytes))
unfolding to_bytes
list-is_step_bytes image bytes rows are e =
    let z = (zero_only.list_bytes_zero image bytes rows).0 e in
    let l = list-on_words image bytes are z.1 rows in
    let code : (p d : ℕ) → (step image (words_of bytes) p d).answer.code ≡ (step_bytes image bytes p d).answer.code =
    λ p d. ap (λ (o : Outcome (List ℕ)). o.answer.code) (sym (step-on_words image bytes are z.1 p d)) in
    ap (λ (o : Outcome (List Row)). o.leaves) l
    ∙ list-is_step image (words_of bytes) rows (ap (λ (o : Outcome (List Row)). o.answer.code) (sym l) ∙ e)
    ∙ ap (λ (f : ℕ → Row). rows_by f (view (words_of bytes))) (λ j p. record { identifier = p; forward = code p 0 j; undo = code p 1 j })
