-- 0 only where all is fit: a call that answers 0 was handed an accepted image, slices of the right lengths, a machine that passes 17,
-- direction 0 or 1
-- and a live process; and no call answers a code above 28. On words and on bytes, whatever is handed in. Assumes nothing.
use Rattle.std.specs.Prelude.{◌≡◌, refl, ◌↔◌, Bool, true, false, not, ◌&&◌, List, [], ◌∷◌, ◌++◌, ℕ, ◌*◌, ◌≤◌, length, eqb}
use Rattle.std.proofs.Common.{sym, ap, ◌∙◌, arith, eqb-true, ltb-false}
use Rattle.std.proofs.Math.Option.{Option, none, some}
use Rattle.std.proofs.lemmas.Bool.{not-false}
use Rattle.theory.specs.Tests.{true_false, and-true, true_and, eqb_same}
use Rattle.rules.specs.Judge.{judgement, numbers}
use Rattle.rules.specs.Calls.{most_rows}
use Rattle.rules.specs.Machine.{standing, memory_words, machine_words, view}
use Rattle.rules.specs.Fits.{fits, is_live}
use Rattle.rules.specs.Cause.{may_go_back, newest_node, holds}
use Rattle.rules.specs.Words.{start, step, words_of, has_words, start_bytes, step_bytes}
use Rattle.rules.specs.List.{list, list_bytes}
use Rattle.rules.specs.declared.Place.{Place}
use Rattle.rules.specs.declared.Row.{Row}
use Rattle.rules.specs.RefusalTable.{Refusal, first_given, program_in, judging, starting, listing, trying, stepping, start_table}
use Rattle.rules.specs.RefusalTable.{step_table, list_table, start_bytes_table, step_bytes_table, list_bytes_table}
use Rattle.theorems_more.specs.Subjects.{IsAccepted}
use Rattle.theorems_more.specs.FirstGiven.{answers}
use Rattle.theorems_more.specs.Refusing.TableCodes.{NoneGiven, none-parts, first-most, first-zero, zero_first, judging-right}
use Rattle.theorems_more.specs.Refusing.TableCodes.{starting-right, listing-right, stepping-right}

-- ---- what 0 says
none-judged : (image : List ℕ) → NoneGiven (judging image) → (numbers (judgement image)).code ≡ 0
none-judged image h = answers.judge_answers image ∙ zero_first (judging image) h

judged-none : (image : List ℕ) → (numbers (judgement image)).code ≡ 0 → NoneGiven (judging image)
judged-none image e = first-zero 15 (judging image) (judging-right 15 (omega arith) image) (sym (answers.judge_answers image) ∙ e)

none-append : (l m : List Refusal) → NoneGiven l → NoneGiven m → NoneGiven (l ++ m)
none-append [] m a b = b
none-append (r ∷ l) m a b = (a.0, none-append l m a.1 b)

live_at : (o : Option Place) → not (is_live o) ≡ false → (here : Place) × (o ≡ some here)
live_at none h = absurd (true_false refl h)
live_at (some here) h = (here, refl)

-- an accepted image and a machine that fits it
pub record Fit (image words : List ℕ) : Type 0 where
  pub accepted : IsAccepted image
  pub fit : fits (program_in image) words ≡ true

-- and direction 0 or 1, and a live process
pub record StepFit (image words : List ℕ) (process direction : ℕ) : Type 0 where
  pub accepted : IsAccepted image
  pub fit : fits (program_in image) words ≡ true
  pub direction_known : direction ≤ 1
  pub live : (here : Place) × (standing (view words).rows process ≡ some here)

starting-zero : (image : List ℕ) (lengths : Bool) → (first_given (starting image lengths) ≡ 0) ↔ (((numbers (judgement image)).code ≡ 0) × (lengths ≡ true))
unfolding starting
starting-zero image lengths = (
  (λ e. let x = none-parts (judging image) _ (first-zero 16 (starting image lengths) (starting-right image lengths) e) in
      (none-judged image x.0, not-false lengths x.1.0)),
  (λ y. zero_first (starting image lengths) (none-append (judging image) _ (judged-none image y.0) (ap not y.1, tt))),
)

listing-zero :
    (image : List ℕ) (lengths : Bool) (words : List ℕ) →
    (first_given (listing image lengths words) ≡ 0)
    ↔ (((numbers (judgement image)).code ≡ 0) × (lengths ≡ true) × (fits (program_in image) words ≡ true))
unfolding listing
listing-zero image lengths words = (
  (λ e. let x = none-parts (judging image) _ (first-zero 17 (listing image lengths words) (listing-right image lengths words) e) in
      (none-judged image x.0, not-false lengths x.1.0, not-false _ x.1.1.0)),
  (λ y. zero_first (listing image lengths words) (none-append (judging image) _ (judged-none image y.0) (ap not y.1, (ap not y.2, tt)))),
)

stepping-zero :
    (image : List ℕ) (lengths : Bool) (words : List ℕ) (p d : ℕ) → first_given (stepping image lengths words p d) ≡ 0 →
    ((numbers (judgement image)).code ≡ 0) × (lengths ≡ true) × (fits (program_in image) words ≡ true) × (d ≤ 1)
    × ((here : Place) × (standing (view words).rows p ≡ some here))
unfolding stepping
stepping-zero image lengths words p d e =
    let x = none-parts (judging image) _ (first-zero 28 (stepping image lengths words p d) (stepping-right image lengths words p d) e) in (
      none-judged image x.0,
      not-false lengths x.1.0,
      not-false _ x.1.1.0,
      ltb-false 1 d x.1.1.1.0,
      live_at (standing (view words).rows p) x.1.1.1.1.0,
    )

-- an undo that answers 0 is one that the cause graph lets go back
undoing_zero :
    (image : List ℕ) (lengths : Bool) (words : List ℕ) (p : ℕ) → first_given (stepping image lengths words p 1) ≡ 0 →
    may_go_back (program_in image) (view words).history (newest_node (view words).history p) ≡ true
unfolding stepping trying holds
undoing_zero image lengths words p e =
    let x = none-parts (judging image) _ (first-zero 28 (stepping image lengths words p 1) (stepping-right image lengths words p 1) e) in
    not-false _ x.1.1.1.1.1.1.1.1.0

-- ---- lengths, as facts
two-lengths : (a b m n : ℕ) → ((eqb a m && eqb b n) ≡ true) ↔ ((a ≡ m) × (b ≡ n))
two-lengths a b m n = (
  (λ h. let x = and-true (eqb a m) (eqb b n) h in (eqb-true a m x.0, eqb-true b n x.1)),
  (λ y. true_and (eqb a m) (eqb b n) (eqb_same a m y.0) (eqb_same b n y.1)),
)

start-iff :
    (image : List ℕ) (a b m n c : ℕ) → c ≡ first_given (starting image (eqb a m && eqb b n)) → (c ≡ 0) ↔ (IsAccepted image × (a ≡ m) × (b ≡ n))
start-iff image a b m n c is =
    let z = starting-zero image (eqb a m && eqb b n) in
    let t = two-lengths a b m n in (
      (λ e. let x = z.0 (sym is ∙ e) in let y = t.0 x.1 in (x.0, y.0, y.1)),
      (λ y. is ∙ z.1 (y.0, t.1 (y.1, y.2))),
    )

list-iff :
    (image words : List ℕ) (a b m n c : ℕ) → c ≡ first_given (listing image (eqb a m && eqb b n) words) →
    (c ≡ 0) ↔ (Fit image words × (a ≡ m) × (b ≡ n))
list-iff image words a b m n c is =
    let z = listing-zero image (eqb a m && eqb b n) words in
    let t = two-lengths a b m n in (
      (λ e. let x = z.0 (sym is ∙ e) in let y = t.0 x.1 in (record { accepted = x.0; fit = x.2 }, y.0, y.1)),
      (λ y. is ∙ z.1 (y.0.accepted, t.1 (y.1, y.2), y.0.fit)),
    )

step-only :
    (image words : List ℕ) (p d a n c : ℕ) → c ≡ first_given (stepping image (eqb a n) words p d) → c ≡ 0 → StepFit image words p d × (a ≡ n)
step-only image words p d a n c is e =
    let x = stepping-zero image (eqb a n) words p d (sym is ∙ e) in
    (record { accepted = x.0; fit = x.2; direction_known = x.3; live = x.4 }, eqb-true a n x.1)

-- ---- the statements
pub record ZeroOnly : Type 0 where
  -- A start answers 0 just where judging answers 0 of the image, the first memory is 288 words and the lent slice 8,674.
  pub start_zero :
      (image first words : List ℕ) →
      ((start image first words).answer.code ≡ 0) ↔ (IsAccepted image × (length first ≡ memory_words) × (length words ≡ machine_words))
  -- A step answers 0 only where judging does, the machine is 8,674 words that pass 17, the direction is 0 or 1 and the process is live.
  pub step_zero :
      (image words : List ℕ) (process direction : ℕ) → (step image words process direction).answer.code ≡ 0 →
      StepFit image words process direction × (length words ≡ machine_words)
  -- An undo answers 0 only where the cause graph lets the process's newest step go back.
  pub undo_zero :
      (image words : List ℕ) (process : ℕ) → (step image words process 1).answer.code ≡ 0 →
      may_go_back (program_in image) (view words).history (newest_node (view words).history process) ≡ true
  -- A list answers 0 just where judging does, the machine is 8,674 words that pass 17, and 64 rows are lent.
  pub list_zero :
      (image words : List ℕ) (rows : List Row) →
      ((list image words rows).answer.code ≡ 0) ↔ (Fit image words × (length words ≡ machine_words) × (length rows ≡ most_rows))
  -- The same on bytes: 1,152 and 34,696 of them.
  pub start_bytes_zero :
      (image first bytes : List ℕ) →
      ((start_bytes image first bytes).answer.code ≡ 0) ↔ (IsAccepted image × (length first ≡ 4 * memory_words) × (length bytes ≡ 4 * machine_words))
  pub step_bytes_zero :
      (image bytes : List ℕ) (process direction : ℕ) → (step_bytes image bytes process direction).answer.code ≡ 0 →
      StepFit image (words_of bytes) process direction × (length bytes ≡ 4 * machine_words)
  pub undo_bytes_zero :
      (image bytes : List ℕ) (process : ℕ) → (step_bytes image bytes process 1).answer.code ≡ 0 →
      may_go_back (program_in image) (view (words_of bytes)).history (newest_node (view (words_of bytes)).history process) ≡ true
  pub list_bytes_zero :
      (image bytes : List ℕ) (rows : List Row) →
      ((list_bytes image bytes rows).answer.code ≡ 0) ↔ (Fit image (words_of bytes) × (length bytes ≡ 4 * machine_words) × (length rows ≡ most_rows))

pub zero_only : ZeroOnly
zero_only =
    record {
      start_zero = λ image first words. start-iff image (length first) (length words) memory_words machine_words _
          (answers.start_answers image first words);
      step_zero = λ image words p d. step-only image words p d (length words) machine_words _ (answers.step_answers image words p d);
      undo_zero = λ image words p e.
          undoing_zero image (eqb (length words) machine_words) words p (sym (answers.step_answers image words p 1) ∙ e);
      list_zero = λ image words rows. list-iff image words (length words) (length rows) machine_words most_rows _
          (answers.list_answers image words rows);
      start_bytes_zero = λ image first bytes.
          start-iff image (length first) (length bytes) (4 * memory_words) (4 * machine_words) _ (answers.start_bytes_answers image first bytes);
      step_bytes_zero = λ image bytes p d.
          step-only image (words_of bytes) p d (length bytes) (4 * machine_words) _ (answers.step_bytes_answers image bytes p d);
      undo_bytes_zero = λ image bytes p e.
          undoing_zero image (has_words bytes machine_words) (words_of bytes) p (sym (answers.step_bytes_answers image bytes p 1) ∙ e);
      list_bytes_zero = λ image bytes rows.
          list-iff image (words_of bytes) (length bytes) (length rows) (4 * machine_words) most_rows _ (answers.list_bytes_answers image bytes rows);
    }

-- No call answers a code above 28; judging none above 15, a start none above 16, a list none above 17.
pub record Most : Type 0 where
  pub judge_most : (image : List ℕ) → (numbers (judgement image)).code ≤ 15
  pub start_most : (image first words : List ℕ) → (start image first words).answer.code ≤ 16
  pub step_most : (image words : List ℕ) (process direction : ℕ) → (step image words process direction).answer.code ≤ 28
  pub list_most : (image words : List ℕ) (rows : List Row) → (list image words rows).answer.code ≤ 17
  pub start_bytes_most : (image first bytes : List ℕ) → (start_bytes image first bytes).answer.code ≤ 16
  pub step_bytes_most : (image bytes : List ℕ) (process direction : ℕ) → (step_bytes image bytes process direction).answer.code ≤ 28
  pub list_bytes_most : (image bytes : List ℕ) (rows : List Row) → (list_bytes image bytes rows).answer.code ≤ 17

at_most : (a b n : ℕ) → a ≡ b → b ≤ n → a ≤ n
at_most a b n e h = omega (arith, e, h)

pub most : Most
most =
    record {
      judge_most = λ image. at_most _ _ 15 (answers.judge_answers image) (first-most 15 (judging image) (judging-right 15 (omega arith) image));
      start_most = λ image first words. at_most _ _ 16 (answers.start_answers image first words)
          (first-most 16 (start_table image first words) (starting-right image _));
      step_most = λ image words p d. at_most _ _ 28 (answers.step_answers image words p d)
          (first-most 28 (step_table image words p d) (stepping-right image _ words p d));
      list_most = λ image words rows. at_most _ _ 17 (answers.list_answers image words rows)
          (first-most 17 (list_table image words rows) (listing-right image _ words));
      start_bytes_most = λ image first bytes.
          at_most _ _ 16 (answers.start_bytes_answers image first bytes)
          (first-most 16 (start_bytes_table image first bytes) (starting-right image _));
      step_bytes_most = λ image bytes p d.
          at_most _ _ 28 (answers.step_bytes_answers image bytes p d)
          (first-most 28 (step_bytes_table image bytes p d) (stepping-right image _ (words_of bytes) p d));
      list_bytes_most = λ image bytes rows.
          at_most _ _ 17 (answers.list_bytes_answers image bytes rows)
          (first-most 17 (list_bytes_table image bytes rows) (listing-right image _ (words_of bytes)));
    }
