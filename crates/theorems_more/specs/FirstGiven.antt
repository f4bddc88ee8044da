-- What start, step and list answer is the first row of document 01's tables that is given (RefusalTable), on words and on bytes, whatever is handed
-- in. So each code comes in its place before the others, and 0 is answered only where no row is given. Assumes nothing.
use Rattle.std.specs.Prelude.{◌≡◌, ◌⊎◌, Bool, not, ◌&&◌, ◌||◌, List, [], ◌∷◌, ◌++◌, ℕ, ◌*◌, eqb, leb}
use Rattle.std.proofs.Math.Path.{refl, ap}
use Rattle.std.proofs.Common.{sym, ◌∙◌, inl, inr, ltb-true, eqb-true}
use Rattle.std.proofs.Math.Bool.{true, false}
use Rattle.std.proofs.Math.Option.{Option, none, some}
use Rattle.std.proofs.Math.ListN.{length}
use Rattle.std.proofs.Math.Dec.{ltb}
use Rattle.theory.specs.Tests.{bool_cases, true_false, not_true, eqb_same, and-true, true_and}
use Rattle.rules.specs.Base.{pick, lowest, some_below}
use Rattle.rules.specs.Format.{longest, most_blocks}
use Rattle.rules.specs.Read.{Reading, got, fault, blocks_at, decoded, is_call}
use Rattle.rules.specs.Labels.{block_of, called, bad9, bad10, bad11, bad12}
use Rattle.rules.specs.Calls.{calling_of, bad13, bad14, bad15, most_rows, peak}
use Rattle.rules.specs.Judge.{at_lowest, judged_blocks, judged_reading, judgement, numbers}
use Rattle.rules.specs.Machine.{Machine, begin, end, standing, children, memory_words, machine_words, most_kept, view, pack, started}
use Rattle.rules.specs.Fits.{fits, is_live, entry_block, exit_block}
use Rattle.rules.specs.Cause.{holds}
use Rattle.rules.specs.Leaf.{Tried, made, refused, after, Moved, entry_place, exit_place, leaf_forward, leaf_undo}
use Rattle.rules.specs.Step.{waits, crowded, fork, undo_fork, merge, undo_merge, leaf_step, undo_leaf, forward_childless, forward}
use Rattle.rules.specs.Step.{undo_childless, undo}
use Rattle.rules.specs.Words.{Outcome, refuse, accept, judged_then, read_then, on_image, start_in, start, step_of, finished, step_at}
use Rattle.rules.specs.Words.{step_in, step, words_of, to_bytes, has_words, start_bytes_in, start_bytes, step_bytes_in, step_bytes}
use Rattle.rules.specs.List.{code_of, rows_of, list_in, list, list_bytes_in, list_bytes}
use Rattle.rules.specs.declared.Block.{Block}
use Rattle.rules.specs.Judgement.{Judgement}
use Rattle.rules.specs.declared.Place.{Place}
use Rattle.rules.specs.declared.Row.{Row}
use Rattle.laws.proofs.Search.{lowest-none, lowest-found}
use Rattle.laws.proofs.Lists.{pick_true, pick-false}
use Rattle.theorems.specs.Held.{some_below_so, below-some}
use Rattle.theorems_more.specs.Bytes.Words.{length-words}
use Rattle.rules.specs.RefusalTable.{Refusal, row, first_given, fault_code, is_fault, blocks_read, program_in, nine_on, judging, starting}
use Rattle.rules.specs.RefusalTable.{listing, placed, refusal_in, is_met, met_code, met_ahead, met_back, trying, stepping, start_table}
use Rattle.rules.specs.RefusalTable.{step_table, list_table, start_bytes_table, step_bytes_table, list_bytes_table}

-- ---- what is tried in turn
-- the lowest bad block is there just where some block is bad
lowest-any : (bad : ℕ → Bool) (n : ℕ) → ltb (lowest bad n) n ≡ some_below bad n
lowest-any bad n = go (bool_cases (ltb (lowest bad n) n))
  where
    go : (ltb (lowest bad n) n ≡ true) ⊎ (ltb (lowest bad n) n ≡ false) → ltb (lowest bad n) n ≡ some_below bad n
    go (inl e) =
        let lt = ltb-true (lowest bad n) n e in
        e ∙ sym (some_below_so bad n (lowest bad n) lt (lowest-found bad n lt))
    go (inr e) =
        e ∙ sym (not_true (some_below bad n) (λ s. let x = below-some bad n s in true_false x.2 (lowest-none bad n e x.0 x.1)))

module _ {A : Type 0} where
  outcome-first : (t : Bool) (code : ℕ) (lent : A) (o : Outcome A) → (pick t (refuse code 0 lent) o).answer.code ≡ pick t code o.answer.code
  unfolding pick
  outcome-first true code lent o = refl
  outcome-first false code lent o = refl

  judged-pick :
      (t : Bool) (code place : ℕ) (j : Judgement) (lent : A) (o : Outcome A) →
      (judged_then (pick t (Judgement.Refused code place) j) lent o).answer.code ≡ pick t code (judged_then j lent o).answer.code
  unfolding pick
  judged-pick true code place j lent o = refl
  judged-pick false code place j lent o = refl

  at-lowest :
      (code : ℕ) (bad : ℕ → Bool) (n : ℕ) (j : Judgement) (lent : A) (o : Outcome A) →
      (judged_then (at_lowest code bad n j) lent o).answer.code ≡ pick (some_below bad n) code (judged_then j lent o).answer.code
  unfolding at_lowest
  at-lowest code bad n j lent o =
      judged-pick (ltb (lowest bad n) n) code (lowest bad n) j lent o
      ∙ ap (λ (t : Bool). pick t code (judged_then j lent o).answer.code) (lowest-any bad n)

  judged-first :
      (program : List Block) (lent : A) (o : Outcome A) (rest : List Refusal) → o.answer.code ≡ first_given rest →
      (judged_then (judged_blocks program) lent o).answer.code ≡ first_given (nine_on program ++ rest)
  unfolding judged_blocks nine_on first_given
  judged-first program lent o rest h =
      let n = length program in
      at-lowest 9 (λ b. bad9 program (block_of program b)) n _ lent o
      ∙ ap (λ (c : ℕ). pick (some_below (λ b. bad9 program (block_of program b)) n) 9 c)
      (at-lowest 10 (λ b. bad10 program (block_of program b)) n _ lent o
      ∙ ap (λ (c : ℕ). pick (some_below (λ b. bad10 program (block_of program b)) n) 10 c)
      (at-lowest 11 (bad11 program) n _ lent o
      ∙ ap (λ (c : ℕ). pick (some_below (bad11 program) n) 11 c)
      (at-lowest 12 (λ b. bad12 program (block_of program b)) n _ lent o
      ∙ ap (λ (c : ℕ). pick (some_below (λ b. bad12 program (block_of program b)) n) 12 c)
      (judged-pick (bad13 program) 13 0 _ lent o
      ∙ ap (λ (c : ℕ). pick (bad13 program) 13 c)
      (at-lowest 14 (bad14 (calling_of program)) n _ lent o
      ∙ ap (λ (c : ℕ). pick (some_below (bad14 (calling_of program)) n) 14 c)
      (judged-pick (bad15 (calling_of program)) 15 0 _ lent o ∙ ap (λ (c : ℕ). pick (bad15 (calling_of program)) 15 c) h))))))

  image-first :
      (image : List ℕ) (lent : A) (f : List Block → Outcome A) (rest : List Refusal) →
      (f (program_in image)).answer.code ≡ first_given rest → (on_image image lent f).answer.code ≡ first_given (judging image ++ rest)
  unfolding on_image decoded judging first_given pick
  image-first image lent f rest h = go (eqb (length image) 0 || ltb longest (length image)) (blocks_at most_blocks image 0) h
    where
      go :
          (t : Bool) (r : Reading (List Block)) → (f (blocks_read r)).answer.code ≡ first_given rest →
          (read_then (pick t (fault 1 0) r) lent f).answer.code
          ≡ pick t 1 (pick (is_fault r) (fault_code r) (first_given (nine_on (blocks_read r) ++ rest)))
      go true r h = refl
      go false (fault code place) h = refl
      go false (got program at) h = judged-first program lent (f program) rest h

-- ---- the step itself
tried-first : (t : Bool) (code : ℕ) (x : Tried Machine) → code_of (pick t (refused code) x) ≡ pick t code (code_of x)
unfolding pick
tried-first true code x = refl
tried-first false code x = refl

module _ {A : Type 0} where
  after-met : (t : Tried A) (f : A → Machine) → code_of (after t (λ a. made (f a))) ≡ pick (is_met (refusal_in t)) (met_code (refusal_in t)) 0
  unfolding after pick
  after-met (made a) f = refl
  after-met (refused code) f = refl

forward-inner :
    (n c k : Bool) (t : Tried Place) (f : Place → Machine) (l : Tried Moved) (g : Moved → Machine) (m : Machine) →
    code_of (pick n (pick c (pick k (refused 28) (after t (λ a. made (f a)))) (after l (λ s. made (g s)))) (made m))
    ≡ pick (n && (c && k)) 28
    (pick (is_met (pick n (pick c (refusal_in t) (refusal_in l)) none)) (met_code (pick n (pick c (refusal_in t) (refusal_in l)) none)) 0)
unfolding pick
forward-inner true true true t f l g m = refl
forward-inner true true false t f l g m = after-met t f
forward-inner true false k t f l g m = after-met l g
forward-inner false c k t f l g m = refl

undo-inner :
    (n c k : Bool) (t : Tried Place) (f : Place → Machine) (l : Tried Moved) (g : Moved → Machine) (m : Machine) →
    code_of (pick n (pick c (pick k (refused 28) (made m)) (after l (λ s. made (g s)))) (after t (λ a. made (f a))))
    ≡ pick (n && (c && k)) 28
    (pick (is_met (pick n (pick c none (refusal_in l)) (refusal_in t))) (met_code (pick n (pick c none (refusal_in l)) (refusal_in t))) 0)
unfolding pick
undo-inner true true true t f l g m = refl
undo-inner true true false t f l g m = refl
undo-inner true false k t f l g m = after-met l g
undo-inner false c k t f l g m = after-met t f

module _ (program : List Block) (m : Machine) (p : ℕ) (here : Place) where
  forward-first : code_of (forward program m p here) ≡ first_given (trying program m p here true)
  unfolding forward forward_childless fork merge leaf_step first_given trying met_ahead met_back pick
  forward-first =
      tried-first (eqb here.stage end) 21 _
      ∙ ap (λ (c : ℕ). pick (eqb here.stage end) 21 c)
      (tried-first (waits m p end) 20 _
      ∙ ap (λ (c : ℕ). pick (waits m p end) 20 c)
      (tried-first (leb most_kept (length m.history)) 26 _
      ∙ ap (λ (c : ℕ). pick (leb most_kept (length m.history)) 26 c)
      (forward-inner (eqb (length (children m.rows p)) 0) (is_call (block_of program (entry_block program here)).instruction)
      (crowded m (called program (entry_block program here))) (exit_place m.memory (block_of program (entry_block program here)).exit) _
      (leaf_forward m.memory here (block_of program (entry_block program here))) _ _)))

  undo-first : code_of (undo program m p here) ≡ first_given (trying program m p here false)
  unfolding undo undo_childless undo_fork undo_merge undo_leaf first_given trying met_ahead met_back pick
  undo-first =
      tried-first (eqb here.stage begin) 21 _
      ∙ ap (λ (c : ℕ). pick (eqb here.stage begin) 21 c)
      (tried-first (waits m p begin) 20 _
      ∙ ap (λ (c : ℕ). pick (waits m p begin) 20 c)
      (tried-first (holds program m.history p) 27 _
      ∙ ap (λ (c : ℕ). pick (holds program m.history p) 27 c)
      (undo-inner (eqb (length (children m.rows p)) 0) (is_call (block_of program (exit_block program here)).instruction)
      (crowded m (called program (exit_block program here))) (entry_place m.memory (block_of program (exit_block program here)).entry) _
      (leaf_undo m.memory here (block_of program (exit_block program here))) _ _)))

  step-of_first : (ahead : Bool) →
      code_of (pick ahead (forward program m p here) (undo program m p here)) ≡ first_given (trying program m p here ahead)
  unfolding pick
  step-of_first true = forward-first
  step-of_first false = undo-first

-- ---- the calls, on words
abbrev after_lengths : List Block → List ℕ → ℕ → ℕ → List Refusal
after_lengths program words p d =
    row 17 (not (fits program words))
    ∷ row 19 (ltb 1 d)
    ∷ row 18 (not (is_live (standing (view words).rows p)))
    ∷ trying program (view words) p (placed (standing (view words).rows p)) (eqb d 0)

-- what is tried answers its code
pub finished-code : (words : List ℕ) (t : Tried Machine) → (finished words t).answer.code ≡ code_of t
finished-code words (made m) = refl
finished-code words (refused code) = refl

at_first :
    (words : List ℕ) (program : List Block) (p d : ℕ) (o : Option Place) →
    (step_at words program p d o).answer.code ≡ pick (not (is_live o)) 18 (first_given (trying program (view words) p (placed o) (eqb d 0)))
unfolding pick
at_first words program p d none = refl
at_first words program p d (some here) =
    finished-code words (step_of program (view words) p here d) ∙ step-of_first program (view words) p here (eqb d 0)

in_first : (words : List ℕ) (p d : ℕ) (program : List Block) →
    (step_in words p d program).answer.code ≡ first_given (row 16 (not (eqb (length words) machine_words)) ∷ after_lengths program words p d)
unfolding step_in first_given
in_first words p d program =
    outcome-first (not (eqb (length words) machine_words)) 16 words _
    ∙ ap (λ (c : ℕ). pick (not (eqb (length words) machine_words)) 16 c)
    (outcome-first (not (fits program words)) 17 words _
    ∙ ap (λ (c : ℕ). pick (not (fits program words)) 17 c)
    (outcome-first (ltb 1 d) 19 words _
    ∙ ap (λ (c : ℕ). pick (ltb 1 d) 19 c)
    (at_first words program p d (standing (view words).rows p))))

start-in : (lengths : Bool) (words left : List ℕ) →
    (pick lengths (accept left) (refuse 16 0 words)).answer.code ≡ pick (not lengths) 16 0
unfolding pick
start-in true words left = refl
start-in false words left = refl

list-in : (lengths fit : Bool) (rows left : List Row) →
    (pick lengths (pick fit (accept left) (refuse 17 0 rows)) (refuse 16 0 rows)).answer.code ≡ pick (not lengths) 16 (pick (not fit) 17 0)
unfolding pick
list-in true true rows left = refl
list-in true false rows left = refl
list-in false fit rows left = refl

-- ---- on bytes: the lengths are asked once, of the bytes
-- a slice of bytes that is a whole number of words is that number of words
whole : (bytes : List ℕ) (n : ℕ) → has_words bytes n ≡ true → eqb (length (words_of bytes)) n ≡ true
whole bytes n h = eqb_same (length (words_of bytes)) n (length-words bytes n (eqb-true (length bytes) (4 * n) h))

step-bytes_in : (bytes : List ℕ) (p d : ℕ) (program : List Block) →
    (step_bytes_in bytes p d program).answer.code ≡ first_given
    (row 16 (not (has_words bytes machine_words)) ∷ after_lengths program (words_of bytes) p d)
unfolding step_bytes_in to_bytes first_given
step-bytes_in bytes p d program = go (bool_cases (has_words bytes machine_words))
  where
    rest : ℕ
    rest = first_given (after_lengths program (words_of bytes) p d)

    go :
        (has_words bytes machine_words ≡ true) ⊎ (has_words bytes machine_words ≡ false) →
        (pick (has_words bytes machine_words) (to_bytes (step_in (words_of bytes) p d program)) (refuse 16 0 bytes)).answer.code
        ≡ pick (not (has_words bytes machine_words)) 16 rest
    go (inl h) =
        ap (λ (o : Outcome (List ℕ)). o.answer.code)
        (pick_true (has_words bytes machine_words) (to_bytes (step_in (words_of bytes) p d program)) (refuse 16 0 bytes) h)
        ∙ in_first (words_of bytes) p d program
        ∙ pick-false (not (eqb (length (words_of bytes)) machine_words)) 16 rest (ap not (whole bytes machine_words h))
        ∙ sym (pick-false (not (has_words bytes machine_words)) 16 rest (ap not h))
    go (inr h) =
        ap (λ (o : Outcome (List ℕ)). o.answer.code)
        (pick-false (has_words bytes machine_words) (to_bytes (step_in (words_of bytes) p d program)) (refuse 16 0 bytes) h)
        ∙ sym (pick_true (not (has_words bytes machine_words)) 16 rest (ap not h))

start-bytes_in : (first bytes : List ℕ) (program : List Block) →
    (start_bytes_in first bytes program).answer.code ≡ pick (not (has_words first memory_words && has_words bytes machine_words)) 16 0
unfolding start_bytes_in to_bytes start_in
start-bytes_in first bytes program = go (bool_cases both)
  where
    both : Bool
    both = has_words first memory_words && has_words bytes machine_words

    left : Outcome (List ℕ)
    left = to_bytes (start_in (words_of first) (words_of bytes) program)

    go : (both ≡ true) ⊎ (both ≡ false) → (pick both left (refuse 16 0 bytes)).answer.code ≡ pick (not both) 16 0
    go (inl h) =
        let x = and-true (has_words first memory_words) (has_words bytes machine_words) h in
        let y = true_and _ _ (whole first memory_words x.0) (whole bytes machine_words x.1) in
        ap (λ (o : Outcome (List ℕ)). o.answer.code) (pick_true both left (refuse 16 0 bytes) h)
        ∙ start-in (eqb (length (words_of first)) memory_words && eqb (length (words_of bytes)) machine_words) (words_of bytes)
        (pack (started (words_of first)))
        ∙ pick-false (not (eqb (length (words_of first)) memory_words && eqb (length (words_of bytes)) machine_words)) 16 0 (ap not y)
        ∙ sym (pick-false (not both) 16 0 (ap not h))
    go (inr h) =
        ap (λ (o : Outcome (List ℕ)). o.answer.code) (pick-false both left (refuse 16 0 bytes) h) ∙ sym (pick_true (not both) 16 0 (ap not h))

list-bytes_in : (bytes : List ℕ) (rows : List Row) (program : List Block) →
    (list_bytes_in bytes rows program).answer.code
    ≡ pick (not (has_words bytes machine_words && eqb (length rows) most_rows)) 16 (pick (not (fits program (words_of bytes))) 17 0)
unfolding list_bytes_in list_in
list-bytes_in bytes rows program = go (has_words bytes machine_words) refl
  where
    sixty : Bool
    sixty = eqb (length rows) most_rows

    rest : ℕ
    rest = pick (not (fits program (words_of bytes))) 17 0

    go : (t : Bool) → has_words bytes machine_words ≡ t →
        (pick t (list_in (words_of bytes) rows program) (refuse 16 0 rows)).answer.code ≡ pick (not (t && sixty)) 16 rest
    go true h =
        ap (λ (o : Outcome (List Row)). o.answer.code) (pick_true true (list_in (words_of bytes) rows program) (refuse 16 0 rows) refl)
        ∙ list-in (eqb (length (words_of bytes)) machine_words && sixty) (fits program (words_of bytes)) rows
        (rows_of program (view (words_of bytes)))
        ∙ ap (λ (t : Bool). pick (not (t && sixty)) 16 rest) (whole bytes machine_words h)
    go false h =
        ap (λ (o : Outcome (List Row)). o.answer.code) (pick-false false (list_in (words_of bytes) rows program) (refuse 16 0 rows) refl)
        ∙ sym (pick_true true 16 rest refl)

-- ---- the statement
pub record Answers : Type 0 where
  -- Judging answers the first row that is given of 1, the faults 2 to 8 as they are met, and 9 to 15.
  pub judge_answers : (image : List ℕ) → (numbers (judgement image)).code ≡ first_given (judging image)
  -- Starting answers the first of these and of 16.
  pub start_answers : (image first words : List ℕ) → (start image first words).answer.code ≡ first_given (start_table image first words)
  -- Stepping answers the first of judging's, 16, 17, 19, 18, 21, 20, 26, 27, 28, and of what is then met of 25, 22, 23, 24.
  pub step_answers : (image words : List ℕ) (process direction : ℕ) →
      (step image words process direction).answer.code ≡ first_given (step_table image words process direction)
  -- Listing answers the first of judging's, 16 and 17.
  pub list_answers : (image words : List ℕ) (rows : List Row) → (list image words rows).answer.code ≡ first_given (list_table image words rows)
  -- The same on bytes.
  pub start_bytes_answers : (image first bytes : List ℕ) →
      (start_bytes image first bytes).answer.code ≡ first_given (start_bytes_table image first bytes)
  pub step_bytes_answers : (image bytes : List ℕ) (process direction : ℕ) →
      (step_bytes image bytes process direction).answer.code ≡ first_given (step_bytes_table image bytes process direction)
  pub list_bytes_answers : (image bytes : List ℕ) (rows : List Row) →
      (list_bytes image bytes rows).answer.code ≡ first_given (list_bytes_table image bytes rows)

judge_code : (image : List ℕ) → (numbers (judgement image)).code ≡ first_given (judging image)
unfolding judgement judged_reading on_image judging nine_on first_given
judge_code image = reading (decoded image) ∙ image-first image [] (λ program. accept []) [] refl
  where
    judged : (j : Judgement) → (numbers j).code ≡ (judged_then {Lent = List ℕ} j [] (accept [])).answer.code
    judged (Judgement.Refused code place) = refl
    judged (Judgement.Accepted blocks peak) = refl

    reading : (r : Reading (List Block)) → (numbers (judged_reading r)).code ≡ (read_then {Lent = List ℕ} r [] (λ program. accept [])).answer.code
    reading (fault code place) = refl
    reading (got program at) = judged (judged_blocks program)

pub answers : Answers
unfolding start step list start_bytes step_bytes list_bytes starting stepping listing first_given start_in list_in
answers =
    record {
      judge_answers = judge_code;
      start_answers = λ image first words. image-first image words (start_in first words) _ (start-in _ words (pack (started first)));
      step_answers = λ image words p d. image-first image words (step_in words p d) _ (in_first words p d (program_in image));
      list_answers = λ image words rows. image-first image rows (list_in words rows) _ (list-in _ _ rows (rows_of (program_in image) (view words)));
      start_bytes_answers = λ image first bytes. image-first image bytes (start_bytes_in first bytes) _
          (start-bytes_in first bytes (program_in image));
      step_bytes_answers = λ image bytes p d. image-first image bytes (step_bytes_in bytes p d) _ (step-bytes_in bytes p d (program_in image));
      list_bytes_answers = λ image bytes rows. image-first image rows (list_bytes_in bytes rows) _ (list-bytes_in bytes rows (program_in image));
    }
