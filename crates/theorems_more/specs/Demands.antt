-- The customer's demands, one record each and one field a sentence, on bytes, as C calls: `numbers (judgement image)` is what `tillerwrap_judge`
-- answers, `start_bytes`, `step_bytes` and `list_bytes` are what `tillerwrap_start`, `tillerwrap_step` and `tillerwrap_list` answer and leave, by the
-- promises of crates/tillerwrap. `Bytes` says that the numbers of a list are bytes, which every lent slice's are; what else is lent says
-- Subjects. The
-- work stands in the files that are cited.
use Rattle.std.specs.Prelude.{◌≡◌, refl, ◌⊎◌, ◌↔◌, true, List, [], ◌∷◌, ◌++◌, ℕ, ◌*◌, ◌<◌, ◌≤◌, length}
use Rattle.rules.specs.Calls.{most_rows}
use Rattle.rules.specs.Machine.{Kept, most_kept, memory_words, machine_words, history_count}
use Rattle.rules.specs.Judge.{judgement, numbers}
use Rattle.rules.specs.Cause.{may_go_back, newest_node, SameGraph}
use Rattle.rules.specs.Words.{words_of, start_bytes, step_bytes}
use Rattle.rules.specs.List.{list_bytes}
use Rattle.rules.specs.Paper.{Configuration, configuration_of}
use Rattle.rules.specs.Annotation.{Annotation, annotation_of}
use Rattle.rules.specs.declared.Block.{Block}
use Rattle.rules.specs.declared.Row.{Row}
use Rattle.theorems.specs.Outcome.{One, JudgeNumbersAllows, StartBytesAllows, StepBytesAllows, ListBytesAllows, one-outcome}
use Rattle.theorems.specs.Played.{Call}
use Rattle.theorems.specs.Refusals.{Bytes}
use Rattle.theorems_more.specs.Subjects.{IsAccepted, program_of, LentBytes, view_bytes, Given, Room, started_bytes, played_bytes}
use Rattle.theorems_more.specs.ProcessSets.{ProcessSet}
use Rattle.theorems.specs.Refusals.{IsRefused, refusal_keeps}
use Rattle.theorems.specs.PaperShown.{Shows, StepFrom, StepTo}
use Rattle.theorems.specs.RefusedOnlyWhere.{NoStepFrom, NoStepTo}
use Rattle.rules.specs.RefusalTable.{program_in, first_given, judging, start_bytes_table, step_bytes_table, list_bytes_table}
use Rattle.theorems_more.specs.FirstGiven.{answers}
use Rattle.theorems_more.specs.ZeroOnly.{Fit, StepFit, zero_only, most}
use Rattle.theorems_more.specs.ListIsStep.{step_row_bytes, rows_by, list-is_step_bytes}
use Rattle.theorems_more.specs.OwnHistory.{forwards_of, own-history_bytes}
use Rattle.theorems_more.specs.Bytes.Demand2 as two
use Rattle.theorems_more.specs.Bytes.Demand2.{shown_by, code, left}
use Rattle.theorems_more.specs.Bytes.Demand3.{SameBytesState, AcceptedBytes, played-lent_bytes, never-17_bytes, same-graph_same_state_bytes}
use Rattle.theorems_more.specs.Bytes.Demand3.{newest-goes_back_bytes, none-left_is_the_start_bytes, played-list}
use Rattle.theorems_values.specs.SignedValues.{SignedValues, signed-values}
use Rattle.theorems_more.specs.HandedOn.{HandedOn, handed-on}
use Rattle.theorems_more.specs.JudgeCounts.{JudgeCounts}
use Rattle.theorems_more.specs.JudgeCounts as counts

-- ---- 1
pub record Demand1 : Type 0 where
  -- "Any image, any machine, any process number: always an answer, always an end." Each call has one outcome, whatever is handed in: an answer,
  -- and what the lent slice then holds. (That the code ends is part of what the checker proves of it.)
  pub judge_answers : (image : List ℕ) → One (JudgeNumbersAllows image)
  pub start_answers : (image first machine : List ℕ) → One (StartBytesAllows image first machine)
  pub step_answers : (image machine : List ℕ) (process direction : ℕ) → One (StepBytesAllows image machine process direction)
  pub list_answers : (image machine : List ℕ) (rows : List Row) → One (ListBytesAllows image machine rows)
  -- "What is unfit gets the numbered refusal of document 01," the first row of its tables that is given, 0 where none is; with judging's place
  -- where the image is refused, else with place 0; judging's place for 9 to 15 is the lowest block that gives the code, or 0;
  pub judge_refuses : (image : List ℕ) → (numbers (judgement image)).code ≡ first_given (judging image)
  pub start_refuses :
      (image first machine : List ℕ) → (start_bytes image first machine).answer.code ≡ first_given (start_bytes_table image first machine)
  pub step_refuses :
      (image machine : List ℕ) (process direction : ℕ) →
      (step_bytes image machine process direction).answer.code ≡ first_given (step_bytes_table image machine process direction)
  pub list_refuses :
      (image machine : List ℕ) (rows : List Row) → (list_bytes image machine rows).answer.code ≡ first_given (list_bytes_table image machine rows)
  pub places : HandedOn
  pub judge_counts : (image : List ℕ) → JudgeCounts (program_in image) (numbers (judgement image))
  -- "and the caller's memory stays as handed in."
  pub start_keeps :
      (image first machine : List ℕ) → Bytes machine → IsRefused (start_bytes image first machine) →
      (start_bytes image first machine).leaves ≡ machine
  pub step_keeps :
      (image machine : List ℕ) (process direction : ℕ) → Bytes machine → IsRefused (step_bytes image machine process direction) →
      (step_bytes image machine process direction).leaves ≡ machine
  pub list_keeps :
      (image machine : List ℕ) (rows : List Row) → IsRefused (list_bytes image machine rows) → (list_bytes image machine rows).leaves ≡ rows
  -- "Nobody is expected to have checked first." A call that answers 0 was handed an accepted image and slices of the right lengths; a list and a
  -- step a machine that passes 17; a step direction 0 or 1 and a live process. No code is above 28. A list shows what `step` would answer.
  pub start_checks :
      (image first machine : List ℕ) →
      ((start_bytes image first machine).answer.code ≡ 0)
      ↔ (IsAccepted image × (length first ≡ 4 * memory_words) × (length machine ≡ 4 * machine_words))
  pub step_checks :
      (image machine : List ℕ) (process direction : ℕ) → (step_bytes image machine process direction).answer.code ≡ 0 →
      StepFit image (words_of machine) process direction × (length machine ≡ 4 * machine_words)
  pub list_checks :
      (image machine : List ℕ) (rows : List Row) →
      ((list_bytes image machine rows).answer.code ≡ 0)
      ↔ (Fit image (words_of machine) × (length machine ≡ 4 * machine_words) × (length rows ≡ most_rows))
  pub step_codes : (image machine : List ℕ) (process direction : ℕ) → (step_bytes image machine process direction).answer.code ≤ 28
  pub list_shows :
      (image machine : List ℕ) (rows : List Row) → Bytes machine → (list_bytes image machine rows).answer.code ≡ 0 →
      (list_bytes image machine rows).leaves ≡ rows_by (step_row_bytes image machine) (view_bytes machine)

pub demand_1 : Demand1
demand_1 =
    record {
      judge_answers = one-outcome.judge_numbers_one;
      start_answers = one-outcome.start_bytes_one;
      step_answers = one-outcome.step_bytes_one;
      list_answers = one-outcome.list_bytes_one;
      judge_refuses = answers.judge_answers;
      start_refuses = answers.start_bytes_answers;
      step_refuses = answers.step_bytes_answers;
      list_refuses = answers.list_bytes_answers;
      places = handed-on;
      judge_counts = counts.judge_counts;
      start_keeps = refusal_keeps.start_bytes_keeps;
      step_keeps = refusal_keeps.step_bytes_keeps;
      list_keeps = refusal_keeps.list_bytes_keeps;
      start_checks = zero_only.start_bytes_zero;
      step_checks = zero_only.step_bytes_zero;
      list_checks = zero_only.list_bytes_zero;
      step_codes = most.step_bytes_most;
      list_shows = list-is_step_bytes;
    }

-- ---- 2, for every accepted image and all lent bytes b that pass 16 and 17, reached by a run or not
-- `code b p d` is what the step of process p answers on them, `left b p d` the machine that it leaves, `shown_by b` the machine that they show.
abbrev pub program : LentBytes → List Block
program b = program_of b.image

-- they show this configuration and this annotation of 004's
abbrev pub Shown : LentBytes → Configuration → Annotation → Type 0
Shown b C A = Shows (program b) (shown_by b) C A

abbrev pub kept_by : LentBytes → ℕ
kept_by b = history_count (words_of b.bytes)

pub record Demand2 (b : LentBytes) : Type 1 where
  -- They show a configuration and an annotation; every configuration that they show is a process set.
  pub shows : Shown b (configuration_of (shown_by b)) (annotation_of (program b) (shown_by b).history)
  pub process_set : (C : Configuration) (A : Annotation) → Shown b C A → ProcessSet C.processes
  -- "A forward step [..] do[es] what the published CRIL rules say": it is made just where they have it and the history has room, and leads where
  -- they say.
  pub forward_where :
      (p : ℕ) (C : Configuration) (A : Annotation) → Shown b C A → (code b p 0 ≡ 0) ↔ (StepFrom (program b) p C A × (kept_by b < most_kept))
  pub forward_leads :
      (p : ℕ) (C : Configuration) (A : Annotation) → Shown b C A → code b p 0 ≡ 0 → (t : StepFrom (program b) p C A) →
      Shows (program b) (left b p 0) t.configuration t.annotation
  -- "and an undo do[es] what the published CRIL rules say",
  pub undo_where : (p : ℕ) (C : Configuration) (A : Annotation) → Shown b C A → (code b p 1 ≡ 0) ↔ StepTo (program b) p C A
  pub undo_leads :
      (p : ℕ) (C : Configuration) (A : Annotation) → Shown b C A → code b p 1 ≡ 0 → (t : StepTo (program b) p C A) →
      Shows (program b) (left b p 1) t.configuration t.annotation
  -- "the cause graph deciding which undo is allowed",
  pub graph_decides : (p : ℕ) → code b p 1 ≡ 0 → may_go_back (program b) (shown_by b).history (newest_node (shown_by b).history p) ≡ true
  -- "over 32-bit values": what an operator or an update of the rules makes of words is the word that it means of their signed numbers
  -- (rules' Meaning),
  -- and words mean all of -2 ^ 31 to 2 ^ 31 - 1.
  pub values : SignedValues
  -- "A step is refused only where those rules or a stated limit refuse it." 26 is the history's limit; 28 never comes.
  pub forward_only_where : (p : ℕ) → 20 ≤ code b p 0 → ((code b p 0 ≡ 26) × (most_kept ≤ kept_by b)) ⊎ NoStepFrom (program b) (shown_by b) p
  pub undo_only_where : (p : ℕ) → 20 ≤ code b p 1 → NoStepTo (program b) (shown_by b) p
  pub never_28 : (p direction : ℕ) → code b p direction ≡ 28 → ⊥

pub demand_2 : (b : LentBytes) → Demand2 b
demand_2 b =
    record {
      shows = two.bytes-show b;
      process_set = two.process-set_bytes b;
      forward_where = two.step-forward_bytes b;
      forward_leads = two.step-forward_is_bytes b;
      undo_where = two.step-undo_bytes b;
      undo_leads = two.step-undo_is_bytes b;
      graph_decides = λ p. zero_only.undo_bytes_zero b.image.bytes b.bytes p;
      values = signed-values;
      forward_only_where = two.forward-only_where_bytes b;
      undo_only_where = two.undo-only_where_bytes b;
      never_28 = two.no_28_bytes b;
    }

-- ---- 3, "Two runs of one program from the same first memory, each any string of forward and undo calls on a machine just started, refused calls
-- included": g is an accepted image with 1,152 bytes of first memory, r any 34,696 lent bytes, `played_bytes g r calls` what a start and then the
-- calls leave in them, `kept_after g r calls` the steps that they keep.
abbrev pub kept_after : Given → Room → List Call → List Kept
kept_after g r calls = (view_bytes (played_bytes g r calls)).history

pub record Demand3 (g : Given) : Type 0 where
  -- "if the steps they keep show the same cause graph, both stand at the same processes, variables and heap."
  pub same_graph_same_state :
      (r r' : Room) (calls calls' : List Call) → SameGraph (program_of g.image) (kept_after g r calls) (kept_after g r' calls') →
      SameBytesState (played_bytes g r calls) (played_bytes g r' calls')
  -- "While a kept step remains, the newest can be undone."
  pub newest_goes_back :
      (r : Room) (calls : List Call) (history : List Kept) (newest : Kept) → kept_after g r calls ≡ history ++ newest ∷ [] →
      AcceptedBytes g.image.bytes (played_bytes g r calls) newest.identifier 1 history
  -- "When none remains, the machine is as it was started."
  pub none_left_is_the_start : (r : Room) (calls : List Call) → kept_after g r calls ≡ [] → played_bytes g r calls ≡ started_bytes g r
  -- (Whether the values shown on the way back were ever true.) Each machine is the one to which the forward calls of its
  -- own history lead, byte for byte.
  pub shown_is_reached : (r : Room) (calls : List Call) → played_bytes g r (forwards_of (kept_after g r calls)) ≡ played_bytes g r calls
  -- Every machine on the way is one that demand 2 speaks of; no step on it answers 17, and a list of it answers 0.
  pub on_the_way : (r : Room) (calls : List Call) → (b : LentBytes) × (b.image ≡ g.image) × (b.bytes ≡ played_bytes g r calls)
  pub never_17 :
      (r : Room) (calls : List Call) (process direction : ℕ) →
      (step_bytes g.image.bytes (played_bytes g r calls) process direction).answer.code ≡ 17 → ⊥
  pub lists :
      (r : Room) (calls : List Call) (rows : List Row) → length rows ≡ most_rows →
      (list_bytes g.image.bytes (played_bytes g r calls) rows).answer.code ≡ 0

pub demand_3 : (g : Given) → Demand3 g
demand_3 g =
    record {
      same_graph_same_state = same-graph_same_state_bytes g;
      newest_goes_back = newest-goes_back_bytes g;
      none_left_is_the_start = none-left_is_the_start_bytes g;
      shown_is_reached = own-history_bytes g;
      on_the_way = λ r calls. (played-lent_bytes g r calls, refl, refl);
      never_17 = never-17_bytes g;
      lists = played-list g;
    }
