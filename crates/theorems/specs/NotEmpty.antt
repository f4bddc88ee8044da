-- Not empty: rules' `step` accepts and refuses, changes memory, works again and comes back, by computation on document 01's image
-- of 40 bytes with a memory that is all zero; so the steps that document 01 wants shut out don't keep the promise of `step`.
-- Assumes nothing.
use Rattle.std.specs.Prelude.{◌≡◌, refl, true, false, List, [], ◌∷◌, ℕ, ◌≤◌, ◌<◌, get_or, ltb}
use Rattle.std.proofs.Common.{sym, ap, ◌∙◌, arith}
use Rattle.rules.specs.Base.{pick, some_of, each_of, those, lowest_from, lowest, some_below, times, up_from, alike, zeros}
use Rattle.rules.specs.Value.{span, less, at_most, negated}
use Rattle.rules.specs.Format.{operator_of}
use Rattle.rules.specs.Names.{block_names, block_reads, block_writes}
use Rattle.rules.specs.Read.{next, follows, whole, label_at, labels_at, variable_at, constant_at, operand_at, target_at, two_at, expression_at, entry_at, updates_itself, exchanges_itself, update_at, exchange_at, name_at, names_at, call_at, instruction_at, call_exit_at, leaf_exit_at, exit_at, block_at, blocks_at, decoded}
use Rattle.rules.specs.Labels.{semaphore, bad9, count, ordinary, outer, bad10, join_nodes, join_labels, groups_from, groups, within, own_begins, own_ends, bad11, home, bad12}
use Rattle.rules.specs.Calls.{bad13, calling_of, reaches_over, reaches, bad14, sum_of, deepest_of, largest, depth_below, peak_below, depth, peak, bad15}
use Rattle.rules.specs.Judge.{at_lowest, judged_blocks, judged_reading, judgement}
use Rattle.rules.specs.Machine.{standing, children, pack_rows, pack_history, padded, pack, view_rows, view_history, view, started, machine_words, memory_words, history_count}
use Rattle.rules.specs.Fits.{entry_block, exit_block, called_at, counts_fit, unused_zero, ascending, stands_in, root_fits, parent_fits, own_label, own_fits, children_fit, newest, newest_fits, block_fits, digits_fit, kept_fits, row_fits, machine_fits, fits}
use Rattle.rules.specs.Cause.{reads, writes, entries_of, last_from, last_writer, edges_for, nodes_from, edges_from, nodes, edges, is_newest, none_leaves, reads_last, may_go_back, holds}
use Rattle.rules.specs.Leaf.{after, cell_place, target_place, operand_value, expression_value, chosen, entry_place, exit_place, update, exchange, semaphore_step, act, present, leaf_forward, leaf_undo}
use Rattle.rules.specs.Step.{move_row, child_rows, insert_rows, remove_rows, keep, close_up, waits, crowded, fork, undo_fork, merge, undo_merge, leaf_step, undo_leaf, forward_childless, forward, undo_childless, undo}
use Rattle.rules.specs.Words.{on_image, start_in, start, step_in, step, Outcome}
use Rattle.rules.specs.Cases.{worked_image}
use Rattle.rules.specs.declared.Answer.{Answer}
use Rattle.theorems.specs.Played.{Call, play}
use Rattle.theorems.specs.Refusals.{IsRefused}
use Rattle.theorems.specs.Outcome.{StepAllows}

-- ---- the machine that is started, and strings of calls on it
abbrev pub begun : List ℕ
begun = (start worked_image (zeros memory_words) (zeros machine_words)).leaves

-- F p is a forward step of process p, B p an undo
abbrev pub F : ℕ → Call
F p = record { process = p; direction = 0 }

abbrev pub B : ℕ → Call
B p = record { process = p; direction = 1 }

-- the words after a string of calls, what a call answers and leaves on these, and a variable in them
abbrev pub words_after : List Call → List ℕ
words_after calls = play worked_image begun calls

abbrev pub called : List Call → Call → Outcome (List ℕ)
called calls c = step worked_image (words_after calls) c.process c.direction

abbrev pub variable : List ℕ → ℕ → ℕ
variable words x = get_or (view words).memory x 0

-- the codes that a string of calls answers, in order
unfoldable pub codes : List ℕ → List ℕ → List Call → List ℕ
codes image words [] = []
codes image words (c ∷ calls) =
    (step image words c.process c.direction).answer.code ∷ codes image (step image words c.process c.direction).leaves calls

-- the root's first step, and the fork; then a step of each child
abbrev pub forked : List Call
forked = F 0 ∷ F 0 ∷ []

abbrev pub one_stepped : List Call
one_stepped = F 0 ∷ F 0 ∷ F 1 ∷ []

abbrev pub both_stepped : List Call
both_stepped = F 0 ∷ F 0 ∷ F 1 ∷ F 2 ∷ []

abbrev pub there_and_back : List Call
there_and_back = F 0 ∷ F 0 ∷ F 1 ∷ F 2 ∷ B 2 ∷ B 1 ∷ B 0 ∷ B 0 ∷ []

-- every definition that a step computes by, opened where this one is
everything : Unit {0}
unfolding pick some_of each_of those lowest_from lowest some_below times up_from alike less at_most negated operator_of block_names block_reads block_writes next follows whole label_at labels_at variable_at constant_at operand_at target_at two_at expression_at entry_at updates_itself exchanges_itself update_at exchange_at name_at names_at call_at instruction_at call_exit_at leaf_exit_at exit_at block_at blocks_at decoded semaphore bad9 count ordinary outer bad10 join_nodes join_labels groups_from groups within own_begins own_ends bad11 home bad12 bad13 calling_of reaches_over reaches bad14 sum_of deepest_of largest depth_below peak_below depth peak bad15 at_lowest judged_blocks judged_reading judgement standing children pack_rows pack_history padded pack view_rows view_history view started entry_block exit_block called_at counts_fit unused_zero ascending stands_in root_fits parent_fits own_label own_fits children_fit newest newest_fits block_fits digits_fit kept_fits row_fits machine_fits fits reads writes entries_of last_from last_writer edges_for nodes_from edges_from nodes edges is_newest none_leaves reads_last may_go_back holds after cell_place target_place operand_value expression_value chosen entry_place exit_place update exchange semaphore_step act present leaf_forward leaf_undo move_row child_rows insert_rows remove_rows keep close_up waits crowded fork undo_fork merge undo_merge leaf_step undo_leaf forward_childless forward undo_childless undo on_image start_in start step_in step play codes
everything = tt

-- ---- the statements
-- Starting the image is accepted, and so is the root's first forward step: both answer 0.
pub accepts : ((start worked_image (zeros memory_words) (zeros machine_words)).answer.code ≡ 0) × ((called [] (F 0)).answer.code ≡ 0)
unfolding everything
accepts = (refl, refl)

-- A step is refused: when both children have stepped, the undo of the first answers 27, for the second read what it wrote.
pub refuses : (called both_stepped (B 1)).answer.code ≡ 27
unfolding everything
refuses = refl

-- A step changes memory: after the fork variable 0 is 0; the first child's step is accepted, and leaves 1 in it.
pub changes :
    (variable (words_after forked) 0 ≡ 0) × ((called forked (F 1)).answer.code ≡ 0) × (variable (called forked (F 1)).leaves 0 ≡ 1)
unfolding everything
changes = (refl, refl, refl)

-- The next step works again, and does something else: with three steps kept variable 1 is 0; the second child's step is
-- accepted, leaves 1 in variable 1, and 1 in variable 0 as it was.
pub works_again :
    (history_count (words_after one_stepped) ≡ 3)
    × (variable (words_after one_stepped) 1 ≡ 0)
    × ((called one_stepped (F 2)).answer.code ≡ 0)
    × (variable (called one_stepped (F 2)).leaves 1 ≡ 1)
    × (variable (called one_stepped (F 2)).leaves 0 ≡ 1)
unfolding everything
works_again = (refl, refl, refl, refl, refl)

-- Four steps forward and their four undos are all accepted, and bring back the words that were started, each of the 8,674.
pub comes_back :
    (codes worked_image begun there_and_back ≡ 0 ∷ 0 ∷ 0 ∷ 0 ∷ 0 ∷ 0 ∷ 0 ∷ 0 ∷ []) × (words_after there_and_back ≡ begun)
unfolding everything
comes_back = (refl, refl)

-- The newest step can be undone: the undo of the second child answers 0.
pub undoes : (called both_stepped (B 2)).answer.code ≡ 0
unfolding everything
undoes = refl

-- ---- what is shut out
-- what a caller can hand in: an image of bytes, a machine of 32-bit words, a 32-bit process, and direction 0 or 1
pub record HandedIn (image words : List ℕ) (process direction : ℕ) : Type 0 where
  pub image_bytes : each_of (λ b. ltb b 256) image ≡ true
  pub machine_words_fit : each_of (λ w. ltb w span) words ≡ true
  pub process_word : ltb process span ≡ true
  pub direction_named : ltb 1 direction ≡ false

begun-in : HandedIn worked_image begun 0 0
unfolding everything
begun-in = record { image_bytes = refl; machine_words_fit = refl; process_word = refl; direction_named = refl }

forked-in : HandedIn worked_image (words_after forked) 1 0
unfolding everything
forked-in = record { image_bytes = refl; machine_words_fit = refl; process_word = refl; direction_named = refl }

one-stepped_in : HandedIn worked_image (words_after one_stepped) 2 0
unfolding everything
one-stepped_in = record { image_bytes = refl; machine_words_fit = refl; process_word = refl; direction_named = refl }

both-stepped_in : (HandedIn worked_image (words_after both_stepped) 1 1) × (HandedIn worked_image (words_after both_stepped) 2 1)
unfolding everything
both-stepped_in = (
  record { image_bytes = refl; machine_words_fit = refl; process_word = refl; direction_named = refl },
  record { image_bytes = refl; machine_words_fit = refl; process_word = refl; direction_named = refl },
)

clash : (a b : ℕ) → 0 < b → a ≡ 0 → a ≡ b → ⊥
clash a b lt p q = omega (arith, lt, p, q)

-- Take anything that keeps the promise of `step` for all that can be handed in.
module _
    (other : List ℕ → List ℕ → ℕ → ℕ → Outcome (List ℕ))
    (promised :
    (image words : List ℕ) (process direction : ℕ) → HandedIn image words process direction →
    StepAllows image words process direction (other image words process direction))
  where
    code_is :
        (image words : List ℕ) (process direction : ℕ) → HandedIn image words process direction →
        (other image words process direction).answer.code ≡ (step image words process direction).answer.code
    code_is image words process direction i = ap (λ (a : Answer). a.code) (promised image words process direction i).answers

    -- It doesn't refuse everything.
    pub not_refusing :
        ((image words : List ℕ) (process direction : ℕ) → HandedIn image words process direction →
        IsRefused (other image words process direction)) → ⊥
    unfolding play
    not_refusing h = h worked_image begun 0 0 begun-in (code_is worked_image begun 0 0 begun-in ∙ accepts.1)

    -- It doesn't always answer 0.
    pub not_always_0 :
        ((image words : List ℕ) (process direction : ℕ) → HandedIn image words process direction →
        (other image words process direction).answer.code ≡ 0) → ⊥
    not_always_0 h =
        let w = words_after both_stepped in
        let i = both-stepped_in.0 in
        clash (step worked_image w 1 1).answer.code 27 (omega arith) (sym (code_is worked_image w 1 1 i) ∙ h worked_image w 1 1 i) refuses

    -- It doesn't answer 0 and touch nothing.
    pub not_idle :
        ((image words : List ℕ) (process direction : ℕ) → HandedIn image words process direction →
        (other image words process direction).answer.code ≡ 0 → (other image words process direction).leaves ≡ words) → ⊥
    not_idle h =
        let w = words_after forked in
        let same : (step worked_image w 1 0).leaves ≡ w =
        sym (promised worked_image w 1 0 forked-in).leaves
        ∙ h worked_image w 1 0 forked-in (code_is worked_image w 1 0 forked-in ∙ changes.1) in
        clash (variable w 0) 1 (omega arith) changes.0 (ap (λ (l : List ℕ). variable l 0) (sym same) ∙ changes.2)

    -- It doesn't work on its first call, nor on its first three, and afterwards only lengthen the history: where three steps or
    -- more are kept, it isn't so that every accepted forward step leaves the memory as it was.
    pub not_once :
        ((image words : List ℕ) (process : ℕ) → HandedIn image words process 0 → 3 ≤ history_count words →
        (other image words process 0).answer.code ≡ 0 → (view (other image words process 0).leaves).memory ≡ (view words).memory) → ⊥
    not_once h =
        let w = words_after one_stepped in
        let three : history_count w ≡ 3 = works_again.0 in
        let same : (view (step worked_image w 2 0).leaves).memory ≡ (view w).memory =
        ap (λ (l : List ℕ). (view l).memory) (sym (promised worked_image w 2 0 one-stepped_in).leaves)
        ∙ h worked_image w 2 one-stepped_in (omega (arith, three)) (code_is worked_image w 2 0 one-stepped_in ∙ works_again.2) in
        clash (variable w 1) 1 (omega arith) works_again.1 (ap (λ (m : List ℕ). get_or m 1 0) (sym same) ∙ works_again.3)

    -- It doesn't refuse every undo.
    pub not_one_way :
        ((image words : List ℕ) (process : ℕ) → HandedIn image words process 1 → IsRefused (other image words process 1)) → ⊥
    not_one_way h =
        let w = words_after both_stepped in
        let i = both-stepped_in.1 in
        h worked_image w 2 i (code_is worked_image w 2 1 i ∙ undoes)
