-- The call of [6] on document 01's image of 40 bytes, by computation: what goes with an entry, 32 and 35, and a machine that no
-- start reaches and that is taken back all the same.
use Rattle.std.specs.Prelude.{◌≡◌, refl, List, [], ◌∷◌, ℕ}
use Rattle.rules.specs.Base.{pick, some_of, each_of, those, lowest_from, lowest, some_below, times, up_from, alike, zeros}
use Rattle.rules.specs.Value.{less, at_most, negated}
use Rattle.rules.specs.Format.{operator_of}
use Rattle.rules.specs.Names.{block_names, block_reads, block_writes}
use Rattle.rules.specs.Read.{next, follows, whole, label_at, labels_at, variable_at, constant_at, operand_at, target_at, two_at}
use Rattle.rules.specs.Read.{expression_at, entry_at, updates_itself, exchanges_itself, update_at, exchange_at, name_at, names_at, call_at}
use Rattle.rules.specs.Read.{instruction_at, call_exit_at, leaf_exit_at, exit_at, block_at, blocks_at, decoded}
use Rattle.rules.specs.Labels.{semaphore, bad9, count, ordinary, outer, bad10, join_nodes, join_labels, groups_from, groups, within}
use Rattle.rules.specs.Labels.{own_begins, own_ends, bad11, home, bad12}
use Rattle.rules.specs.Calls.{bad13, calling_of, reaches_over, reaches, bad14, sum_of, deepest_of, largest, depth_below, peak_below, depth}
use Rattle.rules.specs.Calls.{peak, bad15}
use Rattle.rules.specs.Judge.{at_lowest, judged_blocks, judged_reading, judgement}
use Rattle.rules.specs.Fits.{entry_block, exit_block, called_at, counts_fit, unused_zero, ascending, stands_in, root_fits, parent_fits}
use Rattle.rules.specs.Fits.{own_label, own_fits, children_fit, newest, newest_fits, block_fits, digits_fit, kept_fits, row_fits}
use Rattle.rules.specs.Fits.{machine_fits, fits}
use Rattle.rules.specs.Cause.{reads, writes, entries_of, last_from, last_writer, edges_for, nodes_from, edges_from, nodes, edges, is_newest}
use Rattle.rules.specs.Cause.{none_leaves, reads_last, may_go_back, holds}
use Rattle.rules.specs.Leaf.{after, cell_place, target_place, operand_value, expression_value, chosen, entry_place, exit_place, update}
use Rattle.rules.specs.Leaf.{exchange, semaphore_step, act, present, leaf_forward, leaf_undo}
use Rattle.rules.specs.Step.{move_row, child_rows, insert_rows, remove_rows, keep, close_up, waits, crowded, fork, undo_fork, merge}
use Rattle.rules.specs.Step.{undo_merge, leaf_step, undo_leaf, forward_childless, forward, undo_childless, undo}
use Rattle.rules.specs.Cases.{worked_image}
use Rattle.rules.specs.Machine.{Kept, standing, children, pack_rows, pack_history, padded, pack, view_rows, view_history, view, started}
use Rattle.rules.specs.Machine.{memory_words, history_count, place, run}
use Rattle.rules.specs.Words.{on_image, start_in, start, step_in, step, Outcome}
use Rattle.rules.specs.TakeBack.{is_under, in_line, shares_written, comes_of, goes_from, goes, goers, undo_all, empties, take_back_in, take_back}
use Rattle.theorems.specs.Played.{play}
use Rattle.theorems.specs.NotEmpty.{F, words_after}

-- the root's first step, the fork, the child that reads v0, the child that writes it
abbrev four : List ℕ
four = words_after (F 0 ∷ F 0 ∷ F 2 ∷ F 1 ∷ [])

-- the code, and how many entries are left
abbrev told : Outcome (List ℕ) → List ℕ
told o = o.answer.code ∷ history_count o.leaves ∷ []

-- one row, the root at label 2, and some history: made up
abbrev made_up : List Kept → List ℕ
made_up h = pack (record { memory = zeros memory_words; rows = record { identifier = 0; stands = place 2 run } ∷ []; history = h })

abbrev entry : ℕ → ℕ → Kept
entry p b = record { identifier = p; block = b }

everything : Unit {0}
unfolding pick some_of each_of those lowest_from lowest some_below times up_from alike less at_most negated operator_of block_names block_reads block_writes next follows whole label_at labels_at variable_at constant_at operand_at target_at two_at expression_at entry_at updates_itself exchanges_itself update_at exchange_at name_at names_at call_at instruction_at call_exit_at leaf_exit_at exit_at block_at blocks_at decoded semaphore bad9 count ordinary outer bad10 join_nodes join_labels groups_from groups within own_begins own_ends bad11 home bad12 bad13 calling_of reaches_over reaches bad14 sum_of deepest_of largest depth_below peak_below depth peak bad15 at_lowest judged_blocks judged_reading judgement standing children pack_rows pack_history padded pack view_rows view_history view started entry_block exit_block called_at counts_fit unused_zero ascending stands_in root_fits parent_fits own_label own_fits children_fit newest newest_fits block_fits digits_fit kept_fits row_fits machine_fits fits reads writes entries_of last_from last_writer edges_for nodes_from edges_from nodes edges is_newest none_leaves reads_last may_go_back holds after cell_place target_place operand_value expression_value chosen entry_place exit_place update exchange semaphore_step act present leaf_forward leaf_undo move_row child_rows insert_rows remove_rows keep close_up waits crowded fork undo_fork merge undo_merge leaf_step undo_leaf forward_childless forward undo_childless undo on_image start_in start step_in step play is_under in_line shares_written comes_of goes_from goes goers undo_all empties take_back_in take_back
everything = tt

-- entry 0 takes all, entry 2 itself and entry 3, which writes what it reads; entry 3 goes alone; there is no entry 4
pub worked-entries :
    (told (take_back worked_image four 0) ≡ 0 ∷ 0 ∷ []) × (told (take_back worked_image four 1) ≡ 0 ∷ 1 ∷ [])
    × (told (take_back worked_image four 2) ≡ 0 ∷ 2 ∷ [])
    × (told (take_back worked_image four 3) ≡ 0 ∷ 3 ∷ []) × (told (take_back worked_image four 4) ≡ 32 ∷ 4 ∷ [])
unfolding everything
worked-entries = (refl, refl, refl, refl, refl)

-- no start reaches it, and it passes 35: the merge alone is kept
pub not_reached : told (take_back worked_image (made_up (entry 0 1 ∷ [])) 0) ≡ 0 ∷ 0 ∷ []
unfolding everything
not_reached = refl

-- undone, the merge leaves a root that has no entry: 17, so 35, whatever the entry number
pub not_emptied :
    (told (take_back worked_image (made_up (entry 1 3 ∷ entry 2 4 ∷ entry 0 1 ∷ [])) 2) ≡ 35 ∷ 3 ∷ [])
    × (told (take_back worked_image (made_up (entry 1 3 ∷ entry 2 4 ∷ entry 0 1 ∷ [])) 9) ≡ 35 ∷ 3 ∷ [])
unfolding everything
not_emptied = (refl, refl)
