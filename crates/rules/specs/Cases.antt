-- The starred cases of document 01, "Edges to try", as one theorem over one table, and its worked session: by computation on
-- the definitions of this crate, with nothing assumed.
use Rattle.std.specs.Prelude.{◌≡◌, refl, List, [], ◌∷◌, ◌++◌, ℕ, ℤ, pos, negsuc}
use Rattle.rules.specs.Base.{pick, some_of, each_of, those, lowest_from, lowest, some_below, times, up_from, alike, zeros}
use Rattle.rules.specs.Value.{signed, less, at_most, negated, word_of, applied}
use Rattle.rules.specs.Format.{operator_of}
use Rattle.rules.specs.Names.{block_names, block_reads, block_writes}
use Rattle.rules.specs.Read.{next, follows, whole, label_at, labels_at, variable_at, constant_at, operand_at, target_at, two_at, expression_at, entry_at, updates_itself, exchanges_itself, update_at, exchange_at, name_at, names_at, call_at, instruction_at, call_exit_at, leaf_exit_at, exit_at, block_at, blocks_at, decoded}
use Rattle.rules.specs.Labels.{semaphore, bad9, count, ordinary, outer, bad10, join_nodes, join_labels, groups_from, groups, within, own_begins, own_ends, bad11, home, bad12}
use Rattle.rules.specs.Calls.{bad13, calling_of, reaches_over, reaches, bad14, sum_of, deepest_of, largest, depth_below, peak_below, depth, peak, bad15}
use Rattle.rules.specs.Judge.{at_lowest, judged_blocks, judged_reading, judgement, numbers}
use Rattle.rules.specs.Machine.{standing, children, pack_rows, pack_history, padded, pack, view_rows, view_history, view, started, machine_words}
use Rattle.rules.specs.Fits.{entry_block, exit_block, called_at, counts_fit, unused_zero, ascending, stands_in, root_fits, parent_fits, own_label, own_fits, children_fit, newest, newest_fits, block_fits, digits_fit, kept_fits, row_fits, machine_fits, fits}
use Rattle.rules.specs.Cause.{reads, writes, entries_of, last_from, last_writer, edges_for, nodes_from, edges_from, nodes, edges, is_newest, none_leaves, reads_last, may_go_back, holds}
use Rattle.rules.specs.Leaf.{after, cell_place, target_place, operand_value, expression_value, chosen, entry_place, exit_place, update, exchange, semaphore_step, act, present, leaf_forward, leaf_undo}
use Rattle.rules.specs.Step.{move_row, child_rows, insert_rows, remove_rows, keep, close_up, waits, crowded, fork, undo_fork, merge, undo_merge, leaf_step, undo_leaf, forward_childless, forward, undo_childless, undo}
use Rattle.rules.specs.Words.{on_image, start_in, start, step_in, step, words_of, bytes_of, to_bytes, start_bytes_in, start_bytes, step_bytes_in, step_bytes}
use Rattle.rules.specs.List.{row_of, rows_of, list_in, list, list_bytes_in, list_bytes}
use Rattle.rules.specs.Session.{digits, decimal_of, refused_line, step_line, commands, session}
use Rattle.rules.specs.declared.Operator.{Operator}
use Rattle.rules.specs.declared.Judged.{Judged}

-- judging an image gives these four numbers; two numbers under an operator give this one; the first step of the root, forward,
-- on an image and a first memory that begins with the given value, answers this code
pub data Case : Type 0 where
  judging : List ℕ → Judged → Case
  operating : Operator → ℤ → ℤ → ℤ → Case
  stepping : List ℕ → ℤ → ℕ → Case

-- a memory whose variable 0 has a value, all else 0
abbrev pub memory_with : ℤ → List ℕ
memory_with v = word_of v ∷ zeros 287

abbrev pub first_machine : List ℕ → ℤ → List ℕ
first_machine image v = (start image (memory_with v) (zeros machine_words)).leaves

abbrev pub Holds : Case → Type 0
Holds (judging image judged) = numbers (judgement image) ≡ judged
Holds (operating operator a b c) = signed (applied operator (word_of a) (word_of b)) ≡ c
Holds (stepping image v code) = (step image (first_machine image v) 0 0).answer.code ≡ code

abbrev pub AllHold : List Case → Type 0
AllHold [] = Unit {0}
AllHold (c ∷ cs) = Holds c × AllHold cs

abbrev pub judged : ℕ → ℕ → ℕ → ℕ → Judged
judged code place blocks peak = record { code = code; place = place; blocks = blocks; peak = peak }

-- main is `M[v0] += 1`; main is `V v0`
abbrev pub cell_update : List ℕ
cell_update = 0x22 ∷ 0x00 ∷ 0x40 ∷ 0x03 ∷ 0x00 ∷ 0x10 ∷ 0x01 ∷ 0x01 ∷ 0x00 ∷ 0x00 ∷ 0x00 ∷ 0x32 ∷ 0x00 ∷ []

abbrev pub semaphore_v : List ℕ
semaphore_v = 0x22 ∷ 0x00 ∷ 0x44 ∷ 0x00 ∷ 0x32 ∷ 0x00 ∷ []

abbrev pub table : List Case
table =
    judging [] (judged 1 0 0 0)
    ∷ judging (0x22 ∷ 0x00 ∷ 0x47 ∷ 0x32 ∷ 0x00 ∷ []) (judged 0 0 1 1)
    ∷ judging (0x22 ∷ 0x00 ∷ 0x47 ∷ 0x32 ∷ []) (judged 3 3 0 0)
    ∷ judging (0x22 ∷ 0x00 ∷ 0x47 ∷ 0x32 ∷ 0x01 ∷ []) (judged 10 0 0 0)
    ∷ operating Operator.Add (pos 2147483647) (pos 1) (negsuc 2147483647)
    ∷ operating Operator.Less (negsuc 0) (pos 0) (pos 1)
    ∷ operating Operator.Xor (pos 5) (pos 3) (pos 6)
    ∷ stepping cell_update (pos 256) 25
    ∷ stepping cell_update (negsuc 0) 25
    ∷ stepping semaphore_v (pos 0) 0
    ∷ stepping semaphore_v (pos 2) 24
    ∷ []

-- every definition of the crate, opened where this one is
everything : Unit {0}
unfolding pick some_of each_of those lowest_from lowest some_below times up_from alike signed less at_most negated operator_of block_names block_reads block_writes next follows whole label_at labels_at variable_at constant_at operand_at target_at two_at expression_at entry_at updates_itself exchanges_itself update_at exchange_at name_at names_at call_at instruction_at call_exit_at leaf_exit_at exit_at block_at blocks_at decoded semaphore bad9 count ordinary outer bad10 join_nodes join_labels groups_from groups within own_begins own_ends bad11 home bad12 bad13 calling_of reaches_over reaches bad14 sum_of deepest_of largest depth_below peak_below depth peak bad15 at_lowest judged_blocks judged_reading judgement standing children pack_rows pack_history padded pack view_rows view_history view started entry_block exit_block called_at counts_fit unused_zero ascending stands_in root_fits parent_fits own_label own_fits children_fit newest newest_fits block_fits digits_fit kept_fits row_fits machine_fits fits reads writes entries_of last_from last_writer edges_for nodes_from edges_from nodes edges is_newest none_leaves reads_last may_go_back holds after cell_place target_place operand_value expression_value chosen entry_place exit_place update exchange semaphore_step act present leaf_forward leaf_undo move_row child_rows insert_rows remove_rows keep close_up waits crowded fork undo_fork merge undo_merge leaf_step undo_leaf forward_childless forward undo_childless undo on_image start_in start step_in step words_of bytes_of to_bytes start_bytes_in start_bytes step_bytes_in step_bytes row_of rows_of list_in list list_bytes_in list_bytes digits decimal_of refused_line step_line commands session
everything = tt

-- all starred cases hold
pub starred : AllHold table
unfolding everything
starred = (refl, (refl, (refl, (refl, (refl, (refl, (refl, (refl, (refl, (refl, (refl, tt)))))))))))

-- ---- the worked session: F0, F0, F2, F1, B2, B1, B2, B0 on the 40-byte image, memory all zero
abbrev pub worked_image : List ℕ
worked_image =
    0x22 ∷ 0x00 ∷ 0x47 ∷ 0x30 ∷ 0x01
    ∷ 0x20 ∷ 0x01 ∷ 0x52 ∷ 0x05 ∷ 0x06 ∷ 0x30 ∷ 0x02
    ∷ 0x20 ∷ 0x02 ∷ 0x47 ∷ 0x32 ∷ 0x00
    ∷ 0x22 ∷ 0x05 ∷ 0x40 ∷ 0x02 ∷ 0x00 ∷ 0x10 ∷ 0x01 ∷ 0x01 ∷ 0x00 ∷ 0x00 ∷ 0x00 ∷ 0x32 ∷ 0x05
    ∷ 0x22 ∷ 0x06 ∷ 0x40 ∷ 0x02 ∷ 0x01 ∷ 0x10 ∷ 0x02 ∷ 0x00 ∷ 0x32 ∷ 0x06 ∷ []

abbrev pub command : ℕ → ℕ → List ℕ
command kind p = kind ∷ p ∷ 0 ∷ 0 ∷ 0 ∷ []

abbrev pub worked_input : List ℕ
worked_input = command 1 0 ++ command 1 0 ++ command 1 2 ++ command 1 1 ++ command 2 2 ++ command 2 1 ++ command 2 2 ++ command 2 0

-- the eight lines of document 01, byte by byte
abbrev pub worked_output : List ℕ
worked_output =
    0x46 ∷ 0x20 ∷ 0x30 ∷ 0x30 ∷ 0x30 ∷ 0x30 ∷ 0x30 ∷ 0x30 ∷ 0x30 ∷ 0x30 ∷ 0x20 ∷ 0x30 ∷ 0x20 ∷ 0x31 ∷ 0x20 ∷ 0x31 ∷ 0x0a
    ∷ 0x46 ∷ 0x20 ∷ 0x30 ∷ 0x30 ∷ 0x30 ∷ 0x30 ∷ 0x30 ∷ 0x30 ∷ 0x30 ∷ 0x30 ∷ 0x20 ∷ 0x30 ∷ 0x20 ∷ 0x33 ∷ 0x20 ∷ 0x32 ∷ 0x0a
    ∷ 0x46 ∷ 0x20 ∷ 0x30 ∷ 0x30 ∷ 0x30 ∷ 0x30 ∷ 0x30 ∷ 0x30 ∷ 0x30 ∷ 0x32 ∷ 0x20 ∷ 0x30 ∷ 0x20 ∷ 0x33 ∷ 0x20 ∷ 0x33 ∷ 0x0a
    ∷ 0x46 ∷ 0x20 ∷ 0x30 ∷ 0x30 ∷ 0x30 ∷ 0x30 ∷ 0x30 ∷ 0x30 ∷ 0x30 ∷ 0x31 ∷ 0x20 ∷ 0x30 ∷ 0x20 ∷ 0x33 ∷ 0x20 ∷ 0x34 ∷ 0x0a
    ∷ 0x42 ∷ 0x20 ∷ 0x30 ∷ 0x30 ∷ 0x30 ∷ 0x30 ∷ 0x30 ∷ 0x30 ∷ 0x30 ∷ 0x32 ∷ 0x20 ∷ 0x32 ∷ 0x37 ∷ 0x20 ∷ 0x33 ∷ 0x20 ∷ 0x34 ∷ 0x0a
    ∷ 0x42 ∷ 0x20 ∷ 0x30 ∷ 0x30 ∷ 0x30 ∷ 0x30 ∷ 0x30 ∷ 0x30 ∷ 0x30 ∷ 0x31 ∷ 0x20 ∷ 0x30 ∷ 0x20 ∷ 0x33 ∷ 0x20 ∷ 0x33 ∷ 0x0a
    ∷ 0x42 ∷ 0x20 ∷ 0x30 ∷ 0x30 ∷ 0x30 ∷ 0x30 ∷ 0x30 ∷ 0x30 ∷ 0x30 ∷ 0x32 ∷ 0x20 ∷ 0x30 ∷ 0x20 ∷ 0x33 ∷ 0x20 ∷ 0x32 ∷ 0x0a
    ∷ 0x42 ∷ 0x20 ∷ 0x30 ∷ 0x30 ∷ 0x30 ∷ 0x30 ∷ 0x30 ∷ 0x30 ∷ 0x30 ∷ 0x30 ∷ 0x20 ∷ 0x30 ∷ 0x20 ∷ 0x31 ∷ 0x20 ∷ 0x31 ∷ 0x0a
    ∷ []

pub worked-session : session worked_image (zeros 1152) worked_input ≡ worked_output
unfolding everything
worked-session = refl
