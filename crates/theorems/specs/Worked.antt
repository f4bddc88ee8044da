-- What a run starts from can be had: document 01's image of 40 bytes, with a memory that is all zero, by computation.
use Rattle.std.specs.Prelude.{refl, List, [], ℕ}
use Rattle.rules.specs.Base.{pick, some_of, each_of, those, lowest_from, lowest, some_below, times, up_from, alike, zeros}
use Rattle.rules.specs.Format.{operator_of}
use Rattle.rules.specs.Names.{block_names, block_reads, block_writes}
use Rattle.rules.specs.Read.{next, follows, whole, label_at, labels_at, variable_at, constant_at, operand_at, target_at, two_at, expression_at, entry_at, updates_itself, exchanges_itself, update_at, exchange_at, name_at, names_at, call_at, instruction_at, call_exit_at, leaf_exit_at, exit_at, block_at, blocks_at, decoded, Reading, got, fault}
use Rattle.rules.specs.Labels.{semaphore, bad9, count, ordinary, outer, bad10, join_nodes, join_labels, groups_from, groups, within, own_begins, own_ends, bad11, home, bad12}
use Rattle.rules.specs.Calls.{bad13, calling_of, reaches_over, reaches, bad14, sum_of, deepest_of, largest, depth_below, peak_below, depth, peak, bad15}
use Rattle.rules.specs.Judge.{at_lowest, judged_blocks, judged_reading, judgement}
use Rattle.rules.specs.Cases.{worked_image}
use Rattle.rules.specs.declared.Block.{Block}
use Rattle.theorems.specs.Played.{Subject}

abbrev blocks_of : Reading (List Block) → List Block
blocks_of (got program past) = program
blocks_of (fault code place) = []

abbrev past_of : Reading (List Block) → ℕ
past_of (got program past) = past
past_of (fault code place) = 0

pub worked : Subject
unfolding pick some_of each_of those lowest_from lowest some_below times up_from alike operator_of block_names block_reads block_writes next follows whole label_at labels_at variable_at constant_at operand_at target_at two_at expression_at entry_at updates_itself exchanges_itself update_at exchange_at name_at names_at call_at instruction_at call_exit_at leaf_exit_at exit_at block_at blocks_at decoded semaphore bad9 count ordinary outer bad10 join_nodes join_labels groups_from groups within own_begins own_ends bad11 home bad12 bad13 calling_of reaches_over reaches bad14 sum_of deepest_of largest depth_below peak_below depth peak bad15 at_lowest judged_blocks judged_reading judgement
worked =
    record {
      image = worked_image;
      bytes = refl;
      program = blocks_of (decoded worked_image);
      past = past_of (decoded worked_image);
      decodes = refl;
      blocks = 5;
      peak = 3;
      accepts = refl;
      memory = zeros 288;
      memory_size = refl;
      memory_words_fit = refl;
    }
