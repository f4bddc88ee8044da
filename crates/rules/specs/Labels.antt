-- Codes 9 to 12 of document 01, "Judging", on the blocks of a decoded image: where labels stand, and process blocks.
-- Each code gives a test of one block; the place is the lowest block that is bad.
use Rattle.std.specs.Prelude.{ℕ, suc, ◌+◌, ◌<◌, Bool, false, not, ◌&&◌, length, get_or, eqb}
use mathlib.Core.List.{List, [], ◌∷◌, ◌++◌, map, Memᴰ}
use Rattle.rules.specs.Base.{pick, some_of, each_of, some_below, times, up_from}
use Rattle.rules.specs.Format.{most_blocks, variables, labels, named}
use Rattle.rules.specs.Names.{block_names, semaphore_names}
use Rattle.rules.specs.declared.Instruction.{Instruction}
use Rattle.rules.specs.declared.Entry.{Entry}
use Rattle.rules.specs.declared.Exit.{Exit}
use Rattle.rules.specs.declared.Block.{Block}

-- a block that names nothing stands for one past the last
abbrev pub no_block : Block
no_block = record { entry = Entry.Begin 0; instruction = Instruction.Skip; exit = Exit.End 0 }

-- block b of a program
abbrev pub block_of : List Block → ℕ → Block
block_of program b = get_or program b no_block

-- ---- 9
-- some V or P of the image names x
unfoldable pub semaphore : List Block → ℕ → Bool
semaphore program x = some_of (λ b. semaphore_names b.instruction x) program

-- the block names, elsewhere than in V or P, a variable that some V or P of the image names
unfoldable pub bad9 : List Block → Block → Bool
bad9 program b = some_below (λ x. semaphore program x && block_names b x) variables

-- ---- 10
-- the labels in which a block stands: ordinary ones of its entry and of its exit, begins and ends
abbrev pub entry_labels : Entry → List ℕ
entry_labels (Entry.From l) = l ∷ []
entry_labels (Entry.Either l m e) = l ∷ m ∷ []
entry_labels (Entry.Begin l) = []

abbrev pub exit_labels : Exit → List ℕ
exit_labels (Exit.To l) = l ∷ []
exit_labels (Exit.Either e l m) = l ∷ m ∷ []
exit_labels (Exit.End l) = []

abbrev pub begin_labels : Entry → List ℕ
begin_labels (Entry.From l) = []
begin_labels (Entry.Either l m e) = []
begin_labels (Entry.Begin l) = l ∷ []

abbrev pub end_labels : Exit → List ℕ
end_labels (Exit.To l) = []
end_labels (Exit.Either e l m) = []
end_labels (Exit.End l) = l ∷ []

-- each label is counted, over all blocks; names in a call don't count
unfoldable pub count : (Block → List ℕ) → List Block → ℕ → ℕ
count stands [] l = 0
count stands (b ∷ program) l = times l (stands b) + count stands program l

abbrev pub entries : List Block → ℕ → ℕ
entries program l = count (λ b. entry_labels b.entry) program l

abbrev pub exits : List Block → ℕ → ℕ
exits program l = count (λ b. exit_labels b.exit) program l

abbrev pub begins : List Block → ℕ → ℕ
begins program l = count (λ b. begin_labels b.entry) program l

abbrev pub ends : List Block → ℕ → ℕ
ends program l = count (λ b. end_labels b.exit) program l

-- an ordinary label stands in exactly one entry and one exit; a begin or end label has exactly one begin and one end; and
-- no label is used both ways
unfoldable pub ordinary : List Block → ℕ → Bool
ordinary program l = eqb (entries program l) 1 && (eqb (exits program l) 1 && (eqb (begins program l) 0 && eqb (ends program l) 0))

unfoldable pub outer : List Block → ℕ → Bool
outer program l = eqb (begins program l) 1 && (eqb (ends program l) 1 && (eqb (entries program l) 0 && eqb (exits program l) 0))

unfoldable pub bad10 : List Block → Block → Bool
bad10 program b =
    not
    (each_of (ordinary program) (entry_labels b.entry ++ exit_labels b.exit)
    && each_of (outer program) (begin_labels b.entry ++ end_labels b.exit))

-- ---- 11
-- A node is block b, as b, or label l, as 128 + l.
abbrev pub label_node : ℕ → ℕ
label_node l = most_blocks + l

-- the ordinary labels of a block
abbrev pub ordinary_labels : Block → List ℕ
ordinary_labels b = entry_labels b.entry ++ exit_labels b.exit

-- What the words say: blocks are joined by ordinary labels, over any chain. (That `groups` below decides it is the
-- theorem `joined`.)
pub data Joined (program : List Block) : ℕ → ℕ → Type 0 where
  same : (a : ℕ) → Joined program a a
  holds : (b l : ℕ) → b < length program → Memᴰ l (ordinary_labels (block_of program b)) → Joined program b (label_node l)
  back : {a b : ℕ} → Joined program a b → Joined program b a
  chain : {a b c : ℕ} → Joined program a b → Joined program b c → Joined program a c

-- What is computed: for each node the number that its group goes by. At first each node is by itself, and each ordinary
-- label joins its block's group and its own.
abbrev pub renamed : ℕ → ℕ → ℕ → ℕ
renamed old new a = pick (eqb a old) new a

unfoldable pub join_nodes : List ℕ → ℕ → ℕ → List ℕ
join_nodes groups a b = map (renamed (get_or groups b 0) (get_or groups a 0)) groups

unfoldable pub join_labels : List ℕ → ℕ → List ℕ → List ℕ
join_labels groups b [] = groups
join_labels groups b (l ∷ ls) = join_labels (join_nodes groups b (label_node l)) b ls

unfoldable pub groups_from : List ℕ → ℕ → List Block → List ℕ
groups_from groups b [] = groups
groups_from groups b (block ∷ program) = groups_from (join_labels groups b (ordinary_labels block)) (suc b) program

unfoldable pub groups : List Block → List ℕ
groups program = groups_from (up_from 0 (most_blocks + labels)) 0 program

-- the labels that stand so in the blocks of group g, where block b is the first of the list
unfoldable pub within : (Block → List ℕ) → List ℕ → ℕ → ℕ → List Block → List ℕ
within stands groups g b [] = []
within stands groups g b (block ∷ program) =
    pick (eqb (get_or groups b 0) g) (stands block) [] ++ within stands groups g (suc b) program

-- the begins and the ends of block b's process block
unfoldable pub own_begins : List Block → ℕ → List ℕ
own_begins program b = within (λ c. begin_labels c.entry) (groups program) (get_or (groups program) b 0) 0 program

unfoldable pub own_ends : List Block → ℕ → List ℕ
own_ends program b = within (λ c. end_labels c.exit) (groups program) (get_or (groups program) b 0) 0 program

-- exactly one begin and one end, both of one label
abbrev pub one_label : List ℕ → List ℕ → Bool
one_label [] ends = false
one_label (l ∷ []) [] = false
one_label (l ∷ []) (m ∷ []) = eqb l m
one_label (l ∷ []) (m ∷ n ∷ ends) = false
one_label (l ∷ k ∷ begins) ends = false

unfoldable pub bad11 : List Block → ℕ → Bool
bad11 program b = not (one_label (own_begins program b) (own_ends program b))

-- the label of block b's process block: its begin's
unfoldable pub home : List Block → ℕ → ℕ
home program b = get_or (own_begins program b) 0 0

-- ---- 12
-- the labels that a block calls
abbrev pub called_by : Instruction → List ℕ
called_by (Instruction.Update change a e) = []
called_by (Instruction.Exchange a b) = []
called_by (Instruction.OpV x) = []
called_by (Instruction.OpP x) = []
called_by (Instruction.Assert e) = []
called_by Instruction.Skip = []
called_by (Instruction.Call n) = named n

abbrev pub called : List Block → ℕ → List ℕ
called program b = called_by (block_of program b).instruction

-- a call names a label that no begin has
unfoldable pub bad12 : List Block → Block → Bool
bad12 program b = some_of (λ l. eqb (begins program l) 0) (called_by b.instruction)
