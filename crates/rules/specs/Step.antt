-- A forward step and an undo of one process on a machine, document 01, "Steps": rows and history, fork and merge, and the codes
-- 20 to 28 in their order.
use Rattle.std.specs.Prelude.{ℕ, suc, ◌+◌, Bool, not, ◌&&◌, List, [], ◌∷◌, ◌++◌, length, eqb, leb, ltb}
use Rattle.rules.specs.Base.{pick, some_of, each_of, those}
use Rattle.rules.specs.Read.{is_call}
use Rattle.rules.specs.Labels.{block_of, called}
use Rattle.rules.specs.Calls.{most_rows}
use Rattle.rules.specs.Machine.{Process, Kept, Machine, place, begin, end, child, is_child_of, children, most_kept}
use Rattle.rules.specs.Fits.{entry_block, exit_block}
use Rattle.rules.specs.Cause.{holds}
use Rattle.rules.specs.Leaf.{Tried, made, refused, after, Moved, entry_place, exit_place, leaf_forward, leaf_undo}
use Rattle.rules.specs.declared.Block.{Block}
use Rattle.rules.specs.declared.Place.{Place}

-- ---- rows and history
-- process p at another place
unfoldable pub move_row : List Process → ℕ → Place → List Process
move_row [] p q = []
move_row (r ∷ rows) p q =
    pick (eqb r.identifier p) (record { identifier = p; stands = q }) r ∷ move_row rows p q

-- children 1 to n of p, each at its label and at one stage: their rows stand after those with a lower identifier
unfoldable pub child_rows : ℕ → ℕ → ℕ → List ℕ → List Process
child_rows p stage i [] = []
child_rows p stage i (l ∷ ls) = record { identifier = child p i; stands = place l stage } ∷ child_rows p stage (suc i) ls

unfoldable pub insert_rows : List Process → ℕ → List Process → List Process
insert_rows rows p new =
    those (λ r. ltb r.identifier (child p 1)) rows ++ new ++ those (λ r. leb (child p 1) r.identifier) rows

unfoldable pub remove_rows : List Process → ℕ → List Process
remove_rows rows p = those (λ r. not (is_child_of p r.identifier)) rows

-- a kept step is put at the end; the newest of p is closed up
unfoldable pub keep : List Kept → ℕ → ℕ → List Kept
keep history p b = history ++ record { identifier = p; block = b } ∷ []

unfoldable pub close_up : List Kept → ℕ → List Kept
close_up [] p = []
close_up (k ∷ history) p =
    pick (eqb k.identifier p && not (some_of (λ j. eqb j.identifier p) history)) history (k ∷ close_up history p)

-- ---- the steps of process p, which stands at `here`
-- 20: it has children, and they are not all at the stage
unfoldable pub waits : Machine → ℕ → ℕ → Bool
waits m p stage = not (each_of (λ c. eqb c.stands.stage stage) (children m.rows p))

-- 28: no room for the children's rows
unfoldable pub crowded : Machine → List ℕ → Bool
crowded m ls = ltb most_rows (length m.rows + length ls)

-- a call block first forks: the process stands at the exit label, its children at begin
unfoldable pub fork : List Block → Machine → ℕ → ℕ → Tried Machine
fork program m p b =
    pick (crowded m (called program b)) (refused 28)
    (after (exit_place m.memory (block_of program b).exit) (λ next. made
    (record {
      memory = m.memory;
      rows = insert_rows (move_row m.rows p next) p (child_rows p begin 1 (called program b));
      history = keep m.history p b;
    }
    )))

-- undone, it stands at the entry label
unfoldable pub undo_fork : List Block → Machine → ℕ → ℕ → Tried Machine
undo_fork program m p b =
    after (entry_place m.memory (block_of program b).entry) (λ back. made
    (record { memory = m.memory; rows = move_row (remove_rows m.rows p) p back; history = close_up m.history p }))

-- when all children stand at end, the forward step merges them
unfoldable pub merge : Machine → ℕ → ℕ → Tried Machine
merge m p b = made (record { memory = m.memory; rows = remove_rows m.rows p; history = keep m.history p b })

unfoldable pub undo_merge : List Block → Machine → ℕ → ℕ → Tried Machine
undo_merge program m p b =
    pick (crowded m (called program b)) (refused 28)
    (made
    (record {
      memory = m.memory;
      rows = insert_rows m.rows p (child_rows p end 1 (called program b));
      history = close_up m.history p;
    }
    ))

unfoldable pub leaf_step : Machine → ℕ → ℕ → Tried Moved → Tried Machine
leaf_step m p b step =
    after step (λ s. made (record { memory = s.memory; rows = move_row m.rows p s.stands; history = keep m.history p b }))

unfoldable pub undo_leaf : Machine → ℕ → Tried Moved → Tried Machine
undo_leaf m p step =
    after step (λ s. made (record { memory = s.memory; rows = move_row m.rows p s.stands; history = close_up m.history p }))

-- forward: 21 at stage end, 20, 26, then a merge where it has children, else a fork or a leaf's step of the block whose entry
-- holds its place
unfoldable pub forward_childless : List Block → Machine → ℕ → Place → ℕ → Tried Machine
forward_childless program m p here b =
    pick (is_call (block_of program b).instruction) (fork program m p b)
    (leaf_step m p b (leaf_forward m.memory here (block_of program b)))

unfoldable pub forward : List Block → Machine → ℕ → Place → Tried Machine
forward program m p here =
    pick (eqb here.stage end) (refused 21)
    (pick (waits m p end) (refused 20)
    (pick (leb most_kept (length m.history)) (refused 26)
    (pick (eqb (length (children m.rows p)) 0)
    (forward_childless program m p here (entry_block program here))
    (merge m p (exit_block program here)))))

-- undo: 21 at stage begin, 20, 27, then of a fork where it has children, else of a merge or of a leaf's step of the block whose
-- exit holds its place
unfoldable pub undo_childless : List Block → Machine → ℕ → Place → ℕ → Tried Machine
undo_childless program m p here b =
    pick (is_call (block_of program b).instruction) (undo_merge program m p b)
    (undo_leaf m p (leaf_undo m.memory here (block_of program b)))

unfoldable pub undo : List Block → Machine → ℕ → Place → Tried Machine
undo program m p here =
    pick (eqb here.stage begin) (refused 21)
    (pick (waits m p begin) (refused 20)
    (pick (holds program m.history p) (refused 27)
    (pick (eqb (length (children m.rows p)) 0)
    (undo_childless program m p here (exit_block program here))
    (undo_fork program m p (exit_block program here)))))
