-- Plans that make what rules tries: of a leaf, a fork, a merge and their undos, by what the plan's functions read. Assumes nothing.
use mathlib.Core.Path.{◌≡◌, sym, ap, ◌∙◌, subst, subst⁻¹}
use mathlib.Core.Bool.{true, false, not}
use mathlib.Core.List.{List}
use Rattle.std.specs.Prelude.{Result, Ok, Err}
use Prim.Native.Nat.{ℕ, ◌+◌, ◌≤◌, ◌<◌}
use native.Mathlib.Omega.{arith}
use lib.ListN.{length, take}
use borrow.Author.Tests.{lt-ltb, le-ltb}
use Rattle.rules.specs.Base.{pick, each_of}
use Rattle.rules.specs.Format.{named}
use Rattle.rules.specs.Labels.{block_of, called_by, called}
use Rattle.rules.specs.Machine.{Machine, begin, end, child, is_child_of, children, live_count, history_count, view}
use Rattle.rules.specs.Leaf.{Tried, made, refused, after, entry_place, exit_place, Moved}
use Rattle.rules.specs.Step.{crowded, move_row, insert_rows, remove_rows, child_rows, keep, close_up, fork, undo_fork, merge, undo_merge, leaf_step, undo_leaf}
use Rattle.rules.specs.Codes.{number}
use Rattle.rules.specs.declared.Block.{Block}
use Rattle.rules.specs.declared.Code.{Code}
use Rattle.rules.specs.declared.Instruction.{Instruction}
use Rattle.rules.specs.declared.Names.{Names}
use Rattle.rules.specs.declared.Place.{Place}
use Rattle.evaluate.specs.Shown.{written, WritesFit}
use Rattle.evaluate.specs.declared.Writes.{Writes}
use Rattle.leaf.specs.Moved.{moved_to}
use Rattle.laws.proofs.View.{length-rows, length-history}
use Rattle.step.specs.Planned.{identifier_at}
use Rattle.step.specs.Ready.{process_at, Ready, Plans, FirstFrom}
use Rattle.step.specs.History.{NewestAt}
use Rattle.step.specs.declared.plan.Plan.{Plan}
use Rattle.step.proofs.Standing.{live-identifier}
use Rattle.step.proofs.Named.{named_count}
use Rattle.step.proofs.ByIdentifier.{Parted}
use Rattle.step.proofs.First.{first-parted, none_before, children-within}
use Rattle.step.proofs.Steps.{leaf-is, fork-is, merge-is, undo-leaf_is, undo-merge_is, undo-fork_is}

-- a refusal is fit for any machine
pub refuses : {w : List ℕ} {code : Code} {tried : Tried Machine} → refused (number code) ≡ tried → Plans w (Err code) tried
refuses e = record { shown = e; fit = tt }

-- as a `?` hands it on
pub refuses-by : {w : List ℕ} {r : Result Plan Code} {code : Code} {tried : Tried Machine} → r ≡ Err code → refused (number code) ≡ tried → Plans w r tried
refuses-by {w} {r} {code} {tried} e h = subst⁻¹ (λ (x : Result Plan Code). Plans w x tried) e (refuses h)

pub plans_at : {w : List ℕ} {plan : Result Plan Code} {t u : Tried Machine} → t ≡ u → Plans w plan t → Plans w plan u
plans_at e h = record { shown = h.shown ∙ e; fit = h.fit }

-- a call's labels
labels-of : (program : List Block) (b : ℕ) (names : Names) → (block_of program b).instruction ≡ Instruction.Call names → called program b ≡ named names
labels-of program b names e = ap called_by e

module _ (program : List Block) (m : Machine) (p b : ℕ) (names : Names) (c : (block_of program b).instruction ≡ Instruction.Call names) where
  no_room : 64 < length m.rows + length (named names) → crowded m (called program b) ≡ true
  unfolding crowded
  no_room h = rw (labels-of program b names c, lt-ltb 64 (length m.rows + length (named names)) h)

  has_room : length m.rows + length (named names) ≤ 64 → crowded m (called program b) ≡ false
  unfolding crowded
  has_room h = rw (labels-of program b names c, le-ltb 64 (length m.rows + length (named names)) h)

  crowded-fork : 64 < length m.rows + length (named names) → refused 28 ≡ fork program m p b
  unfolding fork pick
  crowded-fork h = rw (no_room h)

  crowded-merge : 64 < length m.rows + length (named names) → refused 28 ≡ undo_merge program m p b
  unfolding undo_merge pick
  crowded-merge h = rw (no_room h)

  outside-fork : {code : ℕ} → length m.rows + length (named names) ≤ 64 → exit_place m.memory (block_of program b).exit ≡ refused code
      → refused code ≡ fork program m p b
  unfolding fork pick after
  outside-fork h e = rw (has_room h, e)

  open_fork : {q : Place} → length m.rows + length (named names) ≤ 64 → exit_place m.memory (block_of program b).exit ≡ made q
      → made
      (record { memory = m.memory; rows = insert_rows (move_row m.rows p q) p (child_rows p begin 1 (named names)); history = keep m.history p b })
      ≡ fork program m p b
  unfolding fork pick after
  open_fork h e = rw (has_room h, e, labels-of program b names c)

  open_merge : length m.rows + length (named names) ≤ 64
      → made (record { memory = m.memory; rows = insert_rows m.rows p (child_rows p end 1 (named names)); history = close_up m.history p })
      ≡ undo_merge program m p b
  unfolding undo_merge pick
  open_merge h = rw (has_room h, labels-of program b names c)

open_undo : (program : List Block) (m : Machine) (p b : ℕ) {q : Place} → entry_place m.memory (block_of program b).entry ≡ made q
    → made (record { memory = m.memory; rows = move_row (remove_rows m.rows p) p q; history = close_up m.history p })
    ≡ undo_fork program m p b
unfolding undo_fork after
open_undo program m p b h = rw h

module _ (w : List ℕ) (row : ℕ) (r : Ready w row) where
  abbrev m : Machine
  m = view w

  abbrev p : ℕ
  p = process_at w row

  live : row < length m.rows
  live = let l = length-rows w in omega (arith, l, r.live)

  -- the process is that of the row
  same : identifier_at m row ≡ p
  same = sym (live-identifier w row live)

  parted-at : (first : ℕ) → FirstFrom w (child p 1) first → Parted m.rows (child (identifier_at m row) 1) first
  parted-at first f = subst (λ (x : ℕ). Parted m.rows (child x 1) first) (sym same) (first-parted w (child p 1) first r.ascends f)

  none-at : (first : ℕ) → FirstFrom w (child p 1) first
      → each_of (λ x. not (is_child_of p x.identifier)) (take first m.rows) ≡ true
  none-at first f = none_before p m.rows first r.numbered (first-parted w (child p 1) first r.ascends f).below

  none_named : (first : ℕ) → FirstFrom w (child p 1) first
      → each_of (λ x. not (is_child_of (identifier_at m row) x.identifier)) (take first m.rows) ≡ true
  none_named first f = subst (λ (i : ℕ). each_of (λ x. not (is_child_of i x.identifier)) (take first m.rows) ≡ true) (sym same) (none-at first f)

  newest-named : (entry : ℕ) → NewestAt m.history p entry → NewestAt m.history (identifier_at m row) entry
  newest-named entry n = subst (λ (i : ℕ). NewestAt m.history i entry) (sym same) n

  -- ---- a leaf
  pub makes-leaf : (q : Place) (writes : Writes) (b : ℕ) (tried : Tried Moved) → made (moved_to q (written writes m.memory)) ≡ tried
      → WritesFit writes → history_count w < 4096 → Plans w (Ok (Plan.Leaf row q writes b)) (leaf_step m p b tried)
  makes-leaf q writes b tried e f h =
      record {
        shown =
            leaf-is m row r.ascends live q writes b
            ∙ ap (λ (x : ℕ). leaf_step m x b (made (moved_to q (written writes m.memory)))) same
            ∙ ap (λ (t : Tried Moved). leaf_step m p b t) e;
        fit = record { live = live; within = f; room = omega (arith, length-history w, h) };
      }

  pub makes-undo_leaf : (q : Place) (writes : Writes) (entry : ℕ) (tried : Tried Moved) → made (moved_to q (written writes m.memory)) ≡ tried
      → WritesFit writes → NewestAt m.history p entry → Plans w (Ok (Plan.UndoLeaf row q writes entry)) (undo_leaf m p tried)
  makes-undo_leaf q writes entry tried e f n =
      record {
        shown =
            undo-leaf_is m row r.ascends live q writes entry (newest-named entry n)
            ∙ ap (λ (x : ℕ). undo_leaf m x (made (moved_to q (written writes m.memory)))) same
            ∙ ap (λ (t : Tried Moved). undo_leaf m p t) e;
        fit = record { live = live; within = f; there = n.there };
      }

  module _ {plan : Result Plan Code} {code : Code} (h : plan ≡ Err code) where
    pub refuses-leaf : (b : ℕ) (tried : Tried Moved) → refused (number code) ≡ tried → Plans w plan (leaf_step m p b tried)
    unfolding leaf_step after
    refuses-leaf b tried e = refuses-by h (ap (λ (t : Tried Moved). leaf_step m p b t) e)

    pub refuses-undo_leaf : (tried : Tried Moved) → refused (number code) ≡ tried → Plans w plan (undo_leaf m p tried)
    unfolding undo_leaf after
    refuses-undo_leaf tried e = refuses-by h (ap (λ (t : Tried Moved). undo_leaf m p t) e)

  -- ---- children put in
  module _
      (program : List Block) (b : ℕ) (names : Names) (c : (block_of program b).instruction ≡ Instruction.Call names)
      (few : names.count ≤ 8) (eight : length names.labels ≡ 8) where
    counted : live_count w + names.count ≡ length m.rows + length (named names)
    counted = omega (arith, length-rows w, named_count names few eight)

    pub refuses-fork : 64 < live_count w + names.count → Plans w (Err Code.NoRoom) (fork program m p b)
    refuses-fork h = refuses (crowded-fork program m p b names c (omega (arith, counted, h)))

    pub refuses-merge : 64 < live_count w + names.count → Plans w (Err Code.NoRoom) (undo_merge program m p b)
    refuses-merge h = refuses (crowded-merge program m p b names c (omega (arith, counted, h)))

    module _ (room : live_count w + names.count ≤ 64) where
      rooms : length m.rows + length (named names) ≤ 64
      rooms = omega (arith, counted, room)

      pub refuses-outside : {plan : Result Plan Code} {code : Code} → plan ≡ Err code → refused (number code) ≡ exit_place m.memory (block_of program b).exit
          → Plans w plan (fork program m p b)
      refuses-outside h e = refuses-by h (outside-fork program m p b names c rooms (sym e))

      module _ (shallow : p < 268435456) (first : ℕ) (f : FirstFrom w (child p 1) first) where
        pub makes-fork : (q : Place) → made q ≡ exit_place m.memory (block_of program b).exit → history_count w < 4096
            → Plans w (Ok (Plan.Fork row q names b first)) (fork program m p b)
        makes-fork q e h =
            record {
              shown =
                  fork-is m row r.ascends live q names b first (parted-at first f)
                  ∙ ap
                  (λ (x : ℕ).
                  made
                  (record {
                    memory = m.memory;
                    rows = insert_rows (move_row m.rows x q) x (child_rows x begin 1 (named names));
                    history = keep m.history x b;
                  }))
                  same
                  ∙ open_fork program m p b names c rooms (sym e);
              fit = record {
                live = live;
                few = few;
                at = omega (arith, length-rows w, f.within);
                rooms = omega (arith, length-rows w, room);
                shallow = omega (arith, same, shallow);
                room = omega (arith, length-history w, h);
              };
            }

        pub makes-undo_merge : (entry : ℕ) → NewestAt m.history p entry → Plans w (Ok (Plan.UndoMerge row names first entry)) (undo_merge program m p b)
        makes-undo_merge entry n =
            record {
              shown =
                  undo-merge_is m row r.ascends live names first entry (parted-at first f) (newest-named entry n)
                  ∙ ap
                  (λ (x : ℕ).
                  made (record { memory = m.memory; rows = insert_rows m.rows x (child_rows x end 1 (named names)); history = close_up m.history x }))
                  same
                  ∙ open_merge program m p b names c rooms;
              fit = record {
                live = live;
                few = few;
                at = omega (arith, length-rows w, f.within);
                rooms = omega (arith, length-rows w, room);
                shallow = omega (arith, same, shallow);
                there = n.there;
              };
            }

  -- ---- children taken out
  module _ (first : ℕ) (f : FirstFrom w (child p 1) first) (count : ℕ) (e : count ≡ length (children m.rows p)) where
    counted-named : count ≡ length (children m.rows (identifier_at m row))
    counted-named = e ∙ ap (λ (x : ℕ). length (children m.rows x)) (sym same)

    fits_out : first + count ≤ length m.rows
    fits_out =
        let z = children-within p m.rows first (omega (arith, length-rows w, f.within)) (none-at first f) in
        omega (arith, z, e)

    pub makes-merge : (b : ℕ) → history_count w < 4096 → Plans w (Ok (Plan.Merge row b first count)) (merge m p b)
    makes-merge b h =
        record {
          shown =
              merge-is m row r.ascends live b first count (parted-at first f) (none_named first f) counted-named
              ∙ ap (λ (x : ℕ). merge m x b) same;
          fit = record { live = live; at = fits_out; room = omega (arith, length-history w, h) };
        }

    pub makes-undo_fork : (program : List Block) (b : ℕ) (q : Place) (entry : ℕ) → made q ≡ entry_place m.memory (block_of program b).entry
        → NewestAt m.history p entry → Plans w (Ok (Plan.UndoFork row q first count entry)) (undo_fork program m p b)
    makes-undo_fork program b q entry g n =
        record {
          shown =
              undo-fork_is m row r.ascends live q first count entry (parted-at first f) (none_named first f) counted-named (newest-named entry n)
              ∙ ap
              (λ (x : ℕ). made (record { memory = m.memory; rows = move_row (remove_rows m.rows x) x q; history = close_up m.history x }))
              same
              ∙ open_undo program m p b (sym g);
          fit = record { live = live; at = fits_out; there = n.there };
        }

  pub refuses-undo_fork : (program : List Block) (b : ℕ) {plan : Result Plan Code} {code : Code} → plan ≡ Err code
      → refused (number code) ≡ entry_place m.memory (block_of program b).entry → Plans w plan (undo_fork program m p b)
  unfolding undo_fork after
  refuses-undo_fork program b h e = refuses-by h (rw (← e))
