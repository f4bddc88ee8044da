-- Code 17, document 01: the machine doesn't fit the image. Each clause is a test of its own, and `fits` is all of them.
use Rattle.std.specs.Prelude.{ℕ, zero, suc, ◌*◌, ◌/◌, ◌%◌, Bool, true, false, ◌&&◌, ◌||◌, List, [], ◌∷◌, map, length, take, drop, eqb, leb, ltb}
use Rattle.std.proofs.Math.Option.{Option, none, some}
use Rattle.std.proofs.Math.ListN.{get_elem?}
use Rattle.rules.specs.Base.{pick, each_of, lowest, up_from, alike}
use Rattle.rules.specs.Format.{main}
use Rattle.rules.specs.Labels.{block_of, home, called}
use Rattle.rules.specs.Calls.{deepest, most_rows}
use Rattle.rules.specs.Machine.{Process, Kept, Machine, begin, run, end, root, child, parent, standing, children, row_words, kept_words, most_kept, rows_at, history_at, live_count, history_count, view}
use Rattle.rules.specs.declared.Block.{Block}
use Rattle.rules.specs.declared.Entry.{Entry}
use Rattle.rules.specs.declared.Exit.{Exit}
use Rattle.rules.specs.declared.Place.{Place}

-- ---- the block at a place
-- the entry, or the exit, holds the place
abbrev pub entry_holds : Entry → Place → Bool
entry_holds (Entry.From l) q = eqb q.stage run && eqb q.label l
entry_holds (Entry.Either l m e) q = eqb q.stage run && (eqb q.label l || eqb q.label m)
entry_holds (Entry.Begin l) q = eqb q.stage begin && eqb q.label l

abbrev pub exit_holds : Exit → Place → Bool
exit_holds (Exit.To l) q = eqb q.stage run && eqb q.label l
exit_holds (Exit.Either e l m) q = eqb q.stage run && (eqb q.label l || eqb q.label m)
exit_holds (Exit.End l) q = eqb q.stage end && eqb q.label l

-- the block whose entry holds the place, the block whose exit does; the number of blocks where there is none
unfoldable pub entry_block : List Block → Place → ℕ
entry_block program q = lowest (λ b. entry_holds (block_of program b).entry q) (length program)

unfoldable pub exit_block : List Block → Place → ℕ
exit_block program q = lowest (λ b. exit_holds (block_of program b).exit q) (length program)

-- the labels of the call at whose exit label the place is; none at any other place
unfoldable pub called_at : List Block → Place → List ℕ
called_at program q = called program (exit_block program q)

-- ---- the clauses
-- a count out of range
unfoldable pub counts_fit : List ℕ → Bool
counts_fit words = leb (live_count words) most_rows && leb (history_count words) most_kept

-- an unused word not zero
unfoldable pub unused_zero : List ℕ → Bool
unused_zero words =
    each_of (λ w. eqb w 0) (drop (row_words * live_count words) (take (row_words * most_rows) (drop rows_at words)))
    && each_of (λ w. eqb w 0) (drop (kept_words * history_count words) (drop history_at words))

-- rows not ascending
unfoldable pub ascending : List Process → Bool
ascending [] = true
ascending (r ∷ []) = true
ascending (r ∷ s ∷ rows) = ltb r.identifier s.identifier && ascending (s ∷ rows)

-- the label and stage are of the process block of label l: begin and end need l itself, run an ordinary label of its blocks
unfoldable pub stands_in : List Block → ℕ → Place → Bool
stands_in program l q =
    pick (eqb q.stage begin || eqb q.stage end) (eqb q.label l)
    (ltb (entry_block program q) (length program) && eqb (home program (entry_block program q)) l)

abbrev pub stands_in_some : List Block → Option ℕ → Place → Bool
stands_in_some program none q = false
stands_in_some program (some l) q = stands_in program l q

-- no root in main
abbrev pub root_in : List Block → Option Place → Bool
root_in program none = false
root_in program (some q) = stands_in program main q

unfoldable pub root_fits : List Block → List Process → Bool
root_fits program rows = root_in program (standing rows root)

-- a parent missing
abbrev pub is_live : Option Place → Bool
is_live none = false
is_live (some q) = true

unfoldable pub parent_fits : List Process → Process → Bool
parent_fits rows r = eqb r.identifier root || is_live (standing rows (parent r.identifier))

-- a label and stage not of the process's own process block: main for the root, for child i of p the i-th label of the call
-- at whose exit label p stands
abbrev pub nth : List ℕ → ℕ → Option ℕ
nth l zero = none
nth l (suc i) = get_elem? l i

abbrev pub child_label : List Block → Option Place → ℕ → Option ℕ
child_label program none i = none
child_label program (some q) i = nth (called_at program q) i

unfoldable pub own_label : List Block → List Process → ℕ → Option ℕ
own_label program rows p = pick (eqb p root) (some main) (child_label program (standing rows (parent p)) (p % 16))

unfoldable pub own_fits : List Block → List Process → Process → Bool
own_fits program rows r = stands_in_some program (own_label program rows r.identifier) r.stands

-- a process with a child that doesn't stand at run at a call block's exit label, or whose children are not exactly that
-- call's 1 to n (each in its named process block, by the clause before)
unfoldable pub children_fit : List Block → List Process → Process → Bool
children_fit program rows r =
    eqb (length (children rows r.identifier)) 0
    || alike (map (λ c. c.identifier) (children rows r.identifier))
    (up_from (child r.identifier 1) (length (called_at program r.stands)))

-- a process not at begin whose newest history entry isn't the block whose exit holds its label
abbrev pub or_else : Option ℕ → Option ℕ → Option ℕ
or_else none b = b
or_else (some a) b = some a

unfoldable pub newest : List Kept → ℕ → Option ℕ
newest [] p = none
newest (k ∷ history) p = or_else (newest history p) (pick (eqb k.identifier p) (some k.block) none)

abbrev pub is_block : Option ℕ → ℕ → Bool
is_block none b = false
is_block (some a) b = eqb a b

unfoldable pub newest_fits : List Block → List Kept → Process → Bool
newest_fits program history r =
    eqb r.stands.stage begin || is_block (newest history r.identifier) (exit_block program r.stands)

-- a history block not in the image
unfoldable pub block_fits : List Block → Kept → Bool
block_fits program k = ltb k.block (length program)

-- a history identifier that, written without leading zeros, has a hexadecimal digit outside 1 to 8, other than the root's 0;
-- it has at most as many digits as main may be deep
unfoldable pub digits_fit : ℕ → ℕ → Bool
digits_fit zero p = eqb p 0
digits_fit (suc n) p = eqb p 0 || (leb 1 (p % 16) && (leb (p % 16) 8 && digits_fit n (p / 16)))

unfoldable pub kept_fits : List Block → Kept → Bool
kept_fits program k = block_fits program k && digits_fit deepest k.identifier

-- ---- all of them
unfoldable pub row_fits : List Block → Machine → Process → Bool
row_fits program m r =
    parent_fits m.rows r && (own_fits program m.rows r && (children_fit program m.rows r && newest_fits program m.history r))

unfoldable pub machine_fits : List Block → Machine → Bool
machine_fits program m =
    ascending m.rows
    && (root_fits program m.rows && (each_of (row_fits program m) m.rows && each_of (kept_fits program) m.history))

unfoldable pub fits : List Block → List ℕ → Bool
fits program words = counts_fit words && (unused_zero words && machine_fits program (view words))
