-- A step leaves words: on a machine of words that passes code 17, reached by a run or not, what a forward step or an undo makes is a
-- machine of words,
-- each below 2 ^ 32. So what `step` leaves on bytes is what it leaves on their words. Assumes that the image is sound.
use Rattle.std.specs.Prelude.{◌≡◌, ◌⊎◌, Bool, not, ◌&&◌, List, [], ◌∷◌, ◌++◌, length, take, eqb, leb, ltb}
use Rattle.std.proofs.Math.Path.{refl}
use Rattle.std.proofs.Common.{sym, ◌∙◌, subst, inl, inr, arith, ltb-true, ltb-false, lt-ltb}
use Rattle.std.proofs.Math.Bool.{true, false}
use Rattle.std.proofs.Math.Option.{some}
use Prim.Native.Nat.{ℕ, zero, suc, ◌+◌, ◌<◌, ◌≤◌}
use Rattle.std.proofs.Math.ListN.{get_or-eq_default}
use Rattle.theory.specs.Tests.{bool_cases, and-true, true_and, true_false}
use Rattle.rules.specs.Base.{pick, some_of, each_of, those, lowest_from, lowest}
use Rattle.rules.specs.Value.{span}
use Rattle.rules.specs.Read.{is_call}
use Rattle.rules.specs.Labels.{no_block, block_of, called, called_by}
use Rattle.rules.specs.Machine.{Process, Kept, Machine, begin, run, end, place, standing, child}
use Rattle.rules.specs.Fits.{entry_block, exit_block, entry_holds, exit_holds, machine_fits}
use Rattle.rules.specs.Leaf.{Tried, made, refused, after, Moved, chosen, entry_place, exit_place, act, inverse, present, leaf_forward}
use Rattle.rules.specs.Leaf.{leaf_undo, expression_value}
use Rattle.rules.specs.Step.{move_row, child_rows, insert_rows, remove_rows, keep, close_up, fork, undo_fork, merge, undo_merge, leaf_step}
use Rattle.rules.specs.Step.{undo_leaf, forward_childless, forward, undo_childless, undo}
use Rattle.rules.specs.declared.Entry.{Entry}
use Rattle.rules.specs.declared.Exit.{Exit}
use Rattle.rules.specs.declared.Instruction.{Instruction}
use Rattle.rules.specs.declared.Block.{Block}
use Rattle.rules.specs.declared.Place.{Place}
use Rattle.laws.specs.Fit.{Bytes, EntryFit, ExitFit, InstructionFit, BlockFit}
use Rattle.laws.proofs.Lists.{each_append}
use Rattle.theorems.specs.Memory.{Fine}
use Rattle.theorems.specs.Acts.{act-fine}
use Rattle.theorems.specs.Leaves.{inverse-fair}
use Rattle.theorems.specs.Program.{Sound, call-in_image}
use Rattle.theorems.specs.Forward.{few-labels}
use Rattle.theorems.specs.Fitted.{shallow}
use Rattle.theorems_more.specs.Bytes.FitWords.{RowWords, KeptWords, Worded, live-word}

-- ---- what is made has a property
module _ {A : Type 0} where
  abbrev pub Every : (A → Type 0) → Tried A → Type 0
  Every P (made a) = P a
  Every P (refused code) = Unit {0}

module _ {A : Type 0} (P : A → Type 0) where
  every_pick : (t : Bool) (x y : Tried A) → (t ≡ true → Every P x) → (t ≡ false → Every P y) → Every P (pick t x y)
  unfolding pick
  every_pick true x y a b = a refl
  every_pick false x y a b = b refl

  every_of : (t : Tried A) → ((a : A) → t ≡ made a → P a) → Every P t
  every_of (made a) h = h a refl
  every_of (refused code) h = tt

  pub every_made : (t : Tried A) (a : A) → Every P t → t ≡ made a → P a
  every_made t a h e = subst (Every P) e h

module _ {A B : Type 0} (Q : A → Type 0) (P : B → Type 0) where
  every_after : (t : Tried A) (f : A → Tried B) → Every Q t → ((a : A) → Q a → Every P (f a)) → Every P (after t f)
  unfolding after
  every_after (made a) f h g = g a h
  every_after (refused code) f h g = tt

-- ---- places
abbrev Small : Place → Type 0
Small q = (q.label < 256) × (q.stage < 256)

chosen-small : (l m v : ℕ) → l < 256 → m < 256 → Small (chosen l m v)
unfolding chosen pick
chosen-small l m v hl hm = go (eqb v 0)
  where
    go : (t : Bool) → Small (pick t (place m run) (place l run))
    go true = (hm, omega arith)
    go false = (hl, omega arith)

entry-small : (memory : List ℕ) (e : Entry) → EntryFit e → Every Small (entry_place memory e)
unfolding entry_place
entry-small memory (Entry.From l) f = (f, omega arith)
entry-small memory (Entry.Either l m e) f =
    every_after (λ (v : ℕ). Unit {0}) Small (expression_value memory e) _
    (every_of (λ (v : ℕ). Unit {0}) (expression_value memory e) (λ v q. tt)) (λ v q. chosen-small l m v f.0 f.1)
entry-small memory (Entry.Begin l) f = (f, omega arith)

exit_small : (memory : List ℕ) (e : Exit) → ExitFit e → Every Small (exit_place memory e)
unfolding exit_place
exit_small memory (Exit.To l) f = (f, omega arith)
exit_small memory (Exit.Either e l m) f =
    every_after (λ (v : ℕ). Unit {0}) Small (expression_value memory e) _
    (every_of (λ (v : ℕ). Unit {0}) (expression_value memory e) (λ v q. tt)) (λ v q. chosen-small l m v f.0 f.1)
exit_small memory (Exit.End l) f = (f, omega arith)

-- ---- leaves
abbrev Stepped : Moved → Type 0
Stepped s = Small s.stands × Fine s.memory

leaf-words : (memory : List ℕ) (here : Place) (b : Block) → Fine memory → BlockFit b → Every Stepped (leaf_forward memory here b)
unfolding leaf_forward present
leaf-words memory here b f fit =
    every_after Small Stepped (entry_place memory b.entry) _ (entry-small memory b.entry fit.entry)
    (λ q s. every_pick Stepped _ _ (refused 22)
    (λ t. every_after Fine Stepped (act memory b.instruction) _
    (every_of Fine (act memory b.instruction) (λ m e. act-fine memory b.instruction m f fit.instruction e))
    (λ m k. every_after Small Stepped (exit_place m b.exit) _ (exit_small m b.exit fit.exit) (λ next s. (s, k))))
    (λ t. tt))

unleaf-words : (memory : List ℕ) (here : Place) (b : Block) → Fine memory → BlockFit b → Every Stepped (leaf_undo memory here b)
unfolding leaf_undo present
unleaf-words memory here b f fit =
    every_after Small Stepped (exit_place memory b.exit) _ (exit_small memory b.exit fit.exit)
    (λ q s. every_pick Stepped _ _ (refused 22)
    (λ t. every_after Fine Stepped (act memory (inverse b.instruction)) _
    (every_of Fine (act memory (inverse b.instruction))
    (λ m e. act-fine memory (inverse b.instruction) m f (inverse-fair b.instruction fit.instruction) e))
    (λ m k. every_after Small Stepped (entry_place m b.entry) _ (entry-small m b.entry fit.entry) (λ next s. (s, k))))
    (λ t. tt))

-- ---- rows
abbrev Rows : List Process → Type 0
Rows rows = each_of RowWords rows ≡ true

row_small : (p : ℕ) (q : Place) → p < span → Small q → RowWords (record { identifier = p; stands = q }) ≡ true
row_small p q hp s =
    let a = s.0 in
    let b = s.1 in
    true_and _ _ (lt-ltb p span hp) (true_and _ _ (lt-ltb q.label span (omega (arith, a))) (lt-ltb q.stage span (omega (arith, b))))

move-words : (rows : List Process) (p : ℕ) (q : Place) → p < span → Small q → Rows rows → Rows (move_row rows p q)
unfolding move_row each_of pick
move-words [] p q hp s h = refl
move-words (r ∷ rows) p q hp s h =
    let x = and-true (RowWords r) (each_of RowWords rows) h in
    true_and _ _ (go (eqb r.identifier p) x.0) (move-words rows p q hp s x.1)
  where
    go : (t : Bool) → RowWords r ≡ true → RowWords (pick t (record { identifier = p; stands = q }) r) ≡ true
    go true k = row_small p q hp s
    go false k = k

those-words : (g : Process → Bool) (rows : List Process) → Rows rows → Rows (those g rows)
unfolding those each_of pick
those-words g [] h = refl
those-words g (r ∷ rows) h =
    let x = and-true (RowWords r) (each_of RowWords rows) h in go (g r) x.0 (those-words g rows x.1)
  where
    go : (t : Bool) → RowWords r ≡ true → Rows (those g rows) → Rows (pick t (r ∷ those g rows) (those g rows))
    go true k ih = true_and _ _ k ih
    go false k ih = ih

append-rows : (l m : List Process) → Rows l → Rows m → Rows (l ++ m)
append-rows l m a b = each_append RowWords l m ∙ true_and _ _ a b

abbrev Labels : List ℕ → Type 0
Labels ls = each_of (λ l. ltb l 256) ls ≡ true

child-words :
    (p stage i : ℕ) (ls : List ℕ) → p < 268435456 → stage < 256 → i + length ls ≤ 9 → Labels ls → Rows (child_rows p stage i ls)
unfolding child_rows each_of
child-words p stage i [] hp hs few h = refl
child-words p stage i (l ∷ ls) hp hs few h =
    let x = and-true (ltb l 256) (each_of (λ l. ltb l 256) ls) h in
    let lt = ltb-true l 256 x.0 in
    true_and _ _ (row_small (child p i) (place l stage) (omega arith) (lt, hs)) (child-words p stage (suc i) ls hp hs (omega arith) x.1)

insert_words : (rows : List Process) (p : ℕ) (new : List Process) → Rows rows → Rows new → Rows (insert_rows rows p new)
unfolding insert_rows
insert_words rows p new h k =
    append-rows (those (λ r. ltb r.identifier (child p 1)) rows ++ new) (those (λ r. leb (child p 1) r.identifier) rows)
    (append-rows (those (λ r. ltb r.identifier (child p 1)) rows) new (those-words _ rows h) k) (those-words _ rows h)

remove_words : (rows : List Process) (p : ℕ) → Rows rows → Rows (remove_rows rows p)
unfolding remove_rows
remove_words rows p h = those-words _ rows h

-- the labels of a call
take-labels : (k : ℕ) (ls : List ℕ) → Labels ls → Labels (take k ls)
unfolding each_of
take-labels zero ls h = refl
take-labels (suc k) [] h = refl
take-labels (suc k) (l ∷ ls) h =
    let x = and-true (ltb l 256) (each_of (λ l. ltb l 256) ls) h in true_and _ _ x.0 (take-labels k ls x.1)

called-small : (i : Instruction) → InstructionFit i → Labels (called_by i)
unfolding each_of
called-small (Instruction.Update c a e) f = refl
called-small (Instruction.Exchange a b) f = refl
called-small (Instruction.OpV x) f = refl
called-small (Instruction.OpP x) f = refl
called-small (Instruction.Assert e) f = refl
called-small Instruction.Skip f = refl
called-small (Instruction.Call n) f = take-labels n.count n.labels (all n.labels f.bytes)
  where
    all : (ls : List ℕ) → Bytes ls → Labels ls
    all [] h = refl
    all (l ∷ ls) h = true_and _ _ (lt-ltb l 256 (h 0)) (all ls (λ i. h (suc i)))

-- ---- history
abbrev History : List Kept → Type 0
History history = each_of KeptWords history ≡ true

keep-words : (history : List Kept) (p b : ℕ) → p < span → b < span → History history → History (keep history p b)
unfolding keep each_of
keep-words history p b hp hb h =
    each_append KeptWords history _ ∙ true_and _ _ h (true_and _ _ (true_and _ _ (lt-ltb p span hp) (lt-ltb b span hb)) refl)

close_words : (history : List Kept) (p : ℕ) → History history → History (close_up history p)
unfolding close_up each_of pick
close_words [] p h = refl
close_words (k ∷ history) p h =
    let x = and-true (KeptWords k) (each_of KeptWords history) h in
    go (eqb k.identifier p && not (some_of (λ j. eqb j.identifier p) history)) x.0 x.1 (close_words history p x.1)
  where
    go :
        (t : Bool) → KeptWords k ≡ true → History history → History (close_up history p) → History (pick t history (k ∷ close_up history p))
    go true a b ih = b
    go false a b ih = true_and _ _ a ih

-- ---- the block at a place
from-most : (p : ℕ → Bool) (n at : ℕ) → lowest_from p n at ≤ at + n
unfolding lowest_from pick
from-most p zero at = omega arith
from-most p (suc n) at = go (p at) (from-most p n (suc at))
  where
    go : (t : Bool) → lowest_from p n (suc at) ≤ suc at + n → pick t at (lowest_from p n (suc at)) ≤ at + suc n
    go true h = omega arith
    go false h = omega arith

module _ (program : List Block) (S : Sound program) where
  entry-word : (q : Place) → entry_block program q < span
  unfolding entry_block lowest
  entry-word q =
      let h = from-most (λ b. entry_holds (block_of program b).entry q) (length program) 0 in let few = S.few in omega (arith, h, few)

  exit-word : (q : Place) → exit_block program q < span
  unfolding exit_block lowest
  exit-word q =
      let h = from-most (λ b. exit_holds (block_of program b).exit q) (length program) 0 in let few = S.few in omega (arith, h, few)

  -- a block of the image, or the one that stands for none, is fit
  fit-any : (b : ℕ) → BlockFit (block_of program b)
  fit-any b = go (bool_cases (ltb b (length program)))
    where
      empty : BlockFit no_block
      empty =
          record {
            entry = omega arith;
            instruction = tt;
            exit = omega arith;
            from = λ c. absurd (true_false c refl);
            to = λ c. absurd (true_false c refl);
          }

      go : (ltb b (length program) ≡ true) ⊎ (ltb b (length program) ≡ false) → BlockFit (block_of program b)
      go (inl h) = S.fit b (ltb-true b (length program) h)
      go (inr h) = subst BlockFit (sym (get_or-eq_default program no_block (ltb-false b (length program) h))) empty

  module _ (m : Machine) (passed : machine_fits program m ≡ true) (w : Worded m) (p : ℕ) (here : Place) (live : standing m.rows p ≡ some here) where
    hp : p < span
    hp = live-word program S m passed p here live

    calls-rows : (b stage : ℕ) → stage < 256 → is_call (block_of program b).instruction ≡ true →
        (b ≡ entry_block program here) ⊎ (b ≡ exit_block program here) →
        Rows (child_rows p stage 1 (called program b))
    calls-rows b stage hs c at =
        let lt = call-in_image program S b c in
        let few = few-labels program S b c in
        child-words p stage 1 (called program b) (shallow program S m passed p here b live lt c at) hs (omega (arith, few))
        (called-small (block_of program b).instruction (fit-any b).instruction)

    -- What a forward step makes is words; what an undo makes too.
    pub forward-worded : Every Worded (forward program m p here)
    unfolding forward forward_childless fork merge leaf_step
    forward-worded =
        every_pick Worded _ (refused 21) _ (λ t. tt)
        (λ t. every_pick Worded _ (refused 20) _ (λ t. tt)
        (λ t. every_pick Worded _ (refused 26) _ (λ t. tt)
        (λ t. every_pick Worded _ _ _
        (λ free. every_pick Worded (is_call (block_of program b).instruction) _ _
        (λ c. every_pick Worded _ (refused 28) _ (λ t. tt)
        (λ t. every_after Small Worded (exit_place m.memory (block_of program b).exit) _
        (exit_small m.memory (block_of program b).exit (fit-any b).exit)
        (λ next s. record {
          rows = insert_words _ p _ (move-words m.rows p next hp s w.rows) (calls-rows b begin (omega arith) c (inl refl));
          history = keep-words m.history p b hp (entry-word here) w.history;
          memory = w.memory;
        })))
        (λ c. every_after Stepped Worded (leaf_forward m.memory here (block_of program b)) _
        (leaf-words m.memory here (block_of program b) w.memory (fit-any b))
        (λ s k. record {
          rows = move-words m.rows p s.stands hp k.0 w.rows;
          history = keep-words m.history p b hp (entry-word here) w.history;
          memory = k.1;
        })))
        (λ busy. record {
          rows = remove_words m.rows p w.rows;
          history = keep-words m.history p (exit_block program here) hp (exit-word here) w.history;
          memory = w.memory;
        }))))
      where
        b : ℕ
        b = entry_block program here

    pub undo-worded : Every Worded (undo program m p here)
    unfolding undo undo_childless undo_fork undo_merge undo_leaf
    undo-worded =
        every_pick Worded _ (refused 21) _ (λ t. tt)
        (λ t. every_pick Worded _ (refused 20) _ (λ t. tt)
        (λ t. every_pick Worded _ (refused 27) _ (λ t. tt)
        (λ t. every_pick Worded _ _ _
        (λ free. every_pick Worded (is_call (block_of program b).instruction) _ _
        (λ c. every_pick Worded _ (refused 28) _ (λ t. tt)
        (λ t. record {
          rows = insert_words m.rows p _ w.rows (calls-rows b end (omega arith) c (inr refl));
          history = close_words m.history p w.history;
          memory = w.memory;
        }))
        (λ c. every_after Stepped Worded (leaf_undo m.memory here (block_of program b)) _
        (unleaf-words m.memory here (block_of program b) w.memory (fit-any b))
        (λ s k. record {
          rows = move-words m.rows p s.stands hp k.0 w.rows;
          history = close_words m.history p w.history;
          memory = k.1;
        })))
        (λ busy. every_after Small Worded (entry_place m.memory (block_of program b).entry) _
        (entry-small m.memory (block_of program b).entry (fit-any b).entry)
        (λ back s. record {
          rows = move-words (remove_rows m.rows p) p back hp s (remove_words m.rows p w.rows);
          history = close_words m.history p w.history;
          memory = w.memory;
        })))))
      where
        b : ℕ
        b = exit_block program here
