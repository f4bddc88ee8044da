-- The codes that a forward step or an undo is refused with are 20 to 28: none of them is 17; a leaf's are 22 to 25. Assumes nothing.
use Rattle.std.specs.Prelude.{Bool, List, ℕ, ◌≤◌}
use Rattle.std.proofs.Math.Bool.{true, false}
use Rattle.std.proofs.Common.{arith}
use Rattle.rules.specs.Base.{pick}
use Rattle.rules.specs.Labels.{block_of}
use Rattle.rules.specs.Machine.{Machine}
use Rattle.rules.specs.Fits.{entry_block, exit_block}
use Rattle.rules.specs.Leaf.{Tried, made, refused, after, cell_place, target_place, operand_value, expression_value, entry_place, exit_place, update, exchange, semaphore_step, act, inverse, present, leaf_forward, leaf_undo}
use Rattle.rules.specs.Step.{fork, undo_fork, merge, undo_merge, leaf_step, undo_leaf, forward_childless, forward, undo_childless, undo}
use Rattle.rules.specs.declared.Operand.{Operand}
use Rattle.rules.specs.declared.Target.{Target}
use Rattle.rules.specs.declared.Expression.{Expression}
use Rattle.rules.specs.declared.Instruction.{Instruction}
use Rattle.rules.specs.declared.Entry.{Entry}
use Rattle.rules.specs.declared.Exit.{Exit}
use Rattle.rules.specs.declared.Block.{Block}
use Rattle.rules.specs.declared.Place.{Place}

-- what is refused, is so with a code of this kind
abbrev pub Only : {A : Type 0} → (ℕ → Type 0) → Tried A → Type 0
Only P (made a) = Unit {0}
Only P (refused code) = P code

module _ {A : Type 0} (P : ℕ → Type 0) where
  only-pick : (t : Bool) (x y : Tried A) → Only P x → Only P y → Only P (pick t x y)
  unfolding pick
  only-pick true x y a b = a
  only-pick false x y a b = b

module _ {A B : Type 0} (P : ℕ → Type 0) where
  only-after : (t : Tried A) (f : A → Tried B) → Only P t → ((a : A) → Only P (f a)) → Only P (after t f)
  unfolding after
  only-after (made a) f h g = g a
  only-after (refused code) f h g = h

-- ---- leaves: 22 to 25
module _ (P : ℕ → Type 0) (p22 : P 22) (p23 : P 23) (p24 : P 24) (p25 : P 25) where
  cell-only : (m : List ℕ) (x : ℕ) → Only P (cell_place m x)
  unfolding cell_place
  cell-only m x = only-pick P _ (made _) (refused 25) tt p25

  target-only : (m : List ℕ) (a : Target) → Only P (target_place m a)
  unfolding target_place
  target-only m (Target.Variable x) = tt
  target-only m (Target.Cell x) = cell-only m x

  operand-only : (m : List ℕ) (a : Operand) → Only P (operand_value m a)
  unfolding operand_value
  operand-only m (Operand.Constant v) = tt
  operand-only m (Operand.Variable x) = tt
  operand-only m (Operand.Cell x) = only-after P (cell_place m x) _ (cell-only m x) (λ at. tt)

  expression-only : (m : List ℕ) (e : Expression) → Only P (expression_value m e)
  unfolding expression_value
  expression-only m (Expression.Plain a) = operand-only m a
  expression-only m (Expression.Not a) = only-after P (operand_value m a) _ (operand-only m a) (λ v. tt)
  expression-only m (Expression.Two o a b) =
      only-after P (operand_value m a) _ (operand-only m a) (λ v. only-after P (operand_value m b) _ (operand-only m b) (λ w. tt))

  pub entry-only : (m : List ℕ) (e : Entry) → Only P (entry_place m e)
  unfolding entry_place
  entry-only m (Entry.From l) = tt
  entry-only m (Entry.Either l k e) = only-after P (expression_value m e) _ (expression-only m e) (λ v. tt)
  entry-only m (Entry.Begin l) = tt

  pub exit-only : (m : List ℕ) (e : Exit) → Only P (exit_place m e)
  unfolding exit_place
  exit-only m (Exit.To l) = tt
  exit-only m (Exit.Either e l k) = only-after P (expression_value m e) _ (expression-only m e) (λ v. tt)
  exit-only m (Exit.End l) = tt

  act-only : (m : List ℕ) (i : Instruction) → Only P (act m i)
  unfolding act update exchange semaphore_step
  act-only m (Instruction.Update change a e) =
      only-after P (target_place m a) _ (target-only m a) (λ at. only-after P (expression_value m e) _ (expression-only m e) (λ v. tt))
  act-only m (Instruction.Exchange a b) =
      only-after P (target_place m a) _ (target-only m a) (λ at. only-after P (target_place m b) _ (target-only m b) (λ k. tt))
  act-only m (Instruction.OpV x) = only-pick P _ (made _) (refused 24) tt p24
  act-only m (Instruction.OpP x) = only-pick P _ (made _) (refused 24) tt p24
  act-only m (Instruction.Assert e) =
      only-after P (expression_value m e) _ (expression-only m e) (λ v. only-pick P _ (refused 23) (made m) p23 tt)
  act-only m Instruction.Skip = tt
  act-only m (Instruction.Call n) = tt

  pub leaf-only : (m : List ℕ) (here : Place) (b : Block) → Only P (leaf_forward m here b)
  unfolding leaf_forward present
  leaf-only m here b =
      only-after P (entry_place m b.entry) _ (entry-only m b.entry)
      (λ q. only-pick P _ _ (refused 22)
      (only-after P (act m b.instruction) _ (act-only m b.instruction)
      (λ new. only-after P (exit_place new b.exit) _ (exit-only new b.exit) (λ next. tt))) p22)

  pub unleaf-only : (m : List ℕ) (here : Place) (b : Block) → Only P (leaf_undo m here b)
  unfolding leaf_undo present
  unleaf-only m here b =
      only-after P (exit_place m b.exit) _ (exit-only m b.exit)
      (λ q. only-pick P _ _ (refused 22)
      (only-after P (act m (inverse b.instruction)) _ (act-only m (inverse b.instruction))
      (λ new. only-after P (entry_place new b.entry) _ (entry-only new b.entry) (λ next. tt))) p22)

-- ---- steps: from 20 on
abbrev From20 : ℕ → Type 0
From20 code = 20 ≤ code

abbrev pub Late : {A : Type 0} → Tried A → Type 0
Late t = Only From20 t

entry-late : (m : List ℕ) (e : Entry) → Late (entry_place m e)
entry-late = entry-only From20 (omega arith) (omega arith) (omega arith) (omega arith)

exit-late : (m : List ℕ) (e : Exit) → Late (exit_place m e)
exit-late = exit-only From20 (omega arith) (omega arith) (omega arith) (omega arith)

leaf-late : (m : List ℕ) (here : Place) (b : Block) → Late (leaf_forward m here b)
leaf-late = leaf-only From20 (omega arith) (omega arith) (omega arith) (omega arith)

unleaf-late : (m : List ℕ) (here : Place) (b : Block) → Late (leaf_undo m here b)
unleaf-late = unleaf-only From20 (omega arith) (omega arith) (omega arith) (omega arith)

pub forward-late : (program : List Block) (m : Machine) (p : ℕ) (here : Place) → Late (forward program m p here)
unfolding forward forward_childless fork merge leaf_step
forward-late program m p here =
    only-pick From20 _ (refused 21) _ (omega arith)
    (only-pick From20 _ (refused 20) _ (omega arith)
    (only-pick From20 _ (refused 26) _ (omega arith)
    (only-pick From20 _ _ _
    (only-pick From20 _ _ _
    (only-pick From20 _ (refused 28) _ (omega arith)
    (only-after From20 (exit_place m.memory (block_of program (entry_block program here)).exit) _
    (exit-late m.memory (block_of program (entry_block program here)).exit) (λ next. tt)))
    (only-after From20 (leaf_forward m.memory here (block_of program (entry_block program here))) _
    (leaf-late m.memory here (block_of program (entry_block program here))) (λ s. tt)))
    tt)))

pub undo-late : (program : List Block) (m : Machine) (p : ℕ) (here : Place) → Late (undo program m p here)
unfolding undo undo_childless undo_fork undo_merge undo_leaf
undo-late program m p here =
    only-pick From20 _ (refused 21) _ (omega arith)
    (only-pick From20 _ (refused 20) _ (omega arith)
    (only-pick From20 _ (refused 27) _ (omega arith)
    (only-pick From20 _ _ _
    (only-pick From20 _ _ _ (only-pick From20 _ (refused 28) _ (omega arith) tt)
    (only-after From20 (leaf_undo m.memory here (block_of program (exit_block program here))) _
    (unleaf-late m.memory here (block_of program (exit_block program here))) (λ s. tt)))
    (only-after From20 (entry_place m.memory (block_of program (exit_block program here)).entry) _
    (entry-late m.memory (block_of program (exit_block program here)).entry) (λ back. tt)))))
