-- Every reading of an image, from one record to a block, is good. Assumes nothing.
use Prim.Native.Nat.{ℕ, ◌+◌, ◌-◌, ◌<◌}
use mathlib.Core.List.{List}
use mathlib.Core.Option.{Option, none, some}
use native.Mathlib.Omega.{arith}
use lib.ListN.{length}
use Rattle.rules.specs.Format.{operator_of, byte_at}
use Rattle.rules.specs.Read.{Reading, got, fault, next, label_at, labels_at, variable_at, constant_at, operand_at, target_at, two_at}
use Rattle.rules.specs.Read.{expression_at, entry_at, update_at, exchange_at, call_at, instruction_at, leaf_exit_at, call_exit_at, exit_at, block_at}
use Rattle.rules.specs.declared.Operator.{Operator}
use Rattle.rules.specs.declared.Change.{Change}
use Rattle.rules.specs.declared.Instruction.{Instruction}
use Rattle.rules.specs.declared.Entry.{Entry}
use Rattle.decode.proofs.Good.{Good, goes, stops, good-pick, good-follows, good-whole, good-next}

-- what is made of a reading at the same offset
made : {A B : Type 0} {s : List ℕ} {at : ℕ} {r : Reading A} (make : A → B) → Good s at r → Good s at (next r (λ a n. got (make a) n))
made make g = good-next _ (omega arith) g (λ a n h e. goes h e)

module _ (s : List ℕ) (at : ℕ) where
  -- a kind that may not stand there
  unknown : {A : Type 0} → at < length s → Good {A = A} s at (fault 2 at)
  unknown l = stops {code = 2} {place = at} (omega arith)

  -- ---- records with a body
  label-good : at < length s → Good s at (label_at s at)
  unfolding label_at
  label-good l = good-whole 1 _ l (λ h. goes (omega arith) (omega arith))

  labels-good : at < length s → Good s at (labels_at s at)
  unfolding labels_at
  labels-good l = good-whole 2 _ l (λ h. good-pick _ _ _ (stops (omega arith)) (goes (omega arith) (omega arith)))

  variable-good : at < length s → Good s at (variable_at s at)
  unfolding variable_at
  variable-good l = good-whole 1 _ l (λ h. good-pick _ _ _ (stops (omega arith)) (goes (omega arith) (omega arith)))

  constant_good : at < length s → Good s at (constant_at s at)
  unfolding constant_at
  constant_good l = good-whole 4 _ l (λ h. goes (omega arith) (omega arith))

  -- ---- operands
  operand-good : Good s at (operand_at s at)
  unfolding operand_at
  operand-good =
      good-follows _
      (λ l. good-pick _ _ _ (constant_good l)
      (good-pick _ _ _ (made _ (variable-good l)) (good-pick _ _ _ (made _ (variable-good l)) (unknown l))))

  target-good : Good s at (target_at s at)
  unfolding target_at
  target-good =
      good-follows _
      (λ l. good-pick _ _ _ (made _ (variable-good l)) (good-pick _ _ _ (made _ (variable-good l)) (unknown l)))

-- ---- expressions
two_good : (s : List ℕ) (at : ℕ) → at < length s → (o : Option Operator) → Good s at (two_at s at o)
unfolding two_at
two_good s at l none = unknown s at l
two_good s at l (some operator) =
    good-next _ (omega arith) (operand-good s (at + 1))
    (λ a n h e. good-next _ (omega arith) (operand-good s n) (λ b m k f. goes k f))

expression-good : (s : List ℕ) (at : ℕ) → Good s at (expression_at s at)
unfolding expression_at
expression-good s at =
    good-follows _
    (λ l. good-pick _ _ _ (good-next _ (omega arith) (operand-good s (at + 1)) (λ a n h e. goes h e))
    (good-pick _ _ _ (good-next _ (omega arith) (operand-good s (at + 1)) (λ a n h e. goes h e))
    (two_good s at l (operator_of (byte_at s at)))))

-- ---- entries and exits
-- two labels and an expression
condition-good : {A : Type 0} (make : ℕ × ℕ → ℕ → Reading A) (s : List ℕ) (at : ℕ)
    → at < length s
    → ((l : ℕ × ℕ) (n : ℕ) → at < n → Good s at (make l n))
    → Good s at (next (labels_at s at) make)
condition-good make s at l w = good-next _ (omega arith) (labels-good s at l) (λ x n h e. w x n h)

entry-good : (s : List ℕ) (at : ℕ) → Good s at (entry_at s at)
unfolding entry_at
entry-good s at =
    good-follows _
    (λ l. good-pick _ _ _ (made _ (label-good s at l))
    (good-pick _ _ _ (condition-good _ s at l (λ x n h. good-next _ (omega arith) (expression-good s n) (λ e m k f. goes k f)))
    (good-pick _ _ _ (made _ (label-good s at l)) (unknown s at l))))

leaf-exit_good : (s : List ℕ) (at : ℕ) → Good s at (leaf_exit_at s at)
unfolding leaf_exit_at
leaf-exit_good s at =
    good-follows _
    (λ l. good-pick _ _ _ (made _ (label-good s at l))
    (good-pick _ _ _ (condition-good _ s at l (λ x n h. good-next _ (omega arith) (expression-good s n) (λ e m k f. goes k f)))
    (good-pick _ _ _ (made _ (label-good s at l)) (unknown s at l))))

call-exit_good : (s : List ℕ) (at : ℕ) → Good s at (call_exit_at s at)
unfolding call_exit_at
call-exit_good s at =
    good-follows _
    (λ l. good-pick _ _ _ (made _ (label-good s at l))
    (good-pick _ _ _ (condition-good _ s at l (λ x n h. stops (omega arith)))
    (good-pick _ _ _ (good-next _ (omega arith) (label-good s at l) (λ x n h e. stops (omega arith))) (unknown s at l))))

exit-good : (s : List ℕ) (at : ℕ) (i : Instruction) → Good s at (exit_at s at i)
unfolding exit_at
exit-good s at i = good-pick _ _ _ (call-exit_good s at) (leaf-exit_good s at)

-- ---- instructions
update-good : (s : List ℕ) (at : ℕ) (change : Change) → at < length s → Good s at (update_at s at change)
unfolding update_at
update-good s at change l =
    good-next _ (omega arith) (target-good s (at + 1))
    (λ a n h f. good-next _ (omega arith) (expression-good s n) (λ x m k g. good-pick _ _ _ (stops (omega arith)) (goes k g)))

exchange-good : (s : List ℕ) (at : ℕ) → at < length s → Good s at (exchange_at s at)
unfolding exchange_at
exchange-good s at l =
    good-next _ (omega arith) (target-good s (at + 1))
    (λ a n h f. good-next _ (omega arith) (target-good s n) (λ x m k g. good-pick _ _ _ (stops (omega arith)) (goes k g)))

call-good : (s : List ℕ) (at : ℕ) (e : Entry) (n : ℕ) → at < length s → Good s at (call_at s at e n)
unfolding call_at
call-good s at (Entry.From x) n l = good-whole n _ l (λ h. goes (omega arith) (omega arith))
call-good s at (Entry.Either x y e) n l = good-whole n _ l (λ h. stops (omega arith))
call-good s at (Entry.Begin x) n l = good-whole n _ l (λ h. stops (omega arith))

instruction-good : (s : List ℕ) (at : ℕ) (e : Entry) → Good s at (instruction_at s at e)
unfolding instruction_at
instruction-good s at e =
    good-follows _
    (λ l. good-pick _ _ _ (update-good s at Change.Add l)
    (good-pick _ _ _ (update-good s at Change.Subtract l)
    (good-pick _ _ _ (update-good s at Change.Xor l)
    (good-pick _ _ _ (exchange-good s at l)
    (good-pick _ _ _ (made _ (variable-good s at l))
    (good-pick _ _ _ (made _ (variable-good s at l))
    (good-pick _ _ _ (good-next _ (omega arith) (expression-good s (at + 1)) (λ x n h f. goes h f))
    (good-pick _ _ _ (goes (omega arith) (omega arith))
    (good-pick _ _ _ (call-good s at e (byte_at s at - 0x50) l) (unknown s at l))))))))))

-- ---- blocks
pub block-good : (s : List ℕ) (at : ℕ) → Good s at (block_at s at)
unfolding block_at
block-good s at =
    good-next _ (omega arith) (entry-good s at)
    (λ e n h f. good-next _ (omega arith) (instruction-good s n e)
    (λ i m k g. good-next _ (omega arith) (exit-good s m i) (λ x j p q. goes p q)))
