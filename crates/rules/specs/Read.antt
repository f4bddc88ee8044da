-- Reading an image, document 01, "The image" and codes 1 to 8 of "Judging": records in byte order, with an offset that moves
-- past each. What is read is handed on with the offset past it; the first fault wins, with its code and place.
use Rattle.std.specs.Prelude.{ℕ, zero, suc, ◌+◌, ◌-◌, List, [], ◌∷◌, map, Bool, true, false, ◌||◌, ◌&&◌, length, ltb, leb, eqb}
use Rattle.std.proofs.Math.Option.{Option, none, some}
use Rattle.rules.specs.Base.{pick, up_from}
use Rattle.rules.specs.Format.{longest, most_blocks, variables, byte_at, word_at, operator_of}
use Rattle.rules.specs.Names.{expression_names, target_names, target_resource}
use Rattle.rules.specs.declared.Operand.{Operand}
use Rattle.rules.specs.declared.Target.{Target}
use Rattle.rules.specs.declared.Operator.{Operator}
use Rattle.rules.specs.declared.Expression.{Expression}
use Rattle.rules.specs.declared.Change.{Change}
use Rattle.rules.specs.declared.Names.{Names}
use Rattle.rules.specs.declared.Instruction.{Instruction}
use Rattle.rules.specs.declared.Entry.{Entry}
use Rattle.rules.specs.declared.Exit.{Exit}
use Rattle.rules.specs.declared.Block.{Block}

-- what was read, with the offset past it; or the code and place of a fault
pub data Reading (A : Type 0) : Type 0 where
  got : A → ℕ → Reading A
  fault : ℕ → ℕ → Reading A

module _ {A B : Type 0} where
  -- go on from what was read; a fault stays
  unfoldable pub next : Reading A → (A → ℕ → Reading B) → Reading B
  next (got a at) f = f a at
  next (fault code place) f = fault code place

module _ {A : Type 0} where
  -- 3: the image ends before a record that must follow (the place is its length)
  unfoldable pub follows : List ℕ → ℕ → Reading A → Reading A
  follows s at r = pick (leb (length s) at) (fault 3 (length s)) r

  -- 3: the image ends inside the record, whose body has n bytes
  unfoldable pub whole : List ℕ → ℕ → ℕ → Reading A → Reading A
  whole s at n r = pick (leb (length s - at) n) (fault 3 at) r

-- ---- records with a body
-- a body of one label; of two, which differ (6); of one variable, at most 31 (4)
unfoldable pub label_at : List ℕ → ℕ → Reading ℕ
label_at s at = whole s at 1 (got (byte_at s (at + 1)) (at + 2))

unfoldable pub labels_at : List ℕ → ℕ → Reading (ℕ × ℕ)
labels_at s at =
    whole s at 2
    (pick (eqb (byte_at s (at + 1)) (byte_at s (at + 2))) (fault 6 at)
    (got (byte_at s (at + 1), byte_at s (at + 2)) (at + 3)))

unfoldable pub variable_at : List ℕ → ℕ → Reading ℕ
variable_at s at =
    whole s at 1
    (pick (leb variables (byte_at s (at + 1))) (fault 4 at)
    (got (byte_at s (at + 1)) (at + 2)))

-- ---- operands and expressions
unfoldable pub constant_at : List ℕ → ℕ → Reading Operand
constant_at s at = whole s at 4 (got (Operand.Constant (word_at s (at + 1))) (at + 5))

unfoldable pub operand_at : List ℕ → ℕ → Reading Operand
operand_at s at =
    follows s at
    (pick (eqb (byte_at s at) 0x01) (constant_at s at)
    (pick (eqb (byte_at s at) 0x02) (next (variable_at s at) (λ x n. got (Operand.Variable x) n))
    (pick (eqb (byte_at s at) 0x03) (next (variable_at s at) (λ x n. got (Operand.Cell x) n))
    (fault 2 at))))

-- a left operand is 02 or 03
unfoldable pub target_at : List ℕ → ℕ → Reading Target
target_at s at =
    follows s at
    (pick (eqb (byte_at s at) 0x02) (next (variable_at s at) (λ x n. got (Target.Variable x) n))
    (pick (eqb (byte_at s at) 0x03) (next (variable_at s at) (λ x n. got (Target.Cell x) n))
    (fault 2 at)))

-- two operands after the operator's kind at `at`
unfoldable pub two_at : List ℕ → ℕ → Option Operator → Reading Expression
two_at s at none = fault 2 at
two_at s at (some operator) =
    next (operand_at s (at + 1)) (λ a n. next (operand_at s n) (λ b m. got (Expression.Two operator a b) m))

unfoldable pub expression_at : List ℕ → ℕ → Reading Expression
expression_at s at =
    follows s at
    (pick (eqb (byte_at s at) 0x10) (next (operand_at s (at + 1)) (λ a n. got (Expression.Plain a) n))
    (pick (eqb (byte_at s at) 0x11) (next (operand_at s (at + 1)) (λ a n. got (Expression.Not a) n))
    (two_at s at (operator_of (byte_at s at)))))

-- ---- entries
unfoldable pub entry_at : List ℕ → ℕ → Reading Entry
entry_at s at =
    follows s at
    (pick (eqb (byte_at s at) 0x20) (next (label_at s at) (λ l n. got (Entry.From l) n))
    (pick (eqb (byte_at s at) 0x21)
    (next (labels_at s at) (λ l n. next (expression_at s n) (λ e m. got (Entry.Either l.0 l.1 e) m)))
    (pick (eqb (byte_at s at) 0x22) (next (label_at s at) (λ l n. got (Entry.Begin l) n))
    (fault 2 at))))

-- ---- instructions
-- 7: x is updated by an expression that names x, as a value or as an address; a cell by one that names a cell
unfoldable pub updates_itself : Target → Expression → Bool
updates_itself target e = expression_names e (target_resource target)

-- 7: an exchange names one variable on both sides
unfoldable pub exchanges_itself : Target → Target → Bool
exchanges_itself (Target.Variable x) b = target_names b x
exchanges_itself (Target.Cell x) b = target_names b x

unfoldable pub update_at : List ℕ → ℕ → Change → Reading Instruction
update_at s at change =
    next (target_at s (at + 1)) (λ a n. next (expression_at s n)
    (λ e m. pick (updates_itself a e) (fault 7 at) (got (Instruction.Update change a e) m)))

unfoldable pub exchange_at : List ℕ → ℕ → Reading Instruction
exchange_at s at =
    next (target_at s (at + 1)) (λ a n. next (target_at s n)
    (λ b m. pick (exchanges_itself a b) (fault 7 at) (got (Instruction.Exchange a b) m)))

-- the label at place i of a call's body, of n labels; 0 from n on
unfoldable pub name_at : List ℕ → ℕ → ℕ → ℕ → ℕ
name_at s at n i = pick (ltb i n) (byte_at s (at + 1 + i)) 0

unfoldable pub names_at : List ℕ → ℕ → ℕ → Names
names_at s at n = record { count = n; labels = map (name_at s at n) (up_from 0 8) }

-- a call of n labels; 8: its entry is not kind 20
unfoldable pub call_at : List ℕ → ℕ → Entry → ℕ → Reading Instruction
call_at s at (Entry.From l) n = whole s at n (got (Instruction.Call (names_at s at n)) (at + 1 + n))
call_at s at (Entry.Either l m e) n = whole s at n (fault 8 at)
call_at s at (Entry.Begin l) n = whole s at n (fault 8 at)

unfoldable pub instruction_at : List ℕ → ℕ → Entry → Reading Instruction
instruction_at s at entry =
    follows s at
    (pick (eqb (byte_at s at) 0x40) (update_at s at Change.Add)
    (pick (eqb (byte_at s at) 0x41) (update_at s at Change.Subtract)
    (pick (eqb (byte_at s at) 0x42) (update_at s at Change.Xor)
    (pick (eqb (byte_at s at) 0x43) (exchange_at s at)
    (pick (eqb (byte_at s at) 0x44) (next (variable_at s at) (λ x n. got (Instruction.OpV x) n))
    (pick (eqb (byte_at s at) 0x45) (next (variable_at s at) (λ x n. got (Instruction.OpP x) n))
    (pick (eqb (byte_at s at) 0x46) (next (expression_at s (at + 1)) (λ e n. got (Instruction.Assert e) n))
    (pick (eqb (byte_at s at) 0x47) (got Instruction.Skip (at + 1))
    (pick (leb 0x51 (byte_at s at) && leb (byte_at s at) 0x58) (call_at s at entry (byte_at s at - 0x50))
    (fault 2 at))))))))))

-- ---- exits
-- the exit of a block whose body is a call (8: its exit is not kind 30), and of any other
unfoldable pub call_exit_at : List ℕ → ℕ → Reading Exit
call_exit_at s at =
    follows s at
    (pick (eqb (byte_at s at) 0x30) (next (label_at s at) (λ l n. got (Exit.To l) n))
    (pick (eqb (byte_at s at) 0x31) (next (labels_at s at) (λ l n. fault 8 at))
    (pick (eqb (byte_at s at) 0x32) (next (label_at s at) (λ l n. fault 8 at))
    (fault 2 at))))

unfoldable pub leaf_exit_at : List ℕ → ℕ → Reading Exit
leaf_exit_at s at =
    follows s at
    (pick (eqb (byte_at s at) 0x30) (next (label_at s at) (λ l n. got (Exit.To l) n))
    (pick (eqb (byte_at s at) 0x31)
    (next (labels_at s at) (λ l n. next (expression_at s n) (λ e m. got (Exit.Either e l.0 l.1) m)))
    (pick (eqb (byte_at s at) 0x32) (next (label_at s at) (λ l n. got (Exit.End l) n))
    (fault 2 at))))

abbrev pub is_call : Instruction → Bool
is_call (Instruction.Update change a e) = false
is_call (Instruction.Exchange a b) = false
is_call (Instruction.OpV x) = false
is_call (Instruction.OpP x) = false
is_call (Instruction.Assert e) = false
is_call Instruction.Skip = false
is_call (Instruction.Call n) = true

unfoldable pub exit_at : List ℕ → ℕ → Instruction → Reading Exit
exit_at s at i = pick (is_call i) (call_exit_at s at) (leaf_exit_at s at)

-- ---- blocks
-- a block is an entry, a body and an exit
unfoldable pub block_at : List ℕ → ℕ → Reading Block
block_at s at =
    next (entry_at s at) (λ e n. next (instruction_at s n e)
    (λ i m. next (exit_at s m i) (λ x k. got (record { entry = e; instruction = i; exit = x }) k)))

-- at most n more blocks from an offset on; 5: bytes follow the last
unfoldable pub blocks_at : ℕ → List ℕ → ℕ → Reading (List Block)
blocks_at zero s at = pick (ltb at (length s)) (fault 5 at) (got [] at)
blocks_at (suc n) s at =
    pick (ltb at (length s))
    (next (block_at s at) (λ b m. next (blocks_at n s m) (λ l k. got (b ∷ l) k)))
    (got [] at)

-- a whole image; 1: its length is 0 or over 4,096
unfoldable pub decoded : List ℕ → Reading (List Block)
decoded s = pick (eqb (length s) 0 || ltb longest (length s)) (fault 1 0) (blocks_at most_blocks s 0)
