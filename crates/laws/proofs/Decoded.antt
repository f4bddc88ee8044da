-- Every decoded block is fit (specs/Fit), and there are at most 128. Assumes that an image's bytes are below 256.
use mathlib.Core.Path.{◌≡◌, refl, subst}
use mathlib.Core.Bool.{Bool, true, false, ◌&&◌}
use mathlib.Core.List.{List, [], ◌∷◌, map}
use mathlib.Core.Option.{Option, none, some}
use Prim.Native.Nat.{ℕ, zero, suc, ◌+◌, ◌-◌, ◌≤◌, ◌<◌}
use native.Mathlib.Omega.{arith}
use native.Mathlib.Nat.{not-suc-le-zero, le_of_suc-le-suc}
use lib.ListN.{length}
use lib.Dec.{leb, ltb}
use borrow.Author.Tests.{leb-true, leb-false}
use Rattle.rules.specs.Base.{pick, up_from}
use Rattle.rules.specs.Format.{operator_of, byte_at}
use Rattle.rules.specs.Labels.{block_of}
use Rattle.rules.specs.Read.{Reading, got, fault, next, follows, whole, label_at, labels_at, variable_at, constant_at, operand_at, target_at, two_at, expression_at, entry_at, updates_itself, exchanges_itself, update_at, exchange_at, name_at, names_at, call_at, instruction_at, call_exit_at, leaf_exit_at, is_call, exit_at, block_at, blocks_at, decoded}
use Rattle.rules.specs.declared.Operator.{Operator}
use Rattle.rules.specs.declared.Change.{Change}
use Rattle.rules.specs.declared.Instruction.{Instruction}
use Rattle.rules.specs.declared.Entry.{Entry}
use Rattle.rules.specs.declared.Exit.{Exit}
use Rattle.rules.specs.declared.Block.{Block}
use Rattle.laws.specs.Fit.{Bytes, OperandFit, TargetFit, ExpressionFit, EntryFit, ExitFit, NamesFit, InstructionFit, IsFrom, IsTo, BlockFit}
use Rattle.laws.proofs.Tests.{and-true}

-- ---- what is read keeps to it
abbrev Holds : {A : Type 0} → (A → Type 0) → Reading A → Type 0
Holds P (got a at) = P a
Holds P (fault code place) = Unit {0}

module _ {A : Type 0} (P : A → Type 0) where
  pick-holds : (b : Bool) (x y : Reading A) → (b ≡ true → Holds P x) → (b ≡ false → Holds P y) → Holds P (pick b x y)
  unfolding pick
  pick-holds true x y f g = f refl
  pick-holds false x y f g = g refl

  follows-holds : (s : List ℕ) (at : ℕ) (r : Reading A) → Holds P r → Holds P (follows s at r)
  unfolding follows
  follows-holds s at r h = pick-holds _ _ _ (λ _. tt) (λ _. h)

  whole-holds : (s : List ℕ) (at n : ℕ) (r : Reading A) → Holds P r → Holds P (whole s at n r)
  unfolding whole
  whole-holds s at n r h = pick-holds _ _ _ (λ _. tt) (λ _. h)

module _ {A B : Type 0} (P : A → Type 0) (Q : B → Type 0) where
  next-holds : (r : Reading A) (f : A → ℕ → Reading B) → Holds P r → ((a : A) (n : ℕ) → P a → Holds Q (f a n)) → Holds Q (next r f)
  unfolding next
  next-holds (got a at) f h g = g a at h
  next-holds (fault code place) f h g = tt

module _ (s : List ℕ) (bytes : Bytes s) where
  abbrev Label : ℕ → Type 0
  Label l = l < 256

  abbrev Variable : ℕ → Type 0
  Variable x = x < 32

  label-fit : (at : ℕ) → Holds Label (label_at s at)
  unfolding label_at
  label-fit at = whole-holds Label s at 1 _ (bytes (at + 1))

  abbrev Labels : ℕ × ℕ → Type 0
  Labels l = (l.0 < 256) × (l.1 < 256)

  labels-fit : (at : ℕ) → Holds Labels (labels_at s at)
  unfolding labels_at
  labels-fit at = whole-holds Labels s at 2 _ (pick-holds Labels _ _ _ (λ _. tt) (λ _. (bytes (at + 1), bytes (at + 2))))

  variable-fit : (at : ℕ) → Holds Variable (variable_at s at)
  unfolding variable_at
  variable-fit at = whole-holds Variable s at 1 _ (pick-holds Variable _ _ _ (λ _. tt) (λ h. leb-false 32 (byte_at s (at + 1)) h))

  constant_fit : (at : ℕ) → Holds OperandFit (constant_at s at)
  unfolding constant_at
  constant_fit at =
      whole-holds OperandFit s at 4 _
      (let a : byte_at s (at + 1) < 256 = bytes (at + 1) in
      let b : byte_at s (at + 1 + 1) < 256 = bytes (at + 1 + 1) in
      let c : byte_at s (at + 1 + 2) < 256 = bytes (at + 1 + 2) in
      let d : byte_at s (at + 1 + 3) < 256 = bytes (at + 1 + 3) in
      omega arith)

  operand_fit : (at : ℕ) → Holds OperandFit (operand_at s at)
  unfolding operand_at
  operand_fit at =
      follows-holds OperandFit s at _
      (pick-holds OperandFit _ _ _ (λ _. constant_fit at)
      (λ _. pick-holds OperandFit _ _ _ (λ _. next-holds Variable OperandFit _ _ (variable-fit at) (λ x n h. h))
      (λ _. pick-holds OperandFit _ _ _ (λ _. next-holds Variable OperandFit _ _ (variable-fit at) (λ x n h. h)) (λ _. tt))))

  target-fit : (at : ℕ) → Holds TargetFit (target_at s at)
  unfolding target_at
  target-fit at =
      follows-holds TargetFit s at _
      (pick-holds TargetFit _ _ _ (λ _. next-holds Variable TargetFit _ _ (variable-fit at) (λ x n h. h))
      (λ _. pick-holds TargetFit _ _ _ (λ _. next-holds Variable TargetFit _ _ (variable-fit at) (λ x n h. h)) (λ _. tt)))

  two-fit : (at : ℕ) (o : Option Operator) → Holds ExpressionFit (two_at s at o)
  unfolding two_at
  two-fit at none = tt
  two-fit at (some operator) =
      next-holds OperandFit ExpressionFit _ _ (operand_fit (at + 1))
      (λ a n h. next-holds OperandFit ExpressionFit _ _ (operand_fit n) (λ b m k. (h, k)))

  expression-fit : (at : ℕ) → Holds ExpressionFit (expression_at s at)
  unfolding expression_at
  expression-fit at =
      follows-holds ExpressionFit s at _
      (pick-holds ExpressionFit _ _ _ (λ _. next-holds OperandFit ExpressionFit _ _ (operand_fit (at + 1)) (λ a n h. h))
      (λ _. pick-holds ExpressionFit _ _ _ (λ _. next-holds OperandFit ExpressionFit _ _ (operand_fit (at + 1)) (λ a n h. h))
      (λ _. two-fit at (operator_of (byte_at s at)))))

  entry-fit : (at : ℕ) → Holds EntryFit (entry_at s at)
  unfolding entry_at
  entry-fit at =
      follows-holds EntryFit s at _
      (pick-holds EntryFit _ _ _ (λ _. next-holds Label EntryFit _ _ (label-fit at) (λ l n h. h))
      (λ _. pick-holds EntryFit _ _ _
      (λ _. next-holds Labels EntryFit _ _ (labels-fit at) (λ l n h. next-holds ExpressionFit EntryFit _ _ (expression-fit n) (λ e m k. (h.0, h.1, k))))
      (λ _. pick-holds EntryFit _ _ _ (λ _. next-holds Label EntryFit _ _ (label-fit at) (λ l n h. h)) (λ _. tt))))

  name-fit : (at n i : ℕ) → name_at s at n i < 256
  unfolding name_at pick
  name-fit at n i = go (ltb i n)
    where
      go : (b : Bool) → pick b (byte_at s (at + 1 + i)) 0 < 256
      go true = bytes (at + 1 + i)
      go false = omega arith

  names-fit : (at n : ℕ) → 1 ≤ n → n ≤ 8 → NamesFit (names_at s at n)
  unfolding names_at up_from
  names-fit at n h k = record { some = h; few = k; eight = refl; bytes = all (up_from 0 8) }
    where
      all : (l : List ℕ) → Bytes (map (name_at s at n) l)
      all [] i = omega arith
      all (x ∷ l) zero = name-fit at n x
      all (x ∷ l) (suc i) = all l i

  -- an instruction that follows an entry: fit, and a call only after a plain entry
  abbrev After : Entry → Instruction → Type 0
  After e i = InstructionFit i × (is_call i ≡ true → IsFrom e)

  no_call : (e : Entry) (i : Instruction) → is_call i ≡ false → InstructionFit i → After e i
  no_call e i n f = (f, λ h. absurd (let z : ◌≡◌ {A = ℕ} 0 1 = cc in omega arith))

  call-fit : (at : ℕ) (e : Entry) (n : ℕ) → 1 ≤ n → n ≤ 8 → Holds (After e) (call_at s at e n)
  unfolding call_at
  call-fit at (Entry.From l) n h k = whole-holds (After (Entry.From l)) s at n _ (names-fit at n h k, λ _. tt)
  call-fit at (Entry.Either l m e) n h k = whole-holds (After (Entry.Either l m e)) s at n _ tt
  call-fit at (Entry.Begin l) n h k = whole-holds (After (Entry.Begin l)) s at n _ tt

  update-after : (e : Entry) (at : ℕ) (change : Change) → Holds (After e) (update_at s at change)
  unfolding update_at
  update-after e at change =
      next-holds TargetFit (After e) _ _ (target-fit (at + 1))
      (λ a n h. next-holds ExpressionFit (After e) _ _ (expression-fit n)
      (λ x m k. pick-holds (After e) (updates_itself a x) _ _ (λ _. tt) (λ q. no_call e (Instruction.Update change a x) refl (h, k, q))))

  exchange-after : (e : Entry) (at : ℕ) → Holds (After e) (exchange_at s at)
  unfolding exchange_at
  exchange-after e at =
      next-holds TargetFit (After e) _ _ (target-fit (at + 1))
      (λ a n h. next-holds TargetFit (After e) _ _ (target-fit n)
      (λ b m k. pick-holds (After e) (exchanges_itself a b) _ _ (λ _. tt) (λ q. no_call e (Instruction.Exchange a b) refl (h, k, q))))

  instruction-fit : (at : ℕ) (e : Entry) → Holds (After e) (instruction_at s at e)
  unfolding instruction_at
  instruction-fit at e =
      let P : Instruction → Type 0 = After e in
      follows-holds P s at _
      (pick-holds P _ _ _ (λ _. update-after e at Change.Add)
      (λ _. pick-holds P _ _ _ (λ _. update-after e at Change.Subtract)
      (λ _. pick-holds P _ _ _ (λ _. update-after e at Change.Xor)
      (λ _. pick-holds P _ _ _ (λ _. exchange-after e at)
      (λ _. pick-holds P _ _ _ (λ _. next-holds Variable P _ _ (variable-fit at) (λ x n h. no_call e (Instruction.OpV x) refl h))
      (λ _. pick-holds P _ _ _ (λ _. next-holds Variable P _ _ (variable-fit at) (λ x n h. no_call e (Instruction.OpP x) refl h))
      (λ _. pick-holds P _ _ _ (λ _. next-holds ExpressionFit P _ _ (expression-fit (at + 1)) (λ x n h. no_call e (Instruction.Assert x) refl h))
      (λ _. pick-holds P _ _ _ (λ _. no_call e Instruction.Skip refl tt)
      (λ _. pick-holds P (leb 0x51 (byte_at s at) && leb (byte_at s at) 0x58) _ _ (λ h. counted at e h) (λ _. tt))))))))))
    where
      counted : (at : ℕ) (e : Entry) → (leb 0x51 (byte_at s at) && leb (byte_at s at) 0x58) ≡ true → Holds (After e) (call_at s at e (byte_at s at - 0x50))
      counted at e h =
          let q = and-true (leb 0x51 (byte_at s at)) (leb (byte_at s at) 0x58) h in
          let lo : 0x51 ≤ byte_at s at = leb-true _ _ q.0 in
          let hi : byte_at s at ≤ 0x58 = leb-true _ _ q.1 in
          call-fit at e (byte_at s at - 0x50) (omega arith) (omega arith)

  -- an exit that follows an instruction: fit, and plain after a call
  abbrev Last : Instruction → Exit → Type 0
  Last i x = ExitFit x × (is_call i ≡ true → IsTo x)

  call-exit_fit : (at : ℕ) (i : Instruction) → Holds (Last i) (call_exit_at s at)
  unfolding call_exit_at
  call-exit_fit at i =
      let P : Exit → Type 0 = Last i in
      follows-holds P s at _
      (pick-holds P _ _ _ (λ _. next-holds Label P _ _ (label-fit at) (λ l n h. (h, λ _. tt)))
      (λ _. pick-holds P _ _ _ (λ _. next-holds Labels P _ _ (labels-fit at) (λ l n h. tt))
      (λ _. pick-holds P _ _ _ (λ _. next-holds Label P _ _ (label-fit at) (λ l n h. tt)) (λ _. tt))))

  leaf-exit_fit : (at : ℕ) → Holds ExitFit (leaf_exit_at s at)
  unfolding leaf_exit_at
  leaf-exit_fit at =
      follows-holds ExitFit s at _
      (pick-holds ExitFit _ _ _ (λ _. next-holds Label ExitFit _ _ (label-fit at) (λ l n h. h))
      (λ _. pick-holds ExitFit _ _ _
      (λ _. next-holds Labels ExitFit _ _ (labels-fit at) (λ l n h. next-holds ExpressionFit ExitFit _ _ (expression-fit n) (λ e m k. (h.0, h.1, k))))
      (λ _. pick-holds ExitFit _ _ _ (λ _. next-holds Label ExitFit _ _ (label-fit at) (λ l n h. h)) (λ _. tt))))

  weaken : (i : Instruction) (r : Reading Exit) → is_call i ≡ false → Holds ExitFit r → Holds (Last i) r
  weaken i (got x n) c h = (h, λ q. absurd (let z : ◌≡◌ {A = ℕ} 0 1 = cc in omega arith))
  weaken i (fault code place) c h = tt

  exit-fit : (at : ℕ) (i : Instruction) → Holds (Last i) (exit_at s at i)
  unfolding exit_at
  exit-fit at i = pick-holds (Last i) (is_call i) _ _ (λ _. call-exit_fit at i) (λ c. weaken i (leaf_exit_at s at) c (leaf-exit_fit at))

  block_fit : (at : ℕ) → Holds BlockFit (block_at s at)
  unfolding block_at
  block_fit at =
      next-holds EntryFit BlockFit _ _ (entry-fit at)
      (λ e n h. next-holds (After e) BlockFit _ _ (instruction-fit n e)
      (λ i m k. next-holds (Last i) BlockFit _ _ (exit-fit m i)
      (λ x q l. record { entry = h; instruction = k.0; exit = l.0; from = k.1; to = l.1 })))

  -- every block of the list
  abbrev AllFit : List Block → Type 0
  AllFit [] = Unit {0}
  AllFit (b ∷ l) = BlockFit b × AllFit l

  blocks-fit : (n at : ℕ) → Holds AllFit (blocks_at n s at)
  unfolding blocks_at
  blocks-fit zero at = pick-holds AllFit _ _ _ (λ _. tt) (λ _. tt)
  blocks-fit (suc n) at =
      pick-holds AllFit _ _ _
      (λ _. next-holds BlockFit AllFit _ _ (block_fit at) (λ b m h. next-holds AllFit AllFit _ _ (blocks-fit n m) (λ l k q. (h, q)))) (λ _. tt)

  decoded-fit : Holds AllFit (decoded s)
  unfolding decoded
  decoded-fit = pick-holds AllFit _ _ _ (λ _. tt) (λ _. blocks-fit 128 0)

  fit_at : (l : List Block) → AllFit l → (b : ℕ) → b < length l → BlockFit (block_of l b)
  fit_at [] f b h = absurd (not-suc-le-zero h)
  fit_at (x ∷ l) f zero h = f.0
  fit_at (x ∷ l) f (suc b) h = fit_at l f.1 b (le_of_suc-le-suc h)

  -- each block of a decoded image is fit
  pub fit : (program : List Block) (at : ℕ) → decoded s ≡ got program at → (b : ℕ) → b < length program → BlockFit (block_of program b)
  fit program at e = fit_at program (subst (Holds AllFit) e decoded-fit)

few-blocks : (n : ℕ) (s : List ℕ) (at : ℕ) → Holds (λ (l : List Block). length l ≤ n) (blocks_at n s at)
unfolding blocks_at
few-blocks zero s at = pick-holds (λ (l : List Block). length l ≤ zero) _ _ _ (λ _. tt) (λ _. omega arith)
few-blocks (suc n) s at =
    pick-holds (λ (l : List Block). length l ≤ suc n) _ _ _
    (λ _. next-holds (λ (b : Block). Unit {0}) (λ (l : List Block). length l ≤ suc n) _ _ (any (block_at s at))
    (λ b m h. next-holds (λ (l : List Block). length l ≤ n) (λ (l : List Block). length l ≤ suc n) _ _ (few-blocks n s m) (λ l k q. omega arith)))
    (λ _. omega arith)
  where
    any : {A : Type 0} (r : Reading A) → Holds (λ (a : A). Unit {0}) r
    any (got a at) = tt
    any (fault code place) = tt

-- a decoded image has at most 128 blocks
pub few : (s : List ℕ) (program : List Block) (at : ℕ) → decoded s ≡ got program at → length program ≤ 128
unfolding decoded
few s program at e =
    subst (Holds (λ (l : List Block). length l ≤ 128)) e (pick-holds (λ (l : List Block). length l ≤ 128) _ _ _ (λ _. tt) (λ _. few-blocks 128 s 0))
