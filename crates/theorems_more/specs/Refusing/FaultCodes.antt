-- The codes of judging are 1 to 15: a fault met as an image is read is 1 to 8, what is refused after it 9 to 15. So judging answers 0 only of
-- an image that decodes and passes all of 9 to 15. Assumes nothing.
use Rattle.std.specs.Prelude.{◌≡◌, refl, Bool, ◌||◌, length, eqb, ltb}
use Rattle.std.proofs.Common.{sym, ◌∙◌, subst}
use Rattle.std.proofs.Math.Path.{ap}
use Rattle.std.proofs.Math.Bool.{true, false}
use mathlib.Core.List.{List, []}
use Rattle.std.proofs.Math.Option.{Option, none, some}
use Prim.Native.Nat.{ℕ, zero, suc, ◌+◌, ◌-◌, ◌≤◌}
use native.Mathlib.Omega.{arith}
use Rattle.rules.specs.Base.{pick, lowest}
use Rattle.rules.specs.Format.{longest, operator_of, byte_at, most_blocks}
use Rattle.rules.specs.Calls.{peak}
use Rattle.rules.specs.Judge.{at_lowest, judged_blocks, judged_reading, judgement, numbers}
use Rattle.rules.specs.Read.{Reading, got, fault, next, follows, whole, label_at, labels_at, variable_at, constant_at, operand_at}
use Rattle.rules.specs.Read.{target_at, two_at, expression_at, entry_at, update_at, exchange_at, call_at, instruction_at, call_exit_at}
use Rattle.rules.specs.Read.{leaf_exit_at, is_call, exit_at, block_at, blocks_at, decoded}
use Rattle.rules.specs.Words.{Outcome, judged_then, read_then, on_image}
use Rattle.rules.specs.declared.Operator.{Operator}
use Rattle.rules.specs.declared.Change.{Change}
use Rattle.rules.specs.declared.Instruction.{Instruction}
use Rattle.rules.specs.declared.Entry.{Entry}
use Rattle.rules.specs.declared.Block.{Block}
use Rattle.rules.specs.Judgement.{Judgement}
use Rattle.rules.specs.RefusalTable.{blocks_read, program_in}

-- a fault's code is from 1 to 8
abbrev pub Early : {A : Type 0} → Reading A → Type 0
Early (got a at) = Unit {0}
Early (fault code place) = (1 ≤ code) × (code ≤ 8)

module _ {A : Type 0} where
  early_pick : (b : Bool) (x y : Reading A) → Early x → Early y → Early (pick b x y)
  unfolding pick
  early_pick true x y f g = f
  early_pick false x y f g = g

  early_follows : (s : List ℕ) (at : ℕ) (r : Reading A) → Early r → Early (follows s at r)
  unfolding follows
  early_follows s at r h = early_pick _ (fault 3 (length s)) r (omega arith, omega arith) h

  early_whole : (s : List ℕ) (at n : ℕ) (r : Reading A) → Early r → Early (whole s at n r)
  unfolding whole
  early_whole s at n r h = early_pick _ (fault 3 at) r (omega arith, omega arith) h

module _ {A B : Type 0} where
  early_next : (r : Reading A) (f : A → ℕ → Reading B) → Early r → ((a : A) (n : ℕ) → Early (f a n)) → Early (next r f)
  unfolding next
  early_next (got a at) f h g = g a at
  early_next (fault code place) f h g = h

module _ (s : List ℕ) where
  label-early : (at : ℕ) → Early (label_at s at)
  unfolding label_at
  label-early at = early_whole s at 1 _ tt

  labels-early : (at : ℕ) → Early (labels_at s at)
  unfolding labels_at
  labels-early at = early_whole s at 2 _ (early_pick _ (fault 6 at) _ (omega arith, omega arith) tt)

  variable-early : (at : ℕ) → Early (variable_at s at)
  unfolding variable_at
  variable-early at = early_whole s at 1 _ (early_pick _ (fault 4 at) _ (omega arith, omega arith) tt)

  constant_early : (at : ℕ) → Early (constant_at s at)
  unfolding constant_at
  constant_early at = early_whole s at 4 _ tt

  operand-early : (at : ℕ) → Early (operand_at s at)
  unfolding operand_at
  operand-early at =
      early_follows s at _
      (early_pick _ _ _ (constant_early at)
      (early_pick _ _ _ (early_next (variable_at s at) _ (variable-early at) (λ x n. tt))
      (early_pick _ _ (fault 2 at) (early_next (variable_at s at) _ (variable-early at) (λ x n. tt)) (omega arith, omega arith))))

  target-early : (at : ℕ) → Early (target_at s at)
  unfolding target_at
  target-early at =
      early_follows s at _
      (early_pick _ _ _ (early_next (variable_at s at) _ (variable-early at) (λ x n. tt))
      (early_pick _ _ (fault 2 at) (early_next (variable_at s at) _ (variable-early at) (λ x n. tt)) (omega arith, omega arith)))

  two-early : (at : ℕ) (o : Option Operator) → Early (two_at s at o)
  unfolding two_at
  two-early at none = (omega arith, omega arith)
  two-early at (some operator) =
      early_next (operand_at s (at + 1)) _ (operand-early (at + 1)) (λ a n. early_next (operand_at s n) _ (operand-early n) (λ b m. tt))

  expression-early : (at : ℕ) → Early (expression_at s at)
  unfolding expression_at
  expression-early at =
      early_follows s at _
      (early_pick _ _ _ (early_next (operand_at s (at + 1)) _ (operand-early (at + 1)) (λ a n. tt))
      (early_pick _ _ _ (early_next (operand_at s (at + 1)) _ (operand-early (at + 1)) (λ a n. tt)) (two-early at (operator_of (byte_at s at)))))

  entry-early : (at : ℕ) → Early (entry_at s at)
  unfolding entry_at
  entry-early at =
      early_follows s at _
      (early_pick _ _ _ (early_next (label_at s at) _ (label-early at) (λ l n. tt))
      (early_pick _ _ _ (early_next (labels_at s at) _ (labels-early at) (λ l n. early_next (expression_at s n) _ (expression-early n) (λ e m. tt)))
      (early_pick _ _ (fault 2 at) (early_next (label_at s at) _ (label-early at) (λ l n. tt)) (omega arith, omega arith))))

  update-early : (at : ℕ) (change : Change) → Early (update_at s at change)
  unfolding update_at
  update-early at change =
      early_next (target_at s (at + 1)) _ (target-early (at + 1))
      (λ a n. early_next (expression_at s n) _ (expression-early n) (λ e m. early_pick _ (fault 7 at) _ (omega arith, omega arith) tt))

  exchange-early : (at : ℕ) → Early (exchange_at s at)
  unfolding exchange_at
  exchange-early at =
      early_next (target_at s (at + 1)) _ (target-early (at + 1))
      (λ a n. early_next (target_at s n) _ (target-early n) (λ b m. early_pick _ (fault 7 at) _ (omega arith, omega arith) tt))

  call-early : (at : ℕ) (e : Entry) (n : ℕ) → Early (call_at s at e n)
  unfolding call_at
  call-early at (Entry.From l) n = early_whole s at n _ tt
  call-early at (Entry.Either l m e) n = early_whole s at n (fault 8 at) (omega arith, omega arith)
  call-early at (Entry.Begin l) n = early_whole s at n (fault 8 at) (omega arith, omega arith)

  instruction-early : (at : ℕ) (e : Entry) → Early (instruction_at s at e)
  unfolding instruction_at
  instruction-early at e =
      early_follows s at _
      (early_pick _ _ _ (update-early at Change.Add)
      (early_pick _ _ _ (update-early at Change.Subtract)
      (early_pick _ _ _ (update-early at Change.Xor)
      (early_pick _ _ _ (exchange-early at)
      (early_pick _ _ _ (early_next (variable_at s at) _ (variable-early at) (λ x n. tt))
      (early_pick _ _ _ (early_next (variable_at s at) _ (variable-early at) (λ x n. tt))
      (early_pick _ _ _ (early_next (expression_at s (at + 1)) _ (expression-early (at + 1)) (λ e n. tt))
      (early_pick _ (got Instruction.Skip (at + 1)) _ tt
      (early_pick _ _ (fault 2 at) (call-early at e (byte_at s at - 0x50)) (omega arith, omega arith))))))))))

  call-exit_early : (at : ℕ) → Early (call_exit_at s at)
  unfolding call_exit_at
  call-exit_early at =
      early_follows s at _
      (early_pick _ _ _ (early_next (label_at s at) _ (label-early at) (λ l n. tt))
      (early_pick _ _ _ (early_next (labels_at s at) _ (labels-early at) (λ l n. (omega arith, omega arith)))
      (early_pick _ _ (fault 2 at) (early_next (label_at s at) _ (label-early at) (λ l n. (omega arith, omega arith))) (omega arith, omega arith))))

  leaf-exit_early : (at : ℕ) → Early (leaf_exit_at s at)
  unfolding leaf_exit_at
  leaf-exit_early at =
      early_follows s at _
      (early_pick _ _ _ (early_next (label_at s at) _ (label-early at) (λ l n. tt))
      (early_pick _ _ _ (early_next (labels_at s at) _ (labels-early at) (λ l n. early_next (expression_at s n) _ (expression-early n) (λ e m. tt)))
      (early_pick _ _ (fault 2 at) (early_next (label_at s at) _ (label-early at) (λ l n. tt)) (omega arith, omega arith))))

  block-early : (at : ℕ) → Early (block_at s at)
  unfolding block_at exit_at
  block-early at =
      early_next (entry_at s at) _ (entry-early at)
      (λ e n. early_next (instruction_at s n e) _ (instruction-early n e)
      (λ i m. early_next (exit_at s m i) _
      (early_pick (is_call i) (call_exit_at s m) (leaf_exit_at s m) (call-exit_early m) (leaf-exit_early m)) (λ x k. tt)))

  pub blocks-early : (n at : ℕ) → Early (blocks_at n s at)
  unfolding blocks_at
  blocks-early zero at = early_pick _ (fault 5 at) (got [] at) (omega arith, omega arith) tt
  blocks-early (suc n) at =
      early_pick _ _ (got [] at)
      (early_next (block_at s at) _ (block-early at) (λ b m. early_next (blocks_at n s m) _ (blocks-early n m) (λ l k. tt))) tt

  -- A fault met as the image is read has a code from 1 to 8.
  pub decoded-early : Early (decoded s)
  unfolding decoded
  decoded-early = early_pick _ (fault 1 0) (blocks_at most_blocks s 0) (omega arith, omega arith) (blocks-early most_blocks 0)

-- ---- after it
abbrev pub NineOn : Judgement → Type 0
NineOn (Judgement.Refused code place) = (9 ≤ code) × (code ≤ 15)
NineOn (Judgement.Accepted blocks peak) = Unit {0}

pick-on : (b : Bool) (x y : Judgement) → NineOn x → NineOn y → NineOn (pick b x y)
unfolding pick
pick-on true x y f g = f
pick-on false x y f g = g

lowest-on : (code : ℕ) (bad : ℕ → Bool) (n : ℕ) (rest : Judgement) → 9 ≤ code → code ≤ 15 → NineOn rest → NineOn (at_lowest code bad n rest)
unfolding at_lowest
lowest-on code bad n rest lo hi h = pick-on _ (Judgement.Refused code (lowest bad n)) rest (lo, hi) h

-- What is refused after the reading has a code from 9 to 15.
pub judged-on : (program : List Block) → NineOn (judged_blocks program)
unfolding judged_blocks
judged-on program =
    lowest-on 9 _ _ _ (omega arith) (omega arith)
    (lowest-on 10 _ _ _ (omega arith) (omega arith)
    (lowest-on 11 _ _ _ (omega arith) (omega arith)
    (lowest-on 12 _ _ _ (omega arith) (omega arith)
    (pick-on _ (Judgement.Refused 13 0) _ (omega arith, omega arith)
    (lowest-on 14 _ _ _ (omega arith) (omega arith)
    (pick-on _ (Judgement.Refused 15 0) _ (omega arith, omega arith) tt))))))

-- ---- an accepted image
-- it decodes to the blocks that are read of it (RefusalTable), and they pass 9 to 15
pub record Judged (image : List ℕ) : Type 0 where
  pub past : ℕ
  pub decodes : decoded image ≡ got (program_in image) past
  pub blocks : ℕ
  pub peak : ℕ
  pub accepts : judged_blocks (program_in image) ≡ Judgement.Accepted blocks peak

abbrev IsGot : Reading (List Block) → Type 0
IsGot (got program at) = Unit {0}
IsGot (fault code place) = ⊥

-- what is decoded is what is read
pub read_is : (image : List ℕ) (program : List Block) (past : ℕ) → decoded image ≡ got program past → program ≡ program_in image
unfolding decoded pick
read_is image program past e = go (eqb (length image) 0 || ltb longest (length image)) e
  where
    go : (t : Bool) → pick t (fault 1 0) (blocks_at most_blocks image 0) ≡ got program past → program ≡ program_in image
    go true e = absurd (subst IsGot (sym e) tt)
    go false e = sym (ap blocks_read e)

-- An image of which judging answers 0 decodes, and its blocks pass 9 to 15.
pub accepted-image : (image : List ℕ) → (numbers (judgement image)).code ≡ 0 → Judged image
unfolding judgement judged_reading
accepted-image image e = reading (decoded image) refl (decoded-early image) e
  where
    judging :
        (program : List Block) (past : ℕ) → decoded image ≡ got program past → (j : Judgement) → judged_blocks program ≡ j → NineOn j →
        (numbers j).code ≡ 0 → Judged image
    judging program past d (Judgement.Refused code place) is on e = absurd (let lo = on.0 in omega (arith, lo, e))
    judging program past d (Judgement.Accepted blocks peak) is on e =
        let same = read_is image program past d in
        record {
          past = past;
          decodes = d ∙ ap (λ (q : List Block). got q past) same;
          blocks = blocks;
          peak = peak;
          accepts = ap judged_blocks (sym same) ∙ is;
        }

    reading : (r : Reading (List Block)) → decoded image ≡ r → Early r → (numbers (judged_reading r)).code ≡ 0 → Judged image
    reading (fault code place) d early e = absurd (let lo = early.0 in omega (arith, lo, e))
    reading (got program past) d early e = judging program past d (judged_blocks program) refl (judged-on program) e

-- The codes of judging are past: a call on it is what comes after them.
module _ {Lent : Type 0} where
  pub on_accepted : (image : List ℕ) (j : Judged image) (lent : Lent) (f : List Block → Outcome Lent) → on_image image lent f ≡ f (program_in image)
  unfolding on_image
  on_accepted image j lent f = ap (λ r. read_then r lent f) j.decodes ∙ ap (λ k. judged_then k lent (f (program_in image))) j.accepts
