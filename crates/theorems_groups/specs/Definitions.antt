-- What code 11 asks, in document 01's words: the process block of a block, and its one begin and one end. Definitions only.
use Rattle.std.specs.Prelude.{◌≡◌, ◌<◌, List, ℕ, length}
use Rattle.rules.specs.Labels.{block_of, Joined}
use Rattle.rules.specs.declared.Block.{Block}
use Rattle.rules.specs.declared.Entry.{Entry}
use Rattle.rules.specs.declared.Exit.{Exit}

-- block c of the program is one of block b's process block
pub record InProcessBlock (program : List Block) (b c : ℕ) : Type 0 where
  pub inside : c < length program
  pub joined : Joined program b c

-- What code 11 asks of block b: its process block has exactly one begin and one end, both of one label. (That `bad11`
-- of rules' Labels is false just where this holds is the theorem `eleven` of ProcessBlocks.)
pub record ProcessBlock (program : List Block) (b : ℕ) : Type 0 where
  pub label : ℕ
  -- the block that has the begin, and no other has one, of whatever label
  pub opening : ℕ
  pub opening_in : InProcessBlock program b opening
  pub opening_begins : (block_of program opening).entry ≡ Entry.Begin label
  pub no_other_begins : (c l : ℕ) → InProcessBlock program b c → (block_of program c).entry ≡ Entry.Begin l → c ≡ opening
  -- the block that has the end, and no other has one
  pub closing : ℕ
  pub closing_in : InProcessBlock program b closing
  pub closing_ends : (block_of program closing).exit ≡ Exit.End label
  pub no_other_ends : (c l : ℕ) → InProcessBlock program b c → (block_of program c).exit ≡ Exit.End l → c ≡ closing
