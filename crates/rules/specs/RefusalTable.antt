-- Document 01's tables of refusals as data, in its order: each row has a code and says whether it is given. What a call answers is the code of the
-- first row that is given, 0 where none is; that is the theorem `answers` of FirstGiven (crate theorems_more). Definitions only.
use Rattle.std.specs.Prelude.{Bool, true, false, not, ◌&&◌, ◌||◌, List, [], ◌∷◌, ◌++◌, ◌≡◌, ℕ, ◌<◌, length, eqb, leb, ltb}
use Rattle.std.proofs.Math.Option.{Option, none, some}
use Rattle.rules.specs.Base.{pick, some_below}
use Rattle.rules.specs.Format.{longest, most_blocks}
use Rattle.rules.specs.Read.{Reading, got, fault, blocks_at, is_call}
use Rattle.rules.specs.Labels.{block_of, called, bad9, bad10, bad11, bad12}
use Rattle.rules.specs.Calls.{calling_of, bad13, bad14, bad15, most_rows}
use Rattle.rules.specs.Machine.{Machine, begin, end, place, standing, children, memory_words, machine_words, most_kept, view}
use Rattle.rules.specs.Fits.{fits, is_live, entry_block, exit_block}
use Rattle.rules.specs.Cause.{holds}
use Rattle.rules.specs.Leaf.{Tried, made, refused, entry_place, exit_place, leaf_forward, leaf_undo}
use Rattle.rules.specs.Step.{waits, crowded}
use Rattle.rules.specs.Words.{words_of, has_words}
use Rattle.rules.specs.declared.Block.{Block}
use Rattle.rules.specs.declared.Place.{Place}
use Rattle.rules.specs.declared.Row.{Row}

-- a row of a table: the code, and whether it is given
pub record Refusal : Type 0 where
  pub code : ℕ
  pub given : Bool

abbrev pub row : ℕ → Bool → Refusal
row code given = record { code = code; given = given }

-- the first row that is given, 0 where none is
unfoldable pub first_given : List Refusal → ℕ
first_given [] = 0
first_given (r ∷ rows) = pick r.given r.code (first_given rows)

-- ---- judging
-- the fault that is met first as the blocks are read, 2 to 8
abbrev pub fault_code : Reading (List Block) → ℕ
fault_code (got program at) = 0
fault_code (fault code place) = code

abbrev pub is_fault : Reading (List Block) → Bool
is_fault (got program at) = false
is_fault (fault code place) = true

-- the blocks read, none where there is a fault
abbrev pub blocks_read : Reading (List Block) → List Block
blocks_read (got program at) = program
blocks_read (fault code place) = []

abbrev pub program_in : List ℕ → List Block
program_in image = blocks_read (blocks_at most_blocks image 0)

-- some block of the image is bad
abbrev pub any_block : List Block → (ℕ → Bool) → Bool
any_block program bad = some_below bad (length program)

unfoldable pub nine_on : List Block → List Refusal
nine_on program =
    row 9 (any_block program (λ b. bad9 program (block_of program b)))
    ∷ row 10 (any_block program (λ b. bad10 program (block_of program b)))
    ∷ row 11 (any_block program (bad11 program))
    ∷ row 12 (any_block program (λ b. bad12 program (block_of program b)))
    ∷ row 13 (bad13 program)
    ∷ row 14 (any_block program (bad14 (calling_of program)))
    ∷ row 15 (bad15 (calling_of program))
    ∷ []

unfoldable pub judging : List ℕ → List Refusal
judging image =
    row 1 (eqb (length image) 0 || ltb longest (length image))
    ∷ row (fault_code (blocks_at most_blocks image 0)) (is_fault (blocks_at most_blocks image 0))
    ∷ nine_on (program_in image)

-- "with the lowest block number as place"
pub record IsLowest (bad : ℕ → Bool) (n place : ℕ) : Type 0 where
  pub inside : place < n
  pub itself : bad place ≡ true
  pub none_lower : (b : ℕ) → b < place → bad b ≡ false

-- the place that goes with a code from 9 on
pub data PlaceOf (program : List Block) : ℕ → ℕ → Type 0 where
  nine : {place : ℕ} → IsLowest (λ b. bad9 program (block_of program b)) (length program) place → PlaceOf program 9 place
  ten : {place : ℕ} → IsLowest (λ b. bad10 program (block_of program b)) (length program) place → PlaceOf program 10 place
  eleven : {place : ℕ} → IsLowest (bad11 program) (length program) place → PlaceOf program 11 place
  twelve : {place : ℕ} → IsLowest (λ b. bad12 program (block_of program b)) (length program) place → PlaceOf program 12 place
  thirteen : PlaceOf program 13 0
  fourteen : {place : ℕ} → IsLowest (bad14 (calling_of program)) (length program) place → PlaceOf program 14 place
  fifteen : PlaceOf program 15 0

-- ---- starting: 16 alone
unfoldable pub starting : List ℕ → Bool → List Refusal
starting image lengths = judging image ++ row 16 (not lengths) ∷ []

-- ---- the list: 16, 17
unfoldable pub listing : List ℕ → Bool → List ℕ → List Refusal
listing image lengths words = judging image ++ row 16 (not lengths) ∷ row 17 (not (fits (program_in image) words)) ∷ []

-- ---- stepping
-- where a process stands, if it is live
abbrev pub placed : Option Place → Place
placed none = place 0 0
placed (some here) = here

-- what an evaluation, or a leaf, is refused with, if it is
module _ {A : Type 0} where
  abbrev pub refusal_in : Tried A → Option ℕ
  refusal_in (made a) = none
  refusal_in (refused code) = some code

abbrev pub is_met : Option ℕ → Bool
is_met none = false
is_met (some code) = true

abbrev pub met_code : Option ℕ → ℕ
met_code none = 0
met_code (some code) = code

module _ (program : List Block) (m : Machine) (p : ℕ) (here : Place) (ahead : Bool) where
  -- the block whose entry holds the place, on an undo the one whose exit does
  abbrev pub number : ℕ
  number = pick ahead (entry_block program here) (exit_block program here)

  abbrev pub block : Block
  block = block_of program number

  abbrev pub has_none : Bool
  has_none = eqb (length (children m.rows p)) 0

  abbrev pub calling : Bool
  calling = is_call block.instruction

  -- 25, 22, 23 or 24, the first met by a leaf's step, or by the place after a fork or before it (these meet none on an accepted image and a
  -- machine that
  -- fits it: `only-leaves_ahead` and `only-leaves_back` of OnlyLeavesMeet)
  unfoldable pub met_ahead : Option ℕ
  met_ahead = pick has_none (pick calling (refusal_in (exit_place m.memory block.exit)) (refusal_in (leaf_forward m.memory here block))) none

  unfoldable pub met_back : Option ℕ
  met_back = pick has_none (pick calling none (refusal_in (leaf_undo m.memory here block))) (refusal_in (entry_place m.memory block.entry))

  unfoldable pub trying : List Refusal
  trying =
      row 21 (eqb here.stage (pick ahead end begin))
      ∷ row 20 (waits m p (pick ahead end begin))
      ∷ row 26 (ahead && leb most_kept (length m.history))
      ∷ row 27 (not ahead && holds program m.history p)
      ∷ row 28 (has_none && (calling && crowded m (called program number)))
      ∷ row (met_code (pick ahead met_ahead met_back)) (is_met (pick ahead met_ahead met_back))
      ∷ []

unfoldable pub stepping : List ℕ → Bool → List ℕ → ℕ → ℕ → List Refusal
stepping image lengths words p direction =
    judging image
    ++ row 16 (not lengths)
    ∷ row 17 (not (fits (program_in image) words))
    ∷ row 19 (ltb 1 direction)
    ∷ row 18 (not (is_live (standing (view words).rows p)))
    ∷ trying (program_in image) (view words) p (placed (standing (view words).rows p)) (eqb direction 0)

-- ---- the calls
abbrev pub start_table : List ℕ → List ℕ → List ℕ → List Refusal
start_table image first words = starting image (eqb (length first) memory_words && eqb (length words) machine_words)

abbrev pub step_table : List ℕ → List ℕ → ℕ → ℕ → List Refusal
step_table image words p direction = stepping image (eqb (length words) machine_words) words p direction

abbrev pub list_table : List ℕ → List ℕ → List Row → List Refusal
list_table image words rows = listing image (eqb (length words) machine_words && eqb (length rows) most_rows) words

-- on bytes, four a word
abbrev pub start_bytes_table : List ℕ → List ℕ → List ℕ → List Refusal
start_bytes_table image first bytes = starting image (has_words first memory_words && has_words bytes machine_words)

abbrev pub step_bytes_table : List ℕ → List ℕ → ℕ → ℕ → List Refusal
step_bytes_table image bytes p direction = stepping image (has_words bytes machine_words) (words_of bytes) p direction

abbrev pub list_bytes_table : List ℕ → List ℕ → List Row → List Refusal
list_bytes_table image bytes rows = listing image (has_words bytes machine_words && eqb (length rows) most_rows) (words_of bytes)
