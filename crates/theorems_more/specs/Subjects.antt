-- What the theorems are about: an accepted image; a machine that is lent, on words or as the bytes that C lends; and a run, which is a start and then
-- any string of calls, refused ones included. Definitions only.
use Rattle.std.specs.Prelude.{◌≡◌, true, List, [], ◌∷◌, ℕ, ◌*◌, length, ltb}
use Rattle.rules.specs.Base.{each_of}
use Rattle.rules.specs.Value.{span}
use Rattle.rules.specs.Judge.{judgement, numbers}
use Rattle.rules.specs.Machine.{Machine, memory_words, machine_words, view}
use Rattle.rules.specs.Fits.{fits}
use Rattle.rules.specs.Words.{words_of, start_bytes, step_bytes}
use Rattle.rules.specs.RefusalTable.{program_in}
use Rattle.rules.specs.declared.Block.{Block}
use Rattle.theorems.specs.Played.{Call}
use Rattle.theorems.specs.Refusals.{Bytes}

-- the numbers of a list are words, below 2 ^ 32, as those of every lent slice of u32 are
abbrev pub Words : List ℕ → Type 0
Words l = each_of (λ v. ltb v span) l ≡ true

-- judging answers 0 of the image
abbrev pub IsAccepted : List ℕ → Type 0
IsAccepted image = (numbers (judgement image)).code ≡ 0

-- an accepted image
pub record Image : Type 0 where
  pub bytes : List ℕ
  pub are : Bytes bytes
  pub accepted : IsAccepted bytes

-- its blocks
abbrev pub program_of : Image → List Block
program_of i = program_in i.bytes

-- ---- a lent machine
-- lent bytes, 34,696 of them, that pass codes 16 and 17 over an accepted image; no run need have left them
pub record LentBytes : Type 0 where
  pub image : Image
  pub bytes : List ℕ
  pub are : Bytes bytes
  pub size : length bytes ≡ 4 * machine_words
  pub fit : fits (program_of image) (words_of bytes) ≡ true

-- what bytes show: the machine of their words
abbrev pub view_bytes : List ℕ → Machine
view_bytes bytes = view (words_of bytes)

-- ---- a run
-- the bytes, where the calls are C's
unfoldable pub play_bytes : List ℕ → List ℕ → List Call → List ℕ
play_bytes image bytes [] = bytes
play_bytes image bytes (c ∷ calls) = play_bytes image (step_bytes image bytes c.process c.direction).leaves calls

-- what a run starts from, as C hands it over: an accepted image, 1,152 bytes of first memory, and 34,696 lent bytes of any content
pub record Given : Type 0 where
  pub image : Image
  pub first : List ℕ
  pub first_bytes : Bytes first
  pub first_size : length first ≡ 4 * memory_words

pub record Room : Type 0 where
  pub bytes : List ℕ
  pub are : Bytes bytes
  pub size : length bytes ≡ 4 * machine_words

abbrev pub started_bytes : Given → Room → List ℕ
started_bytes g r = (start_bytes g.image.bytes g.first r.bytes).leaves

abbrev pub played_bytes : Given → Room → List Call → List ℕ
played_bytes g r calls = play_bytes g.image.bytes (started_bytes g r) calls
