-- A run: a machine is started, and a string of calls is played on it, each with any process and any direction; refused calls
-- are part of it. The theorems of Demand3 speak of these definitions.
use Rattle.std.specs.Prelude.{◌≡◌, true, List, [], ◌∷◌, ℕ, length, ltb}
use Rattle.rules.specs.Base.{each_of}
use Rattle.rules.specs.Value.{span}
use Rattle.rules.specs.Machine.{memory_words}
use Rattle.rules.specs.Read.{got, decoded}
use Rattle.rules.specs.Judge.{judged_blocks}
use Rattle.rules.specs.Words.{start, step}
use Rattle.rules.specs.declared.Block.{Block}
use Rattle.rules.specs.Judgement.{Judgement}

-- one call of `step`
pub record Call : Type 0 where
  pub process : ℕ
  pub direction : ℕ

-- the words after a string of calls, each made on the words that the one before it left
unfoldable pub play : List ℕ → List ℕ → List Call → List ℕ
play image words [] = words
play image words (c ∷ calls) = play image (step image words c.process c.direction).leaves calls

-- what a run starts from: an accepted image, whose numbers are bytes, and a first memory of 288 words (the numbers of a word are
-- below 2 ^ 32, as those of a u32 are: + and - wrap there, and undo takes them back there)
pub record Subject : Type 0 where
  pub image : List ℕ
  pub bytes : each_of (λ b. ltb b 256) image ≡ true
  pub program : List Block
  pub past : ℕ
  pub decodes : decoded image ≡ got program past
  pub blocks : ℕ
  pub peak : ℕ
  pub accepts : judged_blocks program ≡ Judgement.Accepted blocks peak
  pub memory : List ℕ
  pub memory_size : length memory ≡ memory_words
  pub memory_words_fit : each_of (λ v. ltb v span) memory ≡ true

-- the machine started in lent words, and the one after a string of calls
abbrev pub started_in : Subject → List ℕ → List ℕ
started_in s lent = (start s.image s.memory lent).leaves

abbrev pub played_in : Subject → List ℕ → List Call → List ℕ
played_in s lent calls = play s.image (started_in s lent) calls
