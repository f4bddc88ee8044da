-- A run as C makes it: `tillerwrap_start` on bytes, then `tillerwrap_step` on the bytes that the call before it left, each with any process and any
-- direction, refused ones included. What it leaves are the bytes of the words that the run on words leaves (Played).
use Rattle.std.specs.Prelude.{◌≡◌, ℕ, ◌*◌, length}
use Rattle.std.proofs.Math.Path.{refl, ap}
use Rattle.std.proofs.Common.{sym, ◌∙◌, subst}
use mathlib.Core.List.{List, [], ◌∷◌}
use Rattle.rules.specs.Machine.{memory_words, machine_words}
use Rattle.rules.specs.Words.{Outcome, step, words_of, bytes_of, to_bytes, step_bytes}
use Rattle.theorems.specs.Played.{Call, play, Subject, started_in, played_in}
use Rattle.theorems_more.specs.Refusing.FaultCodes.{accepted-image}
use Rattle.theorems.specs.Refusals.{Bytes}
use Rattle.theorems_more.specs.Subjects.{Words, program_of, play_bytes, Given, Room, started_bytes, played_bytes}
use Rattle.theorems.specs.Linked.{Linked, linked-length, start-linked, step-linked}
use Rattle.theorems_more.specs.Bytes.Words.{words-again, length-bytes, are-bytes, length-words, are_words, step-on_words, start-on_words}
use Rattle.theorems_more.specs.Bytes.FitWords.{linked-words, played-words, played-length}

-- ---- the same run on words
abbrev pub subject : Given → Subject
subject g =
    let j = accepted-image g.image.bytes g.image.accepted in
    record {
      image = g.image.bytes;
      bytes = g.image.are;
      program = program_of g.image;
      past = j.past;
      decodes = j.decodes;
      blocks = j.blocks;
      peak = j.peak;
      accepts = j.accepts;
      memory = words_of g.first;
      memory_size = length-words g.first memory_words g.first_size;
      memory_words_fit = are_words g.first g.first_bytes;
    }

abbrev pub lent_of : Room → List ℕ
lent_of r = words_of r.bytes

pub lent-size : (r : Room) → length (lent_of r) ≡ machine_words
lent-size r = length-words r.bytes machine_words r.size

module _ (image words : List ℕ) (size : length words ≡ machine_words) (are : Words words) where
  -- A step on the bytes of 8,674 words, whatever the image, is the step on the words.
  pub step-of_words : (p d : ℕ) → step_bytes image (bytes_of words) p d ≡ to_bytes (step image words p d)
  step-of_words p d =
      step-on_words image (bytes_of words) (are-bytes words) (length-bytes words ∙ ap (λ (n : ℕ). 4 * n) size) p d
      ∙ ap (λ (w : List ℕ). to_bytes (step image w p d)) (words-again words are)

module _ (g : Given) (r : Room) where
  started-bytes : started_bytes g r ≡ bytes_of (started_in (subject g) (lent_of r))
  unfolding to_bytes
  started-bytes =
      ap (λ (o : Outcome (List ℕ)). o.leaves) (start-on_words g.image.bytes r.bytes r.are r.size g.first g.first_size)

  play-bytes : (w : List ℕ) (calls : List Call) → Linked (subject g) w →
      play_bytes g.image.bytes (bytes_of w) calls ≡ bytes_of (play g.image.bytes w calls)
  unfolding play_bytes play to_bytes
  play-bytes w [] l = refl
  play-bytes w (c ∷ calls) l =
      let are : Words w = linked-words (subject g) w l in
      let one : (step_bytes g.image.bytes (bytes_of w) c.process c.direction).leaves ≡ bytes_of (step g.image.bytes w c.process c.direction).leaves =
      ap (λ (o : Outcome (List ℕ)). o.leaves) (step-of_words g.image.bytes w (linked-length (subject g) w l) are c.process c.direction) in
      ap (λ (b : List ℕ). play_bytes g.image.bytes b calls) one
      ∙ play-bytes (step g.image.bytes w c.process c.direction).leaves calls (step-linked (subject g) w c.process c.direction l)

  -- The bytes after any string of calls are those of the words after the same calls.
  pub played-bytes : (calls : List Call) → played_bytes g r calls ≡ bytes_of (played_in (subject g) (lent_of r) calls)
  played-bytes calls =
      ap (λ (b : List ℕ). play_bytes g.image.bytes b calls) started-bytes
      ∙ play-bytes (started_in (subject g) (lent_of r)) calls (start-linked (subject g) (lent_of r) (lent-size r))

  module _ (calls : List Call) where
    abbrev words : List ℕ
    words = played_in (subject g) (lent_of r) calls

    -- They show those words.
    pub bytes-show : words_of (played_bytes g r calls) ≡ words
    bytes-show = ap words_of (played-bytes calls) ∙ words-again words (played-words (subject g) (lent_of r) (lent-size r) calls)

    -- A step on them is the step on those words.
    pub step-played : (p d : ℕ) → step_bytes g.image.bytes (played_bytes g r calls) p d ≡ to_bytes (step g.image.bytes words p d)
    step-played p d =
        ap (λ (b : List ℕ). step_bytes g.image.bytes b p d) (played-bytes calls)
        ∙ step-of_words g.image.bytes words (played-length (subject g) (lent_of r) (lent-size r) calls)
        (played-words (subject g) (lent_of r) (lent-size r) calls) p d

    -- They are 34,696 bytes.
    pub played-size : length (played_bytes g r calls) ≡ 4 * machine_words
    played-size =
        ap length (played-bytes calls) ∙ length-bytes words
        ∙ ap (λ (n : ℕ). 4 * n) (played-length (subject g) (lent_of r) (lent-size r) calls)

    pub played-are : Bytes (played_bytes g r calls)
    played-are = subst Bytes (sym (played-bytes calls)) (are-bytes words)
