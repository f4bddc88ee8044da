-- The pieces of rules' `session`: what is printed at the beginning and at each command, whether more follows, and the words left.
use Rattle.std.specs.Prelude.{◌≡◌, Bool, true, false, ◌&&◌, ◌||◌, List, [], ℕ, ◌*◌, length, eqb}
use Rattle.rules.specs.Base.{pick, zeros}
use Rattle.rules.specs.Format.{word_at}
use Rattle.rules.specs.Machine.{machine_words}
use Rattle.rules.specs.Session.{refused_line, unknown_line, step_line}
use Rattle.rules.specs.Words.{Outcome, start_bytes, step, words_of}
use Rattle.session.specs.declared.Printed.{Printed}
use Rattle.session.specs.Put.{written}

pub record Piece : Type 0 where
  pub text : List ℕ
  pub more : Bool
  pub words : List ℕ

-- a start prints nothing, or is refused and nothing follows
unfoldable pub started : Outcome (List ℕ) → Piece
started o =
    record {
      text = pick (eqb o.answer.code 0) [] (refused_line o.answer.code o.answer.place);
      more = eqb o.answer.code 0;
      words = words_of o.leaves;
    }

unfoldable pub beginning : List ℕ → List ℕ → Piece
beginning image memory = started (start_bytes image memory (zeros (4 * machine_words)))

-- a step prints its line
unfoldable pub stepped : ℕ → ℕ → Outcome (List ℕ) → Piece
stepped direction p o = record { text = step_line direction p o.answer.code o.leaves; more = true; words = o.leaves }

-- an unknown kind or a cut body prints its line, and nothing follows
abbrev pub unknown : List ℕ → Piece
unknown words = record { text = unknown_line; more = false; words = words }

abbrev pub asked : List ℕ → List ℕ → ℕ → List ℕ → Piece
asked image words direction body = stepped direction (word_at body 0) (step image words (word_at body 0) direction)

unfoldable pub turned : List ℕ → List ℕ → ℕ → List ℕ → Piece
turned image words kind body =
    pick ((eqb kind 1 || eqb kind 2) && eqb (length body) 4) (asked image words (pick (eqb kind 1) 0 1) body) (unknown words)

-- what is printed is a piece, and its words are left
pub record Shows (piece : Piece) (printed : Printed) (words : List ℕ) : Type 0 where
  pub text_is : written printed.line ≡ piece.text
  pub more_is : printed.more ≡ piece.more
  pub words_are : words ≡ piece.words
