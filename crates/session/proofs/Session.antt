-- The pieces make rules' `session`: the beginning, then a command at a time, whatever commands follow. Assumes nothing.
use mathlib.Core.Path.{◌≡◌, refl, sym}
use mathlib.Core.Bool.{Bool, true, false, ◌&&◌, ◌||◌}
use mathlib.Core.List.{List, [], ◌∷◌, ◌++◌, append-nil}
use Prim.Native.Nat.{ℕ, ◌*◌, ◌<◌}
use native.Mathlib.Omega.{arith}
use lib.ListN.{length}
use lib.Dec.{eqb}
use Rattle.rules.specs.Base.{pick, zeros}
use Rattle.rules.specs.Machine.{machine_words}
use Rattle.rules.specs.Session.{commands, session, unknown_line, refused_line}
use Rattle.rules.specs.Words.{Outcome, start_bytes, words_of}
use Rattle.session.specs.Pieces.{Piece, started, beginning, stepped, unknown, asked, turned}

-- what a session prints from a piece on, where `rest` is still to come
abbrev pub goes_on : List ℕ → Piece → List ℕ → List ℕ
goes_on image piece rest = piece.text ++ pick piece.more (commands image piece.words rest) []

begins :
    (image input : List ℕ) (o : Outcome (List ℕ)) →
    pick (eqb o.answer.code 0) (commands image (words_of o.leaves) input) (refused_line o.answer.code o.answer.place)
    ≡ goes_on image (started o) input
unfolding started pick
begins image input o = go (eqb o.answer.code 0) (commands image (words_of o.leaves) input) (refused_line o.answer.code o.answer.place)
  where
    go : (t : Bool) (a b : List ℕ) → pick t a b ≡ pick t [] b ++ pick t a []
    go true a b = refl
    go false a b = sym (append-nil b)

-- a session is its beginning, and then its commands
pub session-begins : (image memory input : List ℕ) → session image memory input ≡ goes_on image (beginning image memory) input
unfolding session beginning
session-begins image memory input = begins image input (start_bytes image memory (zeros (4 * machine_words)))

-- a whole command prints its piece, and then come the others
pub command-turns :
    (image words body rest : List ℕ) (kind : ℕ) → length body ≡ 4 →
    commands image words (kind ∷ (body ++ rest)) ≡ goes_on image (turned image words kind body) rest
unfolding commands turned stepped pick
command-turns image words [] rest kind l = absurd (omega arith)
command-turns image words (a ∷ []) rest kind l = absurd (omega arith)
command-turns image words (a ∷ b ∷ []) rest kind l = absurd (omega arith)
command-turns image words (a ∷ b ∷ c ∷ []) rest kind l = absurd (omega arith)
command-turns image words (a ∷ b ∷ c ∷ d ∷ e ∷ body) rest kind l = absurd (omega arith)
command-turns image words (a ∷ b ∷ c ∷ d ∷ []) rest kind l = go (eqb kind 1 || eqb kind 2)
  where
    asks : Piece
    asks = asked image words (pick (eqb kind 1) 0 1) (a ∷ b ∷ c ∷ d ∷ [])

    go : (t : Bool) → pick t (asks.text ++ commands image asks.words rest) unknown_line ≡ goes_on image (pick (t && true) asks (unknown words)) rest
    go true = refl
    go false = refl

-- an unknown kind ends the session, whatever follows
pub kind_ends :
    (image words rest : List ℕ) (kind : ℕ) → eqb kind 1 || eqb kind 2 ≡ false → commands image words (kind ∷ rest) ≡ unknown_line
unfolding commands pick
kind_ends image words [] kind h = refl
kind_ends image words (a ∷ []) kind h = refl
kind_ends image words (a ∷ b ∷ []) kind h = refl
kind_ends image words (a ∷ b ∷ c ∷ []) kind h = refl
kind_ends image words (a ∷ b ∷ c ∷ d ∷ rest) kind h = rw h

-- so does a cut body
pub cut-ends : (image words body : List ℕ) (kind : ℕ) → length body < 4 → commands image words (kind ∷ body) ≡ unknown_line
unfolding commands
cut-ends image words [] kind h = refl
cut-ends image words (a ∷ []) kind h = refl
cut-ends image words (a ∷ b ∷ []) kind h = refl
cut-ends image words (a ∷ b ∷ c ∷ []) kind h = refl
cut-ends image words (a ∷ b ∷ c ∷ d ∷ body) kind h = absurd (omega arith)
