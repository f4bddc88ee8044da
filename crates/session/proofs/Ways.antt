-- The ways through a beginning and a command, over lists. Assumes nothing.
use mathlib.Core.Path.{◌≡◌, refl, sym, subst}
use mathlib.Core.Bool.{Bool, true, false, ◌&&◌, ◌||◌}
use mathlib.Core.List.{List, []}
use Prim.Native.Nat.{ℕ}
use lib.ListN.{length}
use lib.Dec.{eqb}
use borrow.Author.Tests.{eq-eqb, ne_eqb}
use Rattle.rules.specs.Base.{pick, zeros}
use Rattle.rules.specs.Format.{word_at}
use Rattle.rules.specs.Session.{refused_line, step_line}
use Rattle.rules.specs.Words.{Outcome, start_bytes, step, words_of}
use Rattle.rules.specs.declared.Answer.{Answer}
use Rattle.runtime.specs.Outcome.{outcome_of}
use Rattle.session.specs.Pieces.{started, beginning, stepped, unknown, asked, turned, Shows}
use Rattle.session.specs.declared.Printed.{Printed}
use Rattle.session.specs.declared.line.Line.{Line}
use Rattle.session.specs.Put.{written}

-- ---- the beginning
module _
    (image memory bytes words : List ℕ) (answer : Answer) (e : outcome_of answer bytes ≡ start_bytes image memory (zeros 34696))
    (w : words ≡ words_of bytes) (line : Line)
  where
    pub begun : answer.code ≡ 0 → written line ≡ [] → Shows (beginning image memory) (record { line = line; more = true }) words
    unfolding beginning started pick
    begun h r =
        let t : eqb answer.code 0 ≡ true = eq-eqb answer.code 0 h in
        subst (λ (o : Outcome (List ℕ)). Shows (started o) (record { line = line; more = true }) words) e
        (record { text_is = rw t r; more_is = sym t; words_are = w })

    pub refused :
        (answer.code ≡ 0 → ⊥) → written line ≡ refused_line answer.code answer.place →
        Shows (beginning image memory) (record { line = line; more = false }) words
    unfolding beginning started pick
    refused h r =
        let t : eqb answer.code 0 ≡ false = ne_eqb answer.code 0 h in
        subst (λ (o : Outcome (List ℕ)). Shows (started o) (record { line = line; more = false }) words) e
        (record { text_is = rw t r; more_is = sym t; words_are = w })

-- ---- a whole command
pub answered :
    (image words body left : List ℕ) (line : Line) (direction process : ℕ) (answer : Answer) → process ≡ word_at body 0 →
    outcome_of answer left ≡ step image words process direction →
    written line ≡ step_line direction process answer.code left →
    Shows (asked image words direction body) (record { line = line; more = true }) left
unfolding stepped
answered image words body left line direction process answer p e r =
    subst (λ (q : ℕ). Shows (stepped direction q (step image words q direction)) (record { line = line; more = true }) left) p
    (subst (λ (o : Outcome (List ℕ)). Shows (stepped direction process o) (record { line = line; more = true }) left) e
    (record { text_is = r; more_is = refl; words_are = refl }))

-- ---- any command
module _ (image words : List ℕ) (kind : ℕ) (body left : List ℕ) (printed : Printed) where
  pub cut : (length body ≡ 4 → ⊥) → Shows (unknown words) printed left → Shows (turned image words kind body) printed left
  unfolding turned pick
  cut h s = rw (ne_eqb (length body) 4 h) (go (eqb kind 1 || eqb kind 2))
    where
      go : (t : Bool) → Shows (pick (t && false) (asked image words (pick (eqb kind 1) 0 1) body) (unknown words)) printed left
      go true = s
      go false = s

  module _ (l : length body ≡ 4) where
    pub forward : kind ≡ 1 → Shows (asked image words 0 body) printed left → Shows (turned image words kind body) printed left
    unfolding turned pick
    forward h s = rw (eq-eqb (length body) 4 l, eq-eqb kind 1 h) s

    pub undo :
        (kind ≡ 1 → ⊥) → kind ≡ 2 → Shows (asked image words 1 body) printed left → Shows (turned image words kind body) printed left
    unfolding turned pick
    undo h k s = rw (eq-eqb (length body) 4 l, ne_eqb kind 1 h, eq-eqb kind 2 k) s

    pub other :
        (kind ≡ 1 → ⊥) → (kind ≡ 2 → ⊥) → Shows (unknown words) printed left → Shows (turned image words kind body) printed left
    unfolding turned pick
    other h k s = rw (eq-eqb (length body) 4 l, ne_eqb kind 1 h, ne_eqb kind 2 k) s
