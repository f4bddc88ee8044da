-- Demand 3, and that code 17 is never met after a start: the statements, for every run (Played) of an accepted image, whatever
-- strings of calls are played. They speak of rules' definitions alone; the work that they cite stands in the other files.
use Rattle.std.specs.Prelude.{◌≡◌, true, List, [], ◌∷◌, ◌++◌, ℕ, length, ltb}
use Rattle.std.proofs.Common.{sym, ◌∙◌}
use Rattle.rules.specs.Base.{each_of}
use Rattle.rules.specs.Value.{span}
use Rattle.rules.specs.Machine.{Kept, machine_words, view}
use Rattle.rules.specs.Fits.{fits}
use Rattle.rules.specs.Cause.{SameGraph}
use Rattle.rules.specs.Words.{step}
use Rattle.theorems.specs.Played.{Call, Subject, started_in, played_in}
use Rattle.theorems.specs.Linked.{linked-fits, start_is, played}
use Rattle.theorems.specs.Answers.{never-seventeen, row_words_fit, history-words, goes_back, none_left, one_state}

-- two lent machines have the same processes at the same places, and the same variables and cells
pub record SameState (one other : List ℕ) : Type 0 where
  pub rows : (view one).rows ≡ (view other).rows
  pub memory : (view one).memory ≡ (view other).memory

-- a call answers 0, and leaves this history
pub record Accepted (image words : List ℕ) (process direction : ℕ) (history : List Kept) : Type 0 where
  pub code : (step image words process direction).answer.code ≡ 0
  pub left : (view (step image words process direction).leaves).history ≡ history

module _ (s : Subject) (lent : List ℕ) (size : length lent ≡ machine_words) where
  -- Every machine that is reached from a start by any string of calls fits its image.
  pub reached-fits : (calls : List Call) → fits s.program (played_in s lent calls) ≡ true
  reached-fits calls = linked-fits s (played_in s lent calls) (played s lent calls size)

  -- So no call on it answers 17, whatever the process and the direction.
  pub never_17 : (calls : List Call) (process direction : ℕ) → (step s.image (played_in s lent calls) process direction).answer.code ≡ 17 → ⊥
  never_17 calls = never-seventeen s (played_in s lent calls) (played s lent calls size)

  -- The identifiers of its rows, and those of its history, are words: 16p + i never leaves 32 bits.
  pub identifiers-are_words :
      (calls : List Call) →
      (each_of (λ r. ltb r.identifier span) (view (played_in s lent calls)).rows ≡ true)
      × (each_of (λ k. ltb k.identifier span) (view (played_in s lent calls)).history ≡ true)
  identifiers-are_words calls =
      (row_words_fit s (played_in s lent calls) (played s lent calls size), history-words s (played_in s lent calls) (played s lent calls size))

  -- Two runs of one image from one first memory, by any two strings of calls and in any lent words: if the steps that they keep
  -- show the same cause graph, they have the same rows, the same variables and the same cells.
  pub same_graph_same_state :
      (lent' : List ℕ) → length lent' ≡ machine_words → (calls calls' : List Call) →
      SameGraph s.program (view (played_in s lent calls)).history (view (played_in s lent' calls')).history →
      SameState (played_in s lent calls) (played_in s lent' calls')
  same_graph_same_state lent' size' calls calls' g =
      let one = one_state s (played_in s lent calls) (played_in s lent' calls') (played s lent calls size) (played s lent' calls' size') g in
      record { rows = one.rows; memory = one.memory }

  -- While a kept step remains, the newest one can be undone: the undo of its process answers 0, and takes just that entry off.
  pub newest_goes_back :
      (calls : List Call) (history : List Kept) (newest : Kept) → (view (played_in s lent calls)).history ≡ history ++ newest ∷ [] →
      Accepted s.image (played_in s lent calls) newest.identifier 1 history
  newest_goes_back calls history newest e =
      let back = goes_back s (played_in s lent calls) (played s lent calls size) history newest e in
      record { code = back.code; left = back.history }

  -- When none remains, the machine is the one that was started, word for word.
  pub none_left_is_the_start : (calls : List Call) → (view (played_in s lent calls)).history ≡ [] → played_in s lent calls ≡ started_in s lent
  none_left_is_the_start calls e = none_left s (played_in s lent calls) (played s lent calls size) e ∙ sym (start_is s lent size)
