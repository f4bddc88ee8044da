-- Demand 3 on bytes, and that code 17 is never met after a start: the statements of Demand3 for the calls as C makes them (Bytes.Runs), for
-- every image
-- of which judging answers 0, every first memory of 1,152 bytes, every lent 34,696 bytes and every string of calls. A machine so reached is one that
-- demand 2 speaks of.
use Rattle.std.specs.Prelude.{◌≡◌, ℕ, length}
use Rattle.std.proofs.Math.Path.{sym, ap}
use Rattle.std.proofs.Common.{◌∙◌, subst}
use mathlib.Core.List.{List, [], ◌∷◌, ◌++◌}
use Rattle.rules.specs.Calls.{most_rows}
use Rattle.rules.specs.Machine.{Machine, Kept, view}
use Rattle.rules.specs.Cause.{SameGraph}
use Rattle.rules.specs.Fits.{fits}
use Rattle.rules.specs.List.{list_bytes}
use Rattle.rules.specs.declared.Row.{Row}
use Rattle.rules.specs.Words.{Outcome, step, words_of, bytes_of, to_bytes, step_bytes}
use Rattle.theorems.specs.Played.{Call, play, played_in}
use Rattle.theorems_more.specs.Subjects.{Words, program_of, LentBytes, view_bytes, play_bytes, Given, Room, started_bytes, played_bytes}
use Rattle.theorems.specs.Linked.{step-linked, played as Linked·played}
use Rattle.theorems.specs.Demand3
use Rattle.theorems_more.specs.Bytes.Words.{words-again}
use Rattle.theorems_more.specs.Bytes.FitWords.{linked-words}
use Rattle.theorems_more.specs.Bytes.Runs.{subject, lent_of, lent-size, played-bytes, bytes-show, step-played, played-size, played-are}
use Rattle.theorems_more.specs.ZeroOnly.{zero_only}

-- two machines of bytes have the same processes at the same places, and the same variables and cells
pub record SameBytesState (one other : List ℕ) : Type 0 where
  pub rows : (view_bytes one).rows ≡ (view_bytes other).rows
  pub memory : (view_bytes one).memory ≡ (view_bytes other).memory

-- a call answers 0, and leaves this history
pub record AcceptedBytes (image bytes : List ℕ) (process direction : ℕ) (history : List Kept) : Type 0 where
  pub code : (step_bytes image bytes process direction).answer.code ≡ 0
  pub left : (view_bytes (step_bytes image bytes process direction).leaves).history ≡ history

module _ (g : Given) (r : Room) where
  abbrev played : List Call → List ℕ
  played calls = played_in (subject g) (lent_of r) calls

  shown : (calls : List Call) → view_bytes (played_bytes g r calls) ≡ view (played calls)
  shown calls = ap view (bytes-show g r calls)

  -- No step on bytes that a run left answers 17, whatever the process and the direction.
  pub never-17_bytes : (calls : List Call) (process direction : ℕ) →
      (step_bytes g.image.bytes (played_bytes g r calls) process direction).answer.code ≡ 17 → ⊥
  unfolding to_bytes
  never-17_bytes calls p d e =
      Demand3.never_17 (subject g) (lent_of r) (lent-size r) calls p d
      (ap (λ (o : Outcome (List ℕ)). o.answer.code) (sym (step-played g r calls p d)) ∙ e)

  -- Two runs of one image from one first memory, by any two strings of calls and in any lent bytes: if the steps that they keep show the same cause
  -- graph, they have the same rows, the same variables and the same cells.
  pub same-graph_same_state_bytes :
      (r' : Room) (calls calls' : List Call) →
      SameGraph (program_of g.image) (view_bytes (played_bytes g r calls)).history (view_bytes (played_bytes g r' calls')).history →
      SameBytesState (played_bytes g r calls) (played_bytes g r' calls')
  same-graph_same_state_bytes r' calls calls' h =
      let e = shown calls in
      let e' : view_bytes (played_bytes g r' calls') ≡ view (played_in (subject g) (lent_of r') calls') = ap view (bytes-show g r' calls') in
      let h₁ =
      subst (λ (m : Machine). SameGraph (program_of g.image) m.history (view_bytes (played_bytes g r' calls')).history) e h in
      let h₂ =
      subst (λ (m : Machine). SameGraph (program_of g.image) (view (played calls)).history m.history) e' h₁ in
      let s = Demand3.same_graph_same_state (subject g) (lent_of r) (lent-size r) (lent_of r') (lent-size r') calls calls' h₂ in
      record {
        rows = ap (λ (m : Machine). m.rows) e ∙ s.rows ∙ ap (λ (m : Machine). m.rows) (sym e');
        memory = ap (λ (m : Machine). m.memory) e ∙ s.memory ∙ ap (λ (m : Machine). m.memory) (sym e');
      }

  -- While a kept step remains, the newest one can be undone: the undo of its process answers 0, and takes just that entry off.
  pub newest-goes_back_bytes :
      (calls : List Call) (history : List Kept) (newest : Kept) → (view_bytes (played_bytes g r calls)).history ≡ history ++ newest ∷ [] →
      AcceptedBytes g.image.bytes (played_bytes g r calls) newest.identifier 1 history
  unfolding to_bytes play_bytes
  newest-goes_back_bytes calls history newest e =
      let a =
      Demand3.newest_goes_back (subject g) (lent_of r) (lent-size r) calls history newest (ap (λ (m : Machine). m.history) (sym (shown calls)) ∙ e) in
      let is = step-played g r calls newest.identifier 1 in
      let back : words_of (bytes_of (step g.image.bytes (played calls) newest.identifier 1).leaves) ≡ (step g.image.bytes
      (played calls) newest.identifier 1).leaves =
      words-again _ (after-words calls newest.identifier 1) in
      record {
        code = ap (λ (o : Outcome (List ℕ)). o.answer.code) is ∙ a.code;
        left =
            ap (λ (o : Outcome (List ℕ)). (view_bytes o.leaves).history) is ∙ ap (λ (w : List ℕ). (view w).history) back
            ∙ a.left;
      }
    where
      after-words : (calls : List Call) (p d : ℕ) → Words (step g.image.bytes (played calls) p d).leaves
      after-words calls p d =
          linked-words (subject g) (step g.image.bytes (played calls) p d).leaves
          (step-linked (subject g) (played calls) p d (Linked·played (subject g) (lent_of r) calls (lent-size r)))

  -- When none remains, the machine is the one that was started, byte for byte.
  pub none-left_is_the_start_bytes : (calls : List Call) → (view_bytes (played_bytes g r calls)).history ≡ [] →
      played_bytes g r calls ≡ started_bytes g r
  unfolding play_bytes play
  none-left_is_the_start_bytes calls e =
      played-bytes g r calls
      ∙ ap bytes_of (Demand3.none_left_is_the_start (subject g) (lent_of r) (lent-size r) calls
      (ap (λ (m : Machine). m.history) (sym (shown calls)) ∙ e))
      ∙ sym (played-bytes g r [])

  -- Such bytes pass 17, and are bytes that demand 2 speaks of.
  abbrev pub played-lent_bytes : List Call → LentBytes
  played-lent_bytes calls =
      record {
        image = g.image;
        bytes = played_bytes g r calls;
        are = played-are g r calls;
        size = played-size g r calls;
        fit = ap (fits (program_of g.image)) (bytes-show g r calls) ∙ Demand3.reached-fits (subject g) (lent_of r) (lent-size r) calls;
      }

  -- A list of them into 64 rows answers 0.
  pub played-list : (calls : List Call) (rows : List Row) → length rows ≡ most_rows →
      (list_bytes g.image.bytes (played_bytes g r calls) rows).answer.code ≡ 0
  played-list calls rows n =
      let b = played-lent_bytes calls in
      (zero_only.list_bytes_zero g.image.bytes (played_bytes g r calls) rows).1 (record { accepted = b.image.accepted; fit = b.fit }, b.size, n)
