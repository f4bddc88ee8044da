-- How many rows there may be: well-formed rows that hang from the root are at most main's peak, so at most 64, and a process without
-- children has room for those of a call. Assumes that the image is sound.
use Rattle.std.specs.Prelude.{◌≡◌, refl, ◌≢◌, true, List, [], ◌∷◌, map, ℕ, suc, ◌+◌, ◌≤◌, length}
use Rattle.std.proofs.Common.{sym, ap, ◌∙◌, inl, arith}
use Rattle.std.proofs.Math.Option.{Option, none, some}
use Rattle.std.proofs.Math.Decide.{ℕ_discrete}
use Rattle.theory.specs.Tests.{none-some}
use Rattle.theory.specs.Local.{put_self, put-kid, put-outside}
use Rattle.theory.specs.Counting.{AllOf, Distinct, all_map}
use Rattle.theory.specs.Growing.{call-grows, grown}
use Rattle.theory.specs.Peak.{Hangs, room, hangs-grown}
use Rattle.theory.specs.Optional.{onto}
use Rattle.rules.specs.Format.{main}
use Rattle.rules.specs.Labels.{called}
use Rattle.rules.specs.Calls.{most_rows}
use Rattle.rules.specs.Machine.{Process, begin, place, standing}
use Rattle.rules.specs.Fits.{nth}
use Rattle.rules.specs.Step.{child_rows, insert_rows}
use Rattle.rules.specs.declared.Block.{Block}
use Rattle.rules.specs.declared.Place.{Place}
use Rattle.theorems.specs.Parts.{calls, out_of, home_of}
use Rattle.theorems.specs.Program.{Sound, real, home-outer}
use Rattle.theorems.specs.Levels.{peak_in, peak-pos, peak-call, main-peak}
use Rattle.theorems.specs.Tables.{Above, Sorted, standing_here, standing-past}
use Rattle.theorems.specs.Children.{Childless, puts, by_row, outside, insert_sorted, insert_puts, insert_length, child-length}
use Rattle.theorems.specs.Waiting.{no_kids}
use Rattle.theorems.specs.Forward.{Well, few-labels}

-- ---- rows by identifier
abbrev identifiers : List Process → List ℕ
identifiers rows = map (λ q. q.identifier) rows

live-rows : (rows : List Process) → Sorted rows → AllOf (λ x. standing rows x ≡ none → ⊥) (identifiers rows)
live-rows rows s = go rows rows s (λ x h. h)
  where
    go :
        (all rows : List Process) → Sorted rows → ((x : ℕ) → (standing rows x ≡ none → ⊥) → standing all x ≡ none → ⊥) →
        AllOf (λ x. standing all x ≡ none → ⊥) (map (λ q. q.identifier) rows)
    go all [] s up = tt
    go all (q ∷ rows) s up = (
      up q.identifier (λ e. none-some (sym e ∙ standing_here q rows q.identifier refl)),
      go all rows s.1 (λ x h. up x (λ e. later x h (ℕ_discrete q.identifier x) e)),
    )
      where
        later : (x : ℕ) → (standing rows x ≡ none → ⊥) → Dec (q.identifier ≡ x) → standing (q ∷ rows) x ≡ none → ⊥
        later x h (yes d) e = none-some (sym e ∙ standing_here q rows x d)
        later x h (no d) e = h (sym (standing-past q rows x d) ∙ e)

apart-rows : (rows : List Process) → Sorted rows → Distinct (identifiers rows)
apart-rows [] s = tt
apart-rows (q ∷ rows) s = (go q.identifier rows s.0, apart-rows rows s.1)
  where
    go : (x : ℕ) (rows : List Process) → Above x rows → AllOf (λ y. y ≢ x) (map (λ q. q.identifier) rows)
    go x [] a = tt
    go x (p ∷ rows) a = ((λ e. omega (arith, a.0, e)), go x rows a.1)

mapped_length : (rows : List Process) → length (identifiers rows) ≡ length rows
mapped_length [] = refl
mapped_length (q ∷ rows) = ap suc (mapped_length rows)

module _ (program : List Block) (S : Sound program) where
  -- rows that stand, each, where well-formed rows do
  room_in :
      (rows : List Process) (R : ℕ → Option Place) → Sorted rows → Well program S R → Hangs (real program S) R →
      ((x : ℕ) → R x ≡ none → standing rows x ≡ none) → length rows ≤ most_rows
  room_in rows R sorted ok H inside =
      let live =
      all_map (λ x. standing rows x ≡ none → ⊥) (λ x. R x ≡ none → ⊥) (λ x h e. h (inside x e)) (identifiers rows) (live-rows rows sorted) in
      let b =
      room (real program S) (peak_in program S) (peak-pos program S) (peak-call program S) R ok H (identifiers rows) live (apart-rows rows sorted) in
      let e : peak_in program S (home_of program (place main begin)) ≡ peak_in program S main =
      ap (peak_in program S) (home-outer program S (place main begin) (inl refl)) in
      let l = mapped_length rows in
      let p = main-peak program S in
      omega (arith, b, e, l, p)

  -- Well-formed rows that hang from the root are at most 64.
  pub rows-room :
      (rows : List Process) → Sorted rows → Well program S (standing rows) → Hangs (real program S) (standing rows) → length rows ≤ most_rows
  rows-room rows sorted ok H = room_in rows (standing rows) sorted ok H (λ x e. e)

  -- And there is room for the children of any call in a childless process's own process block.
  pub children-room :
      (rows : List Process) → Sorted rows → Well program S (standing rows) → Hangs (real program S) (standing rows) →
      (p : ℕ) (here : Place) (b : ℕ) → standing rows p ≡ some here → Childless (standing rows) p → calls program b ≡ true →
      home_of program (out_of program b) ≡ home_of program here → length rows + length (called program b) ≤ most_rows
  children-room rows sorted ok H p here b live free c same =
      let few = few-labels program S b c in
      let g = call-grows (real program S) R p here b live (no_kids R p free) c same in
      let l =
      room_in (insert_rows rows p N) (puts R p (some (out_of program b)) K) (insert_sorted rows p begin (called program b) sorted H.tree free few)
      (grown (real program S) R p (some (out_of program b)) K g ok) (hangs-grown (real program S) R p (some (out_of program b)) K g H)
      (λ x e. insert_puts rows p begin (called program b) here live free few x ∙ hollow x e) in
      let e₁ = insert_length rows p N in
      let e₂ = child-length p begin 1 (called program b) in
      omega (arith, l, e₁, e₂)
    where
      R : ℕ → Option Place
      R = standing rows

      N : List Process
      N = child_rows p begin 1 (called program b)

      K : ℕ → Option Place
      K i = onto (λ l. place l begin) (nth (called program b) i)

      hollow : (x : ℕ) → puts R p (some (out_of program b)) K x ≡ none → puts R p (some here) K x ≡ none
      hollow =
          by_row p (λ x. puts R p (some (out_of program b)) K x ≡ none → puts R p (some here) K x ≡ none)
          (λ e. absurd (none-some (sym e ∙ put_self R p (some (out_of program b)) K)))
          (λ x n k e. put-kid R p (some here) K x k ∙ sym (put-kid R p (some (out_of program b)) K x k) ∙ e)
          (λ x n k e. put-outside R p (some here) K x (outside p x n k) ∙ sym (put-outside R p (some (out_of program b)) K x (outside p x n k)) ∙ e)
