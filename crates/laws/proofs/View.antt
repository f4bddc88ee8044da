-- The rows and entries of a machine's words, one by one: row i and entry i of `view w`, and where no more follow. Assumes nothing.
use mathlib.Core.Path.{◌≡◌, refl, ap, ◌∙◌}
use mathlib.Core.List.{List, [], ◌∷◌}
use Prim.Native.Nat.{ℕ, zero, suc, ◌+◌, ◌*◌, ◌≤◌, ◌<◌}
use native.Mathlib.Omega.{arith}
use native.Mathlib.Nat.{not-suc-le-zero, le_of_suc-le-suc}
use lib.ListN.{length, drop, get_or, drop_of_length-le}
use lib.Seq.{get_or-drop, drop-cons}
use Rattle.rules.specs.Machine.{Process, Kept, place, view_rows, view_history, view, live_count, history_count}
use Rattle.laws.proofs.Pack.{length-view_rows, length-view_history}

-- row i and entry i of the words
abbrev pub row_at : List ℕ → ℕ → Process
row_at w i = record { identifier = get_or w (290 + 3 * i) 0; stands = place (get_or w (291 + 3 * i) 0) (get_or w (292 + 3 * i) 0) }

abbrev pub kept_at : List ℕ → ℕ → Kept
kept_at w i = record { identifier = get_or w (482 + 2 * i) 0; block = get_or w (483 + 2 * i) 0 }

-- what stands past the end
abbrev pub no_row : Process
no_row = record { identifier = 0; stands = place 0 0 }

abbrev pub no_entry : Kept
no_entry = record { identifier = 0; block = 0 }

process : {a b c a' b' c' : ℕ} → a ≡ a' → b ≡ b' → c ≡ c' → ◌≡◌ {A = Process} (record { identifier = a; stands = place b c }) (record { identifier = a'; stands = place b' c' })
process p q r = λ i. record { identifier = p i; stands = place (q i) (r i) }

entry : {a b a' b' : ℕ} → a ≡ a' → b ≡ b' → ◌≡◌ {A = Kept} (record { identifier = a; block = b }) (record { identifier = a'; block = b' })
entry p q = λ i. record { identifier = p i; block = q i }

rows_at : (n : ℕ) (l : List ℕ) (i : ℕ) → i < n → get_or (view_rows n l) i no_row ≡ record { identifier = get_or l (3 * i) 0; stands = place (get_or l (3 * i + 1) 0) (get_or l (3 * i + 2) 0) }
unfolding view_rows
rows_at zero l i h = absurd (not-suc-le-zero h)
rows_at (suc n) l zero h = refl
rows_at (suc n) l (suc i) h =
    rows_at n (drop 3 l) i (le_of_suc-le-suc h)
    ∙ process (get_or-drop 3 l (3 * i) 0 ∙ ap (λ (k : ℕ). get_or l k 0) (omega arith)) (get_or-drop 3 l (3 * i + 1) 0 ∙ ap (λ (k : ℕ). get_or l k 0) (omega arith))
    (get_or-drop 3 l (3 * i + 2) 0 ∙ ap (λ (k : ℕ). get_or l k 0) (omega arith))

history-at : (n : ℕ) (l : List ℕ) (i : ℕ) → i < n → get_or (view_history n l) i no_entry ≡ record { identifier = get_or l (2 * i) 0; block = get_or l (2 * i + 1) 0 }
unfolding view_history
history-at zero l i h = absurd (not-suc-le-zero h)
history-at (suc n) l zero h = refl
history-at (suc n) l (suc i) h =
    history-at n (drop 2 l) i (le_of_suc-le-suc h)
    ∙ entry (get_or-drop 2 l (2 * i) 0 ∙ ap (λ (k : ℕ). get_or l k 0) (omega arith)) (get_or-drop 2 l (2 * i + 1) 0 ∙ ap (λ (k : ℕ). get_or l k 0) (omega arith))

module _ (w : List ℕ) where
  pub row-at : (i : ℕ) → i < live_count w → get_or (view w).rows i no_row ≡ row_at w i
  unfolding view
  row-at i h =
      rows_at (live_count w) (drop 290 w) i h
      ∙ process (get_or-drop 290 w (3 * i) 0) (get_or-drop 290 w (3 * i + 1) 0 ∙ ap (λ (k : ℕ). get_or w k 0) (omega arith))
      (get_or-drop 290 w (3 * i + 2) 0 ∙ ap (λ (k : ℕ). get_or w k 0) (omega arith))

  pub kept-at : (i : ℕ) → i < history_count w → get_or (view w).history i no_entry ≡ kept_at w i
  unfolding view
  kept-at i h =
      history-at (history_count w) (drop 482 w) i h
      ∙ entry (get_or-drop 482 w (2 * i) 0) (get_or-drop 482 w (2 * i + 1) 0 ∙ ap (λ (k : ℕ). get_or w k 0) (omega arith))

  pub length-rows : length (view w).rows ≡ live_count w
  unfolding view
  length-rows = length-view_rows (live_count w) (drop 290 w)

  pub length-history : length (view w).history ≡ history_count w
  unfolding view
  length-history = length-view_history (history_count w) (drop 482 w)

  -- the rows, or entries, from i on: row i and those after it
  pub rows-from : (i : ℕ) → i < live_count w → drop i (view w).rows ≡ row_at w i ∷ drop (suc i) (view w).rows
  rows-from i h =
      let k : i < length (view w).rows = omega (arith, length-rows) in
      drop-cons (view w).rows i no_row k ∙ ap (λ (r : Process). r ∷ drop (suc i) (view w).rows) (row-at i h)

  pub history-from : (i : ℕ) → i < history_count w → drop i (view w).history ≡ kept_at w i ∷ drop (suc i) (view w).history
  history-from i h =
      let k : i < length (view w).history = omega (arith, length-history) in
      drop-cons (view w).history i no_entry k ∙ ap (λ (e : Kept). e ∷ drop (suc i) (view w).history) (kept-at i h)

  -- none after the last
  pub rows_end : drop (live_count w) (view w).rows ≡ []
  rows_end = let k : length (view w).rows ≤ live_count w = omega (arith, length-rows) in drop_of_length-le (view w).rows k

  pub history-end : drop (history_count w) (view w).history ≡ []
  history-end = let k : length (view w).history ≤ history_count w = omega (arith, length-history) in drop_of_length-le (view w).history k
