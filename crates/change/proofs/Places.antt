-- What the changes over words do to a packed machine, by the place of the row or the entry. Assumes nothing.
use mathlib.Core.Path.{◌≡◌, refl, sym, ap, ◌∙◌}
use mathlib.Core.List.{List, [], ◌∷◌, ◌++◌, append_assoc}
use Prim.Native.Nat.{ℕ, zero, suc, ◌+◌, ◌-◌, ◌*◌, ◌<◌}
use native.Mathlib.Omega.{arith}
use native.Mathlib.Nat.{le_of_suc-le-suc, not-suc-le-zero}
use lib.ListN.{length, take, drop, get_or, set, length-append, length-drop}
use lib.Seq.{split_at, length-take-le, take_at, drop_at}
use Rattle.rules.specs.Base.{zeros}
use Rattle.rules.specs.Machine.{Process, Kept, Machine, place, pack_rows, pack_history, padded, pack}
use Rattle.laws.proofs.Pack.{Sized, front, length_front, length-head, length-pack, pack_rows-append, pack_history-append, length-pack_rows, length-pack_history}
use Rattle.machine.specs.Splice.{splice}
use Rattle.change.specs.Words.{kept_entry, closed_entry, moved_row}
use Rattle.machine.specs.Index.{kept, without, row_at, moved}
use Rattle.machine.proofs.Splice.{mid, two-stores, zeros-add}

two-more : (k z : ℕ) → k ≡ 2 + z → zeros k ≡ zeros 2 ++ zeros z
two-more k z e = ap zeros e ∙ sym (zeros-add 2 z)

next : (n : ℕ) → 483 + 2 * n ≡ 482 + 2 * n + 1
next n = omega arith

-- a machine's words after a change of its history: the count, and the entries' words in two pieces
rejoin : (a x y : ℕ) (T E Y E' : List ℕ) (z z' : ℕ) → x ≡ y → E ++ Y ≡ E' → z ≡ z' → a ∷ x ∷ (T ++ E ++ Y ++ zeros z) ≡ a ∷ y ∷ (T ++ (E' ++ zeros z'))
rejoin a x y T E Y E' z z' p q r =
    ap (λ (k : ℕ). a ∷ k ∷ (T ++ E ++ Y ++ zeros z)) p
    ∙ ap (λ (l : List ℕ). a ∷ y ∷ l)
    (ap (λ (l : List ℕ). l ++ zeros z) (append_assoc T E Y ∙ ap (λ (l : List ℕ). T ++ l) q)
    ∙ append_assoc T E' (zeros z)
    ∙ ap (λ (k : ℕ). T ++ (E' ++ zeros k)) r)

cut4 : (F E A X B : List ℕ) (k z : ℕ) → E ≡ A ++ (X ++ B) → k ≡ z → F ++ (E ++ zeros k) ≡ F ++ A ++ (X ++ B ++ zeros z)
cut4 F E A X B k z e h =
    let re : (Z : List ℕ) → F ++ (A ++ (X ++ B) ++ Z) ≡ F ++ A ++ (X ++ B ++ Z) = λ Z. simp append_assoc in
    ap (λ (l : List ℕ). F ++ (l ++ zeros k)) e ∙ re (zeros k) ∙ ap (λ (j : ℕ). F ++ A ++ (X ++ B ++ zeros j)) h

body4 : (w A X B Z : List ℕ) (i k : ℕ) → w ≡ A ++ (X ++ B ++ Z) → length A + length X ≡ i → length B ≡ k → take k (drop i w) ≡ B
body4 w A X B Z i k e l lb =
    let re : A ++ (X ++ B ++ Z) ≡ A ++ X ++ (B ++ Z) = simp append_assoc in
    ap (λ (r : List ℕ). take k (drop i r)) (e ∙ re)
    ∙ ap (λ (r : List ℕ). take k r) (drop_at (A ++ X) (B ++ Z) i (length-append A X ∙ l))
    ∙ take_at B Z k lb

slide : (T A B : List ℕ) (j z : ℕ) → T ++ A ++ (B ++ zeros j) ++ zeros z ≡ T ++ A ++ B ++ zeros (j + z)
slide T A B j z =
    let re : (Y Z : List ℕ) → T ++ A ++ (B ++ Y) ++ Z ≡ T ++ A ++ B ++ (Y ++ Z) = λ Y Z. simp append_assoc in
    re (zeros j) (zeros z) ∙ ap (λ (l : List ℕ). T ++ A ++ B ++ l) (zeros-add j z)

cut5 : (F E A X B Z H : List ℕ) → E ≡ A ++ (X ++ B) → F ++ (E ++ Z) ++ H ≡ F ++ A ++ (X ++ (B ++ Z ++ H))
cut5 F E A X B Z H e =
    let re : F ++ (A ++ (X ++ B) ++ Z) ++ H ≡ F ++ A ++ (X ++ (B ++ Z ++ H)) = simp append_assoc in
    ap (λ (l : List ℕ). F ++ (l ++ Z) ++ H) e ∙ re

-- row i at another label and stage, by the rows before and after it
row_at_split : (rs : List Process) (i l t : ℕ) (d : Process) → i < length rs
    → row_at rs i l t ≡ take i rs ++ record { identifier = (get_or rs i d).identifier; stands = place l t } ∷ drop (suc i) rs
unfolding row_at
row_at_split [] i l t d h = absurd (not-suc-le-zero h)
row_at_split (r ∷ rs) zero l t d h = refl
row_at_split (r ∷ rs) (suc i) l t d h = ap (λ (q : List Process). r ∷ q) (row_at_split rs i l t d (le_of_suc-le-suc h))

length-row_at : (rs : List Process) (i l t : ℕ) → length (row_at rs i l t) ≡ length rs
unfolding row_at
length-row_at [] i l t = refl
length-row_at (r ∷ rs) zero l t = refl
length-row_at (r ∷ rs) (suc i) l t = ap suc (length-row_at rs i l t)

nextrow : (i : ℕ) → 292 + 3 * i ≡ 291 + 3 * i + 1
nextrow i = omega arith

module _ (m : Machine) (s : Sized m) where
  -- an entry kept
  pub kept-pack : (p b : ℕ) → length m.history < 4096 → kept_entry (pack m) p b ≡ pack (kept m p b)
  unfolding kept_entry pack front kept padded pack_history
  kept-pack p b h =
      let n : ℕ = length m.history in
      let F : List ℕ = front m ++ padded 192 (pack_rows m.rows) in
      let E : List ℕ = pack_history m.history in
      let e : Kept = record { identifier = p; block = b } in
      let le : length E ≡ 2 * n = length-pack_history m.history in
      let z : ℕ = 8190 - 2 * n in
      let lf : length F ≡ 482 = length-head m s in
      let cut : pack m ≡ F ++ E ++ (zeros 2 ++ zeros z) =
      sym (append_assoc F E (zeros (8192 - length E))) ∙ ap (λ (r : List ℕ). F ++ E ++ r) (two-more (8192 - length E) z (omega arith)) in
      let stores : set (set (pack m) (482 + 2 * n) p) (483 + 2 * n) b ≡ F ++ E ++ (p ∷ b ∷ []) ++ zeros z =
      ap (λ (j : ℕ). set (set (pack m) (482 + 2 * n) p) j b) (next n)
      ∙ two-stores (pack m) (482 + 2 * n) p b (omega (arith, length-pack m s))
      ∙ mid (pack m) (F ++ E) (zeros 2) (zeros z) (p ∷ b ∷ []) (482 + 2 * n) (482 + 2 * n + 2) cut (length-append F E ∙ omega arith) refl in
      ap (λ (r : List ℕ). set r 1 (n + 1)) stores
      ∙ rejoin (length m.rows) (n + 1) (length (m.history ++ (e ∷ []))) (m.memory ++ padded 192 (pack_rows m.rows))
      E (p ∷ b ∷ []) (pack_history (m.history ++ (e ∷ []))) z (8192 - length (pack_history (m.history ++ (e ∷ []))))
      (sym (length-append m.history (e ∷ [])))
      (sym (pack_history-append m.history (e ∷ [])))
      (omega (arith, length-pack_history (m.history ++ (e ∷ [])), length-append m.history (e ∷ [])))

  pub closed-pack : (i : ℕ) → i < length m.history → closed_entry (pack m) i ≡ pack (without m i)
  unfolding closed_entry pack front without padded pack_history
  closed-pack i h =
      let n : ℕ = length m.history in
      let F : List ℕ = front m ++ padded 192 (pack_rows m.rows) in
      let A : List Kept = take i m.history in
      let B : List Kept = drop (suc i) m.history in
      let d : Kept = record { identifier = 0; block = 0 } in
      let T : List ℕ = m.memory ++ padded 192 (pack_rows m.rows) in
      let x : Kept = get_or m.history i d in
      let X : List ℕ = x.identifier ∷ x.block ∷ [] in
      let la : length A ≡ i = length-take-le i m.history (omega arith) in
      let lb : length B ≡ n - suc i = length-drop (suc i) m.history in
      let lea : length (pack_history A) ≡ 2 * length A = length-pack_history A in
      let leb : length (pack_history B) ≡ 2 * length B = length-pack_history B in
      let lf : length F ≡ 482 = length-head m s in
      let z : ℕ = 8192 - 2 * n in
      let lw : length (pack_history m.history) ≡ 2 * n = length-pack_history m.history in
      let split : pack_history m.history ≡ pack_history A ++ (X ++ pack_history B) =
      ap pack_history (split_at m.history i d h) ∙ pack_history-append A (x ∷ B) in
      let cut : pack m ≡ F ++ pack_history A ++ (X ++ pack_history B ++ zeros z) =
      cut4 F (pack_history m.history) (pack_history A) X (pack_history B) (8192 - length (pack_history m.history)) z split (omega arith) in
      let at : length (F ++ pack_history A) ≡ 482 + 2 * i = length-append F (pack_history A) ∙ omega arith in
      let body : take (2 * (n - 1 - i)) (drop (482 + 2 * i + 2) (pack m)) ≡ pack_history B =
      body4 (pack m) (F ++ pack_history A) X (pack_history B) (zeros z) (482 + 2 * i + 2) (2 * (n - 1 - i)) cut (omega arith) (omega arith) in
      let moves : splice (pack m) (482 + 2 * i) (take (2 * (n - 1 - i)) (drop (482 + 2 * i + 2) (pack m)) ++ zeros 2) (482 + 2 * n)
      ≡ F ++ pack_history A ++ (pack_history B ++ zeros 2) ++ zeros z =
      ap (λ (y : List ℕ). splice (pack m) (482 + 2 * i) (y ++ zeros 2) (482 + 2 * n)) body
      ∙ mid (pack m) (F ++ pack_history A) (X ++ pack_history B) (zeros z) (pack_history B ++ zeros 2) (482 + 2 * i) (482 + 2 * n) cut at (omega arith) in
      ap (λ (r : List ℕ). set r 1 (n - 1)) moves
      ∙ ap (λ (r : List ℕ). length m.rows ∷ (n - 1) ∷ r) (slide T (pack_history A) (pack_history B) 2 z)
      ∙ rejoin (length m.rows) (n - 1) (length (A ++ B)) T (pack_history A) (pack_history B) (pack_history (A ++ B)) (2 + z)
      (8192 - length (pack_history (A ++ B)))
      (omega (arith, length-append A B))
      (sym (pack_history-append A B))
      (omega (arith, length-pack_history (A ++ B), length-append A B, s.history4096))

  pub moved-pack : (i l t : ℕ) → i < length m.rows → moved_row (pack m) i l t ≡ pack (moved m i l t)
  unfolding moved_row pack front moved padded pack_rows
  moved-pack i l t h =
      let F : List ℕ = front m in
      let A : List Process = take i m.rows in
      let B : List Process = drop (suc i) m.rows in
      let d : Process = record { identifier = 0; stands = place 0 0 } in
      let x : Process = get_or m.rows i d in
      let X : List ℕ = x.stands.label ∷ x.stands.stage ∷ [] in
      let H : List ℕ = padded 8192 (pack_history m.history) in
      let la : length A ≡ i = length-take-le i m.rows (omega arith) in
      let lea : length (pack_rows A) ≡ 3 * length A = length-pack_rows A in
      let lf : length F ≡ 290 = length_front m s in
      let z : ℕ = 192 - length (pack_rows m.rows) in
      let A' : List ℕ = pack_rows A ++ (x.identifier ∷ []) in
      let split : pack_rows m.rows ≡ A' ++ (X ++ pack_rows B) =
      ap pack_rows (split_at m.rows i d h) ∙ pack_rows-append A (x ∷ B) ∙ sym (append_assoc (pack_rows A) (x.identifier ∷ []) (X ++ pack_rows B)) in
      let cut : pack m ≡ F ++ A' ++ (X ++ (pack_rows B ++ zeros z ++ H)) = cut5 F (pack_rows m.rows) A' X (pack_rows B) (zeros z) H split in
      let l1 : length A' ≡ length (pack_rows A) + 1 = length-append (pack_rows A) (x.identifier ∷ []) in
      let at : length (F ++ A') ≡ 291 + 3 * i = length-append F A' ∙ omega arith in
      let row : pack_rows (row_at m.rows i l t) ≡ A' ++ ((l ∷ t ∷ []) ++ pack_rows B) =
      ap pack_rows (row_at_split m.rows i l t d h)
      ∙ pack_rows-append A (record { identifier = x.identifier; stands = place l t } ∷ B)
      ∙ sym (append_assoc (pack_rows A) (x.identifier ∷ []) (l ∷ t ∷ pack_rows B)) in
      let zz : 192 - length (pack_rows (row_at m.rows i l t)) ≡ z =
      omega (arith, length-pack_rows m.rows, length-pack_rows (row_at m.rows i l t), length-row_at m.rows i l t) in
      ap (λ (j : ℕ). set (set (pack m) (291 + 3 * i) l) j t) (nextrow i)
      ∙ two-stores (pack m) (291 + 3 * i) l t (omega (arith, length-pack m s, s.rows64))
      ∙ mid (pack m) (F ++ A') X (pack_rows B ++ zeros z ++ H) (l ∷ t ∷ []) (291 + 3 * i) (291 + 3 * i + 2) cut at refl
      ∙ append_assoc (F ++ A') (l ∷ t ∷ []) (pack_rows B ++ zeros z ++ H)
      ∙ sym (cut5 F (pack_rows (row_at m.rows i l t)) A' (l ∷ t ∷ []) (pack_rows B) (zeros z) H row)
      ∙ ap (λ (j : ℕ). F ++ (pack_rows (row_at m.rows i l t) ++ zeros j) ++ H) (sym zz)
      ∙ ap (λ (j : ℕ). (j ∷ length m.history ∷ m.memory) ++ padded 192 (pack_rows (row_at m.rows i l t)) ++ H) (sym (length-row_at m.rows i l t))
