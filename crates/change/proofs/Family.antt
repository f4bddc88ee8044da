-- Rows put in and taken out of a packed machine, by their place. Assumes nothing.
use mathlib.Core.Path.{◌≡◌, sym, ap, ap₂, ◌∙◌}
use mathlib.Core.List.{List, ◌∷◌, ◌++◌, append_assoc}
use Prim.Native.Nat.{ℕ, ◌+◌, ◌-◌, ◌*◌, ◌≤◌}
use native.Mathlib.Omega.{arith}
use lib.ListN.{length, take, drop, set, length-append, length-replicate, length-drop, take-append-drop}
use lib.Seq.{take_at, drop_at, drop-drop, length-take-le}
use Rattle.rules.specs.Base.{zeros}
use Rattle.rules.specs.Machine.{Process, Machine, pack_rows, pack_history, padded, pack}
use Rattle.laws.proofs.Pack.{Sized, front, length_front, pack_rows-append, length-pack_rows}
use Rattle.machine.specs.Splice.{splice}
use Rattle.change.specs.Words.{inserted_rows, removed_rows}
use Rattle.machine.specs.Index.{inserted, removed}
use Rattle.machine.proofs.Splice.{mid, zeros-add}

-- the words of a part that starts where the first piece ends
part_at : (w A B S : List ℕ) (i k : ℕ) → w ≡ A ++ (B ++ S) → length A ≡ i → length B ≡ k → take k (drop i w) ≡ B
part_at w A B S i k e a b =
    ap (λ (r : List ℕ). take k (drop i r)) e ∙ ap (λ (r : List ℕ). take k r) (drop_at A (B ++ S) i a) ∙ take_at B S k b

-- the rows' words in three pieces within a machine's words
split3 : (F E A X B Z H : List ℕ) → E ≡ A ++ (X ++ B) → F ++ (E ++ Z) ++ H ≡ F ++ A ++ (X ++ B ++ (Z ++ H))
split3 F E A X B Z H e =
    let re : F ++ (A ++ (X ++ B) ++ Z) ++ H ≡ F ++ A ++ (X ++ B ++ (Z ++ H)) = simp append_assoc in
    ap (λ (l : List ℕ). F ++ (l ++ Z) ++ H) e ∙ re

module _ (m : Machine) (s : Sized m) where
  pub removed-pack : (i n : ℕ) → i + n ≤ length m.rows → removed_rows (pack m) i n ≡ pack (removed m i n)
  unfolding removed_rows pack front removed padded
  removed-pack i n h =
      let live : ℕ = length m.rows in
      let F : List ℕ = front m in
      let T : List ℕ = m.memory in
      let A : List Process = take i m.rows in
      let X : List Process = take n (drop i m.rows) in
      let B : List Process = drop (i + n) m.rows in
      let H : List ℕ = padded 8192 (pack_history m.history) in
      let z : ℕ = 192 - length (pack_rows m.rows) in
      let la : length A ≡ i = length-take-le i m.rows (omega arith) in
      let ld : length (drop i m.rows) ≡ live - i = length-drop i m.rows in
      let lx : length X ≡ n = length-take-le n (drop i m.rows) (omega arith) in
      let lb : length B ≡ live - (i + n) = length-drop (i + n) m.rows in
      let wa : length (pack_rows A) ≡ 3 * length A = length-pack_rows A in
      let wx : length (pack_rows X) ≡ 3 * length X = length-pack_rows X in
      let wb : length (pack_rows B) ≡ 3 * length B = length-pack_rows B in
      let wr : length (pack_rows m.rows) ≡ 3 * live = length-pack_rows m.rows in
      let lf : length F ≡ 290 = length_front m s in
      let rows : m.rows ≡ A ++ (X ++ B) =
      sym (take-append-drop i m.rows)
      ∙ ap (λ (l : List Process). A ++ l) (sym (take-append-drop n (drop i m.rows)) ∙ ap (λ (l : List Process). X ++ l) (drop-drop n i m.rows)) in
      let split : pack_rows m.rows ≡ pack_rows A ++ (pack_rows X ++ pack_rows B) =
      ap pack_rows rows ∙ pack_rows-append A (X ++ B) ∙ ap (λ (l : List ℕ). pack_rows A ++ l) (pack_rows-append X B) in
      let cut : pack m ≡ F ++ pack_rows A ++ (pack_rows X ++ pack_rows B ++ (zeros z ++ H)) =
      split3 F (pack_rows m.rows) (pack_rows A) (pack_rows X) (pack_rows B) (zeros z) H split in
      let cut' : pack m ≡ F ++ pack_rows A ++ pack_rows X ++ (pack_rows B ++ (zeros z ++ H)) =
      cut ∙ re4 (F ++ pack_rows A) (pack_rows X) (pack_rows B) (zeros z ++ H) in
      let l1 : length (F ++ pack_rows A) ≡ 290 + 3 * i = length-append F (pack_rows A) ∙ omega arith in
      let l2 : length (F ++ pack_rows A ++ pack_rows X) ≡ 290 + 3 * i + 3 * n = length-append (F ++ pack_rows A) (pack_rows X) ∙ omega arith in
      let body : take (3 * (live - i - n)) (drop (290 + 3 * i + 3 * n) (pack m)) ≡ pack_rows B =
      part_at (pack m) (F ++ pack_rows A ++ pack_rows X) (pack_rows B) (zeros z ++ H) (290 + 3 * i + 3 * n) (3 * (live - i - n)) cut' l2 (omega arith) in
      let l3 : 290 + 3 * i + length (pack_rows X ++ pack_rows B) ≡ 290 + 3 * live =
      ap (λ (k : ℕ). 290 + 3 * i + k) (length-append (pack_rows X) (pack_rows B)) ∙ omega arith in
      let ab : pack_rows (A ++ B) ≡ pack_rows A ++ pack_rows B = pack_rows-append A B in
      let lab : length (A ++ B) ≡ live - n = length-append A B ∙ omega arith in
      let zz : 192 - length (pack_rows (A ++ B)) ≡ 3 * n + z = omega (arith, length-pack_rows (A ++ B), s.rows64) in
      ap (λ (r : List ℕ). set (splice (pack m) (290 + 3 * i) (r ++ zeros (3 * n)) (290 + 3 * live)) 0 (live - n)) body
      ∙ ap (λ (r : List ℕ). set r 0 (live - n))
      (mid (pack m) (F ++ pack_rows A) (pack_rows X ++ pack_rows B) (zeros z ++ H) (pack_rows B ++ zeros (3 * n)) (290 + 3 * i) (290 + 3 * live)
      cut l1 l3)
      ∙ ap (λ (r : List ℕ). (live - n) ∷ length m.history ∷ r) (join T (pack_rows A) (pack_rows B) (3 * n) z H)
      ∙ ap₂ (λ (r : List ℕ) (k : ℕ). (live - n) ∷ length m.history ∷ (T ++ (r ++ zeros k) ++ H)) (sym ab) (sym zz)
      ∙ ap (λ (k : ℕ). k ∷ length m.history ∷ (T ++ (pack_rows (A ++ B) ++ zeros (192 - length (pack_rows (A ++ B)))) ++ H)) (sym lab)
    where
      re4 : (P X B S : List ℕ) → P ++ (X ++ B ++ S) ≡ P ++ X ++ (B ++ S)
      re4 P X B S = simp append_assoc

      join : (T A B : List ℕ) (j z : ℕ) (H : List ℕ) → T ++ A ++ (B ++ zeros j) ++ (zeros z ++ H) ≡ T ++ (A ++ B ++ zeros (j + z)) ++ H
      join T A B j z H =
          let re : (Y Z : List ℕ) → T ++ A ++ (B ++ Y) ++ (Z ++ H) ≡ T ++ (A ++ B ++ (Y ++ Z)) ++ H = λ Y Z. simp append_assoc in
          re (zeros j) (zeros z) ∙ ap (λ (l : List ℕ). T ++ (A ++ B ++ l) ++ H) (zeros-add j z)

  pub inserted-pack : (i : ℕ) (new : List Process) → i ≤ length m.rows → length m.rows + length new ≤ 64
      → inserted_rows (pack m) i (length new) (pack_rows new) ≡ pack (inserted m i new)
  unfolding inserted_rows pack front inserted padded
  inserted-pack i new h k =
      let live : ℕ = length m.rows in
      let n : ℕ = length new in
      let F : List ℕ = front m in
      let T : List ℕ = m.memory in
      let A : List Process = take i m.rows in
      let B : List Process = drop i m.rows in
      let H : List ℕ = padded 8192 (pack_history m.history) in
      let z : ℕ = 192 - 3 * (live + n) in
      let la : length A ≡ i = length-take-le i m.rows h in
      let lb : length B ≡ live - i = length-drop i m.rows in
      let wa : length (pack_rows A) ≡ 3 * length A = length-pack_rows A in
      let wb : length (pack_rows B) ≡ 3 * length B = length-pack_rows B in
      let wr : length (pack_rows m.rows) ≡ 3 * live = length-pack_rows m.rows in
      let lf : length F ≡ 290 = length_front m s in
      let split : pack_rows m.rows ≡ pack_rows A ++ pack_rows B = ap pack_rows (sym (take-append-drop i m.rows)) ∙ pack_rows-append A B in
      let cut : pack m ≡ F ++ pack_rows A ++ (pack_rows B ++ zeros (3 * n) ++ (zeros z ++ H)) =
      ap₂ (λ (l : List ℕ) (j : ℕ). F ++ (l ++ zeros j) ++ H) split (eq (192 - length (pack_rows m.rows)) (3 * n + z) (omega arith))
      ∙ ap (λ (l : List ℕ). F ++ (pack_rows A ++ pack_rows B ++ l) ++ H) (sym (zeros-add (3 * n) z))
      ∙ re6 F (pack_rows A) (pack_rows B) (zeros (3 * n)) (zeros z) H in
      let cut' : pack m ≡ F ++ pack_rows A ++ (pack_rows B ++ (zeros (3 * n) ++ (zeros z ++ H))) =
      cut ∙ ap (λ (l : List ℕ). F ++ pack_rows A ++ l) (append_assoc (pack_rows B) (zeros (3 * n)) (zeros z ++ H)) in
      let l1 : length (F ++ pack_rows A) ≡ 290 + 3 * i = length-append F (pack_rows A) ∙ omega arith in
      let body : take (3 * (live - i)) (drop (290 + 3 * i) (pack m)) ≡ pack_rows B =
      part_at (pack m) (F ++ pack_rows A) (pack_rows B) (zeros (3 * n) ++ (zeros z ++ H)) (290 + 3 * i) (3 * (live - i)) cut' l1 (omega arith) in
      let l3 : 290 + 3 * i + length (pack_rows B ++ zeros (3 * n)) ≡ 290 + 3 * (live + n) =
      ap (λ (j : ℕ). 290 + 3 * i + j)
      (length-append (pack_rows B) (zeros (3 * n)) ∙ ap (λ (j : ℕ). length (pack_rows B) + j) (length-replicate (3 * n) 0))
      ∙ omega arith in
      let rows : List Process = A ++ new ++ B in
      let wn : pack_rows rows ≡ pack_rows A ++ pack_rows new ++ pack_rows B =
      pack_rows-append (A ++ new) B ∙ ap (λ (l : List ℕ). l ++ pack_rows B) (pack_rows-append A new) in
      let ln : length rows ≡ live + n = length-append (A ++ new) B ∙ omega (arith, length-append A new) in
      let zz : 192 - length (pack_rows rows) ≡ z = omega (arith, length-pack_rows rows) in
      ap (λ (r : List ℕ). set (splice (pack m) (290 + 3 * i) (pack_rows new ++ r) (290 + 3 * (live + n))) 0 (live + n)) body
      ∙ ap (λ (r : List ℕ). set r 0 (live + n))
      (mid (pack m) (F ++ pack_rows A) (pack_rows B ++ zeros (3 * n)) (zeros z ++ H) (pack_rows new ++ pack_rows B) (290 + 3 * i)
      (290 + 3 * (live + n)) cut l1 l3)
      ∙ ap (λ (r : List ℕ). (live + n) ∷ length m.history ∷ r) (re5 T (pack_rows A) (pack_rows new) (pack_rows B) (zeros z) H)
      ∙ ap₂ (λ (r : List ℕ) (j : ℕ). (live + n) ∷ length m.history ∷ (T ++ (r ++ zeros j) ++ H)) (sym wn) (sym zz)
      ∙ ap (λ (j : ℕ). j ∷ length m.history ∷ (T ++ (pack_rows rows ++ zeros (192 - length (pack_rows rows))) ++ H)) (sym ln)
    where
      eq : (a b : ℕ) → a ≡ b → a ≡ b
      eq a b e = e

      re6 : (F A B Y Z H : List ℕ) → F ++ (A ++ B ++ (Y ++ Z)) ++ H ≡ F ++ A ++ (B ++ Y ++ (Z ++ H))
      re6 F A B Y Z H = simp append_assoc

      re5 : (T A N B Z H : List ℕ) → T ++ A ++ (N ++ B) ++ (Z ++ H) ≡ T ++ (A ++ N ++ B ++ Z) ++ H
      re5 T A N B Z H = simp append_assoc
