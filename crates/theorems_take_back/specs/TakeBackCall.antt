-- The call of [6] as rules defines it (rules' TakeBack): after code 32 no refusal is left, what goes is what came of the entry, and
-- the tests of rules are the statements of Request6. Assumes that the image is sound and the memory is 288 words.
use Rattle.std.proofs.Math.Path.{◌≡◌, refl, sym, ap, ap₂, subst}
use Rattle.std.proofs.Common.{◌∙◌, inl, inr, arith}
use Rattle.std.specs.Prelude.{◌⊎◌, false, ◌&&◌, ◌||◌}
use Rattle.std.proofs.Math.Bool.{Bool, true}
use Rattle.std.proofs.Math.Option.{Option, none, some}
use mathlib.Core.List.{List, [], ◌∷◌, ◌++◌, map}
use Prim.Native.Nat.{ℕ, zero, suc, ◌+◌, ◌/◌, ◌%◌}
use Rattle.std.proofs.Math.ListN.{length, length-append}
use Rattle.std.proofs.Math.Dec.{eqb}
use Rattle.theory.specs.Tests.{bool_cases, true_false, and-true, true_and}
use Rattle.theory.specs.Local.{Taken, slot}
use Rattle.theory.specs.Kinship.{below}
use Rattle.theory.specs.TakingBack.{Mark, stays, gone, kept, hit, follow, newest_first}
use Rattle.rules.specs.Base.{pick, some_of}
use Rattle.rules.specs.Machine.{Kept, Machine, standing}
use Rattle.rules.specs.Fits.{machine_fits}
use Rattle.rules.specs.Leaf.{Tried, made, refused}
use Rattle.rules.specs.TakeBack.{is_under, in_line, shares_written, comes_of, goes_from, goes, goers, undo_at, then_all, undo_all}
use Rattle.rules.specs.TakeBack.{newest_by, and_then, empties}
use Rattle.rules.specs.declared.Block.{Block}
use Rattle.rules.specs.declared.Place.{Place}
use Rattle.laws.specs.Conflict.{conflicts}
use Rattle.laws.proofs.Lists.{pick_true, pick-false}
use Rattle.theorems.specs.Memory.{Fine}
use Rattle.theorems.specs.Program.{Sound}
use Rattle.theorems.specs.Forward.{configuration_of, entry_of}
use Rattle.theorems.specs.Evaluate.{made-inj}
use Rattle.theorems_take_back.specs.Rooted.{Φ, depends, UndoneBy}
use Rattle.theorems_take_back.specs.Bottom.{EmptiedBy, newest-moves, rooted}
use Rattle.theorems_take_back.specs.TakenBack.{UndoneAll, came_of, newest-first}

pub under_same : (n p x : ℕ) → is_under n p x ≡ below n p x
unfolding is_under
under_same zero p x = refl
under_same (suc n) p x = ap (λ b. slot (x % 16) && (eqb (x / 16) p || b)) (under_same n p (x / 16))

-- ---- undos
module _ (program : List Block) (S : Sound program) where
  at-made :
      (m : Machine) (p : ℕ) (m' : Machine) (o : Option Place) → standing m.rows p ≡ o → undo_at program m p o ≡ made m' → UndoneBy program S m p m'
  at-made m p m' none e h = absurd (let z : ◌≡◌ {A = ℕ} 0 1 = cc in omega arith)
  at-made m p m' (some here) e h = record { here = here; live = e; undone = h }

  made_at : (m : Machine) (p : ℕ) (m' : Machine) → UndoneBy program S m p m' → undo_at program m p (standing m.rows p) ≡ made m'
  made_at m p m' d = ap (undo_at program m p) d.live ∙ d.undone

  pub undo-all : (ps : List ℕ) (m m' : Machine) → UndoneAll program S m ps m' → undo_all program m ps ≡ made m'
  unfolding undo_all
  undo-all [] m m' x = ap made x
  undo-all (p ∷ ps) m m' x =
      ap (λ (t : Tried Machine). then_all t (λ next. undo_all program next ps)) (made_at m p x.0 x.1) ∙ undo-all ps x.0 m' x.2

  pub all-undone : (ps : List ℕ) (m m' : Machine) → undo_all program m ps ≡ made m' → UndoneAll program S m ps m'
  unfolding undo_all
  all-undone [] m m' h = made-inj m m' h
  all-undone (p ∷ ps) m m' h =
      go (λ m₁ k. all-undone ps m₁ m' k) (undo_at program m p (standing m.rows p)) refl h
    where
      go :
          ((m₁ : Machine) → undo_all program m₁ ps ≡ made m' → UndoneAll program S m₁ ps m') → (t : Tried Machine) →
          undo_at program m p (standing m.rows p) ≡ t → then_all t (λ next. undo_all program next ps) ≡ made m' →
          UndoneAll program S m (p ∷ ps) m'
      go ih (made m₁) e k = (m₁, at-made m p m₁ (standing m.rows p) refl e, ih m₁ k)
      go ih (refused code) e k = absurd (let z : ◌≡◌ {A = ℕ} 0 1 = cc in omega arith)

  -- ---- code 35
  abbrev Ends : List Kept → Type 0
  Ends l = (h : List Kept) × (k : Kept) × (l ≡ h ++ k ∷ []) × (newest_by l ≡ k.identifier)

  ends : (k : Kept) (l : List Kept) → Ends (k ∷ l)
  ends k [] = ([], k, refl, refl)
  ends k (j ∷ l) = let i = ends j l in (k ∷ i.0, i.1, ap (λ (t : List Kept). k ∷ t) i.2, i.3)

  some_end : (n : ℕ) (l : List Kept) → length l ≡ suc n → Ends l
  some_end n [] h = absurd (omega (arith, h))
  some_end n (k ∷ l) h = ends k l

  pub emptied-by :
      (n : ℕ) (m : Machine) → length m.history ≡ n → empties program n m ≡ true →
      (t : List Kept) × (m₀ : Machine) × EmptiedBy program S m t m₀ × (length t ≡ n)
  unfolding empties
  emptied-by zero m e h = ([], m, (no_entry_there m.history e, refl), refl)
    where
      no_entry_there : (l : List Kept) → length l ≡ 0 → l ≡ []
      no_entry_there [] e = refl
      no_entry_there (k ∷ l) e = absurd (omega (arith, e))
  emptied-by (suc n) m e h =
      let a = and-true (machine_fits program m) _ h in
      let w = some_end n m.history e in
      go (λ m₁ q k. emptied-by n m₁ q k) a.0 w
      (undo_at program m (newest_by m.history) (standing m.rows (newest_by m.history))) refl a.1
    where
      go :
          ((m₁ : Machine) → length m₁.history ≡ n → empties program n m₁ ≡ true →
          (t : List Kept) × (m₀ : Machine) × EmptiedBy program S m₁ t m₀ × (length t ≡ n)) → machine_fits program m ≡ true → Ends m.history →
          (t : Tried Machine) → undo_at program m (newest_by m.history) (standing m.rows (newest_by m.history)) ≡ t →
          and_then t (λ next. empties program n next) ≡ true → (t : List Kept) × (m₀ : Machine) × EmptiedBy program S m t m₀ × (length t ≡ suc n)
      go ih passed w (refused code) q k = absurd (true_false k refl)
      go ih passed w (made m₁) q k =
          let h = w.0 in
          let j = w.1 in
          let d : UndoneBy program S m j.identifier m₁ =
          at-made m j.identifier m₁ (standing m.rows j.identifier) refl
          (subst (λ (p : ℕ). undo_at program m p (standing m.rows p) ≡ made m₁) w.3 q) in
          let v = newest-moves program S m m₁ h j passed w.2 d in
          let l₁ : length m.history ≡ length h + 1 = ap length w.2 ∙ length-append h (j ∷ []) in
          let l₂ : length m₁.history ≡ length h = ap length v.1 in
          let i = ih m₁ (omega (arith, l₁, l₂, e)) k in
          (j ∷ i.0, i.1, (passed, h, w.2, m₁, d, i.2), ap suc i.3)

  newest-by_last : (h : List Kept) (k : Kept) → newest_by (h ++ k ∷ []) ≡ k.identifier
  newest-by_last [] k = refl
  newest-by_last (j ∷ []) k = refl
  newest-by_last (j ∷ i ∷ h) k = newest-by_last (i ∷ h) k

  pub is-emptied : (t : List Kept) (m m₀ : Machine) → EmptiedBy program S m t m₀ → empties program (length t) m ≡ true
  unfolding empties
  is-emptied [] m m₀ x = refl
  is-emptied (k ∷ t) m m₀ x =
      let n : k.identifier ≡ newest_by m.history = sym (newest-by_last x.1 k) ∙ ap newest_by (sym x.2) in
      let u : undo_at program m (newest_by m.history) (standing m.rows (newest_by m.history)) ≡ made x.3 =
      subst (λ (p : ℕ). undo_at program m p (standing m.rows p) ≡ made x.3) n (made_at m k.identifier x.3 x.4) in
      true_and (machine_fits program m) _ x.0
      (ap (λ (o : Tried Machine). and_then o (λ next. empties program (length t) next)) u ∙ is-emptied t x.3 m₀ x.5)

  -- ---- what goes
  pub comes_same : (k j : Kept) → comes_of program k j ≡ depends program S (entry_of k) (entry_of j)
  unfolding comes_of in_line shares_written conflicts
  comes_same k j =
      ap₂ (λ (a b : Bool). eqb j.identifier k.identifier || ((a || b) || conflicts program k j)) (under_same 8 k.identifier j.identifier)
      (under_same 8 j.identifier k.identifier)

  hit_same : (found : List Kept) (j : Kept) → some_of (λ k. comes_of program k j) found ≡ hit (depends program S) (map entry_of found) (entry_of j)
  unfolding some_of
  hit_same [] j = refl
  hit_same (k ∷ found) j = ap₂ (λ (a b : Bool). a || b) (comes_same k j) (hit_same found j)

  abbrev pub marked : List Kept → List Bool → List (Mark Taken)
  marked [] g = []
  marked (k ∷ h) [] = stays (entry_of k) ∷ marked h []
  marked (k ∷ h) (true ∷ g) = gone (entry_of k) ∷ marked h g
  marked (k ∷ h) (false ∷ g) = stays (entry_of k) ∷ marked h g

  follow-same : (found w : List Kept) → marked w (goes_from program found w) ≡ follow (depends program S) (map entry_of found) (map entry_of w)
  unfolding goes_from
  follow-same found [] = refl
  follow-same found (j ∷ w) = go (follow-same (j ∷ found) w) (follow-same found w) (bool_cases (some_of (λ k. comes_of program k j) found))
    where
      H : Bool
      H = some_of (λ k. comes_of program k j) found

      go :
          marked w (goes_from program (j ∷ found) w) ≡ follow (depends program S) (entry_of j ∷ map entry_of found) (map entry_of w) →
          marked w (goes_from program found w) ≡ follow (depends program S) (map entry_of found) (map entry_of w) → (H ≡ true) ⊎ (H ≡ false) →
          marked (j ∷ w) (pick H (true ∷ goes_from program (j ∷ found) w) (false ∷ goes_from program found w))
          ≡ follow (depends program S) (map entry_of found) (entry_of j ∷ map entry_of w)
      go a b (inl x) =
          ap (marked (j ∷ w)) (pick_true H (true ∷ goes_from program (j ∷ found) w) (false ∷ goes_from program found w) x)
          ∙ ap (λ (l : List (Mark Taken)). gone (entry_of j) ∷ l) a ∙ rw (sym (hit_same found j) ∙ x)
      go a b (inr x) =
          ap (marked (j ∷ w)) (pick-false H (true ∷ goes_from program (j ∷ found) w) (false ∷ goes_from program found w) x)
          ∙ ap (λ (l : List (Mark Taken)). stays (entry_of j) ∷ l) b ∙ rw (sym (hit_same found j) ∙ x)

  pub goes_same : (u : List Kept) (k : Kept) (w : List Kept) → marked (u ++ k ∷ w) (goes program (u ++ k ∷ w) (length u)) ≡ came_of program S u k w
  unfolding goes
  goes_same [] k w = ap (λ (l : List (Mark Taken)). gone (entry_of k) ∷ l) (follow-same (k ∷ []) w)
  goes_same (j ∷ u) k w = ap (λ (l : List (Mark Taken)). stays (entry_of j) ∷ l) (goes_same u k w)

  pub goers-same : (h : List Kept) (g : List Bool) → goers h g ≡ newest_first (Φ program S) (marked h g)
  unfolding goers pick
  goers-same [] g = refl
  goers-same (k ∷ h) [] = sym (none h)
    where
      none : (h : List Kept) → newest_first (Φ program S) (marked h []) ≡ []
      none [] = refl
      none (k ∷ h) = none h
  goers-same (k ∷ h) (true ∷ g) = ap (λ (l : List ℕ). l ++ k.identifier ∷ []) (goers-same h g)
  goers-same (k ∷ h) (false ∷ g) = goers-same h g

  -- On a machine that passes 17 and 35, and for an entry number below the history count, the call's undos are accepted, and what is left of the
  -- history is what did not come of the entry, in its order.
  pub record Takes (m : Machine) (u : List Kept) (k : Kept) (w : List Kept) : Type 0 where
    pub leaves : Machine
    pub accepted : undo_all program m (goers m.history (goes program m.history (length u))) ≡ made leaves
    pub rest : map entry_of leaves.history ≡ kept (marked m.history (goes program m.history (length u)))

  pub takes :
      (m : Machine) (u : List Kept) (k : Kept) (w : List Kept) → m.history ≡ u ++ k ∷ w → machine_fits program m ≡ true → Fine m.memory →
      empties program (length m.history) m ≡ true → Takes m u k w
  takes m u k w parts passed fine h =
      let e = emptied-by (length m.history) m refl h in
      let r = rooted program S e.0 m e.1 passed fine e.2 in
      let g = newest-first program S (configuration_of e.1) m r u k w parts in
      let same : marked m.history (goes program m.history (length u)) ≡ came_of program S u k w =
      ap (λ (l : List Kept). marked l (goes program l (length u))) parts ∙ goes_same u k w in
      let who : goers m.history (goes program m.history (length u)) ≡ newest_first (Φ program S) (came_of program S u k w) =
      goers-same m.history (goes program m.history (length u)) ∙ ap (newest_first (Φ program S)) same in
      record {
        leaves = g.leaves;
        accepted = ap (undo_all program m) who ∙ undo-all (newest_first (Φ program S) (came_of program S u k w)) m g.leaves g.undoes;
        rest = g.rest ∙ ap kept (sym same);
      }
