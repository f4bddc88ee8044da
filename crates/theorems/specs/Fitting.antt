-- A machine passes code 17, row by row, whose rows are well-formed, hang from the root and name the newest entries of its history; so
-- does a reached one. Assumes that the image is sound.
use Rattle.std.specs.Prelude.{◌≡◌, refl, ◌⊎◌, ◌≢◌, ◌||◌, length, ltb}
use Rattle.std.proofs.Math.Path.{sym, ap, subst}
use Rattle.std.proofs.Common.{◌∙◌, inl, inr, arith, lt-ltb}
use Rattle.std.proofs.Math.Bool.{Bool, true, false}
use Rattle.std.proofs.Math.Option.{Option, none, some}
use mathlib.Core.List.{List, [], ◌∷◌, ◌++◌, map}
use Prim.Native.Nat.{ℕ, zero, suc, ◌+◌, ◌/◌, ◌%◌, ◌<◌, ◌≤◌}
use Rattle.std.proofs.Math.Decide.{ℕ_discrete, dec_le}
use Rattle.std.proofs.Math.ListN.{get_elem?}
use Rattle.std.proofs.Math.Dec.{eqb}
use Rattle.theory.specs.Replay
use Rattle.theory.specs.Tests.{bool_cases, eqb_same, eqb-other, true_and, or_left, or_right, none-some}
use Rattle.theory.specs.Histories.{NoneBy}
use Rattle.theory.specs.Local.{Taken, slot, is_kid, kid-facts}
use Rattle.theory.specs.Shapes.{footprints}
use Rattle.theory.specs.Family.{Family, OfLabel, Ok}
use Rattle.theory.specs.Machine.{mark, named, lawful}
use Rattle.theory.specs.Emptied.{NamesNewest}
use Rattle.theory.specs.Started.{bare}
use Rattle.theory.specs.Peak.{Hangs}
use Rattle.theory.specs.Optional.{onto, slot_of}
use Rattle.rules.specs.Base.{pick, each_of, up_from, alike}
use Rattle.rules.specs.Format.{main}
use Rattle.rules.specs.Labels.{called, home}
use Rattle.rules.specs.Calls.{most_rows}
use Rattle.rules.specs.Machine.{Process, Kept, Machine, begin, end, root, child, parent, standing, children, place}
use Rattle.rules.specs.Fits.{entry_block, exit_block, called_at, ascending, stands_in, stands_in_some, root_in, root_fits, is_live, parent_fits, nth, child_label, own_label, own_fits, children_fit, newest, or_else, is_block, newest_fits, row_fits, kept_fits, machine_fits}
use Rattle.rules.specs.declared.Block.{Block}
use Rattle.rules.specs.declared.Place.{Place}
use Rattle.laws.proofs.Lists.{pick_true, pick-false}
use Rattle.theorems.specs.Memory.{Fine}
use Rattle.theorems.specs.Parts.{calls, out_of, label_of, home_of, Standing}
use Rattle.theorems.specs.Program.{Sound, real, exit-some, some-exit, home-outer, home-run}
use Rattle.theorems.specs.Tables.{row_at, Sorted, of_sorted, standing_here, standing-past, standing-low, standing-none, standing-each, none-empty}
use Rattle.theorems.specs.Children.{kids}
use Rattle.theorems.specs.Room.{rows-room}
use Rattle.theorems.specs.Waiting.{kids-kid, children-kid, children-some, children-sorted, some-children}
use Rattle.theorems.specs.Forward.{Configuration, configuration_of, entry_of, Well, ahead, few-labels}
use Rattle.theorems.specs.Backward.{behind}
use Rattle.theorems.specs.Reached.{Reached, reached-rows, laws, origin, origin-ok}
use Rattle.theorems.specs.Identifiers.{parent-family, reached-kept}

-- ---- lists
alike_same : (l : List ℕ) → alike l l ≡ true
unfolding alike
alike_same [] = refl
alike_same (x ∷ l) = true_and (eqb x x) (alike l l) (eqb_same x x refl) (alike_same l)

abbrev pub Live : Option Place → Type 0
Live o = (a : Place) × (o ≡ some a)

-- sorted rows that stand just from a on, n of them, have the identifiers a, a + 1, ..
row-by_row :
    (rows : List Process) (a n : ℕ) → Sorted rows → ((x : ℕ) → Live (standing rows x) → (a ≤ x) × (x < a + n)) →
    ((x : ℕ) → a ≤ x → x < a + n → Live (standing rows x)) →
    map (λ r. r.identifier) rows ≡ up_from a n
unfolding up_from
row-by_row rows a zero s in-range live =
    ap (map (λ (r : Process). r.identifier)) (none-empty rows (λ x. go x (standing rows x) refl))
  where
    go : (x : ℕ) (o : Option Place) → standing rows x ≡ o → standing rows x ≡ none
    go x none e = e
    go x (some q) e = let r = in-range x (q, e) in absurd (omega (arith, r.0, r.1))
row-by_row [] a (suc n) s in-range live = let l = live a (omega arith) (omega arith) in absurd (none-some (sym (standing-none a) ∙ l.1))
row-by_row (r ∷ rows) a (suc n) s in-range live =
    let tail = row-by_row rows (suc a) n s.1 (λ x l. later x l) (λ x lo hi. rest x lo (omega (arith, hi))) in
    λ i. first i ∷ tail i
  where
    lo : a ≤ r.identifier
    lo = (in-range r.identifier (r.stands, standing_here r rows r.identifier refl)).0

    at : (d : Dec (r.identifier ≡ a)) → r.identifier ≡ a
    at (yes e) = e
    at (no d) =
        let l = live a (omega arith) (omega arith) in
        absurd (none-some (sym (standing-past r rows a d ∙ standing-low rows r.identifier a (omega (arith, lo)) s.0) ∙ l.1))

    first : r.identifier ≡ a
    first = at (ℕ_discrete r.identifier a)

    above : (x : ℕ) → Live (standing rows x) → Dec (suc r.identifier ≤ x) → r.identifier < x
    above x l (yes h) = h
    above x l (no h) = absurd (none-some (sym (standing-low rows r.identifier x (omega (arith, h)) s.0) ∙ l.1))

    later : (x : ℕ) → Live (standing rows x) → (suc a ≤ x) × (x < suc a + n)
    later x l =
        let g = above x l (dec_le (suc r.identifier) x) in
        let q = in-range x (l.0, standing-past r rows x (λ e. omega (arith, e, g)) ∙ l.1) in
        (omega (arith, g, first), omega (arith, q.1))

    rest : (x : ℕ) → suc a ≤ x → x < a + suc n → Live (standing rows x)
    rest x h k =
        let l = live x (omega arith) k in
        (l.0, sym (standing-past r rows x (λ e. omega (arith, e, first, h))) ∙ l.1)

-- the labels of a list, by number
pub nth_in : (ls : List ℕ) (i l : ℕ) → nth ls i ≡ some l → (1 ≤ i) × (i ≤ length ls)
nth_in ls zero l e = absurd (none-some e)
nth_in ls (suc i) l e = (omega arith, go ls i e)
  where
    go : (ls : List ℕ) (i : ℕ) → get_elem? ls i ≡ some l → suc i ≤ length ls
    go [] i e = absurd (none-some e)
    go (k ∷ ls) zero e = omega arith
    go (k ∷ ls) (suc i) e = omega (arith, go ls i e)

in_nth : (ls : List ℕ) (i : ℕ) → 1 ≤ i → i ≤ length ls → (l : ℕ) × (nth ls i ≡ some l)
in_nth ls zero lo hi = absurd (omega arith)
in_nth ls (suc i) lo hi = go ls i (omega arith)
  where
    go : (ls : List ℕ) (i : ℕ) → i < length ls → (l : ℕ) × (get_elem? ls i ≡ some l)
    go [] i h = absurd (omega arith)
    go (k ∷ ls) zero h = (k, refl)
    go (k ∷ ls) (suc i) h = go ls i (omega arith)

-- ---- the newest entry of a history
newest-none :
    (program : List Block) (S : Sound program) (h : List Kept) (p : ℕ) → NoneBy (footprints (real program S)) p (map entry_of h) → newest h p ≡ none
unfolding newest
newest-none program S [] p n = refl
newest-none program S (k ∷ h) p n =
    ap (λ (o : Option ℕ). or_else o (pick (eqb k.identifier p) (some k.block) none)) (newest-none program S h p n.1)
    ∙ pick-false (eqb k.identifier p) (some k.block) none (eqb-other k.identifier p n.0)

tails : (a b : Taken) (l m : List Taken) → a ∷ l ≡ b ∷ m → (a ≡ b) × (l ≡ m)
tails a b l m h = (cc, cc)

newest-mapped :
    (program : List Block) (S : Sound program) (h : List Kept) (u w : List Taken) (e : Taken) → map entry_of h ≡ u ++ e ∷ w →
    NoneBy (footprints (real program S)) e.process w → newest h e.process ≡ some e.block
unfolding newest
newest-mapped program S [] [] w e q n = absurd (nothing q)
  where
    IsNil : List Taken → Type 0
    IsNil [] = Unit {0}
    IsNil (x ∷ l) = ⊥

    nothing : [] ≡ e ∷ w → ⊥
    nothing q = subst IsNil q tt
newest-mapped program S [] (f ∷ u) w e q n = absurd (nothing q)
  where
    IsNil : List Taken → Type 0
    IsNil [] = Unit {0}
    IsNil (x ∷ l) = ⊥

    nothing : [] ≡ f ∷ (u ++ e ∷ w) → ⊥
    nothing q = subst IsNil q tt
newest-mapped program S (k ∷ h) [] w e q n =
    let t = tails (entry_of k) e (map entry_of h) w q in
    let own : k.identifier ≡ e.process = ap (λ (z : Taken). z.process) t.0 in
    ap (λ (o : Option ℕ). or_else o (pick (eqb k.identifier e.process) (some k.block) none))
    (newest-none program S h e.process (subst (NoneBy (footprints (real program S)) e.process) (sym t.1) n))
    ∙ pick_true (eqb k.identifier e.process) (some k.block) none (eqb_same k.identifier e.process own)
    ∙ ap (λ (z : Taken). some z.block) t.0
newest-mapped program S (k ∷ h) (f ∷ u) w e q n =
    let t = tails (entry_of k) f (map entry_of h) (u ++ e ∷ w) q in
    ap (λ (o : Option ℕ). or_else o (pick (eqb k.identifier e.process) (some k.block) none)) (newest-mapped program S h u w e t.1 n)

-- ---- a process in its own process block
module _ (program : List Block) (S : Sound program) where
  stands-in : (a : Place) → Standing program a → stands_in program (home_of program a) a ≡ true
  unfolding stands_in
  stands-in a (inl x) = outer a (inl x.0)
    where
      outer : (a : Place) → (a.stage ≡ begin) ⊎ (a.stage ≡ end) → stands_in program (home_of program a) a ≡ true
      outer a h =
          pick_true (eqb a.stage begin || eqb a.stage end) (eqb a.label (home_of program a)) _ (either h) ∙ eqb_same a.label
          (home_of program a) (sym (home-outer program S a h))
        where
          either : (a.stage ≡ begin) ⊎ (a.stage ≡ end) → (eqb a.stage begin || eqb a.stage end) ≡ true
          either (inl e) = or_left (eqb a.stage begin) (eqb a.stage end) (eqb_same a.stage begin e)
          either (inr e) = or_right (eqb a.stage begin) (eqb a.stage end) (eqb_same a.stage end e)
  stands-in a (inr (inl x)) =
      let n : (eqb a.stage begin || eqb a.stage end) ≡ false = ap (λ (s : ℕ). eqb s begin || eqb s end) x.0 in
      pick-false (eqb a.stage begin || eqb a.stage end) (eqb a.label (home_of program a)) _ n
      ∙ true_and (ltb (entry_block program a) (length program)) (eqb (home program (entry_block program a)) (home_of program a))
      (lt-ltb (entry_block program a) (length program) x.1)
      (eqb_same (home program (entry_block program a)) (home_of program a) (sym (home-run program S a x.0)))
  stands-in a (inr (inr x)) =
      pick_true (eqb a.stage begin || eqb a.stage end) (eqb a.label (home_of program a)) _
      (or_right (eqb a.stage begin) (eqb a.stage end) (eqb_same a.stage end x.0))
      ∙ eqb_same a.label (home_of program a) (sym (home-outer program S a (inr x.0)))

  kid-label : (v : Option Place) (t : Option ℕ) (a : Place) → OfLabel (real program S) v t → v ≡ some a → t ≡ some (home_of program a)
  kid-label none none a x e = absurd (none-some e)
  kid-label none (some t) a x e = absurd x
  kid-label (some c) none a x e = absurd x
  kid-label (some c) (some t) a x e = let z : c ≡ a = cc in ap some (sym x ∙ ap (home_of program) z)

  label-kid : (v : Option Place) (t : Option ℕ) (l : ℕ) → OfLabel (real program S) v t → t ≡ some l → Live v
  label-kid none none l x e = absurd (none-some e)
  label-kid none (some t) l x e = absurd x
  label-kid (some c) t l x e = (c, refl)

  out-called : (b : ℕ) → calls program b ≡ true → called_at program (out_of program b) ≡ called program b
  unfolding called_at
  out-called b c = ap (called program) (exit-some program S (out_of program b) b ((real program S).out_exit b c)).1

  -- what a row names is the newest entry of its process
  abbrev pub Names : Configuration → List Taken → Type 0
  Names =
      NamesNewest (footprints (real program S)) (ahead program S) (behind program S) (Ok (real program S)) (mark (real program S))
      (lawful (real program S))

  -- well-formed rows that ascend and hang from the root, and that name the newest entries of a known history, fit
  module _
      (m : Machine) (ordered : Sorted m.rows) (ok : Well program S (standing m.rows)) (H : Hangs (real program S) (standing m.rows))
      (names : Names (configuration_of m) (map entry_of m.history)) (known : each_of (kept_fits program) m.history ≡ true) where
    abbrev T : ℕ → Option Place
    T = standing m.rows

    top-home : home_of program H.top ≡ main
    top-home = H.in_main ∙ home-outer program S (place main begin) (inl refl)

    root-fits : root_fits program m.rows ≡ true
    unfolding root_fits
    root-fits =
        ap (root_in program) H.top_is ∙ subst (λ (l : ℕ). stands_in program l H.top ≡ true) top-home
        (stands-in H.top (ok.places 0 H.top H.top_is))

    module _ (x : ℕ) (a : Place) (live : T x ≡ some a) where
      parent-fits : parent_fits m.rows (row_at x a) ≡ true
      unfolding parent_fits
      parent-fits = go (H.tree x a live)
        where
          go : (x ≡ 0) ⊎ (is_kid (x / 16) x ≡ true) → (eqb x root || is_live (T (parent x))) ≡ true
          go (inl e) = or_left (eqb x root) (is_live (T (parent x))) (eqb_same x root e)
          go (inr k) = or_right (eqb x root) (is_live (T (parent x))) (ap is_live (parent-family program S T x a ok live k).at_out)

      own-fits : own_fits program m.rows (row_at x a) ≡ true
      unfolding own_fits own_label
      own-fits = ap (λ (o : Option ℕ). stands_in_some program o a) (go (H.tree x a live)) ∙ stands-in a (ok.places x a live)
        where
          go :
              (x ≡ 0) ⊎ (is_kid (x / 16) x ≡ true) → pick (eqb x root) (some main)
              (child_label program (T (parent x)) (x % 16)) ≡ some (home_of program a)
          go (inl e) =
              let same : H.top ≡ a = top_is e in
              pick_true (eqb x root) (some main) (child_label program (T (parent x)) (x % 16)) (eqb_same x root e) ∙ ap some
              (sym top-home ∙ ap (home_of program) same)
            where
              top_is : x ≡ 0 → H.top ≡ a
              top_is e = let p = H.top_is in let q : T 0 ≡ some a = ap T (sym e) ∙ live in let z : some H.top ≡ some a = sym p ∙ q in cc
          go (inr k) =
              let f = kid-facts (x / 16) x k in
              let F = parent-family program S T x a ok live k in
              let n : eqb x root ≡ false = eqb-other x root (λ e. let z : x % 16 ≡ 0 = ap (λ (q : ℕ). q % 16) e in omega (arith, f.0, z)) in
              pick-false (eqb x root) (some main) (child_label program (T (parent x)) (x % 16)) n
              ∙ ap (λ (o : Option Place). child_label program o (x % 16)) F.at_out
              ∙ ap (λ (ls : List ℕ). nth ls (x % 16)) (out-called F.b F.called)
              ∙ kid-label (kids T (x / 16) (x % 16)) (label_of program F.b (x % 16)) a (F.each (x % 16) (slot_of (x % 16) f.0 f.1))
              (kids-kid T (x / 16) x k ∙ live)

      children-fit : children_fit program m.rows (row_at x a) ≡ true
      unfolding children_fit
      children-fit = go (bool_cases (eqb (length (children m.rows x)) 0))
        where
          rest : List ℕ → Bool
          rest ls = alike (map (λ c. c.identifier) (children m.rows x)) (up_from (child x 1) (length ls))

          family : eqb (length (children m.rows x)) 0 ≡ false → Family (real program S) T x
          family h = ok.family x (some-children m.rows x ordered H.tree h)

          ids :
              (h : eqb (length (children m.rows x)) 0 ≡ false) →
              map (λ (c : Process). c.identifier) (children m.rows x) ≡ up_from (child x 1) (length (called program (family h).b))
          ids h = row-by_row (children m.rows x) (child x 1) (length ls) (children-sorted m.rows x ordered) inside outside
            where
              F : Family (real program S) T x
              F = family h

              ls : List ℕ
              ls = called program F.b

              few : length ls ≤ 8
              few = few-labels program S F.b F.called

              inside : (y : ℕ) → Live (standing (children m.rows x) y) → (child x 1 ≤ y) × (y < child x 1 + length ls)
              inside y l =
                  let c = children-some m.rows x y l.0 H.tree l.1 in
                  let f = kid-facts x y c.0 in
                  let lb =
                  kid-label (kids T x (y % 16)) (label_of program F.b (y % 16)) l.0 (F.each (y % 16) (slot_of (y % 16) f.0 f.1))
                  (kids-kid T x y c.0 ∙ c.1) in
                  let n = nth_in ls (y % 16) (home_of program l.0) lb in
                  (omega (arith, f.2, n.0), omega (arith, f.2, n.1))

              outside : (y : ℕ) → child x 1 ≤ y → y < child x 1 + length ls → Live (standing (children m.rows x) y)
              outside y lo hi =
                  let d : y / 16 ≡ x = omega (arith, lo, hi, few) in
                  let i₁ : 1 ≤ y % 16 = omega (arith, lo, hi, few) in
                  let i₂ : y % 16 ≤ length ls = omega (arith, lo, hi, few) in
                  let s = slot_of (y % 16) i₁ (omega (arith, i₂, few)) in
                  let k : is_kid x y ≡ true = true_and (slot (y % 16)) (eqb (y / 16) x) s (eqb_same (y / 16) x d) in
                  let lb = in_nth ls (y % 16) i₁ i₂ in
                  let v = label-kid (kids T x (y % 16)) (label_of program F.b (y % 16)) lb.0 (F.each (y % 16) s) lb.1 in
                  (v.0, children-kid m.rows x y k ∙ sym (kids-kid T x y k) ∙ v.1)

          go :
              (eqb (length (children m.rows x)) 0 ≡ true) ⊎ (eqb (length (children m.rows x)) 0 ≡ false) →
              (eqb (length (children m.rows x)) 0 || rest (called_at program a)) ≡ true
          go (inl h) = or_left (eqb (length (children m.rows x)) 0) (rest (called_at program a)) h
          go (inr h) =
              let F = family h in
              let at : a ≡ out_of program F.b = same_row F.b F.at_out in
              let c : called_at program a ≡ called program F.b = ap (called_at program) at ∙ out-called F.b F.called in
              or_right (eqb (length (children m.rows x)) 0) (rest (called_at program a))
              (ap rest c ∙ ap (λ (l : List ℕ). alike l (up_from (child x 1) (length (called program F.b)))) (ids h) ∙ alike_same
              (up_from (child x 1) (length (called program F.b))))
            where
              same_row : (b : ℕ) → T x ≡ some (out_of program b) → a ≡ out_of program b
              same_row b q = let z : some a ≡ some (out_of program b) = sym live ∙ q in cc

      newest-fits : newest_fits program m.history (row_at x a) ≡ true
      unfolding newest_fits
      newest-fits = go (ℕ_discrete a.stage begin)
        where
          marked : a.stage ≢ begin → mark (real program S) (configuration_of m) x ≡ some (record { process = x; block = exit_block program a })
          marked n =
              ap (named (real program S) x) live
              ∙ ap (onto (λ (b : ℕ). record { process = x; block = b })) (some-exit program S a (exit_block program a) n refl)

          go : Dec (a.stage ≡ begin) → (eqb a.stage begin || is_block (newest m.history x) (exit_block program a)) ≡ true
          go (yes e) = or_left (eqb a.stage begin) (is_block (newest m.history x) (exit_block program a)) (eqb_same a.stage begin e)
          go (no n) =
              let e : Taken = record { process = x; block = exit_block program a } in
              let w = names x e (marked n) in
              let k = newest-mapped program S m.history w.0.front w.0.rest e w.0.whole w.0.last in
              or_right (eqb a.stage begin) (is_block (newest m.history x) (exit_block program a))
              (ap (λ (o : Option ℕ). is_block o (exit_block program a)) k ∙ eqb_same (exit_block program a) (exit_block program a) refl)

      row_fits_so : row_fits program m (row_at x a) ≡ true
      unfolding row_fits
      row_fits_so =
          true_and (parent_fits m.rows (row_at x a)) _ parent-fits
          (true_and (own_fits program m.rows (row_at x a)) _ own-fits
          (true_and (children_fit program m.rows (row_at x a)) (newest_fits program m.history (row_at x a)) children-fit newest-fits))

    pub parts-fit : machine_fits program m ≡ true
    unfolding machine_fits
    parts-fit =
        true_and (ascending m.rows) _ (of_sorted m.rows ordered)
        (true_and (root_fits program m.rows) _ root-fits
        (true_and (each_of (row_fits program m) m.rows) (each_of (kept_fits program) m.history)
        (standing-each (row_fits program m) m.rows ordered row_fits_so) known))

  module _ (memory : List ℕ) (fine : Fine memory) (m : Machine) (r : Reached program S memory fine m) where
    pub reached-machine_fits : machine_fits program m ≡ true
    reached-machine_fits =
        let ok = reached-rows program S memory fine m r in
        parts-fit m r.ordered ok.0 ok.1
        (λ x e k. Replay.rows-fit_history (footprints (real program S)) (ahead program S) (behind program S) (Ok (real program S))
        (mark (real program S)) (laws program S memory fine) (origin program S memory fine) (origin-ok program S memory fine)
        (bare (real program S) memory) (configuration_of m) (map entry_of m.history) x e r.replayed k) (reached-kept program S memory fine m r)

    pub reached-room : length m.rows ≤ most_rows
    reached-room =
        let ok = reached-rows program S memory fine m r in
        rows-room program S m.rows r.ordered ok.0 ok.1
