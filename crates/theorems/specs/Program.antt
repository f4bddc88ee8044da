-- An accepted image as a program of the theory: the block at a place, the home of a place, calls, and leaf steps. What it
-- brings is what theory's `Program` asks. Assumes that the image is sound: decoded from bytes, and accepted.
use Rattle.std.specs.Prelude.{◌≡◌, ◌⊎◌, ◌≢◌, Bool, ◌||◌, length, take, ltb}
use Rattle.std.proofs.Math.Path.{refl, subst}
use Rattle.std.proofs.Common.{sym, ap, ◌∙◌, inr, arith}
use Rattle.std.proofs.Math.Logic.{inl}
use Rattle.std.proofs.Math.Bool.{true, false}
use Rattle.std.proofs.Math.Option.{Option, none, some}
use mathlib.Core.List.{List, [], ◌∷◌}
use Prim.Native.Nat.{ℕ, zero, suc, ◌+◌, ◌<◌, ◌≤◌}
use Rattle.std.proofs.Math.ListN.{get_elem?, get_or-eq_default}
use Rattle.std.proofs.Math.Dec.{eqb}
use borrow.Author.Tests.{eqb-true, eqb-false, ltb-true, ltb-false, lt-ltb}
use Rattle.theory.specs.Tests.{bool_cases, true_false, eqb_same, eqb-other, and-true, or_left, or_right, none-some, some_inj}
use Rattle.theory.specs.Local.{slot}
use Rattle.theory.specs.Program.{Program}
use Rattle.rules.specs.Base.{pick, times, some_of}
use Rattle.rules.specs.Format.{most_blocks, labels, main}
use Rattle.rules.specs.Read.{is_call}
use Rattle.rules.specs.Labels.{block_of, no_block, entry_labels, exit_labels, begin_labels, end_labels, ordinary_labels, begins, home, called_by, called, bad12}
use Rattle.rules.specs.Calls.{bad13}
use Rattle.rules.specs.Machine.{place, begin, run, end}
use Rattle.rules.specs.Fits.{entry_holds, exit_holds, entry_block, exit_block}
use Rattle.rules.specs.Leaf.{Tried, made, refused, Moved, leaf_forward, leaf_undo}
use Rattle.rules.specs.declared.Instruction.{Instruction}
use Rattle.rules.specs.declared.Entry.{Entry}
use Rattle.rules.specs.declared.Exit.{Exit}
use Rattle.rules.specs.declared.Block.{Block}
use Rattle.rules.specs.declared.Place.{Place}
use Rattle.theorems.specs.Graphs.{written_read}
use Rattle.theorems.specs.Parts.{from_label, to_label, tried, entry_at, exit_at, calls, into_of, out_of, label_of, home_of, Standing, leaf_of, unleaf_of, reads_of, writes_of}
use Rattle.laws.proofs.Lists.{pick_true, pick-false}
use Rattle.laws.proofs.Times.{times-append}
use Rattle.laws.specs.Fit.{BlockFit, InstructionFit, ExitFit, IsFrom, IsTo}
use Rattle.theorems.specs.Accepted.{Passed}
use Rattle.theorems.specs.Sites.{entry_in, exit_in, entry-block, exit-block, entry-holds, leads_on, begins-at}
use Rattle.theorems.specs.Homes.{home-begin, home-end, home-shared}
use Rattle.theorems.specs.Memory.{look, same_look, Fine}
use Rattle.theorems.specs.Leaves.{same_place, forward-alike, undo-alike, forward-keeps, undo-keeps, forward-fine, forward-back, forward-from, exit-held}

-- what an image ensures that was decoded from bytes and accepted
pub record Sound (program : List Block) : Type 0 where
  pub passes : Passed program
  pub fit : (b : ℕ) → b < length program → BlockFit (block_of program b)
  pub few : length program ≤ most_blocks

picked-some : {A : Type 0} (t : Bool) (x : Option A) (a : A) → pick t none x ≡ some a → (t ≡ false) × (x ≡ some a)
unfolding pick
picked-some true x a h = absurd (none-some h)
picked-some false x a h = (refl, h)

some-picked : {A : Type 0} (t : Bool) (x : Option A) (a : A) → pick t x none ≡ some a → (t ≡ true) × (x ≡ some a)
unfolding pick
some-picked true x a h = (refl, h)
some-picked false x a h = absurd (none-some h)

pub picked_none : {A : Type 0} (t : Bool) (a : A) → pick t none (some a) ≡ none → t ≡ true
unfolding pick
picked_none true a h = refl
picked_none false a h = absurd (none-some (sym h))

tried-some : (t : Tried Moved) (a : Place) (m : List ℕ) → tried t ≡ some (a, m) → t ≡ made (record { stands = a; memory = m })
tried-some (made s) a m h =
    let e : Path (Place × List ℕ) (s.stands, s.memory) (a, m) = some_inj (s.stands, s.memory) (a, m) h in
    λ i. made (record { stands = (e i).0; memory = (e i).1 })
tried-some (refused code) a m h = absurd (none-some h)

some-tried : (t : Tried Moved) (s : Moved) → t ≡ made s → tried t ≡ some (s.stands, s.memory)
some-tried t s h = rw h

-- ---- labels of fit exits
from_one : (e : Entry) (a : Place) → IsFrom e → entry_holds e a ≡ true → a ≡ place (from_label e) run
from_one (Entry.From l) a f h =
    let x = and-true (eqb a.stage run) (eqb a.label l) h in
    same_place a (place l run) (eqb-true a.label l x.1) (eqb-true a.stage run x.0)
from_one (Entry.Either l m e) a f h = absurd f
from_one (Entry.Begin l) a f h = absurd f

pub at_from : (e : Entry) → IsFrom e → entry_holds e (place (from_label e) run) ≡ true
at_from (Entry.From l) f = eqb_same l l refl
at_from (Entry.Either l m e) f = absurd f
at_from (Entry.Begin l) f = absurd f

at-to : (e : Exit) → IsTo e → exit_holds e (place (to_label e) run) ≡ true
at-to (Exit.To l) f = eqb_same l l refl
at-to (Exit.Either e l m) f = absurd f
at-to (Exit.End l) f = absurd f

exit-label : (e : Exit) (l : ℕ) → ExitFit e → 1 ≤ times l (exit_labels e) → l < labels
unfolding times pick
exit-label (Exit.To m) l f h = go (eqb m l) refl h
  where
    go : (t : Bool) → eqb m l ≡ t → 1 ≤ pick t 1 0 + 0 → l < labels
    go true q k = subst (λ (x : ℕ). x < labels) (eqb-true m l q) f
    go false q k = absurd (omega arith)
exit-label (Exit.Either e m n) l f h = go (eqb m l) refl (eqb n l) refl h
  where
    go : (t : Bool) → eqb m l ≡ t → (u : Bool) → eqb n l ≡ u → 1 ≤ pick t 1 0 + (pick u 1 0 + 0) → l < labels
    go true q u p k = subst (λ (x : ℕ). x < labels) (eqb-true m l q) f.0
    go false q true p k = subst (λ (x : ℕ). x < labels) (eqb-true n l p) f.1
    go false q false p k = absurd (omega arith)
exit-label (Exit.End m) l f h = absurd (omega arith)

-- ---- the laws
module _ (program : List Block) (S : Sound program) where
  ok : Passed program
  ok = S.passes

  pub block-fair : (b : ℕ) → b < length program → BlockFit (block_of program b)
  block-fair b lt = S.fit b lt

  pub entry-some : (a : Place) (b : ℕ) → entry_at program a ≡ some b → (a.stage ≢ end) × (entry_block program a ≡ b)
  entry-some a b h =
      let x = picked-some (eqb a.stage end) (some (entry_block program a)) b h in
      (eqb-false a.stage end x.0, some_inj (entry_block program a) b x.1)

  pub exit-some : (a : Place) (b : ℕ) → exit_at program a ≡ some b → (a.stage ≢ begin) × (exit_block program a ≡ b)
  exit-some a b h =
      let x = picked-some (eqb a.stage begin) (some (exit_block program a)) b h in
      (eqb-false a.stage begin x.0, some_inj (exit_block program a) b x.1)

  pub some-exit : (a : Place) (b : ℕ) → a.stage ≢ begin → exit_block program a ≡ b → exit_at program a ≡ some b
  some-exit a b n e = pick-false (eqb a.stage begin) none (some (exit_block program a)) (eqb-other a.stage begin n) ∙ ap some e

  pub some-entry : (a : Place) (b : ℕ) → a.stage ≢ end → entry_block program a ≡ b → entry_at program a ≡ some b
  some-entry a b n e = pick-false (eqb a.stage end) none (some (entry_block program a)) (eqb-other a.stage end n) ∙ ap some e

  -- ---- homes
  pub home-outer : (a : Place) → (a.stage ≡ begin) ⊎ (a.stage ≡ end) → home_of program a ≡ a.label
  home-outer a (inl e) =
      pick_true (eqb a.stage begin || eqb a.stage end) a.label _
      (or_left (eqb a.stage begin) (eqb a.stage end) (eqb_same a.stage begin e))
  home-outer a (inr e) =
      pick_true (eqb a.stage begin || eqb a.stage end) a.label _
      (or_right (eqb a.stage begin) (eqb a.stage end) (eqb_same a.stage end e))

  pub home-run : (a : Place) → a.stage ≡ run → home_of program a ≡ home program (entry_block program a)
  home-run a e =
      let x : (eqb a.stage begin || eqb a.stage end) ≡ false = ap (λ (s : ℕ). eqb s begin || eqb s end) e in
      pick-false (eqb a.stage begin || eqb a.stage end) a.label (home program (entry_block program a)) x

  pub entry-home : (a : Place) (b : ℕ) → b < length program → entry_holds (block_of program b).entry a ≡ true → home_of program a ≡ home program b
  entry-home a b lt h = go (entry_in (block_of program b).entry a h)
    where
      go :
          ((a.stage ≡ run) × (1 ≤ times a.label (entry_labels (block_of program b).entry))) ⊎ ((a.stage ≡ begin) × (1 ≤ times a.label (begin_labels (block_of program b).entry))) → home_of program a ≡ home program b
      go (inl x) = home-run a x.0 ∙ ap (home program) (entry-block program ok a b lt h)
      go (inr x) = home-outer a (inl x.0) ∙ sym (home-begin program ok b a.label lt x.1)

  pub exit_home : (a : Place) (b : ℕ) → b < length program → exit_holds (block_of program b).exit a ≡ true → home_of program a ≡ home program b
  exit_home a b lt h = go (exit_in (block_of program b).exit a h)
    where
      go :
          ((a.stage ≡ run) × (1 ≤ times a.label (exit_labels (block_of program b).exit))) ⊎ ((a.stage ≡ end) × (1 ≤ times a.label (end_labels (block_of program b).exit))) → home_of program a ≡ home program b
      go (inr x) = home-outer a (inr x.0) ∙ sym (home-end program ok b a.label lt x.1)
      go (inl x) = home-run a x.0 ∙ ap (λ (q : Place). home program (entry_block program q)) same ∙ shared
        where
          l : ℕ
          l = a.label

          same : a ≡ place l run
          same = same_place a (place l run) refl x.0

          c : ℕ
          c = entry_block program (place l run)

          lc : c < length program
          lc = leads_on program ok b l lt x.1

          inside :
              (((place l run).stage ≡ run) × (1 ≤ times l (entry_labels (block_of program c).entry))) ⊎ (((place l run).stage ≡ begin) × (1 ≤ times l (begin_labels (block_of program c).entry))) → 1 ≤ times l (ordinary_labels (block_of program c))
          inside (inl y) =
              let t = times-append l (entry_labels (block_of program c).entry) (exit_labels (block_of program c).exit) in omega (arith, t, y.1)
          inside (inr y) = absurd (let z : ◌≡◌ {A = ℕ} 1 0 = y.0 in omega arith)

          shared : home program c ≡ home program b
          shared =
              let t = times-append l (entry_labels (block_of program b).entry) (exit_labels (block_of program b).exit) in
              home-shared program c b l S.few lc lt (exit-label (block_of program b).exit l (block-fair b lt).exit x.1)
              (inside (entry_in (block_of program c).entry (place l run) (entry-holds program ok (place l run) lc))) (omega (arith, t, x.1))

  -- where an exit leads, there is a place of the program, and the exit's block is the one at it
  pub exit-standing : (a : Place) (b : ℕ) → b < length program → exit_holds (block_of program b).exit a ≡ true → Standing program a
  exit-standing a b lt h = go (exit_in (block_of program b).exit a h)
    where
      behind : exit_block program a < length program
      behind = subst (λ (k : ℕ). k < length program) (sym (exit-block program ok a b lt h)) lt

      go :
          ((a.stage ≡ run) × (1 ≤ times a.label (exit_labels (block_of program b).exit))) ⊎ ((a.stage ≡ end) × (1 ≤ times a.label (end_labels (block_of program b).exit))) → Standing program a
      go (inl x) =
          let same : place a.label run ≡ a = sym (same_place a (place a.label run) refl x.0) in
          inr (inl (x.0, subst (λ (q : Place). entry_block program q < length program) same (leads_on program ok b a.label lt x.1), behind))
      go (inr x) = inr (inr (x.0, behind))

  pub exit-known : (a : Place) (b : ℕ) → b < length program → exit_holds (block_of program b).exit a ≡ true → exit_at program a ≡ some b
  exit-known a b lt h = some-exit a b (go (exit_in (block_of program b).exit a h)) (exit-block program ok a b lt h)
    where
      go :
          ((a.stage ≡ run) × (1 ≤ times a.label (exit_labels (block_of program b).exit))) ⊎ ((a.stage ≡ end) × (1 ≤ times a.label (end_labels (block_of program b).exit))) → a.stage ≢ begin
      go (inl x) e = omega (arith, x.0, e)
      go (inr x) e = omega (arith, x.0, e)

  -- ---- calls
  pub call-in_image : (b : ℕ) → calls program b ≡ true → b < length program
  call-in_image b h = go (bool_cases (ltb b (length program)))
    where
      go : (ltb b (length program) ≡ true) ⊎ (ltb b (length program) ≡ false) → b < length program
      go (inl x) = ltb-true b (length program) x
      go (inr x) =
          let e : block_of program b ≡ no_block = get_or-eq_default program no_block (ltb-false b (length program) x) in
          let z : calls program b ≡ false = ap (λ (k : Block). is_call k.instruction) e in
          absurd (true_false h z)

  pub call_in : (a : Place) (b : ℕ) → calls program b ≡ true → entry_at program a ≡ some b → a ≡ into_of program b
  call_in a b c h =
      let lt = call-in_image b c in
      let e = (entry-some a b h).1 in
      let held : entry_holds (block_of program b).entry a ≡ true =
      subst (λ (k : ℕ). entry_holds (block_of program k).entry a ≡ true) e
      (entry-holds program ok a (subst (λ (k : ℕ). k < length program) (sym e) lt)) in
      from_one (block_of program b).entry a ((block-fair b lt).from c) held

  pub out-held : (b : ℕ) → calls program b ≡ true → exit_holds (block_of program b).exit (out_of program b) ≡ true
  out-held b c = at-to (block_of program b).exit ((block-fair b (call-in_image b c)).to c)

  pub out_home : (b : ℕ) → calls program b ≡ true → home_of program (out_of program b) ≡ home_of program (into_of program b)
  out_home b c =
      let lt = call-in_image b c in
      exit_home (out_of program b) b lt (out-held b c) ∙ sym
      (entry-home (into_of program b) b lt (at_from (block_of program b).entry ((block-fair b lt).from c)))

  pub call-home : (b : ℕ) → calls program b ≡ true → home_of program (out_of program b) ≡ home program b
  call-home b c = exit_home (out_of program b) b (call-in_image b c) (out-held b c)

  first-label : (i : Instruction) → is_call i ≡ true → InstructionFit i → (l : ℕ) × (get_elem? (called_by i) 0 ≡ some l)
  first-label (Instruction.Update change a e) c f = absurd (true_false c refl)
  first-label (Instruction.Exchange a b) c f = absurd (true_false c refl)
  first-label (Instruction.OpV x) c f = absurd (true_false c refl)
  first-label (Instruction.OpP x) c f = absurd (true_false c refl)
  first-label (Instruction.Assert e) c f = absurd (true_false c refl)
  first-label Instruction.Skip c f = absurd (true_false c refl)
  first-label (Instruction.Call n) c f = go n.count n.labels f.some (omega (arith, f.eight))
    where
      go : (k : ℕ) (ls : List ℕ) → 1 ≤ k → 1 ≤ length ls → (l : ℕ) × (get_elem? (take k ls) 0 ≡ some l)
      go zero ls h g = absurd (omega arith)
      go (suc k) [] h g = absurd (omega arith)
      go (suc k) (l ∷ ls) h g = (l, refl)

  pub call_one : (b : ℕ) → calls program b ≡ true → (i : ℕ) × (l : ℕ) × (slot i ≡ true) × (label_of program b i ≡ some l)
  call_one b c =
      let x = first-label (block_of program b).instruction c (block-fair b (call-in_image b c)).instruction in
      (1, x.0, refl, x.1)

  begun : (ls : List ℕ) (i l : ℕ) → some_of (λ k. eqb (begins program k) 0) ls ≡ false → get_elem? ls i ≡ some l → 1 ≤ begins program l
  unfolding some_of
  begun [] i l h e = absurd (none-some e)
  begun (k ∷ ls) zero l h e =
      let z : k ≡ l = some_inj k l e in
      let n = eqb-false (begins program k) 0 (first (eqb (begins program k) 0) (some_of (λ k. eqb (begins program k) 0) ls) h) in
      subst (λ (x : ℕ). 1 ≤ begins program x) z (omega (arith, n))
    where
      first : (a b : Bool) → (a || b) ≡ false → a ≡ false
      first true b h = absurd (true_false refl h)
      first false b h = refl
  begun (k ∷ ls) (suc i) l h e = begun ls i l (rest (eqb (begins program k) 0) (some_of (λ k. eqb (begins program k) 0) ls) h) e
    where
      rest : (a b : Bool) → (a || b) ≡ false → b ≡ false
      rest true b h = absurd (true_false refl h)
      rest false b h = h

  pub begin-standing : (b i l : ℕ) → calls program b ≡ true → label_of program b i ≡ some l → Standing program (place l begin)
  unfolding bad12
  begin-standing b zero l c h = absurd (none-some h)
  begin-standing b (suc i) l c h = inl (refl, begins-at program ok l (begun (called program b) i l (ok.calls_begun b (call-in_image b c)) h))

  pub main-standing : Standing program (place main begin)
  unfolding bad13
  main-standing = let n = eqb-false (begins program main) 0 ok.has_main in inl (refl, begins-at program ok main (omega (arith, n)))

  -- ---- leaves
  pub leaf_made_so :
      (a a' : Place) (b : ℕ) (m m' : List ℕ) → leaf_of program b a m ≡ some (a', m') →
      (b < length program) × (leaf_forward m a (block_of program b) ≡ made (record { stands = a'; memory = m' }))
  leaf_made_so a a' b m m' h =
      let x = some-picked (ltb b (length program)) (tried (leaf_forward m a (block_of program b))) (a', m') h in
      (ltb-true b (length program) x.0, tried-some (leaf_forward m a (block_of program b)) a' m' x.1)

  pub unleaf-made :
      (a a' : Place) (b : ℕ) (m m' : List ℕ) → unleaf_of program b a m ≡ some (a', m') →
      (b < length program) × (leaf_undo m a (block_of program b) ≡ made (record { stands = a'; memory = m' }))
  unleaf-made a a' b m m' h =
      let x = some-picked (ltb b (length program)) (tried (leaf_undo m a (block_of program b))) (a', m') h in
      (ltb-true b (length program) x.0, tried-some (leaf_undo m a (block_of program b)) a' m' x.1)

  pub made-leaf :
      (a : Place) (b : ℕ) (m : List ℕ) (s : Moved) → b < length program → leaf_forward m a (block_of program b) ≡ made s →
      leaf_of program b a m ≡ some (s.stands, s.memory)
  made-leaf a b m s lt h =
      pick_true (ltb b (length program)) _ none (lt-ltb b (length program) lt) ∙ some-tried (leaf_forward m a (block_of program b)) s h

  pub made-unleaf :
      (a : Place) (b : ℕ) (m : List ℕ) (s : Moved) → b < length program → leaf_undo m a (block_of program b) ≡ made s →
      unleaf_of program b a m ≡ some (s.stands, s.memory)
  made-unleaf a b m s lt h =
      pick_true (ltb b (length program)) _ none (lt-ltb b (length program) lt) ∙ some-tried (leaf_undo m a (block_of program b)) s h

  pub leaf-held :
      (a a' : Place) (b : ℕ) (m m' : List ℕ) → leaf_of program b a m ≡ some (a', m') →
      (b < length program) × (exit_holds (block_of program b).exit a' ≡ true)
  leaf-held a a' b m m' h =
      let x = leaf_made_so a a' b m m' h in
      let w = forward-from (block_of program b) (block-fair b x.0) m a (record { stands = a'; memory = m' }) x.1 in
      (x.0, exit-held m' (block_of program b).exit a' w.1)

  pub entry-at : (a : Place) (b : ℕ) → b < length program → entry_at program a ≡ some b → entry_holds (block_of program b).entry a ≡ true
  entry-at a b lt h =
      let e = (entry-some a b h).1 in
      subst (λ (k : ℕ). entry_holds (block_of program k).entry a ≡ true) e
      (entry-holds program ok a (subst (λ (k : ℕ). k < length program) (sym e) lt))

  abbrev pub real : Program Place (List ℕ) (List ℕ) look (reads_of program) (writes_of program)
  real =
      record {
        entry_block = entry_at program;
        exit_block = exit_at program;
        is_call = calls program;
        into = into_of program;
        out = out_of program;
        label = label_of program;
        begin_place = λ l. place l begin;
        end_place = λ l. place l end;
        home = home_of program;
        valid = Standing program;
        fine = Fine;
        leaf = leaf_of program;
        unleaf = unleaf_of program;
        call_in = call_in;
        out_exit = λ b c. exit-known (out_of program b) b (call-in_image b c) (out-held b c);
        out_entry = λ b c h. absurd (let z = picked_none (eqb run end) (entry_block program (out_of program b)) h in true_false z refl);
        out_valid = λ b c. exit-standing (out_of program b) b (call-in_image b c) (out-held b c);
        out_home = out_home;
        call_one = call_one;
        begin_exit = λ l. pick_true (eqb begin begin) none _ refl;
        begin_home = λ b i l c h. home-outer (place l begin) (inl refl);
        begin_valid = begin-standing;
        end_one =
            λ a v h. let e : a.stage ≡ end = eqb-true a.stage end (picked_none (eqb a.stage end) (entry_block program a) h) in same_place a
            (place (home_of program a) end) (sym (home-outer a (inr e))) e;
        main_valid = main-standing;
        written_read = λ b r h. written_read (block_of program b) r h;
        same_look = same_look;
        leaf_exit = λ a a' b m m' c e h. let x = leaf-held a a' b m m' h in exit-known a' b x.0 x.1;
        leaf_home =
            λ a a' b m m' c e h. let x = leaf-held a a' b m m' h in exit_home a' b x.0 x.1 ∙ sym
            (entry-home a b x.0 (entry-at a b x.0 e));
        leaf_valid = λ a a' b m m' c e h. let x = leaf-held a a' b m m' h in exit-standing a' b x.0 x.1;
        leaf_fine =
            λ a a' b m m' k c e h. let x = leaf_made_so a a' b m m' h in forward-fine (block_of program b) (block-fair b x.0) m a
            (record { stands = a'; memory = m' }) k x.1;
        leaf_back =
            λ a a' b m m' k c e h. let x = leaf_made_so a a' b m m' h in made-unleaf a' b m' (record { stands = a; memory = m }) x.0
            (forward-back (block_of program b) (block-fair b x.0) m a (record { stands = a'; memory = m' }) k x.1);
        leaf_keeps =
            λ a a' b m m' h. let x = leaf_made_so a a' b m m' h in forward-keeps (block_of program b) (block-fair b x.0) m a
            (record { stands = a'; memory = m' }) x.1;
        leaf_alike =
            λ a a' b m m' n h g. let x = leaf_made_so a a' b m m' h in let y = forward-alike (block_of program b) (block-fair b x.0) m n a
            (record { stands = a'; memory = m' }) x.1 g in (y.0, made-leaf a b n (record { stands = a'; memory = y.0 }) x.0 y.1, y.2);
        unleaf_keeps =
            λ a a' b m m' h. let x = unleaf-made a a' b m m' h in undo-keeps (block_of program b) (block-fair b x.0) m a
            (record { stands = a'; memory = m' }) x.1;
        unleaf_alike =
            λ a a' b m m' n h g. let x = unleaf-made a a' b m m' h in let y = undo-alike (block_of program b) (block-fair b x.0) m n a
            (record { stands = a'; memory = m' }) x.1 g in (y.0, made-unleaf a b n (record { stands = a'; memory = y.0 }) x.0 y.1, y.2);
      }
