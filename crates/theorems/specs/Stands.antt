-- Places by the clauses of code 17: a place in the process block of a label is one of the image, and a parent with a named child stands at
-- the exit label of a call. Assumes that the image is sound.
use Rattle.std.specs.Prelude.{◌≡◌, refl, ◌⊎◌, ◌≢◌, false, ◌&&◌, ◌||◌, List, ℕ, ◌<◌, ◌≤◌, length, ltb}
use Rattle.std.proofs.Common.{sym, ◌∙◌, subst, inl, inr, arith, eqb-true, ltb-true}
use Rattle.std.proofs.Math.Bool.{true}
use Rattle.std.proofs.Math.Option.{some}
use Rattle.std.proofs.Math.Decide.{ℕ_discrete}
use Rattle.std.proofs.Math.Dec.{eqb}
use Rattle.theory.specs.Tests.{eqb_same, eqb-other, and-true, or_left, or_right}
use Rattle.theory.specs.Local.{slot}
use Rattle.theory.specs.Optional.{slot_of}
use Rattle.rules.specs.Base.{times}
use Rattle.rules.specs.Read.{is_call}
use Rattle.rules.specs.Labels.{block_of, called, called_by, home, entry_labels, exit_labels, begin_labels, end_labels}
use Rattle.rules.specs.Machine.{begin, run, end, place}
use Rattle.rules.specs.Fits.{entry_holds, exit_holds, entry_block, exit_block, called_at, stands_in, nth}
use Rattle.rules.specs.declared.Instruction.{Instruction}
use Rattle.rules.specs.declared.Exit.{Exit}
use Rattle.rules.specs.declared.Block.{Block}
use Rattle.rules.specs.declared.Place.{Place}
use Rattle.laws.specs.Fit.{IsTo}
use Rattle.laws.proofs.Lists.{pick_true, pick-false}
use Rattle.theorems.specs.Leaves.{same_place}
use Rattle.theorems.specs.Sites.{entry_in, exit-holds, entry-holds, entry-once, begin-framed, count-some, exit-block, at-end, out-run}
use Rattle.theorems.specs.Parts.{calls, to_label, out_of, label_of, home_of, Standing}
use Rattle.theorems.specs.Program.{Sound, home-outer, home-run, entry-home, exit_home, call-in_image, call-home}
use Rattle.theorems.specs.Fitting.{nth_in}
use Rattle.theorems.specs.Forward.{few-labels, standing-entry}

-- a block that names labels is a call
names-call : (i : Instruction) → 1 ≤ length (called_by i) → is_call i ≡ true
names-call (Instruction.Update change a e) h = absurd (omega arith)
names-call (Instruction.Exchange a b) h = absurd (omega arith)
names-call (Instruction.OpV x) h = absurd (omega arith)
names-call (Instruction.OpP x) h = absurd (omega arith)
names-call (Instruction.Assert e) h = absurd (omega arith)
names-call Instruction.Skip h = absurd (omega arith)
names-call (Instruction.Call n) h = refl

module _ (program : List Block) (S : Sound program) where
  pub to_one : (e : Exit) (a : Place) → IsTo e → exit_holds e a ≡ true → a ≡ place (to_label e) run
  to_one (Exit.To l) a f h =
      let x = and-true (eqb a.stage run) (eqb a.label l) h in
      same_place a (place l run) (eqb-true a.label l x.1) (eqb-true a.stage run x.0)
  to_one (Exit.Either e l m) a f h = absurd f
  to_one (Exit.End l) a f h = absurd f

  -- where a label has a begin, it has an end
  ended : (l : ℕ) → Standing program (place l begin) → exit_block program (place l end) < length program
  ended l st = go (entry_in (block_of program b).entry (place l begin) (entry-holds program S.passes (place l begin) lt))
    where
      b : ℕ
      b = entry_block program (place l begin)

      lt : b < length program
      lt = standing-entry program S (place l begin) st (λ e. let z : ◌≡◌ {A = ℕ} 0 2 = e in omega (arith, z))

      go :
          (((place l begin).stage ≡ run) × (1 ≤ times l (entry_labels (block_of program b).entry)))
          ⊎ (((place l begin).stage ≡ begin) × (1 ≤ times l (begin_labels (block_of program b).entry))) →
          exit_block program (place l end) < length program
      go (inl x) = absurd (let z : ◌≡◌ {A = ℕ} 0 1 = x.0 in omega (arith, z))
      go (inr x) =
          let f = begin-framed program S.passes b l lt x.1 in
          let s = count-some (λ k. end_labels k.exit) l program (omega (arith, f.ended)) in
          let e = exit-block program S.passes (place l end) s.0 s.1 (at-end (block_of program s.0).exit l s.2) in
          subst (λ (k : ℕ). k < length program) (sym e) s.1

  -- an ordinary label that stands in an entry stands in an exit
  left : (a : Place) → entry_block program a < length program → a.stage ≢ begin → (a.stage ≡ run) × (exit_block program a < length program)
  left a lt n = go (entry_in (block_of program b).entry a (entry-holds program S.passes a lt))
    where
      b : ℕ
      b = entry_block program a

      go :
          ((a.stage ≡ run) × (1 ≤ times a.label (entry_labels (block_of program b).entry)))
          ⊎ ((a.stage ≡ begin) × (1 ≤ times a.label (begin_labels (block_of program b).entry))) →
          (a.stage ≡ run) × (exit_block program a < length program)
      go (inr x) = absurd (n x.0)
      go (inl x) =
          let o = entry-once program S.passes b a.label lt x.1 in
          let s = count-some (λ k. exit_labels k.exit) a.label program (omega (arith, o.left)) in
          let same : place a.label run ≡ a = sym (same_place a (place a.label run) refl x.0) in
          let h : exit_holds (block_of program s.0).exit a ≡ true =
          subst (λ (q : Place). exit_holds (block_of program s.0).exit q ≡ true) same (out-run (block_of program s.0).exit a.label s.2) in
          let e = exit-block program S.passes a s.0 s.1 h in
          (x.0, subst (λ (k : ℕ). k < length program) (sym e) s.1)

  -- a place in the process block of a label that has a begin is a place of the image, and that label is its home
  pub stands-there :
      (l : ℕ) (a : Place) → Standing program (place l begin) → stands_in program l a ≡ true → Standing program a × (home_of program a ≡ l)
  unfolding stands_in
  stands-there l a st h = go (ℕ_discrete a.stage begin) (ℕ_discrete a.stage end)
    where
      outer : (a.stage ≡ begin) ⊎ (a.stage ≡ end) → (eqb a.stage begin || eqb a.stage end) ≡ true
      outer (inl e) = or_left (eqb a.stage begin) (eqb a.stage end) (eqb_same a.stage begin e)
      outer (inr e) = or_right (eqb a.stage begin) (eqb a.stage end) (eqb_same a.stage end e)

      own-label : (a.stage ≡ begin) ⊎ (a.stage ≡ end) → a.label ≡ l
      own-label o =
          eqb-true a.label l
          (sym (pick_true (eqb a.stage begin || eqb a.stage end) (eqb a.label l)
          (ltb (entry_block program a) (length program) && eqb (home program (entry_block program a)) l) (outer o)) ∙ h)

      go : Dec (a.stage ≡ begin) → Dec (a.stage ≡ end) → Standing program a × (home_of program a ≡ l)
      go (yes e) d =
          let k = own-label (inl e) in
          (subst (Standing program) (sym (same_place a (place l begin) k e)) st, home-outer program S a (inl e) ∙ k)
      go (no n) (yes e) =
          let k = own-label (inr e) in
          let same : place l end ≡ a = sym (same_place a (place l end) k e) in
          (inr (inr (e, subst (λ (q : Place). exit_block program q < length program) same (ended l st))), home-outer program S a (inr e) ∙ k)
      go (no n) (no d) =
          let x : (eqb a.stage begin || eqb a.stage end) ≡ false = rw (eqb-other a.stage begin n, eqb-other a.stage end d) in
          let t : (ltb (entry_block program a) (length program) && eqb (home program (entry_block program a)) l) ≡ true =
          sym (pick-false (eqb a.stage begin || eqb a.stage end) (eqb a.label l) _ x) ∙ h in
          let w = and-true (ltb (entry_block program a) (length program)) (eqb (home program (entry_block program a)) l) t in
          let lt = ltb-true (entry_block program a) (length program) w.0 in
          let f = left a lt n in
          (inr (inl (f.0, lt, f.1)), home-run program S a f.0 ∙ eqb-true (home program (entry_block program a)) l w.1)

  -- the call at whose exit label a parent stands
  pub record CallAt (q : Place) (i l : ℕ) : Type 0 where
    pub called : calls program (exit_block program q) ≡ true
    pub at_out : q ≡ out_of program (exit_block program q)
    pub named : label_of program (exit_block program q) i ≡ some l
    pub slotted : slot i ≡ true

  -- who has a child that a call names stands at that call's exit label, and the child is one of 1 to 8
  pub call_at : (q : Place) (i l : ℕ) → nth (called_at program q) i ≡ some l → CallAt q i l
  unfolding called_at
  call_at q i l e =
      let b = exit_block program q in
      let n = nth_in (called program b) i l e in
      let c = names-call (block_of program b).instruction (omega (arith, n.0, n.1)) in
      let lt = call-in_image program S b c in
      let few = few-labels program S b c in
      record {
        called = c;
        at_out = to_one (block_of program b).exit q ((S.fit b lt).to c) (exit-holds program S.passes q lt);
        named = e;
        slotted = slot_of i n.0 (omega (arith, n.1, few));
      }

  -- a process at the entry or at the exit label of a call block is in the call's process block
  pub call-here :
      (here : Place) (b : ℕ) → calls program b ≡ true → (b ≡ entry_block program here) ⊎ (b ≡ exit_block program here) →
      home_of program here ≡ home_of program (out_of program b)
  call-here here b c (inl e) =
      let lt = call-in_image program S b c in
      entry-home program S here b lt
      (subst (λ (k : ℕ). entry_holds (block_of program k).entry here ≡ true) (sym e)
      (entry-holds program S.passes here (subst (λ (k : ℕ). k < length program) e lt)))
      ∙ sym (call-home program S b c)
  call-here here b c (inr e) =
      let lt = call-in_image program S b c in
      exit_home program S here b lt
      (subst (λ (k : ℕ). exit_holds (block_of program k).exit here ≡ true) (sym e)
      (exit-holds program S.passes here (subst (λ (k : ℕ). k < length program) e lt)))
      ∙ sym (call-home program S b c)
