-- What an accepted image has besides, so that a step back is taken back by a step forward: theory's `BothWays`. Assumes that the
-- image is sound.
use Rattle.std.specs.Prelude.{◌≡◌, refl, ◌⊎◌, true, List, ℕ, ◌<◌, ◌≤◌, length, eqb}
use Rattle.std.proofs.Common.{sym, ◌∙◌, subst, inl, inr, arith, eqb-true}
use Rattle.std.proofs.Math.Option.{none, some}
use Rattle.theory.specs.Redoing.{BothWays}
use Rattle.rules.specs.Base.{times}
use Rattle.rules.specs.Labels.{block_of, entry_labels, exit_labels, begin_labels, end_labels}
use Rattle.rules.specs.Machine.{place, begin, run, end}
use Rattle.rules.specs.Fits.{entry_holds, exit_holds, entry_block, exit_block}
use Rattle.rules.specs.Leaf.{inverse}
use Rattle.rules.specs.declared.Block.{Block}
use Rattle.rules.specs.declared.Place.{Place}
use Rattle.laws.proofs.Lists.{pick_true}
use Rattle.theorems.specs.Parts.{exit_at, calls, into_of, label_of, home_of, Standing, unleaf_of}
use Rattle.theorems.specs.Sites.{entry_in, entry-block, exit-block, entry-holds, exit-holds, entry-once, begin-framed, count-some, out-run, at-end}
use Rattle.theorems.specs.Leaves.{same_place, back-of, back-forward, entry-held, inverse-fair}
use Rattle.theorems.specs.Acts.{act-fine}
use Rattle.theorems.specs.Program.{Sound, real, exit-some, home-outer, entry-home, exit_home, call-in_image, at_from, picked_none}
use Rattle.theorems.specs.Program.{block-fair, begin-standing, unleaf-made, made-leaf}
use Rattle.theorems.specs.Stands.{to_one}
use Rattle.theorems.specs.PaperAhead.{entry_known}

module _ (program : List Block) (S : Sound program) where
  -- the label of an entry is some block's exit
  leads_back : (b l : ℕ) → b < length program → 1 ≤ times l (entry_labels (block_of program b).entry) →
      exit_block program (place l run) < length program
  leads_back b l lt h =
      let o = entry-once program S.passes b l lt h in
      let s = count-some (λ k. exit_labels k.exit) l program (omega (arith, o.left)) in
      let e = exit-block program S.passes (place l run) s.0 s.1 (out-run (block_of program s.0).exit l s.2) in
      subst (λ (k : ℕ). k < length program) (sym e) s.1

  -- where an entry leads from, there is a place of the program
  entry-standing : (a : Place) (b : ℕ) → b < length program → entry_holds (block_of program b).entry a ≡ true → Standing program a
  entry-standing a b lt h = go (entry_in (block_of program b).entry a h)
    where
      ahead : entry_block program a < length program
      ahead = subst (λ (k : ℕ). k < length program) (sym (entry-block program S.passes a b lt h)) lt

      go :
          ((a.stage ≡ run) × (1 ≤ times a.label (entry_labels (block_of program b).entry))) ⊎
          ((a.stage ≡ begin) × (1 ≤ times a.label (begin_labels (block_of program b).entry))) → Standing program a
      go (inl x) =
          let same : place a.label run ≡ a = sym (same_place a (place a.label run) refl x.0) in
          inr (inl (x.0, ahead, subst (λ (q : Place). exit_block program q < length program) same (leads_back b a.label lt x.1)))
      go (inr x) = inl (x.0, ahead)

  exit-at : (a : Place) (b : ℕ) → b < length program → exit_at program a ≡ some b → exit_holds (block_of program b).exit a ≡ true
  exit-at a b lt h =
      let e = (exit-some program S a b h).1 in
      subst (λ (k : ℕ). exit_holds (block_of program k).exit a ≡ true) e
      (exit-holds program S.passes a (subst (λ (k : ℕ). k < length program) (sym e) lt))

  into-held : (b : ℕ) → calls program b ≡ true → entry_holds (block_of program b).entry (into_of program b) ≡ true
  into-held b c = at_from (block_of program b).entry ((block-fair program S b (call-in_image program S b c)).from c)

  -- a label that has a begin has an end
  end-standing : (b i l : ℕ) → calls program b ≡ true → label_of program b i ≡ some l → Standing program (place l end)
  end-standing b i l c h = inr (inr (refl, go (begin-standing program S b i l c h)))
    where
      ends : (d : ℕ) → d < length program → entry_holds (block_of program d).entry (place l begin) ≡ true →
          exit_block program (place l end) < length program
      ends d lt k = at (entry_in (block_of program d).entry (place l begin) k)
        where
          at :
              (((place l begin).stage ≡ run) × (1 ≤ times l (entry_labels (block_of program d).entry))) ⊎
              (((place l begin).stage ≡ begin) × (1 ≤ times l (begin_labels (block_of program d).entry))) →
              exit_block program (place l end) < length program
          at (inl x) = absurd (let z : ◌≡◌ {A = ℕ} 0 1 = x.0 in omega arith)
          at (inr x) =
              let o = begin-framed program S.passes d l lt x.1 in
              let s = count-some (λ k. end_labels k.exit) l program (omega (arith, o.ended)) in
              let e = exit-block program S.passes (place l end) s.0 s.1 (at-end (block_of program s.0).exit l s.2) in
              subst (λ (k : ℕ). k < length program) (sym e) s.1

      go : Standing program (place l begin) → exit_block program (place l end) < length program
      go (inl x) = ends (entry_block program (place l begin)) x.1 (entry-holds program S.passes (place l begin) x.1)
      go (inr (inl x)) = absurd (let z : ◌≡◌ {A = ℕ} 0 1 = x.0 in omega arith)
      go (inr (inr x)) = absurd (let z : ◌≡◌ {A = ℕ} 0 2 = x.0 in omega arith)

  -- what an undone leaf leaves, the block's entry holds
  unleaf-held :
      (a a' : Place) (b : ℕ) (m m' : List ℕ) → unleaf_of program b a m ≡ some (a', m') →
      (b < length program) × (entry_holds (block_of program b).entry a' ≡ true)
  unleaf-held a a' b m m' h =
      let x = unleaf-made program S a a' b m m' h in
      let w = back-of m a (block_of program b) (record { stands = a'; memory = m' }) x.1 in
      (x.0, entry-held m' (block_of program b).entry a' w.enters)

  pub both_ways : BothWays (real program S)
  both_ways =
      record {
        into_entry = λ b c. entry_known program S (into_of program b) b (call-in_image program S b c) (into-held b c);
        into_valid = λ b c. entry-standing (into_of program b) b (call-in_image program S b c) (into-held b c);
        call_out =
            λ a b c h. to_one program S (block_of program b).exit a ((S.fit b (call-in_image program S b c)).to c)
            (exit-at a b (call-in_image program S b c) h);
        begin_one =
            λ a v h. let e : a.stage ≡ begin = eqb-true a.stage begin (picked_none (eqb a.stage begin) (exit_block program a) h) in same_place a
            (place (home_of program a) begin) (sym (home-outer program S a (inl e))) e;
        end_entry = λ l. pick_true (eqb end end) none _ refl;
        end_home = λ b i l c h. home-outer program S (place l end) (inr refl);
        end_valid = end-standing;
        unleaf_entry = λ a a' b m m' c e h. let x = unleaf-held a a' b m m' h in entry_known program S a' b x.0 x.1;
        unleaf_home =
            λ a a' b m m' c e h. let x = unleaf-held a a' b m m' h in entry-home program S a' b x.0 x.1 ∙ sym
            (exit_home program S a b x.0 (exit-at a b x.0 e));
        unleaf_valid = λ a a' b m m' c e h. let x = unleaf-held a a' b m m' h in entry-standing a' b x.0 x.1;
        unleaf_fine =
            λ a a' b m m' k c e h. let x = unleaf-made program S a a' b m m' h in let w = back-of m a (block_of program b)
            (record { stands = a'; memory = m' }) x.1 in act-fine m (inverse (block_of program b).instruction) m' k
            (inverse-fair (block_of program b).instruction (block-fair program S b x.0).instruction) w.acts;
        unleaf_forth =
            λ a a' b m m' k c e h. let x = unleaf-made program S a a' b m m' h in made-leaf program S a' b m' (record { stands = a; memory = m }) x.0
            (back-forward (block_of program b) (block-fair program S b x.0) m a (record { stands = a'; memory = m' }) k x.1);
      }
