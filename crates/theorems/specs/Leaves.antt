-- The step of a leaf, forward and undone: it depends on what its block reads, changes what its block writes, and undo takes it
-- back. Assumes that the block is fit (laws' Fit).
use Rattle.std.specs.Prelude.{◌≡◌, refl, ◌⊎◌, Bool, true, false, ◌||◌, ◌&&◌, List, ℕ, eqb}
use Rattle.std.proofs.Common.{sym, ap, ◌∙◌, subst, inl, inr, eqb-true}
use Rattle.theory.specs.Tests.{eqb_same, and-true, true_and, or_left, or_right}
use Rattle.rules.specs.Base.{pick}
use Rattle.rules.specs.Names.{entry_names, exit_names, semaphore_names, other_names, block_names, block_reads, instruction_writes, block_writes}
use Rattle.rules.specs.Machine.{place, begin, run, end}
use Rattle.rules.specs.Fits.{entry_holds, exit_holds}
use Rattle.rules.specs.Leaf.{Tried, made, refused, after, Moved, expression_value, chosen, entry_place, exit_place, act, inverse, present, leaf_forward, leaf_undo}
use Rattle.rules.specs.declared.Change.{Change}
use Rattle.rules.specs.declared.Instruction.{Instruction}
use Rattle.rules.specs.declared.Entry.{Entry}
use Rattle.rules.specs.declared.Exit.{Exit}
use Rattle.rules.specs.declared.Block.{Block}
use Rattle.rules.specs.declared.Place.{Place}
use Rattle.theorems.specs.Graphs.{instruction-reads}
use Rattle.laws.proofs.Lists.{pick_true}
use Rattle.theorems.specs.Memory.{look, Fine}
use Rattle.laws.specs.Fit.{InstructionFit, BlockFit}
use Rattle.theorems.specs.Evaluate.{made-inj, pick-made, after-made, made_after, Agree, entry-alike, exit-alike}
use Rattle.theorems.specs.Acts.{act-alike, act-keeps, act-fine}
use Rattle.theorems.specs.Inverses.{act-back}

-- ---- both ways have one shape: a place that must be the present one, an act, a place
unfoldable swung : List ℕ → Place → (List ℕ → Tried Place) → Instruction → (List ℕ → Tried Place) → Tried Moved
swung m here before i next =
    after (before m) (λ q. present here q (after (act m i) (λ new. after (next new) (λ x. made (record { stands = x; memory = new })))))

forward-swung :
    (m : List ℕ) (here : Place) (b : Block) →
    leaf_forward m here b ≡ swung m here (λ k. entry_place k b.entry) b.instruction (λ k. exit_place k b.exit)
unfolding leaf_forward swung
forward-swung m here b = refl

undo-swung :
    (m : List ℕ) (here : Place) (b : Block) →
    leaf_undo m here b ≡ swung m here (λ k. exit_place k b.exit) (inverse b.instruction) (λ k. entry_place k b.entry)
unfolding leaf_undo swung
undo-swung m here b = refl

pub same_place : (q here : Place) → q.label ≡ here.label → q.stage ≡ here.stage → q ≡ here
same_place q here a b = λ i. record { label = a i; stage = b i }

record Swings (m : List ℕ) (here : Place) (before : List ℕ → Tried Place) (i : Instruction) (next : List ℕ → Tried Place) (s : Moved) : Type 0 where
  from : before m ≡ made here
  acts : act m i ≡ made s.memory
  onto : next s.memory ≡ made s.stands

swings :
    (m : List ℕ) (here : Place) (before : List ℕ → Tried Place) (i : Instruction) (next : List ℕ → Tried Place) (s : Moved) →
    swung m here before i next ≡ made s → Swings m here before i next s
unfolding swung present
swings m here before i next s h =
    let x = after-made (before m) _ s h in
    let q = x.0 in
    let p = pick-made (eqb q.label here.label && eqb q.stage here.stage) _ 22 s x.2 in
    let w = and-true (eqb q.label here.label) (eqb q.stage here.stage) p.0 in
    let same = same_place q here (eqb-true q.label here.label w.0) (eqb-true q.stage here.stage w.1) in
    let y = after-made (act m i) _ s p.1 in
    let z = after-made (next y.0) _ s y.2 in
    let k : Path Moved (record { stands = z.0; memory = y.0 }) s = made-inj (record { stands = z.0; memory = y.0 }) s z.2 in
    let mem : y.0 ≡ s.memory = ap (λ (v : Moved). v.memory) k in
    let st : z.0 ≡ s.stands = ap (λ (v : Moved). v.stands) k in
    record {
      from = x.1 ∙ ap made same;
      acts = y.1 ∙ ap made mem;
      onto = ap next (sym mem) ∙ z.1 ∙ ap made st;
    }

swung-by :
    (m : List ℕ) (here : Place) (before : List ℕ → Tried Place) (i : Instruction) (next : List ℕ → Tried Place) (s : Moved) →
    Swings m here before i next s → swung m here before i next ≡ made s
unfolding swung present
swung-by m here before i next s w =
    made_after (before m) _ here w.from
    ∙ pick_true (eqb here.label here.label && eqb here.stage here.stage) _ (refused 22)
    (true_and (eqb here.label here.label) (eqb here.stage here.stage) (eqb_same here.label here.label refl)
    (eqb_same here.stage here.stage refl))
    ∙ made_after (act m i) _ s.memory w.acts
    ∙ made_after (next s.memory) _ s.stands w.onto

-- a leaf's step and its undo, by their three parts
pub record Forth (m : List ℕ) (here : Place) (b : Block) (s : Moved) : Type 0 where
  pub enters : entry_place m b.entry ≡ made here
  pub acts : act m b.instruction ≡ made s.memory
  pub leaves : exit_place s.memory b.exit ≡ made s.stands

pub record Back (m : List ℕ) (here : Place) (b : Block) (s : Moved) : Type 0 where
  pub leaves : exit_place m b.exit ≡ made here
  pub acts : act m (inverse b.instruction) ≡ made s.memory
  pub enters : entry_place s.memory b.entry ≡ made s.stands

pub forth-of : (m : List ℕ) (here : Place) (b : Block) (s : Moved) → leaf_forward m here b ≡ made s → Forth m here b s
forth-of m here b s h =
    let w = swings m here (λ k. entry_place k b.entry) b.instruction (λ k. exit_place k b.exit) s (sym (forward-swung m here b) ∙ h) in
    record { enters = w.from; acts = w.acts; leaves = w.onto }

pub of_forth : (m : List ℕ) (here : Place) (b : Block) (s : Moved) → Forth m here b s → leaf_forward m here b ≡ made s
of_forth m here b s w =
    forward-swung m here b
    ∙ swung-by m here (λ k. entry_place k b.entry) b.instruction (λ k. exit_place k b.exit) s
    (record { from = w.enters; acts = w.acts; onto = w.leaves })

pub back-of : (m : List ℕ) (here : Place) (b : Block) (s : Moved) → leaf_undo m here b ≡ made s → Back m here b s
back-of m here b s h =
    let w =
    swings m here (λ k. exit_place k b.exit) (inverse b.instruction) (λ k. entry_place k b.entry) s (sym (undo-swung m here b) ∙ h) in
    record { leaves = w.from; acts = w.acts; enters = w.onto }

-- ---- an inverse names and writes what its instruction does
inverse-names : (i : Instruction) (r : ℕ) → (other_names (inverse i) r || semaphore_names (inverse i) r) ≡ (other_names i r || semaphore_names i r)
inverse-names (Instruction.Update change a e) r = refl
inverse-names (Instruction.Exchange a b) r = refl
inverse-names (Instruction.OpV x) r = refl
inverse-names (Instruction.OpP x) r = refl
inverse-names (Instruction.Assert e) r = refl
inverse-names Instruction.Skip r = refl
inverse-names (Instruction.Call n) r = refl

inverse-writes : (i : Instruction) (r : ℕ) → instruction_writes (inverse i) r ≡ instruction_writes i r
inverse-writes (Instruction.Update change a e) r = refl
inverse-writes (Instruction.Exchange a b) r = refl
inverse-writes (Instruction.OpV x) r = refl
inverse-writes (Instruction.OpP x) r = refl
inverse-writes (Instruction.Assert e) r = refl
inverse-writes Instruction.Skip r = refl
inverse-writes (Instruction.Call n) r = refl

pub inverse-fair : (i : Instruction) → InstructionFit i → InstructionFit (inverse i)
inverse-fair (Instruction.Update change a e) f = f
inverse-fair (Instruction.Exchange a b) f = f
inverse-fair (Instruction.OpV x) f = f
inverse-fair (Instruction.OpP x) f = f
inverse-fair (Instruction.Assert e) f = f
inverse-fair Instruction.Skip f = f
inverse-fair (Instruction.Call n) f = f

pub of_back : (m : List ℕ) (here : Place) (b : Block) (s : Moved) → Back m here b s → leaf_undo m here b ≡ made s
of_back m here b s w =
    undo-swung m here b
    ∙ swung-by m here (λ k. exit_place k b.exit) (inverse b.instruction) (λ k. entry_place k b.entry) s
    (record { from = w.leaves; acts = w.acts; onto = w.enters })

inverse-twice : (i : Instruction) → inverse (inverse i) ≡ i
inverse-twice (Instruction.Update Change.Add a e) = refl
inverse-twice (Instruction.Update Change.Subtract a e) = refl
inverse-twice (Instruction.Update Change.Xor a e) = refl
inverse-twice (Instruction.Exchange a b) = refl
inverse-twice (Instruction.OpV x) = refl
inverse-twice (Instruction.OpP x) = refl
inverse-twice (Instruction.Assert e) = refl
inverse-twice Instruction.Skip = refl
inverse-twice (Instruction.Call n) = refl

-- ---- parts of what a block reads
reads-entry : (b : Block) (r : ℕ) → entry_names b.entry r ≡ true → block_reads b r ≡ true
unfolding block_reads block_names
reads-entry b r h =
    or_left (block_names b r) (semaphore_names b.instruction r)
    (or_left (entry_names b.entry r) (other_names b.instruction r || exit_names b.exit r) h)

reads_exit : (b : Block) (r : ℕ) → exit_names b.exit r ≡ true → block_reads b r ≡ true
unfolding block_reads block_names
reads_exit b r h =
    or_left (block_names b r) (semaphore_names b.instruction r)
    (or_right (entry_names b.entry r) (other_names b.instruction r || exit_names b.exit r)
    (or_right (other_names b.instruction r) (exit_names b.exit r) h))

-- ---- the laws
module _ (b : Block) (f : BlockFit b) where
  -- on another memory that shows the same at what the block reads
  swung-alike :
      (m n : List ℕ) (here : Place) (before next : List ℕ → Tried Place) (i : Instruction) (s : Moved) →
      ((k l : List ℕ) → Agree (block_reads b) k l → before l ≡ before k) → ((k l : List ℕ) → Agree (block_reads b) k l → next l ≡ next k) →
      InstructionFit i → ((r : ℕ) → (other_names i r || semaphore_names i r) ≡ true → block_reads b r ≡ true) → Agree (block_reads b) m n →
      Swings m here before i next s → (n' : List ℕ) × Swings n here before i next (record { stands = s.stands; memory = n' }) × Agree (block_reads b)
      s.memory n'
  swung-alike m n here before next i s hb hn fi names a w =
      let x = act-alike m n i s.memory fi (λ r h. a r (names r h)) w.acts in
      let agree : Agree (block_reads b) s.memory x.0 = λ r h. x.2 r (a r h) in
      (x.0, record { from = hb m n a ∙ w.from; acts = x.1; onto = hn s.memory x.0 agree ∙ w.onto }, agree)

  entry-reading : (k l : List ℕ) → Agree (block_reads b) k l → entry_place l b.entry ≡ entry_place k b.entry
  entry-reading k l a = entry-alike k l b.entry f.entry (λ r h. a r (reads-entry b r h))

  exit-reading : (k l : List ℕ) → Agree (block_reads b) k l → exit_place l b.exit ≡ exit_place k b.exit
  exit-reading k l a = exit-alike k l b.exit f.exit (λ r h. a r (reads_exit b r h))

  inverse-reading : (r : ℕ) → (other_names (inverse b.instruction) r || semaphore_names (inverse b.instruction) r) ≡ true → block_reads b r ≡ true
  inverse-reading r h = instruction-reads b r (sym (inverse-names b.instruction r) ∙ h)

  pub forward-alike :
      (m n : List ℕ) (here : Place) (s : Moved) → leaf_forward m here b ≡ made s → Agree (block_reads b) m n →
      (n' : List ℕ) × (leaf_forward n here b ≡ made (record { stands = s.stands; memory = n' })) × Agree (block_reads b) s.memory n'
  forward-alike m n here s h a =
      let w = swings m here (λ k. entry_place k b.entry) b.instruction (λ k. exit_place k b.exit) s (sym (forward-swung m here b) ∙ h) in
      let x =
      swung-alike m n here (λ k. entry_place k b.entry) (λ k. exit_place k b.exit) b.instruction s entry-reading exit-reading f.instruction
      (instruction-reads b) a w in
      (x.0, forward-swung n here b ∙ swung-by n here _ b.instruction _ (record { stands = s.stands; memory = x.0 }) x.1, x.2)

  pub undo-alike :
      (m n : List ℕ) (here : Place) (s : Moved) → leaf_undo m here b ≡ made s → Agree (block_reads b) m n →
      (n' : List ℕ) × (leaf_undo n here b ≡ made (record { stands = s.stands; memory = n' })) × Agree (block_reads b) s.memory n'
  undo-alike m n here s h a =
      let w =
      swings m here (λ k. exit_place k b.exit) (inverse b.instruction) (λ k. entry_place k b.entry) s (sym (undo-swung m here b) ∙ h) in
      let x =
      swung-alike m n here (λ k. exit_place k b.exit) (λ k. entry_place k b.entry) (inverse b.instruction) s exit-reading entry-reading
      (inverse-fair b.instruction f.instruction) inverse-reading a w in
      (x.0, undo-swung n here b ∙ swung-by n here _ (inverse b.instruction) _ (record { stands = s.stands; memory = x.0 }) x.1, x.2)

  -- what the block does not write stays
  pub forward-keeps :
      (m : List ℕ) (here : Place) (s : Moved) → leaf_forward m here b ≡ made s → (r : ℕ) → block_writes b r ≡ false → look s.memory r ≡ look m r
  unfolding block_writes
  forward-keeps m here s h r k =
      let w = swings m here (λ k. entry_place k b.entry) b.instruction (λ k. exit_place k b.exit) s (sym (forward-swung m here b) ∙ h) in
      act-keeps m b.instruction s.memory f.instruction w.acts r k

  pub undo-keeps :
      (m : List ℕ) (here : Place) (s : Moved) → leaf_undo m here b ≡ made s → (r : ℕ) → block_writes b r ≡ false → look s.memory r ≡ look m r
  unfolding block_writes
  undo-keeps m here s h r k =
      let w =
      swings m here (λ k. exit_place k b.exit) (inverse b.instruction) (λ k. entry_place k b.entry) s (sym (undo-swung m here b) ∙ h) in
      act-keeps m (inverse b.instruction) s.memory (inverse-fair b.instruction f.instruction) w.acts r
      (inverse-writes b.instruction r ∙ k)

  pub forward-fine : (m : List ℕ) (here : Place) (s : Moved) → Fine m → leaf_forward m here b ≡ made s → Fine s.memory
  forward-fine m here s k h =
      let w = swings m here (λ k. entry_place k b.entry) b.instruction (λ k. exit_place k b.exit) s (sym (forward-swung m here b) ∙ h) in
      act-fine m b.instruction s.memory k f.instruction w.acts

  -- an undo takes a step back
  pub forward-back :
      (m : List ℕ) (here : Place) (s : Moved) → Fine m → leaf_forward m here b ≡ made s →
      leaf_undo s.memory s.stands b ≡ made (record { stands = here; memory = m })
  forward-back m here s k h =
      let w = swings m here (λ k. entry_place k b.entry) b.instruction (λ k. exit_place k b.exit) s (sym (forward-swung m here b) ∙ h) in
      undo-swung s.memory s.stands b
      ∙ swung-by s.memory s.stands (λ k. exit_place k b.exit) (inverse b.instruction) (λ k. entry_place k b.entry)
      (record { stands = here; memory = m })
      (record { from = w.onto; acts = act-back m b.instruction s.memory k f.instruction w.acts; onto = w.from })

  -- and a step forward takes an undo back
  pub back-forward :
      (m : List ℕ) (here : Place) (s : Moved) → Fine m → leaf_undo m here b ≡ made s →
      leaf_forward s.memory s.stands b ≡ made (record { stands = here; memory = m })
  back-forward m here s k h =
      let w = back-of m here b s h in
      let acts = act-back m (inverse b.instruction) s.memory k (inverse-fair b.instruction f.instruction) w.acts in
      of_forth s.memory s.stands b (record { stands = here; memory = m })
      (record {
        enters = w.enters;
        acts = subst (λ (i : Instruction). act s.memory i ≡ made m) (inverse-twice b.instruction) acts;
        leaves = w.leaves;
      })

  pub forward-from :
      (m : List ℕ) (here : Place) (s : Moved) → leaf_forward m here b ≡ made s →
      (entry_place m b.entry ≡ made here) × (exit_place s.memory b.exit ≡ made s.stands)
  forward-from m here s h =
      let w = swings m here (λ k. entry_place k b.entry) b.instruction (λ k. exit_place k b.exit) s (sym (forward-swung m here b) ∙ h) in
      (w.from, w.onto)

-- ---- the place that an entry or an exit gives, it holds
chosen-run : (l m v : ℕ) → (chosen l m v ≡ place l run) ⊎ (chosen l m v ≡ place m run)
unfolding chosen pick
chosen-run l m v = go (eqb v 0)
  where
    go : (t : Bool) → (pick t (place m run) (place l run) ≡ place l run) ⊎ (pick t (place m run) (place l run) ≡ place m run)
    go true = inr refl
    go false = inl refl

chosen-held : (l m v : ℕ) → (eqb (chosen l m v).stage run && (eqb (chosen l m v).label l || eqb (chosen l m v).label m)) ≡ true
chosen-held l m v = go (chosen-run l m v)
  where
    go :
        (chosen l m v ≡ place l run) ⊎ (chosen l m v ≡ place m run) →
        (eqb (chosen l m v).stage run && (eqb (chosen l m v).label l || eqb (chosen l m v).label m)) ≡ true
    go (inl e) =
        subst (λ (q : Place). (eqb q.stage run && (eqb q.label l || eqb q.label m)) ≡ true) (sym e)
        (or_left (eqb l l) (eqb l m) (eqb_same l l refl))
    go (inr e) =
        subst (λ (q : Place). (eqb q.stage run && (eqb q.label l || eqb q.label m)) ≡ true) (sym e)
        (or_right (eqb m l) (eqb m m) (eqb_same m m refl))

pub exit-held : (m : List ℕ) (x : Exit) (q : Place) → exit_place m x ≡ made q → exit_holds x q ≡ true
unfolding exit_place
exit-held m (Exit.To l) q h = subst (λ (p : Place). exit_holds (Exit.To l) p ≡ true) (made-inj (place l run) q h) (eqb_same l l refl)
exit-held m (Exit.Either e l k) q h =
    let y = after-made (expression_value m e) _ q h in
    subst (λ (p : Place). exit_holds (Exit.Either e l k) p ≡ true) (made-inj (chosen l k y.0) q y.2) (chosen-held l k y.0)
exit-held m (Exit.End l) q h = subst (λ (p : Place). exit_holds (Exit.End l) p ≡ true) (made-inj (place l end) q h) (eqb_same l l refl)

pub entry-held : (m : List ℕ) (x : Entry) (q : Place) → entry_place m x ≡ made q → entry_holds x q ≡ true
unfolding entry_place
entry-held m (Entry.From l) q h = subst (λ (p : Place). entry_holds (Entry.From l) p ≡ true) (made-inj (place l run) q h) (eqb_same l l refl)
entry-held m (Entry.Either l k e) q h =
    let y = after-made (expression_value m e) _ q h in
    subst (λ (p : Place). entry_holds (Entry.Either l k e) p ≡ true) (made-inj (chosen l k y.0) q y.2) (chosen-held l k y.0)
entry-held m (Entry.Begin l) q h = subst (λ (p : Place). entry_holds (Entry.Begin l) p ≡ true) (made-inj (place l begin) q h) (eqb_same l l refl)
