-- A machine that its kept steps give, made forward from some base: what Reached is with the start as base. An accepted undo keeps
-- it, with the same base, and is an undo of the theory; and an undo of the theory is an accepted one. Assumes that the image is
-- sound.
use Rattle.std.specs.Prelude.{◌≡◌, Bool, false, ◌||◌, ℕ, eqb}
use Rattle.std.proofs.Math.Path.{refl}
use Rattle.std.proofs.Common.{sym, ap, ◌∙◌, subst, inr}
use Rattle.std.proofs.Math.Option.{Option, some}
use mathlib.Core.List.{List, [], ◌∷◌, ◌++◌, map}
use Rattle.theory.specs.Cause.{Feet}
use Rattle.theory.specs.Tests.{true_false, eqb_same, eqb-other, or-false}
use Rattle.theory.specs.Histories.{Indep, Apart, NoneBy}
use Rattle.theory.specs.Moving.{apart_none}
use Rattle.theory.specs.Undoable.{free-apart, apart-free}
use Rattle.theory.specs.Replay.{Runs, Lawful, runs-ok}
use Rattle.theory.specs.Local.{Taken, view, fired}
use Rattle.theory.specs.Shapes.{footprints, back, back-shape}
use Rattle.theory.specs.Framing.{back-ready}
use Rattle.theory.specs.Family.{Ok}
use Rattle.theory.specs.Machine.{lawful, mark}
use Rattle.theory.specs.Peak.{Hangs, hangs-grown}
use Rattle.theory.specs.Redoing.{back-grows}
use Rattle.theory.specs.Kinship.{line, trades-line}
use Rattle.theory.specs.TakingBack.{Mark, stays, gone, kept, Undone}
use Rattle.theory.specs.Marks.{find, kept_append}
use Rattle.theory.specs.Returning.{Decides, Trades, undone-good}
use Rattle.rules.specs.Base.{some_of}
use Rattle.rules.specs.Machine.{Kept, Machine, standing}
use Rattle.rules.specs.Fits.{exit_block}
use Rattle.rules.specs.Cause.{holds}
use Rattle.rules.specs.Leaf.{made}
use Rattle.rules.specs.Step.{undo, close_up}
use Rattle.rules.specs.declared.Block.{Block}
use Rattle.rules.specs.declared.Place.{Place}
use Rattle.laws.specs.Conflict.{conflicts}
use Rattle.laws.proofs.Ascending.{close_at}
use Rattle.theorems.specs.Graphs.{feet_of}
use Rattle.theorems.specs.Held.{NoneOf, held, held_none, apart-all, apart-steps, steps_apart}
use Rattle.theorems.specs.Program.{Sound, real}
use Rattle.theorems.specs.Tables.{Sorted}
use Rattle.theorems.specs.Footprints.{apart-same, indep-same, reads_same, writes-same}
use Rattle.theorems.specs.Forward.{Configuration, configuration_of, entry_of, step_of, ahead}
use Rattle.theorems.specs.Backward.{behind, unstepped, goes_back}
use Rattle.theorems.specs.Reached.{newest-of, map-append}
use Rattle.theorems.specs.Room.{children-room}
use Rattle.theorems.specs.Stands.{call-here}
use Rattle.theorems_take_back.specs.TurnedRound.{both_ways}

abbrev pub kept_of : Taken → Kept
kept_of e = record { identifier = e.process; block = e.block }

pub kept-entries : (h : List Kept) → map kept_of (map entry_of h) ≡ h
kept-entries [] = refl
kept-entries (k ∷ h) = ap (λ (l : List Kept). k ∷ l) (kept-entries h)

pub map-kept : (u v : List Taken) → map kept_of (u ++ v) ≡ map kept_of u ++ map kept_of v
map-kept [] v = refl
map-kept (k ∷ u) v = ap (λ (l : List Kept). kept_of k ∷ l) (map-kept u v)

module _ (program : List Block) (S : Sound program) where
  abbrev pub Φ : Feet
  Φ = footprints (real program S)

  abbrev pub laws : Lawful Φ (ahead program S) (behind program S) (Ok (real program S)) (mark (real program S))
  laws = lawful (real program S)

  -- the steps, made forward from the one, lead to the other
  abbrev pub Gives : Configuration → List Taken → Configuration → Type 0
  Gives = Runs Φ (ahead program S) (behind program S)

  pub record Rooted (base : Configuration) (m : Machine) : Type 0 where
    pub base_ok : Ok (real program S) base
    pub gives : Gives base (map entry_of m.history) (configuration_of m)
    pub ordered : Sorted m.rows
    pub hangs : Hangs (real program S) (standing m.rows)

  pub rooted-ok : (base : Configuration) (m : Machine) → Rooted base m → Ok (real program S) (configuration_of m)
  rooted-ok base m r =
      runs-ok Φ (ahead program S) (behind program S) (Ok (real program S)) (mark (real program S)) laws base (configuration_of m)
      (map entry_of m.history) r.base_ok r.gives

  -- ---- which kept steps are not independent: of one process, of two of which one is above the other, or in conflict
  abbrev pub kin : ℕ → ℕ → Bool
  kin = line 8

  abbrev pub depends : Taken → Taken → Bool
  depends a b = eqb b.process a.process || (kin a.process b.process || conflicts program (kept_of a) (kept_of b))

  pub same-indep : (a b : Taken) → Indep Φ a b → Indep (feet_of program) (kept_of a) (kept_of b)
  same-indep a b i = (
    (λ r w. reads_same program S (kept_of b) r ∙ i.0 r (sym (writes-same program S (kept_of a) r) ∙ w)),
    (λ r w. reads_same program S (kept_of a) r ∙ i.1 r (sym (writes-same program S (kept_of b) r) ∙ w)),
  )

  three : (a b : Taken) → depends a b ≡ false →
      (eqb b.process a.process ≡ false) × (kin a.process b.process ≡ false) × (conflicts program (kept_of a) (kept_of b) ≡ false)
  three a b h =
      let x = or-false (eqb b.process a.process) (kin a.process b.process || conflicts program (kept_of a) (kept_of b)) h in
      let y = or-false (kin a.process b.process) (conflicts program (kept_of a) (kept_of b)) x.1 in
      (x.0, y.0, y.1)

  pub decides : Decides Φ (ahead program S) (behind program S) kin depends
  decides =
      record {
        other = λ a b h e. true_false (eqb_same b.process a.process e) (three a b h).0;
        no_kin = λ a b h. (three a b h).1;
        indep = λ a b h. indep-same program S (kept_of a) (kept_of b) (apart-steps program (kept_of a) (kept_of b) (three a b h).2);
        all_three = λ a b n k i. rw (eqb-other b.process a.process n, k) (steps_apart program (kept_of a) (kept_of b) (same-indep a b i));
      }

  pub trades : Trades Φ (ahead program S) (behind program S) (Ok (real program S)) kin
  trades = trades-line (real program S) 7

  -- ---- undos
  pub record UndoneBy (m : Machine) (p : ℕ) (m' : Machine) : Type 0 where
    pub here : Place
    pub live : standing m.rows p ≡ some here
    pub undone : undo program m p here ≡ made m'

  abbrev pub Un : Configuration → List (Mark Taken) → ℕ → Configuration → List (Mark Taken) → Type 0
  Un = Undone Φ (behind program S)

  -- rows still hang from the root
  pub hangs-back :
      (c c' : Configuration) (p : ℕ) (e : Taken) → Ok (real program S) c → Hangs (real program S) c.rows → behind program S c p ≡ some (e, c') →
      Hangs (real program S) c'.rows
  hangs-back c c' p e ok H h =
      let Π = real program S in
      let x = fired (back Π) c p e c' h in
      let sh = back-shape Π (c.rows p) (view c.rows p) c.memory x.out x.at in
      subst (λ z. Hangs Π z.rows) (sym x.is_done)
      (hangs-grown Π c.rows p x.out.row x.out.kids (back-grows Π (both_ways program S) c p ok.0 x.out sh) H)

  -- an accepted undo is an undo of the theory, and keeps the base
  pub record Followed (base : Configuration) (m : Machine) (marks : List (Mark Taken)) (p : ℕ) (m' : Machine) : Type 0 where
    pub left : List (Mark Taken)
    pub undoes : Un (configuration_of m) marks p (configuration_of m') left
    pub history : kept left ≡ map entry_of m'.history
    pub rooted : Rooted base m'

  pub followed :
      (base : Configuration) (m : Machine) (marks : List (Mark Taken)) (p : ℕ) (m' : Machine) → Rooted base m → kept marks ≡ map entry_of m.history →
      UndoneBy m p m' → Followed base m marks p m'
  followed base m marks p m' r same d =
      let ok = rooted-ok base m r in
      let st = unstepped program S m p d.here d.live r.ordered r.hangs.tree ok.0 m' d.undone in
      let s = st.0 in
      let n = newest-of p m.history (λ e. true_false (held_none program m.history p e) st.1) in
      let u = n.before in
      let k = n.step in
      let w = n.later in
      let last : NoneOf k.identifier w = subst (λ (q : ℕ). some_of (λ j. eqb j.identifier q) w ≡ false) (sym n.own) n.last in
      let free : holds program (u ++ k ∷ w) k.identifier ≡ false =
      subst (λ (l : List Kept). holds program l k.identifier ≡ false) n.whole
      (subst (λ (q : ℕ). holds program m.history q ≡ false) (sym n.own) st.1) in
      let a = apart-same program S k w (apart-all program k w last (sym (held program u k w last) ∙ free)) in
      let f = find marks (map entry_of u) (entry_of k) (map entry_of w) (same ∙ ap (map entry_of) n.whole ∙ map-append u (k ∷ w)) in
      let a₁ : Apart Φ (entry_of k) (kept f.later) = subst (λ (l : List Taken). Apart Φ (entry_of k) l) (sym f.kept_later) a in
      let left = f.before ++ gone (entry_of k) ∷ f.later in
      let x : Un (configuration_of m) marks p (configuration_of m') left =
      record {
        before = f.before;
        step = entry_of k;
        later = f.later;
        said = entry_of (step_of p s.block);
        was = f.was;
        is = refl;
        own = n.own;
        free = apart-free Φ (kept f.before) (entry_of k) (kept f.later) a₁;
        back = s.moves;
      } in
      let c : m'.history ≡ u ++ w = s.closed ∙ ap (λ (l : List Kept). close_up l p) n.whole ∙ close_at p u k w n.own n.last in
      let hist : kept left ≡ map entry_of m'.history =
      kept_append f.before (gone (entry_of k) ∷ f.later) ∙ ap (λ (l : List Taken). l ++ kept f.later) f.kept_before
      ∙ ap (λ (l : List Taken). map entry_of u ++ l) f.kept_later ∙ sym (map-append u w) ∙ ap (map entry_of) (sym c) in
      let g =
      undone-good Φ (ahead program S) (behind program S) (Ok (real program S)) (mark (real program S)) laws kin trades depends decides base r.base_ok
      (configuration_of m) (configuration_of m') marks left p (subst (λ (l : List Taken). Gives base l (configuration_of m)) (sym same) r.gives) x in
      record {
        left = left;
        undoes = x;
        history = hist;
        rooted = record {
          base_ok = r.base_ok;
          gives = subst (λ (l : List Taken). Gives base l (configuration_of m')) hist g;
          ordered = s.ordered;
          hangs = hangs-back (configuration_of m) (configuration_of m') p (entry_of (step_of p s.block)) ok r.hangs s.moves;
        };
      }

  -- an undo of the theory is an accepted one
  no_conflicts : (a : Taken) (w : List Taken) → Apart Φ a w → some_of (conflicts program (kept_of a)) (map kept_of w) ≡ false
  unfolding some_of
  no_conflicts a [] h = refl
  no_conflicts a (b ∷ w) h = rw (steps_apart program (kept_of a) (kept_of b) (same-indep a b h.1)) (no_conflicts a w h.2)

  none_of : (p : ℕ) (w : List Taken) → NoneBy Φ p w → NoneOf p (map kept_of w)
  unfolding some_of
  none_of p [] n = refl
  none_of p (b ∷ w) n = rw (eqb-other b.process p n.0) (none_of p w n.1)

  pub record Accepts (m : Machine) (p : ℕ) (c' : Configuration) : Type 0 where
    pub leaves : Machine
    pub undoes : UndoneBy m p leaves
    pub there : configuration_of leaves ≡ c'

  pub accepts :
      (base : Configuration) (m : Machine) (marks : List (Mark Taken)) (p : ℕ) (c' : Configuration) (left : List (Mark Taken)) → Rooted base m →
      kept marks ≡ map entry_of m.history → Un (configuration_of m) marks p c' left → Accepts m p c'
  accepts base m marks p c' left r same x =
      let Π = real program S in
      let ok = rooted-ok base m r in
      let a = free-apart Φ (kept x.before) x.step (kept x.later) x.free in
      let F = fired (back Π) (configuration_of m) p x.said c' x.back in
      let l =
      back-ready Π (standing m.rows p) (view (standing m.rows) p) m.memory F.out
      (back-shape Π (standing m.rows p) (view (standing m.rows) p) m.memory F.out F.at) in
      let k = kept_of x.step in
      let u = map kept_of (kept x.before) in
      let w = map kept_of (kept x.later) in
      let whole : m.history ≡ u ++ k ∷ w =
      sym (kept-entries m.history) ∙ ap (map kept_of) (sym same ∙ ap kept x.was ∙ kept_append x.before (stays x.step ∷ x.later))
      ∙ map-kept (kept x.before) (x.step ∷ kept x.later) in
      let last : NoneOf k.identifier w = none_of k.identifier (kept x.later) (apart_none Φ x.step (kept x.later) a) in
      let free₁ : holds program m.history k.identifier ≡ false =
      ap (λ (t : List Kept). holds program t k.identifier) whole ∙ held program u k w last ∙ no_conflicts x.step (kept x.later) a in
      let free : holds program m.history p ≡ false = subst (λ (q : ℕ). holds program m.history q ≡ false) x.own free₁ in
      let g =
      goes_back program S m p l.0 l.1 r.ordered r.hangs.tree ok.0 x.said c' x.back free
      (λ n alone call. children-room program S m.rows r.ordered ok.0 r.hangs p l.0 (exit_block program l.0) l.1 alone call
      (sym (call-here program S l.0 (exit_block program l.0) call (inr refl)))) in
      let st = (unstepped program S m p l.0 l.1 r.ordered r.hangs.tree ok.0 g.0 g.1).0 in
      let e : Path (Option (Taken × Configuration)) (some (entry_of (step_of p st.block), configuration_of g.0)) (some (x.said, c')) =
      sym st.moves ∙ x.back in
      let q : Path (Taken × Configuration) (entry_of (step_of p st.block), configuration_of g.0) (x.said, c') = cc in
      record { leaves = g.0; undoes = record { here = l.0; live = l.1; undone = g.1 }; there = ap (λ z. z.1) q }
