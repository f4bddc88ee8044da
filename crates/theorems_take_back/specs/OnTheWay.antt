-- On a machine that passes codes 17 and 35, every machine that a string of undos meets, while a kept step remains, passes code 17
-- too: so 01's calls accept the string where rules' undo does. For the root's first entry stays while any entry stays, and after
-- it each row names the newest entry of its process. Assumes that the image is sound and the memory is 288 words.
use Rattle.std.specs.Prelude.{◌≡◌, ◌⊎◌, ◌≢◌, Bool, true, false, ◌&&◌, ◌||◌, ℕ, zero, suc, ◌/◌, ◌%◌, eqb, leb}
use Rattle.std.proofs.Math.Path.{refl}
use Rattle.std.proofs.Common.{sym, ap, ◌∙◌, subst, inl, inr, arith}
use Rattle.std.proofs.Math.Option.{Option, none, some}
use mathlib.Core.List.{List, [], ◌∷◌, ◌++◌, map}
use Rattle.std.proofs.Math.Decide.{ℕ_discrete}
use Rattle.theory.specs.Tests.{bool_cases, eqb_same, eqb-eq, and-true, true_and, or_cases, or_left, or_right, some_inj, none-some}
use Rattle.theory.specs.Histories.{All}
use Rattle.theory.specs.Replay.{Newest, step-det}
use Rattle.theory.specs.Local.{Taken, slot, view, fired, kid-facts}
use Rattle.theory.specs.Shapes.{back, back-shape, has_kids}
use Rattle.theory.specs.Framing.{back-ready, view-kid}
use Rattle.theory.specs.Family.{Family, Ok}
use Rattle.theory.specs.Machine.{mark, named}
use Rattle.theory.specs.Optional.{any_of, onto}
use Rattle.theory.specs.Kinship.{below, climb}
use Rattle.theory.specs.Emptied.{names-newest, goes_last}
use Rattle.theory.specs.TakingBack.{Mark, stays, gone, all, kept, Closed}
use Rattle.theory.specs.Marks.{all_append, all_whole, kept_whole, kept_append, nothing-closed}
use Rattle.theory.specs.Returning.{undone-closed}
use Rattle.rules.specs.Base.{pick, each_of}
use Rattle.rules.specs.Machine.{Kept, Machine, standing}
use Rattle.rules.specs.Fits.{newest, exit_block, digits_fit, block_fits, kept_fits, ascending, root_fits, row_fits, machine_fits}
use Rattle.rules.specs.declared.Block.{Block}
use Rattle.rules.specs.declared.Place.{Place}
use Rattle.laws.specs.Conflict.{conflicts}
use Rattle.theorems.specs.Parts.{exit_at}
use Rattle.theorems.specs.Memory.{Fine}
use Rattle.theorems.specs.Program.{Sound, real, exit-some}
use Rattle.theorems.specs.Fitting.{Names, parts-fit}
use Rattle.theorems.specs.Fitted.{fitted}
use Rattle.theorems.specs.Forward.{Configuration, configuration_of, entry_of, ahead}
use Rattle.theorems.specs.Backward.{behind}
use Rattle.theorems.specs.PaperFitted as PaperFitted
use Rattle.theorems_take_back.specs.Rooted.{Φ, laws, Gives, Rooted, rooted-ok, kin, depends, decides, trades, UndoneBy, Un, followed, kept_of}
use Rattle.theorems_take_back.specs.Bottom.{EmptiedBy, newest-moves, redoable, rooted}
use Rattle.theorems_take_back.specs.TakenBack.{UndoneAll, before}

-- every process but the root is below the root
pub under_root : (n x : ℕ) → digits_fit n x ≡ true → x ≢ 0 → below n 0 x ≡ true
unfolding digits_fit
under_root zero x h d = absurd (d (eqb-eq x 0 h))
under_root (suc n) x h d = go (λ a b. under_root n (x / 16) a b) (or_cases (eqb x 0) (leb 1 (x % 16) && (leb (x % 16) 8 && digits_fit n (x / 16))) h)
  where
    up : (digits_fit n (x / 16) ≡ true → x / 16 ≢ 0 → below n 0 (x / 16) ≡ true) → digits_fit n (x / 16) ≡ true → Dec (x / 16 ≡ 0) →
        (eqb (x / 16) 0 || below n 0 (x / 16)) ≡ true
    up ih f (yes e) = or_left (eqb (x / 16) 0) (below n 0 (x / 16)) (eqb_same (x / 16) 0 e)
    up ih f (no z) = or_right (eqb (x / 16) 0) (below n 0 (x / 16)) (ih f z)

    go :
        (digits_fit n (x / 16) ≡ true → x / 16 ≢ 0 → below n 0 (x / 16) ≡ true) →
        (eqb x 0 ≡ true) ⊎ ((leb 1 (x % 16) && (leb (x % 16) 8 && digits_fit n (x / 16))) ≡ true) → below (suc n) 0 x ≡ true
    go ih (inl e) = absurd (d (eqb-eq x 0 e))
    go ih (inr y) =
        let a = and-true (leb 1 (x % 16)) (leb (x % 16) 8 && digits_fit n (x / 16)) y in
        let b = and-true (leb (x % 16) 8) (digits_fit n (x / 16)) a.1 in
        true_and (slot (x % 16)) (eqb (x / 16) 0 || below n 0 (x / 16)) (true_and (leb 1 (x % 16)) (leb (x % 16) 8) a.0 b.0)
        (up ih b.1 (ℕ_discrete (x / 16) 0))

newest-only : (k : Kept) (p b : ℕ) → newest (k ∷ []) p ≡ some b → (k.identifier ≡ p) × (k.block ≡ b)
unfolding newest pick
newest-only k p b h = go (bool_cases (eqb k.identifier p))
  where
    go : (eqb k.identifier p ≡ true) ⊎ (eqb k.identifier p ≡ false) → (k.identifier ≡ p) × (k.block ≡ b)
    go (inl e) = (eqb-eq k.identifier p e, some_inj k.block b (rw e at h))
    go (inr e) = absurd (none-some (rw e at h))

onto-some : {A B : Type 0} (f : A → B) (o : Option A) (y : B) → onto f o ≡ some y → (x : A) × (o ≡ some x) × (f x ≡ y)
onto-some f none y h = absurd (none-some h)
onto-some f (some x) y h = (x, refl, some_inj (f x) y h)

module _ (program : List Block) (S : Sound program) where
  -- ---- the machine after the first entry
  pub record First (m₀ : Machine) (k : Kept) : Type 0 where
    pub machine : Machine
    pub passed : machine_fits program machine ≡ true
    pub good : Ok (real program S) (configuration_of machine)
    pub only : machine.history ≡ k ∷ []
    pub undone : behind program S (configuration_of machine) k.identifier ≡ some (entry_of k, configuration_of m₀)
    pub made_by : ahead program S (configuration_of m₀) k.identifier ≡ some (entry_of k, configuration_of machine)

  pub first_of :
      (t : List Kept) (k : Kept) (m m₀ : Machine) → Ok (real program S) (configuration_of m) → EmptiedBy program S m (k ∷ t) m₀ →
      (k₁ : Kept) × (rest : List Kept) × (m.history ≡ k₁ ∷ rest) × First m₀ k₁
  first_of [] k m m₀ ok x =
      let n = newest-moves program S m x.3 x.1 k x.0 x.2 x.4 in
      let h : x.1 ≡ [] = sym n.1 ∙ x.5.0 in
      let e : m.history ≡ k ∷ [] = x.2 ∙ ap (λ (l : List Kept). l ++ k ∷ []) h in
      let b : behind program S (configuration_of m) k.identifier ≡ some (entry_of k, configuration_of m₀) =
      subst (λ (z : Machine). behind program S (configuration_of m) k.identifier ≡ some (entry_of k, configuration_of z)) x.5.1 n.0 in (
        k,
        [],
        e,
        record {
          machine = m;
          passed = x.0;
          good = ok;
          only = e;
          undone = b;
          made_by = (redoable program S).forth (configuration_of m) (configuration_of m₀) (entry_of k) ok b;
        },
      )
  first_of (j ∷ t) k m m₀ ok x =
      let n = newest-moves program S m x.3 x.1 k x.0 x.2 x.4 in
      let ok₁ = (redoable program S).ok_back (configuration_of m) (configuration_of x.3) (entry_of k) ok n.0 in
      let i = first_of t j x.3 m₀ ok₁ x.5 in
      (i.0, i.1 ++ k ∷ [], x.2 ∙ ap (λ (l : List Kept). l ++ k ∷ []) (sym n.1 ∙ i.2), i.3)

  -- its rows name that entry alone
  first-names : (m₀ : Machine) (k : Kept) (f : First m₀ k) → Names program S (configuration_of f.machine) (entry_of k ∷ [])
  first-names m₀ k f q x h = go (standing f.machine.rows q) refl h
    where
      go :
          (o : Option Place) → standing f.machine.rows q ≡ o → named (real program S) q o ≡ some x →
          Newest (Φ program S) (ahead program S) (behind program S) (Ok (real program S)) (mark (real program S)) (laws program S) (entry_of k ∷ []) x
          × (x.process ≡ q)
      go none e g = absurd (none-some g)
      go (some a) e g =
          let y = onto-some (λ (b : ℕ). record { process = q; block = b }) (exit_at program a) x g in
          let z = exit-some program S a y.0 y.1 in
          let n : newest f.machine.history q ≡ some (exit_block program a) = PaperFitted.kept program S f.machine f.passed q a e z.0 in
          let s = newest-only k q (exit_block program a) (ap (λ (l : List Kept). newest l q) (sym f.only) ∙ n) in
          let same : entry_of k ≡ x = (λ i. record { process = s.0 i; block = (s.1 ∙ z.1) i }) ∙ y.2 in
          (record { front = []; rest = []; whole = ap (λ (v : Taken). v ∷ []) same; last = tt }, sym (ap (λ (v : Taken). v.process) y.2))

  -- a process that has children stands past begin, so that its newest entry is kept
  family-kept :
      (m : Machine) (p : ℕ) → machine_fits program m ≡ true → Family (real program S) (standing m.rows) p → (b : ℕ) × (newest m.history p ≡ some b)
  family-kept m p passed F =
      let a = (real program S).out F.b in
      let x = exit-some program S a F.b ((real program S).out_exit F.b F.called) in
      (exit_block program a, PaperFitted.kept program S m passed p a F.at_out x.0)

  -- and that entry is the root's
  pub first-root : (m₀ : Machine) (k : Kept) (f : First m₀ k) → digits_fit 8 k.identifier ≡ true → k.identifier ≡ 0
  first-root m₀ k f d = go (ℕ_discrete k.identifier 0)
    where
      m₁ : Machine
      m₁ = f.machine

      go : Dec (k.identifier ≡ 0) → k.identifier ≡ 0
      go (yes e) = e
      go (no n) =
          let Π = real program S in
          let ok = (fitted program S m₁ f.passed).0 in
          let p = k.identifier in
          let c = configuration_of m₁ in
          let F = fired (back Π) c p (entry_of k) (configuration_of m₀) f.undone in
          let l = back-ready Π (c.rows p) (view c.rows p) c.memory F.out (back-shape Π (c.rows p) (view c.rows p) c.memory F.out F.at) in
          let w = climb Π (standing m₁.rows) ok 8 0 p l.0 l.1 (under_root 8 p d n) in
          let kf = kid-facts 0 w.child w.is_kid_true in
          let lv = child-live w.child w.stands l.0 l.1 in
          let has : has_kids Π (view (standing m₁.rows) 0) ≡ true =
          any_of (view (standing m₁.rows) 0) 8 (w.child % 16) lv.0 kf.0 kf.1 (view-kid Π (standing m₁.rows) 0 w.child w.is_kid_true ∙ lv.1) in
          let q = family-kept m₁ 0 f.passed (ok.family 0 has) in
          (newest-only k 0 q.0 (ap (λ (h : List Kept). newest h 0) (sym f.only) ∙ q.1)).0
        where
          child-live :
              (y : ℕ) → (y ≡ k.identifier) ⊎ Family (real program S) (standing m₁.rows) y → (a : Place) →
              standing m₁.rows k.identifier ≡ some a → (c : Place) × (standing m₁.rows y ≡ some c)
          child-live y (inl e) a h = (a, ap (standing m₁.rows) e ∙ h)
          child-live y (inr G) a h = ((real program S).out G.b, G.at_out)

  -- ---- kept steps are known
  abbrev Known : Taken → Type 0
  Known e = kept_fits program (kept_of e) ≡ true

  all_known : (h : List Kept) → each_of (kept_fits program) h ≡ true → All (Φ program S) Known (map entry_of h)
  unfolding each_of
  all_known [] e = tt
  all_known (k ∷ h) e = let x = and-true (kept_fits program k) (each_of (kept_fits program) h) e in (x.0, all_known h x.1)

  known_all : (h : List Kept) → All (Φ program S) Known (map entry_of h) → each_of (kept_fits program) h ≡ true
  unfolding each_of
  known_all [] a = refl
  known_all (k ∷ h) a = true_and (kept_fits program k) (each_of (kept_fits program) h) a.0 (known_all h a.1)

  known_kept : (m : List (Mark Taken)) → All (Φ program S) Known (all m) → All (Φ program S) Known (kept m)
  known_kept [] a = tt
  known_kept (stays e ∷ m) a = (a.0, known_kept m a.1)
  known_kept (gone e ∷ m) a = known_kept m a.1

  machine-known : (m : Machine) → machine_fits program m ≡ true → each_of (kept_fits program) m.history ≡ true
  unfolding machine_fits
  machine-known m passed =
      let a = and-true (ascending m.rows) _ passed in
      let b = and-true (root_fits program m.rows) _ a.1 in
      (and-true (each_of (row_fits program m) m.rows) _ b.1).1

  known_digits : (e : Taken) → Known e → digits_fit 8 e.process ≡ true
  unfolding kept_fits
  known_digits e h = (and-true (block_fits program (kept_of e)) (digits_fit 8 e.process) h).1

  -- every later entry depends on one of the root's
  all-depend : (e : Taken) (w : List Taken) → e.process ≡ 0 → All (Φ program S) Known w → All (Φ program S) (λ f. depends program S e f ≡ true) w
  all-depend e [] z a = tt
  all-depend e (f ∷ w) z a = (go (ℕ_discrete f.process 0), all-depend e w z a.1)
    where
      P : ℕ
      P = e.process

      rest : Bool
      rest = kin program S P f.process || conflicts program (kept_of e) (kept_of f)

      go : Dec (f.process ≡ 0) → (eqb f.process P || rest) ≡ true
      go (yes y) = or_left (eqb f.process P) rest (eqb_same f.process P (y ∙ sym z))
      go (no n) =
          let b : below 8 P f.process ≡ true =
          subst (λ (q : ℕ). below 8 q f.process ≡ true) (sym z) (under_root 8 f.process (known_digits f a.0) n) in
          or_right (eqb f.process P) rest
          (or_left (kin program S P f.process) (conflicts program (kept_of e) (kept_of f))
          (or_left (below 8 P f.process) (below 8 f.process P) b))

  -- ---- on the way
  undone-all : (c c' : Configuration) (m m' : List (Mark Taken)) (p : ℕ) → Un program S c m p c' m' → all m' ≡ all m
  undone-all c c' m m' p x =
      ap all x.is ∙ all_append x.before (gone x.step ∷ x.later) ∙ sym (all_append x.before (stays x.step ∷ x.later))
      ∙ ap all (sym x.was)

  -- a string of 01's calls, each an undo: code 17 is asked first
  abbrev pub CalledAll : Machine → List ℕ → Machine → Type 0
  CalledAll m [] m' = m ≡ m'
  CalledAll m (p ∷ ps) m' = (machine_fits program m ≡ true) × (m₁ : Machine) × UndoneBy program S m p m₁ × CalledAll m₁ ps m'

  module _ (m₀ : Machine) (e : Kept) (f : First m₀ e) (z : e.identifier ≡ 0) (rest : List Taken)
      (known : All (Φ program S) Known (entry_of e ∷ rest)) where
    abbrev base : Configuration
    base = configuration_of m₀

    still_fits :
        (m : Machine) (marks : List (Mark Taken)) → Rooted program S base m → kept marks ≡ map entry_of m.history →
        all marks ≡ entry_of e ∷ rest → Closed (depends program S) marks → (kept marks ≡ [] → ⊥) → machine_fits program m ≡ true
    still_fits m [] r same al cl left = absurd (left refl)
    still_fits m (gone x ∷ t) r same al cl left =
        let xe : x ≡ entry_of e = cc in
        let te : all t ≡ rest = cc in
        let k : All (Φ program S) Known (all t) = subst (λ (l : List Taken). All (Φ program S) Known l) (sym te) known.1 in
        absurd (left (goes_last (Φ program S) (ahead program S) (behind program S) (Ok (real program S)) (mark (real program S)) (laws program S)
        (depends program S) x t (all-depend x (all t) (ap (λ (v : Taken). v.process) xe ∙ z) k) cl))
    still_fits m (stays x ∷ t) r same al cl left =
        let xe : x ≡ entry_of e = cc in
        let g : Gives program S base (x ∷ kept t) (configuration_of m) =
        subst (λ (l : List Taken). Gives program S base l (configuration_of m)) (sym same) r.gives in
        let st : ahead program S base e.identifier ≡ some (entry_of e, g.0) =
        subst (λ (v : Taken). ahead program S base v.process ≡ some (v, g.0)) xe g.1 in
        let q =
        step-det (Φ program S) (ahead program S) (behind program S) (Ok (real program S)) (mark (real program S)) (laws program S) base g.0
        (configuration_of f.machine) (entry_of e) (entry_of e) refl st f.made_by in
        let runs : Gives program S (configuration_of f.machine) (kept t) (configuration_of m) =
        subst (λ (c : Configuration). Gives program S c (kept t) (configuration_of m)) q.1 g.2 in
        let n =
        names-newest (Φ program S) (ahead program S) (behind program S) (Ok (real program S)) (mark (real program S)) (laws program S)
        (configuration_of f.machine) (configuration_of m) (entry_of e) (kept t) (first-names m₀ e f) runs in
        let hist : entry_of e ∷ kept t ≡ map entry_of m.history = ap (λ (v : Taken). v ∷ kept t) (sym xe) ∙ same in
        let ka : All (Φ program S) Known (x ∷ kept t) =
        known_kept (stays x ∷ t) (subst (λ (l : List Taken). All (Φ program S) Known l) (sym al) known) in
        parts-fit program S m r.ordered (rooted-ok program S base m r).0 r.hangs
        (subst (λ (l : List Taken). Names program S (configuration_of m) l) hist n)
        (known_all m.history (subst (λ (l : List Taken). All (Φ program S) Known l) same ka))

    called-all :
        (ps : List ℕ) (m m' : Machine) (marks : List (Mark Taken)) → Rooted program S base m → kept marks ≡ map entry_of m.history →
        all marks ≡ entry_of e ∷ rest → Closed (depends program S) marks → UndoneAll program S m ps m' → CalledAll m ps m'
    called-all [] m m' marks r same al cl x = x
    called-all (p ∷ ps) m m' marks r same al cl x =
        let y = followed program S base m marks p x.0 r same x.1 in
        let u = y.undoes in
        let g : Gives program S base (kept marks) (configuration_of m) =
        subst (λ (l : List Taken). Gives program S base l (configuration_of m)) (sym same) r.gives in
        let cl₁ =
        undone-closed (Φ program S) (ahead program S) (behind program S) (Ok (real program S)) (mark (real program S)) (laws program S)
        (kin program S)
        (trades program S) (depends program S) (decides program S) base r.base_ok (configuration_of m) (configuration_of x.0) marks y.left p g cl u in
        let al₁ = undone-all (configuration_of m) (configuration_of x.0) marks y.left p u ∙ al in
        let left : kept marks ≡ [] → ⊥ =
        not_none (kept u.before) u.step (kept u.later) (kept marks) (ap kept u.was ∙ kept_append u.before (stays u.step ∷ u.later)) in (
          still_fits m marks r same al cl left,
          x.0,
          x.1,
          called-all ps x.0 m' y.left y.rooted y.history al₁ cl₁ x.2,
        )
      where
        nothing : (u : List Taken) (v : Taken) (w : List Taken) → [] ≡ u ++ v ∷ w → ⊥
        nothing [] v w h = let q : ◌≡◌ {A = ℕ} 0 1 = cc in omega arith
        nothing (b ∷ u) v w h = let q : ◌≡◌ {A = ℕ} 0 1 = cc in omega arith

        not_none : (u : List Taken) (v : Taken) (w l : List Taken) → l ≡ u ++ v ∷ w → l ≡ [] → ⊥
        not_none u v w l a b = nothing u v w (sym b ∙ a)

  -- On a machine that passes codes 17 and 35, each string of undos that rules' undo accepts, 01's calls accept: code 17 never comes between.
  pub all-called :
      (t : List Kept) (k : Kept) (m m₀ m' : Machine) (ps : List ℕ) → machine_fits program m ≡ true → Fine m.memory →
      EmptiedBy program S m (k ∷ t) m₀ →
      UndoneAll program S m ps m' → CalledAll m ps m'
  all-called t k m m₀ m' ps passed fine x y =
      let ok : Ok (real program S) (configuration_of m) = ((fitted program S m passed).0, fine) in
      let r = rooted program S (k ∷ t) m m₀ passed fine x in
      let f = first_of t k m m₀ ok x in
      let e = f.0 in
      let h : map entry_of m.history ≡ entry_of e ∷ map entry_of f.1 = ap (map entry_of) f.2 in
      let kn : All (Φ program S) Known (entry_of e ∷ map entry_of f.1) =
      subst (λ (l : List Taken). All (Φ program S) Known l) h (all_known m.history (machine-known m passed)) in
      let z = first-root m₀ e f.3 (known_digits (entry_of e) kn.0) in
      called-all m₀ e f.3 z (map entry_of f.1) kn ps m m' (before program S m) r (kept_whole (map entry_of m.history))
      (all_whole (map entry_of m.history) ∙ h) (nothing-closed (depends program S) (map entry_of m.history)) y
