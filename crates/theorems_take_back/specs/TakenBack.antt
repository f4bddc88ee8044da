-- Taking back one kept step and what came of it, on every machine that its kept steps give from some base (Rooted), by rules' own
-- undo. `taken` is found in one pass over the later entries; `gone_by_all` is what a string of undos has taken out. Assumes that the
-- image is sound.
use Rattle.std.specs.Prelude.{◌≡◌, refl, List, [], ◌∷◌, ◌++◌, map, ℕ}
use Rattle.std.proofs.Common.{sym, ap, ◌∙◌, subst}
use Rattle.theory.specs.Local.{Taken}
use Rattle.theory.specs.Family.{Ok}
use Rattle.theory.specs.Machine.{mark}
use Rattle.theory.specs.TakingBack.{Mark, gone, all, kept, whole, Covers, taken, gone_by, gone_by_all, newest_first, Undos}
use Rattle.theory.specs.Marks.{kept_whole}
use Rattle.theory.specs.Returning.{removes_all, one-machine, goes-newest_first, undone-gone, undos_gone}
use Rattle.rules.specs.Machine.{Kept, Machine}
use Rattle.rules.specs.declared.Block.{Block}
use Rattle.theorems.specs.Program.{Sound, real}
use Rattle.theorems.specs.Tables.{same_rows}
use Rattle.theorems.specs.Forward.{Configuration, configuration_of, entry_of, ahead}
use Rattle.theorems.specs.Backward.{behind}
use Rattle.theorems.specs.Reached.{map-append}
use Rattle.theorems_take_back.specs.Rooted.{Φ, laws, Gives, Rooted, kin, depends, decides, trades, UndoneBy, Un, followed, accepts, kept_of}
use Rattle.theorems_take_back.specs.Rooted.{kept-entries}

module _ (program : List Block) (S : Sound program) where
  -- a string of accepted undos
  abbrev pub UndoneAll : Machine → List ℕ → Machine → Type 0
  UndoneAll m [] m' = m ≡ m'
  UndoneAll m (p ∷ ps) m' = (m₁ : Machine) × UndoneBy program S m p m₁ × UndoneAll m₁ ps m'

  abbrev Uns : Configuration → List (Mark Taken) → List ℕ → Configuration → List (Mark Taken) → Type 0
  Uns = Undos (Φ program S) (behind program S)

  -- the history of a machine, nothing of it gone yet; and what a string of undos takes out of it
  abbrev pub before : Machine → List (Mark Taken)
  before m = whole (map entry_of m.history)

  abbrev pub removed : Machine → List ℕ → List (Mark Taken)
  removed m ps = gone_by_all (Φ program S) (before m) ps

  -- the entry k and what came of it
  abbrev pub came_of : List Kept → Kept → List Kept → List (Mark Taken)
  came_of u k w = taken (depends program S) (map entry_of u) (entry_of k) (map entry_of w)

  pub record Traced (base : Configuration) (m : Machine) (marks : List (Mark Taken)) (ps : List ℕ) (m' : Machine) : Type 0 where
    pub left : List (Mark Taken)
    pub undoes : Uns (configuration_of m) marks ps (configuration_of m') left
    pub history : kept left ≡ map entry_of m'.history
    pub rooted : Rooted program S base m'

  pub traced :
      (base : Configuration) (ps : List ℕ) (m : Machine) (marks : List (Mark Taken)) (m' : Machine) → Rooted program S base m →
      kept marks ≡ map entry_of m.history → UndoneAll m ps m' → Traced base m marks ps m'
  traced base [] m marks m' r same x =
      record {
        left = marks;
        undoes = (ap configuration_of x, refl);
        history = same ∙ ap (λ (n : Machine). map entry_of n.history) x;
        rooted = subst (Rooted program S base) x r;
      }
  traced base (p ∷ ps) m marks m' r same x =
      let f = followed program S base m marks p x.0 r same x.1 in
      let i = traced base ps x.0 f.left m' f.rooted f.history x.2 in
      record { left = i.left; undoes = (configuration_of x.0, f.left, f.undoes, i.undoes); history = i.history; rooted = i.rooted }

  pub record Played (base : Configuration) (m : Machine) (ps : List ℕ) (c' : Configuration) (left : List (Mark Taken)) : Type 0 where
    pub leaves : Machine
    pub undoes : UndoneAll m ps leaves
    pub there : configuration_of leaves ≡ c'
    pub history : kept left ≡ map entry_of leaves.history
    pub rooted : Rooted program S base leaves

  gone_one : (c c' : Configuration) (marks left : List (Mark Taken)) (p : ℕ) → Un program S c marks p c' left → left ≡ gone_by (Φ program S) marks p
  gone_one c c' marks left p x =
      undone-gone (Φ program S) (ahead program S) (behind program S) (Ok (real program S)) (mark (real program S)) (laws program S) (kin program S)
      (trades program S) (depends program S) (decides program S) c c' marks left p x

  pub played :
      (base : Configuration) (ps : List ℕ) (m : Machine) (marks left : List (Mark Taken)) (c' : Configuration) → Rooted program S base m →
      kept marks ≡ map entry_of m.history → Uns (configuration_of m) marks ps c' left → Played base m ps c' left
  played base [] m marks left c' r same x =
      record { leaves = m; undoes = refl; there = x.0; history = sym (ap kept x.1) ∙ same; rooted = r }
  played base (p ∷ ps) m marks left c' r same x =
      let a = accepts program S base m marks p x.0 x.1 r same x.2 in
      let m₁ = a.leaves in
      let f = followed program S base m marks p m₁ r same a.undoes in
      let one : f.left ≡ x.1 =
      gone_one (configuration_of m) (configuration_of m₁) marks f.left p f.undoes
      ∙ sym (gone_one (configuration_of m) x.0 marks x.1 p x.2) in
      let y : Uns (configuration_of m₁) x.1 ps c' left = subst (λ z. Uns z x.1 ps c' left) (sym a.there) x.3 in
      let i = played base ps m₁ x.1 left c' f.rooted (ap kept (sym one) ∙ f.history) y in
      record { leaves = i.leaves; undoes = (m₁, a.undoes, i.undoes); there = i.there; history = i.history; rooted = i.rooted }

  module _ (base : Configuration) (m : Machine) (r : Rooted program S base m) where
    same₀ : kept (before m) ≡ map entry_of m.history
    same₀ = kept_whole (map entry_of m.history)

    gone-all : (ps : List ℕ) (c' : Configuration) (left : List (Mark Taken)) → Uns (configuration_of m) (before m) ps c' left → left ≡ removed m ps
    gone-all ps c' left x =
        undos_gone (Φ program S) (ahead program S) (behind program S) (Ok (real program S)) (mark (real program S)) (laws program S) (kin program S)
        (trades program S) (depends program S) (decides program S) ps (configuration_of m) c' (before m) left x

    module _ (u : List Kept) (k : Kept) (w : List Kept) (parts : m.history ≡ u ++ k ∷ w) where
      taken-apart : map entry_of m.history ≡ map entry_of u ++ entry_of k ∷ map entry_of w
      taken-apart = ap (map entry_of) parts ∙ map-append u (k ∷ w)

      gives-parts : Gives program S base (map entry_of u ++ entry_of k ∷ map entry_of w) (configuration_of m)
      gives-parts = subst (λ (l : List Taken). Gives program S base l (configuration_of m)) taken-apart r.gives

      -- (1) Every string of accepted undos that removes the entry removes all that came of it.
      pub every_string :
          (ps : List ℕ) (m' : Machine) → UndoneAll m ps m' → (a b : List (Mark Taken)) → removed m ps ≡ a ++ gone (entry_of k) ∷ b →
          all a ≡ map entry_of u → all b ≡ map entry_of w → Covers (came_of u k w) (removed m ps)
      every_string ps m' x a b e ea eb =
          let t = traced base ps m (before m) m' r same₀ x in
          let l : t.left ≡ a ++ gone (entry_of k) ∷ b = gone-all ps (configuration_of m') t.left t.undoes ∙ e in
          let y = subst (λ (z : List (Mark Taken)). Uns (configuration_of m) (before m) ps (configuration_of m') z) l t.undoes in
          let z = subst (λ (h : List Taken). Uns (configuration_of m) (whole h) ps (configuration_of m')
          (a ++ gone (entry_of k) ∷ b)) taken-apart y in
          let q =
          removes_all (Φ program S) (ahead program S) (behind program S) (Ok (real program S)) (mark (real program S)) (laws program S)
          (kin program S)
          (trades program S) (depends program S) (decides program S) base r.base_ok (configuration_of m) (configuration_of m') (map entry_of u)
          (entry_of k) (map entry_of w) ps a b gives-parts z ea eb in
          subst (λ (h : List (Mark Taken)). Covers (came_of u k w) h) (sym e) q

      -- (2) Undone newest first, the entry and what came of it are accepted one after the other; nothing else is removed, and the history left is the
      -- rest in its order.
      pub record GoneNewestFirst : Type 0 where
        pub leaves : Machine
        pub undoes : UndoneAll m (newest_first (Φ program S) (came_of u k w)) leaves
        pub just_these : removed m (newest_first (Φ program S) (came_of u k w)) ≡ came_of u k w
        pub rest : map entry_of leaves.history ≡ kept (came_of u k w)

      pub newest-first : GoneNewestFirst
      newest-first =
          let t = came_of u k w in
          let ps = newest_first (Φ program S) t in
          let g =
          goes-newest_first (Φ program S) (ahead program S) (behind program S) (Ok (real program S)) (mark (real program S)) (laws program S)
          (kin program S) (trades program S) (depends program S) (decides program S) base (configuration_of m) r.base_ok (map entry_of u) (entry_of k)
          (map entry_of w) gives-parts in
          let x : Uns (configuration_of m) (before m) ps g.0 t =
          subst (λ (h : List Taken). Uns (configuration_of m) (whole h) ps g.0 t) (sym taken-apart) g.2 in
          let y = played base ps m (before m) t g.0 r same₀ x in
          record { leaves = y.leaves; undoes = y.undoes; just_these = sym (gone-all ps g.0 t x); rest = sym y.history }

    -- (3) What a string of accepted undos leaves, memory, rows and history, is fixed by what it removes.
    pub one_left :
        (ps qs : List ℕ) (m' m'' : Machine) → UndoneAll m ps m' → UndoneAll m qs m'' → removed m ps ≡ removed m qs → m' ≡ m''
    one_left ps qs m' m'' x y e =
        let t = traced base ps m (before m) m' r same₀ x in
        let v = traced base qs m (before m) m'' r same₀ y in
        let l : t.left ≡ v.left =
        gone-all ps (configuration_of m') t.left t.undoes ∙ e ∙ sym (gone-all qs (configuration_of m'') v.left v.undoes) in
        let c : configuration_of m' ≡ configuration_of m'' =
        one-machine (Φ program S) (ahead program S) (behind program S) (Ok (real program S)) (mark (real program S)) (laws program S) (kin program S)
        (trades program S) (depends program S) (decides program S) base r.base_ok (configuration_of m) (configuration_of m') (configuration_of m'')
        (map entry_of m.history) v.left ps qs r.gives
        (subst (λ (z : List (Mark Taken)). Uns (configuration_of m) (before m) ps (configuration_of m') z) l t.undoes) v.undoes in
        let rows : m'.rows ≡ m''.rows =
        same_rows m'.rows m''.rows t.rooted.ordered v.rooted.ordered (λ i. ap (λ (z : Configuration). z.rows i) c) in
        let memory : m'.memory ≡ m''.memory = ap (λ (z : Configuration). z.memory) c in
        let entries : map entry_of m'.history ≡ map entry_of m''.history = sym t.history ∙ ap kept l ∙ v.history in
        let history : m'.history ≡ m''.history = sym (kept-entries m'.history) ∙ ap (map kept_of) entries ∙ kept-entries m''.history in
        λ i. record { memory = memory i; rows = rows i; history = history i }
