-- Take back one kept step and what came of it: the statements, on every machine that passes codes 17 and 35, whatever strings of
-- undos are made. They speak of rules' own tests and undo (as 01's call makes it: code 17 first), of what came of an entry (`came_of`,
-- found in one pass) and of what a string of undos takes out of the history (`removed`). The work that they cite stands in the
-- other files.
use Rattle.std.specs.Prelude.{◌≡◌, true, List, [], ◌∷◌, ◌++◌, map, ℕ}
use Rattle.std.proofs.Common.{subst}
use Rattle.theory.specs.Local.{Taken}
use Rattle.theory.specs.TakingBack.{Mark, gone, all, kept, Covers, newest_first}
use Rattle.rules.specs.Machine.{Kept, Machine}
use Rattle.rules.specs.Fits.{machine_fits}
use Rattle.rules.specs.declared.Block.{Block}
use Rattle.theorems.specs.Memory.{Fine}
use Rattle.theorems.specs.Program.{Sound}
use Rattle.theorems.specs.Forward.{configuration_of, entry_of}
use Rattle.theorems.specs.Reached.{Reached, reached-memory, reached-undo}
use Rattle.theorems.specs.Fitting.{reached-machine_fits}
use Rattle.theorems_take_back.specs.Rooted.{Φ, Rooted}
use Rattle.theorems_take_back.specs.Bottom.{EmptiedBy, turned_kept, rooted, reached-emptied}
use Rattle.theorems_take_back.specs.TakenBack.{UndoneAll, came_of, removed, every_string, newest-first, one_left}
use Rattle.theorems_take_back.specs.OnTheWay.{CalledAll, all-called}

module _ (program : List Block) (S : Sound program) where
  -- a machine that has a kept step and passes 17 and 35 (k is its newest entry, t the earlier ones, newest first)
  pub record Passes (m : Machine) : Type 0 where
    pub fits : machine_fits program m ≡ true
    pub fine : Fine m.memory
    pub k : Kept
    pub t : List Kept
    pub bottom : Machine
    pub emptied : EmptiedBy program S m (k ∷ t) bottom

  called-undone : (ps : List ℕ) (m m' : Machine) → CalledAll program S m ps m' → UndoneAll program S m ps m'
  called-undone [] m m' x = x
  called-undone (p ∷ ps) m m' x = (x.1, x.2, called-undone ps x.1 m' x.3)

  module _ (m : Machine) (passes : Passes m) where
    root-of : Rooted program S (configuration_of passes.bottom) m
    root-of = rooted program S (passes.k ∷ passes.t) m passes.bottom passes.fits passes.fine passes.emptied

    module _ (u : List Kept) (k : Kept) (w : List Kept) (parts : m.history ≡ u ++ k ∷ w) where
      -- (1) Each string of accepted undos that removes the entry removes all that came of it.
      pub removes_all_of_it :
          (ps : List ℕ) (m' : Machine) → CalledAll program S m ps m' → (a b : List (Mark Taken)) →
          removed program S m ps ≡ a ++ gone (entry_of k) ∷ b →
          all a ≡ map entry_of u → all b ≡ map entry_of w → Covers (came_of program S u k w) (removed program S m ps)
      removes_all_of_it ps m' x =
          every_string program S (configuration_of passes.bottom) m root-of u k w parts ps m' (called-undone ps m m' x)

      -- (2) The entry and what came of it, undone newest first, are accepted one after the other; none but these is removed, and the history left is
      -- the rest in its order.
      pub record TakenBack : Type 0 where
        pub leaves : Machine
        pub called : CalledAll program S m (newest_first (Φ program S) (came_of program S u k w)) leaves
        pub just_these : removed program S m (newest_first (Φ program S) (came_of program S u k w)) ≡ came_of program S u k w
        pub rest : map entry_of leaves.history ≡ kept (came_of program S u k w)

      pub takes_back : TakenBack
      takes_back =
          let g = newest-first program S (configuration_of passes.bottom) m root-of u k w parts in
          let ps = newest_first (Φ program S) (came_of program S u k w) in
          record {
            leaves = g.leaves;
            called = all-called program S passes.t passes.k m passes.bottom g.leaves ps passes.fits passes.fine passes.emptied
                g.undoes;
            just_these = g.just_these;
            rest = g.rest;
          }

    -- (3) Two strings of accepted undos that remove the same leave the same machine: memory, rows and history.
    pub same-machine_left :
        (ps qs : List ℕ) (m' m'' : Machine) → CalledAll program S m ps m' → CalledAll program S m qs m'' →
        removed program S m ps ≡ removed program S m qs →
        m' ≡ m''
    same-machine_left ps qs m' m'' x y e =
        one_left program S (configuration_of passes.bottom) m root-of ps qs m' m'' (called-undone ps m m' x) (called-undone qs m m'' y) e

  module _ (memory : List ℕ) (fine : Fine memory) where
    -- (4) A reached machine that has a kept step passes 17 and 35.
    pub reached-passes : (m : Machine) (k : Kept) (t : List Kept) → Reached program S memory fine m → m.history ≡ turned_kept (k ∷ t) → Passes m
    reached-passes m k t r e =
        let x = reached-emptied program S memory fine (k ∷ t) m r e in
        record {
          fits = reached-machine_fits program S memory fine m r;
          fine = reached-memory program S memory fine m r;
          k = k;
          t = t;
          bottom = x.0;
          emptied = x.1;
        }

    -- (5) Undos keep a reached machine reached: demand 3 counts the call as the undos it makes.
    pub stays-reached : (ps : List ℕ) (m m' : Machine) → Reached program S memory fine m → CalledAll program S m ps m' →
        Reached program S memory fine m'
    stays-reached [] m m' r x = subst (Reached program S memory fine) x r
    stays-reached (p ∷ ps) m m' r x =
        stays-reached ps x.1 m' (reached-undo program S memory fine m p x.2.here x.2.live r x.1 x.2.undone) x.3
