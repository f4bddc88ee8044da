-- It is enough to ask for parent and child: on every machine over a base (Rooted) the set is the same as with the whole line of
-- descent. Assumes that the image is sound.
use Rattle.std.specs.Prelude.{◌≡◌, Bool, false, ◌||◌, List, ◌∷◌, ◌++◌, map, eqb}
use Rattle.std.proofs.Common.{ap, ◌∙◌, subst}
use Rattle.theory.specs.Tests.{true_false, eqb_same, eqb-other, or-false}
use Rattle.theory.specs.Local.{Taken}
use Rattle.theory.specs.Family.{Ok}
use Rattle.theory.specs.Machine.{mark}
use Rattle.theory.specs.Kinship.{near, trades-near}
use Rattle.theory.specs.TakingBack.{taken}
use Rattle.theory.specs.Marks.{covers_both}
use Rattle.theory.specs.Returning.{Decides, same_set}
use Rattle.rules.specs.Machine.{Kept, Machine}
use Rattle.rules.specs.declared.Block.{Block}
use Rattle.laws.specs.Conflict.{conflicts}
use Rattle.theorems.specs.Held.{apart-steps, steps_apart}
use Rattle.theorems.specs.Footprints.{indep-same}
use Rattle.theorems.specs.Program.{Sound, real}
use Rattle.theorems.specs.Forward.{Configuration, configuration_of, entry_of, ahead}
use Rattle.theorems.specs.Backward.{behind}
use Rattle.theorems.specs.Reached.{map-append}
use Rattle.theorems_take_back.specs.Rooted.{Φ, laws, Gives, Rooted, kin, depends, decides, trades, kept_of, same-indep}
use Rattle.theorems_take_back.specs.TakenBack.{came_of}

module _ (program : List Block) (S : Sound program) where
  abbrev pub depends_near : Taken → Taken → Bool
  depends_near a b = eqb b.process a.process || (near a.process b.process || conflicts program (kept_of a) (kept_of b))

  three : (a b : Taken) → depends_near a b ≡ false →
      (eqb b.process a.process ≡ false) × (near a.process b.process ≡ false) × (conflicts program (kept_of a) (kept_of b) ≡ false)
  three a b h =
      let x = or-false (eqb b.process a.process) (near a.process b.process || conflicts program (kept_of a) (kept_of b)) h in
      let y = or-false (near a.process b.process) (conflicts program (kept_of a) (kept_of b)) x.1 in
      (x.0, y.0, y.1)

  decides-near : Decides (Φ program S) (ahead program S) (behind program S) near depends_near
  decides-near =
      record {
        other = λ a b h e. true_false (eqb_same b.process a.process e) (three a b h).0;
        no_kin = λ a b h. (three a b h).1;
        indep = λ a b h. indep-same program S (kept_of a) (kept_of b) (apart-steps program (kept_of a) (kept_of b) (three a b h).2);
        all_three = λ a b n k i. rw (eqb-other b.process a.process n, k) (steps_apart program (kept_of a) (kept_of b) (same-indep program S a b i));
      }

  pub near-enough :
      (base : Configuration) (m : Machine) → Rooted program S base m → (u : List Kept) (k : Kept) (w : List Kept) → m.history ≡ u ++ k ∷ w →
      came_of program S u k w ≡ taken depends_near (map entry_of u) (entry_of k) (map entry_of w)
  near-enough base m r u k w parts =
      let g : Gives program S base (map entry_of u ++ entry_of k ∷ map entry_of w) (configuration_of m) =
      subst (λ (l : List Taken). Gives program S base l (configuration_of m)) (ap (map entry_of) parts ∙ map-append u (k ∷ w)) r.gives in
      let T = trades-near (real program S) in
      covers_both (came_of program S u k w) (taken depends_near (map entry_of u) (entry_of k) (map entry_of w))
      (same_set (Φ program S) (ahead program S) (behind program S) (Ok (real program S)) (mark (real program S)) (laws program S) (kin program S) near
      (trades program S) T (depends program S) depends_near (decides program S) decides-near base (configuration_of m) r.base_ok (map entry_of u)
      (entry_of k) (map entry_of w) g)
      (same_set (Φ program S) (ahead program S) (behind program S) (Ok (real program S)) (mark (real program S)) (laws program S) near (kin program S)
      T (trades program S) depends_near (depends program S) decides-near (decides program S) base (configuration_of m) r.base_ok (map entry_of u)
      (entry_of k) (map entry_of w) g)
