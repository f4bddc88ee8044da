-- 004's isleaf looks at all processes below one, rules' `IsLeaf` (Paper) at those whose parent it is: on every machine that passes code 17 they say
-- the same. Assumes that the image is sound.
use Rattle.std.specs.Prelude.{◌≡◌, refl, ◌⊎◌, ◌↔◌, ◌≢◌, true, List, ℕ}
use Rattle.std.proofs.Common.{sym, ap, ◌∙◌, subst, inl, inr, arith}
use Rattle.std.proofs.Math.Path.{fun_ext}
use Rattle.std.proofs.Math.Option.{Option, none, some}
use Rattle.std.proofs.Math.Decide.{ℕ_discrete}
use Rattle.theory.specs.Tests.{none-some}
use Rattle.theory.specs.Local.{is_kid, kid-self, kid-facts}
use Rattle.rules.specs.Machine.{Machine, run, root, parent, standing}
use Rattle.rules.specs.Fits.{machine_fits}
use Rattle.rules.specs.Paper.{Configuration, IsLeaf}
use Rattle.rules.specs.Annotation.{Annotation}
use Rattle.rules.specs.declared.Block.{Block}
use Rattle.rules.specs.declared.Place.{Place}
use Rattle.theorems.specs.Program.{Sound}
use Rattle.theorems.specs.Children.{Tree, Childless}
use Rattle.theorems.specs.Forward.{Well}
use Rattle.theorems.specs.Fitted.{fitted}
use Rattle.theorems.specs.PaperShown.{Shows}
use Rattle.theorems.specs.PaperRows.{Rows, leaf-childless, childless-leaf}
use Rattle.theorems_more.specs.ProcessSets.{parent-there}

-- p ⪯ q: q is p, or its parent is p or below p
pub data Under (p : ℕ) : ℕ → Type 0 where
  itself : Under p p
  below : {q : ℕ} → q ≢ root → Under p (parent q) → Under p q

-- of the active processes from p down there is p alone
abbrev pub NoneBelow : (ℕ → Option Place) → ℕ → Type 0
NoneBelow processes p = (q : ℕ) (a : Place) → processes q ≡ some a → Under p q → q ≡ p

-- who has none below has no child
alone-childless : (R : Rows) (p : ℕ) → NoneBelow R p → Childless R p
alone-childless R p leaf x k = go (R x) refl
  where
    go : (o : Option Place) → R x ≡ o → R x ≡ none
    go none e = e
    go (some a) e =
        let f = kid-facts p x k in
        let u : Under p x = below {q = x} (λ z. omega (arith, f.0, z)) (subst (Under p) (sym f.2) itself) in
        absurd (kid-self p (subst (λ (z : ℕ). is_kid p z ≡ true) (leaf x a e u) k))

module _ (program : List Block) (S : Sound program) (R : Rows) (tree : Tree R) (well : Well program S R) where
  -- who is below p and not p is below a child of p, which is that process or stands at run
  under_kid :
      (p q : ℕ) (a : Place) → R q ≡ some a → Under p q → q ≢ p →
      (x : ℕ) × (is_kid p x ≡ true) × ((b : Place) × (R x ≡ some b) × ((x ≡ q) ⊎ (b.stage ≡ run)))
  under_kid p q a e itself n = absurd (n refl)
  under_kid p q a e (below z u) n =
      let up = parent-there program S R tree well q a e z in
      go (ℕ_discrete (parent q) p) up (λ m. under_kid p (parent q) up.1.0 up.1.1 u m)
    where
      Found : Type 0
      Found = (x : ℕ) × (is_kid p x ≡ true) × ((b : Place) × (R x ≡ some b) × ((x ≡ q) ⊎ (b.stage ≡ run)))

      later :
          (r : Place) → R (parent q) ≡ some r → r.stage ≡ run → (x : ℕ) (b : Place) → R x ≡ some b → (x ≡ parent q) ⊎ (b.stage ≡ run) → b.stage ≡ run
      later r there at x b h (inr s) = s
      later r there at x b h (inl s) =
          subst (λ (o : Option Place). Runs o) (sym (ap R s ∙ there) ∙ h) at
        where
          Runs : Option Place → Type 0
          Runs none = ⊥
          Runs (some c) = c.stage ≡ run

      go :
          Dec (parent q ≡ p) → (is_kid (parent q) q ≡ true) × ((b : Place) × (R (parent q) ≡ some b) × (b.stage ≡ run)) →
          (parent q ≢ p → (x : ℕ) × (is_kid p x ≡ true) × ((b : Place) × (R x ≡ some b) × ((x ≡ parent q) ⊎ (b.stage ≡ run)))) → Found
      go (yes s) up ih = (q, subst (λ (r : ℕ). is_kid r q ≡ true) s up.0, (a, e, inl refl))
      go (no s) up ih =
          let x = ih s in
          (x.0, x.1, (x.2.0, x.2.1, inr (later up.1.0 up.1.1 up.1.2 x.0 x.2.0 x.2.1 x.2.2)))

  -- who has no child has none below
  childless-alone : (p : ℕ) → Childless R p → NoneBelow R p
  childless-alone p free q a e u = go (ℕ_discrete q p)
    where
      go : Dec (q ≡ p) → q ≡ p
      go (yes z) = z
      go (no n) = let x = under_kid p q a e u n in absurd (none-some (sym (free x.0 x.1) ∙ x.2.1))

-- Of every configuration that a machine shows which passes 17.
pub isleaf :
    (program : List Block) (S : Sound program) (m : Machine) → machine_fits program m ≡ true → (C : Configuration) (A : Annotation) →
    Shows program m C A →
    (p : ℕ) → IsLeaf C.processes p ↔ NoneBelow C.processes p
isleaf program S m passed C A shown p =
    let R = standing m.rows in
    let f = fitted program S m passed in
    subst (λ (T : Rows). IsLeaf T p ↔ NoneBelow T p) (sym (fun_ext shown.processes)) (
      (λ h. childless-alone program S R f.1.tree f.0 p (leaf-childless R p h)),
      (λ h. childless-leaf R p f.1.tree (alone-childless R p h)),
    )
