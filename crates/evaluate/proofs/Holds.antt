-- What holds of everything that is made, carried through rules' choices and sequences. Assumes nothing.
use mathlib.Core.Path.{◌≡◌, refl, subst}
use mathlib.Core.Bool.{Bool, true, false}
use Rattle.rules.specs.Base.{pick}
use Rattle.rules.specs.Leaf.{Tried, made, refused, after}

abbrev pub Holds : {A : Type 0} → (A → Type 0) → Tried A → Type 0
Holds P (made a) = P a
Holds P (refused code) = Unit {0}

module _ {A : Type 0} (P : A → Type 0) where
  pub pick-holds : (b : Bool) (x y : Tried A) → (b ≡ true → Holds P x) → (b ≡ false → Holds P y) → Holds P (pick b x y)
  unfolding pick
  pick-holds true x y f g = f refl
  pick-holds false x y f g = g refl

  pub made_holds : {t : Tried A} {a : A} → t ≡ made a → Holds P t → P a
  made_holds e h = subst (Holds P) e h

module _ {A B : Type 0} (P : A → Type 0) (Q : B → Type 0) where
  pub after_holds : (t : Tried A) (f : A → Tried B) → Holds P t → ((a : A) → P a → Holds Q (f a)) → Holds Q (after t f)
  unfolding after
  after_holds (made a) f h g = g a h
  after_holds (refused code) f h g = tt
