-- What is true of every reading: it goes forward and ends inside the image; a fault has a code of 1 to 8 and a place inside the
-- image. One law for each way in which rules makes a reading of others. Assumes nothing.
use Prim.Native.Nat.{ℕ, ◌+◌, ◌-◌, ◌<◌, ◌≤◌}
use mathlib.Core.Path.{◌≡◌, refl}
use mathlib.Core.Bool.{Bool, true, false}
use mathlib.Core.List.{List}
use native.Mathlib.Omega.{arith}
use lib.ListN.{length}
use borrow.Author.Tests.{leb-false}
use Rattle.rules.specs.Base.{pick}
use Rattle.rules.specs.Read.{Reading, got, fault, next, follows, whole}

-- a code of reading, at a place that is not past the image
abbrev pub Refusal : List ℕ → ℕ → ℕ → Type 0
Refusal s code place = (1 ≤ code) × (code ≤ 8) × (place ≤ length s)

-- the reading at an offset
pub data Good {A : Type 0} (s : List ℕ) (at : ℕ) : Reading A → Type 0 where
  goes : {a : A} {n : ℕ} → at < n → n ≤ length s → Good s at (got a n)
  stops : {code place : ℕ} → Refusal s code place → Good s at (fault code place)

module _ {A : Type 0} {s : List ℕ} {at : ℕ} where
  pub good-fault : {code place : ℕ} → Good {A = A} s at (fault code place) → Refusal s code place
  good-fault (stops h) = h

  by-test : (b : Bool) (x y : Reading A) → (b ≡ true → Good s at x) → (b ≡ false → Good s at y) → Good s at (pick b x y)
  unfolding pick
  by-test true x y f g = f refl
  by-test false x y f g = g refl

  pub good-pick : (b : Bool) (x y : Reading A) → Good s at x → Good s at y → Good s at (pick b x y)
  good-pick b x y f g = by-test b x y (λ t. f) (λ t. g)

  pub good-follows : (r : Reading A) → (at < length s → Good s at r) → Good s at (follows s at r)
  unfolding follows
  good-follows r h = by-test _ _ _ (λ t. stops (omega arith)) (λ t. h (leb-false _ _ t))

  pub good-whole : (n : ℕ) (r : Reading A) → at < length s → (at + n < length s → Good s at r) → Good s at (whole s at n r)
  unfolding whole
  good-whole n r l h =
      by-test _ _ _ (λ t. stops (omega arith))
      (λ t. let k : n < length s - at = leb-false _ _ t in let m : at + n < length s = omega arith in h m)

module _ {A B : Type 0} {s : List ℕ} {at n : ℕ} where
  pub good-next : (f : A → ℕ → Reading B) {r : Reading A}
      → at ≤ n
      → Good s n r
      → ((a : A) (m : ℕ) → at < m → m ≤ length s → Good s at (f a m))
      → Good s at (next r f)
  unfolding next
  good-next f h (goes k e) w = w _ _ (omega arith) e
  good-next f h (stops k) w = stops k
