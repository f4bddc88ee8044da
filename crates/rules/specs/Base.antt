-- Plain words that the files after this one use: a choice, tests over a list, the lowest number that passes a test.
-- Nothing here is particular to document 01.
use Rattle.std.specs.Prelude.{Bool, true, false, ◌&&◌, ◌||◌, List, [], ◌∷◌, ℕ, zero, suc, ◌+◌, replicate, eqb}

module _ {A : Type 0} where
  -- if the test holds the first, else the second
  unfoldable pub pick : Bool → A → A → A
  pick true a b = a
  pick false a b = b

module _ {A : Type 0} where
  -- some element passes; every element passes
  unfoldable pub some_of : (A → Bool) → List A → Bool
  some_of p [] = false
  some_of p (a ∷ l) = p a || some_of p l

  unfoldable pub each_of : (A → Bool) → List A → Bool
  each_of p [] = true
  each_of p (a ∷ l) = p a && each_of p l

  -- the elements that pass, in their order
  unfoldable pub those : (A → Bool) → List A → List A
  those p [] = []
  those p (a ∷ l) = pick (p a) (a ∷ those p l) (those p l)

-- the lowest number from `at` on, of n that are tried, that passes; the first one past them where none does
unfoldable pub lowest_from : (ℕ → Bool) → ℕ → ℕ → ℕ
lowest_from p zero at = at
lowest_from p (suc n) at = pick (p at) at (lowest_from p n (suc at))

-- the lowest number below n that passes, or n
unfoldable pub lowest : (ℕ → Bool) → ℕ → ℕ
lowest p n = lowest_from p n 0

-- some number below n passes
unfoldable pub some_below : (ℕ → Bool) → ℕ → Bool
some_below p zero = false
some_below p (suc n) = some_below p n || p n

-- how often x stands in a list
unfoldable pub times : ℕ → List ℕ → ℕ
times x [] = 0
times x (y ∷ l) = pick (eqb y x) 1 0 + times x l

-- n words that are 0
abbrev pub zeros : ℕ → List ℕ
zeros n = replicate n 0

-- a, a + 1, ..: n of them
unfoldable pub up_from : ℕ → ℕ → List ℕ
up_from a zero = []
up_from a (suc n) = a ∷ up_from (suc a) n

-- two lists have the same numbers in the same order
unfoldable pub alike : List ℕ → List ℕ → Bool
alike [] [] = true
alike [] (b ∷ m) = false
alike (a ∷ l) [] = false
alike (a ∷ l) (b ∷ m) = eqb a b && alike l m
