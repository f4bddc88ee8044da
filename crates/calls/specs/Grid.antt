-- A grid of 128 by 128 bits, a row in each word, in which the rows of the first n blocks tell what each of them reaches.
-- For `fourteen` and its callees.
use Rattle.std.specs.Prelude.{◌≡◌, List, ℕ, ◌+◌, ◌/◌, ◌%◌, ◌^◌, ◌<◌, ◌≤◌, min, max, length, get_or, eqb}
use Rattle.rules.specs.Value.{flag}
use Rattle.rules.specs.Calls.{Calling, reaches_over}

-- bit k of a word; the bit of blocks b and c
abbrev pub bit_of : ℕ → ℕ → ℕ
bit_of w k = w / 2 ^ k % 2

abbrev pub cell : List ℕ → ℕ → ℕ → ℕ
cell grid b c = bit_of (get_or grid b 0) c

-- a word of so many bits, which are f from k on
pub record Word (f : ℕ → ℕ) (k many w : ℕ) : Type 0 where
  pub fits : w < 2 ^ many
  pub each : (j : ℕ) → j < many → bit_of w j ≡ f (k + j)

-- for each label the blocks of its process block, of the first n
abbrev pub Members : List ℕ → ℕ → List ℕ → Type 0
Members homes n table = (l : ℕ) → l < 256 → Word (λ c. flag (eqb l (get_or homes c 0))) 0 n (get_or table l 0)

-- a row joined with that of block m, where it reaches block m
pub record Joined (row m row_of_m new : ℕ) : Type 0 where
  pub each : (c : ℕ) → bit_of new c ≡ max (bit_of row c) (min (bit_of row m) (bit_of row_of_m c))

-- the rows up to row b are f in the first n columns, and every row from b on is as it was
pub record RowsDone (f : ℕ → ℕ → ℕ) (grid : List ℕ) (n b : ℕ) (new : List ℕ) : Type 0 where
  pub size : length new ≡ length grid
  pub done : (x y : ℕ) → x < b → y < n → cell new x y ≡ f x y
  pub rest : (x : ℕ) → b ≤ x → get_or new x 0 ≡ get_or grid x 0

-- row b at column c with what block m adds: row m, where block b reaches block m
abbrev pub added : List ℕ → ℕ → ℕ → ℕ → ℕ
added grid m b c = max (cell grid b c) (min (cell grid b m) (cell grid m c))

-- the rows of the first n blocks tell what is reached over blocks below m
pub record Reaching (t : Calling) (n m : ℕ) (grid : List ℕ) : Type 0 where
  pub each : (b c : ℕ) → b < n → c < n → cell grid b c ≡ flag (reaches_over t m b c)
