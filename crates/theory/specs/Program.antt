-- A program, as a judged image gives it: blocks, places, calls and acts, and what is asked of them. Definitions only.
use Rattle.std.specs.Prelude.{◌≡◌, Bool, true, false, ℕ}
use Rattle.std.proofs.Math.Option.{Option, none, some}
use Rattle.theory.specs.Local.{slot}

-- a program, as a judged image gives it. A place is a label with its stage
pub record Program (Place Memory Value : Type 0) (look : Memory → ℕ → Value) (reading writing : ℕ → ℕ → Bool) : Type 1 where
  pub entry_block : Place → Option ℕ  -- the block whose entry holds the place: none at end
  pub exit_block : Place → Option ℕ  -- the block whose exit holds it: none at begin
  pub is_call : ℕ → Bool
  pub into : ℕ → Place  -- the labels of a call's entry and exit
  pub out : ℕ → Place
  pub label : ℕ → ℕ → Option ℕ  -- the i-th label that a call names
  pub begin_place : ℕ → Place  -- a label's begin and end
  pub end_place : ℕ → Place
  pub home : Place → ℕ  -- the label of the place's process block
  pub valid : Place → Type 0
  pub fine : Memory → Type 0  -- memories on which an act has an inverse
  pub leaf : ℕ → Place → Memory → Option (Place × Memory)
  pub unleaf : ℕ → Place → Memory → Option (Place × Memory)
  -- footprints and memory: what is written is read, and memories that show the same are equal
  pub written_read : (b r : ℕ) → writing b r ≡ true → reading b r ≡ true
  pub same_look : (m n : Memory) → ((r : ℕ) → look m r ≡ look n r) → m ≡ n
  -- calls: one label before and one after, some label named, and a begin for each
  pub call_in : (a : Place) (b : ℕ) → is_call b ≡ true → entry_block a ≡ some b → a ≡ into b
  pub out_exit : (b : ℕ) → is_call b ≡ true → exit_block (out b) ≡ some b
  pub out_entry : (b : ℕ) → is_call b ≡ true → entry_block (out b) ≡ none → ⊥
  pub out_valid : (b : ℕ) → is_call b ≡ true → valid (out b)
  pub out_home : (b : ℕ) → is_call b ≡ true → home (out b) ≡ home (into b)
  pub call_one : (b : ℕ) → is_call b ≡ true → (i : ℕ) × (l : ℕ) × (slot i ≡ true) × (label b i ≡ some l)
  pub begin_exit : (l : ℕ) → exit_block (begin_place l) ≡ none
  pub begin_home : (b i l : ℕ) → is_call b ≡ true → label b i ≡ some l → home (begin_place l) ≡ l
  pub begin_valid : (b i l : ℕ) → is_call b ≡ true → label b i ≡ some l → valid (begin_place l)
  pub main_valid : valid (begin_place 0)
  pub end_one : (a : Place) → valid a → entry_block a ≡ none → a ≡ end_place (home a)
  -- leaves: they stay in their process block, an undo takes them back, and they depend on and change what their block does
  pub leaf_exit :
      (a a' : Place) (b : ℕ) (m m' : Memory) → is_call b ≡ false → entry_block a ≡ some b → leaf b a m ≡ some (a', m') → exit_block a' ≡ some b
  pub leaf_home : (a a' : Place) (b : ℕ) (m m' : Memory) → is_call b ≡ false → entry_block a ≡ some b → leaf b a m ≡ some (a', m') → home a' ≡ home a
  pub leaf_valid : (a a' : Place) (b : ℕ) (m m' : Memory) → is_call b ≡ false → entry_block a ≡ some b → leaf b a m ≡ some (a', m') → valid a'
  pub leaf_fine : (a a' : Place) (b : ℕ) (m m' : Memory) → fine m → is_call b ≡ false → entry_block a ≡ some b → leaf b a m ≡ some (a', m') → fine m'
  pub leaf_back :
      (a a' : Place) (b : ℕ) (m m' : Memory) → fine m → is_call b ≡ false → entry_block a ≡ some b → leaf b a m ≡ some (a', m') →
      unleaf b a' m' ≡ some (a, m)
  pub leaf_keeps : (a a' : Place) (b : ℕ) (m m' : Memory) → leaf b a m ≡ some (a', m') → (r : ℕ) → writing b r ≡ false → look m' r ≡ look m r
  pub leaf_alike :
      (a a' : Place) (b : ℕ) (m m' n : Memory) → leaf b a m ≡ some (a', m') → ((r : ℕ) → reading b r ≡ true → look n r ≡ look m r) →
      (n' : Memory) × (leaf b a n ≡ some (a', n')) × ((r : ℕ) → reading b r ≡ true → look n' r ≡ look m' r)
  pub unleaf_keeps : (a a' : Place) (b : ℕ) (m m' : Memory) → unleaf b a m ≡ some (a', m') → (r : ℕ) → writing b r ≡ false → look m' r ≡ look m r
  pub unleaf_alike :
      (a a' : Place) (b : ℕ) (m m' n : Memory) → unleaf b a m ≡ some (a', m') → ((r : ℕ) → reading b r ≡ true → look n r ≡ look m r) →
      (n' : Memory) × (unleaf b a n ≡ some (a', n')) × ((r : ℕ) → reading b r ≡ true → look n' r ≡ look m' r)
