-- The list on lent bytes: the lengths that make 16, and the list on the words of the bytes. Assumes nothing.
use Prim.Native.Nat.{ℕ}
use mathlib.Core.Path.{◌≡◌, refl, ap, ◌∙◌}
use mathlib.Core.Bool.{Bool, true, false, ◌&&◌}
use mathlib.Core.List.{List}
use lib.ListN.{length}
use lib.Dec.{eqb}
use borrow.Author.Tests.{eq-eqb, ne_eqb}
use Rattle.rules.specs.Base.{pick}
use Rattle.rules.specs.Machine.{view}
use Rattle.rules.specs.Fits.{fits}
use Rattle.rules.specs.Words.{Outcome, refuse, accept, on_image, words_of, has_words}
use Rattle.rules.specs.List.{rows_of, list_in, list, list_bytes_in, list_bytes}
use Rattle.rules.specs.declared.Block.{Block}
use Rattle.rules.specs.declared.Row.{Row}

module _ (image machine : List ℕ) (rows : List Row) where
  short-rows : (length rows ≡ 64 → ⊥) → (program : List Block) → refuse 16 0 rows ≡ list_bytes_in machine rows program
  unfolding list_bytes_in list_in pick
  short-rows n program = rw (ne_eqb (length rows) 64 n) (go (has_words machine 8674) (eqb (length (words_of machine)) 8674))
    where
      go : (a b : Bool)
          → refuse 16 0 rows
          ≡ pick a (pick (b && false) (pick (fits program (words_of machine)) (accept (rows_of program (view (words_of machine)))) (refuse 17 0 rows)) (refuse 16 0 rows)) (refuse 16 0 rows)
      go true true = refl
      go true false = refl
      go false b = refl

  short-bytes : (length machine ≡ 34696 → ⊥) → (program : List Block) → refuse 16 0 rows ≡ list_bytes_in machine rows program
  unfolding list_bytes_in pick
  short-bytes n program = rw (ne_eqb (length machine) 34696 n)

  whole-bytes : length machine ≡ 34696 → (program : List Block) → list_in (words_of machine) rows program ≡ list_bytes_in machine rows program
  unfolding list_bytes_in pick
  whole-bytes e program = rw (eq-eqb (length machine) 34696 e)

  -- as the image has it
  on_all : (f : List Block → Outcome (List Row)) → ((program : List Block) → f program ≡ list_bytes_in machine rows program)
      → on_image image rows f ≡ list_bytes image machine rows
  unfolding list_bytes
  on_all f h = λ i. on_image image rows (λ program. h program i)

  pub no-rows : (length rows ≡ 64 → ⊥) → on_image image rows (λ program. refuse 16 0 rows) ≡ list_bytes image machine rows
  no-rows n = on_all (λ program. refuse 16 0 rows) (short-rows n)

  pub no-machine : (length machine ≡ 34696 → ⊥) → on_image image rows (λ program. refuse 16 0 rows) ≡ list_bytes image machine rows
  no-machine n = on_all (λ program. refuse 16 0 rows) (short-bytes n)

  pub on-words : (words : List ℕ) → length machine ≡ 34696 → words ≡ words_of machine → list image words rows ≡ list_bytes image machine rows
  unfolding list
  on-words words e f = ap (λ (w : List ℕ). on_image image rows (list_in w rows)) f ∙ on_all (list_in (words_of machine) rows) (whole-bytes e)
