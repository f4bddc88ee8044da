-- The rows of the list while they are filled, and when all are; the list's codes. Assumes nothing.
use Prim.Native.Nat.{ℕ, ◌+◌, ◌-◌, ◌<◌, ◌≤◌}
use native.Mathlib.Omega.{arith}
use native.Mathlib.Decide.{ℕ_discrete, dec_lt}
use mathlib.Core.Path.{◌≡◌, sym, ap, ◌∙◌}
use mathlib.Core.Bool.{true, false}
use mathlib.Core.List.{List, ◌++◌, map}
use lib.ListN.{length, get_or, set, replicate, length-set, length-map, length-replicate, get_or-replicate, length-append}
use lib.Seq.{get_or-set_same, get_or-set_other, get_or-append_right}
use lib.ListN.{get_or-append}
use Rattle.std.proofs.lemmas.List.{ext_get_or, get_or-map}
use borrow.Author.Tests.{eq-eqb, ne_eqb}
use Rattle.rules.specs.Base.{pick}
use Rattle.rules.specs.Machine.{live_count, view}
use Rattle.rules.specs.Fits.{fits}
use Rattle.rules.specs.Step.{forward, undo}
use Rattle.rules.specs.Words.{refuse, accept}
use Rattle.rules.specs.List.{code_of, row_of, zero_row, rows_of, list_in}
use Rattle.rules.specs.declared.Block.{Block}
use Rattle.rules.specs.declared.Row.{Row}
use Rattle.rules.specs.declared.Code.{Code}
use Rattle.rules.specs.Codes.{number}
use Rattle.std.specs.Prelude.{Result, Err}
use Rattle.rules.specs.declared.Refused.{Refused}
use Rattle.std.specs.Result.{IsErrAnd}
use Rattle.std.proofs.lemmas.Result.{err_from_is_err_and}
use Rattle.accepted.specs.Listed.{listed}
use Rattle.accepted.specs.Fitting.{Fitting}
use Rattle.accepted.proofs.Unfit.{either}
use Rattle.laws.proofs.View.{no_row, row-at, length-rows}
use Rattle.step.specs.Ready.{process_at, here_at}

module _ (program : List Block) (w : List ℕ) where
  -- the row of the list of the process of row j
  abbrev pub list_row : ℕ → Row
  list_row j = row_of program (view w) (get_or (view w).rows j no_row)

  -- the rows before i are there, the others are zero
  pub record Filled (i : ℕ) (rows : List Row) : Type 0 where
    pub size : length rows ≡ 64
    pub done : (j : ℕ) → j < i → get_or rows j zero_row ≡ list_row j
    pub rest : (j : ℕ) → i ≤ j → j < 64 → get_or rows j zero_row ≡ zero_row

  pub filled_none : Filled 0 (replicate 64 zero_row)
  filled_none =
      record {
        size = length-replicate {A = Row} 64 zero_row;
        done = λ j h. absurd (omega arith);
        rest = λ j h k. get_or-replicate {A = Row} 64 j zero_row zero_row k;
      }

  -- a row that says what the list has of row i
  pub row-made :
      (i : ℕ) (r : Row) → i < live_count w → r.identifier ≡ process_at w i →
      r.forward ≡ code_of (forward program (view w) (process_at w i) (here_at w i)) →
      r.undo ≡ code_of (undo program (view w) (process_at w i) (here_at w i)) → r ≡ list_row i
  unfolding row_of
  row-made i r l a b c =
      (λ k. record { identifier = a k; forward = b k; undo = c k }) ∙ sym (ap (row_of program (view w)) (row-at w i l))

  pub filled_more : (i : ℕ) (rows : List Row) (r : Row) → i < 64 → Filled i rows → r ≡ list_row i → Filled (i + 1) (set rows i r)
  filled_more i rows r l h e =
      record {
        size = length-set rows i r ∙ h.size;
        done = λ j k. go j (ℕ_discrete j i) k;
        rest = λ j k s. get_or-set_other rows i j r zero_row (λ q. omega arith) ∙ h.rest j (omega arith) s;
      }
    where
      go : (j : ℕ) → Dec (j ≡ i) → j < i + 1 → get_or (set rows i r) j zero_row ≡ list_row j
      go j (yes q) k = let z = h.size in rw q (get_or-set_same rows i r zero_row (omega arith) ∙ e)
      go j (no n) k = get_or-set_other rows i j r zero_row n ∙ h.done j (omega (arith, n))

  -- as many as there are live processes
  pub filled_all : (rows : List Row) → live_count w ≤ 64 → Filled (live_count w) rows → rows ≡ rows_of program (view w)
  unfolding rows_of
  filled_all rows few h =
      ext_get_or zero_row rows (made ++ none) (h.size ∙ sym size) (λ j l. go j (dec_lt j (live_count w)) (omega (arith, h.size)))
    where
      made : List Row
      made = map (row_of program (view w)) (view w).rows

      none : List Row
      none = replicate (64 - length (view w).rows) zero_row

      long : length made ≡ live_count w
      long = length-map (view w).rows (row_of program (view w)) ∙ length-rows w

      size : length (made ++ none) ≡ 64
      size =
          let a = length-append made none in
          let b = length-replicate {A = Row} (64 - length (view w).rows) zero_row in
          let c = length-rows w in
          omega (arith, a, b, c, long)

      go : (j : ℕ) → Dec (j < live_count w) → j < 64 → get_or rows j zero_row ≡ get_or (made ++ none) j zero_row
      go j (yes l) k =
          h.done j l
          ∙ sym (get_or-append made none zero_row j (omega (arith, long))
          ∙ get_or-map (row_of program (view w)) (view w).rows j no_row zero_row (omega (arith, length-rows w)))
      go j (no n) k =
          h.rest j (omega (arith, n)) k
          ∙ sym (get_or-append_right made none j zero_row (omega (arith, n, long))
          ∙ get_or-replicate {A = Row} (64 - length (view w).rows) (j - length made) zero_row zero_row (omega (arith, n, long, length-rows w)))

  -- ---- the list's codes, in their order, into any 64 rows
  module _ (lent : List Row) (size : length lent ≡ 64) where
    list-16 : (length w ≡ 8674 → ⊥) → refuse 16 0 lent ≡ list_in w lent program
    unfolding list_in pick
    list-16 n = rw (ne_eqb (length w) 8674 n)

    list-17 : length w ≡ 8674 → fits program w ≡ false → refuse 17 0 lent ≡ list_in w lent program
    unfolding list_in pick
    list-17 l f = rw (eq-eqb (length w) 8674 l, eq-eqb (length lent) 64 size, f)

    pub list-unfit : (code : Code) → Fitting program w (Err code) → refuse (number code) 0 lent ≡ list_in w lent program
    list-unfit code u = either program w (λ n. refuse n 0 lent ≡ list_in w lent program) list-16 list-17 code u

    pub list-made : length w ≡ 8674 → fits program w ≡ true → accept (rows_of program (view w)) ≡ list_in w lent program
    unfolding list_in pick
    list-made l f = rw (eq-eqb (length w) 8674 l, eq-eqb (length lent) 64 size, f)

-- what `?` hands on is the code, at place 0
pub listed-err : (out : Result (List Row) Refused) (code : Code) → IsErrAnd out (λ x. x ≡ record { code = code; place = 0 })
    → (lent : List Row) → listed out lent ≡ refuse (number code) 0 lent
listed-err out code w lent =
    let p = err_from_is_err_and out w in
    ap (λ (r : Result (List Row) Refused). listed r lent) (p.1 ∙ ap Err p.2)
