-- What a plan asks of a machine, as it follows from passing code 17 on an accepted image. Assumes nothing.
use Prim.Native.Nat.{ℕ, suc, ◌+◌, ◌*◌, ◌<◌, ◌≤◌}
use native.Mathlib.Omega.{arith}
use native.Mathlib.Decide.{dec_lt}
use mathlib.Core.Path.{◌≡◌, refl, sym, ap, ap₂, ◌∙◌, subst}
use mathlib.Core.Bool.{true}
use mathlib.Core.Logic.{◌⊎◌}
use mathlib.Core.List.{List, ◌∷◌, ◌++◌}
use mathlib.Core.Option.{some}
use lib.ListN.{length, take, drop, get_or, get_or-eq_default}
use lib.Seq.{split_at}
use lib.Dec.{ltb, leb}
use borrow.Author.Tests.{ltb-true, leb-true}
use Rattle.rules.specs.Base.{each_of}
use Rattle.rules.specs.Read.{is_call}
use Rattle.rules.specs.Labels.{no_block, block_of}
use Rattle.rules.specs.Machine.{Process, Kept, place, standing, live_count, history_count, view}
use Rattle.rules.specs.Fits.{entry_block, exit_block, counts_fit, unused_zero, ascending, root_fits, row_fits, kept_fits, block_fits, digits_fit, machine_fits, fits}
use Rattle.rules.specs.Calls.{deepest}
use Rattle.rules.specs.declared.Block.{Block}
use Rattle.rules.specs.declared.Place.{Place}
use Rattle.laws.specs.Fit.{BlockFit}
use Rattle.laws.proofs.Tests.{and-true, true_false}
use Rattle.laws.proofs.Ascending.{apart, none_below, standing-at}
use Rattle.laws.proofs.View.{no_row, no_entry, row-at, kept-at, length-rows, length-history}
use Rattle.laws.proofs.Lists.{each_at}
use Rattle.theorems.specs.Program.{Sound}
use Rattle.theorems.specs.Fitted.{no_zeroth, shallow}
use Rattle.step.specs.Planned.{Lent}
use Rattle.step.specs.Ready.{process_at, here_at, Ready, Apt}
use Rattle.undo.specs.Freed.{BlocksBelow}
use Rattle.plans.specs.Known.{Known}

-- ---- a live row's process stands where the row says
standing-row : (rows : List Process) (i : ℕ) → ascending rows ≡ true → i < length rows
    → standing rows (get_or rows i no_row).identifier ≡ some (get_or rows i no_row).stands
standing-row rows i a h =
    let r : Process = get_or rows i no_row in
    let e : rows ≡ take i rows ++ r ∷ drop (suc i) rows = split_at rows i no_row h in
    let b = (apart (take i rows) r (drop (suc i) rows) (subst (λ (l : List Process). ascending l ≡ true) e a)).before in
    ap (λ (l : List Process). standing l r.identifier) e ∙ standing-at (take i rows) r (drop (suc i) rows) (none_below r.identifier (take i rows) b)

-- ---- the blocks
-- every block is fit, and so is the one that stands for none
any_fit : (program : List Block) → Sound program → (b : ℕ) → BlockFit (block_of program b)
any_fit program s b = go (dec_lt b (length program))
  where
    go : Dec (b < length program) → BlockFit (block_of program b)
    go (yes h) = s.fit b h
    go (no h) =
        subst (λ (x : Block). BlockFit x) (sym (get_or-eq_default program no_block (omega (arith, h))))
        (record { entry = omega arith; instruction = tt; exit = omega arith; from = λ c. absurd (true_false c refl); to = λ c. absurd (true_false c refl) })

module _ (program : List Block) (w : List ℕ) where
  -- an entry that fits is of a block of the image
  kept-below : (j : ℕ) → j < history_count w → kept_fits program (get_or (view w).history j no_entry) ≡ true → get_or w (483 + 2 * j) 0 < length program
  unfolding kept_fits block_fits
  kept-below j h e =
      let k : Kept = get_or (view w).history j no_entry in
      let b = (and-true (ltb k.block (length program)) (digits_fit deepest k.identifier) e).0 in
      let z = ap (λ (x : Kept). x.block) (kept-at w j h) in
      omega (arith, ltb-true k.block (length program) b, z)

  kept-4096 : counts_fit w ≡ true → history_count w ≤ 4096
  unfolding counts_fit
  kept-4096 c = leb-true _ _ (and-true (leb (live_count w) 64) (leb (history_count w) 4096) c).1

  live-within : counts_fit w ≡ true → live_count w ≤ 64
  unfolding counts_fit
  live-within c = leb-true _ _ (and-true (leb (live_count w) 64) (leb (history_count w) 4096) c).0

module _ (program : List Block) (w : List ℕ) (k : Known program w) where
  machine-fits : machine_fits program (view w) ≡ true
  unfolding fits
  machine-fits = (and-true (unused_zero w) _ (and-true (counts_fit w) _ k.fit).1).1

  pub lent : Lent w
  unfolding fits
  lent =
      let a = and-true (counts_fit w) _ k.fit in
      record { long = k.long; counts = a.0; unused = (and-true (unused_zero w) _ a.1).0 }

  pub rows-64 : live_count w ≤ 64
  rows-64 = live-within program w lent.counts

  ascends : ascending (view w).rows ≡ true
  unfolding machine_fits
  ascends = (and-true (ascending (view w).rows) _ machine-fits).0

  all-kept : each_of (kept_fits program) (view w).history ≡ true
  unfolding machine_fits
  all-kept =
      (and-true (each_of (row_fits program (view w)) (view w).rows) _
      (and-true (root_fits program (view w).rows) _ (and-true (ascending (view w).rows) _ machine-fits).1).1).1

  pub blocks-below : BlocksBelow w (length program)
  blocks-below =
      record {
        long = k.long;
        kept = kept-4096 program w lent.counts;
        blocks = λ j h. kept-below program w j h (each_at (kept_fits program) no_entry (view w).history all-kept j (omega (arith, length-history w, h)));
      }

  -- ---- at a live row
  module _ (row : ℕ) (live : row < live_count w) where
    pub stands_here : standing (view w).rows (process_at w row) ≡ some (here_at w row)
    stands_here =
        let e = row-at w row live in
        ap (λ (r : Process). standing (view w).rows r.identifier) (sym e)
        ∙ standing-row (view w).rows row ascends (omega (arith, length-rows w))
        ∙ ap (λ (r : Process). some r.stands) e

    pub ready_of : Ready w row
    ready_of = record { lent = lent; ascends = ascends; numbered = no_zeroth program (view w) machine-fits; live = live }

    pub apt_of : (b : ℕ) → (b ≡ entry_block program (here_at w row)) ⊎ (b ≡ exit_block program (here_at w row)) → Apt w row (block_of program b)
    apt_of b e = record { fit = any_fit program k.sound b; shallow = λ c. deep c (dec_lt b (length program)) }
      where
        deep : is_call (block_of program b).instruction ≡ true → Dec (b < length program) → process_at w row < 268435456
        deep c (yes h) = shallow program k.sound (view w) machine-fits (process_at w row) (here_at w row) b stands_here h c e
        deep c (no h) =
            let z : block_of program b ≡ no_block = get_or-eq_default program no_block (omega (arith, h)) in
            absurd (true_false (subst (λ (x : Block). is_call x.instruction ≡ true) z c) refl)

    -- what was looked up at the row's label and stage
    pub placed : (f : Place → ℕ) {x l t : ℕ} → x ≡ f (place l t) → l ≡ (here_at w row).label → t ≡ (here_at w row).stage → x ≡ f (here_at w row)
    placed f e a b = e ∙ ap₂ (λ (l t : ℕ). f (place l t)) a b

    pub apt_block : {b : ℕ} {block : Block} → (b ≡ entry_block program (here_at w row)) ⊎ (b ≡ exit_block program (here_at w row))
        → block ≡ block_of program b → Apt w row block
    apt_block {b} e g = subst (λ (x : Block). Apt w row x) (sym g) (apt_of b e)

  pub below-128 : BlocksBelow w 128
  below-128 =
      let b = blocks-below in
      let f = k.sound.few in
      record { long = b.long; kept = b.kept; blocks = λ j h. let z = b.blocks j h in omega (arith, z, f) }
