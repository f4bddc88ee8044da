-- What a caller of `decode` learns from its code: which reading the image has, and what its blocks are. Assumes nothing.
use Rattle.std.proofs.Common.{◌≡◌, ℕ, ◌<◌, List, length, get_or, Ok, Err, refl, sym, ap, ap₂, subst, ◌∙◌, Fits, w8}
use Rattle.rules.specs.Codes.{number}
use Rattle.rules.specs.Labels.{no_block}
use Rattle.rules.specs.Read.{Reading, got, fault, decoded}
use Rattle.rules.specs.declared.Block.{Block}
use Rattle.rules.specs.declared.Code.{Code}
use Rattle.rules.specs.declared.Refused.{Refused}
use Rattle.decode.specs.declared.program.Program.{Program}
use Rattle.decode.specs.Blocks.{blocks_in}
use Rattle.decode.specs.Shows.{InFront, Shows}
use Rattle.laws.specs.Fit.{Bytes, BlockFit}
use Rattle.laws.proofs.Lists.{get_d_any}
use Rattle.laws.proofs.Decoded.{fit}
use Rattle.decode.proofs.Whole.{decoded-got}

module _ (s : List ℕ) where
  pub refused-is : (r : Refused) → Shows (decoded s) (Err r) → decoded s ≡ fault (number r.code) r.place
  refused-is r = go (decoded s)
    where
      go : (x : Reading (List Block)) → Shows x (Err r) → x ≡ fault (number r.code) r.place
      go (got l at) w = absurd w
      go (fault code place) w = ap₂ fault (sym w.0) (sym w.1)

  module _ (p : Program) (w : Shows (decoded s) (Ok p)) where
    pub accepted-is : decoded s ≡ got (blocks_in p) (length s)
    accepted-is =
        let g = some-got (decoded s) w in
        g.1 ∙ ap (λ (at : ℕ). got (blocks_in p) at) (decoded-got s (blocks_in p) g.0 g.1).ends
      where
        some-got : (x : Reading (List Block)) → Shows x (Ok p) → (at : ℕ) × (x ≡ got (blocks_in p) at)
        some-got (got l at) w = (at, ap (λ (y : List Block). got y at) (sym w))
        some-got (fault code place) w = absurd w

    -- every block that the code can read, whatever stands for one past the last
    pub block_fit : Bytes s → (k : ℕ) (d : Block) → k < length (blocks_in p) → BlockFit (get_or (blocks_in p) k d)
    block_fit h k d l =
        subst (λ (b : Block). BlockFit b) (get_d_any (blocks_in p) k no_block d l)
        (fit s h (blocks_in p) (length s) accepted-is k l)

-- a refusal shows the fault of its code and place
pub shows_err : (x : Reading (List Block)) (code : Code) (place : ℕ) (r : Refused)
    → x ≡ fault (number code) place
    → r ≡ record { code = code; place = place }
    → Shows x (Err r)
shows_err x code place r e f = rw (e, f) (refl, refl)

-- the same of the blocks in front of an array
pub in-front_err : (l : List Block) (x : Reading (List Block)) (code : Code) (place : ℕ) (r : Refused)
    → x ≡ fault (number code) place
    → r ≡ record { code = code; place = place }
    → InFront l x (Err r)
in-front_err l x code place r e f = rw (e, f) (refl, refl)

pub err-in_front : (l : List Block) (x : Reading (List Block)) (r : Refused) → InFront l x (Err r) → Shows x (Err r)
err-in_front l (got program at) r w = absurd w
err-in_front l (fault code place) r w = w

pub ok-in_front : (x : Reading (List Block)) (p : Program) → InFront p.blocks x (Ok p.count) → Shows x (Ok p)
ok-in_front (got program at) p w = w.1
ok-in_front (fault code place) p w = absurd w

-- what a proof knows of a slice s: `slice_bytes s c.type_inv.s`
pub slice_bytes : (s : List ℕ) → ((k : ℕ) → Fits w8 (get_or s k 0)) → Bytes s
slice_bytes s h k = (h k).fits
