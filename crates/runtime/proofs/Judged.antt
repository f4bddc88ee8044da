-- Before all else stand the codes of judging: what a function answers on an image that is refused, and on one that is accepted.
-- Assumes nothing.
use Rattle.std.proofs.Common.{◌≡◌, ℕ, List, Result, Ok, Err, length, sym, ap, ◌∙◌, arith}
use Rattle.std.specs.Result.{IsErrAnd}
use Rattle.std.proofs.lemmas.Result.{err_from_is_err_and}
use Rattle.rules.specs.Codes.{number}
use Rattle.rules.specs.Read.{Reading, got, fault, decoded}
use Rattle.rules.specs.Judge.{judged_blocks, judged_reading, judgement}
use Rattle.rules.specs.Judgement.{Judgement, judged}
use Rattle.rules.specs.Words.{Outcome, refuse, judged_then, read_then, on_image}
use Rattle.rules.specs.declared.Accepted.{Accepted}
use Rattle.rules.specs.declared.Block.{Block}
use Rattle.rules.specs.declared.Code.{Code}
use Rattle.rules.specs.declared.Refused.{Refused}
use Rattle.laws.specs.Fit.{Bytes}
use Rattle.laws.proofs.Decoded.{fit, few}
use Rattle.decode.specs.Blocks.{blocks_in}
use Rattle.decode.specs.Shows.{Shows}
use Rattle.decode.specs.declared.program.Program.{Program}
use Rattle.decode.proofs.Answer.{accepted-is, refused-is}
use Rattle.theorems.specs.Accepted.{passed}
use Rattle.theorems.specs.Program.{Sound}

-- what `?` hands on is that refusal
pub handed : {A : Type 0} (out : Result A Refused) (r : Refused) → IsErrAnd out (λ x. x ≡ r) → out ≡ Err r
handed out r w = let p = err_from_is_err_and out w in p.1 ∙ ap Err p.2

-- or that of a code
pub coded : {A : Type 0} (out : Result A Refused) (code : Code) → IsErrAnd out (λ x. x ≡ record { code = code; place = 0 }) → out ≡ Err (record { code = code; place = 0 })
coded out code w = handed out (record { code = code; place = 0 }) w

module _ {Lent : Type 0} (image : List ℕ) (lent : Lent) (f : List Block → Outcome Lent) where
  -- ---- as judging answers
  pub on_refused : (r : Refused) → judged (Err r) ≡ judgement image → refuse (number r.code) r.place lent ≡ on_image image lent f
  unfolding on_image judgement judged_reading
  on_refused r = read (decoded image)
    where
      read : (d : Reading (List Block)) → judged (Err r) ≡ judged_reading d → refuse (number r.code) r.place lent ≡ read_then d lent f
      read (got program at) e = ap (λ (j : Judgement). judged_then j lent (f program)) e
      read (fault c p) e = ap (λ (j : Judgement). judged_then j lent (refuse c p lent)) e

  -- what is known for every program holds for the image's
  pub on_accepted :
      (x : Accepted) (o : Outcome Lent) → judged (Ok x) ≡ judgement image → ((program : List Block) → o ≡ f program) → o ≡ on_image image lent f
  unfolding on_image judgement judged_reading
  on_accepted x o e k = read (decoded image) e
    where
      read : (d : Reading (List Block)) → judged (Ok x) ≡ judged_reading d → o ≡ read_then d lent f
      read (got program at) e = k program ∙ ap (λ (j : Judgement). judged_then j lent (f program)) e
      read (fault c p) e = let z : ◌≡◌ {A = ℕ} 0 1 = cc in absurd (omega arith)

  -- ---- as decoding answers, and judging its blocks
  pub on_fault : (r : Refused) → Shows (decoded image) (Err r) → refuse (number r.code) r.place lent ≡ on_image image lent f
  unfolding on_image
  on_fault r s = sym (ap (λ (d : Reading (List Block)). read_then d lent f) (refused-is image r s))

  module _ (p : Program) (s : Shows (decoded image) (Ok p)) (l : List Block) (are : l ≡ blocks_in p) where
    on_judged : (j : Judgement) → j ≡ judged_blocks l → judged_then j lent (f l) ≡ on_image image lent f
    unfolding on_image
    on_judged j e =
        ap (λ (j : Judgement). judged_then j lent (f l)) e
        ∙ ap (λ (x : List Block). judged_then (judged_blocks x) lent (f x)) are
        ∙ sym (ap (λ (d : Reading (List Block)). read_then d lent f) (accepted-is image p s))

    pub on_bad : (r : Refused) → judged (Err r) ≡ judged_blocks l → refuse (number r.code) r.place lent ≡ on_image image lent f
    on_bad r e = on_judged (judged (Err r)) e

    pub on_good : (x : Accepted) → judged (Ok x) ≡ judged_blocks l → f l ≡ on_image image lent f
    on_good x e = on_judged (judged (Ok x)) e

-- the blocks of an image that judging accepts are sound
pub sound-of :
    (image : List ℕ) (p : Program) → Bytes image → Shows (decoded image) (Ok p) → (l : List Block) → l ≡ blocks_in p → (x : Accepted) →
    judged (Ok x) ≡ judged_blocks l → Sound l
sound-of image p h s l are x j =
    let d = accepted-is image p s ∙ ap (λ (y : List Block). got y (length image)) (sym are) in
    record { passes = passed l x.blocks x.peak (sym j); fit = fit image h l (length image) d; few = few image l (length image) d }
