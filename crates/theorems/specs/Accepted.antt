-- What an accepted image has passed: codes 10 to 15, block by block. Assumes nothing.
use Rattle.std.specs.Prelude.{◌≡◌, refl, Bool, true, false, List, ℕ, ◌<◌, length, ltb}
use Rattle.std.proofs.Common.{sym, subst}
use Rattle.rules.specs.Base.{pick, lowest}
use Rattle.rules.specs.Labels.{block_of, bad9, bad10, bad11, bad12}
use Rattle.rules.specs.Calls.{calling_of, bad13, bad14, bad15, peak}
use Rattle.rules.specs.Judge.{at_lowest, judged_blocks}
use Rattle.rules.specs.declared.Block.{Block}
use Rattle.rules.specs.Judgement.{Judgement}
use Rattle.laws.proofs.Search.{lowest-none}

abbrev pub IsAccepted : Judgement → Type 0
IsAccepted (Judgement.Refused code place) = ⊥
IsAccepted (Judgement.Accepted blocks peak) = Unit {0}

-- an accepted judgement passed the first test, and the rest accepts
pub past-lowest :
    (code : ℕ) (bad : ℕ → Bool) (n : ℕ) (rest : Judgement) → IsAccepted (at_lowest code bad n rest) →
    ((b : ℕ) → b < n → bad b ≡ false) × IsAccepted rest
unfolding at_lowest pick
past-lowest code bad n rest h = go (ltb (lowest bad n) n) refl h
  where
    go :
        (t : Bool) → ltb (lowest bad n) n ≡ t → IsAccepted (pick t (Judgement.Refused code (lowest bad n)) rest) →
        ((b : ℕ) → b < n → bad b ≡ false) × IsAccepted rest
    go true e h = absurd h
    go false e h = (lowest-none bad n e, h)

past-test : (t : Bool) (code : ℕ) (rest : Judgement) → IsAccepted (pick t (Judgement.Refused code 0) rest) → (t ≡ false) × IsAccepted rest
unfolding pick
past-test true code rest h = absurd h
past-test false code rest h = (refl, h)

pub record Passed (program : List Block) : Type 0 where
  pub labels_right : (b : ℕ) → b < length program → bad10 program (block_of program b) ≡ false
  pub one_process : (b : ℕ) → b < length program → bad11 program b ≡ false
  pub calls_begun : (b : ℕ) → b < length program → bad12 program (block_of program b) ≡ false
  pub has_main : bad13 program ≡ false
  pub no_circle : (b : ℕ) → b < length program → bad14 (calling_of program) b ≡ false
  pub shallow : bad15 (calling_of program) ≡ false

passed-all : (program : List Block) → IsAccepted (judged_blocks program) → Passed program
unfolding judged_blocks
passed-all program h =
    let n = length program in
    let t9 = past-lowest 9 (λ b. bad9 program (block_of program b)) n _ h in
    let t10 = past-lowest 10 (λ b. bad10 program (block_of program b)) n _ t9.1 in
    let t11 = past-lowest 11 (bad11 program) n _ t10.1 in
    let t12 = past-lowest 12 (λ b. bad12 program (block_of program b)) n _ t11.1 in
    let t13 = past-test (bad13 program) 13 _ t12.1 in
    let t14 = past-lowest 14 (bad14 (calling_of program)) n _ t13.1 in
    let t15 = past-test (bad15 (calling_of program)) 15 _ t14.1 in
    record { labels_right = t10.0; one_process = t11.0; calls_begun = t12.0; has_main = t13.0; no_circle = t14.0; shallow = t15.0 }

pub passed : (program : List Block) (n k : ℕ) → judged_blocks program ≡ Judgement.Accepted n k → Passed program
passed program n k e = passed-all program (subst IsAccepted (sym e) tt)
