-- Judging an image, document 01: codes 1 to 8 as it is read, then 9 to 15 one code at a time over all blocks.
use Rattle.std.specs.Prelude.{ℕ, Bool, List, length, ltb}
use Rattle.rules.specs.Base.{pick, lowest}
use Rattle.rules.specs.Format.{main}
use Rattle.rules.specs.Read.{Reading, got, fault, decoded}
use Rattle.rules.specs.Labels.{block_of, bad9, bad10, bad11, bad12}
use Rattle.rules.specs.Calls.{calling_of, bad13, bad14, bad15, peak}
use Rattle.rules.specs.declared.Block.{Block}
use Rattle.rules.specs.Judgement.{Judgement}
use Rattle.rules.specs.declared.Judged.{Judged}

-- the code at the lowest block that is bad, else what comes after
unfoldable pub at_lowest : ℕ → (ℕ → Bool) → ℕ → Judgement → Judgement
at_lowest code bad n rest = pick (ltb (lowest bad n) n) (Judgement.Refused code (lowest bad n)) rest

-- an accepted image answers the block count and main's peak
unfoldable pub judged_blocks : List Block → Judgement
judged_blocks program =
    at_lowest 9 (λ b. bad9 program (block_of program b)) (length program)
    (at_lowest 10 (λ b. bad10 program (block_of program b)) (length program)
    (at_lowest 11 (bad11 program) (length program)
    (at_lowest 12 (λ b. bad12 program (block_of program b)) (length program)
    (pick (bad13 program) (Judgement.Refused 13 0)
    (at_lowest 14 (bad14 (calling_of program)) (length program)
    (pick (bad15 (calling_of program)) (Judgement.Refused 15 0)
    (Judgement.Accepted (length program) (peak (calling_of program) main))))))))

unfoldable pub judged_reading : Reading (List Block) → Judgement
judged_reading (got program at) = judged_blocks program
judged_reading (fault code place) = Judgement.Refused code place

unfoldable pub judgement : List ℕ → Judgement
judgement image = judged_reading (decoded image)

-- the numbers of a judgement: a refused image gives 0 for both counts, an accepted one 0 and place 0
abbrev pub numbers : Judgement → Judged
numbers (Judgement.Refused code place) = record { code = code; place = place; blocks = 0; peak = 0 }
numbers (Judgement.Accepted blocks peak) = record { code = 0; place = 0; blocks = blocks; peak = peak }
