-- The other numbers of judging: with a code from 9 on the place is the lowest block that gives it, or 0; an accepted image answers place 0,
-- its block count
-- and main's peak; a refused one 0 for both counts. Whatever the image; assumes nothing.
use Rattle.std.specs.Prelude.{◌≡◌, Bool, List, ℕ, ◌<◌, ◌≤◌, length}
use Rattle.std.proofs.Math.Path.{refl}
use Rattle.std.proofs.Common.{subst, arith}
use Rattle.std.proofs.Math.Bool.{true, false}
use Rattle.std.proofs.Math.Dec.{ltb}
use borrow.Author.Tests.{ltb-true}
use Rattle.rules.specs.Base.{pick, lowest}
use Rattle.rules.specs.Format.{main}
use Rattle.rules.specs.Read.{Reading, got, fault, decoded}
use Rattle.rules.specs.Calls.{calling_of, bad13, bad15, peak}
use Rattle.rules.specs.Judge.{at_lowest, judged_blocks, judged_reading, judgement, numbers}
use Rattle.rules.specs.RefusalTable.{program_in, IsLowest, PlaceOf, nine, ten, eleven, twelve, thirteen, fourteen, fifteen}
use Rattle.rules.specs.declared.Block.{Block}
use Rattle.rules.specs.Judgement.{Judgement}
use Rattle.rules.specs.declared.Judged.{Judged}
use Rattle.laws.proofs.Search.{lowest-found}
use Rattle.theorems_more.specs.Lowest.{lowest-before}
use Rattle.theorems_more.specs.Refusing.FaultCodes.{Early, decoded-early, read_is, NineOn, judged-on}

-- ---- one code at a time
-- what holds of every refusal
abbrev Every : (ℕ → ℕ → Type 0) → Judgement → Type 0
Every P (Judgement.Refused code place) = P code place
Every P (Judgement.Accepted blocks peak) = Unit {0}

module _ (P : ℕ → ℕ → Type 0) where
  every_lowest :
      (code : ℕ) (bad : ℕ → Bool) (n : ℕ) (rest : Judgement) → ((place : ℕ) → IsLowest bad n place → P code place) → Every P rest →
      Every P (at_lowest code bad n rest)
  unfolding at_lowest pick
  every_lowest code bad n rest is more = go (ltb (lowest bad n) n) refl
    where
      go : (t : Bool) → ltb (lowest bad n) n ≡ t → Every P (pick t (Judgement.Refused code (lowest bad n)) rest)
      go true e =
          let lt : lowest bad n < n = ltb-true (lowest bad n) n e in
          is (lowest bad n) (record { inside = lt; itself = lowest-found bad n lt; none_lower = lowest-before bad n })
      go false e = more

  every_pick : (t : Bool) (code place : ℕ) (rest : Judgement) → P code place → Every P rest → Every P (pick t (Judgement.Refused code place) rest)
  unfolding pick
  every_pick true code place rest is more = is
  every_pick false code place rest is more = more

judged-placed : (program : List Block) → Every (PlaceOf program) (judged_blocks program)
unfolding judged_blocks
judged-placed program =
    let P = PlaceOf program in
    every_lowest P 9 _ _ _ (λ place. nine)
    (every_lowest P 10 _ _ _ (λ place. ten)
    (every_lowest P 11 _ _ _ (λ place. eleven)
    (every_lowest P 12 _ _ _ (λ place. twelve)
    (every_pick P (bad13 program) 13 0 _ thirteen
    (every_lowest P 14 _ _ _ (λ place. fourteen)
    (every_pick P (bad15 (calling_of program)) 15 0 _ fifteen tt))))))

-- what an accepted program answers
abbrev Counted : List Block → Judgement → Type 0
Counted program (Judgement.Refused code place) = Unit {0}
Counted program (Judgement.Accepted blocks most) = (blocks ≡ length program) × (most ≡ peak (calling_of program) main)

module _ (program : List Block) where
  counted-lowest : (code : ℕ) (bad : ℕ → Bool) (n : ℕ) (rest : Judgement) → Counted program rest → Counted program (at_lowest code bad n rest)
  unfolding at_lowest pick
  counted-lowest code bad n rest h = go (ltb (lowest bad n) n)
    where
      go : (t : Bool) → Counted program (pick t (Judgement.Refused code (lowest bad n)) rest)
      go true = tt
      go false = h

  counted_pick : (t : Bool) (code place : ℕ) (rest : Judgement) → Counted program rest → Counted program (pick t (Judgement.Refused code place) rest)
  unfolding pick
  counted_pick true code place rest h = tt
  counted_pick false code place rest h = h

  counted : Counted program (judged_blocks program)
  unfolding judged_blocks
  counted =
      counted-lowest 9 _ _ _
      (counted-lowest 10 _ _ _
      (counted-lowest 11 _ _ _
      (counted-lowest 12 _ _ _
      (counted_pick (bad13 program) 13 0 _
      (counted-lowest 14 _ _ _
      (counted_pick (bad15 (calling_of program)) 15 0 _ (refl, refl)))))))

-- ---- the statement
pub record JudgeCounts (program : List Block) (n : Judged) : Type 0 where
  -- a code from 9 on has the place that goes with it
  pub place : 9 ≤ n.code → PlaceOf program n.code n.place
  -- an accepted image answers place 0, its block count and main's peak
  pub accepted : n.code ≡ 0 → (n.place ≡ 0) × (n.blocks ≡ length program) × (n.peak ≡ peak (calling_of program) main)
  -- a refused one no counts
  pub refused : (n.code ≡ 0 → ⊥) → (n.blocks ≡ 0) × (n.peak ≡ 0)

judged-counts : (program : List Block) (j : Judgement) → Every (PlaceOf program) j → Counted program j → NineOn j → JudgeCounts program (numbers j)
judged-counts program (Judgement.Refused code place) placed counts on =
    record { place = λ h. placed; accepted = λ e. absurd (let lo = on.0 in omega (arith, lo, e)); refused = λ n. (refl, refl) }
judged-counts program (Judgement.Accepted blocks most) placed counts on =
    record { place = λ h. absurd (omega arith); accepted = λ e. (refl, counts.0, counts.1); refused = λ n. absurd (n refl) }

pub judge_counts : (image : List ℕ) → JudgeCounts (program_in image) (numbers (judgement image))
unfolding judgement judged_reading
judge_counts image = reading (decoded image) refl (decoded-early image)
  where
    reading : (r : Reading (List Block)) → decoded image ≡ r → Early r → JudgeCounts (program_in image) (numbers (judged_reading r))
    reading (fault code place) d early =
        let lo = early.0 in
        let hi = early.1 in
        record { place = λ h. absurd (omega (arith, hi, h)); accepted = λ e. absurd (omega (arith, lo, e)); refused = λ n. (refl, refl) }
    reading (got program past) d early =
        subst (λ (q : List Block). JudgeCounts q (numbers (judged_blocks program))) (read_is image program past d)
        (judged-counts program (judged_blocks program) (judged-placed program) (counted program) (judged-on program))
