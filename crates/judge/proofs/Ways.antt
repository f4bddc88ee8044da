-- The ways through judging: a code given at the lowest bad block, or passed. Assumes nothing.
use Rattle.std.proofs.Common.{◌≡◌, ℕ, Bool, true, false, cond, ltb, List, length, take, Option, Some, None, Result, Ok, Err}
use Rattle.std.proofs.Common.{refl, sym, ap, ap₂, ◌∙◌}
use Rattle.std.specs.Result.{IsErrAnd}
use Rattle.std.specs.Option.{ok_or}
use Rattle.std.proofs.lemmas.Result.{err_from_is_err_and}
use Rattle.rules.specs.Base.{pick, lowest}
use Rattle.rules.specs.Codes.{number}
use Rattle.rules.specs.Format.{main}
use Rattle.rules.specs.Labels.{block_of, bad9, bad10, bad11, bad12}
use Rattle.rules.specs.Calls.{Calling, calling_of, bad13, bad14, bad15, peak}
use Rattle.rules.specs.Judge.{at_lowest, judged_blocks, judged_reading}
use Rattle.rules.specs.Judgement.{Judgement, judged}
use Rattle.rules.specs.Read.{Reading, got, fault}
use Rattle.rules.specs.declared.Accepted.{Accepted}
use Rattle.rules.specs.declared.Block.{Block}
use Rattle.rules.specs.declared.Code.{Code}
use Rattle.rules.specs.declared.Refused.{Refused}
use Rattle.laws.specs.Found.{found}
use Rattle.laws.proofs.Lists.{pick-false}
use Rattle.calls.specs.Peaks.{peak_unless_refused}
use Rattle.calls.specs.Table.{calling}
use Rattle.calls.specs.declared.table.Calls.{Calls}
use Rattle.called.specs.Calls.{CallsOf}
use Rattle.processes.specs.Own.{ProcessesOf}
use Rattle.processes.specs.declared.Processes.{Processes}
use Rattle.decode.specs.Blocks.{blocks_in}
use Rattle.decode.specs.Shows.{Shows}
use Rattle.decode.specs.declared.program.Program.{Program}
use Rattle.judge.specs.Parts.{passed}

-- what is handed on of a refusal
pub handed : (out : Result Accepted Refused) (r : Refused) → IsErrAnd out (λ x. x ≡ r) → judged out ≡ judged (Err r)
handed out r w = let p = err_from_is_err_and out w in ap judged (p.1 ∙ ap Err p.2)

-- ---- one code
module _ (code : Code) (k : ℕ) (rest j : Judgement) (bad : Option ℕ) where
  given-if : (b : Bool) (r : Refused)
      → j ≡ pick b (Judgement.Refused (number code) k) rest
      → bad ≡ cond b (Some k) None
      → Err r ≡ passed code bad
      → judged (Err r) ≡ j
  unfolding pick
  given-if true r e f g =
      let h : ◌≡◌ {A = Result (Unit {0}) Refused} (Err r) (Err (record { code = code; place = k })) = g ∙ ap (passed code) f in
      let q : r ≡ record { code = code; place = k } = cc in
      ap (λ (x : Refused). Judgement.Refused (number x.code) x.place) q ∙ sym e
  given-if false r e f g =
      let h : ◌≡◌ {A = Result (Unit {0}) Refused} (Err r) (Ok tt) = g ∙ ap (passed code) f in cc

  past-if : (b : Bool) (u : Unit {0})
      → j ≡ pick b (Judgement.Refused (number code) k) rest
      → bad ≡ cond b (Some k) None
      → Ok u ≡ passed code bad
      → j ≡ rest
  unfolding pick
  past-if true u e f g =
      let h : ◌≡◌ {A = Result (Unit {0}) Refused} (Ok u) (Err (record { code = code; place = k })) = g ∙ ap (passed code) f in cc
  past-if false u e f g = e

module _
    {j : Judgement} (code : Code) (p : ℕ → Bool) (n : ℕ) (rest : Judgement) (bad : Option ℕ)
    (e : j ≡ at_lowest (number code) p n rest) (f : bad ≡ found p n)
  where
    -- it is given
    pub given : (r : Refused) → Err r ≡ passed code bad → judged (Err r) ≡ j
    unfolding at_lowest
    given r g = given-if code (lowest p n) rest j bad (ltb (lowest p n) n) r e f g

    -- it is passed
    pub past : (u : Unit {0}) → Ok u ≡ passed code bad → j ≡ rest
    unfolding at_lowest
    past u g = past-if code (lowest p n) rest j bad (ltb (lowest p n) n) u e f g

-- ---- code 15, as main's peak is found or not
module _ (n peak-of : ℕ) (j : Judgement) (o : Option ℕ) (r : Refused) where
  too-deep_if : (b : Bool) (d : Refused)
      → j ≡ pick b (Judgement.Refused 15 0) (Judgement.Accepted n peak-of)
      → o ≡ cond b None (Some peak-of)
      → r ≡ record { code = Code.TooDeep; place = 0 }
      → Err d ≡ ok_or o r
      → judged (Err d) ≡ j
  unfolding pick
  too-deep_if true d e f q g =
      let h : ◌≡◌ {A = Result ℕ Refused} (Err d) (Err r) = g ∙ ap (λ (x : Option ℕ). ok_or x r) f in
      let w : d ≡ record { code = Code.TooDeep; place = 0 } = cc in
      ap (λ (x : Refused). Judgement.Refused (number x.code) x.place) w ∙ sym e
  too-deep_if false d e f q g =
      let h : ◌≡◌ {A = Result ℕ Refused} (Err d) (Ok peak-of) = g ∙ ap (λ (x : Option ℕ). ok_or x r) f in cc

  accepted-if : (b : Bool) (k : ℕ)
      → j ≡ pick b (Judgement.Refused 15 0) (Judgement.Accepted n peak-of)
      → o ≡ cond b None (Some peak-of)
      → Ok k ≡ ok_or o r
      → Judgement.Accepted n k ≡ j
  unfolding pick
  accepted-if true k e f g =
      let h : ◌≡◌ {A = Result ℕ Refused} (Ok k) (Err r) = g ∙ ap (λ (x : Option ℕ). ok_or x r) f in cc
  accepted-if false k e f g =
      let h : ◌≡◌ {A = Result ℕ Refused} (Ok k) (Ok peak-of) = g ∙ ap (λ (x : Option ℕ). ok_or x r) f in
      let w : k ≡ peak-of = cc in
      ap (Judgement.Accepted n) w ∙ sym e

-- ---- all of them
module _ (program : List Block) where
  abbrev n : ℕ
  n = length program

  abbrev bad-at : (List Block → Block → Bool) → ℕ → Bool
  bad-at bad b = bad program (block_of program b)

  -- what is judged after each of the codes
  abbrev After15 : Judgement
  After15 = Judgement.Accepted n (peak (calling_of program) main)

  abbrev After14 : Judgement
  After14 = pick (bad15 (calling_of program)) (Judgement.Refused 15 0) After15

  abbrev After13 : Judgement
  After13 = at_lowest 14 (bad14 (calling_of program)) n After14

  abbrev After12 : Judgement
  After12 = pick (bad13 program) (Judgement.Refused 13 0) After13

  abbrev After11 : Judgement
  After11 = at_lowest 12 (bad-at bad12) n After12

  abbrev After10 : Judgement
  After10 = at_lowest 11 (bad11 program) n After11

  abbrev After9 : Judgement
  After9 = at_lowest 10 (bad-at bad10) n After10

  pub split : judged_blocks program ≡ at_lowest 9 (bad-at bad9) n After9
  unfolding judged_blocks
  split = refl

  -- codes 9 to 11 are passed
  pub past11 : {semaphore label process : Option ℕ} {u v w : Unit {0}}
      → semaphore ≡ found (bad-at bad9) n
      → Ok u ≡ passed Code.SemaphoreNamed semaphore
      → label ≡ found (bad-at bad10) n
      → Ok v ≡ passed Code.LabelCount label
      → process ≡ found (bad11 program) n
      → Ok w ≡ passed Code.ProcessBlock process
      → judged_blocks program ≡ After11
  past11 f9 g9 f10 g10 f11 g11 =
      past Code.ProcessBlock _ _ _ _ (past Code.LabelCount _ _ _ _ (past Code.SemaphoreNamed _ _ _ _ split f9 _ g9) f10 _ g10) f11 _ g11

  -- and 12 and 13
  pub past13 : {unknown : Option ℕ} {u : Unit {0}}
      → judged_blocks program ≡ After11
      → unknown ≡ found (bad-at bad12) n
      → Ok u ≡ passed Code.UnknownLabel unknown
      → bad13 program ≡ false
      → judged_blocks program ≡ After13
  past13 e f g m = past Code.UnknownLabel _ _ _ _ e f _ g ∙ pick-false _ _ _ m

  -- the calls of a table that has those of the program
  module _ (t : Calls) (p : Processes) (own : ProcessesOf program p) (c : CallsOf program p.homes t) where
    same : calling t ≡ calling_of program
    unfolding calling_of
    same = λ i. record { homes = (ap₂ take c.count c.homes ∙ own.homes) i; calls = c.calls i }

    pub circles : (bad : Option ℕ) → bad ≡ found (bad14 (calling t)) t.count → bad ≡ found (bad14 (calling_of program)) n
    circles bad e = e ∙ ap₂ (λ (x : Calling) (m : ℕ). found (bad14 x) m) same c.count

    module _ {j : Judgement} (o : Option ℕ) (e : o ≡ peak_unless_refused (calling t)) (left : j ≡ After14) where
      peaks : o ≡ peak_unless_refused (calling_of program)
      peaks = e ∙ ap peak_unless_refused same

      pub too_deep : (d r : Refused) → r ≡ record { code = Code.TooDeep; place = 0 } → Err d ≡ ok_or o r → judged (Err d) ≡ j
      too_deep d r q g = too-deep_if n (peak (calling_of program) main) j o r (bad15 (calling_of program)) d left peaks q g

      pub accepted : (r : Refused) (k : ℕ) → Ok k ≡ ok_or o r → Judgement.Accepted n k ≡ j
      accepted r k g = accepted-if n (peak (calling_of program) main) j o r (bad15 (calling_of program)) k left peaks g

-- where a code is passed nothing is bad
pub none-bad : (code : Code) (bad : Option ℕ) (u : Unit {0}) → Ok u ≡ passed code bad → None ≡ bad
none-bad code None u g = refl
none-bad code (Some b) u g = cc

-- ---- codes 1 to 8, as decoding shows them
pub unread : (d : Reading (List Block)) (r : Refused) → Shows d (Err r) → judged (Err r) ≡ judged_reading d
unfolding judged_reading
unread (got program at) r w = absurd w
unread (fault code place) r w = ap₂ Judgement.Refused w.0 w.1

pub read : (d : Reading (List Block)) (p : Program) (j : Judgement) → Shows d (Ok p) → j ≡ judged_blocks (blocks_in p) → j ≡ judged_reading d
unfolding judged_reading
read (got program at) p j w e = e ∙ ap judged_blocks w
read (fault code place) p j w e = absurd w
