-- What the loop has read, with what is still to come, is the whole reading, so each way out has what that gives.
use Rattle.std.proofs.Common.{◌≡◌, ◌<◌, ◌+◌, List, [], ◌∷◌, ◌++◌, length, take}
use Rattle.std.proofs.Common.{slice_set, refl, sym, ap, subst, ◌∙◌, arith, rules, add-one}
use Rattle.std.proofs.lemmas.Result.{err_from_is_err_and}
use Rattle.std.proofs.Math.ListN.{length-set}
use Rattle.std.proofs.Math.Seq.{length-take-le, take-suc-set}
use Rattle.rules.specs.Read.{Reading}
use Rattle.rules.specs.declared.Block.{Block}
use Rattle.rules.specs.declared.Code.{Code}
use Rattle.image.specs.Shown.{shown}
use Rattle.decode.proofs.Good.{Good, good-fault}
use Rattle.decode.proofs.Readings.{block-good}
use Rattle.decode.proofs.Blocks.{Stand, stand_start, stand_got, stand_fault, stand_full, stand_end, was_read, was_refused}
use Rattle.decode.proofs.Answer.{in-front_err}
use Rattle.decode.proofs.read.Goals as goal

pub loop-cursor-init : goal.loop-cursor-init
loop-cursor-init c = record { read = stand_start c.args.s.now 128; few = omega arith; room = search rules }

pub returns-then-count-eq-MOST : goal.returns-then-count-eq-MOST
returns-then-count-eq-MOST c =
    let s = c.args.s.now in
    let l = c.loop-cursor in
    let full : length (take l.count l.blocks) ≡ 128 = length-take-le l.count l.blocks (omega arith) ∙ c.if-count-eq-MOST.true in
    in-front_err _ _ Code.TooManyBlocks l.cursor.at c.refused.result
    (stand_full s 128 (take l.count l.blocks) l.cursor.at full c.loop-cursor-test.true l.invariant.read)
    c.refused.ensures

pub map_err-requires : goal.map_err-requires
map_err-requires c e h =
    let s = c.args.s.now in
    let at = c.loop-cursor.cursor.at in
    let g = good-fault (subst (λ (x : Reading Block). Good s at x) (sym c.block_at.ensures ∙ ap shown h) (block-good s at)) in
    omega (arith, g.2)

pub returns-in_err-block : goal.returns-in_err-block
returns-in_err-block c =
    let s = c.args.s.now in
    let l = c.loop-cursor in
    let p = err_from_is_err_and c.from_residual.result c.from_residual.ensures.1 in
    let m = was_refused c.block_at.result c.map_err.result _ c.in_err-block.was c.map_err.ensures.cases in
    let size : length (take l.count l.blocks) ≡ l.count = length-take-le l.count l.blocks (omega arith) in
    let room : length (take l.count l.blocks) < 128 = omega arith in
    rw p.1
    (in-front_err _ _ m.0.code m.0.place p.0
    (stand_fault s 128 (take l.count l.blocks) l.cursor.at _ _ room c.loop-cursor-test.true (sym c.block_at.ensures ∙ ap shown m.1) l.invariant.read)
    (p.2 ∙ m.2))

pub loop-cursor-preserved : goal.loop-cursor-preserved
loop-cursor-preserved c =
    let s = c.args.s.now in
    let l = c.loop-cursor in
    let m = was_read c.block_at.result c.map_err.result _ c.in_ok-block.was c.map_err.ensures.cases in
    let size : length (take l.count l.blocks) ≡ l.count = length-take-le l.count l.blocks (omega arith) in
    let room : length (take l.count l.blocks) < 128 = omega arith in
    let more : take (l.count + 1) (slice_set l.blocks l.count c.in_ok-block.block) ≡ take l.count l.blocks ++ c.in_ok-block.block ∷ [] =
    rw add-one (take-suc-set l.blocks l.count c.in_ok-block.block (omega arith)) in
    record {
      read =
          subst (λ (x : List Block). Stand s 128 x c.in_ok-block.next.at) (sym more)
          (stand_got s 128 (take l.count l.blocks) l.cursor.at _ _ room c.loop-cursor-test.true (sym c.block_at.ensures ∙ ap shown m) l.invariant.read);
      few = omega arith;
      room = simp length-set l.invariant.room;
    }

pub returns : goal.returns
returns c =
    let s = c.args.s.now in
    let l = c.loop-cursor in
    rw (stand_end s 128 (take l.count l.blocks) l.cursor.at c.loop-cursor-test.false l.invariant.read) (l.invariant.few, refl)
