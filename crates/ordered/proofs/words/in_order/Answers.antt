-- The three parts, each tested where those before it hold.
use Rattle.std.proofs.Common.{◌≡◌, sym, ◌∙◌, true, false}
use Rattle.rules.specs.Fits.{counts_fit, unused_zero}
use Rattle.ordered.specs.Ordered.{in_order}
use Rattle.ordered.proofs.Order.{live-few, kept-few}
use Rattle.ordered.proofs.words.in_order.Goals as goal
use Rattle.ordered.proofs.words.in_order.Goals.{then-counts_fit, else-counts_fit}

pub unused_zero-requires : goal.unused_zero-requires
unused_zero-requires c =
    let e : counts_fit c.args.m.now ≡ true = sym c.if-counts_fit.ensures in
    (c.requires, live-few _ e, kept-few _ e)

pub ascends-requires : goal.ascends-requires
ascends-requires c =
    elim c.if-counts_fit.branch [
      | then-counts_fit w ↦ (c.requires, live-few _ (sym w.if-counts_fit.ensures))
      | else-counts_fit w ↦ let e = c.if-unused_zero.true in let f = w.value-is in cc
    ]

pub returns-then-unused_zero : goal.returns-then-unused_zero
unfolding in_order
returns-then-unused_zero c =
    elim c.if-counts_fit.branch [
      | then-counts_fit w ↦
          let e : counts_fit c.args.m.now ≡ true = sym w.if-counts_fit.ensures in
          let f : unused_zero c.args.m.now ≡ true = sym w.unused_zero.ensures ∙ sym w.value-is ∙ c.if-unused_zero.true in
          rw (e, f) c.ascends.ensures
      | else-counts_fit w ↦ let e = c.if-unused_zero.true in let f = w.value-is in cc
    ]

pub returns-else-unused_zero : goal.returns-else-unused_zero
unfolding in_order
returns-else-unused_zero c =
    elim c.if-counts_fit.branch [
      | then-counts_fit w ↦
          let e : counts_fit c.args.m.now ≡ true = sym w.if-counts_fit.ensures in
          let f : unused_zero c.args.m.now ≡ false = sym w.unused_zero.ensures ∙ sym w.value-is ∙ c.if-unused_zero.false in
          rw (e, f) c.if-unused_zero.false
      | else-counts_fit w ↦ let e : counts_fit c.args.m.now ≡ false = sym w.if-counts_fit.ensures in rw e c.if-unused_zero.false
    ]
