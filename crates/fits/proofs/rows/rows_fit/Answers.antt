-- The four clauses, each tested where those before it hold.
use Rattle.std.proofs.Common.{◌≡◌, sym, ◌∙◌, true, false}
use Rattle.rules.specs.Base.{each_of}
use Rattle.rules.specs.Machine.{standing, view}
use Rattle.rules.specs.Fits.{is_live, own_fits}
use Rattle.fits.specs.Children.{whole_family}
use Rattle.fits.specs.Rows.{rows_fit}
use Rattle.fits.proofs.rows.rows_fit.Goals as goal
use Rattle.fits.proofs.rows.rows_fit.Goals.{then-is_live, else-is_live, then-all_own, else-all_own}

pub returns-then-all_whole : goal.returns-then-all_whole
unfolding rows_fit
returns-then-all_whole c = λ program t.
    let v = view c.args.m.now in
    let last = c.all_newest.ensures program t.leaves in
    elim c.if-all_own.branch [
      | then-all_own w ↦
          let g : each_of (whole_family program v.rows) v.rows ≡ true =
          sym (w.all_whole.ensures program t.leaves t.calls) ∙ sym w.value-is ∙ c.if-all_whole.true in
          elim c.if-is_live.branch [
            | then-is_live u ↦
                let e : is_live (standing v.rows 0) ≡ true = sym u.if-is_live.ensures in
                let f : each_of (own_fits program v.rows) v.rows ≡ true =
                sym (u.all_own.ensures program t) ∙ sym u.value-is ∙ w.if-all_own.true in
                rw (e, f, g) last
            | else-is_live u ↦ let a = w.if-all_own.true in let b = u.value-is in cc
          ]
      | else-all_own w ↦ let a = c.if-all_whole.true in let b = w.value-is in cc
    ]

pub returns-else-all_whole : goal.returns-else-all_whole
unfolding rows_fit
returns-else-all_whole c = λ program t.
    let v = view c.args.m.now in
    let no = c.if-all_whole.false in
    elim c.if-all_own.branch [
      | then-all_own w ↦
          let g : each_of (whole_family program v.rows) v.rows ≡ false =
          sym (w.all_whole.ensures program t.leaves t.calls) ∙ sym w.value-is ∙ no in
          elim c.if-is_live.branch [
            | then-is_live u ↦
                let e : is_live (standing v.rows 0) ≡ true = sym u.if-is_live.ensures in
                let f : each_of (own_fits program v.rows) v.rows ≡ true =
                sym (u.all_own.ensures program t) ∙ sym u.value-is ∙ w.if-all_own.true in
                rw (e, f, g) no
            | else-is_live u ↦ let a = w.if-all_own.true in let b = u.value-is in cc
          ]
      | else-all_own w ↦
          elim c.if-is_live.branch [
            | then-is_live u ↦
                let e : is_live (standing v.rows 0) ≡ true = sym u.if-is_live.ensures in
                let f : each_of (own_fits program v.rows) v.rows ≡ false =
                sym (u.all_own.ensures program t) ∙ sym u.value-is ∙ w.if-all_own.false in
                rw (e, f) no
            | else-is_live u ↦ let e : is_live (standing v.rows 0) ≡ false = sym u.if-is_live.ensures in rw e no
          ]
    ]
