-- When the graph lets a step go back: just when every later step is of another process and independent of it. Assumes nothing.
use Rattle.std.specs.Prelude.{◌≡◌, refl, ◌⊎◌, ◌↔◌, ◌≢◌, Bool, true, false, List, [], ◌∷◌, ◌++◌, ℕ, ◌≤◌, ◌<◌}
use Rattle.std.proofs.Common.{sym, ap, ◌∙◌, inl, inr, arith}
use Rattle.std.proofs.Math.Decide.{ℕ_discrete}
use Rattle.theory.specs.Cause.{Feet, Origin, step, Base, fresh, push, after, EdgeAt, Edge, Free, number}
use Rattle.theory.specs.Tests.{bool_cases, true_false}
use Rattle.theory.specs.Histories.{Apart, NoneBy, NoneReads, NoneWrites, Counted, after-append, any-right, any-split, count-after_up, count-after_none, count-up, count-other, count_same, edge-from, kept-last, last-kept, last-unwritten, last_written, counted-after, counted-fresh, counted-push}
use Rattle.theory.specs.Moving.{apart_none, apart-unread, apart-unwritten, apart_of, edge-mid, unread-unwritten, untouched}

module _ (Φ : Feet) where
  open Φ use {Entry, process, reading, writing, written_read}

  -- the graph lets the newest step of a process go back just when every later step is of another process and independent of it
  none-by_count : (G : Base) (w : List Entry) (p : ℕ) → (after Φ G w).count p ≡ G.count p → NoneBy Φ p w
  none-by_count G [] p h = tt
  none-by_count G (f ∷ w) p h = go (λ d. none-by_count (push Φ G f) w p (h ∙ sym (count-other Φ G f p d))) (ℕ_discrete p (process f))
    where
      go : (p ≢ process f → NoneBy Φ p w) → Dec (p ≡ process f) → NoneBy Φ p (f ∷ w)
      go ih (yes x) = absurd (omega (arith, h, count_same Φ G f p x, count-after_up Φ (push Φ G f) w p))
      go ih (no d) = ((λ x. d (sym x)), ih d)

  all-unread_unwritten : (r : ℕ) (w : List Entry) → NoneReads Φ r w → NoneWrites Φ r w
  all-unread_unwritten r [] n = tt
  all-unread_unwritten r (f ∷ w) n = (unread-unwritten Φ f r n.0, all-unread_unwritten r w n.1)

  edge-unread : (q j r : ℕ) (v : Bool) (s : Origin) (G : Base) (w : List Entry) → NoneReads Φ r w → Edge Φ G w q j r v s → ⊥
  edge-unread q j r v s G [] n a = a
  edge-unread q j r v s G (f ∷ w) n (inl x) = true_false x.2 n.0
  edge-unread q j r v s G (f ∷ w) n (inr y) = edge-unread q j r v s (push Φ G f) w n.1 y

  edge-old : (q j r : ℕ) (v : Bool) (p k : ℕ) (G : Base) → Counted Φ G → (u : List Entry) → Edge Φ G u q j r v (step p k) → k < (after Φ G u).count p
  edge-old q j r v p k G g [] a = absurd a
  edge-old q j r v p k G g (e ∷ t) (inl x) = omega (arith, g r p k (sym x.4), count-up Φ G e p, count-after_up Φ (push Φ G e) t p)
  edge-old q j r v p k G g (e ∷ t) (inr y) = edge-old q j r v p k (push Φ G e) (counted-push Φ G g e) t y

  module _ (u : List Entry) (e : Entry) (w : List Entry) where
    abbrev pub here : Base
    here = after Φ fresh u

    abbrev pub num : ℕ
    num = number Φ u e

    here-counted : Counted Φ here
    here-counted = counted-after Φ fresh (counted-fresh Φ) u

    end-eq : after Φ fresh (u ++ e ∷ w) ≡ after Φ (push Φ here e) w
    end-eq = after-append Φ fresh u (e ∷ w)

    pub free-apart : Free Φ (u ++ e ∷ w) (process e) num → Apart Φ e w
    free-apart F = apart_of Φ e w nop reads_none writes-none
      where
        nop : NoneBy Φ (process e) w
        nop =
            none-by_count (push Φ here e) w (process e)
            (ap (λ B. B.count (process e)) (sym end-eq) ∙ F.newest ∙ sym (count_same Φ here e (process e) refl))

        reads_none : (r : ℕ) → writing e r ≡ true → NoneReads Φ r w
        reads_none r h =
            untouched Φ (process e) r (step (process e) num) (push Φ here e) w (last_written Φ here e r h) nop
            (λ q j v d a. F.leaves q j r v (any-right Φ (EdgeAt Φ q j r v (step (process e) num)) fresh u (e ∷ w) (inr a)))

        go : (r : ℕ) → reading e r ≡ true → (writing e r ≡ true) ⊎ (writing e r ≡ false) → NoneWrites Φ r w
        go r h (inl x) = all-unread_unwritten r w (reads_none r x)
        go r h (inr x) =
            let a =
            F.reads r (here.last r)
            (any-right Φ (EdgeAt Φ (process e) num r false (here.last r)) fresh u (e ∷ w) (inl (refl, refl, h, sym x, refl))) in
            kept-last Φ (push Φ here e) (counted-push Φ here here-counted e) w r (last-kept Φ here e r x ∙ a ∙ ap (λ B. B.last r) end-eq)

        writes-none : (r : ℕ) → reading e r ≡ true → NoneWrites Φ r w
        writes-none r h = go r h (bool_cases (writing e r))

    pub apart-free : Apart Φ e w → Free Φ (u ++ e ∷ w) (process e) num
    apart-free A =
        record {
          newest =
              ap (λ B. B.count (process e)) end-eq ∙ count-after_none Φ (push Φ here e) w (process e) nop ∙ count_same Φ here e (process e) refl;
          leaves = λ q j r v a. no-leaf q j r v (any-split Φ (EdgeAt Φ q j r v (step (process e) num)) fresh u (e ∷ w) a);
          reads = λ r s a. still r s (edge-mid Φ (process e) num r false s fresh u e w refl refl a);
        }
      where
        nop : NoneBy Φ (process e) w
        nop = apart_none Φ e w A

        by-write :
            (q j r : ℕ) (v : Bool) → Edge Φ (push Φ here e) w q j r v (step (process e) num) → (push Φ here e).last r ≡ step (process e) num →
            (writing e r ≡ true) ⊎ (writing e r ≡ false) → ⊥
        by-write q j r v a x (inl h) = edge-unread q j r v (step (process e) num) (push Φ here e) w (apart-unread Φ e w r h A) a
        by-write q j r v a x (inr h) = let l = here-counted r (process e) num (sym (last-kept Φ here e r h) ∙ x) in omega (arith, l)

        later :
            (q j r : ℕ) (v : Bool) → Edge Φ (push Φ here e) w q j r v (step (process e) num) →
            (step (process e) num ≡ (push Φ here e).last r) ⊎ ((q' : ℕ) × (j' : ℕ) × (step (process e) num ≡ step q' j') × ((push Φ here e).count q' ≤ j')) → ⊥
        later q j r v a (inl x) = by-write q j r v a (sym x) (bool_cases (writing e r))
        later q j r v a (inr y) =
            let x = y.2 in
            let y0 = y.0 in
            let y1 = y.1 in
            let qe : y0 ≡ process e = cc in
            let je : y1 ≡ num = cc in
            let c = count_same Φ here e y0 qe in
            let c' : here.count y0 ≡ num = ap (λ z. here.count z) qe in
            omega (arith, y.3, c, c', je)

        no-leaf : (q j r : ℕ) (v : Bool) → Edge Φ fresh u q j r v (step (process e) num) ⊎ Edge Φ here (e ∷ w) q j r v (step (process e) num) → ⊥
        no-leaf q j r v (inl b) = let l = edge-old q j r v (process e) num fresh (counted-fresh Φ) u b in omega (arith, l)
        no-leaf q j r v (inr (inl x)) = let l = here-counted r (process e) num (sym x.4) in omega (arith, l)
        no-leaf q j r v (inr (inr y)) = later q j r v y (edge-from Φ q j r v (step (process e) num) (push Φ here e) w y)

        still : (r : ℕ) (s : Origin) → (reading e r ≡ true) × (false ≡ writing e r) × (s ≡ here.last r) → s ≡ (after Φ fresh (u ++ e ∷ w)).last r
        still r s x =
            x.2 ∙ sym (last-kept Φ here e r (sym x.1)) ∙ sym (last-unwritten Φ (push Φ here e) w r (apart-unwritten Φ e w r x.0 A)) ∙ ap
            (λ B. B.last r) (sym end-eq)

    pub free-is_apart : Free Φ (u ++ e ∷ w) (process e) num ↔ Apart Φ e w
    free-is_apart = (free-apart, apart-free)
