-- Identifiers of reached machines: a live process is at most 8 calls deep, so that its identifier has at most 8 hexadecimal
-- digits, each 1 to 8, and is a word; and each kept step is of such a process and of a block of the image. Assumes that the image
-- is sound.
use Rattle.std.specs.Prelude.{◌≡◌, ◌⊎◌, Bool, ◌&&◌, ◌||◌, length, eqb, leb}
use Rattle.std.proofs.Math.Path.{refl}
use Rattle.std.proofs.Common.{sym, ap, ◌∙◌, subst, inl, inr, arith, eqb-true, le-leb, lt-ltb}
use Rattle.std.proofs.Math.Bool.{true}
use Rattle.std.proofs.Math.Option.{Option, some}
use mathlib.Core.List.{List, [], ◌∷◌, ◌++◌, map}
use Prim.Native.Nat.{ℕ, zero, suc, ◌/◌, ◌%◌, ◌<◌, ◌≤◌}
use Rattle.theory.specs.Tests.{eqb_same, and-true, true_and, or_left, or_right, or_cases}
use Rattle.theory.specs.Local.{Taken, is_kid, kid-facts, fired, put_self}
use Rattle.theory.specs.Shapes.{forward-shape, forward}
use Rattle.theory.specs.Framing.{forward-ready, forward-mark}
use Rattle.theory.specs.Family.{Family, Ok}
use Rattle.theory.specs.Started.{root_ok}
use Rattle.theory.specs.Peak.{Hangs, hangs-first, keep-well, always, sixteen_to, short}
use Rattle.theory.specs.Optional.{any_of}
use Rattle.rules.specs.Base.{each_of}
use Rattle.rules.specs.Calls.{deepest}
use Rattle.rules.specs.Machine.{Kept, Machine}
use Rattle.rules.specs.Fits.{digits_fit, kept_fits, block_fits, exit_block}
use Rattle.rules.specs.Format.{main}
use Rattle.rules.specs.declared.Block.{Block}
use Rattle.rules.specs.declared.Place.{Place}
use Rattle.theorems.specs.Memory.{Fine}
use Rattle.theorems.specs.Parts.{home_of}
use Rattle.theorems.specs.Program.{Sound, real, exit-some, home-outer}
use Rattle.theorems.specs.Levels.{depth_in, depth-call, main-depth}
use Rattle.theorems.specs.Children.{kids}
use Rattle.theorems.specs.Waiting.{kids-kid}
use Rattle.theorems.specs.Forward.{Configuration, configuration_of, entry_of, reading, writing, Well, ahead, standing-exit}
use Rattle.theorems.specs.Reached.{Reached, Replayed}

-- ---- digits
pub digits-below : (n x : ℕ) → digits_fit n x ≡ true → x < sixteen_to n
unfolding digits_fit
digits-below zero x h = let e = eqb-true x 0 h in omega (arith, e)
digits-below (suc n) x h =
    go (or_cases (eqb x 0) (leb 1 (x % 16) && (leb (x % 16) 8 && digits_fit n (x / 16))) h) (λ k. digits-below n (x / 16) k) (pow_pos n)
  where
    pow_pos : (n : ℕ) → 1 ≤ sixteen_to n
    pow_pos zero = omega arith
    pow_pos (suc n) = omega (arith, pow_pos n)

    go :
        (eqb x 0 ≡ true) ⊎ ((leb 1 (x % 16) && (leb (x % 16) 8 && digits_fit n (x / 16))) ≡ true) →
        (digits_fit n (x / 16) ≡ true → x / 16 < sixteen_to n) → 1 ≤ sixteen_to n → x < sixteen_to (suc n)
    go (inl e) ih p = let z = eqb-true x 0 e in omega (arith, z, p)
    go (inr k) ih p =
        let a = and-true (leb 1 (x % 16)) (leb (x % 16) 8 && digits_fit n (x / 16)) k in
        let b = and-true (leb (x % 16) 8) (digits_fit n (x / 16)) a.1 in
        let l = ih b.1 in
        omega (arith, l)

pub pow_more : (k n : ℕ) → k ≤ n → sixteen_to k ≤ sixteen_to n
pow_more zero zero h = omega arith
pow_more zero (suc n) h = omega (arith, pow_more zero n (omega arith))
pow_more (suc k) zero h = absurd (omega arith)
pow_more (suc k) (suc n) h = omega (arith, pow_more k n (omega arith))

module _ (program : List Block) (S : Sound program) where
  abbrev R : ℕ → ℕ → Bool
  R = reading program S

  abbrev W : ℕ → ℕ → Bool
  W = writing program S

  abbrev HangsIn : (ℕ → Option Place) → Type 0
  HangsIn T = Hangs (real program S) T

  -- the parent of a live process is live
  pub parent-family :
      (T : ℕ → Option Place) (x : ℕ) (a : Place) → Well program S T → T x ≡ some a → is_kid (x / 16) x ≡ true → Family (real program S) T (x / 16)
  parent-family T x a ok e k =
      let f = kid-facts (x / 16) x k in
      ok.family (x / 16) (any_of (kids T (x / 16)) 8 (x % 16) a f.0 f.1 (kids-kid T (x / 16) x k ∙ e))

  live-digits : (T : ℕ → Option Place) → Well program S T → HangsIn T → (n x : ℕ) (a : Place) → T x ≡ some a → x < sixteen_to n → digits_fit n x ≡ true
  unfolding digits_fit
  live-digits T ok H zero x a e lt = eqb_same x 0 (omega (arith, lt))
  live-digits T ok H (suc n) x a e lt = go (H.tree x a e) (λ y b q l. live-digits T ok H n y b q l)
    where
      go :
          (x ≡ 0) ⊎ (is_kid (x / 16) x ≡ true) → ((y : ℕ) (b : Place) → T y ≡ some b → y < sixteen_to n → digits_fit n y ≡ true) →
          (eqb x 0 || (leb 1 (x % 16) && (leb (x % 16) 8 && digits_fit n (x / 16)))) ≡ true
      go (inl z) ih = or_left (eqb x 0) (leb 1 (x % 16) && (leb (x % 16) 8 && digits_fit n (x / 16))) (eqb_same x 0 z)
      go (inr k) ih =
          let f = kid-facts (x / 16) x k in
          let F = parent-family T x a ok e k in
          or_right (eqb x 0) (leb 1 (x % 16) && (leb (x % 16) 8 && digits_fit n (x / 16)))
          (true_and (leb 1 (x % 16)) (leb (x % 16) 8 && digits_fit n (x / 16)) (le-leb 1 (x % 16) f.0)
          (true_and (leb (x % 16) 8) (digits_fit n (x / 16)) (le-leb (x % 16) 8 f.1) (ih (x / 16) _ F.at_out (omega (arith, lt)))))

  -- a live process has an identifier of at most 8 digits, each 1 to 8
  pub live-fits : (T : ℕ → Option Place) (x : ℕ) (a : Place) → Well program S T → HangsIn T → T x ≡ some a → digits_fit deepest x ≡ true
  live-fits T x a ok H e =
      let s = short (real program S) (depth_in program S) (depth-call program S) T ok H x a e in
      let top : depth_in program S (home_of program H.top) ≡ depth_in program S main =
      ap (depth_in program S) (H.in_main ∙ home-outer program S _ (inl refl)) in
      let d = s.deep in
      let m = main-depth program S in
      let k : s.k ≤ deepest = omega (arith, d, top, m) in
      let p = pow_more s.k deepest k in
      let b = s.below in
      live-digits T ok H deepest x a e (omega (arith, b, p))

  -- ---- kept steps
  abbrev Known : Taken → Type 0
  Known e = (e.block < length program) × (digits_fit deepest e.process ≡ true)

  abbrev AllKnown : List Taken → Type 0
  AllKnown [] = Unit {0}
  AllKnown (e ∷ h) = Known e × AllKnown h

  all_more : (h : List Taken) (e : Taken) → AllKnown h → Known e → AllKnown (h ++ e ∷ [])
  all_more [] e a k = (k, tt)
  all_more (f ∷ h) e a k = (a.0, all_more h e a.1 k)

  module _ (memory : List ℕ) (fine : Fine memory) where
    abbrev Kept-well : Configuration → List Taken → Type 0
    Kept-well c h = (Well program S c.rows × HangsIn c.rows) × AllKnown h

    known_step :
        (c c' : Configuration) (h : List Taken) (e : Taken) → Ok (real program S) c → Kept-well c h → ahead program S c e.process ≡ some (e, c') →
        Kept-well c' (h ++ e ∷ [])
    known_step c c' h e ok w st =
        let p = e.process in
        let next = keep-well (real program S) memory fine c c' h e ok w.0 st in
        let x = fired (forward (real program S)) c p e c' st in
        let sh = forward-shape (real program S) (c.rows p) (kids c.rows p) c.memory x.out x.at in
        let live = forward-ready (real program S) (c.rows p) (kids c.rows p) c.memory x.out sh in
        let mk = forward-mark (real program S) (c.rows p) (kids c.rows p) c.memory x.out sh in
        let row : c'.rows p ≡ some mk.0 =
        ap (λ (s : Configuration). s.rows p) x.is_done ∙ put_self c.rows p x.out.row x.out.kids ∙ mk.1 in
        let ex = exit-some program S mk.0 x.out.block mk.2 in
        let lt : exit_block program mk.0 < length program = standing-exit program S mk.0 (next.0.places p mk.0 row) ex.0 in
        let b : e.block ≡ x.out.block = ap (λ (z : Taken). z.block) x.is_entry in
        let lb : e.block < length program = subst (λ (k : ℕ). k < length program) (ex.1 ∙ sym b) lt in
        (next, all_more h e w.1 (lb, live-fits c.rows p live.0 w.0.0 w.0.1 live.2))

    all_known : (c : Configuration) (h : List Taken) → Replayed program S memory fine c h → AllKnown h
    all_known c h r =
        (always (real program S) memory fine Kept-well
        ((root_ok (real program S), hangs-first (real program S)), tt)
        known_step c h r).1

    known_fits : (h : List Kept) → AllKnown (map entry_of h) → each_of (kept_fits program) h ≡ true
    unfolding each_of kept_fits block_fits
    known_fits [] a = refl
    known_fits (k ∷ h) a =
        true_and (kept_fits program k) (each_of (kept_fits program) h)
        (true_and (block_fits program k) (digits_fit deepest k.identifier) (lt-ltb k.block (length program) a.0.0) a.0.1)
        (known_fits h a.1)

    pub reached-kept : (m : Machine) → Reached program S memory fine m → each_of (kept_fits program) m.history ≡ true
    reached-kept m r = known_fits m.history (all_known (configuration_of m) (map entry_of m.history) r.replayed)
