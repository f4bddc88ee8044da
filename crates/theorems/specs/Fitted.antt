-- What code 17 leaves: every machine that passes it, however it came about, has well-formed rows that hang from the root in main
-- (theory's `OkRows` and `Hangs`), a process that calls has a short identifier, and no identifier but the root's ends in digit 0.
-- Fitting has the converse for reached machines. Assumes that the image is sound where the program says so.
use Rattle.std.specs.Prelude.{◌≡◌, refl, ◌⊎◌, ◌≢◌, true, ◌||◌, List, [], ◌∷◌, map, ℕ, zero, suc, ◌+◌, ◌/◌, ◌%◌, ◌<◌, ◌≤◌, length, eqb, leb}
use Rattle.std.proofs.Common.{sym, ◌∙◌, subst, inl, inr, arith, eqb-true, le-leb}
use Rattle.std.proofs.Math.Path.{ap}
use Rattle.std.proofs.Math.Option.{Option, none, some}
use Rattle.std.proofs.Math.Decide.{ℕ_discrete}
use Rattle.theory.specs.Tests.{true_false, eqb_same, eqb-other, and-true, true_and, or_cases, or_left, or_right, none-some, some_inj}
use Rattle.theory.specs.Local.{slot, is_kid, kid_of, slot-range}
use Rattle.theory.specs.Optional.{filled, some_kid, slot_of}
use Rattle.theory.specs.Shapes.{has_kids}
use Rattle.theory.specs.Family.{Family, OfLabel}
use Rattle.theory.specs.Peak.{Hangs, short}
use Rattle.rules.specs.Base.{each_of, alike, up_from}
use Rattle.rules.specs.Format.{main}
use Rattle.rules.specs.Read.{is_call}
use Rattle.rules.specs.Labels.{block_of, called}
use Rattle.rules.specs.Calls.{most_rows}
use Rattle.rules.specs.Machine.{Process, Machine, begin, root, child, parent, place, standing, children}
use Rattle.rules.specs.Fits.{entry_block, exit_block, called_at, ascending, stands_in, stands_in_some, root_in, root_fits, parent_fits, nth, child_label, own_label, own_fits, children_fit, newest_fits, row_fits, machine_fits}
use Rattle.rules.specs.declared.Block.{Block}
use Rattle.rules.specs.declared.Place.{Place}
use Rattle.laws.proofs.Lists.{pick_true, pick-false}
use Rattle.theorems.specs.Parts.{calls, out_of, label_of, home_of, Standing}
use Rattle.theorems.specs.Program.{Sound, real, home-outer, call_one, begin-standing, main-standing}
use Rattle.theorems.specs.Levels.{depth_in, depth-call, main-depth}
use Rattle.theorems.specs.Tables.{row_at, Sorted, sorted_of, standing_here, standing-past, each-standing, standing-each}
use Rattle.theorems.specs.Children.{kids, Childless}
use Rattle.theorems.specs.Room.{children-room}
use Rattle.theorems.specs.Waiting.{kids-at, children-kid, no_kids, childless-of}
use Rattle.theorems.specs.Identifiers.{pow_more}
use Rattle.theorems.specs.Fitting.{Live, nth_in}
use Rattle.theorems.specs.Stands.{stands-there, CallAt, call_at, call-here}
use Rattle.theorems.specs.Forward.{Well}

-- ---- lists
-- rows with the identifiers a, a + 1, .., n of them, have one at each
up-live :
    (rows : List Process) (a n x : ℕ) → alike (map (λ c. c.identifier) rows) (up_from a n) ≡ true → a ≤ x → x < a + n → Live (standing rows x)
unfolding alike up_from
up-live rows a zero x h lo hi = absurd (omega arith)
up-live [] a (suc n) x h lo hi = absurd (true_false h refl)
up-live (r ∷ rows) a (suc n) x h lo hi = go (ℕ_discrete r.identifier x) (λ k. up-live rows (suc a) n x t.1 k (omega arith))
  where
    t : (eqb r.identifier a ≡ true) × (alike (map (λ (c : Process). c.identifier) rows) (up_from (suc a) n) ≡ true)
    t = and-true (eqb r.identifier a) _ h

    go : Dec (r.identifier ≡ x) → (suc a ≤ x → Live (standing rows x)) → Live (standing (r ∷ rows) x)
    go (yes e) ih = (r.stands, standing_here r rows x e)
    go (no d) ih =
        let e = eqb-true r.identifier a t.0 in
        let l = ih (omega (arith, e, d, lo)) in
        (l.0, standing-past r rows x d ∙ l.1)

-- some child is there
kid-there : (f : ℕ → Option Place) (n : ℕ) → some_kid f n ≡ true → (i : ℕ) × (1 ≤ i) × (i ≤ n) × Live (f i)
kid-there f zero h = absurd (true_false h refl)
kid-there f (suc n) h = go (or_cases (filled (f (suc n))) (some_kid f n) h) (λ k. kid-there f n k)
  where
    there : (o : Option Place) → filled o ≡ true → Live o
    there none e = absurd (true_false e refl)
    there (some a) e = (a, refl)

    go :
        (filled (f (suc n)) ≡ true) ⊎ (some_kid f n ≡ true) → (some_kid f n ≡ true → (i : ℕ) × (1 ≤ i) × (i ≤ n) × Live (f i)) →
        (i : ℕ) × (1 ≤ i) × (i ≤ suc n) × Live (f i)
    go (inl e) ih = (suc n, omega arith, omega arith, there (f (suc n)) e)
    go (inr e) ih = let k = ih e in (k.0, k.1, omega (arith, k.2), k.3)

-- ---- the clauses
module _ (program : List Block) where
  -- the process block in which a place is
  some-stands : (o : Option ℕ) (a : Place) → stands_in_some program o a ≡ true → (l : ℕ) × (o ≡ some l) × (stands_in program l a ≡ true)
  some-stands none a h = absurd (true_false h refl)
  some-stands (some l) a h = (l, refl, h)

  -- the label of a child, and where its parent stands
  child-label : (o : Option Place) (i l : ℕ) → child_label program o i ≡ some l → (q : Place) × (o ≡ some q) × (nth (called_at program q) i ≡ some l)
  child-label none i l e = absurd (none-some e)
  child-label (some q) i l e = (q, refl, e)

  top-stands : (o : Option Place) → root_in program o ≡ true → (q : Place) × (o ≡ some q) × (stands_in program main q ≡ true)
  top-stands none h = absurd (true_false h refl)
  top-stands (some q) h = (q, refl, h)

  -- a process in the process block that its parent's call names
  record Own (rows : List Process) (x : ℕ) (a : Place) : Type 0 where
    label : ℕ
    label_is : own_label program rows x ≡ some label
    stands : stands_in program label a ≡ true

  -- a child that is live: where its parent stands, and which label the call there names for it
  record Child (rows : List Process) (x l : ℕ) : Type 0 where
    above : Place
    live : standing rows (parent x) ≡ some above
    named : nth (called_at program above) (x % 16) ≡ some l

  own-child : (rows : List Process) (x l : ℕ) → x ≢ 0 → own_label program rows x ≡ some l → Child rows x l
  unfolding own_label
  own-child rows x l n e =
      let f = pick-false (eqb x root) (some main) (child_label program (standing rows (parent x)) (x % 16)) (eqb-other x root n) in
      let c = child-label (standing rows (parent x)) (x % 16) l (sym f ∙ e) in
      record { above = c.0; live = c.1; named = c.2 }

  own_root : (rows : List Process) (x l : ℕ) → x ≡ 0 → own_label program rows x ≡ some l → main ≡ l
  unfolding own_label
  own_root rows x l z e =
      some_inj main l
      (sym (pick_true (eqb x root) (some main) (child_label program (standing rows (parent x)) (x % 16)) (eqb_same x root z)) ∙ e)

  module _ (m : Machine) (passed : machine_fits program m ≡ true) where
    abbrev T : ℕ → Option Place
    T = standing m.rows

    clauses :
        (ascending m.rows ≡ true) × (root_fits program m.rows ≡ true) × (each_of (row_fits program m) m.rows ≡ true)
    unfolding machine_fits
    clauses =
        let a = and-true (ascending m.rows) _ passed in
        let b = and-true (root_fits program m.rows) _ a.1 in
        let c = and-true (each_of (row_fits program m) m.rows) _ b.1 in
        (a.0, b.0, c.0)

    -- The rows of a machine that passes code 17 ascend by identifier.
    pub fitted-order : Sorted m.rows
    fitted-order = sorted_of m.rows clauses.0

    row-clauses :
        (x : ℕ) (a : Place) → T x ≡ some a → (own_fits program m.rows (row_at x a) ≡ true) × (children_fit program m.rows (row_at x a) ≡ true)
    unfolding row_fits
    row-clauses x a live =
        let r = each-standing (row_fits program m) m.rows x a clauses.2 live in
        let p = and-true (parent_fits m.rows (row_at x a)) _ r in
        let o = and-true (own_fits program m.rows (row_at x a)) _ p.1 in
        let c = and-true (children_fit program m.rows (row_at x a)) (newest_fits program m.history (row_at x a)) o.1 in
        (o.0, c.0)

    own : (x : ℕ) (a : Place) → T x ≡ some a → Own m.rows x a
    unfolding own_fits
    own x a live =
        let s = some-stands (own_label program m.rows x) a (row-clauses x a live).0 in
        record { label = s.0; label_is = s.1; stands = s.2 }

    -- No identifier of a machine that passes code 17 ends in hexadecimal digit 0, but for the root's, which is 0.
    pub no_zeroth : each_of (λ r. eqb r.identifier 0 || leb 1 (r.identifier % 16)) m.rows ≡ true
    no_zeroth = standing-each (λ r. eqb r.identifier 0 || leb 1 (r.identifier % 16)) m.rows fitted-order (λ x a e. go x a e (ℕ_discrete x 0))
      where
        go : (x : ℕ) (a : Place) → T x ≡ some a → Dec (x ≡ 0) → (eqb x 0 || leb 1 (x % 16)) ≡ true
        go x a e (yes z) = or_left (eqb x 0) (leb 1 (x % 16)) (eqb_same x 0 z)
        go x a e (no n) =
            let o = own x a e in
            let c = own-child m.rows x o.label n o.label_is in
            or_right (eqb x 0) (leb 1 (x % 16)) (le-leb 1 (x % 16) (nth_in (called_at program c.above) (x % 16) o.label c.named).0)

-- ---- a sound image
module _ (program : List Block) (S : Sound program) where
  of_label :
      (v : Option Place) (t : Option ℕ) → ((a : Place) → v ≡ some a → t ≡ some (home_of program a)) → ((l : ℕ) → t ≡ some l → Live v) →
      OfLabel (real program S) v t
  of_label none none f g = tt
  of_label none (some l) f g = let x = g l refl in absurd (none-some x.1)
  of_label (some a) none f g = absurd (none-some (f a refl))
  of_label (some a) (some l) f g = sym (some_inj l (home_of program a) (f a refl))

  module _ (m : Machine) (passed : machine_fits program m ≡ true) where
    abbrev R : ℕ → Option Place
    R = standing m.rows

    -- a live process stands in the process block of its label
    at_home : (x : ℕ) (a : Place) → R x ≡ some a → Standing program a × (own_label program m.rows x ≡ some (home_of program a))
    at_home x a live = go (ℕ_discrete x 0)
      where
        o : Own program m.rows x a
        o = own program m passed x a live

        there : Standing program (place o.label begin) → Standing program a × (own_label program m.rows x ≡ some (home_of program a))
        there st = let s = stands-there program S o.label a st o.stands in (s.0, o.label_is ∙ ap some (sym s.1))

        go : Dec (x ≡ 0) → Standing program a × (own_label program m.rows x ≡ some (home_of program a))
        go (yes z) =
            let l = own_root program m.rows x o.label z o.label_is in
            there (subst (λ (k : ℕ). Standing program (place k begin)) l (main-standing program S))
        go (no n) =
            let c = own-child program m.rows x o.label n o.label_is in
            let k = call_at program S c.above (x % 16) o.label c.named in
            there (begin-standing program S (exit_block program c.above) (x % 16) o.label k.called k.named)

    -- the call of a live child's parent
    record Named (x : ℕ) (a : Place) : Type 0 where
      above : Place
      live : R (x / 16) ≡ some above
      call : CallAt program S above (x % 16) (home_of program a)

    child-named : (x : ℕ) (a : Place) → x ≢ 0 → R x ≡ some a → Named x a
    child-named x a n e =
        let c = own-child program m.rows x (home_of program a) n (at_home x a e).1 in
        record { above = c.above; live = c.live; call = call_at program S c.above (x % 16) (home_of program a) c.named }

    kid-named :
        (p i : ℕ) (a : Place) → slot i ≡ true → R (child p i) ≡ some a → (q : Place) × (R p ≡ some q) × CallAt program S q i (home_of program a)
    kid-named p i a s e =
        let r = slot-range i s in
        let c = child-named (child p i) a (λ z. omega (arith, z, r.0)) e in
        let d : child p i / 16 ≡ p = omega (arith, r.0, r.1) in
        let k : child p i % 16 ≡ i = omega (arith, r.0, r.1) in
        (c.above, ap R (sym d) ∙ c.live, subst (λ (j : ℕ). CallAt program S c.above j (home_of program a)) k c.call)

    family : (p : ℕ) → has_kids (real program S) (kids R p) ≡ true → Family (real program S) R p
    unfolding children_fit called_at
    family p has =
        record {
          b = b;
          called = K.called;
          at_out = live ∙ ap some K.at_out;
          each = λ i s. of_label (kids R p i) (label_of program b i) (named i s) (there i s);
        }
      where
        first : (i : ℕ) × (1 ≤ i) × (i ≤ 8) × Live (kids R p i)
        first = kid-there (kids R p) 8 has

        s₁ : slot first.0 ≡ true
        s₁ = slot_of first.0 first.1 first.2

        kid : (q : Place) × (R p ≡ some q) × CallAt program S q first.0 (home_of program first.3.0)
        kid = kid-named p first.0 first.3.0 s₁ (sym (kids-at R p first.0 s₁) ∙ first.3.1)

        q : Place
        q = kid.0

        live : R p ≡ some q
        live = kid.1

        K : CallAt program S q first.0 (home_of program first.3.0)
        K = kid.2

        b : ℕ
        b = exit_block program q

        named : (i : ℕ) → slot i ≡ true → (a : Place) → kids R p i ≡ some a → label_of program b i ≡ some (home_of program a)
        named i s a e =
            let c = kid-named p i a s (sym (kids-at R p i s) ∙ e) in
            let same : c.0 ≡ q = some_inj c.0 q (sym c.1 ∙ live) in
            subst (λ (z : Place). label_of program (exit_block program z) i ≡ some (home_of program a)) same c.2.named

        there : (i : ℕ) → slot i ≡ true → (l : ℕ) → label_of program b i ≡ some l → Live (kids R p i)
        there i s l e = go (or_cases (eqb (length (children m.rows p)) 0) _ (row-clauses program m passed p q live).1)
          where
            n : (1 ≤ i) × (i ≤ length (called program b))
            n = nth_in (called program b) i l e

            go :
                (eqb (length (children m.rows p)) 0 ≡ true)
                ⊎ (alike (map (λ (c : Process). c.identifier) (children m.rows p)) (up_from (child p 1) (length (called program b))) ≡ true) →
                Live (kids R p i)
            go (inl z) = absurd (true_false has (no_kids R p (childless-of m.rows p z)))
            go (inr h) =
                let k = length (called program b) in
                let v = up-live (children m.rows p) (child p 1) k (child p i) h (omega (arith, n.0)) (omega (arith, n.1)) in
                (v.0, kids-at R p i s ∙ sym (children-kid m.rows p (child p i) (kid_of p i s)) ∙ v.1)

    tree : (x : ℕ) (a : Place) → R x ≡ some a → (x ≡ 0) ⊎ (is_kid (x / 16) x ≡ true)
    tree x a e = go (ℕ_discrete x 0)
      where
        go : Dec (x ≡ 0) → (x ≡ 0) ⊎ (is_kid (x / 16) x ≡ true)
        go (yes z) = inl z
        go (no n) =
            inr (true_and (slot (x % 16)) (eqb (x / 16) (x / 16)) (child-named x a n e).call.slotted (eqb_same (x / 16) (x / 16) refl))

    top : (q : Place) × (R root ≡ some q) × (stands_in program main q ≡ true)
    unfolding root_fits
    top = top-stands program (R root) (clauses program m passed).1

    -- The rows of every machine that passes code 17 are well-formed: each process stands at a place of the image, and one that has
    -- children stands at the exit of a call and has just that call's children, each in the process block that the call names for
    -- it. And they hang from the root, which is in main.
    pub fitted : Well program S (standing m.rows) × Hangs (real program S) (standing m.rows)
    fitted = (
      record { places = λ p a e. (at_home p a e).0; family = family },
      record {
        tree = tree;
        top = top.0;
        top_is = top.1;
        in_main =
            (stands-there program S main top.0 (main-standing program S) top.2).1
            ∙ sym (home-outer program S (place main begin) (inl refl));
      },
    )

    -- A process without children that stands at the entry or at the exit label of a call block has room for the rows of the call's
    -- children: main's peak is at most 64.
    pub fitted-room :
        (p : ℕ) (here : Place) (b : ℕ) → standing m.rows p ≡ some here → Childless (standing m.rows) p → calls program b ≡ true →
        (b ≡ entry_block program here) ⊎ (b ≡ exit_block program here) → length m.rows + length (called program b) ≤ most_rows
    fitted-room p here b live free c at =
        children-room program S m.rows (fitted-order program m passed) fitted.0 fitted.1 p here b live free c
        (sym (call-here program S here b c at))

    -- ---- identifiers of processes that call
    calls-shallow :
        (p : ℕ) (here : Place) (b : ℕ) → R p ≡ some here → calls program b ≡ true → home_of program here ≡ home_of program (out_of program b) →
        p < 268435456
    calls-shallow p here b live c h =
        let H = fitted.1 in
        let s = short (real program S) (depth_in program S) (depth-call program S) R fitted.0 H p here live in
        let one = call_one program S b c in
        let d = depth-call program S b one.0 one.1 c one.3 in
        let e : depth_in program S (home_of program here) ≡ depth_in program S (home_of program (out_of program b)) = ap (depth_in program S) h in
        let t : depth_in program S (home_of program H.top) ≡ depth_in program S main =
        ap (depth_in program S) (H.in_main ∙ home-outer program S (place main begin) (inl refl)) in
        let k = s.deep in
        let n = main-depth program S in
        let le : s.k ≤ 7 = omega (arith, k, n, t, e, d) in
        let w = pow_more s.k 7 le in
        let x = s.below in
        omega (arith, w, x)

    -- In a machine that passes code 17 a process at the entry or at the exit label of a call block is at most 7 calls deep, since
    -- main is at most 8 deep: its identifier has at most 7 hexadecimal digits, and its children's are words.
    pub shallow :
        (p : ℕ) (here : Place) (b : ℕ) → standing m.rows p ≡ some here → b < length program → is_call (block_of program b).instruction ≡ true →
        (b ≡ entry_block program here) ⊎ (b ≡ exit_block program here) → p < 268435456
    shallow p here b live lt c at = calls-shallow p here b live c (call-here program S here b c at)
