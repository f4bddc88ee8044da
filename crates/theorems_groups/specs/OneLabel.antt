-- Code 11 in its words: `bad11` is false at a block just where its process block has exactly one begin and one end, both of one label; and
-- `home` is that label. Assumes at most 128 blocks and labels below 256, as decoding makes them.
use mathlib.Core.Path.{◌≡◌, refl, sym, ap, ap₂, ◌∙◌}
use mathlib.Core.Logic.{◌⊎◌, inl, inr}
use mathlib.Core.Bool.{Bool, true, false, not}
use mathlib.Core.List.{List, [], ◌∷◌, ◌++◌}
use Prim.Native.Nat.{ℕ, zero, suc, ◌+◌, ◌<◌, ◌≤◌}
use native.Mathlib.Nat.{add-zero, zero-add, add-suc, suc-add}
use native.Mathlib.Omega.{arith}
use native.Mathlib.Decide.{ℕ_discrete}
use lib.ListN.{length, get_or}
use lib.Dec.{eqb}
use borrow.Author.Tests.{eqb-true, eq-eqb, not-false}
use Rattle.theory.specs.Tests.{bool_cases}
use Rattle.rules.specs.Base.{pick}
use Rattle.rules.specs.Format.{most_blocks}
use Rattle.rules.specs.Labels.{block_of, begin_labels, end_labels, Joined, chain, groups, within, own_begins, own_ends, one_label, bad11, home}
use Rattle.rules.specs.declared.Block.{Block}
use Rattle.rules.specs.declared.Entry.{Entry}
use Rattle.rules.specs.declared.Exit.{Exit}
use Rattle.laws.proofs.Lists.{pick_true, pick-false}
use Rattle.theorems.specs.Homes.{one_label_is}
use Rattle.theorems_groups.specs.Definitions.{InProcessBlock, ProcessBlock}
use Rattle.groups.proofs.Joined.{Labelled, one_number, are-joined}

-- ---- lists of no element and of one
not_one : {l : ℕ} → Path (List ℕ) [] (l ∷ []) → ⊥
not_one h = let z : ◌≡◌ {A = ℕ} 0 1 = ap length h in omega arith

only_one : {k l : ℕ} → Path (List ℕ) (k ∷ []) (l ∷ []) → k ≡ l
only_one h = ap (λ (x : List ℕ). get_or x 0 0) h

none_of_two : (x y : List ℕ) → x ++ y ≡ [] → (x ≡ []) × (y ≡ [])
none_of_two [] y h = (refl, h)
none_of_two (a ∷ x) y h = absurd (let z : suc (length (x ++ y)) ≡ 0 = ap length h in omega arith)

one_of_two : (x y : List ℕ) (l : ℕ) → x ++ y ≡ l ∷ [] → ((x ≡ l ∷ []) × (y ≡ [])) ⊎ ((x ≡ []) × (y ≡ l ∷ []))
one_of_two [] y l h = inr (refl, h)
one_of_two (a ∷ x) y l h =
    let first : a ≡ l = cc in
    let rest : x ++ y ≡ [] = cc in
    let e = none_of_two x y rest in
    inl (ap₂ (λ (k : ℕ) (r : List ℕ). k ∷ r) first e.0, e.1)

picked : (t : Bool) (x : List ℕ) (l : ℕ) → pick t x [] ≡ l ∷ [] → (t ≡ true) × (x ≡ l ∷ [])
unfolding pick
picked true x l h = (refl, h)
picked false x l h = absurd (not_one h)

-- ---- the labels that stand so in a group, block by block
module _ (stands : Block → List ℕ) (gs : List ℕ) (g : ℕ) where
  -- what block c of a list adds, where block b is the first
  abbrev added : ℕ → List Block → ℕ → List ℕ
  added b program c = pick (eqb (get_or gs (b + c) 0) g) (stands (block_of program c)) []

  later : (b : ℕ) (x : Block) (program : List Block) (c : ℕ) → added b (x ∷ program) (suc c) ≡ added (suc b) program c
  later b x program c = ap (λ (k : ℕ). pick (eqb (get_or gs k 0) g) (stands (block_of program c)) []) (add-suc b c ∙ sym (suc-add b c))

  parts :
      (b : ℕ) (x : Block) (program : List Block) →
      within stands gs g b (x ∷ program) ≡ added b (x ∷ program) 0 ++ within stands gs g (suc b) program
  unfolding within
  parts b x program = ap (λ (k : ℕ). pick (eqb (get_or gs k 0) g) (stands x) [] ++ within stands gs g (suc b) program) (sym (add-zero b))

  -- no block adds a label
  abbrev None : ℕ → List Block → Type 0
  None b program = (c : ℕ) → c < length program → added b program c ≡ []

  none_within : (b : ℕ) (program : List Block) → None b program → within stands gs g b program ≡ []
  unfolding within
  none_within b [] n = refl
  none_within b (x ∷ program) n =
      parts b x program
      ∙ ap₂ (λ (k m : List ℕ). k ++ m) (n 0 (omega arith))
      (none_within (suc b) program (λ c lt. sym (later b x program c) ∙ n (suc c) (omega arith)))

  none-parts :
      (b : ℕ) (x : Block) (program : List Block) → within stands gs g b (x ∷ program) ≡ [] →
      (added b (x ∷ program) 0 ≡ []) × (within stands gs g (suc b) program ≡ [])
  none-parts b x program h = none_of_two (added b (x ∷ program) 0) (within stands gs g (suc b) program) (sym (parts b x program) ∙ h)

  within_none : (b : ℕ) (program : List Block) → within stands gs g b program ≡ [] → None b program
  within_none b [] h c lt = absurd (omega arith)
  within_none b (x ∷ program) h zero lt = (none-parts b x program h).0
  within_none b (x ∷ program) h (suc c) lt =
      later b x program c ∙ within_none (suc b) program (none-parts b x program h).1 c (omega arith)

  -- none but block `at` of the list adds a label
  abbrev NoOther : ℕ → List Block → ℕ → Type 0
  NoOther b program at = (c : ℕ) → c < length program → (c ≡ at → ⊥) → added b program c ≡ []

  one-within :
      (b : ℕ) (program : List Block) (l at : ℕ) → at < length program → added b program at ≡ l ∷ [] → NoOther b program at →
      within stands gs g b program ≡ l ∷ []
  one-within b [] l at lt e n = absurd (omega arith)
  one-within b (x ∷ program) l zero lt e n =
      parts b x program
      ∙ ap₂ (λ (k m : List ℕ). k ++ m) e
      (none_within (suc b) program (λ c h. sym (later b x program c) ∙ n (suc c) (omega arith) (λ z. omega arith)))
  one-within b (x ∷ program) l (suc at) lt e n =
      parts b x program
      ∙ ap₂ (λ (k m : List ℕ). k ++ m) (n 0 (omega arith) (λ z. omega arith))
      (one-within (suc b) program l at (omega arith) (sym (later b x program at) ∙ e)
      (λ c h ne. sym (later b x program c) ∙ n (suc c) (omega arith) (λ z. ne (omega arith))))

  -- one block adds label l, and no other adds a label
  record One (b : ℕ) (program : List Block) (l : ℕ) : Type 0 where
    at : ℕ
    inside : at < length program
    adds : added b program at ≡ l ∷ []
    others : NoOther b program at

  within-one : (b : ℕ) (program : List Block) (l : ℕ) → within stands gs g b program ≡ l ∷ [] → One b program l
  unfolding within
  within-one b [] l h = absurd (not_one h)
  within-one b (x ∷ program) l h = go (one_of_two _ _ l (sym (parts b x program) ∙ h)) (within-one (suc b) program l)
    where
      rest : List ℕ
      rest = within stands gs g (suc b) program

      first : List ℕ
      first = added b (x ∷ program) 0

      go :
          ((first ≡ l ∷ []) × (rest ≡ [])) ⊎ ((first ≡ []) × (rest ≡ l ∷ [])) →
          (rest ≡ l ∷ [] → One (suc b) program l) → One b (x ∷ program) l
      go (inl e) ih = record { at = 0; inside = omega arith; adds = e.0; others = others }
        where
          others : NoOther b (x ∷ program) 0
          others zero lt ne = absurd (ne refl)
          others (suc c) lt ne = later b x program c ∙ within_none (suc b) program e.1 c (omega arith)
      go (inr e) ih = record { at = suc o.at; inside = omega (arith, o.inside); adds = later b x program o.at ∙ o.adds; others = others }
        where
          o : One (suc b) program l
          o = ih e.1

          others : NoOther b (x ∷ program) (suc o.at)
          others zero lt ne = e.0
          others (suc c) lt ne = later b x program c ∙ o.others c (omega arith) (λ z. ne (ap suc z))

-- ---- a block's begin and its end
abbrev begins_of : Block → List ℕ
begins_of k = begin_labels k.entry

abbrev ends_of : Block → List ℕ
ends_of k = end_labels k.exit

begin-is : (e : Entry) (l : ℕ) → begin_labels e ≡ l ∷ [] → e ≡ Entry.Begin l
begin-is (Entry.From k) l h = absurd (not_one h)
begin-is (Entry.Either k m e) l h = absurd (not_one h)
begin-is (Entry.Begin k) l h = ap Entry.Begin (only_one h)

begin-short : (e : Entry) → ((l : ℕ) → begin_labels e ≡ l ∷ [] → ⊥) → begin_labels e ≡ []
begin-short (Entry.From k) n = refl
begin-short (Entry.Either k m e) n = refl
begin-short (Entry.Begin k) n = absurd (n k refl)

end_is : (e : Exit) (l : ℕ) → end_labels e ≡ l ∷ [] → e ≡ Exit.End l
end_is (Exit.To k) l h = absurd (not_one h)
end_is (Exit.Either e k m) l h = absurd (not_one h)
end_is (Exit.End k) l h = ap Exit.End (only_one h)

end_short : (e : Exit) → ((l : ℕ) → end_labels e ≡ l ∷ [] → ⊥) → end_labels e ≡ []
end_short (Exit.To k) n = refl
end_short (Exit.Either e k m) n = refl
end_short (Exit.End k) n = absurd (n k refl)

-- ---- the labels that stand so in block b's process block
module _ (program : List Block) (few : length program ≤ most_blocks) (labelled : Labelled program) where
  abbrev numbers : List ℕ
  numbers = groups program

  module _ (stands : Block → List ℕ) (b : ℕ) where
    abbrev own : List ℕ
    own = within stands numbers (get_or numbers b 0) 0 program

    -- one block of the process block has label l so, and no other has one
    record Single (l : ℕ) : Type 0 where
      block : ℕ
      belongs : InProcessBlock program b block
      has : stands (block_of program block) ≡ l ∷ []
      alone : (c m : ℕ) → InProcessBlock program b c → stands (block_of program c) ≡ m ∷ [] → c ≡ block

    -- block c has b's number
    abbrev test : ℕ → Bool
    test c = eqb (get_or numbers (0 + c) 0) (get_or numbers b 0)

    test-true : (c : ℕ) → Joined program b c → test c ≡ true
    test-true c j = eq-eqb _ _ (ap (λ (k : ℕ). get_or numbers k 0) (zero-add c) ∙ sym (one_number program few labelled j))

    true_number : (c : ℕ) → test c ≡ true → get_or numbers b 0 ≡ get_or numbers c 0
    true_number c h = sym (ap (λ (k : ℕ). get_or numbers k 0) (sym (zero-add c)) ∙ eqb-true _ _ h)

    -- a block has at most one
    module _ (short : (k : Block) → ((m : ℕ) → stands k ≡ m ∷ [] → ⊥) → stands k ≡ []) where
      single-own : (l : ℕ) → Single l → own ≡ l ∷ []
      single-own l s =
          one-within stands numbers (get_or numbers b 0) 0 program l s.block s.belongs.inside
          (pick_true (test s.block) _ _ (test-true s.block s.belongs.joined) ∙ s.has) others
        where
          -- a block of the same number is joined with b, as the one is
          met : (c : ℕ) → c < length program → test c ≡ true → InProcessBlock program b c
          met c lt h =
              let i : s.block < length program = s.belongs.inside in
              record {
                inside = lt;
                joined = chain s.belongs.joined
                    (are-joined program few labelled s.block c (omega arith) (omega arith)
                    (sym (one_number program few labelled s.belongs.joined) ∙ true_number c h));
              }

          others : NoOther stands numbers (get_or numbers b 0) 0 program s.block
          others c lt ne = go (bool_cases (test c))
            where
              go : (test c ≡ true) ⊎ (test c ≡ false) → pick (test c) (stands (block_of program c)) [] ≡ []
              go (inl h) = pick_true (test c) _ _ h ∙ short (block_of program c) (λ m e. ne (s.alone c m (met c lt h) e))
              go (inr h) = pick-false (test c) _ _ h

    own-single : b < length program → (l : ℕ) → own ≡ l ∷ [] → Single l
    own-single lt l h = record { block = o.at; belongs = belongs; has = here.1; alone = alone }
      where
        o : One stands numbers (get_or numbers b 0) 0 program l
        o = within-one stands numbers (get_or numbers b 0) 0 program l h

        here : (test o.at ≡ true) × (stands (block_of program o.at) ≡ l ∷ [])
        here = picked (test o.at) (stands (block_of program o.at)) l o.adds

        belongs : InProcessBlock program b o.at
        belongs =
            let i : o.at < length program = o.inside in
            record {
              inside = o.inside;
              joined = are-joined program few labelled b o.at (omega arith) (omega arith) (true_number o.at here.0);
            }

        alone : (c m : ℕ) → InProcessBlock program b c → stands (block_of program c) ≡ m ∷ [] → c ≡ o.at
        alone c m i e = go (ℕ_discrete c o.at)
          where
            go : Dec (c ≡ o.at) → c ≡ o.at
            go (yes q) = q
            go (no n) =
                absurd
                (not_one (sym (o.others c i.inside n) ∙ pick_true (test c) (stands (block_of program c)) [] (test-true c i.joined) ∙ e))

  -- ---- code 11
  module _ (b : ℕ) where
    begins-one : (p : ProcessBlock program b) → own_begins program b ≡ p.label ∷ []
    unfolding own_begins
    begins-one p =
        single-own begins_of b (λ k. begin-short k.entry) p.label
        record {
          block = p.opening;
          belongs = p.opening_in;
          has = ap begin_labels p.opening_begins;
          alone = λ c l i e. p.no_other_begins c l i (begin-is (block_of program c).entry l e);
        }

    ends-one : (p : ProcessBlock program b) → own_ends program b ≡ p.label ∷ []
    unfolding own_ends
    ends-one p =
        single-own ends_of b (λ k. end_short k.exit) p.label
        record {
          block = p.closing;
          belongs = p.closing_in;
          has = ap end_labels p.closing_ends;
          alone = λ c l i e. p.no_other_ends c l i (end_is (block_of program c).exit l e);
        }

    pub process-block_passes : ProcessBlock program b → bad11 program b ≡ false
    unfolding bad11
    process-block_passes p = ap not (ap₂ one_label (begins-one p) (ends-one p) ∙ eq-eqb p.label p.label refl)

    pub passes-process_block : b < length program → bad11 program b ≡ false → ProcessBlock program b
    unfolding bad11 own_begins own_ends
    passes-process_block lt h =
        let o = one_label_is (own_begins program b) (own_ends program b) (not-false _ h) in
        let first = own-single begins_of b lt o.0 o.1 in
        let last = own-single ends_of b lt o.0 o.2 in
        record {
          label = o.0;
          opening = first.block;
          opening_in = first.belongs;
          opening_begins = begin-is (block_of program first.block).entry o.0 first.has;
          no_other_begins = λ c l i e. first.alone c l i (ap begin_labels e);
          closing = last.block;
          closing_in = last.belongs;
          closing_ends = end_is (block_of program last.block).exit o.0 last.has;
          no_other_ends = λ c l i e. last.alone c l i (ap end_labels e);
        }

    pub home-label : (p : ProcessBlock program b) → home program b ≡ p.label
    unfolding home
    home-label p = ap (λ (x : List ℕ). get_or x 0 0) (begins-one p)
