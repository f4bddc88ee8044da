-- A forward step that rules accept is a step of 004's, and a step of 004's is one that rules accept where the history and the rows
-- have room. Assumes that the image is sound and the rows are well-formed (theory's `OkRows`), ascend and hang from the root.
use Rattle.std.specs.Prelude.{◌≡◌, refl, ◌≢◌, Bool, true, List, [], ◌∷◌, ◌++◌, ℕ, ◌+◌, ◌<◌, ◌≤◌, eqb, ltb}
use Rattle.std.proofs.Common.{sym, ap, ◌∙◌, subst, inl, inr}
use Rattle.std.proofs.Math.Path.{fun_ext}
use Rattle.std.proofs.Math.Bool.{false}
use Rattle.std.proofs.Math.Option.{Option, some}
use Rattle.std.proofs.Math.ListN.{length}
use Rattle.std.proofs.Math.Dec.{leb}
use borrow.Author.Tests.{le-ltb, lt-leb}
use Rattle.theory.specs.Tests.{eqb-other, some_inj}
use Rattle.theory.specs.Local.{Taken, Outcome, fired}
use Rattle.theory.specs.Shapes.{at_end, forward, forward-shape, Forward}
use Rattle.rules.specs.Base.{pick}
use Rattle.rules.specs.Names.{block_reads, block_writes}
use Rattle.rules.specs.Read.{is_call}
use Rattle.rules.specs.Labels.{block_of, called}
use Rattle.rules.specs.Calls.{most_rows}
use Rattle.rules.specs.Machine.{Kept, Machine, begin, end, standing, children, most_kept}
use Rattle.rules.specs.Fits.{entry_block, exit_block}
use Rattle.rules.specs.Leaf.{Tried, made, refused, Moved, leaf_forward, exit_place}
use Rattle.rules.specs.Step.{move_row, child_rows, insert_rows, remove_rows, keep, crowded, fork, merge, leaf_step, forward_childless}
use Rattle.rules.specs.Step
use Rattle.rules.specs.Paper.{Steps, configuration}
use Rattle.rules.specs.Paper
use Rattle.rules.specs.Annotation.{Annotation, Annotated, Extends, annotation_of}
use Rattle.rules.specs.declared.Block.{Block}
use Rattle.rules.specs.declared.Place.{Place}
use Rattle.laws.proofs.Lists.{pick_true, pick-false}
use Rattle.theorems.specs.Evaluate.{made_after}
use Rattle.theorems.specs.Parts.{entry_at, leaf_of, calls, out_of}
use Rattle.theorems.specs.Program.{Sound, real, leaf_made_so, entry-some, call-in_image}
use Rattle.theorems.specs.Tables.{Sorted}
use Rattle.theorems.specs.Children.{Tree, Childless, kids}
use Rattle.theorems.specs.Waiting.{kids-none, no_children, some-kids, none-wait, there-all}
use Rattle.theorems.specs.Forward.{Configuration, configuration_of, entry_of, step_of, Well, ahead, end_test, exit-to, stepped}
use Rattle.theorems.specs.PaperShown.{Holds, Shows, StepFrom}
use Rattle.theorems.specs.PaperSets.{alike_self, alike-turn, extends-alike, one-after}
use Rattle.theorems.specs.PaperGraph.{keep-extends}
use Rattle.theorems.specs.PaperRows.{Rows}
use Rattle.theorems.specs.PaperMoves.{Moves, state, steps-move, move-steps}
use Rattle.theorems.specs.PaperAhead.{move-ahead, ahead-move}

pub some_pair : (x y : Taken × Configuration) → Path (Option (Taken × Configuration)) (some x) (some y) → x ≡ y
some_pair x y h = cc

pub block-inj : (p b c : ℕ) → Path Taken (entry_of (step_of p b)) (entry_of (step_of p c)) → b ≡ c
block-inj p b c e = ap (λ (t : Taken). t.block) e

module _ (program : List Block) (S : Sound program) (m : Machine) (p : ℕ) (here : Place) (live : standing m.rows p ≡ some here)
    (sorted : Sorted m.rows) (tree : Tree (standing m.rows)) (well : Well program S (standing m.rows)) where
  abbrev R : Rows
  R = standing m.rows

  -- ---- what rules accept, 004 has
  pub forward-steps :
      (m' : Machine) → Step.forward program m p here ≡ made m' → (C : Paper.Configuration) (A : Annotation) → Shows program m C A →
      StepFrom program p C A × (length m.history < most_kept)
  forward-steps m' h C A shown =
      let s = stepped program S m p here live sorted tree well m' h in
      let st = s.0 in
      let x = ahead-move program S p (configuration_of m) tree well (entry_of (step_of p st.block)) (configuration_of m') st.moves in
      let b = x.block in
      let y = move-steps program S p b (configuration_of m) (configuration_of m') C.store x.moves shown.memory in
      let rows : R ≡ C.processes = sym (fun_ext shown.processes) in
      let G = annotation_of program m.history in
      let G' = annotation_of program (m.history ++ step_of p b ∷ []) in (
        record {
          block = b;
          configuration = configuration y.0 (standing m'.rows);
          annotation = G';
          step = record {
            steps = subst (λ (T : Rows). Steps program p b (configuration C.store T) (configuration y.0 (standing m'.rows))) rows y.1;
            extends = extends-alike G A G' G' p (block_reads (block_of program b)) (block_writes (block_of program b)) (alike-turn A G shown.history)
                (alike_self G') (keep-extends program S m.history p b);
          };
        },
        s.1,
      )

  -- ---- what the theory accepts
  abbrev pub Room : Type 0
  Room =
      Childless R p → calls program (entry_block program here) ≡ true →
      length m.rows + length (called program (entry_block program here)) ≤ most_rows

  leafed : (b : ℕ) (s : Moved) (t : Tried Moved) → t ≡ made s → (m' : Machine) × (leaf_step m p b t ≡ made m')
  unfolding leaf_step
  leafed b s t e = (record { memory = s.memory; rows = move_row m.rows p s.stands; history = keep m.history p b }, made_after t _ s e)

  forked :
      (b : ℕ) → calls program b ≡ true → length m.rows + length (called program b) ≤ most_rows →
      (m' : Machine) × (fork program m p b ≡ made m')
  unfolding fork crowded
  forked b c h = (
    record {
      memory = m.memory;
      rows = insert_rows (move_row m.rows p (out_of program b)) p (child_rows p begin 1 (called program b));
      history = keep m.history p b;
    },
    pick-false (ltb most_rows (length m.rows + length (called program b))) (refused 28) _
        (le-ltb most_rows (length m.rows + length (called program b)) h)
        ∙ made_after (exit_place m.memory (block_of program b).exit) _ (out_of program b)
        (exit-to m.memory (block_of program b).exit ((S.fit b (call-in_image program S b c)).to c)),
  )

  merged : (b : ℕ) → (m' : Machine) × (merge m p b ≡ made m')
  unfolding merge
  merged b = (record { memory = m.memory; rows = remove_rows m.rows p; history = keep m.history p b }, refl)

  pub goes_on_with :
      (e : Taken) (s' : Configuration) → ahead program S (configuration_of m) p ≡ some (e, s') → length m.history < most_kept → Room →
      (m' : Machine) × (Step.forward program m p here ≡ made m')
  unfolding Step.forward forward_childless
  goes_on_with e s' h few room =
      let x = fired (forward (real program S)) (configuration_of m) p e s' h in
      shape x.out (forward-shape (real program S) (R p) (kids R p) m.memory x.out x.at)
    where
      full : leb most_kept (length m.history) ≡ false
      full = lt-leb most_kept (length m.history) few

      passes :
          {t₁ t₂ t₃ : Bool} → (r : Tried Machine) → t₁ ≡ false → t₂ ≡ false → t₃ ≡ false →
          pick t₁ (refused 21) (pick t₂ (refused 20) (pick t₃ (refused 26) r)) ≡ r
      passes {t₁} {t₂} {t₃} r a b c =
          pick-false t₁ (refused 21) (pick t₂ (refused 20) (pick t₃ (refused 26) r)) a ∙ pick-false t₂ (refused 20) (pick t₃ (refused 26) r) b
          ∙ pick-false t₃ (refused 26) r c

      there : (a : Place) (b : ℕ) → R p ≡ some a → entry_at program a ≡ some b → (here.stage ≢ end) × (entry_block program here ≡ b)
      there a b r q = entry-some program S here b (subst (λ (z : Place). entry_at program z ≡ some b) (some_inj a here (sym r ∙ live)) q)

      acted :
          (a a' : Place) (b : ℕ) (n : List ℕ) → R p ≡ some a → leaf_of program b a m.memory ≡ some (a', n) → entry_block program here ≡ b →
          leaf_forward m.memory here (block_of program (entry_block program here)) ≡ made (record { stands = a'; memory = n })
      acted a a' b n r u q =
          ap (λ (k : ℕ). leaf_forward m.memory here (block_of program k)) q
          ∙ ap (λ (z : Place). leaf_forward m.memory z (block_of program b)) (some_inj here a (sym live ∙ r))
          ∙ (leaf_made_so program S a a' b m.memory n u).1

      shape :
          (o : Outcome Place (List ℕ)) → Forward (real program S) (R p) (kids R p) m.memory o →
          (m' : Machine) × (Step.forward program m p here ≡ made m')
      shape o (inl L) =
          let t = there L.a L.b L.row_is L.entry_is in
          let z = no_children m.rows p sorted tree (kids-none R p L.childless) in
          let y =
          leafed (entry_block program here) (record { stands = L.a'; memory = L.m' }) _
          (acted L.a L.a' L.b L.m' L.row_is L.acts t.1) in (
            y.0,
            passes _ (eqb-other here.stage end t.0) (none-wait m p end z) full
                ∙ pick_true (eqb (length (children m.rows p)) 0) _ _ z
                ∙ pick-false (is_call (block_of program (entry_block program here)).instruction) _ _ (ap (calls program) t.1 ∙ L.plain)
                ∙ y.1,
          )
      shape o (inr (inl F)) =
          let t = there F.a F.b F.row_is F.entry_is in
          let alone = kids-none R p F.childless in
          let z = no_children m.rows p sorted tree alone in
          let c : calls program (entry_block program here) ≡ true = ap (calls program) t.1 ∙ F.called in
          let y = forked (entry_block program here) c (room alone c) in (
            y.0,
            passes _ (eqb-other here.stage end t.0) (none-wait m p end z) full
                ∙ pick_true (eqb (length (children m.rows p)) 0) _ _ z
                ∙ pick_true (is_call (block_of program (entry_block program here)).instruction) _ _ c
                ∙ y.1,
          )
      shape o (inr (inr M)) =
          let t = there M.a M.b M.row_is M.entry_is in
          let y = merged (exit_block program here) in (
            y.0,
            passes _ (eqb-other here.stage end t.0)
                (there-all m p end (at_end (real program S)) (end_test program S) sorted tree M.ended) full
                ∙ pick-false (eqb (length (children m.rows p)) 0) _ _ (some-kids m.rows p M.childed)
                ∙ y.1,
          )

  -- ---- what 004 has, rules accept
  pub steps-forward :
      (C C' : Paper.Configuration) (A A' : Annotation) (b : ℕ) → Shows program m C A → Annotated program p b C A C' A' →
      length m.history < most_kept → Room → (m' : Machine) × (Step.forward program m p here ≡ made m') × Shows program m' C' A'
  steps-forward C C' A A' b shown step few room =
      let x = steps-move program S step.steps m.memory shown.memory in
      let s' = state C'.processes x.0 in
      let rows : C.processes ≡ R = fun_ext shown.processes in
      let moves : Moves program p b (configuration_of m) s' = subst (λ (T : Rows). Moves program p b (state T m.memory) s') rows x.1 in
      let on = move-ahead program S p b (configuration_of m) s' moves in
      let y = goes_on_with (entry_of (step_of p b)) s' on few room in
      let m' = y.0 in
      let st = (stepped program S m p here live sorted tree well m' y.1).0 in
      let pair = some_pair _ _ (sym on ∙ st.moves) in
      let same : s' ≡ configuration_of m' = ap (λ (z : Taken × Configuration). z.1) pair in
      let block : b ≡ st.block = block-inj p b st.block (ap (λ (z : Taken × Configuration). z.0) pair) in
      let kept : m.history ++ step_of p b ∷ [] ≡ m'.history = sym (st.kept ∙ ap (λ (c : ℕ). m.history ++ step_of p c ∷ []) (sym block)) in
      let G = annotation_of program m.history in
      let rd = block_reads (block_of program b) in
      let wr = block_writes (block_of program b) in (
        m',
        y.1,
        record {
          processes = λ q. ap (λ (z : Configuration). z.rows q) same;
          memory = subst (λ (l : List ℕ). Holds l C'.store) (ap (λ (z : Configuration). z.memory) same) x.2;
          history = one-after A G p rd wr A' (annotation_of program m'.history) step.extends
              (subst (λ (l : List Kept). Extends G p rd wr (annotation_of program l)) kept (keep-extends program S m.history p b)) shown.history;
        },
      )
