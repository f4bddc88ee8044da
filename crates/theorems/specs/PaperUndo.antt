-- An undo that rules accept is a step of 004's taken from its end to its beginning, and such a step is an undo that rules accept
-- where the rows have room. Assumes that the image is sound, the memory is 288 words, the rows are well-formed (theory's `OkRows`),
-- ascend and hang from the root, and the newest kept step of the process is by the block at whose exit it stands.
use Rattle.std.specs.Prelude.{◌≡◌, refl, ◌≢◌, List, ℕ}
use Rattle.std.proofs.Common.{sym, ap, ◌∙◌, subst}
use Rattle.std.proofs.Math.Path.{fun_ext}
use Rattle.std.proofs.Math.Option.{Option, none, some}
use Rattle.theory.specs.Tests.{none-some, some_inj}
use Rattle.theory.specs.Local.{Taken}
use Rattle.theory.specs.Machine.{lawful, mark, named}
use Rattle.theory.specs.Optional.{onto}
use Rattle.rules.specs.Names.{block_reads, block_writes}
use Rattle.rules.specs.Labels.{block_of}
use Rattle.rules.specs.Machine.{Kept, Machine, begin, standing}
use Rattle.rules.specs.Fits.{exit_block, newest}
use Rattle.rules.specs.Leaf.{made}
use Rattle.rules.specs.Step.{undo, close_up}
use Rattle.rules.specs.Paper.{Steps, configuration}
use Rattle.rules.specs.Paper
use Rattle.rules.specs.Annotation.{Annotation, annotation_of}
use Rattle.rules.specs.declared.Block.{Block}
use Rattle.rules.specs.declared.Place.{Place}
use Rattle.theorems.specs.Memory.{Fine}
use Rattle.theorems.specs.Parts.{exit_at}
use Rattle.theorems.specs.Program.{Sound, real, exit-some}
use Rattle.theorems.specs.Tables.{Sorted}
use Rattle.theorems.specs.Children.{Tree, Childless}
use Rattle.theorems.specs.Forward.{Configuration, configuration_of, entry_of, step_of, Well}
use Rattle.theorems.specs.Backward.{behind, unstepped, goes_back, Room}
use Rattle.theorems.specs.PaperShown.{Holds, Alike, Shows, StepTo}
use Rattle.theorems.specs.PaperStore.{memory_of, memory-holds, memory-fine, holds-one, holds-words}
use Rattle.theorems.specs.PaperSets.{alike_self, alike-turn, extends-alike}
use Rattle.theorems.specs.PaperGraph.{whole}
use Rattle.theorems.specs.PaperClose.{close_extends, undo-graph}
use Rattle.theorems.specs.PaperRows.{Rows}
use Rattle.theorems.specs.PaperMoves.{Moves, state, steps-move, move-steps_to}
use Rattle.theorems.specs.PaperBehind.{move-behind, behind-move}
use Rattle.theorems.specs.PaperForward.{some_pair, block-inj}

onto-some : (f : ℕ → Taken) (o : Option ℕ) (t : Taken) → onto f o ≡ some t → (b : ℕ) × (o ≡ some b) × (f b ≡ t)
onto-some f none t h = absurd (none-some h)
onto-some f (some b) t h = (b, refl, some_inj (f b) t h)

module _ (program : List Block) (S : Sound program) (m : Machine) (p : ℕ) (here : Place) (live : standing m.rows p ≡ some here)
    (sorted : Sorted m.rows) (tree : Tree (standing m.rows)) (well : Well program S (standing m.rows)) (fine : Fine m.memory)
    (kept : here.stage ≢ begin → newest m.history p ≡ some (exit_block program here)) where
  abbrev R : Rows
  R = standing m.rows

  -- what goes back is the newest kept step of the process
  newest-is : (b : ℕ) (t : Configuration) → behind program S (configuration_of m) p ≡ some (entry_of (step_of p b), t) → newest m.history p ≡ some b
  newest-is b t h =
      let k : mark (real program S) (configuration_of m) p ≡ some (entry_of (step_of p b)) =
      (lawful (real program S)).mark_backward (configuration_of m) t (entry_of (step_of p b)) h in
      let x =
      onto-some (λ c. entry_of (step_of p c)) (exit_at program here) (entry_of (step_of p b))
      (sym (ap (named (real program S) p) live) ∙ k) in
      let y = exit-some program S here x.0 x.1 in
      kept y.0 ∙ ap some (y.1 ∙ block-inj p x.0 b x.2)

  -- ---- what rules accept, 004 has
  pub undo-steps :
      (m' : Machine) → undo program m p here ≡ made m' → (C : Paper.Configuration) (A : Annotation) → Shows program m C A → StepTo program p C A
  undo-steps m' h C A shown =
      let u = unstepped program S m p here live sorted tree well m' h in
      let st = u.0 in
      let x = behind-move program S p (configuration_of m) fine tree well (entry_of (step_of p st.block)) (configuration_of m') st.moves in
      let b = x.block in
      let last = newest-is st.block (configuration_of m') st.moves ∙ ap some (block-inj p st.block b x.is) in
      let y = move-steps_to program S p b (configuration_of m') (configuration_of m) C.store x.moves x.earlier_fine.size shown.memory in
      let rows : R ≡ C.processes = sym (fun_ext shown.processes) in
      let earlier = close_up m.history p in
      let G = annotation_of program m.history in
      let G' = annotation_of program earlier in
      record {
        block = b;
        configuration = configuration y.0 (standing m'.rows);
        annotation = G';
        words = holds-words m'.memory y.0 x.earlier_fine y.2;
        whole = whole program earlier;
        step = record {
          steps = subst (λ (T : Rows). Steps program p b (configuration y.0 (standing m'.rows)) (configuration C.store T)) rows y.1;
          extends = extends-alike G' G' G A p (block_reads (block_of program b)) (block_writes (block_of program b)) (alike_self G')
              (alike-turn A G shown.history) (close_extends program S m.history p b last u.1);
        };
      }

  -- ---- what 004 has, rules accept
  pub steps-undo :
      (C : Paper.Configuration) (A : Annotation) → Shows program m C A → (T : StepTo program p C A) →
      (here.stage ≢ begin → Childless R p → Room program S m p here live sorted tree well) →
      (m' : Machine) × (undo program m p here ≡ made m') × Shows program m' T.configuration T.annotation
  steps-undo C A shown T room =
      let b = T.block in
      let C' = T.configuration in
      let A' = T.annotation in
      let m₀ = memory_of C'.store in
      let x = steps-move program S T.step.steps m₀ (memory-holds C'.store) in
      let t = state C'.processes m₀ in
      let rows : C.processes ≡ R = fun_ext shown.processes in
      let memory : x.0 ≡ m.memory = holds-one x.0 m.memory C.store x.2 shown.memory in
      let moves : Moves program p b t (configuration_of m) =
      subst (λ (Q : Rows). Moves program p b t (state Q m.memory)) rows
      (subst (λ (l : List ℕ). Moves program p b t (state C.processes l)) memory x.1) in
      let back = move-behind program S p b t (configuration_of m) (memory-fine C'.store T.words) moves in
      let g = undo-graph program S m.history p b A A' (newest-is b t back) shown.history T.whole T.step.extends in
      let y = goes_back program S m p here live sorted tree well (entry_of (step_of p b)) t back g.0 room in
      let m' = y.0 in
      let st = (unstepped program S m p here live sorted tree well m' y.1).0 in
      let same : t ≡ configuration_of m' = ap (λ (z : Taken × Configuration). z.1) (some_pair _ _ (sym back ∙ st.moves)) in (
        m',
        y.1,
        record {
          processes = λ q. ap (λ (z : Configuration). z.rows q) same;
          memory = subst (λ (l : List ℕ). Holds l C'.store) (ap (λ (z : Configuration). z.memory) same) (memory-holds C'.store);
          history = subst (λ (l : List Kept). Alike A' (annotation_of program l)) (sym st.closed) g.1;
        },
      )
