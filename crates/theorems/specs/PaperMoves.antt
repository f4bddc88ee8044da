-- 004's steps (figure 2) with a memory of words in place of the store: a leaf moves, a call forks, a call merges. They are the
-- paper's steps wherever the memory holds the store. Assumes that the image is sound.
use Rattle.std.specs.Prelude.{◌≡◌, refl, ◌⊎◌, true, false, List, ℕ, ◌<◌, length}
use Rattle.std.proofs.Common.{sym, ap, ◌∙◌, subst, inl, inr}
use Rattle.std.proofs.Math.Option.{some}
use Rattle.theory.specs.Tests.{true_false}
use Rattle.rules.specs.Format.{named}
use Rattle.rules.specs.Read.{is_call}
use Rattle.rules.specs.Labels.{block_of, called, called_by}
use Rattle.rules.specs.Machine.{begin, run, end, place, memory_words}
use Rattle.rules.specs.Leaf.{made, leaf_forward}
use Rattle.rules.specs.Paper.{Store, at, Does, ass_var, ass_arr, swap_var_var, swap_var_arr, swap_arr_var, swap_arr_arr, op_v, op_p, skip, assert, IsLeaf, with_children, configuration, Steps, inst, call_fork, call_merge}
use Rattle.rules.specs.Paper
use Rattle.rules.specs.declared.Names.{Names}
use Rattle.rules.specs.declared.Instruction.{Instruction}
use Rattle.rules.specs.declared.Entry.{Entry}
use Rattle.rules.specs.declared.Exit.{Exit}
use Rattle.rules.specs.declared.Block.{Block}
use Rattle.rules.specs.declared.Place.{Place}
use Rattle.laws.specs.Fit.{IsFrom, IsTo}
use Rattle.theorems.specs.Parts.{calls, into_of, out_of, from_label, to_label}
use Rattle.theorems.specs.Program.{Sound, call-in_image}
use Rattle.theorems.specs.Forward.{Configuration}
use Rattle.theorems.specs.PaperShown.{Holds}
use Rattle.theorems.specs.PaperLeaf.{Outside, outside-back, does_outside, leaf_made_so, made-leaf}
use Rattle.theorems.specs.PaperStore.{store_from, from-holds, from-outside, one_store}
use Rattle.theorems.specs.PaperRows.{Rows}

-- ---- the three kinds of step, of process p by block b
pub record LeafMove (program : List Block) (p b : ℕ) (s s' : Configuration) : Type 0 where
  pub here : Place
  pub next : Place
  pub alone : IsLeaf s.rows p
  pub inside : b < length program
  pub stands : s.rows p ≡ some here
  pub plain : calls program b ≡ false
  pub acts : leaf_forward s.memory here (block_of program b) ≡ made (record { stands = next; memory = s'.memory })
  pub rows : s'.rows ≡ at s.rows p (some next)

pub record ForkMove (program : List Block) (p b : ℕ) (s s' : Configuration) : Type 0 where
  pub alone : IsLeaf s.rows p
  pub call : calls program b ≡ true
  pub stands : s.rows p ≡ some (into_of program b)
  pub memory : s'.memory ≡ s.memory
  pub rows : s'.rows ≡ with_children (at s.rows p (some (out_of program b))) p begin 1 (called program b)

pub record MergeMove (program : List Block) (p b : ℕ) (s s' : Configuration) : Type 0 where
  pub alone : IsLeaf s'.rows p
  pub call : calls program b ≡ true
  pub stands : s'.rows p ≡ some (out_of program b)
  pub memory : s'.memory ≡ s.memory
  pub rows : s.rows ≡ with_children s'.rows p end 1 (called program b)

abbrev pub Moves : List Block → ℕ → ℕ → Configuration → Configuration → Type 0
Moves program p b s s' = LeafMove program p b s s' ⊎ ForkMove program p b s s' ⊎ MergeMove program p b s s'

abbrev pub state : Rows → List ℕ → Configuration
state R m = record { rows = R; memory = m }

-- ---- small facts
does_plain : {s s' : Store} {i : Instruction} → Does s i s' → is_call i ≡ false
does_plain (ass_var c x g) = refl
does_plain (ass_arr c x a e l g) = refl
does_plain (swap_var_var x y) = refl
does_plain (swap_var_arr x y a e l) = refl
does_plain (swap_arr_var x y a e l) = refl
does_plain (swap_arr_arr x y a b e l f k) = refl
does_plain (op_v x e) = refl
does_plain (op_p x e) = refl
does_plain skip = refl
does_plain (assert g n) = refl

-- a call's block, as the paper writes it
abbrev call_block : ℕ → ℕ → Names → Block
call_block from to n = record { entry = Entry.From from; instruction = Instruction.Call n; exit = Exit.To to }

from_is : (e : Entry) → IsFrom e → e ≡ Entry.From (from_label e)
from_is (Entry.From l) f = refl
from_is (Entry.Either l m e) f = absurd f
from_is (Entry.Begin l) f = absurd f

to_is : (e : Exit) → IsTo e → e ≡ Exit.To (to_label e)
to_is (Exit.To l) f = refl
to_is (Exit.Either e l m) f = absurd f
to_is (Exit.End l) f = absurd f

call-is : (i : Instruction) → is_call i ≡ true → (n : Names) × (i ≡ Instruction.Call n)
call-is (Instruction.Update change a e) c = absurd (true_false c refl)
call-is (Instruction.Exchange a b) c = absurd (true_false c refl)
call-is (Instruction.OpV x) c = absurd (true_false c refl)
call-is (Instruction.OpP x) c = absurd (true_false c refl)
call-is (Instruction.Assert e) c = absurd (true_false c refl)
call-is Instruction.Skip c = absurd (true_false c refl)
call-is (Instruction.Call n) c = (n, refl)

module _ (program : List Block) (S : Sound program) where
  pub record CallBlock (b : ℕ) : Type 0 where
    pub names : Names
    pub is : block_of program b ≡ call_block (from_label (block_of program b).entry) (to_label (block_of program b).exit) names
    pub labels : called program b ≡ named names

  call-block : (b : ℕ) → calls program b ≡ true → CallBlock b
  call-block b c =
      let fit = S.fit b (call-in_image program S b c) in
      let n = call-is (block_of program b).instruction c in
      let e = from_is (block_of program b).entry (fit.from c) in
      let x = to_is (block_of program b).exit (fit.to c) in
      let is : block_of program b ≡ call_block (from_label (block_of program b).entry) (to_label (block_of program b).exit) n.0 =
      λ i. record { entry = e i; instruction = n.1 i; exit = x i } in
      record { names = n.0; is = is; labels = ap called_by n.1 }

  -- ---- a step of the paper's, on a memory
  pub steps-move :
      {p b : ℕ} {C C' : Paper.Configuration} → Steps program p b C C' → (m : List ℕ) → Holds m C.store →
      (m' : List ℕ) × Moves program p b (state C.processes m) (state C'.processes m') × Holds m' C'.store
  steps-move {p} {b} (inst {s} {s'} {processes = R} {here} {next} alone inside stands enters does leaves) m H =
      let x = leaf_made_so (block_of program b) (S.fit b inside) m s H here enters does leaves in (
        x.0,
        inl (record {
          here = here;
          next = next;
          alone = alone;
          inside = inside;
          stands = stands;
          plain = does_plain does;
          acts = x.1;
          rows = refl;
        }),
        x.2,
      )
  steps-move {p} {b} (call_fork {s} {processes = R} from to n alone inside is stands) m H =
      let c : calls program b ≡ true = ap (λ (k : Block). is_call k.instruction) is in
      let into : into_of program b ≡ place from run = ap (λ (k : Block). place (from_label k.entry) run) is in
      let out : out_of program b ≡ place to run = ap (λ (k : Block). place (to_label k.exit) run) is in
      let ls : called program b ≡ named n = ap (λ (k : Block). called_by k.instruction) is in (
        m,
        inr (inl (record {
          alone = alone;
          call = c;
          stands = stands ∙ ap some (sym into);
          memory = refl;
          rows = λ i. with_children (at R p (some (sym out i))) p begin 1 (sym ls i);
        })),
        H,
      )
  steps-move {p} {b} (call_merge {s} {processes = R} from to n alone inside is stands) m H =
      let c : calls program b ≡ true = ap (λ (k : Block). is_call k.instruction) is in
      let out : out_of program b ≡ place to run = ap (λ (k : Block). place (to_label k.exit) run) is in
      let ls : called program b ≡ named n = ap (λ (k : Block). called_by k.instruction) is in (
        m,
        inr (inr (record {
          alone = alone;
          call = c;
          stands = stands ∙ ap some (sym out);
          memory = refl;
          rows = ap (λ (l : List ℕ). with_children R p end 1 l) (sym ls);
        })),
        H,
      )

  -- ---- and back: from a store before it
  leaf-steps :
      (p b : ℕ) (s s' : Configuration) (t : Store) (L : LeafMove program p b s s') → Holds s.memory t →
      (t' : Store) × Steps program p b (configuration t s.rows) (configuration t' s'.rows) × Holds s'.memory t' × Outside t t'
  leaf-steps p b s s' t L H =
      let fit = S.fit b L.inside in
      let x =
      made-leaf (block_of program b) fit s.memory t H L.here (record { stands = L.next; memory = s'.memory }) L.plain L.acts in (
        x.0,
        subst (λ (R : Rows). Steps program p b (configuration t s.rows) (configuration x.0 R)) (sym L.rows)
            (inst L.alone L.inside L.stands x.1 x.2 x.3),
        x.4,
        does_outside x.2 fit.instruction,
      )

  fork-steps :
      (p b : ℕ) (s s' : Configuration) (t : Store) → ForkMove program p b s s' →
      Steps program p b (configuration t s.rows) (configuration t s'.rows)
  fork-steps p b s s' t F =
      let k = call-block b F.call in
      let step =
      call_fork {s = t} {processes = s.rows} (from_label (block_of program b).entry) (to_label (block_of program b).exit) k.names F.alone
      (call-in_image program S b F.call) k.is F.stands in
      let rows : with_children (at s.rows p (some (out_of program b))) p begin 1 (named k.names) ≡ s'.rows =
      ap (λ (l : List ℕ). with_children (at s.rows p (some (out_of program b))) p begin 1 l) (sym k.labels) ∙ sym F.rows in
      subst (λ (R : Rows). Steps program p b (configuration t s.rows) (configuration t R)) rows step

  merge-steps :
      (p b : ℕ) (s s' : Configuration) (t : Store) → MergeMove program p b s s' →
      Steps program p b (configuration t s.rows) (configuration t s'.rows)
  merge-steps p b s s' t M =
      let k = call-block b M.call in
      let step =
      call_merge {s = t} {processes = s'.rows} (from_label (block_of program b).entry) (to_label (block_of program b).exit) k.names M.alone
      (call-in_image program S b M.call) k.is M.stands in
      let rows : with_children s'.rows p end 1 (named k.names) ≡ s.rows =
      ap (λ (l : List ℕ). with_children s'.rows p end 1 l) (sym k.labels) ∙ sym M.rows in
      subst (λ (R : Rows). Steps program p b (configuration t R) (configuration t s'.rows)) rows step

  pub move-steps :
      (p b : ℕ) (s s' : Configuration) (t : Store) → Moves program p b s s' → Holds s.memory t →
      (t' : Store) × Steps program p b (configuration t s.rows) (configuration t' s'.rows)
  move-steps p b s s' t (inl L) H = let x = leaf-steps p b s s' t L H in (x.0, x.1)
  move-steps p b s s' t (inr (inl F)) H = (t, fork-steps p b s s' t F)
  move-steps p b s s' t (inr (inr M)) H = (t, merge-steps p b s s' t M)

  -- and to a store after it
  pub move-steps_to :
      (p b : ℕ) (s s' : Configuration) (t' : Store) → Moves program p b s s' → length s.memory ≡ memory_words → Holds s'.memory t' →
      (t : Store) × Steps program p b (configuration t s.rows) (configuration t' s'.rows) × Holds s.memory t
  move-steps_to p b s s' t' (inl L) size H =
      let t = store_from s.memory t' in
      let held = from-holds s.memory t' size in
      let x = leaf-steps p b s s' t L held in
      let o = from-outside s.memory t' in
      let e : x.0 ≡ t' = one_store s'.memory t x.0 t' x.2 H x.3 (outside-back t' t o) in
      (t, subst (λ (z : Store). Steps program p b (configuration t s.rows) (configuration z s'.rows)) e x.1, held)
  move-steps_to p b s s' t' (inr (inl F)) size H =
      (t', fork-steps p b s s' t' F, subst (λ (m : List ℕ). Holds m t') F.memory H)
  move-steps_to p b s s' t' (inr (inr M)) size H =
      (t', merge-steps p b s s' t' M, subst (λ (m : List ℕ). Holds m t') M.memory H)
