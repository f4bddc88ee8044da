-- 004's steps on a memory (PaperMoves) are the theory's steps forward. Assumes that the image is sound and, on the way to 004, that
-- the rows are well-formed (theory's `OkRows`) and hang from the root.
use Rattle.std.specs.Prelude.{◌≡◌, refl, ◌⊎◌, ◌≢◌, true, List, ℕ, ◌+◌, ◌*◌, ◌<◌, ◌≤◌, length}
use Rattle.std.proofs.Common.{sym, ap, ◌∙◌, subst, inl, inr, arith, eqb-true}
use Rattle.std.proofs.Math.Option.{Option, none, some}
use Rattle.theory.specs.Tests.{some_inj}
use Rattle.theory.specs.Local.{Taken, Outcome, slot, slot-range, kid_of, fired, done, entry, put_self}
use Rattle.theory.specs.Shapes.{at_end, forward, result, leaf-forward, fork-forward, merge-forward, forward-shape, Forward}
use Rattle.theory.specs.Family.{put_back}
use Rattle.theory.specs.Optional.{all-at}
use Rattle.rules.specs.Base.{times}
use Rattle.rules.specs.Labels.{block_of, called, entry_labels, begin_labels}
use Rattle.rules.specs.Machine.{begin, run, end, place}
use Rattle.rules.specs.Fits.{entry_holds, entry_block}
use Rattle.rules.specs.Leaf.{Moved}
use Rattle.rules.specs.declared.Block.{Block}
use Rattle.rules.specs.declared.Place.{Place}
use Rattle.theorems.specs.Parts.{entry_at, calls, into_of, out_of}
use Rattle.theorems.specs.Sites.{entry_in, entry-block}
use Rattle.theorems.specs.Leaves.{forth-of, entry-held}
use Rattle.theorems.specs.Program.{Sound, real, some-entry, made-leaf, leaf_made_so, call_in, call-in_image, at_from}
use Rattle.theorems.specs.Children.{Tree, puts, kids}
use Rattle.theorems.specs.Waiting.{no_kids, kids-none}
use Rattle.theorems.specs.Forward.{Configuration, entry_of, step_of, Well, ahead, end_test, few-labels, fires}
use Rattle.theorems.specs.PaperRows.{Rows, at-puts, leaf-childless, childless-leaf, call_kids, with_puts, fork-puts, out-leaf, out-childless, call-kids, call-staged, family-kids}
use Rattle.theorems.specs.PaperMoves.{LeafMove, ForkMove, MergeMove, Moves, state}

pub same-state : (R R' : Rows) (m m' : List ℕ) → R ≡ R' → m ≡ m' → state R m ≡ state R' m'
same-state R R' m m' e f = λ i. record { rows = e i; memory = f i }

module _ (program : List Block) (S : Sound program) where
  pub entry_known : (a : Place) (b : ℕ) → b < length program → entry_holds (block_of program b).entry a ≡ true → entry_at program a ≡ some b
  entry_known a b lt h = some-entry program S a b (go (entry_in (block_of program b).entry a h)) (entry-block program S.passes a b lt h)
    where
      go :
          ((a.stage ≡ run) × (1 ≤ times a.label (entry_labels (block_of program b).entry)))
          ⊎ ((a.stage ≡ begin) × (1 ≤ times a.label (begin_labels (block_of program b).entry))) → a.stage ≢ end
      go (inl x) e = omega (arith, x.0, e)
      go (inr x) e = omega (arith, x.0, e)

  -- ---- from 004 to the theory
  module _ (p b : ℕ) (s s' : Configuration) where
    leaf-ahead : LeafMove program p b s s' → ahead program S s p ≡ some (entry_of (step_of p b), s')
    leaf-ahead L =
        let R = s.rows in
        let moved : Moved = record { stands = L.next; memory = s'.memory } in
        let w = forth-of s.memory L.here (block_of program b) moved L.acts in
        let e = entry_known L.here b L.inside (entry-held s.memory (block_of program b).entry L.here w.enters) in
        let f =
        leaf-forward (real program S) L.here L.next b (kids R p) s.memory s'.memory e (no_kids R p (leaf-childless R p L.alone))
        L.plain (made-leaf program S L.here b s.memory moved L.inside L.acts) in
        fires program S s p (result (real program S) b L.next (kids R p) s'.memory) (step_of p b) s'
        (ap (λ ρ. forward (real program S) ρ (kids R p) s.memory) L.stands ∙ f) refl
        (same-state (puts R p (some L.next) (kids R p)) s'.rows s'.memory s'.memory
        (sym (at-puts R p (some L.next)) ∙ sym L.rows) refl)

    fork-ahead : ForkMove program p b s s' → ahead program S s p ≡ some (entry_of (step_of p b), s')
    fork-ahead F =
        let R = s.rows in
        let lt = call-in_image program S b F.call in
        let free = leaf-childless R p F.alone in
        let e = entry_known (into_of program b) b lt (at_from (block_of program b).entry ((S.fit b lt).from F.call)) in
        let K : ℕ → Option Place = call_kids begin (called program b) in
        let f = fork-forward (real program S) (into_of program b) b (kids R p) s.memory e (no_kids R p free) F.call in
        fires program S s p (result (real program S) b (out_of program b) K s.memory) (step_of p b) s'
        (ap (λ ρ. forward (real program S) ρ (kids R p) s.memory) F.stands ∙ f) refl
        (same-state (puts R p (some (out_of program b)) K) s'.rows s.memory s'.memory
        (sym (fork-puts R p begin (out_of program b) (called program b) (few-labels program S b F.call) free) ∙ sym F.rows) (sym F.memory))

    merge-ahead : MergeMove program p b s s' → ahead program S s p ≡ some (entry_of (step_of p b), s')
    merge-ahead M =
        let R = s'.rows in
        let out = out_of program b in
        let free = leaf-childless R p M.alone in
        let K : ℕ → Option Place = call_kids end (called program b) in
        let Q : Rows = puts R p (some out) K in
        let is : s.rows ≡ Q =
        M.rows ∙ with_puts R p end (called program b) (few-labels program S b M.call) free
        ∙ ap (λ (o : Option Place). puts R p o K) M.stands in
        let f =
        merge-forward (real program S) out (entry_block program out) b (kids Q p) s.memory
        (some-entry program S out (entry_block program out) (λ e. let z : ◌≡◌ {A = ℕ} 1 2 = e in omega (arith, z)) refl)
        (call-kids program S R p b end (some out) M.call)
        (call-staged program S R p b end (some out) (at_end (real program S)) (λ l. end_test program S (place l end)))
        ((real program S).out_exit b M.call) in
        subst (λ (T : Rows). ahead program S (state T s.memory) p ≡ some (entry_of (step_of p b), s')) (sym is)
        (fires program S (state Q s.memory) p (result (real program S) b out (λ i. none) s.memory) (step_of p b) s'
        (ap (λ ρ. forward (real program S) ρ (kids Q p) s.memory) (put_self R p (some out) K) ∙ f) refl
        (same-state (puts Q p (some out) (λ i. none)) R s.memory s'.memory
        (put_back (real program S) R p (some out) (some out) K (λ i. none) M.stands (λ i k. sym (free (16 * p + i) (kid_of p i k))))
        (sym M.memory)))

    pub move-ahead : Moves program p b s s' → ahead program S s p ≡ some (entry_of (step_of p b), s')
    move-ahead (inl L) = leaf-ahead L
    move-ahead (inr (inl F)) = fork-ahead F
    move-ahead (inr (inr M)) = merge-ahead M

  -- ---- from the theory to 004
  module _ (p : ℕ) (s : Configuration) (tree : Tree s.rows) (well : Well program S s.rows) where
    abbrev R : Rows
    R = s.rows

    pub record Moved-to (e : Taken) (s' : Configuration) : Type 0 where
      pub block : ℕ
      pub is : e ≡ entry_of (step_of p block)
      pub moves : Moves program p block s s'

    shape :
        (o : Outcome Place (List ℕ)) → Forward (real program S) (R p) (kids R p) s.memory o → Moved-to (entry p o) (done s p o)
    shape o (inl L) =
        let a = L.a in
        let y = leaf_made_so program S a L.a' L.b s.memory L.m' L.acts in
        subst (λ (z : Outcome Place (List ℕ)). Moved-to (entry p z) (done s p z)) (sym L.o_is)
        (record {
          block = L.b;
          is = refl;
          moves = inl
              (record {
                here = a;
                next = L.a';
                alone = childless-leaf R p tree (kids-none R p L.childless);
                inside = y.0;
                stands = L.row_is;
                plain = L.plain;
                acts = y.1;
                rows = sym (at-puts R p (some L.a'));
              });
        })
    shape o (inr (inl F)) =
        let b = F.b in
        let alone = childless-leaf R p tree (kids-none R p F.childless) in
        subst (λ (z : Outcome Place (List ℕ)). Moved-to (entry p z) (done s p z)) (sym F.o_is)
        (record {
          block = b;
          is = refl;
          moves = inr (inl
              (record {
                alone = alone;
                call = F.called;
                stands = F.row_is ∙ ap some (call_in program S F.a b F.called F.entry_is);
                memory = refl;
                rows = sym (fork-puts R p begin (out_of program b) (called program b) (few-labels program S b F.called) (leaf-childless R p alone));
              }));
        })
    shape o (inr (inr M)) =
        let a = M.a in
        let c = M.c in
        let F = well.family p M.childed in
        let at_out : a ≡ out_of program F.b = some_inj a (out_of program F.b) (sym M.row_is ∙ F.at_out) in
        let same : c ≡ F.b =
        some_inj c F.b (sym M.exit_is ∙ ap (real program S).exit_block at_out ∙ (real program S).out_exit F.b F.called) in
        let call : calls program c ≡ true = ap (calls program) same ∙ F.called in
        let T : Rows = puts R p (some a) (λ i. none) in
        let K : ℕ → Option Place = call_kids end (called program c) in
        let staged : (i : ℕ) (q : Place) → slot i ≡ true → kids R p i ≡ some q → q.stage ≡ end = λ i q k e. let g = slot-range i k in
        eqb-true q.stage end (sym (end_test program S q) ∙ all-at (at_end (real program S)) (kids R p) 8 M.ended i q g.0 g.1 e) in
        let filled : (i : ℕ) → slot i ≡ true → K i ≡ R (16 * p + i) = λ i k.
        ap (λ (z : ℕ). call_kids end (called program z) i) same ∙ family-kids program S R p end F (inr refl) staged i k in
        subst (λ (z : Outcome Place (List ℕ)). Moved-to (entry p z) (done s p z)) (sym M.o_is)
        (record {
          block = c;
          is = refl;
          moves = inr (inr
              (record {
                alone = out-leaf R p a tree;
                call = call;
                stands = put_self R p (some a) (λ i. none) ∙ ap some (at_out ∙ ap (out_of program) (sym same));
                memory = refl;
                rows = sym (with_puts T p end (called program c) (few-labels program S c call) (out-childless R p (some a))
                    ∙ ap (λ (o : Option Place). puts T p o K) (put_self R p (some a) (λ i. none))
                    ∙ put_back (real program S) R p (some a) (some a) (λ i. none) K M.row_is filled);
              }));
        })

    pub ahead-move : (e : Taken) (s' : Configuration) → ahead program S s p ≡ some (e, s') → Moved-to e s'
    ahead-move e s' h =
        let x = fired (forward (real program S)) s p e s' h in
        let y = shape x.out (forward-shape (real program S) (R p) (kids R p) s.memory x.out x.at) in
        subst (λ (z : Configuration). Moved-to e z) (sym x.is_done) (subst (λ (z : Taken). Moved-to z (done s p x.out)) (sym x.is_entry) y)
