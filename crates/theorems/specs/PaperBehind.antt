-- 004's steps on a memory (PaperMoves), taken from their end to their beginning, are the theory's steps back. Assumes that the image is
-- sound, the memory is 288 words and, on the way to 004, that the rows are well-formed (theory's `OkRows`) and hang from the root.
use Rattle.std.specs.Prelude.{◌≡◌, refl, true, List, ℕ, ◌+◌, ◌*◌, ◌<◌, length}
use Rattle.std.proofs.Common.{sym, ap, ◌∙◌, subst, inl, inr, eqb-true}
use Rattle.std.proofs.Math.Option.{Option, none, some}
use Rattle.theory.specs.Tests.{some_inj}
use Rattle.theory.specs.Local.{Taken, Outcome, slot, slot-range, kid_of, fire, fired, done, entry, put_self}
use Rattle.theory.specs.Shapes.{at_begin, back, result, unleaf-back, unfork-back, unmerge_back, back-shape, Backward}
use Rattle.theory.specs.Family.{put_back}
use Rattle.theory.specs.Optional.{all-at}
use Rattle.rules.specs.Labels.{block_of, called}
use Rattle.rules.specs.Machine.{begin, end, place}
use Rattle.rules.specs.Fits.{exit_holds}
use Rattle.rules.specs.Leaf.{Moved, inverse}
use Rattle.rules.specs.Paper.{at, IsLeaf}
use Rattle.rules.specs.declared.Block.{Block}
use Rattle.rules.specs.declared.Place.{Place}
use Rattle.theorems.specs.Parts.{exit_at, calls, into_of, out_of}
use Rattle.theorems.specs.Sites.{exit-holds}
use Rattle.theorems.specs.Memory.{Fine}
use Rattle.theorems.specs.Acts.{act-fine}
use Rattle.theorems.specs.Leaves.{forth-of, back-of, inverse-fair, exit-held, forward-back, back-forward}
use Rattle.theorems.specs.Program.{Sound, real, exit-some, exit-known, made-unleaf, unleaf-made, call-in_image}
use Rattle.theorems.specs.Children.{Tree, puts, kids}
use Rattle.theorems.specs.Waiting.{no_kids, kids-none}
use Rattle.theorems.specs.Stands.{to_one}
use Rattle.theorems.specs.Forward.{Configuration, entry_of, step_of, Well, begin-test, few-labels}
use Rattle.theorems.specs.Backward.{behind}
use Rattle.theorems.specs.PaperValues.{at_same}
use Rattle.theorems.specs.PaperRows.{Rows, at-puts, at_back, leaf-at, leaf-childless, childless-leaf, call_kids, with_puts, fork-puts, out-leaf, out-childless, call-kids, call-staged, family-kids}
use Rattle.theorems.specs.PaperMoves.{LeafMove, ForkMove, MergeMove, Moves, state}
use Rattle.theorems.specs.PaperAhead.{same-state}

module _ (program : List Block) (S : Sound program) where
  call_out : (a : Place) (b : ℕ) → calls program b ≡ true → exit_at program a ≡ some b → a ≡ out_of program b
  call_out a b c h =
      let lt = call-in_image program S b c in
      let e = (exit-some program S a b h).1 in
      let held : exit_holds (block_of program b).exit a ≡ true =
      subst (λ (k : ℕ). exit_holds (block_of program k).exit a ≡ true) e
      (exit-holds program S.passes a (subst (λ (k : ℕ). k < length program) (sym e) lt)) in
      to_one program S (block_of program b).exit a ((S.fit b lt).to c) held

  -- ---- from 004 to the theory: a step by b led from t to s
  module _ (p b : ℕ) (t s : Configuration) where
    back_to : (o : Outcome Place (List ℕ)) → back (real program S) (s.rows p) (kids s.rows p) s.memory ≡ some o → o.block ≡ b →
        done s p o ≡ t → behind program S s p ≡ some (entry_of (step_of p b), t)
    back_to o h e d = fire (back (real program S)) s p o h ∙ (λ i. some (entry_of (step_of p (e i)), d i))

    leaf-behind : Fine t.memory → LeafMove program p b t s → behind program S s p ≡ some (entry_of (step_of p b), t)
    leaf-behind fine L =
        let R = s.rows in
        let moved : Moved = record { stands = L.next; memory = s.memory } in
        let earlier : Moved = record { stands = L.here; memory = t.memory } in
        let w = forth-of t.memory L.here (block_of program b) moved L.acts in
        let ex = exit-known program S L.next b L.inside (exit-held s.memory (block_of program b).exit L.next w.leaves) in
        let alone : IsLeaf R p = subst (λ (T : Rows). IsLeaf T p) (sym L.rows) (leaf-at t.rows p (some L.next) L.alone) in
        let stands : R p ≡ some L.next = ap (λ (T : Rows). T p) L.rows ∙ at_same t.rows p (some L.next) p refl in
        let acts = forward-back (block_of program b) (S.fit b L.inside) t.memory L.here moved fine L.acts in
        let f =
        unleaf-back (real program S) L.next L.here b (kids R p) s.memory t.memory ex (no_kids R p (leaf-childless R p alone))
        L.plain (made-unleaf program S L.next b s.memory earlier L.inside acts) in
        back_to (result (real program S) b L.here (kids R p) t.memory)
        (ap (λ ρ. back (real program S) ρ (kids R p) s.memory) stands ∙ f) refl
        (same-state (puts R p (some L.here) (kids R p)) t.rows t.memory t.memory
        (sym (at-puts R p (some L.here)) ∙ ap (λ (T : Rows). at T p (some L.here)) L.rows
        ∙ at_back t.rows p (some L.here) (some L.next) L.stands) refl)

    merge-behind : MergeMove program p b t s → behind program S s p ≡ some (entry_of (step_of p b), t)
    merge-behind M =
        let R = s.rows in
        let out = out_of program b in
        let free = leaf-childless R p M.alone in
        let K : ℕ → Option Place = call_kids end (called program b) in
        let f = unmerge_back (real program S) out b (kids R p) s.memory ((real program S).out_exit b M.call) (no_kids R p free) M.call in
        back_to (result (real program S) b out K s.memory) (ap (λ ρ. back (real program S) ρ (kids R p) s.memory) M.stands ∙ f) refl
        (same-state (puts R p (some out) K) t.rows s.memory t.memory
        (sym (M.rows ∙ with_puts R p end (called program b) (few-labels program S b M.call) free
        ∙ ap (λ (o : Option Place). puts R p o K) M.stands)) M.memory)

  fork-behind : (p b : ℕ) (t s : Configuration) → ForkMove program p b t s → behind program S s p ≡ some (entry_of (step_of p b), t)
  fork-behind p b t s F =
      let R = t.rows in
      let out = out_of program b in
      let free = leaf-childless R p F.alone in
      let K : ℕ → Option Place = call_kids begin (called program b) in
      let Q : Rows = puts R p (some out) K in
      let is : s.rows ≡ Q = F.rows ∙ fork-puts R p begin out (called program b) (few-labels program S b F.call) free in
      let f =
      unfork-back (real program S) out b (kids Q p) s.memory ((real program S).out_exit b F.call)
      (call-kids program S R p b begin (some out) F.call)
      (call-staged program S R p b begin (some out) (at_begin (real program S)) (λ l. begin-test program S (place l begin))) in
      subst (λ (T : Rows). behind program S (state T s.memory) p ≡ some (entry_of (step_of p b), t)) (sym is)
      (back_to p b t (state Q s.memory) (result (real program S) b (into_of program b) (λ i. none) s.memory)
      (ap (λ ρ. back (real program S) ρ (kids Q p) s.memory) (put_self R p (some out) K) ∙ f) refl
      (same-state (puts Q p (some (into_of program b)) (λ i. none)) R s.memory t.memory
      (put_back (real program S) R p (some out) (some (into_of program b)) K (λ i. none) F.stands (λ i k. sym (free (16 * p + i) (kid_of p i k))))
      F.memory))

  pub move-behind :
      (p b : ℕ) (t s : Configuration) → Fine t.memory → Moves program p b t s → behind program S s p ≡ some (entry_of (step_of p b), t)
  move-behind p b t s fine (inl L) = leaf-behind p b t s fine L
  move-behind p b t s fine (inr (inl F)) = fork-behind p b t s F
  move-behind p b t s fine (inr (inr M)) = merge-behind p b t s M

  -- ---- from the theory to 004
  module _ (p : ℕ) (s : Configuration) (fine : Fine s.memory) (tree : Tree s.rows) (well : Well program S s.rows) where
    abbrev R : Rows
    R = s.rows

    pub record Moved-from (e : Taken) (t : Configuration) : Type 0 where
      pub block : ℕ
      pub is : e ≡ entry_of (step_of p block)
      pub moves : Moves program p block t s
      pub earlier_fine : Fine t.memory

    shape :
        (o : Outcome Place (List ℕ)) → Backward (real program S) (R p) (kids R p) s.memory o → Moved-from (entry p o) (done s p o)
    shape o (inl L) =
        let y = unleaf-made program S L.a L.a' L.b s.memory L.m' L.acts in
        let moved : Moved = record { stands = L.a'; memory = L.m' } in
        let i = (block_of program L.b).instruction in
        let alone = childless-leaf R p tree (kids-none R p L.childless) in
        subst (λ (z : Outcome Place (List ℕ)). Moved-from (entry p z) (done s p z)) (sym L.o_is)
        (record {
          block = L.b;
          is = refl;
          moves = inl
              (record {
                here = L.a';
                next = L.a;
                alone = subst (λ (T : Rows). IsLeaf T p) (at-puts R p (some L.a')) (leaf-at R p (some L.a') alone);
                inside = y.0;
                stands = put_self R p (some L.a') (kids R p);
                plain = L.plain;
                acts = back-forward (block_of program L.b) (S.fit L.b y.0) s.memory L.a moved fine y.1;
                rows = sym (ap (λ (T : Rows). at T p (some L.a)) (sym (at-puts R p (some L.a')))
                    ∙ at_back R p (some L.a) (some L.a') L.row_is);
              });
          earlier_fine = act-fine s.memory (inverse i) L.m' fine (inverse-fair i (S.fit L.b y.0).instruction)
              (back-of s.memory L.a (block_of program L.b) moved y.1).acts;
        })
    shape o (inr (inl U)) =
        let b = U.b in
        let alone = childless-leaf R p tree (kids-none R p U.childless) in
        let K : ℕ → Option Place = call_kids end (called program b) in
        subst (λ (z : Outcome Place (List ℕ)). Moved-from (entry p z) (done s p z)) (sym U.o_is)
        (record {
          block = b;
          is = refl;
          moves = inr (inr
              (record {
                alone = alone;
                call = U.called;
                stands = U.row_is ∙ ap some (call_out U.a b U.called U.exit_is);
                memory = refl;
                rows = sym (with_puts R p end (called program b) (few-labels program S b U.called) (leaf-childless R p alone)
                    ∙ ap (λ (o : Option Place). puts R p o K) U.row_is);
              }));
          earlier_fine = fine;
        })
    shape o (inr (inr F)) =
        let a = F.a in
        let b = F.b in
        let into = into_of program b in
        let out = out_of program b in
        let G = well.family p F.childed in
        let at_out : a ≡ out_of program G.b = some_inj a (out_of program G.b) (sym F.row_is ∙ G.at_out) in
        let same : b ≡ G.b =
        some_inj b G.b (sym F.exit_is ∙ ap (real program S).exit_block at_out ∙ (real program S).out_exit G.b G.called) in
        let call : calls program b ≡ true = ap (calls program) same ∙ G.called in
        let T : Rows = puts R p (some into) (λ i. none) in
        let K : ℕ → Option Place = call_kids begin (called program b) in
        let staged : (i : ℕ) (q : Place) → slot i ≡ true → kids R p i ≡ some q → q.stage ≡ begin = λ i q k e. let g = slot-range i k in
        eqb-true q.stage begin (sym (begin-test program S q) ∙ all-at (at_begin (real program S)) (kids R p) 8 F.begun i q g.0 g.1 e) in
        let filled : (i : ℕ) → slot i ≡ true → K i ≡ R (16 * p + i) = λ i k.
        ap (λ (z : ℕ). call_kids begin (called program z) i) same ∙ family-kids program S R p begin G (inl refl) staged i k in
        subst (λ (z : Outcome Place (List ℕ)). Moved-from (entry p z) (done s p z)) (sym F.o_is)
        (record {
          block = b;
          is = refl;
          moves = inr (inl
              (record {
                alone = out-leaf R p into tree;
                call = call;
                stands = put_self R p (some into) (λ i. none);
                memory = refl;
                rows = sym (fork-puts T p begin out (called program b) (few-labels program S b call) (out-childless R p (some into))
                    ∙ put_back (real program S) R p (some into) (some out) (λ i. none) K
                    (F.row_is ∙ ap some (at_out ∙ ap (out_of program) (sym same))) filled);
              }));
          earlier_fine = fine;
        })

    pub behind-move : (e : Taken) (t : Configuration) → behind program S s p ≡ some (e, t) → Moved-from e t
    behind-move e t h =
        let x = fired (back (real program S)) s p e t h in
        let y = shape x.out (back-shape (real program S) (R p) (kids R p) s.memory x.out x.at) in
        subst (Moved-from e) (sym x.is_done) (subst (λ (z : Taken). Moved-from z (done s p x.out)) (sym x.is_entry) y)
