-- The cause graph of a history, as rules lists it and as the theory speaks of it: the same nodes and the same edges.
-- Assumes nothing.
use Rattle.std.specs.Prelude.{◌≡◌, ◌⊎◌, Bool, ◌&&◌, ◌||◌, length, eqb}
use Rattle.std.proofs.Math.Path.{refl, sym, ap, subst}
use Rattle.std.proofs.Common.{◌∙◌, arith}
use Rattle.std.proofs.Math.Logic.{inl, inr}
use Rattle.std.proofs.Math.Bool.{true, false}
use mathlib.Core.List.Memᴰ
use mathlib.Core.List.{List, append-nil, append_assoc, [], ◌∷◌, ◌++◌, Memᴰ}
use Prim.Native.Nat.{ℕ, zero, suc, ◌+◌, ◌<◌, ◌≤◌}
use Rattle.std.proofs.Math.Decide.{ℕ_discrete}
use Rattle.std.proofs.Math.Dec.{ltb}
use borrow.Author.Tests.{ltb-true, lt-ltb}
use Rattle.theory.specs.Cause.{Feet, Origin, start, step, Base, fresh, push, after}
use Rattle.theory.specs.Tests.{bool_cases, true_false, eqb_same, eqb-other, and-true, true_and, or_left, or_right, or_cases}
use Rattle.theory.specs.Cause
use Rattle.rules.specs.Base.{pick, those, up_from}
use Rattle.rules.specs.Names.{heap, resources, target_names, target_resource, expression_names, entry_names, exit_names, semaphore_names, other_names, block_names, block_reads, instruction_writes, block_writes}
use Rattle.rules.specs.Labels.{block_of}
use Rattle.rules.specs.Machine.{Kept}
use Rattle.rules.specs.Cause.{reads, writes, Node, Source, start_mark, node, Edge, entries_of, node_of, last_from, last_writer, edge_of, edges_for, edges_of, nodes_from, edges_from}
use Rattle.rules.specs.declared.Target.{Target}
use Rattle.rules.specs.declared.Instruction.{Instruction}
use Rattle.rules.specs.declared.Block.{Block}

-- ---- what is written is read
target-read : (a : Target) (r : ℕ) → eqb (target_resource a) r ≡ true → target_names a r ≡ true
target-read (Target.Variable x) r h = h
target-read (Target.Cell x) r h = or_right (eqb x r) (eqb heap r) h

instruction-read : (i : Instruction) (r : ℕ) → instruction_writes i r ≡ true → (other_names i r || semaphore_names i r) ≡ true
instruction-read (Instruction.Update change a e) r h =
    or_left (target_names a r || expression_names e r) false (or_left (target_names a r) (expression_names e r) (target-read a r h))
instruction-read (Instruction.Exchange a b) r h =
    or_left (target_names a r || target_names b r) false (go (or_cases (eqb (target_resource a) r) (eqb (target_resource b) r) h))
  where
    go : (eqb (target_resource a) r ≡ true) ⊎ (eqb (target_resource b) r ≡ true) → (target_names a r || target_names b r) ≡ true
    go (inl x) = or_left (target_names a r) (target_names b r) (target-read a r x)
    go (inr x) = or_right (target_names a r) (target_names b r) (target-read b r x)
instruction-read (Instruction.OpV x) r h = h
instruction-read (Instruction.OpP x) r h = h
instruction-read (Instruction.Assert e) r h = absurd (true_false h refl)
instruction-read Instruction.Skip r h = absurd (true_false h refl)
instruction-read (Instruction.Call n) r h = absurd (true_false h refl)

-- what the instruction names, the block reads
pub instruction-reads : (b : Block) (r : ℕ) → (other_names b.instruction r || semaphore_names b.instruction r) ≡ true → block_reads b r ≡ true
unfolding block_reads block_names
instruction-reads b r h = go (or_cases (other_names b.instruction r) (semaphore_names b.instruction r) h)
  where
    go :
        (other_names b.instruction r ≡ true) ⊎ (semaphore_names b.instruction r ≡ true) →
        (block_names b r || semaphore_names b.instruction r) ≡ true
    go (inl x) =
        or_left (block_names b r) (semaphore_names b.instruction r)
        (or_right (entry_names b.entry r) (other_names b.instruction r || exit_names b.exit r)
        (or_left (other_names b.instruction r) (exit_names b.exit r) x))
    go (inr x) = or_right (block_names b r) (semaphore_names b.instruction r) x

pub written_read : (b : Block) (r : ℕ) → block_writes b r ≡ true → block_reads b r ≡ true
unfolding block_writes
written_read b r h = instruction-reads b r (instruction-read b.instruction r h)

-- ---- kept steps with their footprints
pub feet-sub :
    (program : List Block) (k : Kept) (r : ℕ) → (ltb r resources && writes program k r) ≡ true → (ltb r resources && reads program k r) ≡ true
unfolding reads writes
feet-sub program k r h =
    let x = and-true (ltb r resources) (writes program k r) h in
    true_and (ltb r resources) (reads program k r) x.0 (written_read (block_of program k.block) r x.1)

abbrev pub feet_of : List Block → Feet
feet_of program =
    record {
      Entry = Kept;
      process = λ k. k.identifier;
      reading = λ k r. ltb r resources && reads program k r;
      writing = λ k r. ltb r resources && writes program k r;
      written_read = feet-sub program;
    }

abbrev pub source_of : Origin → Source
source_of start = start_mark
source_of (step p k) = node (record { process = p; number = k })

abbrev Codes : Origin → Origin → Type 0
Codes start start = Unit {0}
Codes start (step q j) = ⊥
Codes (step p k) start = ⊥
Codes (step p k) (step q j) = (p ≡ q) × (k ≡ j)

abbrev IsMark : Source → Type 0
IsMark start_mark = Unit {0}
IsMark (node n) = ⊥

pub node-inj : (m n : Node) → node m ≡ node n → m ≡ n
node-inj m n h = cc

pub not_mark : (v : Node) → start_mark ≡ node v → ⊥
not_mark v e = subst IsMark e tt

pub source-inj : (s t : Origin) → source_of s ≡ source_of t → s ≡ t
source-inj start start h = refl
source-inj start (step q j) h = absurd (subst IsMark h tt)
source-inj (step p k) start h = absurd (subst IsMark (sym h) tt)
source-inj (step p k) (step q j) h =
    let e = node-inj (record { process = p; number = k }) (record { process = q; number = j }) h in
    λ i. step (e i).process (e i).number

-- what a base of the theory says is what the earlier steps show
pub record Shows (program : List Block) (G : Base) (earlier : List Kept) : Type 0 where
  pub counts : (p : ℕ) → G.count p ≡ entries_of p earlier
  pub last : (r : ℕ) → r < resources → source_of (G.last r) ≡ last_writer program earlier r

pub entries-more : (p : ℕ) (earlier : List Kept) (k : Kept) → entries_of p (earlier ++ k ∷ []) ≡ entries_of p earlier + pick (eqb k.identifier p) 1 0
unfolding entries_of those pick
entries-more p [] k = go (eqb k.identifier p)
  where
    go : (t : Bool) → length (pick t (k ∷ []) []) ≡ 0 + pick t 1 0
    go true = refl
    go false = refl
entries-more p (j ∷ earlier) k = go (eqb j.identifier p) (entries-more p earlier k)
  where
    T : List Kept
    T = those (λ i. eqb i.identifier p) (earlier ++ k ∷ [])

    T' : List Kept
    T' = those (λ i. eqb i.identifier p) earlier

    go :
        (t : Bool) → length T ≡ length T' + pick (eqb k.identifier p) 1 0 →
        length (pick t (j ∷ T) T) ≡ length (pick t (j ∷ T') T') + pick (eqb k.identifier p) 1 0
    go true ih = omega (arith, ih)
    go false ih = ih

last-append :
    (program : List Block) (pre : List Kept) (s : Source) (u v : List Kept) (r : ℕ) →
    last_from program pre s (u ++ v) r ≡ last_from program (pre ++ u) (last_from program pre s u r) v r
unfolding last_from
last-append program pre s [] v r = ap (λ (l : List Kept). last_from program l s v r) (sym (append-nil pre))
last-append program pre s (k ∷ u) v r =
    last-append program (pre ++ k ∷ []) (pick (writes program k r) (node (node_of pre k)) s) u v r
    ∙ ap (λ (l : List Kept). last_from program l (last_from program pre s (k ∷ u) r) v r) (append_assoc pre (k ∷ []) u)

pub last_more :
    (program : List Block) (earlier : List Kept) (k : Kept) (r : ℕ) →
    last_writer program (earlier ++ k ∷ []) r ≡ pick (writes program k r) (node (node_of earlier k)) (last_writer program earlier r)
unfolding last_writer last_from
last_more program earlier k r = last-append program [] start_mark earlier (k ∷ []) r

pick-one : (t : Bool) → t ≡ true → ◌≡◌ {A = ℕ} (pick t 1 0) 1
unfolding pick
pick-one t h = rw h

pick-zero : (t : Bool) → t ≡ false → ◌≡◌ {A = ℕ} (pick t 1 0) 0
unfolding pick
pick-zero t h = rw h

pick_first : (t : Bool) (a b : Source) → t ≡ true → pick t a b ≡ a
unfolding pick
pick_first t a b h = rw h

pick_second : (t : Bool) (a b : Source) → t ≡ false → pick t a b ≡ b
unfolding pick
pick_second t a b h = rw h

module _ (program : List Block) where
  abbrev Φ : Feet
  Φ = feet_of program

  pub shows-none : Shows program fresh []
  unfolding entries_of those last_writer last_from
  shows-none = record { counts = λ p. refl; last = λ r lt. refl }

  pub shows_more : (G : Base) (earlier : List Kept) (k : Kept) → Shows program G earlier → Shows program (push Φ G k) (earlier ++ k ∷ [])
  shows_more G earlier k S =
      record { counts = λ p. count p (ℕ_discrete p k.identifier); last = λ r lt. latest r lt (bool_cases (writes program k r)) }
    where
      count : (p : ℕ) → Dec (p ≡ k.identifier) → (push Φ G k).count p ≡ entries_of p (earlier ++ k ∷ [])
      count p (yes e) =
          let c : (push Φ G k).count p ≡ suc (G.count p) = rw (eqb_same p k.identifier e) in
          let q = pick-one (eqb k.identifier p) (eqb_same k.identifier p (sym e)) in
          let m = entries-more p earlier k in
          let s = S.counts p in
          omega (arith, c, q, m, s)
      count p (no n) =
          let c : (push Φ G k).count p ≡ G.count p = rw (eqb-other p k.identifier n) in
          let q = pick-zero (eqb k.identifier p) (eqb-other k.identifier p (λ e. n (sym e))) in
          let m = entries-more p earlier k in
          let s = S.counts p in
          omega (arith, c, q, m, s)

      latest :
          (r : ℕ) → r < resources → (writes program k r ≡ true) ⊎ (writes program k r ≡ false) →
          source_of ((push Φ G k).last r) ≡ last_writer program (earlier ++ k ∷ []) r
      latest r lt (inl w) =
          let x : (push Φ G k).last r ≡ step k.identifier (G.count k.identifier) = rw (lt-ltb r resources lt, w) in
          let c = S.counts k.identifier in
          ap source_of x ∙ (λ i. node (record { process = k.identifier; number = c i })) ∙ sym
          (last_more program earlier k r ∙ pick_first (writes program k r) (node (node_of earlier k)) (last_writer program earlier r) w)
      latest r lt (inr w) =
          let x : (push Φ G k).last r ≡ G.last r = rw (lt-ltb r resources lt, w) in
          ap source_of x ∙ S.last r lt ∙ sym
          (last_more program earlier k r ∙ pick_second (writes program k r) (node (node_of earlier k)) (last_writer program earlier r) w)

  -- ---- nodes
  abbrev pub node_at : ℕ → ℕ → Node
  node_at p k = record { process = p; number = k }

  pub node-listed :
      (G : Base) (earlier h : List Kept) (p k : ℕ) → Shows program G earlier → Cause.Node Φ G h p k → Memᴰ (node_at p k) (nodes_from earlier h)
  unfolding nodes_from
  node-listed G earlier [] p k S a = absurd a
  node-listed G earlier (j ∷ h) p k S (inl x) =
      let e : p ≡ j.identifier = x.0 in
      let c : k ≡ entries_of j.identifier earlier = x.1 ∙ S.counts p ∙ ap (λ (q : ℕ). entries_of q earlier) e in
      Memᴰ.head (λ i. record { process = e i; number = c i })
  node-listed G earlier (j ∷ h) p k S (inr y) = Memᴰ.tail (node-listed (push Φ G j) (earlier ++ j ∷ []) h p k (shows_more G earlier j S) y)

  pub listed-node :
      (G : Base) (earlier h : List Kept) (n : Node) → Shows program G earlier → Memᴰ n (nodes_from earlier h) →
      Cause.Node Φ G h n.process n.number
  unfolding nodes_from
  listed-node G earlier [] n S m = absurd (Memᴰ.not-nil m)
  listed-node G earlier (j ∷ h) n S m =
      go (Memᴰ.cases_cons m) (λ m'. listed-node (push Φ G j) (earlier ++ j ∷ []) h n (shows_more G earlier j S) m')
    where
      go :
          (n ≡ node_of earlier j) ⊎ Memᴰ n (nodes_from (earlier ++ j ∷ []) h) →
          (Memᴰ n (nodes_from (earlier ++ j ∷ []) h) → Cause.Node Φ (push Φ G j) h n.process n.number) →
          Cause.Node Φ G (j ∷ h) n.process n.number
      go (inl e) ih =
          let p : n.process ≡ j.identifier = ap (λ (v : Node). v.process) e in
          let c : n.number ≡ entries_of j.identifier earlier = ap (λ (v : Node). v.number) e in
          inl (p, c ∙ sym (S.counts j.identifier) ∙ ap (λ (q : ℕ). G.count q) (sym p))
      go (inr m') ih = inr (ih m')

  -- ---- edges
  abbrev pub edge_at : ℕ → ℕ → ℕ → Bool → Origin → Edge
  edge_at p k r w s = record { source = source_of s; resource = r; target = node_at p k; write = w }

  pub up-listed : (n a r : ℕ) → a ≤ r → r < a + n → Memᴰ r (up_from a n)
  unfolding up_from
  up-listed zero a r lo hi = absurd (omega arith)
  up-listed (suc n) a r lo hi = go (ℕ_discrete r a) (λ l. up-listed n (suc a) r l (omega arith))
    where
      go : Dec (r ≡ a) → (suc a ≤ r → Memᴰ r (up_from (suc a) n)) → Memᴰ r (a ∷ up_from (suc a) n)
      go (yes e) ih = Memᴰ.head e
      go (no d) ih = Memᴰ.tail (ih (omega (arith, d, lo)))

  pub listed-up : (n a r : ℕ) → Memᴰ r (up_from a n) → r < a + n
  unfolding up_from
  listed-up zero a r m = absurd (Memᴰ.not-nil m)
  listed-up (suc n) a r m = go (Memᴰ.cases_cons m) (λ m'. listed-up n (suc a) r m')
    where
      go : (r ≡ a) ⊎ Memᴰ r (up_from (suc a) n) → (Memᴰ r (up_from (suc a) n) → r < suc a + n) → r < a + suc n
      go (inl e) ih = omega (arith, e)
      go (inr m') ih = omega (arith, ih m')

  pub for_listed :
      (earlier : List Kept) (k : Kept) (rs : List ℕ) (r : ℕ) → Memᴰ r rs → reads program k r ≡ true →
      Memᴰ (edge_of program earlier k r) (edges_for program earlier k rs)
  unfolding edges_for pick
  for_listed earlier k [] r m h = absurd (Memᴰ.not-nil m)
  for_listed earlier k (q ∷ rs) r m h =
      go (reads program k q || writes program k q) refl (Memᴰ.cases_cons m) (λ m'. for_listed earlier k rs r m' h)
    where
      go :
          (t : Bool) → (reads program k q || writes program k q) ≡ t → (r ≡ q) ⊎ Memᴰ r rs →
          (Memᴰ r rs → Memᴰ (edge_of program earlier k r) (edges_for program earlier k rs)) →
          Memᴰ (edge_of program earlier k r) (pick t (edge_of program earlier k q ∷ edges_for program earlier k rs) (edges_for program earlier k rs))
      go true e (inl x) ih = Memᴰ.head (ap (edge_of program earlier k) x)
      go true e (inr m') ih = Memᴰ.tail (ih m')
      go false e (inl x) ih =
          absurd (true_false (or_left (reads program k q) (writes program k q) (subst (λ (z : ℕ). reads program k z ≡ true) x h)) e)
      go false e (inr m') ih = ih m'

  pub listed-for :
      (earlier : List Kept) (k : Kept) (rs : List ℕ) (e : Edge) → Memᴰ e (edges_for program earlier k rs) →
      (r : ℕ) × Memᴰ r rs × (reads program k r ≡ true) × (e ≡ edge_of program earlier k r)
  unfolding edges_for pick reads writes
  listed-for earlier k [] e m = absurd (Memᴰ.not-nil m)
  listed-for earlier k (q ∷ rs) e m = go (reads program k q || writes program k q) refl m (λ m'. listed-for earlier k rs e m')
    where
      more :
          (r : ℕ) × Memᴰ r rs × (reads program k r ≡ true) × (e ≡ edge_of program earlier k r) →
          (r : ℕ) × Memᴰ r (q ∷ rs) × (reads program k r ≡ true) × (e ≡ edge_of program earlier k r)
      more x = (x.0, Memᴰ.tail x.1, x.2, x.3)

      read : (reads program k q ≡ true) ⊎ (writes program k q ≡ true) → reads program k q ≡ true
      read (inl x) = x
      read (inr x) = written_read (block_of program k.block) q x

      here : (reads program k q || writes program k q) ≡ true → (e ≡ edge_of program earlier k q) ⊎ Memᴰ e (edges_for program earlier k rs) →
          (Memᴰ e (edges_for program earlier k rs) → (r : ℕ) × Memᴰ r rs × (reads program k r ≡ true) × (e ≡ edge_of program earlier k r)) →
          (r : ℕ) × Memᴰ r (q ∷ rs) × (reads program k r ≡ true) × (e ≡ edge_of program earlier k r)
      here t (inl x) ih = (q, Memᴰ.head refl, read (or_cases (reads program k q) (writes program k q) t), x)
      here t (inr m') ih = more (ih m')

      go :
          (t : Bool) → (reads program k q || writes program k q) ≡ t →
          Memᴰ e (pick t (edge_of program earlier k q ∷ edges_for program earlier k rs) (edges_for program earlier k rs)) →
          (Memᴰ e (edges_for program earlier k rs) → (r : ℕ) × Memᴰ r rs × (reads program k r ≡ true) × (e ≡ edge_of program earlier k r)) →
          (r : ℕ) × Memᴰ r (q ∷ rs) × (reads program k r ≡ true) × (e ≡ edge_of program earlier k r)
      go true t m ih = here t (Memᴰ.cases_cons m) ih
      go false t m ih = more (ih m)

  pub edge-listed :
      (G : Base) (earlier h : List Kept) (p k r : ℕ) (w : Bool) (s : Origin) → Shows program G earlier → Cause.Edge Φ G h p k r w s →
      Memᴰ (edge_at p k r w s) (edges_from program earlier h)
  unfolding edges_from
  edge-listed G earlier [] p k r w s S a = absurd a
  edge-listed G earlier (j ∷ h) p k r w s S (inl x) =
      let d = and-true (ltb r resources) (reads program j r) x.2 in
      let lt = ltb-true r resources d.0 in
      let e : p ≡ j.identifier = x.0 in
      let c : k ≡ entries_of j.identifier earlier = x.1 ∙ S.counts p ∙ ap (λ (q : ℕ). entries_of q earlier) e in
      let v : w ≡ writes program j r = x.3 ∙ ap (λ (t : Bool). t && writes program j r) d.0 in
      let z : source_of s ≡ last_writer program earlier r = ap source_of x.4 ∙ S.last r lt in
      let same : edge_at p k r w s ≡ edge_of program earlier j r =
      λ i. record { source = z i; resource = r; target = record { process = e i; number = c i }; write = v i } in
      Memᴰ.append_left _ (subst (λ (b : Edge). Memᴰ b (edges_of program earlier j)) (sym same)
      (for_listed earlier j (up_from 0 resources) r (up-listed resources 0 r (omega arith) (omega (arith, lt))) d.1))
  edge-listed G earlier (j ∷ h) p k r w s S (inr y) =
      Memᴰ.append_right (edges_of program earlier j) (edge-listed (push Φ G j) (earlier ++ j ∷ []) h p k r w s (shows_more G earlier j S) y)

  -- an edge of the list, with the source that the theory has for it
  abbrev pub Found : Base → List Kept → Edge → Type 0
  Found G h e = (s : Origin) × (source_of s ≡ e.source) × Cause.Edge Φ G h e.target.process e.target.number e.resource e.write s

  pub listed-edge : (G : Base) (earlier h : List Kept) (e : Edge) → Shows program G earlier → Memᴰ e (edges_from program earlier h) → Found G h e
  unfolding edges_from
  listed-edge G earlier [] e S m = absurd (Memᴰ.not-nil m)
  listed-edge G earlier (j ∷ h) e S m =
      go (Memᴰ.append_cases (edges_of program earlier j) m) (λ m'. listed-edge (push Φ G j) (earlier ++ j ∷ []) h e (shows_more G earlier j S) m')
    where
      go :
          Memᴰ e (edges_of program earlier j) ⊎ Memᴰ e (edges_from program (earlier ++ j ∷ []) h) →
          (Memᴰ e (edges_from program (earlier ++ j ∷ []) h) → Found (push Φ G j) h e) → Found G (j ∷ h) e
      go (inl m') ih =
          let x = listed-for earlier j (up_from 0 resources) e m' in
          let r = x.0 in
          let lt : r < resources = omega (arith, listed-up resources 0 r x.1) in
          let p : e.target.process ≡ j.identifier = ap (λ (v : Edge). v.target.process) x.3 in
          let c : e.target.number ≡ entries_of j.identifier earlier = ap (λ (v : Edge). v.target.number) x.3 in
          let rr : e.resource ≡ r = ap (λ (v : Edge). v.resource) x.3 in
          let w : e.write ≡ writes program j r = ap (λ (v : Edge). v.write) x.3 in
          let z : e.source ≡ last_writer program earlier r = ap (λ (v : Edge). v.source) x.3 in
          let in-range = lt-ltb r resources lt in (
            G.last r,
            S.last r lt ∙ sym z,
            inl (
              p,
              c ∙ sym (S.counts j.identifier) ∙ ap (λ (q : ℕ). G.count q) (sym p),
              subst (λ (q : ℕ). (ltb q resources && reads program j q) ≡ true) (sym rr)
                  (true_and (ltb r resources) (reads program j r) in-range x.2),
              w ∙ sym (ap (λ (t : Bool). t && writes program j r) in-range) ∙ ap (λ (q : ℕ). ltb q resources && writes program j q) (sym rr),
              ap (λ (q : ℕ). G.last q) (sym rr),
            ),
          )
      go (inr m') ih = let y = ih m' in (y.0, y.1, inr y.2)

  -- the base after a whole history
  pub shows-after : (G : Base) (earlier h : List Kept) → Shows program G earlier → Shows program (after Φ G h) (earlier ++ h)
  shows-after G earlier [] S = subst (Shows program G) (sym (append-nil earlier)) S
  shows-after G earlier (k ∷ h) S =
      subst (Shows program (after Φ (push Φ G k) h)) (append_assoc earlier (k ∷ []) h)
      (shows-after (push Φ G k) (earlier ++ k ∷ []) h (shows_more G earlier k S))
