-- The cause graph of a history: what demand 3 is stated over. Definitions only; assumes nothing.
use Rattle.std.specs.Prelude.{◌≡◌, ◌⊎◌, ◌↔◌, Bool, true, false, cond, List, [], ◌∷◌, ℕ, zero, suc, eqb}

-- entries of a history: whose step it is, and which resources it reads and writes; what is written is read
pub record Feet : Type 1 where
  pub Entry : Type 0
  pub process : Entry → ℕ
  pub reading : Entry → ℕ → Bool
  pub writing : Entry → ℕ → Bool
  pub written_read : (e : Entry) (r : ℕ) → writing e r ≡ true → reading e r ≡ true

-- where an edge comes from: the start mark, or the step (process, number)
pub data Origin : Type 0 where
  start : Origin
  step : ℕ → ℕ → Origin

-- what a history up to some point leaves for the steps after it: how many entries each process has, and each resource's last writer
pub record Base : Type 0 where
  pub count : ℕ → ℕ
  pub last : ℕ → Origin

abbrev pub fresh : Base
fresh = record { count = λ p. zero; last = λ r. start }

module _ (Φ : Feet) where
  open Φ use {Entry, process, reading, writing}

  -- one more entry
  abbrev pub push : Base → Entry → Base
  push G e =
      record {
        count = λ q. cond (eqb q (process e)) (suc (G.count q)) (G.count q);
        last = λ r. cond (writing e r) (step (process e) (G.count (process e))) (G.last r);
      }

  abbrev pub after : Base → List Entry → Base
  after G [] = G
  after G (e ∷ t) = after (push G e) t

  -- some entry of the history, with what came before it, is as P says
  abbrev pub Any : (Base → Entry → Type 0) → Base → List Entry → Type 0
  Any P G [] = ⊥
  Any P G (e ∷ t) = P G e ⊎ Any P (push G e) t

  -- the entry is the node (p, k)
  abbrev pub NodeAt : ℕ → ℕ → Base → Entry → Type 0
  NodeAt p k G e = (p ≡ process e) × (k ≡ G.count p)

  -- the entry is the node (p, k), and has an edge for r from s: a write edge where w is true
  abbrev pub EdgeAt : ℕ → ℕ → ℕ → Bool → Origin → Base → Entry → Type 0
  EdgeAt p k r w s G e = (p ≡ process e) × (k ≡ G.count p) × (reading e r ≡ true) × (w ≡ writing e r) × (s ≡ G.last r)

  abbrev pub Node : Base → List Entry → ℕ → ℕ → Type 0
  Node G h p k = Any (NodeAt p k) G h

  abbrev pub Edge : Base → List Entry → ℕ → ℕ → ℕ → Bool → Origin → Type 0
  Edge G h p k r w s = Any (EdgeAt p k r w s) G h

  -- two graphs are equal as sets of nodes and edges
  pub record SameGraph (G : Base) (h h' : List Entry) : Type 0 where
    pub nodes : (p k : ℕ) → Node G h p k ↔ Node G h' p k
    pub edges : (p k r : ℕ) (w : Bool) (s : Origin) → Edge G h p k r w s ↔ Edge G h' p k r w s

  -- the graph lets the step (p, k) go back
  pub record Free (h : List Entry) (p k : ℕ) : Type 0 where
    pub newest : (after fresh h).count p ≡ suc k
    pub leaves : (q j r : ℕ) (w : Bool) → Edge fresh h q j r w (step p k) → ⊥
    pub reads : (r : ℕ) (s : Origin) → Edge fresh h p k r false s → s ≡ (after fresh h).last r

  -- how many earlier entries the process of e has, where u came before e
  abbrev pub number : List Entry → Entry → ℕ
  number u e = (after fresh u).count (process e)
