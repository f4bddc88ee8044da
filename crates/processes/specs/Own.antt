-- The begins and the ends of each group of blocks, and what is read off them: code 11 and the labels of process blocks.
use Rattle.std.specs.Prelude.{ℕ, ◌+◌, ◌≡◌, Bool, ◌&&◌, List, map, length, take, get_or, set, replicate, eqb, None, slice_get}
use Rattle.std.specs.Option.{option_eq, option_or, unwrap_or}
use Rattle.rules.specs.Base.{zeros, up_from}
use Rattle.rules.specs.Labels.{begin_labels, end_labels, within, bad11, home}
use Rattle.rules.specs.declared.Block.{Block}
use Rattle.laws.specs.Found.{found}
use Rattle.groups.specs.Nodes.{all_nodes}
use Rattle.processes.specs.declared.own.Own.{Own}
use Rattle.processes.specs.declared.tally.Tally.{Tally}
use Rattle.processes.specs.declared.Processes.{Processes}

-- nothing noted
abbrev pub blank_tally : Tally
blank_tally = record { counts = zeros all_nodes; firsts = replicate all_nodes None }

-- the labels noted in group g: so many more, and the first of them where there was none
abbrev pub noted : Tally → ℕ → List ℕ → Tally
noted t g labels =
    record {
      counts = set t.counts g (get_or t.counts g 0 + length labels);
      firsts = set t.firsts g (option_or (get_or t.firsts g None) (slice_get labels 0));
    }

-- how many labels stand so in the blocks of each group, and the first of them
pub record Tallied (stands : Block → List ℕ) (groups : List ℕ) (program : List Block) (t : Tally) : Type 0 where
  pub all_counts : length t.counts ≡ all_nodes
  pub all_firsts : length t.firsts ≡ all_nodes
  pub many : (g : ℕ) → get_or t.counts g 0 ≡ length (within stands groups g 0 program)
  pub first : (g : ℕ) → get_or t.firsts g None ≡ slice_get (within stands groups g 0 program) 0

pub record OwnOf (groups : List ℕ) (program : List Block) (o : Own) : Type 0 where
  pub begins : Tallied (λ b. begin_labels b.entry) groups program o.begins
  pub ends : Tallied (λ b. end_labels b.exit) groups program o.ends

-- group g has exactly one begin and one end, both of one label
abbrev pub one_at : Own → ℕ → Bool
one_at o g =
    eqb (get_or o.begins.counts g 0) 1
    && (eqb (get_or o.ends.counts g 0) 1 && option_eq eqb (get_or o.begins.firsts g None) (get_or o.ends.firsts g None))

-- the label of group g's first begin, or 0
abbrev pub first_begin : Own → ℕ → ℕ
first_begin o g = unwrap_or (get_or o.begins.firsts g None) 0

pub record ProcessesOf (program : List Block) (p : Processes) : Type 0 where
  pub bad : p.bad ≡ found (bad11 program) (length program)
  pub homes : take (length program) p.homes ≡ map (home program) (up_from 0 (length program))
