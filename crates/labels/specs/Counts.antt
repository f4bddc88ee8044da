-- Tables of counts, one for each label, and code 10 read off them.
use Rattle.std.specs.Prelude.{ℕ, ◌+◌, ◌≡◌, Bool, not, ◌&&◌, List, length, get_or, eqb}
use Rattle.rules.specs.Base.{times}
use Rattle.rules.specs.Format.{labels}
use Rattle.rules.specs.Labels.{entry_labels, exit_labels, begin_labels, end_labels, count, block_of, bad10}
use Rattle.rules.specs.declared.Block.{Block}
use Rattle.std.specs.List.{list_all}
use Rattle.laws.specs.Found.{found}
use Rattle.labels.specs.declared.counts.Counts.{Counts}
use Rattle.labels.specs.declared.Labelled.{Labelled}

-- each of the labels is counted besides
pub record Raised (before labels after : List ℕ) : Type 0 where
  pub size : length after ≡ length before
  pub each : (x : ℕ) → get_or after x 0 ≡ get_or before x 0 + times x labels

-- the labels that stand so in the blocks of a program
pub record Counted (stands : Block → List ℕ) (program : List Block) (a : List ℕ) : Type 0 where
  pub size : length a ≡ labels
  pub each : (x : ℕ) → get_or a x 0 ≡ count stands program x

pub record CountsOf (program : List Block) (c : Counts) : Type 0 where
  pub entries : Counted (λ b. entry_labels b.entry) program c.entries
  pub exits : Counted (λ b. exit_labels b.exit) program c.exits
  pub begins : Counted (λ b. begin_labels b.entry) program c.begins
  pub ends : Counted (λ b. end_labels b.exit) program c.ends

-- the begins alone
abbrev pub BeginsOf : List Block → List ℕ → Type 0
BeginsOf program a = Counted (λ b. begin_labels b.entry) program a

-- label l stands in one entry and one exit, and not otherwise; in one begin and one end, and not otherwise
abbrev pub ordinary_in : Counts → ℕ → Bool
ordinary_in c l = eqb (get_or c.entries l 0) 1 && (eqb (get_or c.exits l 0) 1 && (eqb (get_or c.begins l 0) 0 && eqb (get_or c.ends l 0) 0))

abbrev pub outer_in : Counts → ℕ → Bool
outer_in c l = eqb (get_or c.begins l 0) 1 && (eqb (get_or c.ends l 0) 1 && (eqb (get_or c.entries l 0) 0 && eqb (get_or c.exits l 0) 0))

-- a label of the block does not stand as it must
abbrev pub bad_by : Counts → Block → Bool
bad_by c b =
    not
    (list_all (ordinary_in c) (entry_labels b.entry)
    && (list_all (ordinary_in c) (exit_labels b.exit) && (list_all (outer_in c) (begin_labels b.entry) && list_all (outer_in c) (end_labels b.exit))))

-- what code 10 finds, and the begins that codes 12 and 13 want
pub record LabelledOf (program : List Block) (r : Labelled) : Type 0 where
  pub bad : r.bad ≡ found (λ b. bad10 program (block_of program b)) (length program)
  pub begins : BeginsOf program r.begins
