-- Code 11 in document 01's words, for every decoded image: `groups` gives two blocks one number just where ordinary labels join them, over any
-- chain; a block passes code 11 just where its process block has exactly one begin and one end, both of one label; and `home` is that label.
-- Assumes that the image's numbers are bytes and that it decodes; it need not be accepted.
use Rattle.std.specs.Prelude.{◌≡◌, ◌↔◌, true, false, List, ℕ, ◌<◌, ◌≤◌, length, get_or, ltb}
use Rattle.std.proofs.Common.{arith}
use Rattle.rules.specs.Base.{each_of}
use Rattle.rules.specs.Format.{most_blocks}
use Rattle.rules.specs.Read.{got, decoded}
use Rattle.rules.specs.Labels.{Joined, groups, bad11, home}
use Rattle.rules.specs.declared.Block.{Block}
use Rattle.laws.proofs.Decoded.{fit, few}
use Rattle.laws.proofs.Lists.{each_below}
use Rattle.groups.specs.Nodes.{all_nodes}
use Rattle.groups.proofs.Joined.{Labelled, labelled-fit, joined}
use Rattle.theorems_groups.specs.Definitions.{ProcessBlock}
use Rattle.theorems_groups.specs.OneLabel.{process-block_passes, passes-process_block, home-label}

module _ (image : List ℕ) (program : List Block) (past : ℕ) (bytes : each_of (λ b. ltb b 256) image ≡ true) (decodes : decoded image ≡ got program past) where
  at_most : length program ≤ most_blocks
  at_most = few image program past decodes

  labelled : Labelled program
  labelled = labelled-fit program (fit image (each_below image 256 (omega arith) bytes) program past decodes)

  -- Two nodes, blocks or labels, have one number just where they are joined.
  pub nodes-joined : (a b : ℕ) → a < all_nodes → b < all_nodes → (get_or (groups program) a 0 ≡ get_or (groups program) b 0) ↔ Joined program a b
  nodes-joined = joined program at_most labelled

  -- So two blocks have.
  pub joined-decoded :
      (a b : ℕ) → a < length program → b < length program → (get_or (groups program) a 0 ≡ get_or (groups program) b 0) ↔ Joined program a b
  joined-decoded a b la lb = let n : length program ≤ most_blocks = at_most in nodes-joined a b (omega arith) (omega arith)

  -- Code 11 passes a block just where its process block has exactly one begin and one end, both of one label.
  pub eleven : (b : ℕ) → b < length program → (bad11 program b ≡ false) ↔ ProcessBlock program b
  eleven b lt = (passes-process_block program at_most labelled b lt, process-block_passes program at_most labelled b)

  -- The home of a block is the label of its process block.
  pub home-is : (b : ℕ) (p : ProcessBlock program b) → home program b ≡ p.label
  home-is = home-label program at_most labelled
