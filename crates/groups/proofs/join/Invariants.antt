-- The block is joined with the labels that are passed.
use Rattle.std.proofs.Common.{◌≡◌, length, take}
use Rattle.rules.specs.Labels.{join_labels}
use Rattle.groups.specs.Nodes.{all_nodes}
use Rattle.groups.proofs.join.Given as goal

abbrev pub invariant-loop-l : goal.invariant-loop-l
invariant-loop-l l = record { size : length l.nodes ≡ all_nodes; same : l.nodes ≡ join_labels l.initial.nodes l.b (take l.l-index l.labels) }
