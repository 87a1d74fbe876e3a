use Rattle.std.proofs.Common.{not}
use Rattle.std.specs.List.{count_by}
use Rattle.chain_core.proofs.Walked.{Walk}
use Rattle.chain_core.proofs.chain.path.Given as goal

-- the nodes so far lead to the present one, and each of them is marked as seen
abbrev pub invariant-loop-at : goal.invariant-loop-at
invariant-loop-at l = Walk l.next l.fn.first l.seen.items l.nodes.items l.at

abbrev pub decreases-loop-at : goal.decreases-loop-at
decreases-loop-at l = count_by not l.seen.items
