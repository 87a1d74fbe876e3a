use Rattle.std.proofs.Common.{true, false, Some, subst, sym, inl, inr, set, length}
use Rattle.chain_core.specs.Path.{IsPathIn, next_in}
use Rattle.chain_core.specs.Faults.{IsFaultOf}
use Rattle.chain_core.specs.declared.chain.PathFault.TheVariants.{Outside, Loop}
use Rattle.chain_core.proofs.Links.{path_in_one}
use Rattle.chain_core.proofs.Faults.{no_path_fault, fault_one}
use Rattle.chain_core.proofs.Walked.{Walk, walk_on, path_of, walk_outside, walk_met, mark_read}
use Rattle.chain_core.proofs.chain.path.Goals as goal

-- the fault at which the walk stops
outside : (c : goal.After-drop-seen) → IsFaultOf c.args.next.now c.args.first (Outside c.in-Some.node)
outside c = walk_outside c.args.next.now c.args.first c.loop-at.seen.items c.loop-at.nodes.items c.loop-at.at c.in-Some.node c.loop-at.invariant c.in-Some.is c.if-index-next.true

met : (c : goal.After-drop-seen-then-index) → IsFaultOf c.args.next.now c.args.first (Loop c.in-Some.node)
met c = walk_met c.args.next.now c.args.first c.loop-at.seen.items c.loop-at.nodes.items c.loop-at.at c.in-Some.node c.loop-at.invariant c.in-Some.is c.if-index-next.false
    (mark_read c.args.next.now c.args.first c.loop-at.seen.items c.loop-at.nodes.items c.loop-at.at c.in-Some.node c.index.result.now true c.loop-at.invariant c.if-index-next.false c.index.ensures c.if-index.true)

-- the path at whose end it stops
whole : (c : goal.After-drop-seen-2) → IsPathIn c.args.next.now c.args.first c.loop-at.nodes.items
whole c = path_of c.args.next.now c.args.first c.loop-at.seen.items c.loop-at.nodes.items c.loop-at.at c.loop-at.invariant c.in_default.is

pub returns-then-index-next-clause-fault : goal.returns-then-index-next-clause-fault
returns-then-index-next-clause-fault c = inr (outside c)

pub returns-then-index-next-clause-found : goal.returns-then-index-next-clause-found
returns-then-index-next-clause-found c nodes is = absurd (no_path_fault (next_in c.args.next.now) (length c.args.next.now) c.args.first nodes (Outside c.in-Some.node) is (outside c))

pub returns-then-index-next-clause-refused : goal.returns-then-index-next-clause-refused
returns-then-index-next-clause-refused c fault is = inl (fault_one (next_in c.args.next.now) (length c.args.next.now) c.args.first (Outside c.in-Some.node) fault (outside c) is)

pub returns-then-index-clause-fault : goal.returns-then-index-clause-fault
returns-then-index-clause-fault c = inr (met c)

pub returns-then-index-clause-found : goal.returns-then-index-clause-found
returns-then-index-clause-found c nodes is = absurd (no_path_fault (next_in c.args.next.now) (length c.args.next.now) c.args.first nodes (Loop c.in-Some.node) is (met c))

pub returns-then-index-clause-refused : goal.returns-then-index-clause-refused
returns-then-index-clause-refused c fault is = inl (fault_one (next_in c.args.next.now) (length c.args.next.now) c.args.first (Loop c.in-Some.node) fault (met c) is)

pub returns-clause-found : goal.returns-clause-found
returns-clause-found c nodes is = path_in_one c.args.next.now c.args.first nodes c.loop-at.nodes.items is (whole c)

pub returns-clause-refused : goal.returns-clause-refused
returns-clause-refused c fault is = no_path_fault (next_in c.args.next.now) (length c.args.next.now) c.args.first c.loop-at.nodes.items fault (whole c) is

pub loop-at-preserved : goal.loop-at-preserved
loop-at-preserved c =
    let at : Walk c.args.next.now c.args.first c.loop-at.seen.items c.loop-at.nodes.items (Some c.in-Some.node) = subst (Walk c.args.next.now c.args.first c.loop-at.seen.items c.loop-at.nodes.items) c.in-Some.is c.loop-at.invariant in
    let new = mark_read c.args.next.now c.args.first c.loop-at.seen.items c.loop-at.nodes.items c.loop-at.at c.in-Some.node c.index.result.now false c.loop-at.invariant c.if-index-next.false c.index.ensures c.if-index.false in
    let on = walk_on c.args.next.now c.args.first c.loop-at.seen.items c.loop-at.nodes.items c.in-Some.node at c.if-index-next.false new in
    subst (λ nodes. Walk c.args.next.now c.args.first (set c.loop-at.seen.items c.in-Some.node true) nodes (next_in c.args.next.now c.in-Some.node)) (sym c.in_ok-push.ensures.items) on
