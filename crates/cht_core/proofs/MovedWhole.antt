-- A node that is moved past was whole, and is parted after it, and no other slot changes.
use Rattle.std.proofs.Common.{◌≡◌, ◌≢◌, ℕ, ◌+◌, List, ◌∷◌, Option, Some, inl, inr, refl, sym, subst, ◌∙◌}
use Rattle.chain_core.specs.Nodes.{On}
use Rattle.chain_core.proofs.Members.{on_right}
use Rattle.intern_log.specs.Now.{Now}
use Rattle.atomic_step.specs.declared.step.Edge.{Edge}
use Rattle.atomic_step.specs.declared.step.Step.TheVariants as step
use Rattle.call_machine.specs.declared.resize.Chain.{Chain}
use Rattle.call_machine.specs.declared.resize.Direction.TheVariants.{Grow}
use Rattle.call_machine.specs.declared.resize.ResizeAlong.{ResizeAlong}
use Rattle.call_machine.specs.declared.resize.Side as sides
use Rattle.call_machine.specs.declared.resize.UnzipStage.TheVariants as unzip
use Rattle.call_machine.specs.Resize.{other, chain_at, edge_from, end_of}
use Rattle.cht_core.specs.declared.table.Table.{Table}
use Rattle.cht_core.specs.Chains.{Chains}
use Rattle.cht_core.specs.Flow.{Flow}
use Rattle.cht_core.specs.KnowsResize.{Unzipping, Over, IsOfSide, side_bucket, KnowsUnzip}
use Rattle.cht_core.specs.Memory.{Memory, IsMade}
use Rattle.cht_core.specs.Past.{Past}
use Rattle.cht_core.specs.Stage.{Whole, Pending}
use Rattle.cht_core.specs.TableState.{IsTable}
use Rattle.cht_core.proofs.MoveEdges.{moving, edge_made}
use Rattle.cht_core.proofs.MoveKnows.{MoverHas, mover_has}
use Rattle.cht_core.proofs.MoveParts.{Moving, half_used}
use Rattle.cht_core.proofs.Turns.{flow_of}

-- the node is still on the chain of the other side, on which no parted slot of its own side is
was_whole : (m : Memory) (n : Now) (f : Flow) (i b winner loser x : ℕ) (won lost : Chain) (rest : List ℕ) → Chains n f → Moving m n f i b winner loser x won lost rest → f.parted x ≡ Whole
was_whole m n f i b winner loser x won lost rest chains h =
    let on : On x (f.chain (n.level + 1) loser) = subst (λ (nodes : List ℕ). On x nodes) (sym h.lost.order) (on_right h.lost.own (x ∷ rest) x (inl refl)) in
    elim (chains.sides (n.level + 1) loser x h.text h.handle h.made (half_used n f b loser h.stage h.lose) on h.at) [
      | inl whole ↦ whole
      | inr own ↦ absurd (h.two (sym h.in_half ∙ own.1))
    ]

-- the slots before and after a move of a node
abbrev pub PartsOne : Flow → Flow → ℕ → Type 0
PartsOne f f' x = (f.parted x ≡ Whole) × (f'.parted x ≡ Pending) × ((s : ℕ) → s ≢ x → f'.parted s ≡ f.parted s)

pub move_parts : (t : Table) (m m' : Memory) (p : Past) (f : Flow) (i : ℕ) (text : List ℕ) (w : ResizeAlong) (x : ℕ) (side : sides.Side) (next : Option ℕ) → IsTable t m p f
    → KnowsUnzip m p.now f i w (unzip.MoveEdge x side next) → IsMade (step.MoveEdge (end_of Grow w (other side)) next) m m'
    → PartsOne f (flow_of p f i text (step.MoveEdge (end_of Grow w (other side)) next) m) x
move_parts t m m' p f i text w x side next table knows made =
    let has : MoverHas m p.now f i w x side p.now.level = mover_has m p.now f i w x side next knows in
    from (end_of Grow w (other side)) has.2 has.0 has.1 made
  where
    from : (from : Edge) → from ≡ edge_from (p.now.level + 1) (side_bucket p.now.level w.bucket (other side)) (chain_at w.chains (other side)).last
        → Unzipping m p.now f i p.now.level w.bucket w.chains (Some x) Over → IsOfSide p.now p.now.level x side → IsMade (step.MoveEdge from next) m m'
        → PartsOne f (flow_of p f i text (step.MoveEdge from next) m) x
    from edge is unzipping of_side made = subst (λ (edge : Edge). IsMade (step.MoveEdge edge next) m m' → PartsOne f (flow_of p f i text (step.MoveEdge edge next) m) x) (sym is) (λ made.
        let at = moving m p.now f i w.bucket w.chains x side table.chains unzipping of_side in
        let e = edge_made m m' p.now f i w.bucket (side_bucket p.now.level w.bucket side) (side_bucket p.now.level w.bucket (other side)) x (chain_at w.chains side) (chain_at w.chains (other side)) at.0
        table.chains table.heads at.2 next knows.2 (chain_at w.chains (other side)).last at.2.lost.last made in (
          was_whole m p.now f i w.bucket (side_bucket p.now.level w.bucket side) (side_bucket p.now.level w.bucket (other side)) x (chain_at w.chains side) (chain_at w.chains (other side)) at.0 table.chains at.2,
          e.0.pending,
          e.0.others,
        )) made
