-- A node is moved past on the chain of the other side.
use Rattle.std.proofs.Common.{◌≡◌, ℕ, ◌+◌, ◌-◌, ◌<◌, ◌≤◌, ◌^◌, List, Option, Some, sym, subst, arith}
use Rattle.marked_word.specs.Link.{link_word}
use Rattle.table_shape.specs.declared.place.Place.TheVariants as place
use Rattle.atomic_step.specs.declared.step.Edge.{Edge}
use Rattle.atomic_step.specs.declared.step.Step.TheVariants as step
use Rattle.atomic_step.specs.SoundStep.{IsSoundStep}
use Rattle.call_machine.specs.declared.resize.Chain.{Chain}
use Rattle.call_machine.specs.declared.resize.Chains as pairs
use Rattle.call_machine.specs.declared.resize.Side as sides
use Rattle.call_machine.specs.Resize.{other, chain_at, edge_from}
use Rattle.call_machine.proofs.Nodes.{few_slots}
use Rattle.cht_core.specs.declared.table.Table.{Table}
use Rattle.cht_core.specs.Backs.{KeepsTable, Goes}
use Rattle.cht_core.specs.Flow.{Flow}
use Rattle.cht_core.specs.KnowsResize.{Unzipping, Over, IsOfSide, side_bucket}
use Rattle.cht_core.specs.Memory.{Memory, IsMade}
use Rattle.cht_core.specs.Past.{Past}
use Rattle.cht_core.specs.TableState.{IsTable, Words}
use Rattle.cht_core.proofs.EdgeWords.{small_edge, not_counter}
use Rattle.cht_core.proofs.MoveEdges.{moving, edge_made}
use Rattle.cht_core.proofs.MoveTable.{move_table, move_grows, move_spares}
use Rattle.cht_core.proofs.WordsKept.{words_kept}

-- the owner of the resize lock moves a node past
move_goes : (next : Option ℕ) (t : Table) (m m' : Memory) (p : Past) (f : Flow) (i : ℕ) (text : List ℕ) (b x : ℕ) (chains : pairs.Chains) (side : sides.Side) → IsTable t m p f → i < t.shape.seats
    → Unzipping m p.now f i p.now.level b chains (Some x) Over → IsOfSide p.now p.now.level x side → m (place.Link x) ≡ link_word next → (from : Edge)
    → from ≡ edge_from (p.now.level + 1) (side_bucket p.now.level b (other side)) (chain_at chains (other side)).last
    → IsSoundStep t.shape i (step.MoveEdge from next) → IsMade (step.MoveEdge from next) m m' → Goes t m p f i text (step.MoveEdge from next) m'
move_goes next t m m' p f i text b x chains side table inside unzipping of_side link from is sound made =
    subst (λ (from : Edge). IsSoundStep t.shape i (step.MoveEdge from next) → IsMade (step.MoveEdge from next) m m' → Goes t m p f i text (step.MoveEdge from next) m') (sym is) go sound made
  where
    winner : ℕ
    winner = side_bucket p.now.level b side

    loser : ℕ
    loser = side_bucket p.now.level b (other side)

    won : Chain
    won = chain_at chains side

    lost : Chain
    lost = chain_at chains (other side)

    from' : Edge
    from' = edge_from (p.now.level + 1) loser lost.last

    go : IsSoundStep t.shape i (step.MoveEdge from' next) → IsMade (step.MoveEdge from' next) m m' → Goes t m p f i text (step.MoveEdge from' next) m'
    go sound made =
        let at = moving m p.now f i b chains x side table.chains unzipping of_side in
        let e = edge_made m m' p.now f i b winner loser x won lost at.0 table.chains table.heads at.2 next link lost.last at.2.lost.last made in
        let few = few_slots t.shape table.shape in
        let counter : m' place.Counter ≡ m place.Counter = made.there place.Counter (not_counter from') in
        let before : m place.Counter ≤ 2 ^ 64 - 4 = table.words.counter in
        let words : Words t m' = words_kept t m m' i (step.MoveEdge from' next) table.words inside sound made (small_edge t.shape from' next few sound.2) (omega (arith, counter, before)) in
        record {
          told = tt;
          table = move_table t m m' p f i b winner loser x won lost at.0 _ _ _ table at.2 e.0 e.1 words;
          grows = move_grows t m m' p f i b winner loser x won lost at.0 _ _ _ table at.2 e.0 e.1;
          spares = λ k differ. move_spares t m m' p f i b winner loser x won lost at.0 _ _ _ table at.2 e.0 e.1 k differ;
          leaves = λ try. absurd try;
        }

-- the law of a move
pub move_edge_keeps : (from : Edge) (next : Option ℕ) → KeepsTable (step.MoveEdge from next)
move_edge_keeps from next t m m' p f i text table inside sound backs made =
    move_goes next t m m' p f i text backs.bucket backs.node backs.chains backs.side table inside backs.unzipping backs.of_side backs.link from backs.edge sound made
