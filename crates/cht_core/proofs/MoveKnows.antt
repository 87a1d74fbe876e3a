-- What the mover knows once it has moved a node past.
use Rattle.std.proofs.Common.{◌≡◌, ◌≢◌, ℕ, ◌+◌, ◌^◌, ◌<◌, inl, inr, List, [], ◌∷◌, ◌++◌, Option, Some, refl, sym, ap, subst, ◌∙◌}
use Rattle.chain_core.specs.Path.{IsPath, without}
use Rattle.chain_core.proofs.Members.{on_push, once_parts}
use Rattle.marked_word.specs.Link.{link_word, node_of}
use Rattle.table_shape.specs.declared.place.Place.TheVariants as place
use Rattle.intern_log.specs.Now.{Now}
use Rattle.atomic_step.specs.declared.step.Edge.{Edge}
use Rattle.atomic_step.specs.declared.step.Step.TheVariants as step
use Rattle.call_machine.specs.declared.grace.GraceStage.TheVariants as grace
use Rattle.call_machine.specs.declared.resize.Chain.{Chain}
use Rattle.call_machine.specs.declared.resize.Chains as pairs
use Rattle.call_machine.specs.declared.resize.Direction.TheVariants.{Grow}
use Rattle.call_machine.specs.declared.resize.ResizeAlong.{ResizeAlong}
use Rattle.call_machine.specs.declared.resize.Side as sides
use Rattle.call_machine.specs.declared.resize.Side.TheVariants.{Even, Odd}
use Rattle.call_machine.specs.declared.resize.UnzipStage.TheVariants as unzip
use Rattle.call_machine.specs.Resize.{other, chain_at, edge_from, end_of, leads_to, moved}
use Rattle.cht_core.specs.declared.table.Table.{Table}
use Rattle.cht_core.specs.Flow.{Flow, flow_after}
use Rattle.cht_core.specs.KnowsResize.{Side, Unzipping, Resizing, NoHead, Grade, Over, Raising, IsOver, IsLatest, is_odd_in, IsOfSide, side_bucket, KnowsUnzip, KnowsMoved}
use Rattle.cht_core.specs.Memory.{Memory, IsMade, found, links}
use Rattle.cht_core.specs.Past.{Past}
use Rattle.cht_core.specs.Stage.{Splitting, Pending, Parted}
use Rattle.cht_core.specs.TableState.{IsTable}
use Rattle.cht_core.proofs.CalmParts.{path_kept}
use Rattle.cht_core.proofs.HeadWords.{node_of_link}
use Rattle.cht_core.proofs.MoveEdges.{side_at, moving, edge_made}
use Rattle.cht_core.proofs.MoveParts.{Moving, Moved, half_used, once_lost, once_won, past_lost}
use Rattle.cht_core.proofs.MoveTable.{Passed, flow'}
use Rattle.cht_core.proofs.UnzipSides.{passed_of, is_odd_side, side_of_node, one_more_won, one_more_lost}

append_one : (own : List ℕ) (x : ℕ) (rest : List ℕ) → own ++ x ∷ rest ≡ (own ++ x ∷ []) ++ rest
append_one [] x rest = refl
append_one (y ∷ own) x rest = ap (λ (nodes : List ℕ). y ∷ nodes) (append_one own x rest)

module _ (t : Table) (m m' : Memory) (p : Past) (f : Flow) (i b winner loser x : ℕ) (won_chain lost_chain : Chain) (rest : List ℕ) (chain : ℕ → ℕ → List ℕ) (parted : ℕ → Parted)
    (first : Option ℕ) (table : IsTable t m p f) (h : Moving m p.now f i b winner loser x won_chain lost_chain rest) (z : Moved p.now f loser x chain parted)
    (w : Passed m m' h.lost.own (p.now.level + 1) loser x (f.chain (p.now.level + 1) loser) first) where
  abbrev next_flow : Flow
  next_flow = flow' t m m' p f i b winner loser x won_chain lost_chain rest chain parted first table h z w

  over_stays : (s : ℕ) → s ≢ x → IsOver p.now f s → IsOver p.now next_flow s
  over_stays s differ over = (over.0, z.others s differ ∙ over.1, over.2, over.3)

  -- the side that loses the node
  pub side_lost : Side m' p.now next_flow i p.now.level loser (record lost_chain { first = first }) rest (Raising x)
  side_lost = record {
    own = h.lost.own;
    order = z.here ∙ ap (without x) h.lost.order ∙ past_lost m p.now f i b winner loser x won_chain lost_chain rest table.chains h;
    locked = (h.lost.locked.0, w.head);
    last = h.lost.last;
    mine = λ s on. let k = h.lost.mine s on in (
      k.0,
      k.1,
      k.2,
      k.3,
      k.4,
      inl (over_stays s
          (λ e. once_parts h.lost.own (x ∷ rest) s (once_lost m p.now f i b winner loser x won_chain lost_chain rest table.chains h) on (inl (sym e))) k.5),
    );
  }

  -- the side that it is the last of
  pub side_won : Side m' p.now next_flow i p.now.level winner (record won_chain { last = Some x }) rest (Raising x)
  side_won = record {
    own = h.won.own ++ x ∷ [];
    order = z.away (p.now.level + 1) winner (half_used p.now f b winner h.stage h.win) (λ e same. h.two same) ∙ h.won.order ∙ append_one h.won.own x rest;
    locked = (h.won.locked.0, w.heads (p.now.level + 1) winner (λ e same. h.two same) ∙ h.won.locked.1);
    last = (h.won.own, refl);
    mine = λ s on. elim (on_push h.won.own x s on) [
      | inl own ↦ (let k = h.won.mine s own in (
        k.0,
        k.1,
        k.2,
        k.3,
        k.4,
        inl (over_stays s
            (λ e. once_parts h.won.own (x ∷ rest) s (once_won m p.now f i b winner loser x won_chain lost_chain rest table.chains h) own (inl (sym e))) k.5),
      ))
      | inr same ↦ (h.text, h.handle, h.made, ap p.now.slot same ∙ h.at, h.in_half, inr (same, ap parted same ∙ z.pending))
    ];
  }

  -- their own nodes
  pub won_own : side_won.own ≡ h.won.own ++ x ∷ []
  unfolding side_won
  won_own = refl

  pub lost_own : side_lost.own ≡ h.lost.own
  unfolding side_lost
  lost_own = refl

  -- the rest is what the node leads to
  pub path_on : (next : Option ℕ) → m (place.Link x) ≡ link_word next → IsPath (links m) (Some x) (x ∷ rest) → IsPath (links m') next rest
  path_on next link path = path_kept (links m) (links m') next rest
      (λ s on. ap node_of (w.elsewhere s (λ own. once_parts h.lost.own (x ∷ rest) s (once_lost m p.now f i b winner loser x won_chain lost_chain rest table.chains h) own (inr on))))
      (subst (λ (start : Option ℕ). IsPath (links m) start rest) (ap node_of link ∙ node_of_link next) path.1)

-- both sides, as the mover names them
both_sides : (m : Memory) (n : Now) (f : Flow) (i b x : ℕ) (chains : pairs.Chains) (side : sides.Side) (next : Option ℕ) (rest done : List ℕ) (grade : Grade) → IsPath (links m) next rest
    → b < 2 ^ n.level → Resizing n f i n.level (Splitting b) NoHead → (won : Side m n f i n.level (side_bucket n.level b side) (record (chain_at chains side) { last = Some x }) rest grade)
    → (lost : Side m n f i n.level (side_bucket n.level b (other side)) (leads_to (chain_at chains (other side)) next) rest grade) → won.own ≡ passed_of n n.level b side done
    → lost.own ≡ passed_of n n.level b (other side) done → IsLatest grade done → Unzipping m n f i n.level b (moved chains x side next) next grade
both_sides m n f i b x chains Even next rest done grade path below resizing won lost won_is lost_is latest =
    record { done = done; rest = rest; path = path; even = won; odd = lost; even_is = won_is; odd_is = lost_is; latest = latest; below = below; resizing = resizing }
both_sides m n f i b x chains Odd next rest done grade path below resizing won lost won_is lost_is latest =
    record { done = done; rest = rest; path = path; even = lost; odd = won; even_is = lost_is; odd_is = won_is; latest = latest; below = below; resizing = resizing }

-- what they had passed before
owns_are : (m : Memory) (n : Now) (f : Flow) (i b x : ℕ) (chains : pairs.Chains) (side : sides.Side) (u : Unzipping m n f i n.level b chains (Some x) Over)
    → (side_at m n f i n.level b chains (Some x) Over u side).own ≡ passed_of n n.level b side u.done
owns_are m n f i b x chains Even u = u.even_is
owns_are m n f i b x chains Odd u = u.odd_is

abbrev pub MoverKnows : Option ℕ → Memory → Memory → Past → Flow → ℕ → List ℕ → ℕ → ℕ → pairs.Chains → sides.Side → Edge → Type 0
MoverKnows next m m' p f i text b x chains side from =
    Unzipping m' p.now (flow_after p.now f i text (step.MoveEdge from next) (found (step.MoveEdge from next) m)) i p.now.level b (moved chains x side next) next (Raising x)
    × ((flow_after p.now f i text (step.MoveEdge from next) (found (step.MoveEdge from next) m)).parted x ≡ Pending)

-- a move leaves the bucket to be unzipped from the next node on, once the counter was raised for this one
pub move_knows : (next : Option ℕ) (t : Table) (m m' : Memory) (p : Past) (f : Flow) (i : ℕ) (text : List ℕ) (b x : ℕ) (chains : pairs.Chains) (side : sides.Side) → IsTable t m p f
    → Unzipping m p.now f i p.now.level b chains (Some x) Over → IsOfSide p.now p.now.level x side → m (place.Link x) ≡ link_word next → (from : Edge)
    → from ≡ edge_from (p.now.level + 1) (side_bucket p.now.level b (other side)) (chain_at chains (other side)).last → IsMade (step.MoveEdge from next) m m'
    → MoverKnows next m m' p f i text b x chains side from
move_knows next t m m' p f i text b x chains side table unzipping of_side link from is made =
    subst (λ (from : Edge). IsMade (step.MoveEdge from next) m m' → Knows from) (sym is) go made
  where
    Knows : Edge → Type 0
    Knows from = MoverKnows next m m' p f i text b x chains side from

    winner : ℕ
    winner = side_bucket p.now.level b side

    loser : ℕ
    loser = side_bucket p.now.level b (other side)

    won : Chain
    won = chain_at chains side

    lost : Chain
    lost = chain_at chains (other side)

    go : IsMade (step.MoveEdge (edge_from (p.now.level + 1) loser lost.last) next) m m' → Knows (edge_from (p.now.level + 1) loser lost.last)
    go made =
        let at = moving m p.now f i b chains x side table.chains unzipping of_side in
        let e = edge_made m m' p.now f i b winner loser x won lost at.0 table.chains table.heads at.2 next link lost.last at.2.lost.last made in
        let path : IsPath (links m) (Some x) (x ∷ at.0) = subst (λ (nodes : List ℕ). IsPath (links m) (Some x) nodes) at.1 unzipping.path in
        let was : Resizing p.now f i p.now.level (Splitting b) NoHead = unzipping.resizing in
        let of_node : is_odd_in p.now p.now.level b x ≡ is_odd_side side = side_of_node p.now p.now.level b x side at.2.text at.2.handle at.2.made at.2.at at.2.in_half in (
          both_sides m' p.now (flow_after p.now f i text (step.MoveEdge (edge_from (p.now.level + 1) loser lost.last) next) (found (step.MoveEdge (edge_from (p.now.level + 1) loser lost.last) next) m))
              i b x chains side next at.0 (unzipping.done ++ x ∷ []) (Raising x)
              (path_on t m m' p f i b winner loser x won lost at.0 _ _ _ table at.2 e.0 e.1 next link path) unzipping.below
              (record { owner = was.owner; at_level = was.at_level; at_stage = was.at_stage; free = was.free })
              (side_won t m m' p f i b winner loser x won lost at.0 _ _ _ table at.2 e.0 e.1)
              (side_lost t m m' p f i b winner loser x won lost at.0 _ _ _ table at.2 e.0 e.1)
              (won_own t m m' p f i b winner loser x won lost at.0 _ _ _ table at.2 e.0 e.1 ∙ ap (λ (nodes : List ℕ). nodes ++ x ∷ []) (at.3 ∙ owns_are m p.now f i b x chains side unzipping)
              ∙ sym (one_more_won p.now p.now.level b x side unzipping.done of_node))
              (lost_own t m m' p f i b winner loser x won lost at.0 _ _ _ table at.2 e.0 e.1 ∙ at.4 ∙ owns_are m p.now f i b x chains (other side) unzipping
              ∙ sym (one_more_lost p.now p.now.level b x side unzipping.done of_node))
              (unzipping.done, refl),
          e.0.pending,
        )

-- THE MACHINE

-- the end of the chain of a side
end_is : (w : ResizeAlong) (side : sides.Side) → end_of Grow w side ≡ edge_from (w.level + 1) (side_bucket w.level w.bucket side) (chain_at w.chains side).last
end_is w Even = refl
end_is w Odd = refl

-- what the mover knows before, at the level as it is
abbrev pub MoverHas : Memory → Now → Flow → ℕ → ResizeAlong → ℕ → sides.Side → ℕ → Type 0
MoverHas m n f i w x side level = Unzipping m n f i level w.bucket w.chains (Some x) Over × IsOfSide n level x side
    × (end_of Grow w (other side) ≡ edge_from (level + 1) (side_bucket level w.bucket (other side)) (chain_at w.chains (other side)).last)

pub mover_has : (m : Memory) (n : Now) (f : Flow) (i : ℕ) (w : ResizeAlong) (x : ℕ) (side : sides.Side) (next : Option ℕ) → KnowsUnzip m n f i w (unzip.MoveEdge x side next) → MoverHas m n f i w x side n.level
mover_has m n f i w x side next knows = subst (MoverHas m n f i w x side) (sym knows.0.resizing.at_level) (knows.0, knows.1, end_is w (other side))

-- what it knows after it is what its grace asks
pub move_known : (t : Table) (m m' : Memory) (p : Past) (f : Flow) (i : ℕ) (text : List ℕ) (w : ResizeAlong) (x : ℕ) (side : sides.Side) (next : Option ℕ) → IsTable t m p f
    → KnowsUnzip m p.now f i w (unzip.MoveEdge x side next) → IsMade (step.MoveEdge (end_of Grow w (other side)) next) m m'
    → KnowsMoved m' p.now (flow_after p.now f i text (step.MoveEdge (end_of Grow w (other side)) next) (found (step.MoveEdge (end_of Grow w (other side)) next) m)) i
    (record w { chains = moved w.chains x side next; rest = next }) grace.RaiseCounter
move_known t m m' p f i text w x side next table knows made =
    let has : MoverHas m p.now f i w x side p.now.level = mover_has m p.now f i w x side next knows in
    let level : p.now.level ≡ w.level = knows.0.resizing.at_level in
    let f' : Flow = flow_after p.now f i text (step.MoveEdge (end_of Grow w (other side)) next) (found (step.MoveEdge (end_of Grow w (other side)) next) m) in
    let after : Unzipping m' p.now f' i p.now.level w.bucket (moved w.chains x side next) next (Raising x) × (f'.parted x ≡ Pending) =
    move_knows next t m m' p f i text w.bucket x w.chains side table has.0 has.1 knows.2 (end_of Grow w (other side)) has.2 made in
    (x, subst (λ (l : ℕ). Unzipping m' p.now f' i l w.bucket (moved w.chains x side next) next (Raising x)) level after.0, after.1)
