-- The move that a grow makes next is that of unzipping.
use Rattle.std.proofs.Common.{◌≡◌, ℕ, ◌+◌, ◌^◌, Bool, List, ◌++◌, length, take, Option, Some, None, refl, sym, ap, subst, ◌∙◌}
use Rattle.std.proofs.Math.Seq.{take-append_seam}
use Rattle.chain_core.proofs.Ways.{path_begins}
use Rattle.resize_core.specs.declared.moves.Place.{Place}
use Rattle.resize_core.specs.declared.moves.Place.TheVariants.{EvenHead, OddHead}
use Rattle.resize_core.specs.Moves as moves
use Rattle.resize_core.specs.Unzip.{place_past}
use Rattle.resize_core.proofs.Ends.{end_of-push}
use Rattle.text_words.specs.Hash.{hash_of}
use Rattle.marked_word.specs.Link.{link_word, node_of}
use Rattle.table_shape.specs.declared.place.Place.TheVariants as place
use Rattle.intern_log.specs.Now.{Linked}
use Rattle.atomic_step.specs.declared.step.Edge.TheVariants as edge
use Rattle.call_machine.specs.declared.resize.Direction.TheVariants.{Grow}
use Rattle.call_machine.specs.declared.resize.ResizeAlong.{ResizeAlong}
use Rattle.call_machine.specs.declared.resize.Side as sides
use Rattle.call_machine.specs.declared.resize.Side.TheVariants.{Even, Odd}
use Rattle.call_machine.specs.Resize.{other, edge_from, end_of}
use Rattle.cht_core.specs.declared.table.Table.{Table}
use Rattle.cht_core.specs.Flow.{Flow}
use Rattle.cht_core.specs.KnowsResize.{Over, Unzipping, IsLast, IsOfSide, is_odd_in}
use Rattle.cht_core.specs.Memory.{Memory, links}
use Rattle.cht_core.specs.PartsResize.{IsLinkedIn, IsMoveOf, edge_at}
use Rattle.cht_core.specs.Past.{Past}
use Rattle.cht_core.specs.Stage.{bucket_in}
use Rattle.cht_core.specs.TableState.{IsTable}
use Rattle.cht_core.proofs.HeadWords.{node_of_link}
use Rattle.cht_core.proofs.MoveEdges.{side_is}
use Rattle.cht_core.proofs.PartsResizeSides.{rest_linked}
use Rattle.cht_core.proofs.UnzipSides.{evens_of, odds_of, is_odd_side, side_of_node}

-- the end of a side's own nodes is the link of the last of them, or its head
end_at : (level b row bucket : ℕ) (head : Place) (last : Option ℕ) (own : List ℕ) → edge_at level b head ≡ edge.Head row bucket → IsLast last own
    → edge_at level b (moves.end_of head own) ≡ edge_from row bucket last
end_at level b row bucket head None own is none = ap (λ (list : List ℕ). edge_at level b (moves.end_of head list)) none ∙ is
end_at level b row bucket head (Some x) own is last = ap (λ (list : List ℕ). edge_at level b (moves.end_of head list)) last.1 ∙ ap (edge_at level b) (end_of-push head last.0 x)

module _ (t : Table) (m : Memory) (p : Past) (f : Flow) (i : ℕ) (w : ResizeAlong) (x : ℕ) (table : IsTable t m p f) (u : Unzipping m p.now f i w.level w.bucket w.chains (Some x) Over) where
  even_end : edge_at w.level w.bucket (moves.end_of EvenHead (evens_of p.now w.level w.bucket u.done)) ≡ edge_from (w.level + 1) w.bucket w.chains.even.last
  even_end = end_at w.level w.bucket (w.level + 1) w.bucket EvenHead w.chains.even.last (evens_of p.now w.level w.bucket u.done) refl (subst (IsLast w.chains.even.last) u.even_is u.even.last)

  odd_end : edge_at w.level w.bucket (moves.end_of OddHead (odds_of p.now w.level w.bucket u.done)) ≡ edge_from (w.level + 1) (w.bucket + 2 ^ w.level) w.chains.odd.last
  odd_end = end_at w.level w.bucket (w.level + 1) (w.bucket + 2 ^ w.level) OddHead w.chains.odd.last (odds_of p.now w.level w.bucket u.done) refl (subst (IsLast w.chains.odd.last) u.odd_is u.odd.last)

  -- the node that comes next is of the side that the grow has read
  odd_next : (side : sides.Side) → IsOfSide p.now w.level x side → is_odd_in p.now w.level w.bucket x ≡ is_odd_side side
  odd_next side of_side =
      let left : IsLinkedIn p.now w.level w.bucket x = rest_linked t m p f i w.level w.bucket w.chains (Some x) Over table u x (path_begins (links m) x u.rest u.path) in
      let same : Linked left.0 left.1 left.2 ≡ Linked of_side.0 of_side.1 of_side.2 = sym left.3 ∙ of_side.3 in
      let texts : left.0 ≡ of_side.0 = cc in
      side_of_node p.now w.level w.bucket x side of_side.0 of_side.1 of_side.2 of_side.3
      (side_is w.level w.bucket (hash_of p.now.seed of_side.0) side of_side.4 (subst (λ (text : List ℕ). bucket_in w.level (hash_of p.now.seed text) ≡ w.bucket) texts left.4))

  past_end : (side : sides.Side) → edge_at w.level w.bucket (place_past (is_odd_side side) (moves.end_of EvenHead (evens_of p.now w.level w.bucket u.done))
      (moves.end_of OddHead (odds_of p.now w.level w.bucket u.done))) ≡ end_of Grow w (other side)
  past_end Even = odd_end
  past_end Odd = even_end

  pub next_move : (side : sides.Side) (to : Option ℕ) → IsOfSide p.now w.level x side → m (place.Link x) ≡ link_word to → IsMoveOf m p.now w x (take (length u.done) (u.done ++ u.rest)) (end_of Grow w (other side)) to
  next_move side to of_side link = subst (λ (passed : List ℕ). IsMoveOf m p.now w x passed (end_of Grow w (other side)) to) (sym (take-append_seam u.done u.rest)) (record {
    place = ap (λ (odd : Bool). edge_at w.level w.bucket (place_past odd (moves.end_of EvenHead (evens_of p.now w.level w.bucket u.done)) (moves.end_of OddHead (odds_of p.now w.level w.bucket u.done))))
        (odd_next side of_side) ∙ past_end side;
    next = ap node_of link ∙ node_of_link to;
  })
