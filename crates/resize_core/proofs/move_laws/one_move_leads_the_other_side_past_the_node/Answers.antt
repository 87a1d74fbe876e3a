use Rattle.std.proofs.Common.{take, sym, subst, add-one}
use Rattle.resize_core.specs.Moves.{after_move}
use Rattle.resize_core.specs.Unzip.{move_past, IsSplit}
use Rattle.resize_core.proofs.Steps.{one_move}
use Rattle.resize_core.proofs.move_laws.one_move_leads_the_other_side_past_the_node.Goals as goal

pub returns : goal.returns
returns c = record {
  law = λ split is_odd nodes k node at is.
      subst (IsSplit (after_move split (move_past split.next is_odd (take k nodes) node)) is_odd nodes) (sym (add-one k)) (one_move split is_odd nodes k node at is);
}
