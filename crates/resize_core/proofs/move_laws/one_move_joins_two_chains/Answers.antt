use Rattle.resize_core.proofs.Steps.{joined_paths}
use Rattle.resize_core.proofs.move_laws.one_move_joins_two_chains.Goals as goal

pub returns : goal.returns
returns c = record {
  even = λ split even odd low high apart. (joined_paths split even odd low high apart).0;
  odd = λ split even odd low high apart. (joined_paths split even odd low high apart).1;
}
