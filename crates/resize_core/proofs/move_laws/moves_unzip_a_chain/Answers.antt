use Rattle.resize_core.proofs.Zips.{split_after}
use Rattle.resize_core.proofs.move_laws.moves_unzip_a_chain.Goals as goal

pub returns : goal.returns
returns c = record { law = split_after }
