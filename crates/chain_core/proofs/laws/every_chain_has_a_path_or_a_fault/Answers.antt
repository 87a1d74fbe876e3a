use Rattle.std.proofs.Common.{length}
use Rattle.chain_core.specs.Path.{next_in}
use Rattle.chain_core.proofs.Faults.{path_or_fault}
use Rattle.chain_core.proofs.laws.every_chain_has_a_path_or_a_fault.Goals as goal

pub returns : goal.returns
returns c = record { law = path_or_fault; links = λ links first. path_or_fault (next_in links) (length links) first }
