use Rattle.chain_core.proofs.Stores.{path_past, way_past}
use Rattle.chain_core.proofs.store_laws.a_node_is_taken_out.Goals as goal

pub returns : goal.returns
returns c = record {
  path = path_past;
  way = λ next before node follows first to nodes way once ends has. way_past next before node follows first to nodes way once ends has;
}
