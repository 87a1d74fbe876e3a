use Rattle.std.proofs.Common.{arith}
use Rattle.table_shape.specs.declared.place.Place.TheVariants as place
use Rattle.cht_core.proofs.WordsKept.{slots_few}
use Rattle.cht_run.proofs.table.Cht.read_next.Goals as goal

pub node_of-requires : goal.node_of-requires
node_of-requires c =
    let few = slots_few c.args.self.now.origin.table.shape c.args.self.now.sound in
    let stands = c.requires.reads.shown.table.words.sound (place.Link c.args.slot) in
    let word = c.read.ensures.value in
    record { link = omega (arith, few, stands, word) }
