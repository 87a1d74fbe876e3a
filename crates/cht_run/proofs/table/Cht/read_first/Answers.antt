use Rattle.std.proofs.Common.{arith}
use Rattle.table_shape.specs.declared.place.Place.TheVariants as place
use Rattle.cht_core.proofs.WordsKept.{slots_few}
use Rattle.cht_run.proofs.table.Cht.read_first.Goals as goal

pub first_of-requires : goal.first_of-requires
first_of-requires c =
    let few = slots_few c.args.self.now.origin.table.shape c.args.self.now.sound in
    let stands = (c.requires.reads.shown.table.words.sound (place.Head c.args.level c.args.bucket)).0 in
    let word = c.read.ensures.value in
    record { head = omega (arith, few, stands, word) }
