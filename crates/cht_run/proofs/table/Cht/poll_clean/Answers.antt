use Rattle.cht_run.proofs.Cleans.{next_inside}
use Rattle.cht_run.proofs.table.Cht.poll_clean.Goals as goal

pub free_after-went-requires-clause-inside : goal.free_after-went-requires-clause-inside
free_after-went-requires-clause-inside g c =
    let at = c.in-Grace-default-LoadSection in
    next_inside c.args.self.now.origin.table.shape c.args.clean.now.along c.args.clean.now.stage at.freeing at.stage at.is c.requires.goes c.requires.sound
