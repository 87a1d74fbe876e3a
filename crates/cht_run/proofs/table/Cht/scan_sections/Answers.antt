use Rattle.std.proofs.Common.{sym, ap, subst}
use Rattle.table_shape.specs.declared.shape.Shape.{Shape}
use Rattle.call_machine.specs.declared.clean.CleanStage.TheVariants as stage
use Rattle.call_machine.specs.declared.grace.GraceStage.TheVariants.{LoadSection}
use Rattle.cht_run.specs.Underway.{IsScanning}
use Rattle.cht_run.proofs.Cleans.{clean_scans, shape_is}
use Rattle.cht_run.proofs.table.Cht.scan_sections.Goals as goal
use Rattle.call_machine.specs.Clean.{goes}

pub scan-requires-clause-scanning : goal.scan-requires-clause-scanning
scan-requires-clause-scanning g c =
    let b = g.M.Began.sight in
    let seats = ap (λ (s : Shape). s.seats) (shape_is c.args.self.now b g.M.Began.call c.args.seat.now (goes c.args.along.now (stage.Grace c.args.freeing LoadSection)) c.requires.at) in
    subst (λ n. IsScanning n g.W.Scanning.scans) seats (subst (IsScanning b.origin.table.shape.seats) (sym c.requires.within) (clean_scans b c.args.along.now c.args.freeing))
