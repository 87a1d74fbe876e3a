use Rattle.std.proofs.Common.{sym, subst}
use Rattle.call_machine.specs.declared.grace.Grace.{Grace}
use Rattle.call_machine.specs.declared.grace.Gracing.{Gracing}
use Rattle.call_machine.specs.declared.grace.Gracing.TheVariants as gracing
use Rattle.call_machine.specs.declared.machine.Machine.{Machine}
use Rattle.cht_run.specs.Underway.{IsAt, Further, IsScanning, scanned_to}
use Rattle.cht_run.proofs.Resizes.{resize_scans}
use Rattle.cht_run.proofs.table.Cht.scan_in_resize.Goals as goal

pub scan-requires : goal.scan-requires
scan-requires g c =
    let cht = c.args.self.now in
    record {
      scanning = subst (λ (scans : Grace → Gracing → Machine). IsScanning cht.origin.table.shape.seats scans) (sym c.requires.scans) (resize_scans c.args.along.now c.args.after c.requires.at);
      at = subst (λ (scans : Grace → Gracing → Machine). IsAt cht g.M.Began.sight g.M.Began.call c.args.seat.now (scans c.args.along.now.grace gracing.Goes)) (sym c.requires.scans) c.requires.at;
    }

pub returns : goal.returns
returns g c =
    let Leads : (Grace → Gracing → Machine) → Type 0 = λ scans. Further c.args.self.now g.M.Began.sight g.M.Began.call c.scan.new.seat (scans c.args.along.now.grace gracing.Goes) (scans c.scan.new.grace (scanned_to c.scan.result)) in
    record { on = subst Leads c.requires.scans c.scan.ensures.on }
