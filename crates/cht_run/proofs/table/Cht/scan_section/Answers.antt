use Rattle.std.proofs.Common.{sym, refl}
use Rattle.cht_run.proofs.Underway.{scans_further}
use Rattle.cht_run.proofs.table.Cht.scan_section.Goals as goal

pub scanned-came-requires : goal.scanned-came-requires
scanned-came-requires g c = record { inside = c.requires.scanning.inside c.args.grace.now c.requires.at.ran.went.sound.sound }

pub returns-clause-on : goal.returns-clause-on
returns-clause-on g c =
    scans_further c.args.self.now g.M.Began.sight g.M.Began.call c.args.seat.now c.load-word.new.seat c.load-word.result _ c.load-word.ensures.sits c.load-word.ensures.told c.args.self.now.origin.table.shape.seats g.W.Scanning.scans c.args.grace.now
    c.scanned-came.result c.requires.scanning c.requires.at refl (sym c.scanned-came.ensures.value)
