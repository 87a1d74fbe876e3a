use Rattle.std.proofs.Common.{true, false}
use Rattle.cht_run.proofs.SweepSteps.{scans_at, scanned_at}
use Rattle.cht_run.proofs.table.Cht.wait_swept.Goals as goal

pub scan-requires-clause-at : goal.scan-requires-clause-at
scan-requires-clause-at g c = scans_at c.args.self.now g.M.Began.sight g.M.Began.call c.loop.seat c.args.asked.now c.loop.along c.args.along.now g.W.Scanning.scans c.requires.within c.loop.invariant.within c.loop.invariant.at

pub returns-then-scan : goal.returns-then-scan
returns-then-scan g c = record {
  at = scanned_at c.args.self.now g.M.Began.sight g.M.Began.call c.scan.new.seat c.args.asked.now c.loop.along c.args.along.now g.W.Scanning.scans c.requires.within c.loop.invariant.within c.scan.new.grace c.scan.result true
      c.if-scan.true c.scan.ensures.on.at;
}

pub loop-preserved : goal.loop-preserved
loop-preserved g c = record {
  within = c.loop.invariant.within;
  at = scanned_at c.args.self.now g.M.Began.sight g.M.Began.call c.scan.new.seat c.args.asked.now c.loop.along c.args.along.now g.W.Scanning.scans c.requires.within c.loop.invariant.within c.scan.new.grace c.scan.result
      false c.if-scan.false c.scan.ensures.on.at;
}
