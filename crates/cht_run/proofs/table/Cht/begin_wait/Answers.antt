use Rattle.std.proofs.Common.{subst}
use Rattle.cht_run.specs.declared.works.Tried.{Tried}
use Rattle.cht_run.specs.Works.{BeginsWork}
use Rattle.cht_run.proofs.Following.{fields_both}
use Rattle.cht_run.proofs.Waited.{begins_later, waits_on}
use Rattle.cht_run.proofs.table.Cht.begin_wait.Goals as goal

pub loop-preserved : goal.loop-preserved
loop-preserved g c =
    let t = c.args.self.now.origin.table in
    let before = c.loop.invariant in
    let waits = waits_on t c.args.task c.args.seat.now c.loop.seat c.try_begin.new.seat before.waited
    (subst (λ (r : Tried). BeginsWork t c.args.task c.loop.seat c.try_begin.new.seat r) c.in-Busy.is c.try_begin.ensures.began) in
    record {
      of = c.try_begin.ensures.of;
      fields = fields_both c.args.seat.now c.loop.seat c.try_begin.new.seat before.fields c.try_begin.ensures.fields;
      nothing = waits.0;
      waited = waits.1;
    }

pub returns-in_default : goal.returns-in_default
returns-in_default g c =
    let t = c.args.self.now.origin.table in
    let before = c.loop.invariant in
    record {
      of = c.try_begin.ensures.of;
      fields = fields_both c.args.seat.now c.loop.seat c.try_begin.new.seat before.fields c.try_begin.ensures.fields;
      began = begins_later t c.args.task c.args.seat.now c.loop.seat c.try_begin.new.seat before.waited c.try_begin.result c.try_begin.ensures.began;
      not_busy = c.in_default.not-Busy;
    }
