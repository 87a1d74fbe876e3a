use Rattle.std.proofs.Common.{sym, ap, subst, ◌∙◌}
use Rattle.intern_log.specs.declared.event.Kind.{Kind}
use Rattle.call_machine.specs.declared.call.Call.TheVariants as call
use Rattle.call_machine.specs.declared.stage.Asked.{Asked}
use Rattle.call_machine.specs.declared.stage.CallStage.TheVariants as stage
use Rattle.call_machine.specs.Read.{first_read}
use Rattle.cht_run.specs.Starts.{Starts}
use Rattle.cht_run.proofs.ReadEnds.{first_step, read_starts, held_ended, inside_ended}
use Rattle.cht_run.proofs.Ended.{works_stay}
use Rattle.cht_run.proofs.table.Cht.text_of.Goals as goal

pub read_held-requires-clause-starts : goal.read_held-requires-clause-starts
read_held-requires-clause-starts c =
    let s = c.args.seat.now in
    let r = c.asks-request.result in
    subst (λ (k : Kind). Starts c.args.self.now s.raw.me.0 (call.TextOf r.handle) r s.raw c.sets_out-along.result (stage.Read (first_read k)) (first_step k r.handle)) c.in-Counted.is
    (rw c.sets_out-along.ensures.value (read_starts c.args.self.now s.raw r s.number s.cursor c.args.handle (record { table = c.requires.of.table; origin = c.requires.of.origin; seat = s.seat; bare = s.bare }) s.rests s.named s.next s.handles
    c.asks-request.ensures.asked c.requires.may))

pub read_inside-requires-clause-starts : goal.read_inside-requires-clause-starts
read_inside-requires-clause-starts c =
    let s = c.args.seat.now in
    let r = c.asks-request.result in
    subst (λ (k : Kind). Starts c.args.self.now s.raw.me.0 (call.TextOf r.handle) r s.raw c.sets_out-along.result (stage.Read (first_read k)) (first_step k r.handle)) c.in-Weak.is
    (rw c.sets_out-along.ensures.value (read_starts c.args.self.now s.raw r s.number s.cursor c.args.handle (record { table = c.requires.of.table; origin = c.requires.of.origin; seat = s.seat; bare = s.bare }) s.rests s.named s.next s.handles
    c.asks-request.ensures.asked c.requires.may))

pub returns-in-Counted-clause-ended : goal.returns-in-Counted-clause-ended
returns-in-Counted-clause-ended c =
    held_ended c.args.self.now c.args.seat.now _ c.asks-request.result c.sets_out-along.result c.args.handle (ap (λ (q : Asked). q.handle) c.asks-request.ensures.asked.asks) c.args.self.now.origin.table.kind c.read_held.result
    (sym (ap (λ (q : Asked). q.kind) c.asks-request.ensures.asked.asks) ∙ c.in-Counted.is) c.read_held.ensures.at c.read_held.ensures.own c.read_held.ensures.held

pub returns-in-Weak-clause-ended : goal.returns-in-Weak-clause-ended
returns-in-Weak-clause-ended c =
    inside_ended c.args.self.now c.args.seat.now _ c.asks-request.result c.sets_out-along.result c.args.handle (ap (λ (q : Asked). q.handle) c.asks-request.ensures.asked.asks) c.args.self.now.origin.table.kind c.read_inside.result
    (sym (ap (λ (q : Asked). q.kind) c.asks-request.ensures.asked.asks) ∙ c.in-Weak.is) c.read_inside.ensures.at c.read_inside.ensures.own

pub returns-in-Counted-clause-works : goal.returns-in-Counted-clause-works
returns-in-Counted-clause-works c = works_stay c.args.self.now c.args.seat.now _ _ c.asks-request.result c.sets_out-along.result _ c.read_held.ensures.at

pub returns-in-Weak-clause-works : goal.returns-in-Weak-clause-works
returns-in-Weak-clause-works c = works_stay c.args.self.now c.args.seat.now _ _ c.asks-request.result c.sets_out-along.result _ c.read_inside.ensures.at
