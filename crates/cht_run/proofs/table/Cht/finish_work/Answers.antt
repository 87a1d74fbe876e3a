use Rattle.std.proofs.Common.{◌≡◌, Some, refl, sym, subst}
use Rattle.atomic_step.specs.declared.answer.Answer.TheVariants as answer
use Rattle.call_machine.specs.declared.work.Work.{Work as Working}
use Rattle.cht_run.specs.declared.works.Polled.{Polled}
use Rattle.cht_run.specs.declared.work.Work.{Work}
use Rattle.cht_run.specs.Seats.{work_of}
use Rattle.cht_run.specs.Works.{IsWorkOf, Leaves, PollsWork}
use Rattle.cht_run.proofs.Following.{fields_both}
use Rattle.cht_run.proofs.Waited.{IsSoFar, none_so_far, left_on, finished_on}
use Rattle.cht_run.proofs.table.Cht.finish_work.Goals as goal
use Rattle.cht_run.proofs.table.Cht.finish_work.Goals.{in-PendingSeat, in-PendingBucket}

pub loop-init : goal.loop-init
loop-init g c = record {
  of = c.requires.of;
  fields = record { number = refl; cursor = refl; passed = refl };
  work = c.requires.work;
  far = λ state is. none_so_far c.args.self.now.origin.table c.requires.work.0 state c.args.seat.now c.args.work c.requires.work.1 is;
}

pub returns-in-Done-clause-finished : goal.returns-in-Done-clause-finished
returns-in-Done-clause-finished g c = λ state is.
    let t = c.args.self.now.origin.table in
    let before = c.loop.invariant in
    finished_on t state c.args.seat.now c.loop.seat c.poll_work.new.seat c.loop.work (before.far state is) c.in-Done.worked
    (λ x has. subst (λ (r : Polled). PollsWork t x c.loop.seat c.poll_work.new.seat r) c.in-Done.is (c.poll_work.ensures.polled x has))

pub loop-preserved : goal.loop-preserved
loop-preserved g c =
    let t = c.args.self.now.origin.table in
    let before = c.loop.invariant in
    let mid = c.loop.seat in
    let new = c.poll_work.new.seat in
    let polled = λ (r : Polled) (is : c.poll_work.result ≡ r) (x : Working) (has : work_of mid ≡ Some x). subst (λ (p : Polled). PollsWork t x mid new p) is (c.poll_work.ensures.polled x has) in
    let left : ((state : Working) × IsWorkOf c.match-poll_work.work state new) × ((state : Working) → work_of c.args.seat.now ≡ Some state → IsSoFar t state c.args.seat.now new c.match-poll_work.work) =
    elim c.match-poll_work.branch [
      | in-PendingSeat w ↦ left_on t c.args.seat.now mid new c.loop.work c.match-poll_work.work (answer.PendingSeat w.in-PendingSeat._seat) before.work before.far
          (λ x has. subst (λ (k : Work). Leaves t x mid new k (answer.PendingSeat w.in-PendingSeat._seat)) (sym w.work-is) (polled _ w.in-PendingSeat.is x has))
      | in-PendingBucket w ↦ left_on t c.args.seat.now mid new c.loop.work c.match-poll_work.work (answer.PendingBucket w.in-PendingBucket._row w.in-PendingBucket._bucket) before.work before.far
          (λ x has. subst (λ (k : Work). Leaves t x mid new k (answer.PendingBucket w.in-PendingBucket._row w.in-PendingBucket._bucket)) (sym w.work-is) (polled _ w.in-PendingBucket.is x has))
    ] in
    record {
      of = c.poll_work.ensures.of;
      fields = fields_both c.args.seat.now mid new before.fields c.poll_work.ensures.fields;
      work = left.0;
      far = left.1;
    }
