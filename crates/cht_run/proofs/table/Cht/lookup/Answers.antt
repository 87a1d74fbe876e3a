use Rattle.std.proofs.Common.{refl, subst}
use Rattle.cht_run.specs.declared.lookup.TryLookup.{TryLookup}
use Rattle.cht_run.specs.Answers.{LooksUp, WhyLooksUp, LookupHolds}
use Rattle.cht_run.specs.Ended.{Ended}
use Rattle.cht_run.specs.PassedChains.{LookupPasses}
use Rattle.cht_run.proofs.WalkPasses.{tries_pass}
use Rattle.cht_run.proofs.Retries.{works_both, not_tried, hits, misses, looks_on}
use Rattle.cht_run.proofs.table.Cht.lookup.Goals as goal

pub loop-init : goal.loop-init
loop-init g c = record {
  of = c.requires.of;
  works = record { work = refl; grace = refl };
  before = not_tried c.args.self.now.origin.table c.args.seat.now;
}

pub loop-preserved : goal.loop-preserved
loop-preserved g c =
    let t = c.args.self.now.origin.table in
    let mid = c.loop.seat in
    let new = c.try_lookup.new.seat in
    let text = c.args.text.now in
    record {
      of = c.try_lookup.ensures.of;
      works = works_both c.args.seat.now mid new c.loop.invariant.works c.try_lookup.ensures.works;
      before = looks_on t text c.args.seat.now mid new c.loop.invariant.before (subst (λ (r : TryLookup). Ended t mid new (LooksUp text r) (WhyLooksUp mid.number text r)) c.in-Again.is c.try_lookup.ensures.ended);
    }

pub returns-in-Hit : goal.returns-in-Hit
returns-in-Hit g c =
    let t = c.args.self.now.origin.table in
    let mid = c.loop.seat in
    let new = c.try_lookup.new.seat in
    let text = c.args.text.now in
    record {
      of = c.try_lookup.ensures.of;
      ended = hits t text c.args.seat.now mid new c.loop.invariant.before c.in-Hit.handle (subst (λ (r : TryLookup). Ended t mid new (LooksUp text r) (WhyLooksUp mid.number text r)) c.in-Hit.is c.try_lookup.ensures.ended);
      holds = subst (LookupHolds new) c.in-Hit.is c.try_lookup.ensures.holds;
      works = works_both c.args.seat.now mid new c.loop.invariant.works c.try_lookup.ensures.works;
      few = c.try_lookup.ensures.few;
      exact = tt;
    }

pub returns-in-Miss : goal.returns-in-Miss
returns-in-Miss g c =
    let t = c.args.self.now.origin.table in
    let mid = c.loop.seat in
    let new = c.try_lookup.new.seat in
    let text = c.args.text.now in
    record {
      of = c.try_lookup.ensures.of;
      ended = misses t text c.args.seat.now mid new c.loop.invariant.before (subst (λ (r : TryLookup). Ended t mid new (LooksUp text r) (WhyLooksUp mid.number text r)) c.in-Miss.is c.try_lookup.ensures.ended);
      holds = tt;
      works = works_both c.args.seat.now mid new c.loop.invariant.works c.try_lookup.ensures.works;
      few = c.try_lookup.ensures.few;
      exact = λ fits. tries_pass t c.args.seat.now mid new.passed text c.loop.invariant.before c.loop.invariant.works (subst (LookupPasses t mid new.passed text) c.in-Miss.is c.try_lookup.ensures.exact fits);
    }
