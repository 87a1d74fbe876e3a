use Rattle.std.proofs.Common.{refl, subst}
use Rattle.cht_run.specs.declared.change.TryPermanent.{TryPermanent}
use Rattle.cht_run.specs.declared.change.TryPermanent.TheVariants as stays
use Rattle.cht_run.specs.Changes.{made_permanent, WhyPermanent}
use Rattle.cht_run.specs.Ended.{Ended, Only}
use Rattle.cht_run.proofs.Following.{fields_both, not_called}
use Rattle.cht_run.proofs.Retries.{works_both, tries_on, holds_still, stays_so}
use Rattle.cht_run.proofs.table.Cht.make_permanent.Goals as goal

pub loop-init : goal.loop-init
loop-init g c = record {
  of = c.requires.of;
  works = record { work = refl; grace = refl };
  fields = record { number = refl; cursor = refl; passed = refl };
  before = not_called c.args.self.now.origin.table c.args.seat.now;
  held = c.requires.held;
}

pub loop-preserved : goal.loop-preserved
loop-preserved g c =
    let t = c.args.self.now.origin.table in
    let old = c.args.seat.now in
    let mid = c.loop.seat in
    let new = c.try_permanent.new.seat in
    let h = c.args.handle in
    let ended = subst (λ (r : TryPermanent). Ended t mid new (Only (made_permanent h r)) (WhyPermanent mid.number h r)) c.in-Again.is c.try_permanent.ensures.ended in
    let tried = tries_on t old mid new (WhyPermanent mid.number h stays.Again) c.loop.invariant.before ended in
    record {
      of = c.try_permanent.ensures.of;
      works = works_both old mid new c.loop.invariant.works c.try_permanent.ensures.works;
      fields = fields_both old mid new c.loop.invariant.fields c.try_permanent.ensures.fields;
      before = tried;
      held = holds_still t old new h tried c.requires.held;
    }

pub returns-in-Done : goal.returns-in-Done
returns-in-Done g c =
    let t = c.args.self.now.origin.table in
    let old = c.args.seat.now in
    let mid = c.loop.seat in
    let new = c.try_permanent.new.seat in
    let h = c.args.handle in
    record {
      of = c.try_permanent.ensures.of;
      ended = stays_so t old mid new c.loop.invariant.before h (subst (λ (r : TryPermanent). Ended t mid new (Only (made_permanent h r)) (WhyPermanent mid.number h r)) c.in-Done.is c.try_permanent.ensures.ended);
      works = works_both old mid new c.loop.invariant.works c.try_permanent.ensures.works;
      fields = fields_both old mid new c.loop.invariant.fields c.try_permanent.ensures.fields;
    }
