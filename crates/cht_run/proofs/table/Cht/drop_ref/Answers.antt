use Rattle.std.proofs.Common.{refl, subst}
use Rattle.cht_run.specs.declared.change.TryDrop.{TryDrop}
use Rattle.cht_run.specs.declared.change.TryDrop.TheVariants as drops
use Rattle.cht_run.specs.Changes.{dropped, WhyDrops}
use Rattle.cht_run.specs.Ended.{Ended, Only}
use Rattle.cht_run.proofs.Following.{fields_both, not_called}
use Rattle.cht_run.proofs.Retries.{works_both, tries_on, holds_still, drops_left, drops_none}
use Rattle.cht_run.proofs.table.Cht.drop_ref.Goals as goal

pub loop-init : goal.loop-init
loop-init g c = record {
  of = c.requires.of;
  works = record { work = refl; grace = refl };
  fields = record { number = refl; cursor = refl; passed = refl };
  before = not_called c.args.self.now.origin.table c.args.seat.now;
  held = c.requires.held;
}

pub loop-preserved : goal.loop-preserved
loop-preserved g c =
    let t = c.args.self.now.origin.table in
    let old = c.args.seat.now in
    let mid = c.loop.seat in
    let new = c.try_drop.new.seat in
    let h = c.args.handle in
    let ended = subst (λ (r : TryDrop). Ended t mid new (Only (dropped h r)) (WhyDrops mid.number h r)) c.in-Again.is c.try_drop.ensures.ended in
    let tried = tries_on t old mid new (WhyDrops mid.number h drops.Again) c.loop.invariant.before ended in
    record {
      of = c.try_drop.ensures.of;
      works = works_both old mid new c.loop.invariant.works c.try_drop.ensures.works;
      fields = fields_both old mid new c.loop.invariant.fields c.try_drop.ensures.fields;
      before = tried;
      held = holds_still t old new h tried c.requires.held;
    }

pub returns-in-Dropped : goal.returns-in-Dropped
returns-in-Dropped g c =
    let t = c.args.self.now.origin.table in
    let old = c.args.seat.now in
    let mid = c.loop.seat in
    let new = c.try_drop.new.seat in
    let h = c.args.handle in
    record {
      of = c.try_drop.ensures.of;
      ended = drops_left t old mid new c.loop.invariant.before h c.in-Dropped.left (subst (λ (r : TryDrop). Ended t mid new (Only (dropped h r)) (WhyDrops mid.number h r)) c.in-Dropped.is c.try_drop.ensures.ended);
      works = works_both old mid new c.loop.invariant.works c.try_drop.ensures.works;
      fields = fields_both old mid new c.loop.invariant.fields c.try_drop.ensures.fields;
    }

pub returns-in-Permanent : goal.returns-in-Permanent
returns-in-Permanent g c =
    let t = c.args.self.now.origin.table in
    let old = c.args.seat.now in
    let mid = c.loop.seat in
    let new = c.try_drop.new.seat in
    let h = c.args.handle in
    record {
      of = c.try_drop.ensures.of;
      ended = drops_none t old mid new c.loop.invariant.before h (subst (λ (r : TryDrop). Ended t mid new (Only (dropped h r)) (WhyDrops mid.number h r)) c.in-Permanent.is c.try_drop.ensures.ended);
      works = works_both old mid new c.loop.invariant.works c.try_drop.ensures.works;
      fields = fields_both old mid new c.loop.invariant.fields c.try_drop.ensures.fields;
    }
