use Rattle.std.proofs.Common.{◌≡◌, take, subst, sym, rules}
use Rattle.intern_log.specs.Lawful.{IsLawful}
use Rattle.intern_log.specs.Now.{now_of}
use Rattle.log_check.proofs.Longer.{one_more, fault_at, create_at, last_is_allowed, texts_of_one_more}
use Rattle.log_check.proofs.check.first_unlawful.Goals as goal

pub returns-then-not-stays_lawful-clause-first : goal.returns-then-not-stays_lawful-clause-first
returns-then-not-stays_lawful-clause-first c =
    fault_at c.args.table.now c.args.events.now c.loop-place.place c.index-events-place.result c.stays_lawful.result c.loop-place-test.true c.index-events-place.is
    c.loop-place.invariant.lawful c.if-not-stays_lawful.true c.stays_lawful.ensures

pub apply-requires : goal.apply-requires
apply-requires c = record {
  allowed = last_is_allowed c.args.table.now (take c.loop-place.place c.args.events.now) c.index-events-place.result c.loop-place.texts
      c.loop-place.invariant.texts (c.stays_lawful.ensures.0 c.if-not-stays_lawful.false);
}

pub loop-place-preserved : goal.loop-place-preserved
loop-place-preserved c =
    let longer = sym (one_more c.args.events.now c.loop-place.place c.index-events-place.result c.loop-place-test.true c.index-events-place.is) in
    record {
      lawful = subst (IsLawful c.args.table.now) longer (c.stays_lawful.ensures.0 c.if-not-stays_lawful.false);
      texts = subst (λ log. c.apply.new.self ≡ (now_of c.args.table.now.min_level log).texts) longer
          (texts_of_one_more c.args.table.now.min_level (take c.loop-place.place c.args.events.now) c.index-events-place.result c.loop-place.texts c.apply.new.self
          c.loop-place.invariant.texts c.in_ok-apply.ensures.ok);
    }

pub returns-in_err-apply-clause-memory : goal.returns-in_err-apply-clause-memory
returns-in_err-apply-clause-memory c =
    let reached = create_at c.args.table.now c.args.events.now c.loop-place.place c.index-events-place.result c.loop-place-test.true c.index-events-place.is
    c.in_err-apply.ensures.memory (c.stays_lawful.ensures.0 c.if-not-stays_lawful.false) in
    search (rules, reached)
