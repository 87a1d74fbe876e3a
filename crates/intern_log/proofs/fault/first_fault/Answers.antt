use Rattle.std.proofs.Common.{sym, ap, subst, ◌∙◌, rules}
use Rattle.intern_log.specs.Log.{next, Allows}
use Rattle.intern_log.proofs.FaultLaws.{IsFirstFault-at, IsNotAllowedAt-at, map_of-up_to, IsLegal-up_to, ReachesCreate-at}
use Rattle.intern_log.proofs.fault.first_fault.Goals as goal

pub returns-then-not-allows-clause-first : goal.returns-then-not-allows-clause-first
returns-then-not-allows-clause-first c =
    let e = c.index-events-place.result in
    IsFirstFault-at c.args.events.now c.loop-place.place e c.loop-place-test.true c.index-events-place.is c.loop-place.invariant.legal
    (λ allowed. absurd (cc (c.allows.ensures.allows.1 (subst (λ m. Allows m e.what) (sym c.loop-place.invariant.texts) allowed))))

pub returns-then-not-allows-clause-not_allowed : goal.returns-then-not-allows-clause-not_allowed
returns-then-not-allows-clause-not_allowed c =
    let e = c.index-events-place.result in
    IsNotAllowedAt-at c.args.events.now c.loop-place.place e c.loop-place-test.true c.index-events-place.is
    (λ allowed. absurd (cc (c.allows.ensures.allows.1 (subst (λ m. Allows m e.what) (sym c.loop-place.invariant.texts) allowed))))

pub loop-place-preserved : goal.loop-place-preserved
loop-place-preserved c =
    let e = c.index-events-place.result in
    let log = c.args.events.now in
    let i = c.loop-place.place in
    let allowed = subst (λ m. Allows m e.what) c.loop-place.invariant.texts (c.allows.ensures.allows.0 c.if-not-allows.false) in
    record {
      texts = c.in_ok-apply.ensures.ok ∙ ap (λ m. next m e.what) c.loop-place.invariant.texts ∙ sym (map_of-up_to log i e c.loop-place-test.true c.index-events-place.is);
      legal = IsLegal-up_to log i e c.loop-place-test.true c.index-events-place.is c.loop-place.invariant.legal allowed;
    }

pub returns-in_err-apply-clause-memory : goal.returns-in_err-apply-clause-memory
returns-in_err-apply-clause-memory c =
    let e = c.index-events-place.result in
    let allowed = subst (λ m. Allows m e.what) c.loop-place.invariant.texts (c.allows.ensures.allows.0 c.if-not-allows.false) in
    let reached = ReachesCreate-at c.args.events.now c.loop-place.place e c.loop-place-test.true c.index-events-place.is c.loop-place.invariant.legal allowed c.in_err-apply.ensures.memory in
    search (rules, reached)
