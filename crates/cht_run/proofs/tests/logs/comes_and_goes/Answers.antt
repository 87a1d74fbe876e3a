use Rattle.std.proofs.Common.{⊎_elim, ap, sym, subst}
use Rattle.cht_run.specs.InternWaits.{InternedHolds}
use Rattle.cht_run.proofs.Accounts.{HasAccount, given_by, account_kept, account_more}
use Rattle.cht_run.proofs.tests.logs.comes_and_goes.Goals as goal
use Rattle.cht_run.proofs.tests.logs.comes_and_goes.Goals.{in-TooLong, in-Created2}

pub drop_ref-requires-clause-held : goal.drop_ref-requires-clause-held
drop_ref-requires-clause-held g c =
    ⊎_elim (λ is. subst (InternedHolds c.intern.new.seat) is c.intern.ensures.holds) (λ is. subst (InternedHolds c.intern.new.seat) is c.intern.ensures.holds) c.in-Created.is

pub invariant_of-result : goal.invariant_of-result
invariant_of-result g c =
    let before : HasAccount c.args.worker.seat c.args.worker.times = record { given = c.args.worker.given; dropped = c.args.worker.dropped } in
    let after : HasAccount c.match-intern.result.0 c.match-intern.result.1.0 = elim c.match-intern.branch [
      | in-Created2 w ↦ subst (λ r. HasAccount r.0 r.1.0) (sym w.result-is)
          (account_more c.args.cht.now.origin.table c.args.worker.seat c.intern.new.seat c.args.text.now c.intern.result c.intern.ensures.ended c.args.worker.times before (⊎_elim (λ is. ap given_by is) (λ is. ap given_by is) w.in-Created.is) w.drop_ref.new.seat
          w.in-Created.handle w.drop_ref.result w.drop_ref.ensures.ended)
      | in-TooLong w ↦ subst (λ r. HasAccount r.0 r.1.0) (sym w.result-is)
          (account_kept c.args.cht.now.origin.table c.args.worker.seat c.intern.new.seat c.args.text.now c.intern.result c.intern.ensures.ended c.args.worker.times before (⊎_elim (λ is. ap given_by is) (λ is. ap given_by is) w.in-TooLong.is))
    ] in
    record { given = after.given; dropped = after.dropped }
