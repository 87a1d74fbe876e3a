use Rattle.cht_run.proofs.Accounts.{HasAccount, account_of_both}
use Rattle.cht_run.proofs.HoldsOn.{IsJoin}
use Rattle.cht_run.proofs.tests.logs.take_back.Goals as goal

pub invariant_of-result : goal.invariant_of-result
invariant_of-result c =
    let joined : IsJoin c.args.worker.seat c.args.other.seat c.join.new.seat = record { apart = c.join.ensures.apart; numbers_are = c.join.ensures.numbers; first = c.join.ensures.first; second = c.join.ensures.second } in
    let mine : HasAccount c.args.worker.seat c.args.worker.times = record { given = c.args.worker.given; dropped = c.args.worker.dropped } in
    let theirs : HasAccount c.args.other.seat c.args.other.times = record { given = c.args.other.given; dropped = c.args.other.dropped } in
    let both = account_of_both c.args.worker.seat c.args.other.seat c.join.new.seat joined c.args.worker.times c.args.other.times mine theirs in
    record { given = both.given; dropped = both.dropped }
