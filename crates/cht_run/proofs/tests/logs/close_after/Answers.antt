use Rattle.cht_run.proofs.Accounts.{given_in_all, dropped_in_all}
use Rattle.cht_run.proofs.tests.logs.close_after.Goals as goal

pub returns-clause-given : goal.returns-clause-given
returns-clause-given c =
    given_in_all c.args.worker.seat c.statistics-statistics.new.seat c.close.result c.statistics-statistics.ensures.same c.statistics-statistics.ensures.history c.close.ensures.log c.close.ensures.mine
    c.args.worker.times (record { given = c.args.worker.given; dropped = c.args.worker.dropped })

pub returns-clause-dropped : goal.returns-clause-dropped
returns-clause-dropped c =
    dropped_in_all c.args.worker.seat c.statistics-statistics.new.seat c.close.result c.statistics-statistics.ensures.same c.statistics-statistics.ensures.history c.close.ensures.log c.close.ensures.mine
    c.args.worker.times (record { given = c.args.worker.given; dropped = c.args.worker.dropped })
