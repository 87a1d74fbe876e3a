use Rattle.std.proofs.Common.{[], List, ℕ, refl, sym, ap, subst}
use Rattle.cht_run.specs.declared.sight.Sight.{Sight}
use Rattle.cht_run.specs.Ended.{Always, Only}
use Rattle.cht_run.specs.Holds.{HoldLive}
use Rattle.cht_run.specs.Seats.{seen}
use Rattle.cht_run.proofs.Looking.{looked_ended, looked_follows}
use Rattle.cht_run.proofs.table.Cht.level.Goals as goal

pub returns-clause-ended : goal.returns-clause-ended
returns-clause-ended c = looked_ended c.args.self.now.origin c.args.seat.now c.look.new.seat c.index-index.result c.look.result c.look.ensures.told (Only []) Always refl tt

pub returns-clause-follows : goal.returns-clause-follows
returns-clause-follows c = looked_follows c.args.self.now.origin c.args.seat.now c.look.new.seat c.index-index.result c.look.result c.look.ensures.told

pub returns-clause-sees : goal.returns-clause-sees
returns-clause-sees c = c.look.ensures.told.sees

pub returns-clause-ledger : goal.returns-clause-ledger
returns-clause-ledger c = c.look.ensures.told.ledger

pub returns-clause-live : goal.returns-clause-live
returns-clause-live c = λ counted.
    subst (λ (numbers : List ℕ). HoldLive (seen c.look.new.seat) numbers) (sym (ap (λ (v : Sight). v.numbers) c.look.ensures.told.after)) (c.look.ensures.told.live counted)
