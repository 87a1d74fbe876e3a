use Rattle.std.proofs.Common.{refl}
use Rattle.call_machine.specs.declared.insert.InsertStage.TheVariants as insert
use Rattle.call_machine.specs.declared.stage.CallStage.TheVariants as stage
use Rattle.call_machine.specs.Sought.{asked_of}
use Rattle.cht_run.proofs.Goes.{goes}
use Rattle.cht_run.proofs.Leads.{claim_leads, taken_leads}
use Rattle.cht_run.proofs.table.Cht.claim.Goals as goal

pub returns-then-swap-eq0-clause-at : goal.returns-then-swap-eq0-clause-at
returns-then-swap-eq0-clause-at g c =
    goes c.args.self.now g.M.Began.sight g.M.Began.call c.args.request.now _ _ _ _ (stage.Insert (insert.Claim c.args.slot c.args.tried)) _ _ c.swap.result c.requires.at refl refl c.swap.ensures.sits c.swap.ensures.told
    (claim_leads (asked_of c.args.request.now) c.args.along.now c.args.slot c.args.tried c.swap.result c.next_slot-cursor.result c.if-swap-eq0.true c.next_slot-cursor.ensures.value)

pub returns-else-swap-eq0-clause-at : goal.returns-else-swap-eq0-clause-at
returns-else-swap-eq0-clause-at g c =
    goes c.args.self.now g.M.Began.sight g.M.Began.call c.args.request.now _ _ _ _ (stage.Insert (insert.Claim c.args.slot c.args.tried)) _ _ c.swap.result c.requires.at refl refl c.swap.ensures.sits c.swap.ensures.told
    (taken_leads (asked_of c.args.request.now) c.args.along.now c.args.slot c.args.tried c.swap.result c.if-swap-eq0.false)
