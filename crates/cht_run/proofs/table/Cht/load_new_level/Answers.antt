use Rattle.std.proofs.Common.{refl}
use Rattle.call_machine.specs.declared.find.FindStage.TheVariants as find
use Rattle.call_machine.specs.declared.stage.CallStage.TheVariants as stage
use Rattle.marked_word.specs.Number.{new_level_of}
use Rattle.cht_run.proofs.Goes.{goes}
use Rattle.cht_run.proofs.Leads.{turned_leads}
use Rattle.cht_run.proofs.table.Cht.load_new_level.Goals as goal

pub returns-clause-at : goal.returns-clause-at
returns-clause-at g c =
    goes c.args.self.now g.M.Began.sight g.M.Began.call c.args.request.now _ _ _ _ (stage.Find find.LoadNewLevel) (stage.Find find.LoadNewHead) _ c.load-level.result c.requires.at refl refl c.load-level.ensures.sits c.load-level.ensures.told
    (turned_leads c.args.request.now c.args.along.now (new_level_of c.load-level.result) c.turned_to.result find.LoadNewHead c.requires.at.request (rw (← c.new_level_of.ensures.value) c.turned_to.ensures.value))
