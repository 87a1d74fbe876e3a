use Rattle.std.proofs.Common.{refl}
use Rattle.call_machine.specs.declared.call.Call.TheVariants as call
use Rattle.call_machine.specs.declared.stage.Goal.TheVariants as goals
use Rattle.cht_run.proofs.Goes.{passed_few}
use Rattle.cht_run.proofs.Walking.{walked}
use Rattle.cht_run.proofs.WalkPasses.{walk_passes}
use Rattle.cht_run.proofs.table.Cht.look_up.Goals as goal

pub returns-clause-walked : goal.returns-clause-walked
returns-clause-walked c =
    walked c.args.self.now goals.Lookup c.args.text.now (call.Lookup c.seek-request.result.sought.text) c.args.seat.now _ c.seek-request.result c.look_up_as-answer.result.0 c.look_up_as-answer.result.1
    c.seek-request.ensures.asked refl c.requires.of c.look_up_as-answer.ensures.at

pub returns-clause-few : goal.returns-clause-few
returns-clause-few c = (passed_few c.args.self.now _ _ _ _ _ _ c.look_up_as-answer.ensures.at).0

pub returns-clause-exact : goal.returns-clause-exact
returns-clause-exact c =
    walk_passes c.args.self.now goals.Lookup c.args.text.now (call.Lookup c.seek-request.result.sought.text) c.args.seat.now c.seek-request.result _ c.look_up_as-answer.result.0 c.look_up_as-answer.result.1
    c.seek-request.ensures.asked c.requires.of c.look_up_as-answer.ensures.at
