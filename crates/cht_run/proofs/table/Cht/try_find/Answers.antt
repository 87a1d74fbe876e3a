use Rattle.std.proofs.Common.{subst}
use Rattle.call_machine.specs.declared.stage.Goal.TheVariants.{Lookup}
use Rattle.cht_run.specs.declared.lookup.TryFind.TheVariants as answers
use Rattle.cht_run.specs.Walked.{Walked}
use Rattle.cht_run.proofs.Walking.{found}
use Rattle.cht_run.specs.Answers.{WhyFinds}
use Rattle.cht_run.proofs.FoundHandles.{found_is_created}
use Rattle.cht_run.proofs.table.Cht.try_find.Goals as goal

pub returns-in-Hit-clause-ended : goal.returns-in-Hit-clause-ended
returns-in-Hit-clause-ended c = found c.args.self.now c.args.text.now c.args.seat.now c.look_up.new.seat c.requires.weak (answers.Hit c.in-Hit.handle) (subst (Walked c.args.self.now Lookup c.args.text.now c.args.seat.now c.look_up.new.seat) c.in-Hit.is c.look_up.ensures.walked)

pub returns-in-Miss-clause-ended : goal.returns-in-Miss-clause-ended
returns-in-Miss-clause-ended c = found c.args.self.now c.args.text.now c.args.seat.now c.look_up.new.seat c.requires.weak answers.Miss (subst (Walked c.args.self.now Lookup c.args.text.now c.args.seat.now c.look_up.new.seat) c.in-Miss.is c.look_up.ensures.walked)

pub returns-in-Hit-clause-holds : goal.returns-in-Hit-clause-holds
returns-in-Hit-clause-holds c =
    found_is_created c.args.self.now.origin.table c.args.seat.now c.look_up.new.seat c.args.text.now c.in-Hit.handle (WhyFinds c.args.text.now (answers.Hit c.in-Hit.handle))
    (found c.args.self.now c.args.text.now c.args.seat.now c.look_up.new.seat c.requires.weak (answers.Hit c.in-Hit.handle) (subst (Walked c.args.self.now Lookup c.args.text.now c.args.seat.now c.look_up.new.seat) c.in-Hit.is c.look_up.ensures.walked))
