use Rattle.std.proofs.Common.{subst}
use Rattle.call_machine.specs.declared.stage.Goal.TheVariants.{Lookup}
use Rattle.cht_run.specs.declared.lookup.TryLookup.TheVariants as answers
use Rattle.cht_run.specs.Walked.{Walked}
use Rattle.cht_run.proofs.Holding.{hit_is_held}
use Rattle.cht_run.proofs.Walking.{looked_up}
use Rattle.cht_run.proofs.table.Cht.try_lookup.Goals as goal

pub returns-in-Hit-clause-ended : goal.returns-in-Hit-clause-ended
returns-in-Hit-clause-ended c = looked_up c.args.self.now c.args.text.now c.args.seat.now c.look_up.new.seat c.requires.counted (answers.Hit c.in-Hit.handle) (subst (Walked c.args.self.now Lookup c.args.text.now c.args.seat.now c.look_up.new.seat) c.in-Hit.is c.look_up.ensures.walked)

pub returns-in-Miss-clause-ended : goal.returns-in-Miss-clause-ended
returns-in-Miss-clause-ended c = looked_up c.args.self.now c.args.text.now c.args.seat.now c.look_up.new.seat c.requires.counted answers.Miss (subst (Walked c.args.self.now Lookup c.args.text.now c.args.seat.now c.look_up.new.seat) c.in-Miss.is c.look_up.ensures.walked)

pub returns-in-Again-clause-ended : goal.returns-in-Again-clause-ended
returns-in-Again-clause-ended c = looked_up c.args.self.now c.args.text.now c.args.seat.now c.look_up.new.seat c.requires.counted answers.Again (subst (Walked c.args.self.now Lookup c.args.text.now c.args.seat.now c.look_up.new.seat) c.in-Again.is c.look_up.ensures.walked)

pub returns-in-Hit-clause-holds : goal.returns-in-Hit-clause-holds
returns-in-Hit-clause-holds c = hit_is_held c.args.self.now c.args.text.now c.args.seat.now c.look_up.new.seat c.in-Hit.handle c.requires.counted (subst (Walked c.args.self.now Lookup c.args.text.now c.args.seat.now c.look_up.new.seat) c.in-Hit.is c.look_up.ensures.walked)
