use Rattle.std.proofs.Common.{subst}
use Rattle.call_machine.specs.declared.stage.Goal.TheVariants.{Intern}
use Rattle.cht_run.specs.declared.intern.TryIntern.TheVariants as answers
use Rattle.cht_run.specs.Walked.{Walked}
use Rattle.cht_run.proofs.Walking.{interned}
use Rattle.cht_run.proofs.Holding.{taken_is_held, made_is_held}
use Rattle.cht_run.proofs.table.Cht.try_intern.Goals as goal

pub returns-in-Taken-clause-ended : goal.returns-in-Taken-clause-ended
returns-in-Taken-clause-ended c = interned c.args.self.now c.args.text.now c.args.seat.now c.intern_once.new.seat (answers.Taken c.in-Taken.handle) tt (subst (Walked c.args.self.now Intern c.args.text.now c.args.seat.now c.intern_once.new.seat) c.in-Taken.is c.intern_once.ensures.walked)

pub returns-in-Taken-clause-holds : goal.returns-in-Taken-clause-holds
returns-in-Taken-clause-holds c = taken_is_held c.args.self.now Intern c.args.text.now c.args.seat.now c.intern_once.new.seat c.in-Taken.handle (subst (Walked c.args.self.now Intern c.args.text.now c.args.seat.now c.intern_once.new.seat) c.in-Taken.is c.intern_once.ensures.walked)

pub returns-in-Again-clause-ended : goal.returns-in-Again-clause-ended
returns-in-Again-clause-ended c = interned c.args.self.now c.args.text.now c.args.seat.now c.intern_once.new.seat answers.Again tt (subst (Walked c.args.self.now Intern c.args.text.now c.args.seat.now c.intern_once.new.seat) c.in-Again.is c.intern_once.ensures.walked)

pub returns-in-Locked-clause-ended : goal.returns-in-Locked-clause-ended
returns-in-Locked-clause-ended c = interned c.args.self.now c.args.text.now c.args.seat.now c.intern_once.new.seat answers.Locked tt (subst (Walked c.args.self.now Intern c.args.text.now c.args.seat.now c.intern_once.new.seat) c.in-Locked.is c.intern_once.ensures.walked)

pub returns-in-NoSlot-clause-ended : goal.returns-in-NoSlot-clause-ended
returns-in-NoSlot-clause-ended c = interned c.args.self.now c.args.text.now c.args.seat.now c.intern_once.new.seat answers.NoSlot tt (subst (Walked c.args.self.now Intern c.args.text.now c.args.seat.now c.intern_once.new.seat) c.in-NoSlot.is c.intern_once.ensures.walked)

pub returns-in-Created-clause-ended : goal.returns-in-Created-clause-ended
returns-in-Created-clause-ended c = interned c.args.self.now c.args.text.now c.args.seat.now c.intern_once.new.seat (answers.Created c.in-Created.handle) tt (subst (Walked c.args.self.now Intern c.args.text.now c.args.seat.now c.intern_once.new.seat) c.in-Created.is c.intern_once.ensures.walked)

pub returns-in-Created-clause-holds : goal.returns-in-Created-clause-holds
returns-in-Created-clause-holds c = made_is_held c.args.self.now Intern c.args.text.now c.args.seat.now c.intern_once.new.seat c.in-Created.handle (subst (Walked c.args.self.now Intern c.args.text.now c.args.seat.now c.intern_once.new.seat) c.in-Created.is c.intern_once.ensures.walked)
