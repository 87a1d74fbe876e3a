use Rattle.std.proofs.Common.{subst}
use Rattle.call_machine.specs.declared.stage.Goal.TheVariants.{Intern}
use Rattle.cht_run.specs.declared.intern.TryInternWeak.TheVariants as answers
use Rattle.cht_run.specs.Walked.{Walked}
use Rattle.cht_run.proofs.Walking.{interned_weak}
use Rattle.cht_run.proofs.Holding.{made_is_created}
use Rattle.cht_run.specs.Interns.{WhyInternsWeak}
use Rattle.cht_run.proofs.FoundHandles.{found_is_created}
use Rattle.cht_run.proofs.table.Cht.try_intern_weak.Goals as goal

pub returns-in-Found-clause-ended : goal.returns-in-Found-clause-ended
returns-in-Found-clause-ended c = interned_weak c.args.self.now c.args.text.now c.args.seat.now c.intern_once.new.seat c.requires.weak (answers.Found c.in-Found.handle) tt (subst (Walked c.args.self.now Intern c.args.text.now c.args.seat.now c.intern_once.new.seat) c.in-Found.is c.intern_once.ensures.walked)

pub returns-in-Again-clause-ended : goal.returns-in-Again-clause-ended
returns-in-Again-clause-ended c = interned_weak c.args.self.now c.args.text.now c.args.seat.now c.intern_once.new.seat c.requires.weak answers.Again tt (subst (Walked c.args.self.now Intern c.args.text.now c.args.seat.now c.intern_once.new.seat) c.in-Again.is c.intern_once.ensures.walked)

pub returns-in-Locked-clause-ended : goal.returns-in-Locked-clause-ended
returns-in-Locked-clause-ended c = interned_weak c.args.self.now c.args.text.now c.args.seat.now c.intern_once.new.seat c.requires.weak answers.Locked tt (subst (Walked c.args.self.now Intern c.args.text.now c.args.seat.now c.intern_once.new.seat) c.in-Locked.is c.intern_once.ensures.walked)

pub returns-in-NoSlot-clause-ended : goal.returns-in-NoSlot-clause-ended
returns-in-NoSlot-clause-ended c = interned_weak c.args.self.now c.args.text.now c.args.seat.now c.intern_once.new.seat c.requires.weak answers.NoSlot tt (subst (Walked c.args.self.now Intern c.args.text.now c.args.seat.now c.intern_once.new.seat) c.in-NoSlot.is c.intern_once.ensures.walked)

pub returns-in-Created-clause-ended : goal.returns-in-Created-clause-ended
returns-in-Created-clause-ended c = interned_weak c.args.self.now c.args.text.now c.args.seat.now c.intern_once.new.seat c.requires.weak (answers.Created c.in-Created.handle) tt (subst (Walked c.args.self.now Intern c.args.text.now c.args.seat.now c.intern_once.new.seat) c.in-Created.is c.intern_once.ensures.walked)

pub returns-in-Created-clause-holds : goal.returns-in-Created-clause-holds
returns-in-Created-clause-holds c = made_is_created c.args.self.now Intern c.args.text.now c.args.seat.now c.intern_once.new.seat c.in-Created.handle (subst (Walked c.args.self.now Intern c.args.text.now c.args.seat.now c.intern_once.new.seat) c.in-Created.is c.intern_once.ensures.walked)

pub returns-in-Found-clause-holds : goal.returns-in-Found-clause-holds
returns-in-Found-clause-holds c =
    found_is_created c.args.self.now.origin.table c.args.seat.now c.intern_once.new.seat c.args.text.now c.in-Found.handle (WhyInternsWeak c.args.self.now.origin.table c.args.seat.now.number c.args.text.now (answers.Found c.in-Found.handle))
    (interned_weak c.args.self.now c.args.text.now c.args.seat.now c.intern_once.new.seat c.requires.weak (answers.Found c.in-Found.handle) tt (subst (Walked c.args.self.now Intern c.args.text.now c.args.seat.now c.intern_once.new.seat) c.in-Found.is c.intern_once.ensures.walked))
