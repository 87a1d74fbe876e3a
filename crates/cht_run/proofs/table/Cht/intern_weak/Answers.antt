use Rattle.std.proofs.Common.{subst}
use Rattle.call_machine.specs.declared.stage.Goal.TheVariants.{InternWait}
use Rattle.cht_run.specs.Walked.{Walked}
use Rattle.cht_run.proofs.Holding.{made_is_created}
use Rattle.cht_run.proofs.InternWaits.{finds_weak, makes_weak, no_slot_weak}
use Rattle.cht_run.specs.declared.intern_wait.InternedWeak.TheVariants as answers
use Rattle.cht_run.specs.InternWaits.{WhyInternsWeakWaiting}
use Rattle.cht_run.proofs.FoundHandles.{found_is_created}
use Rattle.cht_run.proofs.table.Cht.intern_weak.Goals as goal

pub returns-in-Found-clause-ended : goal.returns-in-Found-clause-ended
returns-in-Found-clause-ended g c = finds_weak c.args.self.now c.args.text.now c.args.seat.now c.intern_wait.new.seat c.in-Found.handle (subst (Walked c.args.self.now InternWait c.args.text.now c.args.seat.now c.intern_wait.new.seat) c.in-Found.is c.intern_wait.ensures.walked)

pub returns-in-NoSlot-clause-ended : goal.returns-in-NoSlot-clause-ended
returns-in-NoSlot-clause-ended g c = no_slot_weak c.args.self.now c.args.text.now c.args.seat.now c.intern_wait.new.seat (subst (Walked c.args.self.now InternWait c.args.text.now c.args.seat.now c.intern_wait.new.seat) c.in-NoSlot.is c.intern_wait.ensures.walked)

pub returns-in-Created-clause-ended : goal.returns-in-Created-clause-ended
returns-in-Created-clause-ended g c = makes_weak c.args.self.now c.args.text.now c.args.seat.now c.intern_wait.new.seat c.in-Created.handle (subst (Walked c.args.self.now InternWait c.args.text.now c.args.seat.now c.intern_wait.new.seat) c.in-Created.is c.intern_wait.ensures.walked)

pub returns-in-Created-clause-holds : goal.returns-in-Created-clause-holds
returns-in-Created-clause-holds g c = made_is_created c.args.self.now InternWait c.args.text.now c.args.seat.now c.intern_wait.new.seat c.in-Created.handle (subst (Walked c.args.self.now InternWait c.args.text.now c.args.seat.now c.intern_wait.new.seat) c.in-Created.is c.intern_wait.ensures.walked)

pub returns-in-Found-clause-holds : goal.returns-in-Found-clause-holds
returns-in-Found-clause-holds g c =
    found_is_created c.args.self.now.origin.table c.args.seat.now c.intern_wait.new.seat c.args.text.now c.in-Found.handle (WhyInternsWeakWaiting c.args.self.now.origin.table c.args.text.now (answers.Found c.in-Found.handle))
    (finds_weak c.args.self.now c.args.text.now c.args.seat.now c.intern_wait.new.seat c.in-Found.handle (subst (Walked c.args.self.now InternWait c.args.text.now c.args.seat.now c.intern_wait.new.seat) c.in-Found.is c.intern_wait.ensures.walked))
