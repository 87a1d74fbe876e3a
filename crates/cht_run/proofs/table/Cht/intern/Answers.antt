use Rattle.std.proofs.Common.{subst}
use Rattle.call_machine.specs.declared.stage.Goal.TheVariants.{InternWait}
use Rattle.cht_run.specs.Walked.{Walked}
use Rattle.cht_run.proofs.Gives.{made_gives, taken_gives}
use Rattle.cht_run.proofs.Holding.{made_is_held, taken_is_held}
use Rattle.cht_run.proofs.InternWaits.{makes, no_slot, takes}
use Rattle.cht_run.proofs.table.Cht.intern.Goals as goal

pub returns-in-Taken-clause-ended : goal.returns-in-Taken-clause-ended
returns-in-Taken-clause-ended g c = takes c.args.self.now c.args.text.now c.args.seat.now c.intern_wait.new.seat c.in-Taken.handle (subst (Walked c.args.self.now InternWait c.args.text.now c.args.seat.now c.intern_wait.new.seat) c.in-Taken.is c.intern_wait.ensures.walked)

pub returns-in-Taken-clause-holds : goal.returns-in-Taken-clause-holds
returns-in-Taken-clause-holds g c = taken_is_held c.args.self.now InternWait c.args.text.now c.args.seat.now c.intern_wait.new.seat c.in-Taken.handle (subst (Walked c.args.self.now InternWait c.args.text.now c.args.seat.now c.intern_wait.new.seat) c.in-Taken.is c.intern_wait.ensures.walked)

pub returns-in-NoSlot-clause-ended : goal.returns-in-NoSlot-clause-ended
returns-in-NoSlot-clause-ended g c = no_slot c.args.self.now c.args.text.now c.args.seat.now c.intern_wait.new.seat (subst (Walked c.args.self.now InternWait c.args.text.now c.args.seat.now c.intern_wait.new.seat) c.in-NoSlot.is c.intern_wait.ensures.walked)

pub returns-in-Created-clause-ended : goal.returns-in-Created-clause-ended
returns-in-Created-clause-ended g c = makes c.args.self.now c.args.text.now c.args.seat.now c.intern_wait.new.seat c.in-Created.handle (subst (Walked c.args.self.now InternWait c.args.text.now c.args.seat.now c.intern_wait.new.seat) c.in-Created.is c.intern_wait.ensures.walked)

pub returns-in-Created-clause-holds : goal.returns-in-Created-clause-holds
returns-in-Created-clause-holds g c = made_is_held c.args.self.now InternWait c.args.text.now c.args.seat.now c.intern_wait.new.seat c.in-Created.handle (subst (Walked c.args.self.now InternWait c.args.text.now c.args.seat.now c.intern_wait.new.seat) c.in-Created.is c.intern_wait.ensures.walked)

pub returns-in-Taken-clause-gives : goal.returns-in-Taken-clause-gives
returns-in-Taken-clause-gives g c = taken_gives c.args.self.now InternWait c.args.text.now c.args.seat.now c.intern_wait.new.seat c.in-Taken.handle (subst (Walked c.args.self.now InternWait c.args.text.now c.args.seat.now c.intern_wait.new.seat) c.in-Taken.is c.intern_wait.ensures.walked)

pub returns-in-Created-clause-gives : goal.returns-in-Created-clause-gives
returns-in-Created-clause-gives g c = made_gives c.args.self.now InternWait c.args.text.now c.args.seat.now c.intern_wait.new.seat c.in-Created.handle (subst (Walked c.args.self.now InternWait c.args.text.now c.args.seat.now c.intern_wait.new.seat) c.in-Created.is c.intern_wait.ensures.walked)
