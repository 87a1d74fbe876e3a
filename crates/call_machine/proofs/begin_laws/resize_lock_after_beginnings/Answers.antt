use Rattle.call_machine.proofs.Beginnings.{work_law}
use Rattle.call_machine.proofs.begin_laws.resize_lock_after_beginnings.Goals as goal

-- src/begin_laws.rt:35:1
pub returns-clause-work : goal.returns-clause-work
returns-clause-work c = λ caller task words a left by. (work_law caller task words a left by).0

-- src/begin_laws.rt:35:1
pub returns-clause-left : goal.returns-clause-left
returns-clause-left c = λ caller task words a left by. (work_law caller task words a left by).1
