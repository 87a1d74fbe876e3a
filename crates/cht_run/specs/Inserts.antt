-- Where an intern comes to that makes an entry, by what its stages find.
use Rattle.std.specs.Prelude.{ℕ, Bool, true, false, Option, Some, None}
use Rattle.intern_log.specs.declared.event.Handle.{Handle}
use Rattle.atomic_step.specs.declared.answer.Answer.{Answer}
use Rattle.atomic_step.specs.declared.answer.Answer.TheVariants as answer
use Rattle.call_machine.specs.declared.insert.InsertStage.TheVariants as insert
use Rattle.call_machine.specs.declared.stage.Along.{Along}
use Rattle.call_machine.specs.declared.stage.Asked.{Asked}
use Rattle.call_machine.specs.declared.stage.CallStage.{CallStage}
use Rattle.call_machine.specs.declared.stage.CallStage.TheVariants as stage
use Rattle.call_machine.specs.declared.stage.Goal.{Goal}
use Rattle.call_machine.specs.Insert.{not_claimed, not_created}
use Rattle.call_machine.specs.Leave.{leaves_with}

-- a slot was claimed, or was not free
abbrev pub claimed : Asked → Along → ℕ → ℕ → Bool → CallStage
claimed q w slot tried true = stage.Insert (insert.OwnCount slot)
claimed q w slot tried false = not_claimed q w slot tried

-- one of all slots was claimed, or none was free
abbrev pub claimed_any : Along → Option ℕ → CallStage
claimed_any w None = leaves_with w.kept answer.NoSlot
claimed_any w (Some slot) = stage.Insert (insert.OwnCount slot)

-- the head was exchanged, or another was faster
abbrev pub created : Along → Goal → Handle → Option Answer → Along × CallStage
created w g h None = (record w { kept = None }, leaves_with None (answer.Created h))
created w g h (Some a) = not_created w g h a
