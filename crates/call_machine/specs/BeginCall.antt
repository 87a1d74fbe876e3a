-- How each call begins.
use Rattle.std.specs.Prelude.{ℕ, if◌then◌else◌, List, [], None}
use Rattle.intern_log.specs.declared.event.Handle.{Handle}
use Rattle.atomic_step.specs.declared.answer.Answer.{Answer}
use Rattle.atomic_step.specs.declared.answer.Answer.TheVariants as answer
use Rattle.call_machine.specs.declared.caller.Caller.{Caller}
use Rattle.call_machine.specs.declared.stage.Calling.{Calling}
use Rattle.call_machine.specs.declared.stage.CallStage.{CallStage}
use Rattle.call_machine.specs.declared.stage.CallStage.TheVariants as stage
use Rattle.atomic_step.specs.declared.count.Change.{Change}
use Rattle.call_machine.specs.declared.draw.DrawStage.TheVariants as draw
use Rattle.call_machine.specs.declared.find.FindStage.TheVariants as find
use Rattle.call_machine.specs.declared.stage.Goal.{Goal}
use Rattle.call_machine.specs.declared.stage.Goal.TheVariants.{Lookup}
use Rattle.call_machine.specs.declared.handle.HandleStage.TheVariants as handle
use Rattle.call_machine.specs.declared.find.Walk.{Walk}
use Rattle.call_machine.specs.Read.{first_read}
use Rattle.call_machine.specs.Sought.{is_too_long}
use Rattle.call_machine.specs.Caller.{IsSoundCaller}
use Rattle.call_machine.specs.SoundCall.{IsHandle}
use Rattle.call_machine.specs.declared.enter.EnterStage.TheVariants.{LoadCounter}

-- no walk, and the handle of a call that has none
abbrev pub no_walk : Walk
no_walk = record { row = 0; bucket = 0; head = 0; passed = 0 }

abbrev pub no_handle : Handle
no_handle = record { slot = 0; generation = 0 }

-- a call at its first stage
abbrev pub begins : Caller → Goal → List ℕ → Handle → CallStage → Calling
begins caller goal text h s =
    record {
      asked = record { kind = caller.kind; shape = caller.shape; seed = caller.seed; number = caller.number; goal = goal; text = text; handle = h };
      along = record { cursor = caller.cursor; walk = no_walk; kept = None };
      stage = s;
    }

-- a split
abbrev pub begun_split : Caller → Calling
begun_split caller = begins caller Lookup [] no_handle (stage.Draw draw.Load)

-- a look-up or an intern; a text that is too long is answered without a step
abbrev pub too_long : Goal → Answer
too_long Lookup = answer.Miss
too_long _ = answer.TooLong

abbrev pub begun_walk : Caller → Goal → List ℕ → Calling
begun_walk caller goal text =
    if is_too_long caller.shape text then begins caller goal [] no_handle (stage.Answered (too_long goal))
    else begins caller goal text no_handle (stage.Find (find.Enter LoadCounter))

-- a drop, a permanence or a kill
abbrev pub begun_change : Caller → Change → Handle → Calling
begun_change caller change h = begins caller Lookup [] h (stage.Handle (handle.Count change))

-- a reading of a handle's text
abbrev pub begun_read : Caller → Handle → Calling
begun_read caller h = begins caller Lookup [] h (stage.Read (first_read caller.kind))

-- it holds at the beginning of each call of a seat of a table, by a handle that the table can have
abbrev pub AtEachBeginning : (Calling → Type 0) → Type 0
AtEachBeginning P = (caller : Caller) (goal : Goal) (text : List ℕ) (change : Change) (h : Handle) → IsSoundCaller caller → IsHandle caller.shape h →
    P (begun_split caller) × P (begun_walk caller goal text) × P (begun_change caller change h) × P (begun_read caller h)
