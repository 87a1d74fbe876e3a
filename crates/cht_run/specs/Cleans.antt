-- The poll of a clean that is under way.
use Rattle.std.specs.Prelude.{Option, Some}
use Rattle.call_machine.specs.declared.clean.Clean.{Clean}
use Rattle.call_machine.specs.declared.clean.CleanAlong.{CleanAlong}
use Rattle.call_machine.specs.declared.clean.CleanStage.TheVariants as stage
use Rattle.call_machine.specs.declared.clean.Freeing.{Freeing}
use Rattle.call_machine.specs.declared.grace.Grace.{Grace}
use Rattle.call_machine.specs.declared.grace.Gracing.{Gracing}
use Rattle.call_machine.specs.declared.pass.Cleaning.{Cleaning}
use Rattle.call_machine.specs.declared.pass.FreeStage.{FreeStage}
use Rattle.call_machine.specs.declared.pass.PassStage.{PassStage}
use Rattle.call_machine.specs.declared.lock.LockStage.TheVariants as lock
use Rattle.call_machine.specs.declared.machine.Machine.{Machine}
use Rattle.call_machine.specs.Clean.{Went, goes, raises, cleans_on, graces_on, frees_on}
use Rattle.call_machine.specs.Work.{of_clean}
use Rattle.cht_run.specs.declared.clean.CleanNext.{CleanNext}
use Rattle.cht_run.specs.declared.clean.CleanNext.TheVariants as next
use Rattle.cht_run.specs.declared.clean.CleanWent.{CleanWent}
use Rattle.cht_run.specs.declared.clean.CleanWent.TheVariants as went
use Rattle.cht_run.specs.declared.polls.PollEnd.{PollEnd}
use Rattle.cht_run.specs.declared.polls.PollEnd.TheVariants as end
use Rattle.cht_run.specs.declared.sight.Sight.{Sight}
use Rattle.cht_run.specs.Pending.{CleanPends}
use Rattle.cht_run.specs.Underway.{polled, answer_at}

-- its machine
abbrev pub cleaned : Sight → Went → Machine
cleaned b came = polled b (of_clean came)

-- its parts: a pass over the locked bucket, the freeing of the slots that wait, and the look at the sections
abbrev pub passes_in : Sight → CleanAlong → Cleaning → Option PassStage → Machine
passes_in b w = λ k s. cleaned b (goes (record w { cleaning = k }) (cleans_on s))

abbrev pub frees_in : Sight → CleanAlong → Freeing → Cleaning → Option FreeStage → Machine
frees_in b w freeing = λ k s. cleaned b (frees_on b.origin.table.shape (record w { cleaning = k }) freeing s)

abbrev pub scans_in : Sight → CleanAlong → Freeing → Grace → Gracing → Machine
scans_in b w freeing = λ g s. cleaned b (graces_on (record w { grace = g }) freeing s)

-- with what it goes on
abbrev pub comes_to : CleanAlong → CleanNext → Went
comes_to w next.Bucket = goes w (stage.Lock lock.LoadHead)
comes_to w (next.Free freeing) = raises w freeing
comes_to w next.End = goes w stage.GiveResizeLock

-- or it has ended
abbrev pub ended : Clean → PollEnd → Went
ended c end = (c.along, c.stage, Some (answer_at end))

abbrev pub went_on : Clean → CleanWent → Went
went_on c (went.Goes next) = comes_to c.along next
went_on c (went.Ends end) = ended c end

-- where the poll has ended and the clean is not done, it can be pending where it stands
abbrev pub PendsAt : Clean → PollEnd → Type 0
PendsAt c (end.Done worked) = Unit {0}
PendsAt c _ = CleanPends c.along c.stage

abbrev pub Pends : Clean → CleanWent → Type 0
Pends c (went.Goes next) = Unit {0}
Pends c (went.Ends end) = PendsAt c end

abbrev pub IsOn : CleanWent → Type 0
IsOn (went.Goes next) = Unit {0}
IsOn (went.Ends end) = ⊥

-- a new poll counts its full passes anew
abbrev pub anew : CleanAlong → CleanAlong
anew w = record w { full_passes = 0 }
