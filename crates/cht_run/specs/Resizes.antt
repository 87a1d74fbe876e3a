-- The poll of a grow or a shrink that is under way.
use Rattle.std.specs.Prelude.{Some}
use Rattle.call_machine.specs.declared.grace.Grace.{Grace}
use Rattle.call_machine.specs.declared.grace.Gracing.{Gracing}
use Rattle.call_machine.specs.declared.lock.LockStage.TheVariants as lock
use Rattle.call_machine.specs.declared.machine.Machine.{Machine}
use Rattle.call_machine.specs.declared.resize.AfterGrace.{AfterGrace}
use Rattle.call_machine.specs.declared.resize.Direction.{Direction}
use Rattle.call_machine.specs.declared.resize.Resize.{Resize}
use Rattle.call_machine.specs.declared.resize.ResizeAlong.{ResizeAlong}
use Rattle.call_machine.specs.declared.resize.ResizeStage.{ResizeStage}
use Rattle.call_machine.specs.declared.resize.ResizeStage.TheVariants as stage
use Rattle.call_machine.specs.declared.work.Work.TheVariants as work
use Rattle.call_machine.specs.Resize.{Went, goes, graces_on, unzips_on}
use Rattle.cht_run.specs.declared.polls.PollEnd.{PollEnd}
use Rattle.cht_run.specs.declared.polls.PollEnd.TheVariants as end
use Rattle.cht_run.specs.declared.resize.ResizeNext.{ResizeNext}
use Rattle.cht_run.specs.declared.resize.ResizeNext.TheVariants as next
use Rattle.cht_run.specs.declared.resize.ResizeWent.{ResizeWent}
use Rattle.cht_run.specs.declared.resize.ResizeWent.TheVariants as went
use Rattle.cht_run.specs.declared.sight.Sight.{Sight}
use Rattle.cht_run.specs.Pending.{ResizePends}
use Rattle.cht_run.specs.Underway.{polled, answer_at}

-- its machine, by its direction
abbrev pub resized : Sight → Direction → Went → Machine
resized b d came = polled b (work.Resize (record { direction = d; along = came.0; stage = came.1 }), came.2)

-- its machine while the sections are looked at, by the grace and by what came of the last one
abbrev pub scans_in : Sight → Direction → ResizeAlong → AfterGrace → Grace → Gracing → Machine
scans_in b d w then_do = λ grace came. resized b d (graces_on (record w { grace = grace }) then_do came)

-- with what it goes on
abbrev pub comes_to : ResizeAlong → ResizeNext → Went
comes_to w (next.Bucket side) = goes w (stage.Lock side lock.LoadHead)
comes_to w (next.Chain first) = goes w (unzips_on first)
comes_to w next.Level = goes w stage.StoreLevel
comes_to w next.End = goes w stage.ClearNewLevel

-- or its poll has ended at a stage
abbrev pub ended_at : ResizeAlong → ResizeStage → PollEnd → Went
ended_at w s end = (w, s, Some (answer_at end))

abbrev pub went_on : ResizeAlong → ResizeWent → Went
went_on w (went.Goes next) = comes_to w next
went_on w (went.Ends s end) = ended_at w s end

-- the poll has ended
abbrev pub ended : Resize → PollEnd → Went
ended r end = ended_at r.along r.stage end

-- where it has ended and the resize is not done, it can be pending where it stands
abbrev pub PendsWith : ResizeAlong → ResizeStage → PollEnd → Type 0
PendsWith w s (end.Done worked) = Unit {0}
PendsWith w s _ = ResizePends w s

abbrev pub PendsAt : Resize → PollEnd → Type 0
PendsAt r end = PendsWith r.along r.stage end

abbrev pub Pends : ResizeAlong → ResizeWent → Type 0
Pends w (went.Goes next) = Unit {0}
Pends w (went.Ends s end) = PendsWith w s end
