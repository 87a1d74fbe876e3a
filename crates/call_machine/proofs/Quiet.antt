-- Works, sweeps and the calls that begin them have no event that callers see.
use Rattle.std.proofs.Common.{◌≡◌, ℕ, Bool, false, List, Option, Some, None, subst, sym, rules}
use Rattle.std.specs.Prelude.{IfSome}
use Rattle.intern_log.specs.declared.event.What.{What}
use Rattle.intern_log.specs.Own.{is_visible}
use Rattle.table_shape.specs.declared.shape.Shape.{Shape}
use Rattle.atomic_step.specs.declared.answer.Answer.{Answer}
use Rattle.atomic_step.specs.declared.plan.Plan.{Plan}
use Rattle.atomic_step.specs.declared.plan.Plan.TheVariants as plan
use Rattle.atomic_step.specs.declared.step.Step.{Step}
use Rattle.atomic_step.specs.declared.step.Step.TheVariants as step
use Rattle.atomic_step.specs.Event.{event_of}
use Rattle.atomic_step.specs.Monitor as monitor
use Rattle.atomic_step.specs.Monitor.{after_one}
use Rattle.atomic_step.specs.Turn.{event_by}
use Rattle.call_machine.specs.declared.begin.BeginStage.{BeginStage}
use Rattle.call_machine.specs.declared.begin.BeginStage.TheVariants as begin
use Rattle.call_machine.specs.declared.caller.Caller.{Caller}
use Rattle.call_machine.specs.declared.clean.CleanAlong.{CleanAlong}
use Rattle.call_machine.specs.declared.clean.CleanStage.{CleanStage}
use Rattle.call_machine.specs.declared.clean.CleanStage.TheVariants as clean
use Rattle.call_machine.specs.declared.enter.EnterStage.TheVariants as enter
use Rattle.call_machine.specs.declared.find.FindStage.{FindStage}
use Rattle.call_machine.specs.declared.find.FindStage.TheVariants as find
use Rattle.call_machine.specs.declared.find.Walk.{Walk}
use Rattle.call_machine.specs.declared.grace.Grace.{Grace}
use Rattle.call_machine.specs.declared.grace.GraceStage.{GraceStage}
use Rattle.call_machine.specs.declared.grace.GraceStage.TheVariants.{RaiseCounter, LoadSection}
use Rattle.call_machine.specs.declared.lock.LockStage.{LockStage}
use Rattle.call_machine.specs.declared.lock.LockStage.TheVariants as lock
use Rattle.call_machine.specs.declared.machine.Machine.{Machine}
use Rattle.call_machine.specs.declared.machine.Machine.TheVariants as machine
use Rattle.call_machine.specs.declared.pass.Cleaning.{Cleaning}
use Rattle.call_machine.specs.declared.pass.FreeStage.{FreeStage}
use Rattle.call_machine.specs.declared.pass.FreeStage.TheVariants as free
use Rattle.call_machine.specs.declared.pass.PassStage.{PassStage}
use Rattle.call_machine.specs.declared.pass.PassStage.TheVariants as pass
use Rattle.call_machine.specs.declared.resize.Direction.{Direction}
use Rattle.call_machine.specs.declared.resize.JoinStage.TheVariants as join
use Rattle.call_machine.specs.declared.resize.ResizeAlong.{ResizeAlong}
use Rattle.call_machine.specs.declared.resize.ResizeStage.{ResizeStage}
use Rattle.call_machine.specs.declared.resize.ResizeStage.TheVariants as resize
use Rattle.call_machine.specs.declared.resize.UnzipStage.TheVariants as unzip
use Rattle.call_machine.specs.declared.sweep.SweepAlong.{SweepAlong}
use Rattle.call_machine.specs.declared.sweep.SweepAsked.{SweepAsked}
use Rattle.call_machine.specs.declared.sweep.SweepStage.{SweepStage}
use Rattle.call_machine.specs.declared.sweep.SweepStage.TheVariants as sweep
use Rattle.call_machine.specs.declared.work.Work.{Work}
use Rattle.call_machine.specs.declared.work.Work.TheVariants as work
use Rattle.call_machine.specs.Begin.{begin_plan}
use Rattle.call_machine.specs.Clean.{clean_row}
use Rattle.call_machine.specs.Find.{find_row}
use Rattle.call_machine.specs.Grace.{grace_row}
use Rattle.call_machine.specs.Lock.{lock_row}
use Rattle.call_machine.specs.Machine.{event_of as event_in, IsOfWork}
use Rattle.call_machine.specs.Pass.{pass_row, free_row}
use Rattle.call_machine.specs.Poll.{poll_plan, polling}
use Rattle.call_machine.specs.Resize.{resize_row}
use Rattle.call_machine.specs.Sweep as sweeps
use Rattle.call_machine.proofs.Machines.{plan_part, event_is}

abbrev IsHidden : Option What → Type 0
IsHidden e = IfSome e (λ e. is_visible e ≡ false)

-- a step by which no entry is made, taken, found, let go or changed
abbrev pub IsQuiet : Step → Type 0
IsQuiet (step.SeeEntry kind slot) = ⊥
IsQuiet (step.SeeHandle change h) = ⊥
IsQuiet (step.TakeEntry slot count) = ⊥
IsQuiet (step.ChangeEntry change h count) = ⊥
IsQuiet (step.CreateEntry h row bucket head) = ⊥
IsQuiet _ = Unit {0}

hides : (text : List ℕ) (s : Step) (word : ℕ) → IsQuiet s → IsHidden (event_of text s word)
hides text s word is = search rules

-- a step by which the resize lock is not taken or given back, and no level is stored
abbrev pub IsAway : Step → Type 0
IsAway (step.TakeResizeLock number) = ⊥
IsAway step.GiveResizeLock = ⊥
IsAway (step.StoreLevel level) = ⊥
IsAway _ = Unit {0}

pub away : (text : List ℕ) (s : Step) (word : ℕ) (has : Bool) → IsAway s → after_one monitor.resize has (event_of text s word) ≡ Some has
away text s word has is = search rules

-- the steps of each family
abbrev pub IsInner : Step → Type 0
IsInner s = IsQuiet s × IsAway s

pub lock_quiet : (row bucket : ℕ) (s : LockStage) → IsInner (lock_row row bucket s).step
lock_quiet row bucket lock.LoadHead = (tt, tt)
lock_quiet row bucket (lock.LockHead head) = (tt, tt)

pub pass_quiet : (c : Cleaning) (s : PassStage) → IsInner (pass_row c s).step
pass_quiet c (pass.LoadCount slot) = (tt, tt)
pass_quiet c (pass.LoadLink slot None) = (tt, tt)
pass_quiet c (pass.LoadLink slot (Some g)) = (tt, tt)
pass_quiet c (pass.Unlink slot g next) = (tt, tt)

pub free_quiet : (c : Cleaning) (s : FreeStage) → IsInner (free_row c s).step
free_quiet c (free.PutNextGeneration at) = (tt, tt)
free_quiet c (free.FreeSlot at) = (tt, tt)

pub grace_quiet : (seats : ℕ) (g : Grace) (s : GraceStage) → IsInner (grace_row seats g s).step
grace_quiet seats g RaiseCounter = (tt, tt)
grace_quiet seats g LoadSection = (tt, tt)

pub find_quiet : (number hash : ℕ) (walk : Walk) (s : FindStage) → IsInner (find_row number hash walk s).step
find_quiet number hash walk (find.Enter enter.LoadCounter) = (tt, tt)
find_quiet number hash walk (find.Enter (enter.OpenSection counter)) = (tt, tt)
find_quiet number hash walk find.LoadLevel = (tt, tt)
find_quiet number hash walk _ = (tt, tt)

clean_quiet : (shape : Shape) (w : CleanAlong) (s : CleanStage) → IsQuiet (clean_row shape w s).step
clean_quiet shape w (clean.Lock s) = (lock_quiet w.cleaning.row w.cleaning.bucket s).0
clean_quiet shape w (clean.Pass s) = (pass_quiet w.cleaning s).0
clean_quiet shape w (clean.Grace freeing s) = (grace_quiet shape.seats w.grace s).0
clean_quiet shape w (clean.Free freeing s) = (free_quiet w.cleaning s).0
clean_quiet shape w _ = tt

resize_quiet : (shape : Shape) (d : Direction) (w : ResizeAlong) (s : ResizeStage) → IsQuiet (resize_row shape d w s).step
resize_quiet shape d w (resize.Lock side s) = (lock_quiet w.level _ s).0
resize_quiet shape d w (resize.Unzip (unzip.LoadMeta x)) = tt
resize_quiet shape d w (resize.Unzip (unzip.LoadLink x side)) = tt
resize_quiet shape d w (resize.Unzip (unzip.MoveEdge x side next)) = tt
resize_quiet shape d w (resize.Join (join.LoadLink x)) = tt
resize_quiet shape d w (resize.Join (join.JoinChains x)) = tt
resize_quiet shape d w (resize.Grace after s) = (grace_quiet shape.seats w.grace s).0
resize_quiet shape d w _ = tt

-- the plan of a work, a sweep and a beginning
abbrev IsQuietPlan : Plan → Type 0
IsQuietPlan (plan.Step s) = IsQuiet s
IsQuietPlan (plan.Answered a) = Unit {0}

poll_quiet : (caller : Caller) (w : Work) (a : Option Answer) → IsQuietPlan (poll_plan (polling caller (w, a)))
poll_quiet caller w (Some a) = tt
poll_quiet caller (work.Clean c) None = clean_quiet caller.shape c.along c.stage
poll_quiet caller (work.Resize r) None = resize_quiet caller.shape r.direction r.along r.stage

sweep_quiet : (q : SweepAsked) (w : SweepAlong) (s : SweepStage) → IsQuietPlan (sweeps.plan_at q w s)
sweep_quiet q w (sweep.Find s) = (find_quiet q.caller.number q.hash w.walk s).0
sweep_quiet q w (sweep.Pass s) = (pass_quiet w.cleaning s).0
sweep_quiet q w (sweep.Grace s) = (grace_quiet q.caller.shape.seats w.grace s).0
sweep_quiet q w (sweep.Free s) = (free_quiet w.cleaning s).0
sweep_quiet q w _ = tt

begin_quiet : (caller : Caller) (s : BeginStage) → IsQuietPlan (begin_plan (record { caller = caller; stage = s }))
begin_quiet caller (begin.Grace g s) = (grace_quiet caller.shape.seats g s).0
begin_quiet caller _ = tt

part_quiet : (m : Machine) → IsOfWork m → IsQuietPlan (plan_part m)
part_quiet (machine.Call c w g) is = absurd is
part_quiet (machine.Begin b) is = begin_quiet b.caller b.stage
part_quiet (machine.Poll p) is = poll_quiet p.caller p.work p.answer
part_quiet (machine.Sweep s) is = sweep_quiet s.asked s.along s.stage

plan_hides : (text : List ℕ) (p : Plan) (word : ℕ) → IsQuietPlan p → IsHidden (event_by text p word)
plan_hides text (plan.Answered a) word is = tt
plan_hides text (plan.Step s) word is = hides text s word is

pub hidden_law : (m : Machine) (word : ℕ) → IsOfWork m → IsHidden (event_in m word)
hidden_law m word is = subst IsHidden (sym (event_is m word)) (plan_hides _ (plan_part m) word (part_quiet m is))
