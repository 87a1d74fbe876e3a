-- What the clean and the sweep of a seat have found goes on, as its call begins, as it has answered, and while others make steps.
use Rattle.std.proofs.Common.{◌≡◌, ◌≢◌, ◌⊎◌, Bool, false, ℕ, ◌<◌, ◌≤◌, List, [], ◌∷◌, ◌++◌, length, Option, Some, None, IfSome, refl, ◌∙◌, arith}
use Rattle.intern_log.specs.declared.event.Event.{Event}
use Rattle.intern_log.specs.declared.event.What.{What}
use Rattle.intern_log.specs.declared.event.What.TheVariants as what
use Rattle.intern_log.specs.Now.{Now}
use Rattle.atomic_step.specs.declared.answer.Answer.{Answer}
use Rattle.atomic_step.specs.declared.answer.Answer.TheVariants as answer
use Rattle.call_machine.specs.declared.begin.Left.{Left}
use Rattle.call_machine.specs.declared.begin.Left.TheVariants as left
use Rattle.call_machine.specs.declared.call.Call.{Call}
use Rattle.call_machine.specs.declared.call.Call.TheVariants as call
use Rattle.call_machine.specs.declared.caller.Caller.{Caller}
use Rattle.call_machine.specs.declared.clean.CleanAlong.{CleanAlong}
use Rattle.call_machine.specs.declared.clean.CleanStage.{CleanStage}
use Rattle.call_machine.specs.declared.clean.CleanStage.TheVariants as clean
use Rattle.call_machine.specs.declared.grace.Grace as graces
use Rattle.call_machine.specs.declared.grace.GraceStage.TheVariants.{RaiseCounter, LoadSection}
use Rattle.call_machine.specs.declared.machine.Machine.{Machine}
use Rattle.call_machine.specs.declared.machine.Machine.TheVariants as machine
use Rattle.call_machine.specs.declared.machine.Own.{Own}
use Rattle.call_machine.specs.declared.pass.Cleaning.{Cleaning}
use Rattle.call_machine.specs.declared.pass.PassStage.{PassStage}
use Rattle.call_machine.specs.declared.pass.PassStage.TheVariants as pass
use Rattle.call_machine.specs.declared.resize.Resize.{Resize}
use Rattle.call_machine.specs.declared.sweep.Closing.TheVariants as closing
use Rattle.call_machine.specs.declared.sweep.SweepAlong.{SweepAlong}
use Rattle.call_machine.specs.declared.sweep.SweepAsked.{SweepAsked}
use Rattle.call_machine.specs.declared.sweep.SweepStage.{SweepStage}
use Rattle.call_machine.specs.declared.sweep.SweepStage.TheVariants as sweep
use Rattle.call_machine.specs.declared.work.Work.{Work}
use Rattle.call_machine.specs.declared.work.Work.TheVariants as work
use Rattle.call_machine.specs.Begin.{left_of}
use Rattle.call_machine.specs.Clean as cleans
use Rattle.call_machine.specs.Machine.{starts, begun_work_poll, begun_grace_poll, own_of}
use Rattle.call_machine.specs.Poll.{work_left}
use Rattle.call_machine.specs.Work.{resumes, begun_work}
use Rattle.cht_core.specs.declared.seat.Seat.{Seat}
use Rattle.cht_core.specs.declared.seat.Seat.TheVariants as doing
use Rattle.cht_core.specs.declared.table.Table.{Table}
use Rattle.cht_core.specs.Bounds.{work_of}
use Rattle.cht_core.specs.Flow.{Flow, IsUsed}
use Rattle.cht_core.specs.Invariant.{events_of}
use Rattle.cht_core.specs.KnowsWork.{KnowsPass, KnowsCleaning, KnowsSweep, KnowsWork, Locked}
use Rattle.cht_core.specs.Memory.{Memory}
use Rattle.cht_core.specs.Passes.{WereLiveSince, IsAny, IsOfBucket, IsOnList, AreDone, IsDoneToo, FreesAfter, SinceTaken, SweepsAll, SweptAll, CleanFinds, SweepFinds, PassAt, PassFinds, PollFinds, WorkFinds, CallFinds, PassesFind, is_taken, is_lock}
use Rattle.cht_core.specs.Past.{Past, past_of, told}
use Rattle.cht_core.specs.View.{View, Knows}
use Rattle.cht_core.proofs.CleanFound.{AnswerFinds, held_finds, left_finds, done_told, bucket_told, frees_told, since_told}
use Rattle.cht_core.proofs.FewSeats.{if_some, known_work}
use Rattle.cht_core.proofs.LiveSince.{were_live_told}

-- the bucket of a pass is locked
pass_locked : (m : Memory) (n : Now) (f : Flow) (i : ℕ) (c : Cleaning) (s : PassStage) → KnowsPass m n f i c s → Locked m n f i c.row c.bucket c.first
pass_locked m n f i c (pass.LoadCount s) known = known.0
pass_locked m n f i c (pass.LoadLink s None) known = known.0
pass_locked m n f i c (pass.LoadLink s (Some g)) known = known.0.0
pass_locked m n f i c (pass.Unlink s g next) known = known.0.0

-- WHAT STAYS

module _ (t : Table) (m : Memory) (log : List Event) (f f' : Flow) (i j : ℕ) (e : Option What) (seed : (told (past_of t.shape.min_level log) j e).now.seed ≡ (past_of t.shape.min_level log).now.seed) where
  abbrev p : Past
  p = past_of t.shape.min_level log

  abbrev p' : Past
  p' = told p j e

  abbrev longer : List Event
  longer = log ++ events_of j e

  -- the event is of another seat, or is none of a kind
  abbrev IsOther : (What → Bool) → Type 0
  IsOther passes = (j ≢ i) ⊎ IfSome e (λ w. passes w ≡ false)

  -- a pass over a chain that stays
  at_stays : (c : Cleaning) (at s uncounted : ℕ) → f'.chain c.row c.bucket ≡ f.chain c.row c.bucket → at ≤ length log → PassAt t p.now log f at c s uncounted → PassAt t p'.now longer f' at c s uncounted
  at_stays c at s uncounted same early h =
      record { before = h.before; behind = h.behind; chain = same ∙ h.chain; live = were_live_told t.shape.min_level log j e at (IsOnList h.before) early h.live; few = h.few }

  pass_stays : (c : Cleaning) (s : PassStage) (at : ℕ) → f'.chain c.row c.bucket ≡ f.chain c.row c.bucket → at ≤ length log → PassFinds t p.now log f at c s → PassFinds t p'.now longer f' at c s
  pass_stays c (pass.LoadCount s) at same early h = at_stays c at s 1 same early h
  pass_stays c (pass.LoadLink s None) at same early h = (at_stays c at s 0 same early h.0, were_live_told t.shape.min_level log j e at (IsOnList (s ∷ [])) early h.1)
  pass_stays c (pass.LoadLink s (Some g)) at same early h = at_stays c at s 0 same early h
  pass_stays c (pass.Unlink s g next) at same early h = at_stays c at s 0 same early h

  -- what was found since the seat took the resize lock
  taken_stays : (Holds Holds' : ℕ → Type 0) → IsOther is_taken → ((at : ℕ) → at ≤ length log → Holds at → Holds' at) → SinceTaken i log Holds → SinceTaken i longer Holds'
  taken_stays Holds Holds' other over since = since_told t.shape.min_level log j e is_taken i what.ResizeTaken Holds Holds' other over since

  all_stays : IsOther is_taken → SinceTaken i log (λ at. WereLiveSince p.now log at IsAny) → SinceTaken i longer (λ at. WereLiveSince p'.now longer at IsAny)
  all_stays other since = taken_stays (λ at. WereLiveSince p.now log at IsAny) (λ at. WereLiveSince p'.now longer at IsAny) other (λ at early all. were_live_told t.shape.min_level log j e at IsAny early all) since

  module _ (chains : (row bucket : ℕ) → IsUsed p.now f row bucket → p.now.lock row bucket ≡ Some i → f'.chain row bucket ≡ f.chain row bucket) where
    -- a locked chain stays
    chain_stays : (c : Cleaning) (s : PassStage) → KnowsPass m p.now f i c s → f'.chain c.row c.bucket ≡ f.chain c.row c.bucket
    chain_stays c s known = let locked = pass_locked m p.now f i c s known in chains c.row c.bucket locked.used locked.lock

    -- a clean
    clean_stays : IsOther is_taken → (w : CleanAlong) (s : CleanStage) → KnowsCleaning m p f i w s → CleanFinds t p.now log f i w.cleaning s → CleanFinds t p'.now longer f' i w.cleaning s
    clean_stays other w clean.LoadLevel known finds = tt
    clean_stays other w (clean.Lock s) known finds = taken_stays (AreDone p.now log w.cleaning) (AreDone p'.now longer w.cleaning) other
        (λ at early done. done_told t.shape.min_level log j e seed w.cleaning w.cleaning refl refl at early done) finds
    clean_stays other w (clean.Pass s) known finds =
        taken_stays (λ at. AreDone p.now log w.cleaning at × PassFinds t p.now log f at w.cleaning s) (λ at. AreDone p'.now longer w.cleaning at × PassFinds t p'.now longer f' at w.cleaning s) other
        (λ at early both. (done_told t.shape.min_level log j e seed w.cleaning w.cleaning refl refl at early both.0, pass_stays w.cleaning s at (chain_stays w.cleaning s known.1) early both.1)) finds
    clean_stays other w clean.UnlockHead known finds = taken_stays (IsDoneToo p.now log w.cleaning) (IsDoneToo p'.now longer w.cleaning) other (λ at early done. (
      done_told t.shape.min_level log j e seed w.cleaning w.cleaning refl refl at early done.0,
      λ few. bucket_told t.shape.min_level log j e seed w.cleaning w.cleaning refl refl at early (done.1 few),
    )) finds
    clean_stays other w (clean.Grace freeing s) known finds = taken_stays (FreesAfter p.now log w.cleaning freeing) (FreesAfter p'.now longer w.cleaning freeing) other
        (λ at early done. frees_told t.shape.min_level log j e seed w.cleaning w.cleaning refl refl at early freeing done) finds
    clean_stays other w (clean.Free freeing s) known finds = taken_stays (FreesAfter p.now log w.cleaning freeing) (FreesAfter p'.now longer w.cleaning freeing) other
        (λ at early done. frees_told t.shape.min_level log j e seed w.cleaning w.cleaning refl refl at early freeing done) finds
    clean_stays other w clean.GiveResizeLock known finds = all_stays other finds

    pub work_finds_stay : IsOther is_taken → (w : Work) → KnowsWork m p f i w → WorkFinds t p.now log f i w → WorkFinds t p'.now longer f' i w
    work_finds_stay other (work.Clean c) known finds = (finds.0, clean_stays other c.along c.stage known.1 finds.1)
    work_finds_stay other (work.Resize r) known finds = tt

    poll_stays : IsOther is_taken → (w : Work) (o : Option Answer) → PollFinds t p.now log i w o → PollFinds t p'.now longer i w o
    poll_stays other (work.Clean c) (Some (answer.Done did)) finds = (finds.0, all_stays other finds.1)
    poll_stays other (work.Clean c) (Some _) finds = tt
    poll_stays other (work.Clean c) None finds = tt
    poll_stays other (work.Resize r) o finds = tt

    -- a sweep
    module _ (other : IsOther is_lock) where
      sweeps_stay : (c : Cleaning) (unlinked : ℕ) → SweepsAll p.now log i c unlinked → SweepsAll p'.now longer i c unlinked
      sweeps_stay c unlinked finds = since_told t.shape.min_level log j e is_lock i (what.Lock c.row c.bucket) (λ at. unlinked < 256 → WereLiveSince p.now log at (IsOfBucket p.now.seed c.row c.bucket))
          (λ at. unlinked < 256 → WereLiveSince p'.now longer at (IsOfBucket p'.now.seed c.row c.bucket)) other
          (λ at early were few. bucket_told t.shape.min_level log j e seed c c refl refl at early (were few)) finds

      swept_stays : (c : Cleaning) (a : Answer) → SweptAll p.now log i c a → SweptAll p'.now longer i c a
      swept_stays c (answer.Swept unlinked) finds = sweeps_stay c unlinked finds
      swept_stays c _ finds = tt

      sweep_stays : (q : SweepAsked) (w : SweepAlong) (s : SweepStage) → KnowsSweep m p f i q w s → SweepFinds t p.now log f i w.cleaning s → SweepFinds t p'.now longer f' i w.cleaning s
      sweep_stays q w sweep.Check known finds = tt
      sweep_stays q w (sweep.Find s) known finds = tt
      sweep_stays q w sweep.Lock known finds = tt
      sweep_stays q w (sweep.Close closing.Again) known finds = tt
      sweep_stays q w (sweep.Close closing.Clean) known finds =
          (finds.0, since_told t.shape.min_level log j e is_lock i (what.Lock w.cleaning.row w.cleaning.bucket) (λ at. Unit {0}) (λ at. Unit {0}) other (λ at early so. so) finds.1)
      sweep_stays q w (sweep.Pass s) known finds = (
        finds.0,
        since_told t.shape.min_level log j e is_lock i (what.Lock w.cleaning.row w.cleaning.bucket) (λ at. PassFinds t p.now log f at w.cleaning s) (λ at. PassFinds t p'.now longer f' at w.cleaning s) other
            (λ at early passes. pass_stays w.cleaning s at (chain_stays w.cleaning s known.1) early passes) finds.1,
      )
      sweep_stays q w sweep.UnlockHead known finds = sweeps_stay w.cleaning w.cleaning.unlinked finds
      sweep_stays q w (sweep.Grace s) known finds = sweeps_stay w.cleaning w.cleaning.unlinked finds
      sweep_stays q w (sweep.Free s) known finds = sweeps_stay w.cleaning w.cleaning.unlinked finds
      sweep_stays q w (sweep.Answered a) known finds = swept_stays w.cleaning a finds

      call_stays : IsOther is_taken → (v : View) (s : Seat) → Knows t m p f i (record v { seat = s }) → CallFinds t p.now log f i s → CallFinds t p'.now longer f' i s
      call_stays taken v (doing.Idle own) known finds = tt
      call_stays taken v (doing.Running (machine.Call c w g)) known finds = tt
      call_stays taken v (doing.Running (machine.Begin b)) known finds = tt
      call_stays taken v (doing.Running (machine.Poll q)) known finds = poll_stays taken q.work q.answer finds
      call_stays taken v (doing.Running (machine.Sweep s)) known finds = (finds.0, sweep_stays s.asked s.along s.stage known.1 finds.1, finds.2)

      -- what a seat has found stays by the steps of others
      pub finds_stay : IsOther is_taken → (v : View) → Knows t m p f i v → PassesFind t p.now log f i v.seat → PassesFind t p'.now longer f' i v.seat
      finds_stay taken v known finds = (
        if_some (WorkFinds t p.now log f i) (WorkFinds t p'.now longer f' i) (work_of v.seat) (λ u has work. work_finds_stay taken u (known_work t m p f i v u known has) work) finds.0,
        call_stays taken v v.seat known finds.1,
      )

-- CALLS

module _ (t : Table) (n : Now) (log : List Event) (f : Flow) (i : ℕ) where
  -- a work that begins has found nothing
  begun_finds : (caller : Caller) (l : Left) → IfSome (begun_work caller.shape l) (WorkFinds t n log f i)
  begun_finds caller left.Nothing = tt
  begun_finds caller left.Clean = (omega arith, tt)
  begun_finds caller (left.Resize d level) = tt
  begun_finds caller (left.Grace g) = tt

  -- a seat whose call has answered
  pub rests_find : (k : Machine) → PassesFind t n log f i (doing.Running k) → PassesFind t n log f i (doing.Idle (own_of k))
  rests_find (machine.Call c w g) finds = (finds.0, tt)
  rests_find (machine.Begin b) finds = (begun_finds b.caller (left_of b.stage), tt)
  rests_find (machine.Poll q) finds = (finds.0, tt)
  rests_find (machine.Sweep s) finds = (tt, tt)

  -- a new poll of a clean has answered nothing yet, or that it may begin no grace
  resumed_finds : (w : CleanAlong) (s : CleanStage) → AnswerFinds n log i (cleans.resumed w s)
  resumed_finds w (clean.Grace freeing RaiseCounter) = held_finds n log i w.grace.raised
  resumed_finds w (clean.Grace freeing LoadSection) = tt
  resumed_finds w _ = tt

  pub resize_left : (r : Resize) (o : Option Answer) → IfSome (work_left (work.Resize r) o) (WorkFinds t n log f i) × PollFinds t n log i (work.Resize r) o
  resize_left r None = (tt, tt)
  resize_left r (Some (answer.Done did)) = (tt, tt)
  resize_left r (Some _) = (tt, tt)

  poll_finds : (caller : Caller) (o : Option Work) → IfSome o (WorkFinds t n log f i) → PassesFind t n log f i (doing.Running (begun_work_poll caller o))
  poll_finds caller None finds = (tt, tt)
  poll_finds caller (Some (work.Clean c)) finds =
      left_finds t n log f i (record c { along = record c.along { full_passes = 0 } }) (cleans.resumed c.along c.stage) finds (resumed_finds c.along c.stage)
  poll_finds caller (Some (work.Resize r)) finds = resize_left r (resumes (work.Resize r)).1

  grace_finds : (caller : Caller) (o : Option graces.Grace) → PassesFind t n log f i (doing.Running (begun_grace_poll caller o))
  grace_finds caller None = (tt, tt)
  grace_finds caller (Some g) = (tt, tt)

  -- a call that begins
  pub starts_find : (caller : Caller) (own : Own) (c : Call) → PassesFind t n log f i (doing.Idle own) → PassesFind t n log f i (doing.Running (starts caller own c))
  starts_find caller own call.PollGrace finds = grace_finds caller own.grace
  starts_find caller own call.PollWork finds = poll_finds caller own.work finds.0
  starts_find caller own call.Split finds = (finds.0, tt)
  starts_find caller own (call.Intern text) finds = (finds.0, tt)
  starts_find caller own (call.Lookup text) finds = (finds.0, tt)
  starts_find caller own (call.InternWait text) finds = (finds.0, tt)
  starts_find caller own (call.TextOf h) finds = (finds.0, tt)
  starts_find caller own (call.Drop h) finds = (finds.0, tt)
  starts_find caller own (call.Permanent h) finds = (finds.0, tt)
  starts_find caller own (call.Kill h) finds = (finds.0, tt)
  starts_find caller own call.BeginClean finds = (tt, tt)
  starts_find caller own call.BeginGrow finds = (tt, tt)
  starts_find caller own call.BeginShrink finds = (tt, tt)
  starts_find caller own call.BeginGrace finds = (tt, tt)
  starts_find caller own (call.Sweep text) finds = (tt, (omega arith, tt, tt))
