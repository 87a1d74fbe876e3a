-- How the poll of a work ends.
use Rattle.std.proofs.Common.{◌≡◌, ℕ, ◌^◌, ◌≤◌, List, [], Some, None, inr, refl, sym, ap, subst, ◌∙◌}
use Rattle.std.proofs.lemmas.Bool.{leb-true}
use Rattle.intern_log.specs.declared.event.Event.{Event}
use Rattle.intern_log.specs.declared.event.What.{What}
use Rattle.atomic_step.specs.declared.answer.Answer.{Answer}
use Rattle.atomic_step.specs.declared.answer.Answer.TheVariants as answer
use Rattle.atomic_step.specs.declared.answer.Worked.{Worked}
use Rattle.atomic_step.specs.Run.{AreFitting, after_words, events_of_words}
use Rattle.call_machine.specs.declared.call.Call.TheVariants as call
use Rattle.call_machine.specs.declared.clean.CleanAlong.{CleanAlong}
use Rattle.call_machine.specs.declared.clean.CleanStage.{CleanStage}
use Rattle.call_machine.specs.declared.clean.CleanStage.TheVariants as clean_at
use Rattle.call_machine.specs.declared.grace.GraceStage.TheVariants as grace
use Rattle.call_machine.specs.declared.resize.ResizeAlong.{ResizeAlong}
use Rattle.call_machine.specs.declared.resize.ResizeStage.{ResizeStage}
use Rattle.call_machine.specs.declared.resize.ResizeStage.TheVariants as resize_at
use Rattle.call_machine.specs.declared.machine.Machine.{Machine}
use Rattle.call_machine.specs.declared.machine.Machine.TheVariants as machine
use Rattle.call_machine.specs.declared.machine.Own.{Own}
use Rattle.call_machine.specs.declared.poll.Polling.{Polling}
use Rattle.call_machine.specs.declared.work.Work.{Work as Working}
use Rattle.call_machine.specs.declared.work.Work.TheVariants as work
use Rattle.call_machine.specs.Clean as cleans
use Rattle.call_machine.specs.Resize as resizes
use Rattle.call_machine.specs.Machine.{own_of, begun_work_poll}
use Rattle.call_machine.specs.Poll.{state_of, begun_poll, work_left, polling}
use Rattle.call_machine.specs.Polls.{polled_on}
use Rattle.call_machine.specs.WholeMachine.{machines}
use Rattle.call_machine.specs.Work.{resumes, IsSoundWork}
use Rattle.cht_core.specs.declared.table.Table.{Table}
use Rattle.cht_core.specs.Causes.{PollEnds}
use Rattle.cht_core.specs.Windows.{whats_by}
use Rattle.cht_run.specs.declared.seat.Seat.{Seat}
use Rattle.cht_run.specs.declared.sight.Origin.{Origin}
use Rattle.cht_run.specs.declared.table.Cht.{Cht}
use Rattle.cht_run.specs.declared.polls.PollEnd.{PollEnd}
use Rattle.cht_run.specs.declared.polls.PollEnd.TheVariants as end_at
use Rattle.cht_run.specs.declared.works.Polled.TheVariants as polls
use Rattle.cht_run.specs.declared.work.Work.{Work}
use Rattle.cht_run.specs.Begins.{first_of, caller_in}
use Rattle.cht_run.specs.Ended.{Only}
use Rattle.cht_run.specs.History.{log_of}
use Rattle.cht_run.specs.Pending.{MayPend, IsHeld, CleanPends, ResizePends, IsCleanHeld, IsResizeHeld}
use Rattle.cht_run.specs.Runs.{Ran}
use Rattle.cht_run.specs.Underway.{polled, answer_at}
use Rattle.cht_run.specs.Seats.{sight, seen, work_of, own_of as own_in, IsOf}
use Rattle.cht_run.specs.Told.{PollFound, WorkFound}
use Rattle.cht_run.specs.Works.{HasFinished, IsWorkOf, Runs, Leaves, PollsWork}
use Rattle.cht_run.proofs.FullPasses.{runs_with_few}
use Rattle.cht_run.proofs.Goes.{went_answered}
use Rattle.cht_run.proofs.Following.{no_step}
use Rattle.cht_run.proofs.GraceCalls.{ended, own_left}
use Rattle.cht_run.proofs.WorkRuns.{PollRan, poll_ran, finds_own, runs_none}

module _ (cht : Cht) (old new : Seat) (of : IsOf cht old) (state state' : Working) (end : PollEnd) (unfinished : work_of old ≡ Some state) (goes : (resumes state).1 ≡ None)
    (ran : Ran (sight old) call.PollWork (sight new) (polled (sight old) (state', Some (answer_at end)))) where
  abbrev t : Table
  t = cht.origin.table

  abbrev window : List Event
  window = log_of ran.went.window

  abbrev a : Answer
  a = answer_at end

  abbrev m : Machine
  m = polled (sight old) (state', Some a)

  abbrev p : Polling
  p = begun_poll (caller_in (sight old)) state

  first : first_of (sight old) call.PollWork ≡ machine.Poll p
  first = ap (begun_work_poll (caller_in (sight old))) unfinished

  -- the poll as it is now
  pub now : (q : Polling) × PollRan p q ran.words
  now = poll_ran p ran.words goes (subst (λ n. AreFitting machines n ran.words) first ran.fitting)

  one : (q r : Polling) → machine.Poll q ≡ machine.Poll r → q ≡ r
  one q r same = cc

  now_is : now.0 ≡ polling (caller_in (sight old)) (state', Some a)
  now_is = one now.0 (polling (caller_in (sight old)) (state', Some a)) (sym now.1.leads ∙ ap (λ n. after_words machines n ran.words) (sym first) ∙ ran.leads)

  abbrev did : List What
  did = events_of_words machines (first_of (sight old) call.PollWork) ran.words

  own_did : whats_by old.number window ≡ did
  own_did = ap (λ i. whats_by i window) old.named ∙ finds_own (sight old).origin.table (sight old).number (first_of (sight old) call.PollWork) ran.words (seen old) window ran.finds

  runs : Runs t.shape state did (polled_on resumes (state', Some a))
  runs = subst (λ (o : Origin). Runs o.table.shape state did (polled_on resumes (state', Some a))) of.origin (record {
    words = ran.words;
    fitting = now.1.fitting;
    leads = now.1.comes ∙ ap (λ q. polled_on resumes (state_of q)) now_is;
    made = now.1.made ∙ ap (λ n. events_of_words machines n ran.words) (sym first);
    few = runs_with_few (sight old).origin.table.shape state ran.words;
  })

  why : PollEnds t old.number (seen old) window state' a
  why =
      let cause = went_answered (sight old) call.PollWork (sight new) m a ran.went refl in
      subst (λ (z : Origin × ℕ). PollEnds z.0.table z.1 (seen old) window state' a) (λ i. (of.origin i, sym old.named i)) cause.1

  -- a clean has unlinked what was dead
  found : WorkFound t (seen new) new.number m
  found = subst (λ (z : Origin × ℕ). WorkFound z.0.table (seen new) z.1 m) (λ i. (of.origin i, (sym ran.went.stays.number ∙ sym new.named) i)) ran.went.found_out

  -- what it has left its seat
  left : own_in new ≡ own_of m
  left = own_left cht old new call.PollWork m of ran

  pub poll_done : (worked : Worked) → end ≡ end_at.Done worked → PollsWork t state old new (polls.Done worked)
  poll_done worked is =
      let is_answer : a ≡ answer.Done worked = ap answer_at is in (
        record {
          work = ap (λ (o : Own). o.work) left ∙ ap (λ (e : PollEnd). work_left state' (Some (answer_at e))) is;
          grace = ap (λ (o : Own). o.grace) left;
        },
        (
          did,
          (state', subst (λ b. Runs t.shape state did (polled_on resumes (state', Some b))) is_answer runs, finished state' (subst (λ b. PollFound t (seen new) new.number state' (Some b)) is_answer found.1)),
          ended cht old new call.PollWork m of ran did (λ seen window. Unit {0}) own_did tt,
        ),
      )
    where
      finished : (w : Working) → PollFound t (seen new) new.number w (Some (answer.Done worked)) → HasFinished t w worked new
      finished (work.Clean c) found = found
      finished (work.Resize r) found = found

  -- where it waits, the work stays
  pub poll_waits : (left_work : Work) → left_work.state ≡ state' → work_left state' (Some a) ≡ Some state' → polled_on resumes (state', Some a) ≡ resumes state' → Leaves t state old new left_work a
  poll_waits left_work is waits anew = (
    did,
    (
      state',
      record {
        unfinished = ap (λ (o : Own). o.work) left ∙ waits;
        no_grace = ap (λ (o : Own). o.grace) left;
        is = is;
        sound = subst (λ (o : Origin). IsSoundWork o.table.shape state') (sym ran.went.stays.origin) ran.went.sound.sound.work;
      },
      subst (Runs t.shape state did) anew runs,
    ),
    ended cht old new call.PollWork m of ran did (λ seen window. PollEnds t old.number seen window state' a) own_did why,
  )

  pub waits_so_far : (left_work : Work) (b : Answer) → a ≡ b → left_work.state ≡ state' → work_left state' (Some b) ≡ Some state' → polled_on resumes (state', Some b) ≡ resumes state' → Leaves t state old new left_work b
  waits_so_far left_work b same is waits anew =
      subst (Leaves t state old new left_work) same
      (poll_waits left_work is (ap (λ x. work_left state' (Some x)) same ∙ waits) (ap (λ x. polled_on resumes (state', Some x)) same ∙ anew))

-- A WORK THAT WAITS FOR GOOD

waits_so : (t : Table) (i : ℕ) (seen window : List Event) (w : Working) → MayPend w → IsHeld w → PollEnds t i seen window w (answer.PendingSeat 0)
waits_so t i seen window (work.Clean c) pends held = inr (refl, clean_held c.along c.stage pends held)
  where
    clean_held : (w : CleanAlong) (s : CleanStage) → CleanPends w s → IsCleanHeld s → 2 ^ 63 ≤ w.grace.raised
    clean_held w (clean_at.Grace which grace.RaiseCounter) pends held = leb-true (2 ^ 63) w.grace.raised pends
    clean_held w (clean_at.Grace which grace.LoadSection) pends held = absurd held
    clean_held w clean_at.LoadLevel pends held = absurd held
    clean_held w (clean_at.Lock s) pends held = absurd held
    clean_held w (clean_at.Pass s) pends held = absurd held
    clean_held w clean_at.UnlockHead pends held = absurd held
    clean_held w (clean_at.Free which s) pends held = absurd held
    clean_held w clean_at.GiveResizeLock pends held = absurd held
waits_so t i seen window (work.Resize r) pends held = inr (refl, resize_held r.along r.stage pends held)
  where
    resize_held : (w : ResizeAlong) (s : ResizeStage) → ResizePends w s → IsResizeHeld s → 2 ^ 63 ≤ w.grace.raised
    resize_held w (resize_at.Grace x grace.RaiseCounter) pends held = leb-true (2 ^ 63) w.grace.raised pends
    resize_held w (resize_at.Grace x grace.LoadSection) pends held = absurd held
    resize_held w resize_at.PutNewLevel pends held = absurd held
    resize_held w (resize_at.Lock side s) pends held = absurd held
    resize_held w (resize_at.PutHead side) pends held = absurd held
    resize_held w (resize_at.RedirectHead side) pends held = absurd held
    resize_held w (resize_at.Unzip s) pends held = absurd held
    resize_held w (resize_at.Join s) pends held = absurd held
    resize_held w (resize_at.UnlockHead side) pends held = absurd held
    resize_held w resize_at.StoreLevel pends held = absurd held
    resize_held w resize_at.ClearNewLevel pends held = absurd held
    resize_held w resize_at.GiveResizeLock pends held = absurd held

pub waits_for_good : (t : Table) (old : Seat) (w : Work) (state state' : Working) → IsWorkOf w state old → work_of old ≡ Some state' → IsHeld w.state → PollsWork t state' old old (polls.PendingSeat w 0)
waits_for_good t old w state state' has is held =
    let same : Some state ≡ Some state' = sym has.unfinished ∙ is in
    let one : state ≡ state' = cc in
    let stands : w.state ≡ state' = has.is ∙ one in (
      [],
      (state', subst (λ x. IsWorkOf w x old) one has, runs_none t.shape state'),
      no_step t old (Only []) (λ seen window. PollEnds t old.number seen window state' (answer.PendingSeat 0)) refl
          (waits_so t old.number (seen old) [] state' (subst MayPend stands w.pends) (subst IsHeld stands held)),
    )

-- a work that is not held back makes a step
pub unheld : (w : Working) → MayPend w → ¬ (IsHeld w) → (resumes w).1 ≡ None
unheld (work.Clean c) pends free = clean_free c.along c.stage pends free
  where
    clean_free : (w : CleanAlong) (s : CleanStage) → CleanPends w s → ¬ (IsCleanHeld s) → cleans.resumed w s ≡ None
    clean_free w (clean_at.Grace which grace.RaiseCounter) pends free = absurd (free tt)
    clean_free w (clean_at.Grace which grace.LoadSection) pends free = refl
    clean_free w clean_at.LoadLevel pends free = refl
    clean_free w (clean_at.Lock s) pends free = refl
    clean_free w (clean_at.Pass s) pends free = refl
    clean_free w clean_at.UnlockHead pends free = refl
    clean_free w (clean_at.Free which s) pends free = refl
    clean_free w clean_at.GiveResizeLock pends free = refl
unheld (work.Resize r) pends free = resize_free r.along r.stage pends free
  where
    resize_free : (w : ResizeAlong) (s : ResizeStage) → ResizePends w s → ¬ (IsResizeHeld s) → resizes.resumed w s ≡ None
    resize_free w (resize_at.Grace x grace.RaiseCounter) pends free = absurd (free tt)
    resize_free w (resize_at.Grace x grace.LoadSection) pends free = refl
    resize_free w resize_at.PutNewLevel pends free = refl
    resize_free w (resize_at.Lock side s) pends free = refl
    resize_free w (resize_at.PutHead side) pends free = refl
    resize_free w (resize_at.RedirectHead side) pends free = refl
    resize_free w (resize_at.Unzip s) pends free = refl
    resize_free w (resize_at.Join s) pends free = refl
    resize_free w (resize_at.UnlockHead side) pends free = refl
    resize_free w resize_at.StoreLevel pends free = refl
    resize_free w resize_at.ClearNewLevel pends free = refl
    resize_free w resize_at.GiveResizeLock pends free = refl

pub polled_unheld : (old : Seat) (w : Work) (state state' : Working) → IsWorkOf w state old → work_of old ≡ Some state' → ¬ (IsHeld w.state) → (resumes state').1 ≡ None
polled_unheld old w state state' has is free =
    let same : Some state ≡ Some state' = sym has.unfinished ∙ is in
    let one : state ≡ state' = cc in
    subst (λ x. (resumes x).1 ≡ None) (has.is ∙ one) (unheld w.state w.pends free)
