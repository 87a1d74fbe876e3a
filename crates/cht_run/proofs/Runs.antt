-- A call that is run by its machine goes on word by word.
use Rattle.std.proofs.Common.{◌≡◌, ◌≢◌, ℕ, ◌^◌, ◌<◌, true, List, [], ◌∷◌, ◌++◌, Option, Some, None, refl, sym, ap, subst, ◌∙◌}
use Rattle.std.proofs.lemmas.List.{append-nil, append_assoc, append_cancel_left}
use Rattle.intern_log.specs.declared.event.Event.{Event}
use Rattle.intern_log.specs.Own.{is_among}
use Rattle.table_shape.specs.declared.shape.Shape.{Shape}
use Rattle.table_shape.specs.Shape.{IsSound}
use Rattle.atomic_step.specs.declared.answer.Answer.{Answer}
use Rattle.atomic_step.specs.declared.plan.Plan.TheVariants as plan
use Rattle.atomic_step.specs.declared.step.Step.{Step}
use Rattle.atomic_step.specs.declared.step.Step.TheVariants as step
use Rattle.atomic_step.specs.Run.{Machine as Told, AreFitting, after_words}
use Rattle.atomic_step.specs.Step.{access_of}
use Rattle.atomic_step.specs.Table.{IsWordAt}
use Rattle.atomic_step.specs.Turn.{Turn, Answered, Makes, plan_in}
use Rattle.call_machine.specs.declared.call.Call.{Call}
use Rattle.call_machine.specs.declared.caller.Caller.{Caller}
use Rattle.call_machine.specs.declared.machine.Machine.{Machine}
use Rattle.call_machine.specs.declared.machine.Machine.TheVariants as machine
use Rattle.call_machine.specs.declared.poll.Polling.{Polling}
use Rattle.call_machine.specs.declared.work.Work.{Work}
use Rattle.call_machine.specs.declared.work.Work.TheVariants as work
use Rattle.call_machine.specs.Begin.{begin_turn}
use Rattle.call_machine.specs.Machine.{plan_of, got_of, event_of, IsOfWork, IsSameMachine}
use Rattle.call_machine.specs.Poll.{poll_turn}
use Rattle.call_machine.specs.SoundMachine.{FitsMachine}
use Rattle.call_machine.specs.Sweep.{sweep_turn}
use Rattle.call_machine.specs.WholeMachine.{machines}
use Rattle.call_machine.proofs.Machines.{plan_is, same_law}
use Rattle.cht_core.specs.declared.seat.Seat.TheVariants as doing
use Rattle.cht_core.specs.declared.table.Table.{Table}
use Rattle.cht_core.specs.Causes.{PlanSays, now_in}
use Rattle.cht_core.specs.Caused.{MayCause}
use Rattle.cht_core.specs.Flow.{Flow}
use Rattle.cht_core.specs.Invariant.{events_of}
use Rattle.cht_core.specs.Past.{past_of}
use Rattle.cht_core.specs.State.{drawn_in}
use Rattle.cht_core.specs.Windows.{whats_by}
use Rattle.cht_core.specs.WordSays.{WordSays}
use Rattle.cht_core.proofs.MachineBounds.{begin_draws_not, sweep_draws_not}
use Rattle.cht_core.proofs.PollBounds.{clean_draws_not}
use Rattle.cht_core.proofs.ResizeBounds.{resize_draws_not}
use Rattle.cht_core.proofs.Turns.{IfMakes}
use Rattle.cht_core.proofs.Windows.{whats_by_waits}
use Rattle.cht_run.specs.declared.sight.Entry.{Entry}
use Rattle.cht_run.specs.declared.sight.Sight.{Sight}
use Rattle.cht_run.specs.declared.table.Cht.{Cht}
use Rattle.cht_run.specs.Begins.{own_at, first_of, begun, MayCall, ToldFirst, IsSoundOf, SoundIn, FitsIn, GoesOn, GoesFirst, next_in, step_by}
use Rattle.cht_run.specs.Calls.{Stays, Went}
use Rattle.cht_run.specs.History.{log_of, NoneBy}
use Rattle.cht_run.specs.Runs.{CanStand, SaysAt, Finds, Ran}
use Rattle.cht_run.specs.Seats.{Raw, Sits}
use Rattle.cht_run.specs.Told.{adds, Told as WasTold}
use Rattle.cht_run.specs.Unlinks.{MachineUnlinks}
use Rattle.cht_run.proofs.Goes.{whats_none, went_on, went_first}
use Rattle.cht_run.proofs.Histories.{log-append, log_adds}

-- A MACHINE OF A WORK DRAWS NOTHING

-- what is no draw draws no number
not_drawn : (shape : Shape) (s : Step) (word : ℕ) → s ≢ step.Draw → drawn_in shape s word ≡ None
not_drawn shape step.Draw word not = absurd (not refl)
not_drawn shape _ word not = refl

makes_not : {S : Type 0} (t : Turn S) (s : Step) → IfMakes (λ does. does.step ≢ step.Draw) t → plan_in t ≡ plan.Step s → s ≢ step.Draw
makes_not (Answered a) s not is = absurd (cc)
makes_not (Makes does) s not is = λ draws. not (let same : does.step ≡ s = cc in same ∙ draws)

poll_draws_not : (p : Polling) (s : Step) → plan_in (poll_turn p.caller (p.work, p.answer)) ≡ plan.Step s → s ≢ step.Draw
poll_draws_not p s = go p.caller p.work p.answer
  where
    go : (caller : Caller) (w : Work) (a : Option Answer) → plan_in (poll_turn caller (w, a)) ≡ plan.Step s → s ≢ step.Draw
    go caller w (Some a) is = absurd (cc)
    go caller (work.Clean c) None is = makes_not (poll_turn caller (work.Clean c, None)) s (clean_draws_not caller.shape c.along c.stage) is
    go caller (work.Resize r) None is = makes_not (poll_turn caller (work.Resize r, None)) s (resize_draws_not caller.shape r.direction r.along r.stage) is

pub work_draws_not : (m : Machine) (shape : Shape) (s : Step) (word : ℕ) → IsOfWork m → plan_of m ≡ plan.Step s → drawn_in shape s word ≡ None
work_draws_not (machine.Call c w g) shape s word of is = absurd of
work_draws_not (machine.Begin b) shape s word of is = not_drawn shape s word (makes_not (begin_turn b.caller b.stage) s (begin_draws_not b.caller b.stage) (sym (plan_is (machine.Begin b)) ∙ is))
work_draws_not (machine.Poll p) shape s word of is = not_drawn shape s word (poll_draws_not p s (sym (plan_is (machine.Poll p)) ∙ is))
work_draws_not (machine.Sweep x) shape s word of is = not_drawn shape s word (makes_not (sweep_turn x.asked x.along x.stage) s (sweep_draws_not x.asked x.along x.stage) (sym (plan_is (machine.Sweep x)) ∙ is))

of_work_same : (a b : Machine) → IsOfWork a → IsSameMachine a b → IsOfWork b
of_work_same (machine.Call c w g) b of same = absurd of
of_work_same (machine.Begin x) (machine.Begin y) of same = tt
of_work_same (machine.Poll x) (machine.Poll y) of same = tt
of_work_same (machine.Sweep x) (machine.Sweep y) of same = tt
of_work_same (machine.Begin x) (machine.Call c w g) of same = absurd same
of_work_same (machine.Poll x) (machine.Call c w g) of same = absurd same
of_work_same (machine.Sweep x) (machine.Call c w g) of same = absurd same
of_work_same (machine.Begin x) (machine.Poll y) of same = tt
of_work_same (machine.Begin x) (machine.Sweep y) of same = tt
of_work_same (machine.Poll x) (machine.Begin y) of same = tt
of_work_same (machine.Poll x) (machine.Sweep y) of same = tt
of_work_same (machine.Sweep x) (machine.Begin y) of same = tt
of_work_same (machine.Sweep x) (machine.Poll y) of same = tt

-- it stays one
pub of_work_on : (m : Machine) (word : ℕ) → IsOfWork m → IsOfWork (got_of m word)
of_work_on m word of = of_work_same m (got_of m word) of (same_law m word)

-- ONE MORE WORD

fitting_more : {S : Type 0} (m : Told S) (s : S) (words : List ℕ) (word : ℕ) → AreFitting m s words → m.Fits (after_words m s words) word → AreFitting m s (words ++ word ∷ [])
fitting_more m s [] word fitting fits = (fits, tt)
fitting_more m s (x ∷ words) word fitting fits = (fitting.0, fitting_more m (m.got s x) words word fitting.1 fits)

after_more : {S : Type 0} (m : Told S) (s : S) (words : List ℕ) (word : ℕ) → after_words m s (words ++ word ∷ []) ≡ m.got (after_words m s words) word
after_more m s [] word = refl
after_more m s (x ∷ words) word = after_more m (m.got s x) words word

-- one more word is found, after events of others
finds_more : (t : Table) (i : ℕ) (m : Machine) (words : List ℕ) (word : ℕ) (seen window between : List Event) → Finds t i m words seen window → whats_by i between ≡ [] →
    SaysAt t (after_words machines m words) word (seen ++ (window ++ between)) →
    Finds t i m (words ++ word ∷ []) seen (window ++ (between ++ events_of i (event_of (after_words machines m words) word)))
finds_more t i m [] word seen window between finds none says =
    let e = events_of i (event_of m word) in
    (window ++ between, [], ap (λ l. window ++ (between ++ l)) (sym (append-nil e)) ∙ sym (append_assoc window between (e ++ [])), whats_by_waits i window between none ∙ finds, says, refl)
finds_more t i m (x ∷ words) word seen window between finds none says =
    let (before, rest, is, by_none, said, later) = finds in
    let e = events_of i (event_of m x) in
    let n = after_words machines (got_of m x) words in
    let more = between ++ events_of i (event_of n word) in (
      before,
      rest ++ more,
      ap (λ l. l ++ more) is ∙ append_assoc before (e ++ rest) more ∙ ap (λ l. before ++ l) (append_assoc e rest more),
      by_none,
      said,
      finds_more t i (got_of m x) words word ((seen ++ before) ++ e) rest between later none
          (subst (SaysAt t n word) (ap (λ l. seen ++ l) (ap (λ l. l ++ between) is ∙ append_assoc before (e ++ rest) between ∙ ap (λ l. before ++ l) (append_assoc e rest between))
          ∙ sym (append_assoc seen before (e ++ (rest ++ between))) ∙ sym (append_assoc (seen ++ before) e (rest ++ between))) says),
    )

-- what the word says, of the machine that found it
says_at : (t : Table) (m n : Machine) (s : Step) (word : ℕ) (log log' : List Event) (f : Flow) → n ≡ m → plan_of m ≡ plan.Step s → log ≡ log' → WordSays t (past_of t.shape.min_level log) f s word →
    IsWordAt t.shape (access_of s).place word → MachineUnlinks (now_in t log) m → SaysAt t n word log'
says_at t m n s word log log' f same planned is says stands unlinks =
    let planned_so = sym (ap plan_of same ∙ planned) in (
      f,
      subst (λ l. PlanSays t (past_of t.shape.min_level l) f (plan_of n) word) is (subst (λ p. PlanSays t (past_of t.shape.min_level log) f p word) planned_so says),
      subst (λ p. CanStand t.shape p word) planned_so stands,
      subst (λ l. MachineUnlinks (now_in t l) n) is (subst (MachineUnlinks (now_in t log)) (sym same) unlinks),
    )

-- a call that was led to a machine finds one more word
module _ (b v w : Sight) (m n : Machine) (s : Step) (word : ℕ) (words : List ℕ) (window : List Entry) (is_seat : is_among b.numbers b.number ≡ true) (stays : Stays b v)
    (history : v.history ≡ b.history ++ window) (leads : after_words machines n words ≡ m) (planned : plan_of m ≡ plan.Step s) (told : WasTold b.origin m s v word w) where
  abbrev t : Table
  t = b.origin.table

  abbrev since : List Event
  since = log_of told.between

  before_is : log_of (v.history ++ told.between) ≡ log_of b.history ++ (log_of window ++ since)
  before_is = log-append v.history told.between ∙ ap (λ h. log_of h ++ since) history ∙ ap (λ l. l ++ since) (log-append b.history window)
      ∙ append_assoc (log_of b.history) (log_of window) since

  none_by : whats_by b.number since ≡ []
  none_by = whats_none b.number b.numbers told.between is_seat (subst (λ ns. NoneBy ns told.between) stays.numbers told.none)

  window_is : log_of window ++ (since ++ events_of b.number (event_of m word)) ≡ log_of (window ++ (told.between ++ adds t.shape v.number m s word))
  window_is = ap (λ l. log_of window ++ (since ++ l)) (ap (λ i. events_of i (event_of m word)) (sym stays.number) ∙ sym (log_adds t.shape v.number m s word))
      ∙ ap (λ l. log_of window ++ l) (sym (log-append told.between (adds t.shape v.number m s word))) ∙ sym (log-append window (told.between ++ adds t.shape v.number m s word))

  one_more : Finds t b.number n words (log_of b.history) (log_of window) → Finds t b.number n (words ++ word ∷ []) (log_of b.history) (log_of (window ++ (told.between ++ adds t.shape v.number m s word)))
  one_more finds = subst (Finds t b.number n (words ++ word ∷ []) (log_of b.history)) (ap (λ (x : Machine). log_of window ++ (since ++ events_of b.number (event_of x word))) leads ∙ window_is)
      (finds_more t b.number n words word (log_of b.history) (log_of window) since finds none_by
      (says_at t m (after_words machines n words) s word (log_of (v.history ++ told.between)) (log_of b.history ++ (log_of window ++ since)) told.found.flow leads planned before_is told.found.says told.found.stands told.found.unlinks))

  one_more_fits : AreFitting machines n words → AreFitting machines n (words ++ word ∷ [])
  one_more_fits fitting = fitting_more machines n words word fitting (subst (λ (x : Machine). (word < 2 ^ 64) × FitsMachine x word) (sym leads) (told.found.small, told.found.fits))

  one_more_leads : after_words machines n (words ++ word ∷ []) ≡ got_of m word
  one_more_leads = after_more machines n words word ∙ ap (λ (x : Machine). got_of x word) leads

-- the window of a call is what was added to its history
pub window_of : (b : Sight) (c : Call) (v : Sight) (m : Machine) (went : Went b c v m) (added : List Entry) → v.history ≡ b.history ++ added → added ≡ went.window
window_of b c v m went added is = append_cancel_left b.history added went.window (sym is ∙ went.history)

-- A CALL GOES ON

pub ran_on : (b : Sight) (c : Call) (v w : Sight) (m : Machine) (s : Step) (word : ℕ) → is_among b.numbers b.number ≡ true → Ran b c v m → IsOfWork m → plan_of m ≡ plan.Step s → WasTold v.origin m s v word w →
    Ran b c w (got_of m word)
ran_on b c v w m s word is ran of planned was_told =
    let went = ran.went in
    let told : WasTold b.origin m s v word w = subst (λ o. WasTold o m s v word w) went.stays.origin was_told in
    let later : List Entry = told.between ++ adds b.origin.table.shape v.number m s word in
    let goes : Went b c w (got_of m word) = went_on b c v w m s word is went planned (work_draws_not m b.origin.table.shape s word of planned) was_told in
    let added : w.history ≡ b.history ++ (went.window ++ later) =
    ap (λ (x : Sight). x.history) told.after ∙ append_assoc v.history told.between (adds b.origin.table.shape v.number m s word) ∙ ap (λ h. h ++ later) went.history ∙ append_assoc b.history went.window later in
    record {
      went = goes;
      words = ran.words ++ word ∷ [];
      fitting = one_more_fits b v w m (first_of b c) s word ran.words went.window is went.stays went.history ran.leads planned told ran.fitting;
      leads = one_more_leads b v w m (first_of b c) s word ran.words went.window is went.stays went.history ran.leads planned told;
      finds = subst (λ l. Finds b.origin.table b.number (first_of b c) (ran.words ++ word ∷ []) (log_of b.history) (log_of l)) (window_of b c w (got_of m word) goes (went.window ++ later) added)
          (one_more b v w m (first_of b c) s word ran.words went.window is went.stays went.history ran.leads planned told ran.finds);
    }

-- A CALL BEGINS

stays_begun : (b : Sight) (c : Call) → Stays b (begun b c)
stays_begun b c = record { origin = refl; number = refl; numbers = refl; kids = refl; given = refl }

pub ran_first : (b : Sight) (c : Call) (w : Sight) (s : Step) (word : ℕ) → IsSound b.origin.table.shape → b.origin.seed < 2 ^ 32 → MayCall b c → (ToldFirst c s b word w → MayCause b.origin.table b.number (log_of b.history) (own_at b.seat) c) →
    IsOfWork (first_of b c) → plan_of (first_of b c) ≡ plan.Step s → GoesFirst c b word w → Ran b c w (got_of (first_of b c) word)
ran_first b c w s word shape seed may causes of planned goes =
    let m = first_of b c in
    let first = goes s planned in
    let none = work_draws_not m b.origin.table.shape s word of planned in
    let stays = stays_begun b c in
    let history = sym (append-nil b.history) in
    let went : Went b c w (got_of m word) = went_first b c w s word shape seed may (causes first) planned none first in
    let added : w.history ≡ b.history ++ (first.told.between ++ adds b.origin.table.shape b.number m s word) =
    ap (λ (x : Sight). x.history) first.told.after ∙ append_assoc b.history first.told.between (adds b.origin.table.shape b.number m s word) in
    let window : first.told.between ++ adds b.origin.table.shape b.number m s word ≡ went.window =
    window_of b c w (got_of m word) went (first.told.between ++ adds b.origin.table.shape b.number m s word) added in
    record {
      went = went;
      words = word ∷ [];
      fitting = one_more_fits b (begun b c) w m m s word [] [] may.seat stays history refl planned first.told tt;
      leads = refl;
      finds = subst (λ l. Finds b.origin.table b.number m (word ∷ []) (log_of b.history) (log_of l)) window (one_more b (begun b c) w m m s word [] [] may.seat stays history refl planned first.told refl);
    }

-- IN A TABLE

pub next_step : (v : Sight) (m : Machine) (s : Step) → v.seat ≡ doing.Running m → plan_of m ≡ plan.Step s → next_in v.seat ≡ Some s
next_step v m s is planned = ap next_in is ∙ ap step_by planned

pub fits_here : (v : Sight) (m : Machine) (word : ℕ) → v.seat ≡ doing.Running m → FitsIn v.seat word → FitsMachine m word
fits_here v m word is fits = subst (λ x. FitsIn x word) is fits

module _ (cht : Cht) (b : Sight) (c : Call) (raw : Raw) (m : Machine) (sits : Sits cht raw) where
  pub sound_here : Went b c raw.me.0 m → SoundIn cht.origin raw.me.0.number raw.me.0.seat
  sound_here went =
      subst (SoundIn cht.origin raw.me.0.number) (sym went.is) (subst (λ o. IsSoundOf o raw.me.0.number m) (sym went.stays.origin ∙ sits.origin)
      (subst (λ n. IsSoundOf b.origin n m) (sym went.stays.number) went.sound))

  pub ran_further : (raw' : Raw) (s : Step) (word : ℕ) → Ran b c raw.me.0 m → IsOfWork m → plan_of m ≡ plan.Step s → GoesOn raw.me.0 word raw'.me.0 → Ran b c raw'.me.0 (got_of m word)
  ran_further raw' s word ran of planned goes =
      let stays = ran.went.stays in
      let is : is_among b.numbers b.number ≡ true = subst (λ ns. is_among ns b.number ≡ true) stays.numbers (subst (λ n. is_among raw.me.0.numbers n ≡ true) stays.number sits.seat) in
      ran_on b c raw.me.0 raw'.me.0 m s word is ran of planned (goes m s (record { seat = sits.seat; running = ran.went.is; plan = planned }))
