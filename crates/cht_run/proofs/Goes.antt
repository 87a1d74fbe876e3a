-- A call goes on from stage to stage by the words that it finds, and what it has found out goes along.
use Rattle.std.proofs.Common.{◌≡◌, ◌≢◌, ℕ, ◌<◌, ◌≤◌, ◌^◌, Bool, true, false, cond, List, [], ◌∷◌, ◌++◌, map, Option, Some, None, refl, sym, ap, subst, ◌∙◌, arith}
use Rattle.std.proofs.lemmas.Bool.{ne_eqb}
use Rattle.std.proofs.lemmas.List.{append-nil, append_assoc, map-append}
use Rattle.std.proofs.lemmas.List.Elements.{All-head, All-tail, filter-append}
use Rattle.table_shape.specs.declared.shape.Shape.{Shape}
use Rattle.table_shape.specs.Shape.{IsSound}
use Rattle.intern_log.specs.declared.event.Event.{Event}
use Rattle.intern_log.specs.declared.event.What.{What}
use Rattle.intern_log.specs.Own.{is_among}
use Rattle.atomic_step.specs.declared.answer.Answer.{Answer}
use Rattle.atomic_step.specs.declared.plan.Plan.TheVariants as plan
use Rattle.atomic_step.specs.declared.step.Step.{Step}
use Rattle.atomic_step.specs.SoundStep.{HasSoundValue}
use Rattle.call_machine.specs.declared.call.Call.{Call}
use Rattle.call_machine.specs.declared.call.Call.TheVariants as call
use Rattle.call_machine.specs.declared.enter.EnterStage.TheVariants as enter
use Rattle.call_machine.specs.declared.find.FindStage.TheVariants as find
use Rattle.call_machine.specs.declared.grace.Grace.{Grace}
use Rattle.call_machine.specs.declared.stage.CallStage.TheVariants as stage
use Rattle.call_machine.specs.declared.stage.Goal.{Goal}
use Rattle.call_machine.specs.declared.stage.Goal.TheVariants as goal
use Rattle.call_machine.specs.declared.work.Work.{Work}
use Rattle.call_machine.specs.BeginCall.{begins, begun_walk, no_handle, too_long}
use Rattle.call_machine.specs.Sought.{is_too_long}
use Rattle.call_machine.specs.declared.caller.Caller.{Caller}
use Rattle.call_machine.specs.declared.machine.Machine.{Machine}
use Rattle.call_machine.specs.declared.machine.Machine.TheVariants as machine
use Rattle.call_machine.specs.declared.machine.Own.{Own}
use Rattle.call_machine.specs.declared.stage.Along.{Along}
use Rattle.call_machine.specs.declared.stage.Asked.{Asked}
use Rattle.call_machine.specs.declared.stage.Calling.{Calling}
use Rattle.call_machine.specs.declared.stage.CallStage.{CallStage}
use Rattle.call_machine.specs.declared.stage.Request.{Request}
use Rattle.call_machine.specs.Sought.{IsRequest, asked_of}
use Rattle.atomic_step.specs.Turn as turn
use Rattle.atomic_step.specs.Turn.{Turn, map_turn, plan_in, next_in}
use Rattle.call_machine.specs.CallEvents.{made_of}
use Rattle.call_machine.specs.Calls.{turn_at, plan_at, next_at}
use Rattle.call_machine.specs.Machine.{caller_of, starts, beside, begun_grace_poll, begun_work_poll, plan_of, got_of, event_of, shape_of, number_of, IsSameMachine}
use Rattle.call_machine.specs.SoundMachine.{IsSoundMachine, FitsMachine, MayStart}
use Rattle.call_machine.proofs.Nodes.{few_slots}
use Rattle.call_machine.proofs.Machines.{shape_law, same_law, start_law}
use Rattle.cht_core.specs.declared.table.Table.{Table}
use Rattle.cht_core.specs.CauseCalls.{Way}
use Rattle.cht_core.specs.Caused.{way_of, Caused, Hears, MayCause, Cause}
use Rattle.cht_core.specs.Causes.{now_in, PlanSays, loaded_at}
use Rattle.cht_core.specs.Flow.{Flow}
use Rattle.cht_core.specs.Invariant.{events_of}
use Rattle.cht_core.specs.Past.{past_of, by}
use Rattle.cht_core.specs.State.{drawn_in}
use Rattle.cht_core.specs.Tidy.{IsTidy}
use Rattle.cht_core.specs.Windows.{IsTold, whats_by}
use Rattle.cht_core.specs.WordSays.{WordSays}
use Rattle.cht_core.proofs.Windows.{whats_by-append, whats_by_own}
use Rattle.cht_core.proofs.CauseAnswers.{caused_begins, caused_waits, caused_steps, cause_answered}
use Rattle.cht_run.specs.declared.sight.Entry.{Entry}
use Rattle.cht_run.specs.declared.sight.Entry.TheVariants as entry
use Rattle.cht_run.specs.declared.sight.Origin.{Origin}
use Rattle.cht_run.specs.declared.sight.Sight.{Sight}
use Rattle.cht_run.specs.Begins.{own_at, first_of, begun, MayCall, HasLedger, ToldFirst, IsSoundOf, SoundIn, FitsIn, GoesOn, GoesFirst, next_in as seat_next, step_by}
use Rattle.cht_run.specs.Calls.{Stays, Went, at_stage, At}
use Rattle.cht_run.specs.ChainLengths.{linked_beside, chain_length}
use Rattle.cht_run.specs.Covers.{MachinePassed}
use Rattle.cht_run.specs.Seats.{Raw, Sits}
use Rattle.cht_run.specs.declared.table.Cht.{Cht}
use Rattle.cht_run.specs.History.{log_of, by_of, NoneBy, entries_by, told_by}
use Rattle.cht_run.specs.Told.{adds, tells, drew, kids_after, given_after, Told, WorkFound}
use Rattle.cht_run.proofs.ChainLengths.{alone_window}
use Rattle.cht_run.proofs.Deeds.{step_is_sound}
use Rattle.cht_run.proofs.Histories.{log-append, log_adds}
use Rattle.cht_run.proofs.Passing.{stays_long, machine_passed, starts_passed}

-- EVENTS OF OTHERS

abbrev IsNone : List ℕ → Entry → Type 0
IsNone numbers e = is_among numbers (by_of e) ≡ false

-- what is by none of a seat's numbers is not by the seat
pub whats_none : (i : ℕ) (numbers : List ℕ) (entries : List Entry) → is_among numbers i ≡ true → NoneBy numbers entries → whats_by i (log_of entries) ≡ []
whats_none i numbers [] is none = refl
whats_none i numbers (entry.Told e ∷ entries) is none =
    let out : is_among numbers e.seat ≡ false = All-head (IsNone numbers) (entry.Told e) entries none in
    let differ : e.seat ≢ i = λ same. let both : true ≡ false = sym is ∙ ap (is_among numbers) (sym same) ∙ out in absurd (cc) in
    ap (λ b. cond b (e.what ∷ whats_by i (log_of entries)) (whats_by i (log_of entries))) (ne_eqb e.seat i differ) ∙ whats_none i numbers entries is (All-tail (IsNone numbers) (entry.Told e) entries none)
whats_none i numbers (entry.Drew by number ∷ entries) is none = whats_none i numbers entries is (All-tail (IsNone numbers) (entry.Drew by number) entries none)

pub entries_none : (numbers : List ℕ) (entries : List Entry) → NoneBy numbers entries → entries_by numbers entries ≡ []
entries_none numbers [] none = refl
entries_none numbers (e ∷ entries) none =
    ap (λ b. cond b (e ∷ entries_by numbers entries) (entries_by numbers entries)) (All-head (IsNone numbers) e entries none) ∙ entries_none numbers entries (All-tail (IsNone numbers) e entries none)

-- and what the seat does is
entries_own : (i : ℕ) (numbers : List ℕ) (e : Option What) → is_among numbers i ≡ true → entries_by numbers (tells i e) ≡ map (told_by i) (whats_by i (events_of i e))
entries_own i numbers None is = refl
entries_own i numbers (Some w) is = ap (λ b. cond b (told_by i w ∷ []) []) is ∙ ap (map (told_by i)) (sym (whats_by_own i (Some w)))

abbrev IsOwn : ℕ → List ℕ → List Entry → Type 0
IsOwn i numbers window = entries_by numbers window ≡ map (told_by i) (whats_by i (log_of window))

own_append : (i : ℕ) (numbers : List ℕ) (xs ys : List Entry) → IsOwn i numbers xs → IsOwn i numbers ys → IsOwn i numbers (xs ++ ys)
own_append i numbers xs ys own more =
    filter-append (λ (e : Entry). is_among numbers (by_of e)) xs ys ∙ ap (λ l. l ++ entries_by numbers ys) own ∙ ap (λ l. map (told_by i) (whats_by i (log_of xs)) ++ l) more
    ∙ sym (map-append (told_by i) (whats_by i (log_of xs)) (whats_by i (log_of ys)))
    ∙ ap (map (told_by i)) (sym (whats_by-append i (log_of xs) (log_of ys)) ∙ ap (whats_by i) (sym (log-append xs ys)))

own_waits : (i : ℕ) (numbers : List ℕ) (between : List Entry) → is_among numbers i ≡ true → NoneBy numbers between → IsOwn i numbers between
own_waits i numbers between is none = entries_none numbers between none ∙ ap (map (told_by i)) (sym (whats_none i numbers between is none))

own_steps : (shape : Shape) (i : ℕ) (numbers : List ℕ) (m : Machine) (s : Step) (word : ℕ) → is_among numbers i ≡ true → drawn_in shape s word ≡ None → IsOwn i numbers (adds shape i m s word)
own_steps shape i numbers m s word is none =
    ap (entries_by numbers) (ap (λ n. tells i (event_of m word) ++ drew i n) none ∙ append-nil (tells i (event_of m word))) ∙ entries_own i numbers (event_of m word) is
    ∙ ap (λ l. map (told_by i) (whats_by i l)) (sym (log_adds shape i m s word))

-- where nobody else is there, nothing else came
own_alone : (i : ℕ) (numbers : List ℕ) (e : Option What) → is_among numbers i ≡ true → entries_by numbers (tells i e) ≡ tells i e
own_alone i numbers None is = refl
own_alone i numbers (Some w) is = ap (λ b. cond b (told_by i w ∷ []) []) is

alone_steps : (shape : Shape) (i : ℕ) (numbers : List ℕ) (m : Machine) (s : Step) (word : ℕ) → is_among numbers i ≡ true → drawn_in shape s word ≡ None → entries_by numbers (adds shape i m s word) ≡ adds shape i m s word
alone_steps shape i numbers m s word is none =
    let told : adds shape i m s word ≡ tells i (event_of m word) = ap (λ n. tells i (event_of m word) ++ drew i n) none ∙ append-nil (tells i (event_of m word)) in
    ap (entries_by numbers) told ∙ own_alone i numbers (event_of m word) is ∙ sym told

-- ONE STEP

-- the number of a machine stays
number_stays : (a b : Machine) → IsSameMachine a b → number_of b ≡ number_of a
number_stays (machine.Call c w g) (machine.Call d v e) same = ap (λ q. q.number) same.0
number_stays (machine.Begin b) (machine.Begin d) same = ap (λ (c : Caller). c.number) same
number_stays (machine.Poll p) (machine.Poll d) same = ap (λ (c : Caller). c.number) same.0
number_stays (machine.Sweep s) (machine.Sweep d) same = ap (λ q. q.caller.number) same
number_stays _ _ same = absurd same

sound_still : (o : Origin) (i : ℕ) (m : Machine) (word : ℕ) → IsSoundOf o i m → IsSoundMachine (got_of m word) → IsSoundOf o i (got_of m word)
sound_still o i m word of sound = record {
  sound = sound;
  shape = shape_law m word ∙ of.shape;
  number_is = number_stays m (got_of m word) (same_law m word) ∙ of.number_is;
}

-- what it finds out, where it was told what had come before
found_out : (t : Table) (i : ℕ) (way : Way) (seen window log : List Event) (load : ℕ) (f : Flow) (m : Machine) (s : Step) (word : ℕ) → log ≡ seen ++ window → shape_of m ≡ t.shape → IsSoundMachine m → plan_of m ≡ plan.Step s →
    FitsMachine m word → IsTold t log → IsTidy t (now_in t log) → Caused t i way seen window load m → WordSays t (past_of t.shape.min_level log) f s word → Hears t (past_of t.shape.min_level log) f i load log m word →
    Caused t i way seen (window ++ events_of i (event_of m word)) (Rattle.cht_core.specs.View.load_after s (now_in t log).place load) (got_of m word)
found_out t i way seen window log load f m s word is shape sound planned fits told tidy caused says hears =
    subst (λ load'. Caused t i way seen (window ++ events_of i (event_of m word)) load' (got_of m word)) (ap (λ p. loaded_at p (now_in t log).place load) planned)
    (subst (λ l. IsTold t l → IsTidy t (now_in t l) → PlanSays t (past_of t.shape.min_level l) f (plan_of m) word → Hears t (past_of t.shape.min_level l) f i load l m word →
    Caused t i way seen (window ++ events_of i (event_of m word)) (loaded_at (plan_of m) (now_in t l).place load) (got_of m word)) (sym is)
    (λ told tidy says hears. caused_steps t i way seen window load f m word shape sound fits told tidy caused says hears) told tidy
    (subst (λ p. PlanSays t (past_of t.shape.min_level log) f p word) (sym planned) says) hears)

-- from a seat whose call has found out so much, by a step that was told
module _ (b : Sight) (c : Call) (v w : Sight) (m : Machine) (s : Step) (word : ℕ) (window : List Entry) (is_seat : is_among b.numbers b.number ≡ true) (stays : Stays b v)
    (history : v.history ≡ b.history ++ window) (caused : Caused b.origin.table b.number (way_of c) (log_of b.history) (log_of window) v.load m)
    (own : IsOwn b.number b.numbers window) (alone : b.kids ≡ [] → is_among b.numbers 0 ≡ true → entries_by b.numbers window ≡ window)
    (exact : b.kids ≡ [] → is_among b.numbers 0 ≡ true → MachinePassed b.origin.table (log_of b.history) m) (ledger : HasLedger b) (sound : IsSoundOf b.origin b.number m)
    (planned : plan_of m ≡ plan.Step s) (none : drawn_in b.origin.table.shape s word ≡ None) (told : Told b.origin m s v word w) where
  abbrev t : Table
  t = b.origin.table

  abbrev later : List Entry
  later = told.between ++ adds t.shape v.number m s word

  -- the history up to the step
  before_is : log_of (v.history ++ told.between) ≡ log_of b.history ++ (log_of window ++ log_of told.between)
  before_is = log-append v.history told.between ∙ ap (λ h. log_of h ++ log_of told.between) history ∙ ap (λ l. l ++ log_of told.between) (log-append b.history window)
      ∙ append_assoc (log_of b.history) (log_of window) (log_of told.between)

  none_by : NoneBy b.numbers told.between
  none_by = subst (λ ns. NoneBy ns told.between) stays.numbers told.none

  waited : Caused t b.number (way_of c) (log_of b.history) (log_of window ++ log_of told.between) v.load m
  waited = caused_waits t b.number (way_of c) (log_of b.history) (log_of window) (log_of told.between) v.load m (whats_none b.number b.numbers told.between is_seat none_by) caused

  window_is : (log_of window ++ log_of told.between) ++ events_of b.number (event_of m word) ≡ log_of (window ++ later)
  window_is = append_assoc (log_of window) (log_of told.between) (events_of b.number (event_of m word))
      ∙ ap (λ l. log_of window ++ (log_of told.between ++ l)) (ap (λ i. events_of i (event_of m word)) (sym stays.number) ∙ sym (log_adds t.shape v.number m s word))
      ∙ ap (λ l. log_of window ++ l) (sym (log-append told.between (adds t.shape v.number m s word))) ∙ sym (log-append window later)

  stepped : Caused t b.number (way_of c) (log_of b.history) (log_of (window ++ later)) w.load (got_of m word)
  stepped =
      let found = told.found in
      subst (λ l. Caused t b.number (way_of c) (log_of b.history) l w.load (got_of m word)) window_is
      (subst (λ load. Caused t b.number (way_of c) (log_of b.history) ((log_of window ++ log_of told.between) ++ events_of b.number (event_of m word)) load (got_of m word)) (sym (ap (λ (x : Sight). x.load) told.after))
      (found_out t b.number (way_of c) (log_of b.history) (log_of window ++ log_of told.between) (log_of (v.history ++ told.between)) v.load found.flow m s word before_is sound.shape sound.sound planned found.fits found.told found.tidy
      waited found.says (subst (λ i. Hears t (past_of t.shape.min_level (log_of (v.history ++ told.between))) found.flow i v.load (log_of (v.history ++ told.between)) m word) stays.number found.hears)))

  -- where nobody else is there, what came is the call's own, and leaves the chain as long as it was until an entry is made
  passed_on : b.kids ≡ [] → is_among b.numbers 0 ≡ true → MachinePassed t (log_of b.history) (got_of m word)
  passed_on none_out root = machine_passed t (log_of b.history) (now_in t (log_of (v.history ++ told.between))) m word same (told.ended gone among) (exact none_out root)
    where
      gone : v.kids ≡ []
      gone = stays.kids ∙ none_out

      among : is_among v.numbers 0 ≡ true
      among = ap (λ ns. is_among ns 0) stays.numbers ∙ root

      nothing : log_of window ++ log_of told.between ≡ log_of window
      nothing = ap (λ l. log_of window ++ log_of l) (told.alone gone among) ∙ append-nil (log_of window)

      its_own : log_of window ++ log_of told.between ≡ map (by b.number) (whats_by b.number (log_of window ++ log_of told.between))
      its_own = subst (λ l. l ≡ map (by b.number) (whats_by b.number l)) (sym nothing) (alone_window b.number (entries_by b.numbers window) window (alone none_out root) own)

      same : (x : Calling) (g : Option Grace) → m ≡ machine.Call x None g → made_of x ≡ [] →
          linked_beside t.shape.slots (now_in t (log_of (v.history ++ told.between))) x.asked.text ≡ chain_length t (log_of b.history) x.asked.text
      same x g is made = ap (λ l. chain_length t l x.asked.text) before_is
          ∙ stays_long t b.number (way_of c) (log_of b.history) (log_of window ++ log_of told.between) v.load m waited (subst (IsTold t) before_is told.found.told) its_own x g is made

  pub goes_on : Went b c w (got_of m word)
  goes_on = record {
    is = ap (λ (x : Sight). x.seat) told.after;
    stays = record {
      origin = ap (λ (x : Sight). x.origin) told.after ∙ stays.origin;
      number = ap (λ (x : Sight). x.number) told.after ∙ stays.number;
      numbers = ap (λ (x : Sight). x.numbers) told.after ∙ stays.numbers;
      kids = ap (λ (x : Sight). x.kids) told.after ∙ ap (λ n. kids_after n v.kids) none ∙ stays.kids;
      given = ap (λ (x : Sight). x.given) told.after ∙ ap (λ n. given_after t.shape n v.given) none ∙ stays.given;
    };
    window = window ++ later;
    history = ap (λ (x : Sight). x.history) told.after ∙ append_assoc v.history told.between (adds t.shape v.number m s word) ∙ ap (λ h. h ++ later) history ∙ append_assoc b.history window later;
    caused = stepped;
    own = own_append b.number b.numbers window later own (own_append b.number b.numbers told.between (adds t.shape v.number m s word) (own_waits b.number b.numbers told.between is_seat none_by)
        (subst (λ i. IsOwn b.number b.numbers (adds t.shape i m s word)) (sym stays.number) (own_steps t.shape b.number b.numbers m s word is_seat none)));
    alone = λ none_out root.
        let nothing : told.between ≡ [] = told.alone (stays.kids ∙ none_out) (ap (λ ns. is_among ns 0) stays.numbers ∙ root) in
        let step : entries_by b.numbers (adds t.shape v.number m s word) ≡ adds t.shape v.number m s word =
        subst (λ i. entries_by b.numbers (adds t.shape i m s word) ≡ adds t.shape i m s word) (sym stays.number) (alone_steps t.shape b.number b.numbers m s word is_seat none) in
        filter-append (λ (e : Entry). is_among b.numbers (by_of e)) window later ∙ ap (λ l. l ++ entries_by b.numbers later) (alone none_out root)
        ∙ ap (λ l. window ++ l) (subst (λ l. entries_by b.numbers (l ++ adds t.shape v.number m s word) ≡ l ++ adds t.shape v.number m s word) (sym nothing) step);
    ledger = ledger;
    sees = told.sees;
    sound = sound_still b.origin b.number m word sound told.sound;
    few = told.few;
    found_out = subst (λ i. WorkFound b.origin.table (log_of w.history) i (got_of m word)) stays.number told.found_out;
    exact = passed_on;
  }

-- A FURTHER STEP

pub went_on : (b : Sight) (c : Call) (v w : Sight) (m : Machine) (s : Step) (word : ℕ) → is_among b.numbers b.number ≡ true → Went b c v m → plan_of m ≡ plan.Step s → drawn_in b.origin.table.shape s word ≡ None → Told v.origin m s v word w →
    Went b c w (got_of m word)
went_on b c v w m s word is went planned none told =
    goes_on b c v w m s word went.window is went.stays went.history went.caused went.own went.alone went.exact went.ledger went.sound planned none (subst (λ o. Told o m s v word w) went.stays.origin told)

-- THE FIRST STEP

-- a call that begins is of its table and of its seat
abbrev IsBy : Caller → Machine → Type 0
IsBy caller m = (shape_of m ≡ caller.shape) × (number_of m ≡ caller.number)

walk_by : (caller : Caller) (own : Own) (goal : Goal) (text : List ℕ) → IsBy caller (beside own (begun_walk caller goal text))
walk_by caller own goal text = by_test (is_too_long caller.shape text)
  where
    by_test : (b : Bool) → IsBy caller (beside own (cond b (begins caller goal [] no_handle (stage.Answered (too_long goal))) (begins caller goal text no_handle (stage.Find (find.Enter enter.LoadCounter)))))
    by_test true = (refl, refl)
    by_test false = (refl, refl)

grace_by : (caller : Caller) (g : Option Grace) → IsBy caller (begun_grace_poll caller g)
grace_by caller None = (refl, refl)
grace_by caller (Some g) = (refl, refl)

work_by : (caller : Caller) (w : Option Work) → IsBy caller (begun_work_poll caller w)
work_by caller None = (refl, refl)
work_by caller (Some w) = (refl, refl)

started_by : (caller : Caller) (own : Own) (c : Call) → IsBy caller (starts caller own c)
started_by caller own (call.Intern text) = walk_by caller own goal.Intern text.now
started_by caller own (call.Lookup text) = walk_by caller own goal.Lookup text.now
started_by caller own (call.InternWait text) = walk_by caller own goal.InternWait text.now
started_by caller own call.PollGrace = grace_by caller own.grace
started_by caller own call.PollWork = work_by caller own.work
started_by caller own call.Split = (refl, refl)
started_by caller own (call.TextOf h) = (refl, refl)
started_by caller own (call.Drop h) = (refl, refl)
started_by caller own (call.Permanent h) = (refl, refl)
started_by caller own (call.Kill h) = (refl, refl)
started_by caller own call.BeginClean = (refl, refl)
started_by caller own call.BeginGrow = (refl, refl)
started_by caller own call.BeginShrink = (refl, refl)
started_by caller own call.BeginGrace = (refl, refl)
started_by caller own (call.Sweep text) = (refl, refl)

pub went_first : (b : Sight) (c : Call) (w : Sight) (s : Step) (word : ℕ) → IsSound b.origin.table.shape → b.origin.seed < 2 ^ 32 → MayCall b c → MayCause b.origin.table b.number (log_of b.history) (own_at b.seat) c →
    plan_of (first_of b c) ≡ plan.Step s → drawn_in b.origin.table.shape s word ≡ None → ToldFirst c s b word w → Went b c w (got_of (first_of b c) word)
went_first b c w s word shape seed may causes planned none first =
    let t = b.origin.table in
    let own = own_at b.seat in
    let may_start : MayStart t.kind t.shape own c = (first.own.0, may.handle, may.allowed) in
    let sound : IsSoundOf b.origin b.number (first_of b c) = record {
      sound = start_law t.kind t.shape b.origin.seed own c shape seed first.own may_start;
      shape = (started_by (caller_of t.kind t.shape b.origin.seed own) own c).0;
      number_is = (started_by (caller_of t.kind t.shape b.origin.seed own) own c).1 ∙ first.number_is;
    } in
    goes_on b c (begun b c) w (first_of b c) s word [] may.seat (record { origin = refl; number = refl; numbers = refl; kids = refl; given = refl }) (sym (append-nil b.history))
    (caused_begins t b.number (log_of b.history) b.load b.origin.seed own c shape seed first.own may_start causes) refl (λ none_out root. refl)
    (λ none_out root. starts_passed t (log_of b.history) s (caller_of t.kind t.shape b.origin.seed own) own c planned) first.ledger sound planned none first.told

-- THE ANSWER

-- a call that has answered has its cause
pub went_answered : (b : Sight) (c : Call) (v : Sight) (m : Machine) (a : Answer) (went : Went b c v m) → plan_of m ≡ plan.Answered a → Cause b.origin.table b.number (way_of c) (log_of b.history) (log_of went.window) m a
went_answered b c v m a went answered = cause_answered b.origin.table b.number (way_of c) (log_of b.history) (log_of went.window) v.load m a went.sound.sound answered went.caused

-- FROM STAGE TO STAGE

-- what the machine of a try call does is what its stage does
plan_mapped : {S T : Type 0} (f : S → T) (x : Turn S) → plan_in (map_turn f x) ≡ plan_in x
plan_mapped f (turn.Answered a) = refl
plan_mapped f (turn.Makes does) = refl

next_mapped : {S T : Type 0} (f : S → T) (x : Turn S) (at : S) (word : ℕ) → next_in (f at) (map_turn f x) word ≡ f (next_in at x word)
next_mapped f (turn.Answered a) at word = refl
next_mapped f (turn.Makes does) at word = refl

pub plan_there : (b : Sight) (q : Asked) (w : Along) (s : CallStage) → plan_of (at_stage b q w s) ≡ plan_at q w s
plan_there b q w s = plan_mapped (λ (at : Along × CallStage). at_stage b q at.0 at.1) (turn_at q w s)

pub got_there : (b : Sight) (q : Asked) (w : Along) (s : CallStage) (word : ℕ) → got_of (at_stage b q w s) word ≡ at_stage b q (next_at q w s word).0 (next_at q w s word).1
got_there b q w s word = next_mapped (λ (at : Along × CallStage). at_stage b q at.0 at.1) (turn_at q w s) (w, s) word

-- what the step of a try call at a stage tells it
pub told_there : (cht : Cht) (b : Sight) (c : Call) (r : Request) (raw raw' : Raw) (w : Along) (s : CallStage) (stp : Step) (word : ℕ) → At cht b c r raw w s → plan_at (asked_of r) w s ≡ plan.Step stp → GoesOn raw.me.0 word raw'.me.0 →
    Told raw.me.0.origin (at_stage b (asked_of r) w s) stp raw.me.0 word raw'.me.0
told_there cht b c r raw raw' w s stp word at planned on =
    on (at_stage b (asked_of r) w s) stp (record { seat = at.sits.seat; running = at.stands.is; plan = plan_there b (asked_of r) w s ∙ planned })

-- a try call at a stage makes its step, and comes to the next stage
pub goes : (cht : Cht) (b : Sight) (c : Call) (r : Request) (raw raw' : Raw) (w w' : Along) (s s' : CallStage) (stp : Step) (word : ℕ) → At cht b c r raw w s → plan_at (asked_of r) w s ≡ plan.Step stp → drawn_in b.origin.table.shape stp word ≡ None →
    Sits cht raw' → GoesOn raw.me.0 word raw'.me.0 → next_at (asked_of r) w s word ≡ (w', s') → At cht b c r raw' w' s'
goes cht b c r raw raw' w w' s s' stp word at planned none sits on leads =
    let stays = at.stands.stays in
    let seat : is_among b.numbers b.number ≡ true = subst (λ ns. is_among ns b.number ≡ true) stays.numbers (subst (λ n. is_among raw.me.0.numbers n ≡ true) stays.number at.sits.seat) in
    record {
      sits = sits;
      request = at.request;
      stands = subst (Went b c raw'.me.0) (got_there b (asked_of r) w s word ∙ ap (λ (z : Along × CallStage). at_stage b (asked_of r) z.0 z.1) leads)
          (went_on b c raw.me.0 raw'.me.0 (at_stage b (asked_of r) w s) stp word seat at.stands (plan_there b (asked_of r) w s ∙ planned) none (told_there cht b c r raw raw' w s stp word at planned on));
    }

-- what a step asks of where its call stands
pub sound_at : (cht : Cht) (b : Sight) (c : Call) (r : Request) (raw : Raw) (w : Along) (s : CallStage) → At cht b c r raw w s → SoundIn cht.origin raw.me.0.number raw.me.0.seat
sound_at cht b c r raw w s at =
    let stays = at.stands.stays in
    subst (SoundIn cht.origin raw.me.0.number) (sym at.stands.is) (subst (λ o. IsSoundOf o raw.me.0.number (at_stage b (asked_of r) w s)) (sym stays.origin ∙ at.sits.origin)
    (subst (λ n. IsSoundOf b.origin n (at_stage b (asked_of r) w s)) (sym stays.number) at.stands.sound))

pub next_is : (cht : Cht) (b : Sight) (c : Call) (r : Request) (raw : Raw) (w : Along) (s : CallStage) (stp : Step) → At cht b c r raw w s → plan_at (asked_of r) w s ≡ plan.Step stp → seat_next raw.me.0.seat ≡ Some stp
next_is cht b c r raw w s stp at planned = ap seat_next at.stands.is ∙ ap step_by (plan_there b (asked_of r) w s ∙ planned)

-- the values of its step are sound
pub value_at : (cht : Cht) (b : Sight) (c : Call) (r : Request) (raw : Raw) (w : Along) (s : CallStage) (stp : Step) → At cht b c r raw w s → plan_at (asked_of r) w s ≡ plan.Step stp → HasSoundValue stp
value_at cht b c r raw w s stp at planned = (step_is_sound cht.origin raw.me.0 stp at.sits.seat (next_is cht b c r raw w s stp at planned) (sound_at cht b c r raw w s at)).1

pub fits_at : (cht : Cht) (b : Sight) (c : Call) (r : Request) (raw : Raw) (w : Along) (s : CallStage) (word : ℕ) → At cht b c r raw w s → FitsIn raw.me.0.seat word → FitsMachine (at_stage b (asked_of r) w s) word
fits_at cht b c r raw w s word at fits = subst (λ x. FitsIn x word) at.stands.is fits

-- a call has passed at most as many nodes as there are slots, and these are few
pub passed_few : (cht : Cht) (b : Sight) (c : Call) (r : Request) (raw : Raw) (w : Along) (s : CallStage) → At cht b c r raw w s → (w.walk.passed ≤ cht.origin.table.shape.slots) × (w.walk.passed < 4294967295)
passed_few cht b c r raw w s at =
    let slots : b.origin.table.shape.slots ≡ cht.origin.table.shape.slots = ap (λ (o : Origin). o.table.shape.slots) (sym at.stands.stays.origin ∙ at.sits.origin) in
    let few : w.walk.passed ≤ b.origin.table.shape.slots = at.stands.few in
    let small = few_slots cht.origin.table.shape cht.sound in
    (omega (arith, slots, few), omega (arith, slots, few, small))

-- a try call makes its first step
pub enters : (cht : Cht) (b : Sight) (c : Call) (r : Request) (raw raw' : Raw) (w w' : Along) (s s' : CallStage) (stp : Step) (word : ℕ) → Sits cht raw → b ≡ raw.me.0 → MayCall b c →
    MayCause cht.origin.table b.number (log_of b.history) (own_at b.seat) c → IsRequest r → first_of b c ≡ at_stage b (asked_of r) w s → plan_at (asked_of r) w s ≡ plan.Step stp → drawn_in cht.origin.table.shape stp word ≡ None →
    Sits cht raw' → GoesFirst c raw.me.0 word raw'.me.0 → next_at (asked_of r) w s word ≡ (w', s') → At cht b c r raw' w' s'
enters cht b c r raw raw' w w' s s' stp word sat is may causes request first planned none sits on leads =
    let of : b.origin ≡ cht.origin = ap (λ (x : Sight). x.origin) is ∙ sat.origin in
    let wants : plan_of (first_of b c) ≡ plan.Step stp = ap plan_of first ∙ plan_there b (asked_of r) w s ∙ planned in
    let told : ToldFirst c stp b word raw'.me.0 = subst (λ (x : Sight). GoesFirst c x word raw'.me.0) (sym is) on stp wants in
    record {
      sits = sits;
      request = request;
      stands = subst (Went b c raw'.me.0) (ap (λ (m : Machine). got_of m word) first ∙ got_there b (asked_of r) w s word ∙ ap (λ (z : Along × CallStage). at_stage b (asked_of r) z.0 z.1) leads)
          (went_first b c raw'.me.0 stp word (subst (λ (o : Origin). IsSound o.table.shape) (sym of) cht.sound) (subst (λ (o : Origin). o.seed < 2 ^ 32) (sym of) cht.seeded) may
          (subst (λ (o : Origin). MayCause o.table b.number (log_of b.history) (own_at b.seat) c) (sym of) causes) wants (subst (λ (o : Origin). drawn_in o.table.shape stp word ≡ None) (sym of) none) told);
    }
