-- A try call in a run answers in time.
use Rattle.std.proofs.Common.{◌≡◌, ℕ, ◌+◌, ◌*◌, ◌<◌, ◌≤◌, ◌^◌, List, [], ◌∷◌, ◌++◌, length, Option, Some, refl, sym, ap, subst, ◌∙◌, arith}
use Rattle.std.proofs.lemmas.List.{length-append}
use Rattle.atomic_step.specs.declared.plan.Plan.TheVariants as plan
use Rattle.atomic_step.specs.declared.step.Step.{Step as AtomicStep}
use Rattle.atomic_step.specs.Run.{Machine as Told, AreFitting, after_words}
use Rattle.atomic_step.specs.Step.{access_of}
use Rattle.atomic_step.proofs.Choices.{either_way}
use Rattle.call_machine.specs.declared.call.Call.{Call}
use Rattle.call_machine.specs.declared.call.Call.TheVariants as call
use Rattle.call_machine.specs.declared.caller.Caller.{Caller}
use Rattle.call_machine.specs.declared.grace.Grace.{Grace}
use Rattle.call_machine.specs.declared.machine.Machine.{Machine}
use Rattle.call_machine.specs.declared.machine.Machine.TheVariants as machine
use Rattle.call_machine.specs.declared.machine.Own.{Own}
use Rattle.call_machine.specs.declared.stage.Calling.{Calling}
use Rattle.call_machine.specs.declared.stage.Goal.{Goal}
use Rattle.call_machine.specs.declared.stage.Goal.TheVariants as goal
use Rattle.call_machine.specs.declared.work.Work.{Work}
use Rattle.atomic_step.specs.declared.count.Change.TheVariants as change
use Rattle.call_machine.specs.BeginCall as calls
use Rattle.call_machine.specs.BeginCall.{begun_walk}
use Rattle.call_machine.specs.Calls as one
use Rattle.call_machine.specs.CallMeasure.{IsTry, most_steps, short_walks}
use Rattle.call_machine.specs.Caller.{IsSoundCaller}
use Rattle.call_machine.specs.Machine.{caller_of, starts, plan_of, got_of, passed_of}
use Rattle.call_machine.specs.SoundMachine.{MayStart}
use Rattle.call_machine.specs.Sought.{is_too_long}
use Rattle.call_machine.proofs.CallMeasure.{AnswersInTime, in_time_law}
use Rattle.call_machine.proofs.Machines.{got_is, fits_part}
use Rattle.cht_core.specs.declared.seat.Seat.TheVariants as doing
use Rattle.cht_core.specs.declared.table.Table.{Table}
use Rattle.cht_core.specs.Caused.{way_of}
use Rattle.cht_core.specs.Causes.{now_in}
use Rattle.cht_core.specs.Runs.{Move, IsUnderWay, IsTryCall, steps_of, word_in}
use Rattle.cht_core.specs.State.{Core, IsCore, seat_in}
use Rattle.cht_core.specs.View.{IsOwnOf}
use Rattle.cht_core.proofs.CauseAnswers.{first_slot}
use Rattle.cht_core.proofs.RunCarries.{carried}
use Rattle.cht_core.proofs.RunFollows.{Following}
use Rattle.cht_core.proofs.StateLaw.{any_step_keeps, any_word_fits}
use Rattle.cht_core.proofs.StateStarts.{view_at, view_is}
use Rattle.cht_core.proofs.StateSteps.{step_fits, found_is, got_passed}

-- ONE MORE WORD

fitting_more : {S : Type 0} (m : Told S) (s : S) (words : List ℕ) (word : ℕ) → AreFitting m s words → m.Fits (after_words m s words) word → AreFitting m s (words ++ word ∷ [])
fitting_more m s [] word fitting fits = (fits, tt)
fitting_more m s (x ∷ words) word fitting fits = (fitting.0, fitting_more m (m.got s x) words word fitting.1 fits)

after_more : {S : Type 0} (m : Told S) (s : S) (words : List ℕ) (word : ℕ) → after_words m s (words ++ word ∷ []) ≡ m.got (after_words m s words) word
after_more m s [] word = refl
after_more m s (x ∷ words) word = after_more m (m.got s x) words word

-- A CALL AS IT BEGINS

-- a try call begins as one of the calls that answer in time
record InTime (t : Table) (own : Own) (m : Machine) : Type 0 where
  calling : Calling
  is : m ≡ machine.Call calling own.work own.grace
  try : IsTry calling.asked.goal
  shape : calling.asked.shape ≡ t.shape
  time : AnswersInTime calling

module _ (t : Table) (caller : Caller) (own : Own) (shape : caller.shape ≡ t.shape) (sound : IsSoundCaller caller) where
  walk_in_time : (why : Goal) (text : List ℕ) → IsTry why → InTime t own (machine.Call (begun_walk caller why text) own.work own.grace)
  walk_in_time why text try =
      let of : IsTry (begun_walk caller why text).asked.goal × ((begun_walk caller why text).asked.shape ≡ caller.shape) =
      either_way (λ (c : Calling). IsTry c.asked.goal × (c.asked.shape ≡ caller.shape)) (is_too_long caller.shape text) _ _ (try, refl) (try, refl) in
      record {
        calling = begun_walk caller why text;
        is = refl;
        try = of.0;
        shape = of.1 ∙ shape;
        time = (in_time_law caller why text change.Drop calls.no_handle sound (first_slot caller.shape sound.shape)).1;
      }

  starts_in_time : (asked : Call) → IsTryCall asked → MayStart caller.kind caller.shape own asked → InTime t own (starts caller own asked)
  starts_in_time (call.Intern text) try may = walk_in_time goal.Intern text.now tt
  starts_in_time (call.Lookup text) try may = walk_in_time goal.Lookup text.now tt
  starts_in_time call.Split try may = record {
    calling = calls.begun_split caller;
    is = refl;
    try = tt;
    shape = shape;
    time = (in_time_law caller goal.Lookup [] change.Drop calls.no_handle sound (first_slot caller.shape sound.shape)).0;
  }
  starts_in_time (call.TextOf h) try may = record {
    calling = calls.begun_read caller h;
    is = refl;
    try = tt;
    shape = shape;
    time = (in_time_law caller goal.Lookup [] change.Drop h sound may.1).3;
  }
  starts_in_time (call.Drop h) try may = record {
    calling = calls.begun_change caller change.Drop h;
    is = refl;
    try = tt;
    shape = shape;
    time = (in_time_law caller goal.Lookup [] change.Drop h sound may.1).2;
  }
  starts_in_time (call.Permanent h) try may = record {
    calling = calls.begun_change caller change.Permanent h;
    is = refl;
    try = tt;
    shape = shape;
    time = (in_time_law caller goal.Lookup [] change.Permanent h sound may.1).2;
  }
  starts_in_time (call.Kill h) try may = record {
    calling = calls.begun_change caller change.Kill h;
    is = refl;
    try = tt;
    shape = shape;
    time = (in_time_law caller goal.Lookup [] change.Kill h sound may.1).2;
  }
  starts_in_time (call.InternWait text) try may = absurd try
  starts_in_time call.BeginClean try may = absurd try
  starts_in_time call.BeginGrow try may = absurd try
  starts_in_time call.BeginShrink try may = absurd try
  starts_in_time call.BeginGrace try may = absurd try
  starts_in_time call.PollGrace try may = absurd try
  starts_in_time call.PollWork try may = absurd try
  starts_in_time (call.Sweep text) try may = absurd try

-- A STEP OF IT

-- the word that a try call finds is one that it may be told in a short walk
one_word : (b : Core) (core : IsCore b) (k : ℕ) (c : Calling) (w : Option Work) (g : Option Grace) (s : AtomicStep) → seat_in b.seats k ≡ Some (doing.Running (machine.Call c w g)) →
    plan_of (machine.Call c w g) ≡ plan.Step s → short_walks.Fits c (word_in b s)
one_word b core k c w g s at planned = (
  (
    subst (λ n. n < 2 ^ 64) (found_is any_step_keeps any_word_fits b core k (machine.Call c w g) s at planned) (core.inv.table.words.small (access_of s).place),
    fits_part (machine.Call c w g) (word_in b s) (step_fits any_step_keeps any_word_fits b core k (machine.Call c w g) s at planned),
  ),
  subst (λ shape. (one.got_of c (word_in b s)).along.walk.passed ≤ shape.slots) (sym (of_shape b core k c w g at))
      (subst (λ (x : Machine). passed_of x ≤ b.table.shape.slots) (got_is (machine.Call c w g) (word_in b s)) (got_passed any_step_keeps any_word_fits b core k (machine.Call c w g) s at planned)),
)
  where
    of_shape : (b : Core) (core : IsCore b) (k : ℕ) (c : Calling) (w : Option Work) (g : Option Grace) → seat_in b.seats k ≡ Some (doing.Running (machine.Call c w g)) → c.asked.shape ≡ b.table.shape
    of_shape b core k c w g at =
        (core.inv.knows k (view_at (core.sights k) k (doing.Running (machine.Call c w g))) (view_is core.sights b.seats k (doing.Running (machine.Call c w g)) at)).0.shape

-- so many words have been told, and each is one of a short walk
record HasBeenTold (first : Calling) (n : ℕ) (m : Machine) : Type 0 where
  words : List ℕ
  w : Option Work
  g : Option Grace
  fitting : AreFitting short_walks first words
  is : m ≡ machine.Call (after_words short_walks first words) w g
  many : length words ≡ n

told_on : (first : Calling) (k : ℕ) (n : ℕ) (b : Core) (core : IsCore b) (m : Machine) (s : AtomicStep) → seat_in b.seats k ≡ Some (doing.Running m) → plan_of m ≡ plan.Step s → HasBeenTold first n m →
    HasBeenTold first (n + 1) (got_of m (word_in b s))
told_on first k n b core m s at planned so =
    let c : Calling = after_words short_walks first so.words in
    let word : ℕ = word_in b s in
    let fits : short_walks.Fits c word =
    one_word b core k c so.w so.g s (at ∙ ap (λ (x : Machine). Some (doing.Running x)) so.is) (subst (λ (x : Machine). plan_of x ≡ plan.Step s) so.is planned) in
    let more = length-append so.words (word ∷ []) in
    let many = so.many in
    record {
      words = so.words ++ word ∷ [];
      w = so.w;
      g = so.g;
      fitting = fitting_more short_walks first so.words word so.fitting fits;
      is = ap (λ (x : Machine). got_of x word) so.is ∙ got_is (machine.Call c so.w so.g) word ∙ ap (λ (x : Calling). machine.Call x so.w so.g) (sym (after_more short_walks first so.words word));
      many = omega (arith, more, many);
    }

-- THE TIME

pub in_time_in_run : (c d : Core) (k : ℕ) (own : Own) (asked : Call) (moves : List Move) (m : Machine) → IsCore c → IsUnderWay c k own asked moves d m → IsTryCall asked →
    steps_of k moves < 16 + c.table.shape.text_words + c.table.shape.slots * (4 + c.table.shape.text_words)
in_time_in_run c d k own asked moves m core under try =
    let known : IsOwnOf c.table k own = (core.inv.knows k (view_at (core.sights k) k (doing.Idle own)) (view_is core.sights c.seats k (doing.Idle own) under.idle)).0 in
    let small : (now_in c.table c.log).seed ≤ 2 = core.inv.table.tidy.seed in
    let same : c.seed ≡ (now_in c.table c.log).seed = core.seed in
    let caller : Caller = caller_of c.table.kind c.table.shape c.seed own in
    let sound : IsSoundCaller caller = record { shape = core.inv.table.shape; seed = omega (arith, small, same); number = known.sound.0.0; cursor = known.sound.0.1 } in
    let begins : InTime c.table own (starts caller own asked) = starts_in_time c.table caller own refl sound asked try under.can.may in
    let follows : Following k (way_of asked) c.log d m × HasBeenTold begins.calling (steps_of k moves) m =
    carried c d core k own asked moves m under (HasBeenTold begins.calling) (record { words = []; w = own.work; g = own.grace; fitting = tt; is = begins.is; many = refl })
    (λ n b x s is planned so. told_on begins.calling k n b is.core x s is.at planned so) in
    let next : (s : AtomicStep) × (plan_of m ≡ plan.Step s) = follows.0.core.going k (doing.Running m) follows.0.at in
    let last = told_on begins.calling k (steps_of k moves) d follows.0.core m next.0 follows.0.at next.1 follows.1 in
    let few : length last.words ≤ most_steps begins.calling.asked.shape = begins.time begins.try last.words last.fitting in
    let most : length last.words ≤ most_steps c.table.shape = subst (λ shape. length last.words ≤ most_steps shape) begins.shape few in
    let many = last.many in
    omega (arith, most, many)
