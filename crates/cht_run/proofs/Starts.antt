-- The first step of a call of a work or a grace: it loads the counter, or it is the next step of what a seat has unfinished.
use Rattle.std.proofs.Common.{◌≡◌, ◌≢◌, ℕ, ◌^◌, ◌<◌, true, false, List, [], ◌∷◌, ◌++◌, Option, Some, None, IfSome, refl, sym, ap, subst, ◌∙◌}
use Rattle.std.specs.Option.{option_map}
use Rattle.std.proofs.lemmas.List.Elements.{All-head, All-tail}
use Rattle.table_shape.specs.Shape.{IsSound}
use Rattle.intern_log.specs.declared.event.Event.{Event}
use Rattle.intern_log.specs.declared.event.What.{What}
use Rattle.intern_log.specs.declared.event.What.TheVariants as what
use Rattle.intern_log.specs.Now.{Now, Resizing, opening, owner_of, resizing_after_lock, changed_by, now_after_event, now_after}
use Rattle.intern_log.specs.Own.{is_among}
use Rattle.intern_log.proofs.LawfulLaws.{now_after-append}
use Rattle.atomic_step.specs.declared.plan.Plan.TheVariants as plan
use Rattle.atomic_step.specs.declared.step.Step.{Step}
use Rattle.atomic_step.specs.declared.step.Step.TheVariants as step
use Rattle.call_machine.specs.declared.call.Call.{Call}
use Rattle.call_machine.specs.declared.call.Call.TheVariants as call
use Rattle.call_machine.specs.declared.caller.Caller.{Caller}
use Rattle.call_machine.specs.declared.grace.Grace.{Grace}
use Rattle.call_machine.specs.declared.machine.Machine.{Machine}
use Rattle.call_machine.specs.declared.machine.Own.{Own}
use Rattle.call_machine.specs.declared.work.Work.{Work}
use Rattle.call_machine.specs.Machine.{caller_of, begun_grace_poll, begun_work_poll, plan_of, got_of, shape_of, IsOfWork}
use Rattle.cht_core.specs.declared.table.Table.{Table}
use Rattle.cht_core.specs.Causes.{now_in, IsResting}
use Rattle.cht_core.specs.Caused.{MayCause}
use Rattle.cht_run.specs.declared.sight.Entry.{Entry}
use Rattle.cht_run.specs.declared.sight.Entry.TheVariants as entry
use Rattle.cht_run.specs.declared.sight.Origin.{Origin}
use Rattle.cht_run.specs.declared.sight.Sight.{Sight}
use Rattle.cht_run.specs.declared.table.Cht.{Cht}
use Rattle.cht_run.specs.Begins.{own_at, first_of, MayCall, ToldFirst, GoesFirst}
use Rattle.cht_run.specs.History.{log_of, by_of, NoneBy}
use Rattle.cht_run.specs.Runs.{Ran, IsBeginCall, IsPollCall}
use Rattle.cht_run.proofs.Histories.{log-append}
use Rattle.cht_run.proofs.Runs.{ran_first}

-- A CALL BEGINS WITH THE COUNTER

counts_first : (b : Sight) (c : Call) → IsBeginCall c → (plan_of (first_of b c) ≡ plan.Step step.LoadCounter) × IsOfWork (first_of b c)
counts_first b call.BeginClean is = (refl, tt)
counts_first b call.BeginGrow is = (refl, tt)
counts_first b call.BeginShrink is = (refl, tt)
counts_first b call.BeginGrace is = (refl, tt)
counts_first b (call.Sweep text) is = (refl, tt)
counts_first b call.Split is = absurd is
counts_first b (call.Intern text) is = absurd is
counts_first b (call.Lookup text) is = absurd is
counts_first b (call.InternWait text) is = absurd is
counts_first b (call.TextOf h) is = absurd is
counts_first b (call.Drop h) is = absurd is
counts_first b (call.Permanent h) is = absurd is
counts_first b (call.Kill h) is = absurd is
counts_first b call.PollWork is = absurd is
counts_first b call.PollGrace is = absurd is

pub counts_is : (b : Sight) (c : Call) → IsBeginCall c → plan_of (first_of b c) ≡ plan.Step step.LoadCounter
counts_is b c is = (counts_first b c is).0

pub counts_of_work : (b : Sight) (c : Call) → IsBeginCall c → IsOfWork (first_of b c)
counts_of_work b c is = (counts_first b c is).1

-- it needs nothing else
causes_begin : (t : Table) (i : ℕ) (seen : List Event) (own : Own) (c : Call) → IsBeginCall c → MayCause t i seen own c
causes_begin t i seen own call.BeginClean is = tt
causes_begin t i seen own call.BeginGrow is = tt
causes_begin t i seen own call.BeginShrink is = tt
causes_begin t i seen own call.BeginGrace is = tt
causes_begin t i seen own (call.Sweep text) is = tt
causes_begin t i seen own call.Split is = absurd is
causes_begin t i seen own (call.Intern text) is = absurd is
causes_begin t i seen own (call.Lookup text) is = absurd is
causes_begin t i seen own (call.InternWait text) is = absurd is
causes_begin t i seen own (call.TextOf h) is = absurd is
causes_begin t i seen own (call.Drop h) is = absurd is
causes_begin t i seen own (call.Permanent h) is = absurd is
causes_begin t i seen own (call.Kill h) is = absurd is
causes_begin t i seen own call.PollWork is = absurd is
causes_begin t i seen own call.PollGrace is = absurd is

pub ran_begun : (cht : Cht) (b v w : Sight) (c : Call) (word : ℕ) → v.origin ≡ cht.origin → b ≡ v → MayCall v c → IsBeginCall c → IsSound cht.origin.table.shape → cht.origin.seed < 2 ^ 32 → GoesFirst c v word w →
    Ran b c w (got_of (first_of b c) word)
ran_begun cht b v w c word of same may begins shape seed told =
    subst (λ (x : Sight). Ran x c w (got_of (first_of x c) word)) (sym same)
    (ran_first v c w step.LoadCounter word (subst (λ (o : Origin). IsSound o.table.shape) (sym of) shape) (subst (λ (o : Origin). o.seed < 2 ^ 32) (sym of) seed) may
    (λ first. causes_begin v.origin.table v.number (log_of v.history) (own_at v.seat) c begins) (counts_of_work v c begins) (counts_is v c begins) told)

-- WHO HAS THE RESIZE LOCK

after_lock : (seat row : ℕ) (r : Option Resizing) → owner_of (option_map (resizing_after_lock seat row) r) ≡ owner_of r
after_lock seat row None = refl
after_lock seat row (Some r) = refl

-- who has it after an event of another seat had it before
had_before : (n : Now) (k : ℕ) (w : What) (i : ℕ) → k ≢ i → owner_of (changed_by n k w).resizing ≡ Some i → owner_of n.resizing ≡ Some i
had_before n k what.ResizeTaken i other is = absurd (other (cc))
had_before n k what.ResizeGiven i other is = absurd (cc)
had_before n k (what.Lock row bucket) i other is = sym (after_lock k row n.resizing) ∙ is
had_before n k _ i other is = is

abbrev IsNone : List ℕ → Entry → Type 0
IsNone numbers e = is_among numbers (by_of e) ≡ false

had_since : (n : Now) (numbers : List ℕ) (i : ℕ) (later : List Entry) → is_among numbers i ≡ true → NoneBy numbers later → owner_of (now_after n (log_of later)).resizing ≡ Some i → owner_of n.resizing ≡ Some i
had_since n numbers i [] mine none is = is
had_since n numbers i (entry.Told e ∷ later) mine none is =
    let out : is_among numbers e.seat ≡ false = All-head (IsNone numbers) (entry.Told e) later none in
    let other : e.seat ≢ i = λ same. let both : true ≡ false = sym mine ∙ ap (is_among numbers) (sym same) ∙ out in absurd (cc) in
    had_before n e.seat e.what i other (had_since (now_after_event n e) numbers i later mine (All-tail (IsNone numbers) (entry.Told e) later none) is)
had_since n numbers i (entry.Drew by number ∷ later) mine none is = had_since n numbers i later mine (All-tail (IsNone numbers) (entry.Drew by number) later none) is

-- a seat that has it by a longer history has it by its own
pub has_lock_by_own : (t : Table) (numbers : List ℕ) (i : ℕ) (history later : List Entry) → is_among numbers i ≡ true → NoneBy numbers later →
    owner_of (now_in t (log_of (history ++ later))).resizing ≡ Some i → owner_of (now_in t (log_of history)).resizing ≡ Some i
has_lock_by_own t numbers i history later mine none is =
    had_since (now_in t (log_of history)) numbers i later mine none
    (ap (λ (n : Now). owner_of n.resizing) (sym (ap (now_in t) (log-append history later) ∙ now_after-append (opening t.shape.min_level) (log_of history) (log_of later))) ∙ is)

-- A POLL BEGINS

pub polls_grace_of : (caller : Caller) (g : Option Grace) → IsOfWork (begun_grace_poll caller g)
polls_grace_of caller None = tt
polls_grace_of caller (Some g) = tt

pub polls_work_of : (caller : Caller) (w : Option Work) → IsOfWork (begun_work_poll caller w)
polls_work_of caller None = tt
polls_work_of caller (Some w) = tt

pub poll_is_of_work : (b : Sight) (c : Call) → IsPollCall c → IsOfWork (first_of b c)
poll_is_of_work b call.PollGrace is = polls_grace_of (caller_of b.origin.table.kind b.origin.table.shape b.origin.seed (own_at b.seat)) (own_at b.seat).grace
poll_is_of_work b call.PollWork is = polls_work_of (caller_of b.origin.table.kind b.origin.table.shape b.origin.seed (own_at b.seat)) (own_at b.seat).work
poll_is_of_work b call.BeginClean is = absurd is
poll_is_of_work b call.BeginGrow is = absurd is
poll_is_of_work b call.BeginShrink is = absurd is
poll_is_of_work b call.BeginGrace is = absurd is
poll_is_of_work b (call.Sweep text) is = absurd is
poll_is_of_work b call.Split is = absurd is
poll_is_of_work b (call.Intern text) is = absurd is
poll_is_of_work b (call.Lookup text) is = absurd is
poll_is_of_work b (call.InternWait text) is = absurd is
poll_is_of_work b (call.TextOf h) is = absurd is
poll_is_of_work b (call.Drop h) is = absurd is
poll_is_of_work b (call.Permanent h) is = absurd is
poll_is_of_work b (call.Kill h) is = absurd is

-- the table tells with its first step what it needs
causes_poll : (b : Sight) (c : Call) (s : Step) (word : ℕ) (w : Sight) → is_among b.numbers b.number ≡ true → IsPollCall c → ToldFirst c s b word w → MayCause b.origin.table b.number (log_of b.history) (own_at b.seat) c
causes_poll b call.PollGrace s word w mine is told = tt
causes_poll b call.PollWork s word w mine is told =
    go (own_at b.seat).work told.rests (λ x has. let (later, none, owner) = told.owner x has in has_lock_by_own b.origin.table b.numbers b.number b.history later mine none owner)
  where
    go : (x : Option Work) → IfSome x IsResting → ((y : Work) → x ≡ Some y → owner_of (now_in b.origin.table (log_of b.history)).resizing ≡ Some b.number) →
        IfSome x (λ y. IsResting y × (owner_of (now_in b.origin.table (log_of b.history)).resizing ≡ Some b.number))
    go None rests owner = tt
    go (Some y) rests owner = (rests, owner y refl)
causes_poll b call.BeginClean s word w mine is told = absurd is
causes_poll b call.BeginGrow s word w mine is told = absurd is
causes_poll b call.BeginShrink s word w mine is told = absurd is
causes_poll b call.BeginGrace s word w mine is told = absurd is
causes_poll b (call.Sweep text) s word w mine is told = absurd is
causes_poll b call.Split s word w mine is told = absurd is
causes_poll b (call.Intern text) s word w mine is told = absurd is
causes_poll b (call.Lookup text) s word w mine is told = absurd is
causes_poll b (call.InternWait text) s word w mine is told = absurd is
causes_poll b (call.TextOf h) s word w mine is told = absurd is
causes_poll b (call.Drop h) s word w mine is told = absurd is
causes_poll b (call.Permanent h) s word w mine is told = absurd is
causes_poll b (call.Kill h) s word w mine is told = absurd is

module _ (cht : Cht) (b w sight : Sight) (c : Call) (s : Step) (word : ℕ) (m : Machine) (of : b.origin ≡ cht.origin) (may : MayCall b c) (polls : IsPollCall c) (first_is : m ≡ first_of b c) (planned : plan_of m ≡ plan.Step s)
    (went : GoesFirst c b word w) where
  first_planned : plan_of (first_of b c) ≡ plan.Step s
  first_planned = ap plan_of (sym first_is) ∙ planned

  pub ran_resumed : (n : Machine) → IsSound cht.origin.table.shape → cht.origin.seed < 2 ^ 32 → sight ≡ b → n ≡ got_of m word → Ran sight c w n
  ran_resumed n shape seed began got =
      let ran : Ran b c w (got_of (first_of b c) word) = ran_first b c w s word (subst (λ (o : Origin). IsSound o.table.shape) (sym of) shape) (subst (λ (o : Origin). o.seed < 2 ^ 32) (sym of) seed) may
      (causes_poll b c s word w may.seat polls) (poll_is_of_work b c polls) first_planned went in
      subst (λ (z : Sight × Machine). Ran z.0 c w z.1) (λ i. (sym began i, (ap (λ (x : Machine). got_of x word) (sym first_is) ∙ sym got) i)) ran

grace_shape : (caller : Caller) (g : Option Grace) → shape_of (begun_grace_poll caller g) ≡ caller.shape
grace_shape caller None = refl
grace_shape caller (Some g) = refl

work_shape : (caller : Caller) (w : Option Work) → shape_of (begun_work_poll caller w) ≡ caller.shape
work_shape caller None = refl
work_shape caller (Some w) = refl

pub poll_shape : (b : Sight) (c : Call) → IsPollCall c → shape_of (first_of b c) ≡ b.origin.table.shape
poll_shape b call.PollGrace is = grace_shape (caller_of b.origin.table.kind b.origin.table.shape b.origin.seed (own_at b.seat)) (own_at b.seat).grace
poll_shape b call.PollWork is = work_shape (caller_of b.origin.table.kind b.origin.table.shape b.origin.seed (own_at b.seat)) (own_at b.seat).work
poll_shape b call.BeginClean is = absurd is
poll_shape b call.BeginGrow is = absurd is
poll_shape b call.BeginShrink is = absurd is
poll_shape b call.BeginGrace is = absurd is
poll_shape b (call.Sweep text) is = absurd is
poll_shape b call.Split is = absurd is
poll_shape b (call.Intern text) is = absurd is
poll_shape b (call.Lookup text) is = absurd is
poll_shape b (call.InternWait text) is = absurd is
poll_shape b (call.TextOf h) is = absurd is
poll_shape b (call.Drop h) is = absurd is
poll_shape b (call.Permanent h) is = absurd is
poll_shape b (call.Kill h) is = absurd is
