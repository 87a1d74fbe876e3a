-- What the poll of a grace has found out: which numbers it has passed, and for which one it waits.
use Rattle.std.proofs.Common.{◌≡◌, ◌⊎◌, ℕ, ◌+◌, ◌%◌, ◌<◌, ◌≤◌, Bool, true, false, cond, ◌==◌, List, [], ◌∷◌, ◌++◌, Some, inl, inr, refl, sym, ap, subst, ◌∙◌, arith}
use Rattle.std.specs.Option.{option_map}
use Rattle.std.proofs.lemmas.Bool.{cases_eq, eqb-true}
use Rattle.std.proofs.lemmas.Bool.Decides.{nat_tests}
use Rattle.std.proofs.lemmas.List.{append-nil, append_assoc}
use Rattle.table_shape.specs.declared.shape.Shape.{Shape}
use Rattle.section_core.specs.Words.{waits_for}
use Rattle.marked_word.specs.Number.{section_word}
use Rattle.intern_log.specs.declared.event.Event.{Event}
use Rattle.intern_log.specs.Now.{OpenSection}
use Rattle.atomic_step.specs.declared.answer.Answer.{Answer}
use Rattle.atomic_step.specs.declared.answer.Answer.TheVariants as answer
use Rattle.atomic_step.specs.Run.{AreFitting, after_words}
use Rattle.atomic_step.specs.Turn.{next_in}
use Rattle.call_machine.specs.declared.begin.BeginStage.{BeginStage}
use Rattle.call_machine.specs.declared.begin.BeginStage.TheVariants as begin
use Rattle.call_machine.specs.declared.begin.Left.{Left}
use Rattle.call_machine.specs.declared.begin.Left.TheVariants as left
use Rattle.call_machine.specs.declared.call.Call.TheVariants as call
use Rattle.call_machine.specs.declared.caller.Caller.{Caller}
use Rattle.call_machine.specs.declared.grace.Grace.{Grace}
use Rattle.call_machine.specs.declared.grace.GraceStage.TheVariants.{RaiseCounter, LoadSection}
use Rattle.call_machine.specs.declared.grace.Gracing.{Gracing}
use Rattle.call_machine.specs.declared.grace.Gracing.TheVariants.{Goes, Waits, Over}
use Rattle.call_machine.specs.Begin.{begin_turn, graced}
use Rattle.call_machine.specs.Machine.{begun_grace_poll, got_of, event_of}
use Rattle.call_machine.specs.SoundMachine.{FitsMachine}
use Rattle.call_machine.specs.WholeMachine.{machines}
use Rattle.call_machine.proofs.Machines.{got_is}
use Rattle.cht_core.specs.declared.table.Table.{Table}
use Rattle.cht_core.specs.Causes.{now_in, IsOpenBelow}
use Rattle.cht_core.specs.Invariant.{events_of}
use Rattle.cht_core.specs.Windows.{Somewhere, whats_by}
use Rattle.cht_core.proofs.CauseSteps.{waited_for}
use Rattle.cht_core.proofs.Windows.{somewhere_on, at_end, whats_by_waits}
use Rattle.cht_run.specs.declared.sight.Sight.{Sight}
use Rattle.cht_run.specs.Begins.{own_at, first_of, caller_in}
use Rattle.cht_run.specs.Graces.{counter_in, IsPassed}
use Rattle.cht_run.specs.History.{log_of}
use Rattle.cht_run.specs.Runs.{SaysAt, Finds, Ran}
use Rattle.cht_run.proofs.Begun.{at, Did, stage_same}
use Rattle.cht_run.proofs.Counters.{counter_grows}

-- A NUMBER IS PASSED

-- an open section that is not waited for has a counter from the raised one on
not_waited : (raised counter : ℕ) → (counter + 1) % 2 ≡ 1 → waits_for raised (counter + 1) ≡ false → raised ≤ counter
not_waited raised counter odd passed = grind (arith, nat_tests)

not_open : (t : Table) (number raised word : ℕ) (log : List Event) → word ≡ section_word (option_map (λ (o : OpenSection). o.counter) ((now_in t log).section number)) → (word ≡ 0) ⊎ (word % 2 ≡ 1) →
    waits_for raised word ≡ false → ¬ (IsOpenBelow t number raised log)
not_open t number raised word log says stands passed (o, is, below) =
    let same : word ≡ o.counter + 1 = says ∙ ap (λ s. section_word (option_map (λ (p : OpenSection). p.counter) s)) is in
    let odd : (o.counter + 1) % 2 ≡ 1 = elim stands [
      | inl zero ↦ (let clash : o.counter + 1 ≡ 0 = sym same ∙ zero in absurd (omega (arith, clash)))
      | inr odd ↦ ap (λ w. w % 2) (sym same) ∙ odd
    ] in
    let above = not_waited raised o.counter odd (ap (waits_for raised) (sym same) ∙ passed) in
    absurd (omega (arith, above, below))

passed_more : (t : Table) (raised number : ℕ) (log more : List Event) → IsPassed t raised number log → IsPassed t raised number (log ++ more)
passed_more t raised number log more (before, rest, is, high, not) = (before, rest ++ more, ap (λ l. l ++ more) is ∙ append_assoc before rest more, high, not)

-- WHAT A POLL KNOWS

-- the grace has passed the numbers before its next one
abbrev pub HasPassed : Table → ℕ → ℕ → List Event → Type 0
HasPassed t raised next log = (number : ℕ) → number < next → IsPassed t raised number log

-- how it ends, by what it answers and what it leaves
abbrev pub PollEnds : Table → ℕ → ℕ → List Event → List Event → Answer → Left → Type 0
PollEnds t i raised seen window answer.Ready l = (l ≡ left.Nothing) × Did i window [] × HasPassed t raised t.shape.seats (seen ++ window)
PollEnds t i raised seen window (answer.PendingSeat number) left.Nothing = ⊥
PollEnds t i raised seen window (answer.PendingSeat number) left.Clean = ⊥
PollEnds t i raised seen window (answer.PendingSeat number) (left.Resize d level) = ⊥
PollEnds t i raised seen window (answer.PendingSeat number) (left.Grace g) =
    (g.raised ≡ raised) × Did i window [] × HasPassed t raised g.next (seen ++ window) × Somewhere (IsOpenBelow t number raised) seen window
PollEnds t i raised seen window _ l = ⊥

-- what it knows at each stage
abbrev pub KnowsPoll : Table → ℕ → ℕ → List Event → List Event → BeginStage → Type 0
KnowsPoll t i raised seen window (begin.Grace g LoadSection) = (g.raised ≡ raised) × Did i window [] × HasPassed t raised g.next (seen ++ window)
KnowsPoll t i raised seen window (begin.Answered a l) = PollEnds t i raised seen window a l
KnowsPoll t i raised seen window _ = ⊥

module _ (t : Table) (i raised : ℕ) (seen window more : List Event) (none : whats_by i more ≡ []) where
  passed_still : (next : ℕ) → HasPassed t raised next (seen ++ window) → HasPassed t raised next (seen ++ (window ++ more))
  passed_still next h number less = subst (IsPassed t raised number) (append_assoc seen window more) (passed_more t raised number (seen ++ window) more (h number less))

  did_still : Did i window [] → Did i (window ++ more) []
  did_still h = whats_by_waits i window more none ∙ h

  ends_still : (a : Answer) (l : Left) → PollEnds t i raised seen window a l → PollEnds t i raised seen (window ++ more) a l
  ends_still answer.Ready l h = (h.0, did_still h.1, passed_still t.shape.seats h.2)
  ends_still (answer.PendingSeat number) left.Nothing h = absurd h
  ends_still (answer.PendingSeat number) left.Clean h = absurd h
  ends_still (answer.PendingSeat number) (left.Resize d level) h = absurd h
  ends_still (answer.PendingSeat number) (left.Grace g) h = (h.0, did_still h.1, passed_still g.next h.2, somewhere_on seen window (IsOpenBelow t number raised) more h.3)
  ends_still _ l h = absurd h

  waits : (s : BeginStage) → KnowsPoll t i raised seen window s → KnowsPoll t i raised seen (window ++ more) s
  waits (begin.Grace g LoadSection) h = (h.0, did_still h.1, passed_still g.next h.2)
  waits (begin.Answered a l) h = ends_still a l h
  waits (begin.Grace g RaiseCounter) h = absurd h
  waits (begin.LoadCounter y) h = absurd h
  waits (begin.TakeResizeLock y) h = absurd h
  waits (begin.LoadLevel d) h = absurd h
  waits (begin.GiveResizeLock a) h = absurd h

-- it looks at a section
module _ (t : Table) (i raised : ℕ) (seen now : List Event) (high : raised ≤ counter_in t (seen ++ now)) (caller : Caller) (of : caller.shape ≡ t.shape) where
  looks : (g : Grace) (word : ℕ) → KnowsPoll t i raised seen now (begin.Grace g LoadSection) → word ≡ section_word (option_map (λ (o : OpenSection). o.counter) ((now_in t (seen ++ now)).section g.next)) →
      (word ≡ 0) ⊎ (word % 2 ≡ 1) → KnowsPoll t i raised seen now (next_in (begin.Grace g LoadSection) (begin_turn caller (begin.Grace g LoadSection)) word)
  looks g word (same, did, passed) says stands = go (waits_for g.raised word) refl
    where
      Scanned : Grace × Gracing → Type 0
      Scanned came = KnowsPoll t i raised seen now (graced LoadSection came.0 came.1)

      also : waits_for g.raised word ≡ false → (number : ℕ) → number < g.next + 1 → IsPassed t raised number (seen ++ now)
      also over number less = elim (cases_eq number g.next) [
        | inl equal ↦ (
          seen ++ now,
          [],
          sym (append-nil (seen ++ now)),
          high,
          subst (λ n. ¬ (IsOpenBelow t n raised (seen ++ now))) (sym equal) (not_open t g.next raised word (seen ++ now) says stands (ap (λ r. waits_for r word) (sym same) ∙ over)),
        )
        | inr differ ↦ passed number (omega (arith, less, differ))
      ]

      on : waits_for g.raised word ≡ false → (b : Bool) → (g.next + 1 == caller.shape.seats) ≡ b → Scanned (cond b (g, Over) (record g { next = g.next + 1 }, Goes))
      on over true last = (refl, did, subst (λ n. HasPassed t raised n (seen ++ now)) (eqb-true (g.next + 1) caller.shape.seats last ∙ ap (λ (s : Shape). s.seats) of) (also over))
      on over false more = (same, did, also over)

      go : (b : Bool) → waits_for g.raised word ≡ b → Scanned (cond b (g, Waits) (cond (g.next + 1 == caller.shape.seats) (g, Over) (record g { next = g.next + 1 }, Goes)))
      go true older =
          let (o, is, below) = waited_for g.raised word ((now_in t (seen ++ now)).section g.next) says older in
          (same, did, passed, at_end seen now (IsOpenBelow t g.next raised) (o, is, subst (λ r. o.counter < r) same below))
      go false over = on over (g.next + 1 == caller.shape.seats) refl

-- after the load of a section there is no event
pub knows_step : (t : Table) (i raised : ℕ) (seen now : List Event) → raised ≤ counter_in t (seen ++ now) → (caller : Caller) → caller.shape ≡ t.shape → (s : BeginStage) (word : ℕ) → KnowsPoll t i raised seen now s →
    FitsMachine (at caller s) word → SaysAt t (at caller s) word (seen ++ now) → KnowsPoll t i raised seen (now ++ events_of i (event_of (at caller s) word)) (next_in s (begin_turn caller s) word)
knows_step t i raised seen now high caller of (begin.Grace g LoadSection) word h fits says =
    subst (λ l. KnowsPoll t i raised seen l (next_in (begin.Grace g LoadSection) (begin_turn caller (begin.Grace g LoadSection)) word)) (sym (append-nil now)) (looks t i raised seen now high caller of g word h says.1 says.2)
knows_step t i raised seen now high caller of (begin.Answered a l) word h fits says = absurd fits
knows_step t i raised seen now high caller of (begin.Grace g RaiseCounter) word h fits says = absurd h
knows_step t i raised seen now high caller of (begin.LoadCounter y) word h fits says = absurd h
knows_step t i raised seen now high caller of (begin.TakeResizeLock y) word h fits says = absurd h
knows_step t i raised seen now high caller of (begin.LoadLevel d) word h fits says = absurd h
knows_step t i raised seen now high caller of (begin.GiveResizeLock a) word h fits says = absurd h

-- what it knows after all its steps
pub knows_all : (t : Table) (i raised : ℕ) (seen : List Event) → raised ≤ counter_in t seen → (caller : Caller) → caller.shape ≡ t.shape → (words : List ℕ) (s : BeginStage) (window rest : List Event) → KnowsPoll t i raised seen window s →
    AreFitting machines (at caller s) words → Finds t i (at caller s) words (seen ++ window) rest →
    (last : BeginStage) × (after_words machines (at caller s) words ≡ at caller last) × KnowsPoll t i raised seen (window ++ rest) last
knows_all t i raised seen high caller of [] s window rest h fitting finds = (s, refl, waits t i raised seen window rest finds s h)
knows_all t i raised seen high caller of (word ∷ words) s window rest h fitting (between, later, is, none, says, finds) =
    let e = event_of (at caller s) word in
    let next = next_in s (begin_turn caller s) word in
    let got : got_of (at caller s) word ≡ at caller next = got_is (at caller s) word in
    let now = (window ++ between) ++ events_of i e in
    let grows = counter_grows t seen (window ++ between) in
    let known = knows_step t i raised seen (window ++ between) (omega (arith, high, grows)) caller of s word (waits t i raised seen window between none s h) fitting.0.1
    (subst (SaysAt t (at caller s) word) (append_assoc seen window between) says) in
    let place : ((seen ++ window) ++ between) ++ events_of i e ≡ seen ++ now =
    ap (λ l. l ++ events_of i e) (append_assoc seen window between) ∙ append_assoc seen (window ++ between) (events_of i e) in
    let (last, leads, knows) = knows_all t i raised seen high caller of words next now later known (subst (λ m. AreFitting machines m words) got fitting.1)
    (subst (λ l. Finds t i (at caller next) words l later) place (subst (λ m. Finds t i m words (((seen ++ window) ++ between) ++ events_of i e) later) got finds)) in (
      last,
      ap (λ m. after_words machines m words) got ∙ leads,
      subst (λ l. KnowsPoll t i raised seen l last) (append_assoc (window ++ between) (events_of i e) later ∙ append_assoc window between (events_of i e ++ later) ∙ ap (λ l. window ++ l) (sym is)) knows,
    )

-- THE CALL OF A SEAT

-- it has answered this, and left this
pub poll_ends : (b : Sight) (v : Sight) (a : Answer) (l : Left) (g : Grace) (ran : Ran b call.PollGrace v (at (caller_in b) (begin.Answered a l))) → (own_at b.seat).grace ≡ Some g → g.raised ≤ counter_in b.origin.table (log_of b.history) →
    HasPassed b.origin.table g.raised g.next (log_of b.history) → PollEnds b.origin.table b.number g.raised (log_of b.history) (log_of ran.went.window) a l
poll_ends b v a l g ran has high passed =
    let t = b.origin.table in
    let caller = caller_in b in
    let seen = log_of b.history in
    let window = log_of ran.went.window in
    let first : first_of b call.PollGrace ≡ at caller (begin.Grace g LoadSection) = ap (begun_grace_poll caller) has in
    let (last, leads, knows) = knows_all t b.number g.raised seen high caller refl ran.words (begin.Grace g LoadSection) [] window
    (refl, refl, subst (HasPassed t g.raised g.next) (sym (append-nil seen)) passed) (subst (λ n. AreFitting machines n ran.words) first ran.fitting)
    (subst (λ n. Finds t b.number n ran.words (seen ++ []) window) first (subst (λ l. Finds t b.number (first_of b call.PollGrace) ran.words l window) (sym (append-nil seen)) ran.finds)) in
    let is : at caller last ≡ at caller (begin.Answered a l) = sym leads ∙ ap (λ n. after_words machines n ran.words) (sym first) ∙ ran.leads in
    subst (KnowsPoll t b.number g.raised seen window) (stage_same caller last (begin.Answered a l) is) knows
