-- Each move leads from a state to one state, and prints one thing.
use Rattle.std.proofs.Common.{◌≡◌, ℕ, ◌+◌, ◌<◌, List, [], ◌∷◌, ◌++◌, map, length, drop, get_or, Option, Some, None, inl, inr, refl, sym, ap, subst, ◌∙◌, arith}
use Rattle.std.proofs.lemmas.List.{ext_get_or}
use Rattle.intern_log.specs.declared.event.Event.{Event}
use Rattle.table_shape.specs.declared.place.Place.{Place}
use Rattle.table_shape.specs.declared.shape.Shape.{Shape}
use Rattle.table_shape.specs.Shape.{words_of}
use Rattle.table_shape.proofs.Places.{place_at}
use Rattle.atomic_step.specs.Step.{access_of}
use Rattle.atomic_step.specs.Table.{word_at}
use Rattle.atomic_step.specs.declared.step.Step.{Step as AtomicStep}
use Rattle.call_machine.specs.declared.call.Call.{Call}
use Rattle.call_machine.specs.declared.caller.Caller.{Caller}
use Rattle.call_machine.specs.declared.machine.Own.{Own}
use Rattle.call_machine.specs.declared.stage.Goal.TheVariants as goal
use Rattle.call_machine.specs.BeginCall.{begun_walk}
use Rattle.call_machine.specs.Machine.{beside, caller_of, got_of, started, starts, plan_of}
use Rattle.cht_core.specs.declared.rehash.Rehashing.TheVariants as rehashing
use Rattle.cht_core.specs.declared.seat.Seat.{Seat}
use Rattle.cht_core.specs.declared.seat.Seat.TheVariants as doing
use Rattle.cht_core.specs.declared.state.Started.{Started}
use Rattle.cht_core.specs.declared.state.Started.TheVariants as begun
use Rattle.cht_core.specs.declared.state.Stepped.{Stepped}
use Rattle.cht_core.specs.Memory.{memory_of}
use Rattle.cht_core.specs.State.{Core, CanStart, Starts, StartsAs, StepsAs, RehashesAs, now_at, seat_in, seat_after, with_seat, started_as, after_step, stepped_as}
use Rattle.cht_core.specs.Past.{by}
use Rattle.cht_core.specs.Rehash.{seeds, by_next_seed}
use Rattle.cht_core.proofs.RehashStays.{has_one_outcome}
use Rattle.cht_core.proofs.StateWords.{memory_at}
use Rattle.schedule_sim.specs.declared.script.Asked.{Asked}
use Rattle.schedule_sim.specs.declared.script.Asked.TheVariants as asked
use Rattle.schedule_sim.specs.PrintedLines.{Printed, Tells}
use Rattle.schedule_sim.specs.Turns.{Asks, Begins, Calls, Steps, MakesAnew, IsNotMet, answered}
use Rattle.schedule_sim.proofs.Draws.{one_step}
use Rattle.schedule_sim.proofs.Moves.{drop_all}

-- A CALL BEGINS

-- the calls that a line asks for begin alike, whatever they borrow
same_starts : (what : Asked) (x y : Call) (caller : Caller) (own : Own) → Asks what x → Asks what y → starts caller own x ≡ starts caller own y
same_starts (asked.Intern text) x y caller own (bytes, is, now) (others, also, same) =
    ap (starts caller own) is ∙ ap (λ t. beside own (begun_walk caller goal.Intern t)) (now ∙ sym same) ∙ ap (starts caller own) (sym also)
same_starts (asked.Lookup text) x y caller own (bytes, is, now) (others, also, same) =
    ap (starts caller own) is ∙ ap (λ t. beside own (begun_walk caller goal.Lookup t)) (now ∙ sym same) ∙ ap (starts caller own) (sym also)
same_starts (asked.Drop slot generation) x y caller own is also = ap (starts caller own) (is ∙ sym also)
same_starts (asked.Permanent slot generation) x y caller own is also = ap (starts caller own) (is ∙ sym also)
same_starts (asked.Kill slot generation) x y caller own is also = ap (starts caller own) (is ∙ sym also)
same_starts asked.Clean x y caller own is also = ap (starts caller own) (is ∙ sym also)
same_starts asked.Grow x y caller own is also = ap (starts caller own) (is ∙ sym also)
same_starts asked.Shrink x y caller own is also = ap (starts caller own) (is ∙ sym also)
same_starts asked.Poll x y caller own is also = ap (starts caller own) (is ∙ sym also)

-- and under one condition
same_can : (c : Core) (own : Own) (what : Asked) (x y : Call) → Asks what x → Asks what y → CanStart c own x → CanStart c own y
same_can c own (asked.Intern text) x y (bytes, is, now) (others, also, same) can =
    let here = subst (CanStart c own) is can in
    subst (CanStart c own) (sym also) (record { may = (here.may.0, tt, tt); log = tt })
same_can c own (asked.Lookup text) x y (bytes, is, now) (others, also, same) can =
    let here = subst (CanStart c own) is can in
    subst (CanStart c own) (sym also) (record { may = (here.may.0, tt, tt); log = tt })
same_can c own (asked.Drop slot generation) x y is also can = subst (CanStart c own) (is ∙ sym also) can
same_can c own (asked.Permanent slot generation) x y is also can = subst (CanStart c own) (is ∙ sym also) can
same_can c own (asked.Kill slot generation) x y is also can = subst (CanStart c own) (is ∙ sym also) can
same_can c own asked.Clean x y is also can = subst (CanStart c own) (is ∙ sym also) can
same_can c own asked.Grow x y is also can = subst (CanStart c own) (is ∙ sym also) can
same_can c own asked.Shrink x y is also can = subst (CanStart c own) (is ∙ sym also) can
same_can c own asked.Poll x y is also can = subst (CanStart c own) (is ∙ sym also) can

-- a call begins at a seat that is between its calls
at_idle : (c d : Core) (k : ℕ) (x : Call) (o : Option Seat) (said : Started) (items : List Printed) → StartsAs c k x o said d → Begins k said items →
    (own : Own) × (o ≡ Some (doing.Idle own)) × Starts c k own x said d
at_idle c d k x None said items makes begins = absurd (subst (λ s. Begins k s items) makes.0 begins)
at_idle c d k x (Some (doing.Running m)) said items makes begins = absurd (subst (λ s. Begins k s items) makes.0 begins)
at_idle c d k x (Some (doing.Idle own)) said items (inl starts) begins = (own, refl, starts)
at_idle c d k x (Some (doing.Idle own)) said items (inr refused) begins = absurd (subst (λ s. Begins k s items) refused.0 begins)

one_own : (own also : Own) → Some (doing.Idle own) ≡ Some (doing.Idle also) → own ≡ also
one_own own also is = let same : doing.Idle own ≡ doing.Idle also = cc in cc

one_print : (k : ℕ) (said : Started) (items more : List Printed) → Begins k said items → Begins k said more → items ≡ more
one_print k begun.Started items more is also = is ∙ sym also
one_print k (begun.Answered a) items more is also = is ∙ sym also
one_print k begun.NoSeat items more is also = absurd is
one_print k begun.Running items more is also = absurd is
one_print k begun.Refused items more is also = absurd is

pub calls_one : (k : ℕ) (what : Asked) (c d e : Core) (items more : List Printed) → Calls k what c items d → Calls k what c more e → (d ≡ e) × (items ≡ more)
calls_one k what c d e items more calls also =
    let (own, at, makes) = at_idle c d k calls.asked (seat_in c.seats k) calls.said items calls.starts calls.printed in
    let (other, there, too) = at_idle c e k also.asked (seat_in c.seats k) also.said more also.starts also.printed in
    let owns : other ≡ own = one_own other own (sym there ∙ at) in
    let again : Starts c k own also.asked also.said e = subst (λ o. Starts c k o also.asked also.said e) owns too in
    let machines : started c.table.kind c.table.shape c.seed own calls.asked ≡ started c.table.kind c.table.shape c.seed own also.asked =
    same_starts what calls.asked also.asked (caller_of c.table.kind c.table.shape c.seed own) own calls.asks also.asks in
    let said : calls.said ≡ also.said = makes.answer ∙ ap (λ m. started_as (plan_of m)) machines ∙ sym again.answer in
    (makes.state ∙ ap (λ m. with_seat c k (seat_after m)) machines ∙ sym again.state, one_print k also.said items more (subst (λ s. Begins k s items) said calls.printed) also.printed)

pub calls_met : (k : ℕ) (what : Asked) (c d : Core) (items : List Printed) → Calls k what c items d → ¬ (IsNotMet c what (seat_in c.seats k))
calls_met k what c d items calls not =
    let (own, at, makes) = at_idle c d k calls.asked (seat_in c.seats k) calls.said items calls.starts calls.printed in
    let (other, asks, cannot) = subst (IsNotMet c what) at not in
    cannot (same_can c own what calls.asked other calls.asks asks makes.can)

-- A STEP

step_one : (c d e : Core) (k : ℕ) (o : Option Seat) (said also : Stepped) → StepsAs c k o said d → StepsAs c k o also e → (d ≡ e) × (said ≡ also)
step_one c d e k None said also makes again = (makes.1 ∙ sym again.1, makes.0 ∙ sym again.0)
step_one c d e k (Some (doing.Idle own)) said also makes again = (makes.1 ∙ sym again.1, makes.0 ∙ sym again.0)
step_one c d e k (Some (doing.Running m)) said also makes again =
    let same : makes.step ≡ again.step = one_step makes.step again.step (sym makes.plan ∙ again.plan) in
    let word : AtomicStep → ℕ = λ s. word_at c.table.shape (access_of s).place c.words in
    (makes.state ∙ ap (λ s. after_step c k m s (word s)) same ∙ sym again.state, makes.answer ∙ ap (λ s. stepped_as (plan_of (got_of m (word s)))) same ∙ sym again.answer)

one_window : (log later again window other : List Event) → later ≡ log ++ window → again ≡ log ++ other → later ≡ again → window ≡ other
one_window log later again window other is also same = sym (drop_all log window) ∙ ap (drop (length log)) (sym is ∙ same ∙ also) ∙ drop_all log other

pub steps_one : (k : ℕ) (c d e : Core) (items more : List Printed) → Steps c k d items → Steps c k e more → (d ≡ e) × (items ≡ more)
steps_one k c d e items more steps also =
    let (state, said) = step_one c d e k (seat_in c.seats k) steps.said also.said steps.made also.made in
    let events = one_window c.log d.log e.log steps.events also.events steps.log also.log (ap (λ (x : Core). x.log) state) in
    (state, steps.printed ∙ ap (λ l. map Tells l ++ answered k steps.said) events ∙ ap (λ s. map Tells also.events ++ answered k s) said ∙ sym also.printed)

-- A TABLE MADE ANEW

-- words that are one memory are the same
one_words : (shape : Shape) (words others : List ℕ) → length words ≡ words_of shape → length others ≡ words_of shape → ((p : Place) → memory_of shape words p ≡ memory_of shape others p) → words ≡ others
one_words shape words others sized also same = ext_get_or 0 words others (sized ∙ sym also) at
  where
    at : (i : ℕ) → i < length words → get_or words i 0 ≡ get_or others i 0
    at i below =
        let found = place_at shape i (omega (arith, below, sized)) in
        let here : word_at shape found.0 words ≡ word_at shape found.0 others = sym (memory_at shape words found.0 found.1.0) ∙ same found.0 ∙ memory_at shape others found.0 found.1.0 in
        subst (λ j. get_or words j 0 ≡ get_or others j 0) found.1.1 here

rehash_one : (c d e : Core) → length c.words ≡ words_of c.table.shape → RehashesAs c rehashing.Done d → RehashesAs c rehashing.Done e → d ≡ e
rehash_one c d e sized makes again =
    let words : d.words ≡ e.words =
    one_words c.table.shape d.words e.words (makes.sized ∙ sized) (again.sized ∙ sized)
    (has_one_outcome (memory_of c.table.shape c.words) (memory_of c.table.shape d.words) (memory_of c.table.shape e.words) (by_next_seed (now_at c)) makes.words again.words) in
    makes.state ∙ ap (λ w. record c { seed = c.seed + 1; words = w; log = c.log ++ by 0 (seeds (now_at c)) ∷ [] }) words ∙ sym again.state

pub anew_one : (c d e : Core) (items more : List Printed) → length c.words ≡ words_of c.table.shape → MakesAnew c items d → MakesAnew c more e → (d ≡ e) × (items ≡ more)
anew_one c d e items more sized anew also =
    let state = rehash_one c d e sized anew.made also.made in
    let events = one_window c.log d.log e.log anew.events also.events anew.log also.log (ap (λ (x : Core). x.log) state) in
    (state, anew.printed ∙ ap (map Tells) events ∙ sym also.printed)
