-- A move of anybody leads from a state to a state, and its log only grows.
use Rattle.std.proofs.Common.{◌≡◌, List, [], ◌∷◌, ◌++◌, append-nil, append_assoc, ℕ, Option, Some, None, inl, inr, refl, sym, ap, subst, ◌∙◌}
use Rattle.intern_log.specs.declared.event.Event.{Event}
use Rattle.call_machine.specs.declared.call.Call.{Call}
use Rattle.call_machine.specs.declared.machine.Own.{Own}
use Rattle.call_machine.specs.Machine.{event_of}
use Rattle.cht_core.specs.declared.rehash.Rehashing.{Rehashing}
use Rattle.cht_core.specs.declared.rehash.Rehashing.TheVariants as rehashing
use Rattle.cht_core.specs.declared.seat.Seat.{Seat}
use Rattle.cht_core.specs.declared.seat.Seat.TheVariants as doing
use Rattle.cht_core.specs.declared.state.Started.{Started}
use Rattle.cht_core.specs.declared.state.Stepped.{Stepped}
use Rattle.atomic_step.specs.Step.{access_of}
use Rattle.atomic_step.specs.Table.{word_at}
use Rattle.cht_core.specs.Begins.{HasBytes}
use Rattle.cht_core.specs.Invariant.{events_of}
use Rattle.cht_core.specs.Past.{by}
use Rattle.cht_core.specs.Rehash.{seeds}
use Rattle.cht_core.specs.Runs.{Move, Start, Step, Rehash, Makes, LeadsTo}
use Rattle.cht_core.specs.State.{Core, IsCore, seat_in, now_at, Starts, StartsAs, StepsAs, RehashesAs}
use Rattle.cht_core.proofs.RunRehashes.{rehashed_core}
use Rattle.cht_core.proofs.StateLaw.{any_step_keeps, any_word_fits}
use Rattle.cht_core.proofs.StateStarts.{started_core}
use Rattle.cht_core.proofs.StateSteps.{stepped_core}

-- ONE MOVE

starts_core : (c d : Core) → IsCore c → (k : ℕ) (asked : Call) (own : Own) → seat_in c.seats k ≡ Some (doing.Idle own) → HasBytes asked → (said : Started) → Starts c k own asked said d → IsCore d
starts_core c d core k asked own at bytes said starts = subst IsCore (sym starts.state) (started_core c core k own at asked bytes starts.can.may starts.can.log)

start_makes : (c d : Core) → IsCore c → (k : ℕ) (asked : Call) → HasBytes asked → (said : Started) → StartsAs c k asked (seat_in c.seats k) said d → IsCore d
start_makes c d core k asked bytes said = go (seat_in c.seats k) refl
  where
    go : (o : Option Seat) → seat_in c.seats k ≡ o → StartsAs c k asked o said d → IsCore d
    go None at makes = subst IsCore (sym makes.1) core
    go (Some (doing.Running m)) at makes = subst IsCore (sym makes.1) core
    go (Some (doing.Idle own)) at (inl starts) = starts_core c d core k asked own at bytes said starts
    go (Some (doing.Idle own)) at (inr refused) = subst IsCore (sym refused.1) core

step_makes : (c d : Core) → IsCore c → (k : ℕ) (said : Stepped) → StepsAs c k (seat_in c.seats k) said d → IsCore d
step_makes c d core k said = go (seat_in c.seats k) refl
  where
    go : (o : Option Seat) → seat_in c.seats k ≡ o → StepsAs c k o said d → IsCore d
    go None at makes = subst IsCore (sym makes.1) core
    go (Some (doing.Idle own)) at makes = subst IsCore (sym makes.1) core
    go (Some (doing.Running m)) at makes = subst IsCore (sym makes.state) (stepped_core any_step_keeps any_word_fits c core k m makes.step at makes.plan)

rehash_makes : (c d : Core) → IsCore c → (said : Rehashing) → RehashesAs c said d → IsCore d
rehash_makes c d core rehashing.Done makes = rehashed_core c d core makes
rehash_makes c d core rehashing.Refused makes = subst IsCore (sym makes.0) core
rehash_makes c d core rehashing.OutOfMemory makes = subst IsCore (sym makes.0) core

pub move_core : (c d : Core) (move : Move) → IsCore c → Makes c move d → IsCore d
move_core c d (Start k asked) core makes = start_makes c d core k asked makes.0 makes.1.0 makes.1.1
move_core c d (Step k) core makes = step_makes c d core k makes.0 makes.1
move_core c d Rehash core makes = rehash_makes c d core makes.0 makes.1

-- THE LOG

-- a log is another one with a window behind it
abbrev pub Grew : List Event → List Event → Type 0
Grew log later = (window : List Event) × (later ≡ log ++ window)

not_grown : (c d : Core) → d ≡ c → Grew c.log d.log
not_grown c d same = ([], ap (λ (e : Core). e.log) same ∙ sym (append-nil c.log))

start_grows : (c d : Core) (k : ℕ) (asked : Call) (o : Option Seat) (said : Started) → StartsAs c k asked o said d → Grew c.log d.log
start_grows c d k asked None said makes = not_grown c d makes.1
start_grows c d k asked (Some (doing.Running m)) said makes = not_grown c d makes.1
start_grows c d k asked (Some (doing.Idle own)) said (inl starts) = ([], ap (λ (e : Core). e.log) starts.state ∙ sym (append-nil c.log))
start_grows c d k asked (Some (doing.Idle own)) said (inr refused) = not_grown c d refused.1

step_grows : (c d : Core) (k : ℕ) (o : Option Seat) (said : Stepped) → StepsAs c k o said d → Grew c.log d.log
step_grows c d k None said makes = not_grown c d makes.1
step_grows c d k (Some (doing.Idle own)) said makes = not_grown c d makes.1
step_grows c d k (Some (doing.Running m)) said makes = (events_of k (event_of m (word_at c.table.shape (access_of makes.step).place c.words)), ap (λ (e : Core). e.log) makes.state)

rehash_grows : (c d : Core) (said : Rehashing) → RehashesAs c said d → Grew c.log d.log
rehash_grows c d rehashing.Done makes = (by 0 (seeds (now_at c)) ∷ [], ap (λ (e : Core). e.log) makes.state)
rehash_grows c d rehashing.Refused makes = not_grown c d makes.0
rehash_grows c d rehashing.OutOfMemory makes = not_grown c d makes.0

move_grows : (c d : Core) (move : Move) → Makes c move d → Grew c.log d.log
move_grows c d (Start k asked) makes = start_grows c d k asked (seat_in c.seats k) makes.1.0 makes.1.1
move_grows c d (Step k) makes = step_grows c d k (seat_in c.seats k) makes.0 makes.1
move_grows c d Rehash makes = rehash_grows c d makes.0 makes.1

-- THE TABLE STAYS

start_stays : (c d : Core) (k : ℕ) (asked : Call) (o : Option Seat) (said : Started) → StartsAs c k asked o said d → d.table ≡ c.table
start_stays c d k asked None said makes = ap (λ (e : Core). e.table) makes.1
start_stays c d k asked (Some (doing.Running m)) said makes = ap (λ (e : Core). e.table) makes.1
start_stays c d k asked (Some (doing.Idle own)) said (inl starts) = ap (λ (e : Core). e.table) starts.state
start_stays c d k asked (Some (doing.Idle own)) said (inr refused) = ap (λ (e : Core). e.table) refused.1

step_stays : (c d : Core) (k : ℕ) (o : Option Seat) (said : Stepped) → StepsAs c k o said d → d.table ≡ c.table
step_stays c d k None said makes = ap (λ (e : Core). e.table) makes.1
step_stays c d k (Some (doing.Idle own)) said makes = ap (λ (e : Core). e.table) makes.1
step_stays c d k (Some (doing.Running m)) said makes = ap (λ (e : Core). e.table) makes.state

rehash_stays : (c d : Core) (said : Rehashing) → RehashesAs c said d → d.table ≡ c.table
rehash_stays c d rehashing.Done makes = ap (λ (e : Core). e.table) makes.state
rehash_stays c d rehashing.Refused makes = ap (λ (e : Core). e.table) makes.0
rehash_stays c d rehashing.OutOfMemory makes = ap (λ (e : Core). e.table) makes.0

move_stays : (c d : Core) (move : Move) → Makes c move d → d.table ≡ c.table
move_stays c d (Start k asked) makes = start_stays c d k asked (seat_in c.seats k) makes.1.0 makes.1.1
move_stays c d (Step k) makes = step_stays c d k (seat_in c.seats k) makes.0 makes.1
move_stays c d Rehash makes = rehash_stays c d makes.0 makes.1

-- RUNS

pub run_core : (c d : Core) (moves : List Move) → IsCore c → LeadsTo c moves d → IsCore d
run_core c d [] core same = subst IsCore same core
run_core c d (move ∷ moves) core leads = run_core leads.0 d moves (move_core c leads.0 move core leads.1) leads.2

pub logs_grow : (c d : Core) (moves : List Move) → LeadsTo c moves d → Grew c.log d.log
logs_grow c d [] same = not_grown c d (sym same)
logs_grow c d (move ∷ moves) leads =
    let (first, is_first) = move_grows c leads.0 move leads.1 in
    let (rest, is_rest) = logs_grow leads.0 d moves leads.2 in
    (first ++ rest, is_rest ∙ ap (λ l. l ++ rest) is_first ∙ append_assoc c.log first rest)

pub tables_stay : (c d : Core) (moves : List Move) → LeadsTo c moves d → d.table ≡ c.table
tables_stay c d [] same = ap (λ (e : Core). e.table) (sym same)
tables_stay c d (move ∷ moves) leads = tables_stay leads.0 d moves leads.2 ∙ move_stays c leads.0 move leads.1
