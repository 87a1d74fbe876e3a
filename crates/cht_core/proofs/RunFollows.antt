-- A call that is under way, followed from move to move: what it has found out, and what it knows of the head that it loaded.
use Rattle.std.proofs.Common.{◌≡◌, ◌≢◌, ℕ, cond, List, [], ◌∷◌, ◌++◌, append_assoc, Option, Some, None}
use Rattle.std.proofs.Common.{refl, sym, ap, subst, ◌∙◌}
use Rattle.std.specs.Option.{option_map}
use Rattle.cht_core.specs.Backs.{Backs}
use Rattle.std.proofs.lemmas.Bool.{ne_eqb}
use Rattle.intern_log.specs.declared.event.Event.{Event}
use Rattle.intern_log.specs.declared.event.What.{What}
use Rattle.intern_log.proofs.OneMore.{place_is}
use Rattle.atomic_step.specs.declared.plan.Plan.{Plan}
use Rattle.atomic_step.specs.declared.plan.Plan.TheVariants as plan
use Rattle.atomic_step.specs.declared.step.Step.{Step}
use Rattle.atomic_step.specs.Event as steps
use Rattle.atomic_step.specs.Step.{access_of}
use Rattle.atomic_step.specs.Table.{word_at, words_after}
use Rattle.call_machine.specs.declared.call.Call.{Call}
use Rattle.call_machine.specs.declared.machine.Machine.{Machine}
use Rattle.call_machine.specs.declared.machine.Own.{Own}
use Rattle.call_machine.specs.Machine.{started, plan_of, got_of, event_of, text_of, shape_of}
use Rattle.call_machine.specs.SoundMachine.{IsSoundMachine, FitsMachine}
use Rattle.cht_core.specs.declared.seat.Seat.TheVariants as doing
use Rattle.cht_core.specs.declared.table.Table.{Table}
use Rattle.cht_core.specs.Begins.{HasBytes}
use Rattle.cht_core.specs.CauseCalls.{Way}
use Rattle.cht_core.specs.Caused.{Caused, Hears}
use Rattle.cht_core.specs.Causes.{now_in, PlanSays, loaded_at}
use Rattle.cht_core.specs.Flow.{Flow}
use Rattle.cht_core.specs.HeadKept.{Headed}
use Rattle.cht_core.specs.Invariant.{events_of}
use Rattle.cht_core.specs.Memory.{Memory, memory_of, found}
use Rattle.cht_core.specs.Owes.{Owes, IsAllOf}
use Rattle.cht_core.specs.Past.{Past, past_of}
use Rattle.cht_core.specs.State.{Core, IsCore, CanStart, seat_in, at_rest, seat_after, with_seat, after_step, views_of}
use Rattle.cht_core.specs.Tidy.{IsTidy}
use Rattle.cht_core.specs.View.{View, IsOfSeat, KnowsMachine, load_after, passed_after}
use Rattle.cht_core.specs.Windows.{IsTold, whats_by}
use Rattle.cht_core.specs.WordSays.{WordSays}
use Rattle.cht_core.proofs.CauseAnswers.{caused_waits, caused_steps}
use Rattle.cht_core.proofs.CauseHeaded.{headed_waits}
use Rattle.cht_core.proofs.CauseKnown.{hears}
use Rattle.cht_core.proofs.CauseWorkHeads.{headed_steps}
use Rattle.cht_core.proofs.KindKeeps.{event_is}
use Rattle.cht_core.proofs.Says.{word_says}
use Rattle.cht_core.proofs.StateLaw.{any_step_keeps, any_word_fits, any_step_backs}
use Rattle.cht_core.proofs.StateStarts.{IsAfter, view_at, view_is, started_after}
use Rattle.cht_core.proofs.StateSteps.{step_made, found_is, step_fits, stepped_after}

-- what is known of a running call in a state that meets the invariant
pub record Following (k : ℕ) (way : Way) (seen : List Event) (d : Core) (m : Machine) : Type 0 where
  pub core : IsCore d
  pub at : seat_in d.seats k ≡ Some (doing.Running m)
  pub window : List Event
  pub log : d.log ≡ seen ++ window
  pub caused : Caused d.table k way seen window (core.sights k).0 m
  pub headed : Headed d.table (memory_of d.table.shape d.words) k (core.sights k).0 d.log m

-- ANOTHER SEAT

-- an event of another seat is none of this one
others_event : (k j : ℕ) (e : Option What) → j ≢ k → whats_by k (events_of j e) ≡ []
others_event k j None differ = refl
others_event k j (Some w) differ = ap (λ b. cond b (w ∷ []) []) (ne_eqb j k differ)

module _ (k : ℕ) (way : Way) (seen : List Event) (c : Core) (m : Machine) (is : Following k way seen c m) (j : ℕ) (differ : j ≢ k) where
  -- another seat has started a call
  pub others_start : (own : Own) (asked : Call) → seat_in c.seats j ≡ Some (doing.Idle own) → HasBytes asked → CanStart c own asked →
      Following k way seen (with_seat c j (seat_after (started c.table.kind c.table.shape c.seed own asked))) m
  others_start own asked at bytes can =
      let after = started_after c is.core j own at asked bytes can.may can.log in
      let same = after.other k (doing.Running m) (λ e. differ (sym e)) is.at in
      record {
        core = after.core;
        at = same.1;
        window = is.window;
        log = is.log;
        caused = subst (λ (sight : ℕ × List ℕ). Caused c.table k way seen is.window sight.0 m) (sym same.0) is.caused;
        headed = subst (λ (sight : ℕ × List ℕ). Headed c.table (memory_of c.table.shape c.words) k sight.0 c.log m) (sym same.0) is.headed;
      }

  -- another seat has made a step
  module _ (other : Machine) (s : Step) (at : seat_in c.seats j ≡ Some (doing.Running other)) (planned : plan_of other ≡ plan.Step s) where
    abbrev mem : Memory
    mem = memory_of c.table.shape c.words

    abbrev mem' : Memory
    mem' = memory_of c.table.shape (words_after c.table.shape s c.words)

    abbrev word : ℕ
    word = word_at c.table.shape (access_of s).place c.words

    steps_to : IsAfter c (after_step c j other s word) is.core j (load_after s (past_of c.table.shape.min_level c.log).now.place (is.core.sights j).0, passed_after s (is.core.sights j).1)
        (seat_after (got_of other word))
    steps_to = stepped_after any_step_keeps any_word_fits c is.core j other s at planned

    still : (steps_to.core.sights k ≡ is.core.sights k) × (seat_in (after_step c j other s word).seats k ≡ Some (doing.Running m))
    still = steps_to.other k (doing.Running m) (λ e. differ (sym e)) is.at

    backs : Backs c.table mem (past_of c.table.shape.min_level c.log) is.core.inv.flow j (text_of other) s
    backs = any_step_backs c.table mem mem' (views_of is.core.sights c.seats) c.log j (view_at (is.core.sights j) j (doing.Running other)) other s is.core.inv
        (view_is is.core.sights c.seats j (doing.Running other) at) refl planned (step_made any_step_keeps any_word_fits c is.core j other s at planned)

    headed_still : Headed c.table mem' k (is.core.sights k).0 (c.log ++ events_of j (event_of other word)) m
    headed_still =
        let known = is.core.inv.knows k (view_at (is.core.sights k) k (doing.Running m)) (view_is is.core.sights c.seats k (doing.Running m) is.at) in
        let of : IsOfSeat c.table (past_of c.table.shape.min_level c.log).now k m = known.0 in
        let event : steps.event_of (text_of other) s (found s mem) ≡ event_of other word =
        ap (steps.event_of (text_of other) s) (found_is any_step_keeps any_word_fits c is.core j other s at planned) ∙ sym (event_is other s word planned) in
        subst (λ (e : Option What). Headed c.table mem' k (is.core.sights k).0 (c.log ++ events_of j e) m) event
        (headed_waits c.table mem mem' is.core.inv.flow k j (text_of other) s c.log (is.core.sights k).0 differ (step_made any_step_keeps any_word_fits c is.core j other s at planned) backs
        (is.core.sights k).1 m of.seed known.1 is.headed)

    pub others_step : Following k way seen (after_step c j other s word) m
    others_step = record {
      core = steps_to.core;
      at = still.1;
      window = is.window ++ events_of j (event_of other word);
      log = ap (λ l. l ++ events_of j (event_of other word)) is.log ∙ append_assoc seen is.window (events_of j (event_of other word));
      caused = subst (λ (sight : ℕ × List ℕ). Caused c.table k way seen (is.window ++ events_of j (event_of other word)) sight.0 m) (sym still.0)
          (caused_waits c.table k way seen is.window (events_of j (event_of other word)) (is.core.sights k).0 m (others_event k j (event_of other word) differ) is.caused);
      headed = subst (λ (sight : ℕ × List ℕ). Headed c.table mem' k sight.0 (c.log ++ events_of j (event_of other word)) m) (sym still.0) headed_still;
    }

-- THE SEAT'S OWN STEP

-- what its step finds out, over a log that has a window
found_out : (t : Table) (k : ℕ) (way : Way) (seen window log : List Event) (load : ℕ) (f : Flow) (m : Machine) (word : ℕ) → log ≡ seen ++ window → shape_of m ≡ t.shape → IsSoundMachine m → FitsMachine m word →
    IsTold t log → IsTidy t (now_in t log) → Caused t k way seen window load m → PlanSays t (past_of t.shape.min_level log) f (plan_of m) word → Hears t (past_of t.shape.min_level log) f k load log m word →
    Caused t k way seen (window ++ events_of k (event_of m word)) (loaded_at (plan_of m) (past_of t.shape.min_level log).now.place load) (got_of m word)
found_out t k way seen window log load f m word is shape sound fits told tidy caused says hears =
    subst (λ l. IsTold t l → IsTidy t (now_in t l) → PlanSays t (past_of t.shape.min_level l) f (plan_of m) word → Hears t (past_of t.shape.min_level l) f k load l m word →
    Caused t k way seen (window ++ events_of k (event_of m word)) (loaded_at (plan_of m) (past_of t.shape.min_level l).now.place load) (got_of m word)) (sym is)
    (λ told tidy says hears. caused_steps t k way seen window load f m word shape sound fits told tidy caused says hears) told tidy says hears

module _ (k : ℕ) (way : Way) (seen : List Event) (c : Core) (m : Machine) (is : Following k way seen c m) (s : Step) (planned : plan_of m ≡ plan.Step s) where
  abbrev own_mem : Memory
  own_mem = memory_of c.table.shape c.words

  abbrev own_mem' : Memory
  own_mem' = memory_of c.table.shape (words_after c.table.shape s c.words)

  abbrev pub own_word : ℕ
  own_word = word_at c.table.shape (access_of s).place c.words

  abbrev past : Past
  past = past_of c.table.shape.min_level c.log

  abbrev load : ℕ
  load = (is.core.sights k).0

  -- the place of its last load of a head
  loaded : loaded_at (plan_of m) past.now.place load ≡ load_after s past.now.place load
  loaded = ap (λ (p : Plan). loaded_at p past.now.place load) planned

  known : IsOfSeat c.table past.now k m × KnowsMachine own_mem past is.core.inv.flow k load (is.core.sights k).1 m
  known = is.core.inv.knows k (view_at (is.core.sights k) k (doing.Running m)) (view_is is.core.sights c.seats k (doing.Running m) is.at)

  owes : Owes past k (doing.Running m)
  owes = subst (λ (o : Option View). IsAllOf past k (option_map (λ (u : View). u.seat) o)) (view_is is.core.sights c.seats k (doing.Running m) is.at) (is.core.inv.owes k)

  is_word : found s own_mem ≡ own_word
  is_word = found_is any_step_keeps any_word_fits c is.core k m s is.at planned

  says : PlanSays c.table past is.core.inv.flow (plan_of m) own_word
  says = subst (λ (p : Plan). PlanSays c.table past is.core.inv.flow p own_word) (sym planned)
      (subst (WordSays c.table past is.core.inv.flow s) is_word (word_says c.table own_mem past is.core.inv.flow is.core.inv.table s))

  heard : Hears c.table past is.core.inv.flow k load c.log m own_word
  heard = subst (Hears c.table past is.core.inv.flow k load c.log m) is_word
      (hears c.table own_mem is.core.inv.flow k load c.log (is.core.sights k).1 m s is.core.inv.table known.0 known.1 owes is.headed planned)

  -- what the call has found out after its step, whether it has answered or not
  pub own_caused : Caused c.table k way seen (is.window ++ events_of k (event_of m own_word)) (load_after s past.now.place load) (got_of m own_word)
  own_caused = subst (λ l. Caused c.table k way seen (is.window ++ events_of k (event_of m own_word)) l (got_of m own_word)) loaded
      (found_out c.table k way seen is.window c.log load is.core.inv.flow m own_word is.log known.0.shape known.0.sound (step_fits any_step_keeps any_word_fits c is.core k m s is.at planned)
      is.core.told is.core.inv.table.tidy is.caused says heard)

  own_headed : Headed c.table own_mem' k (load_after s past.now.place load) (c.log ++ events_of k (event_of m own_word)) (got_of m own_word)
  own_headed = subst (λ l. Headed c.table own_mem' k l (c.log ++ events_of k (event_of m own_word)) (got_of m own_word)) loaded
      (subst (λ w. Headed c.table own_mem' k (loaded_at (plan_of m) past.now.place load) (c.log ++ events_of k (event_of m own_word)) (got_of m w)) is_word
      (headed_steps c.table own_mem own_mem' k c.log (events_of k (event_of m own_word)) past.now.place load (place_is c.table.shape.min_level c.log) m s planned
      (step_made any_step_keeps any_word_fits c is.core k m s is.at planned) is.headed))

  pub own_log : c.log ++ events_of k (event_of m own_word) ≡ seen ++ (is.window ++ events_of k (event_of m own_word))
  own_log = ap (λ l. l ++ events_of k (event_of m own_word)) is.log ∙ append_assoc seen is.window (events_of k (event_of m own_word))

  -- a call that goes on is followed on
  pub own_step : (next : Step) → plan_of (got_of m own_word) ≡ plan.Step next → Following k way seen (after_step c k m s own_word) (got_of m own_word)
  own_step next goes =
      let after = stepped_after any_step_keeps any_word_fits c is.core k m s is.at planned in
      let rests : seat_after (got_of m own_word) ≡ doing.Running (got_of m own_word) = ap (at_rest (got_of m own_word)) goes in
      record {
        core = after.core;
        at = after.own.1 ∙ ap Some rests;
        window = is.window ++ events_of k (event_of m own_word);
        log = own_log;
        caused = subst (λ (sight : ℕ × List ℕ). Caused c.table k way seen (is.window ++ events_of k (event_of m own_word)) sight.0 (got_of m own_word)) (sym after.own.0) own_caused;
        headed = subst (λ (sight : ℕ × List ℕ). Headed c.table own_mem' k sight.0 (c.log ++ events_of k (event_of m own_word)) (got_of m own_word)) (sym after.own.0) own_headed;
      }
