-- What the calls by handle have done at each of their stages.
use Rattle.std.proofs.Common.{◌≡◌, ℕ, ◌==◌, Bool, true, false, cond, List, [], ◌∷◌, ◌++◌, Some, None, refl, sym, ap, subst, ◌∙◌, arith}
use Rattle.std.proofs.lemmas.Bool.{eqb-true}
use Rattle.std.proofs.lemmas.List.{append-nil, append_assoc}
use Rattle.intern_log.specs.declared.event.Event.{Event}
use Rattle.intern_log.specs.declared.event.Handle.{Handle}
use Rattle.intern_log.specs.declared.event.What.{What}
use Rattle.intern_log.specs.declared.event.What.TheVariants as what
use Rattle.intern_log.specs.Log.{Allows, map_of}
use Rattle.intern_log.specs.Own.{is_among}
use Rattle.intern_log.specs.TextMap.{TextMap, no_texts, IsLive}
use Rattle.atomic_step.specs.declared.count.Change.{Change}
use Rattle.atomic_step.specs.declared.count.Change.TheVariants as change
use Rattle.atomic_step.specs.declared.step.Step.{Step}
use Rattle.atomic_step.specs.declared.step.Step.TheVariants as step
use Rattle.atomic_step.specs.Count.{holds_of}
use Rattle.atomic_step.specs.Event.{change_of, found_handle}
use Rattle.call_machine.specs.declared.call.Call.{Call}
use Rattle.call_machine.specs.declared.handle.HandleStage.TheVariants as handle
use Rattle.call_machine.specs.declared.machine.Machine.{Machine}
use Rattle.call_machine.specs.declared.stage.Along.{Along}
use Rattle.call_machine.specs.declared.stage.CallStage.TheVariants as stage
use Rattle.call_machine.specs.declared.stage.Request.{Request}
use Rattle.call_machine.specs.Machine.{event_of}
use Rattle.call_machine.specs.Sought.{asked_of}
use Rattle.cht_core.specs.CauseCalls.{HasCount}
use Rattle.cht_core.specs.Causes.{now_in}
use Rattle.cht_core.specs.Invariant.{events_of}
use Rattle.cht_core.specs.Past.{by, past_of}
use Rattle.cht_core.specs.Windows.{IsTold, whats_by}
use Rattle.cht_core.specs.WordSays.{SaysOfCount}
use Rattle.cht_core.proofs.CauseLogs.{told_is_legal}
use Rattle.cht_core.proofs.CauseWords.{word_of_entry, legal_at, texts_are}
use Rattle.cht_core.proofs.Counts.{holds_in_word}
use Rattle.cht_core.proofs.Windows.{whats_of, whats_by-append, whats_by_own}
use Rattle.cht_run.specs.declared.sight.Origin.{Origin}
use Rattle.cht_run.specs.declared.sight.Sight.{Sight}
use Rattle.cht_run.specs.declared.table.Cht.{Cht}
use Rattle.cht_run.specs.Begins.{begun, GoesOn, GoesFirst}
use Rattle.cht_run.specs.Calls.{at_stage, At}
use Rattle.cht_run.specs.Changes.{EndsWith, Made, Did, by_seeing, by_exchange}
use Rattle.cht_run.specs.History.{log_of}
use Rattle.cht_run.specs.Seats.{Raw}
use Rattle.cht_run.specs.Starts.{Starts}
use Rattle.cht_run.specs.Told.{Told}
use Rattle.cht_run.proofs.Firsts as firsts
use Rattle.cht_run.proofs.Goes.{whats_none, told_there}
use Rattle.cht_run.proofs.Histories.{log-append, log_more}

-- ONE STEP OF A SEAT

module _ (o : Origin) (b v w : Sight) (m : Machine) (s : Step) (word : ℕ) (number : v.number ≡ b.number) (is : is_among v.numbers v.number ≡ true) (told : Told o m s v word w) where
  abbrev before : List Event
  before = log_of (v.history ++ told.between)

  log_is : log_of w.history ≡ before ++ events_of v.number (event_of m word)
  log_is = ap (λ (x : Sight). log_of x.history) told.after ∙ log_more (v.history ++ told.between) o.table.shape v.number m s word

  -- what others did is not the seat's, and then comes what it did
  own_before : whats_by b.number before ≡ whats_by b.number (log_of v.history)
  own_before = ap (whats_by b.number) (log-append v.history told.between) ∙ whats_by-append b.number (log_of v.history) (log_of told.between)
      ∙ ap (λ l. whats_by b.number (log_of v.history) ++ l) (whats_none b.number v.numbers told.between (subst (λ n. is_among v.numbers n ≡ true) number is) told.none) ∙ append-nil (whats_by b.number (log_of v.history))

  pub made : Made b v [] → Made b w (whats_of (event_of m word))
  made none =
      ap (whats_by b.number) (log_is ∙ ap (λ i. before ++ events_of i (event_of m word)) number) ∙ whats_by-append b.number before (events_of b.number (event_of m word))
      ∙ ap (λ l. l ++ whats_by b.number (events_of b.number (event_of m word))) (own_before ∙ none ∙ append-nil (whats_by b.number (log_of b.history)))
      ∙ ap (λ l. whats_by b.number (log_of b.history) ++ l) (whats_by_own b.number (event_of m word))

  -- an event on a live handle, by a word that is that of its entry
  module _ (e : What) (h : Handle) (window : List Event) (history : log_of v.history ≡ log_of b.history ++ window) (event : event_of m word ≡ Some e) (on_live : (texts : TextMap) → Allows texts e → IsLive texts h)
      (says : SaysOfCount (past_of o.table.shape.min_level before) h.slot word) where
    log_ends : log_of w.history ≡ before ++ by b.number e ∷ []
    log_ends = log_is ∙ ap (λ i. before ++ events_of i (event_of m word)) number ∙ ap (λ x. before ++ events_of b.number x) event

    live : IsLive (map_of before) h
    live = on_live (map_of before) (legal_at no_texts before [] (by b.number e) (told_is_legal o.table (before ++ by b.number e ∷ []) (subst (IsTold o.table) log_ends told.sees.told)))

    has : HasCount (map_of before) live.0 h live.1.0.count
    has = live.1.1 ∙ (λ j. Some (record { handle = live.1.2 j; count = live.1.0.count }))

    texts : (now_in o.table before).texts ≡ map_of before
    texts = texts_are o.table b.number [] [] tt before

    has_now : HasCount (now_in o.table before).texts live.0 h live.1.0.count
    has_now = subst (λ x. HasCount x live.0 h live.1.0.count) (sym texts) has

    counted : holds_of word ≡ live.1.0.count
    counted =
        let few = (told.found.tidy.entries live.0 (record { handle = h; count = live.1.0.count }) has_now).3 in
        ap holds_of (word_of_entry o.table (past_of o.table.shape.min_level before) told.found.tidy live.0 h live.1.0.count word has_now says) ∙ holds_in_word h live.1.0.count (omega (arith, few))

    pub ends_with : EndsWith b.number e h (holds_of word) (log_of b.history) (log_of w.history)
    ends_with = subst (λ l. (log_of w.history ≡ l ++ by b.number e ∷ []) → HasCount (map_of l) live.0 h (holds_of word) → EndsWith b.number e h (holds_of word) (log_of b.history) (log_of w.history))
        (sym (log-append v.history told.between ∙ ap (λ l. l ++ log_of told.between) history ∙ append_assoc (log_of b.history) window (log_of told.between)))
        (λ ends had. record { later = window ++ log_of told.between; ends = ends; text = live.0; had = had })
        log_ends (subst (HasCount (map_of before) live.0 h) (sym counted) has)

-- THE STAGES

live_by : (c : Change) (h : Handle) (m : TextMap) → Allows m (change_of c h) → IsLive m h
live_by change.Drop h m allowed = allowed
live_by change.Permanent h m allowed = allowed
live_by change.Kill h m allowed = allowed

-- the count was seen: a drop of 65,535 is made
pub has_seen : (cht : Cht) (b : Sight) (c : Call) (r : Request) (raw raw' : Raw) (w : Along) (ch : Change) (word : ℕ) → Starts cht b c r raw w (stage.Handle (handle.Count ch)) (step.SeeHandle ch r.handle) →
    GoesFirst c raw.me.0 word raw'.me.0 → Did b r.handle raw'.me.0 (by_seeing ch r.handle word)
has_seen cht b c r raw raw' w ch word starts first = by_change ch told
  where
    told : Told b.origin (at_stage b (asked_of r) w (stage.Handle (handle.Count ch))) (step.SeeHandle ch r.handle) (begun b c) word raw'.me.0
    told = firsts.told_there cht b c r raw raw' w (stage.Handle (handle.Count ch)) (step.SeeHandle ch r.handle) word starts first

    none : Made b (begun b c) []
    none = sym (append-nil (whats_by b.number (log_of b.history)))

    by_drop : (is : Bool) → (holds_of word == 65535) ≡ is → Told b.origin (at_stage b (asked_of r) w (stage.Handle (handle.Count change.Drop))) (step.SeeHandle change.Drop r.handle) (begun b c) word raw'.me.0 →
        Did b r.handle raw'.me.0 (cond is (Some (what.Drop r.handle, 65535)) None)
    by_drop true is told =
        let event : found_handle change.Drop r.handle word ≡ Some (what.Drop r.handle) = ap (λ x. cond x (Some (what.Drop r.handle)) None) is in (
          subst (λ e. Made b raw'.me.0 (whats_of e)) event (made b.origin b (begun b c) raw'.me.0 (at_stage b (asked_of r) w (stage.Handle (handle.Count change.Drop))) (step.SeeHandle change.Drop r.handle) word refl starts.may.seat told none),
          subst (λ count. EndsWith b.number (what.Drop r.handle) r.handle count (log_of b.history) (log_of raw'.me.0.history)) (eqb-true (holds_of word) 65535 is)
              (ends_with b.origin b (begun b c) raw'.me.0 (at_stage b (asked_of r) w (stage.Handle (handle.Count change.Drop))) (step.SeeHandle change.Drop r.handle) word refl starts.may.seat told (what.Drop r.handle) r.handle [] (sym (append-nil (log_of b.history))) event
              (λ texts allowed. allowed) told.found.says),
        )
    by_drop false is told =
        subst (λ e. Made b raw'.me.0 (whats_of e)) (ap (λ x. cond x (Some (what.Drop r.handle)) None) is) (made b.origin b (begun b c) raw'.me.0 (at_stage b (asked_of r) w (stage.Handle (handle.Count change.Drop))) (step.SeeHandle change.Drop r.handle) word refl starts.may.seat told none)

    by_change : (x : Change) → Told b.origin (at_stage b (asked_of r) w (stage.Handle (handle.Count x))) (step.SeeHandle x r.handle) (begun b c) word raw'.me.0 → Did b r.handle raw'.me.0 (by_seeing x r.handle word)
    by_change change.Drop told = by_drop (holds_of word == 65535) refl told
    by_change change.Permanent told = made b.origin b (begun b c) raw'.me.0 (at_stage b (asked_of r) w (stage.Handle (handle.Count change.Permanent))) (step.SeeHandle change.Permanent r.handle) word refl starts.may.seat told none
    by_change change.Kill told = made b.origin b (begun b c) raw'.me.0 (at_stage b (asked_of r) w (stage.Handle (handle.Count change.Kill))) (step.SeeHandle change.Kill r.handle) word refl starts.may.seat told none

-- the count was exchanged, or another was there
pub has_exchanged : (cht : Cht) (b : Sight) (c : Call) (r : Request) (raw raw' : Raw) (w : Along) (ch : Change) (count word : ℕ) → At cht b c r raw w (stage.Handle (handle.Exchange ch count)) → GoesOn raw.me.0 word raw'.me.0 →
    Did b r.handle raw.me.0 None → Did b r.handle raw'.me.0 (by_exchange ch r.handle count (word == count))
has_exchanged cht b c r raw raw' w ch count word at on none = by_test (word == count) refl
  where
    told : Told raw.me.0.origin (at_stage b (asked_of r) w (stage.Handle (handle.Exchange ch count))) (step.ChangeEntry ch r.handle count) raw.me.0 word raw'.me.0
    told = told_there cht b c r raw raw' w (stage.Handle (handle.Exchange ch count)) (step.ChangeEntry ch r.handle count) word at refl on

    history : log_of raw.me.0.history ≡ log_of b.history ++ log_of at.stands.window
    history = ap log_of at.stands.history ∙ log-append b.history at.stands.window

    did : Made b raw'.me.0 (whats_of (cond (word == count) (Some (change_of ch r.handle)) None))
    did = made raw.me.0.origin b raw.me.0 raw'.me.0 (at_stage b (asked_of r) w (stage.Handle (handle.Exchange ch count))) (step.ChangeEntry ch r.handle count) word at.stands.stays.number at.sits.seat told none

    by_test : (is : Bool) → (word == count) ≡ is → Did b r.handle raw'.me.0 (by_exchange ch r.handle count is)
    by_test true is = (
      subst (λ x. Made b raw'.me.0 (whats_of (cond x (Some (change_of ch r.handle)) None))) is did,
      subst (λ n. EndsWith b.number (change_of ch r.handle) r.handle (holds_of n) (log_of b.history) (log_of raw'.me.0.history)) (eqb-true word count is)
          (ends_with raw.me.0.origin b raw.me.0 raw'.me.0 (at_stage b (asked_of r) w (stage.Handle (handle.Exchange ch count))) (step.ChangeEntry ch r.handle count) word at.stands.stays.number at.sits.seat told (change_of ch r.handle) r.handle
          (log_of at.stands.window) history (ap (λ x. cond x (Some (change_of ch r.handle)) None) is) (live_by ch r.handle) told.found.says),
    )
    by_test false is = subst (λ x. Made b raw'.me.0 (whats_of (cond x (Some (change_of ch r.handle)) None))) is did
