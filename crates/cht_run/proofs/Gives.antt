-- A seat holds what an intern of it has answered, and still what it held before.
use Rattle.std.proofs.Common.{◌≡◌, ℕ, ◌+◌, Bool, true, false, cond, ◌&&◌, List, [], ◌∷◌, ◌++◌, map, filter, inl, inr, refl, sym, ap, subst, ◌∙◌, arith}
use Rattle.std.proofs.lemmas.List.{append_assoc}
use Rattle.std.proofs.lemmas.List.Sums.{sum_by-append}
use Rattle.intern_log.specs.declared.event.Event.{Event}
use Rattle.intern_log.specs.declared.event.Handle.{Handle}
use Rattle.intern_log.specs.declared.event.What.{What}
use Rattle.intern_log.specs.declared.event.What.TheVariants as what
use Rattle.intern_log.specs.Own.{is_visible, is_among, is_gain, is_loss, mine, gains, losses}
use Rattle.intern_log.proofs.Logs.{mine-append}
use Rattle.atomic_step.specs.declared.answer.Answer.TheVariants as answer
use Rattle.call_machine.specs.declared.stage.Goal.{Goal}
use Rattle.cht_core.specs.Past.{by}
use Rattle.cht_core.specs.Windows.{whats_by}
use Rattle.cht_core.specs.declared.table.Table.{Table}
use Rattle.cht_run.specs.declared.intern_wait.Interned.{Interned}
use Rattle.cht_run.specs.declared.intern_wait.Interned.TheVariants as interned
use Rattle.cht_run.specs.declared.seat.Seat.{Seat}
use Rattle.cht_run.specs.declared.sight.Entry.{Entry}
use Rattle.cht_run.specs.declared.table.Cht.{Cht}
use Rattle.cht_run.specs.Begins.{HasLedger}
use Rattle.cht_run.specs.Ended.{Ended}
use Rattle.cht_run.specs.History.{log_of, entries_by, told_by}
use Rattle.cht_run.specs.Holds.{Gives, WasGiven, Holds}
use Rattle.cht_run.specs.InternWaits.{InternsWaiting, WhyInternsWaiting}
use Rattle.cht_run.specs.Seats.{sight, history, seen, numbers}
use Rattle.cht_run.specs.Walked.{Walked}
use Rattle.cht_run.proofs.Histories.{log-append}
use Rattle.cht_run.proofs.Holding.{seen_by, log_told, visible_told, taken_is_held, made_is_held}
use Rattle.cht_run.proofs.HoldsOn.{given_longer}

-- WHAT A CALL ADDS TO WHAT CALLERS SEE OF ITS SEAT

seen_more : (numbers : List ℕ) (i : ℕ) (window : List Entry) (shown : List What) → entries_by numbers window ≡ map (told_by i) (whats_by i (log_of window)) → filter is_visible (whats_by i (log_of window)) ≡ shown →
    mine (log_of window) numbers ≡ map (by i) shown
seen_more numbers i window shown own is =
    seen_by numbers window ∙ ap (λ l. filter (λ (e : Event). is_visible e.what) (log_of l)) own ∙ ap (filter (λ (e : Event). is_visible e.what)) (log_told i (whats_by i (log_of window)))
    ∙ visible_told i (whats_by i (log_of window)) ∙ ap (map (by i)) is

module _ (t : Table) (old new : Seat) (Did : List What → Type 0) (Why : List Event → List Event → Type 0) (e : Ended t old new Did Why) (shown : List What)
    (is : filter is_visible (whats_by old.number (log_of e.window)) ≡ shown) where
  log_is : seen new ≡ seen old ++ log_of e.window
  log_is = ap log_of e.whole ∙ log-append (history old) e.window

  pub added : mine (seen new) (numbers new) ≡ mine (seen old) (numbers old) ++ map (by old.number) shown
  added = ap (mine (seen new)) e.keeps.numbers ∙ ap (λ l. mine l (numbers old)) log_is ∙ mine-append (seen old) (log_of e.window) (numbers old)
      ∙ ap (λ l. mine (seen old) (numbers old) ++ l) (seen_more (numbers old) old.number e.window shown e.own is)

  pub gained : (h : Handle) → gains (mine (seen new) (numbers new)) h ≡ gains (mine (seen old) (numbers old)) h + gains (map (by old.number) shown) h
  gained h = ap (λ l. gains l h) added ∙ sum_by-append (λ (x : Event). cond (is_gain x.what h) 1 0) (mine (seen old) (numbers old)) (map (by old.number) shown)

  pub lost : (h : Handle) → losses (mine (seen new) (numbers new)) h ≡ losses (mine (seen old) (numbers old)) h + losses (map (by old.number) shown) h
  lost h = ap (λ l. losses l h) added ∙ sum_by-append (λ (x : Event). cond (is_loss x.what h) 1 0) (mine (seen old) (numbers old)) (map (by old.number) shown)

  module _ (none : (h : Handle) → losses (map (by old.number) shown) h ≡ 0) where
    ledger_after : HasLedger (sight old) → HasLedger (sight new)
    ledger_after ledger h = let few = ledger h in let more = gained h in let less = lost h in let no = none h in omega (arith, few, more, less, no)

    still : (text : List ℕ) (h : Handle) → Holds old text h → Holds new text h
    still text h holds = record {
      held = let held = holds.held in let more = gained h in let less = lost h in let no = none h in omega (arith, held, more, less, no);
      given = subst (λ l. WasGiven l text h) (sym log_is) (given_longer (seen old) (log_of e.window) text h holds.given);
      ledger = ledger_after holds.ledger;
    }

-- an intern takes no hold away
pub interned_still : (t : Table) (old new : Seat) (text : List ℕ) (result : Interned) (other : List ℕ) (h : Handle) →
    Ended t old new (InternsWaiting text result) (WhyInternsWaiting t text result) → Holds old other h → Holds new other h
interned_still t old new text interned.TooLong other h e holds =
    still t old new (InternsWaiting text interned.TooLong) (WhyInternsWaiting t text interned.TooLong) e [] (ap (filter is_visible) e.did) (λ k. refl) other h holds
interned_still t old new text (interned.Taken k) other h e holds =
    still t old new (InternsWaiting text (interned.Taken k)) (WhyInternsWaiting t text (interned.Taken k)) e (what.Take text k ∷ []) e.did.shown (λ k. refl) other h holds
interned_still t old new text (interned.Created k) other h e holds =
    still t old new (InternsWaiting text (interned.Created k)) (WhyInternsWaiting t text (interned.Created k)) e (what.Create text k ∷ []) e.did.shown (λ k. refl) other h holds
interned_still t old new text interned.NoSlot other h e holds =
    still t old new (InternsWaiting text interned.NoSlot) (WhyInternsWaiting t text interned.NoSlot) e [] e.did.walk.shown (λ k. refl) other h holds

-- THE HANDLE OF ITS ANSWER

-- an event that callers see of some numbers is one of the log
given_seen : (log : List Event) (numbers : List ℕ) (e : Event) (text : List ℕ) (h : Handle) → mine log numbers ≡ e ∷ [] → Gives e.what text h → WasGiven log text h
given_seen [] numbers e text h is gives = absurd (cc)
given_seen (x ∷ log) numbers e text h is gives = go (is_visible x.what && is_among numbers x.seat) is (λ none. given_seen log numbers e text h none gives)
  where
    go : (b : Bool) → cond b (x ∷ mine log numbers) (mine log numbers) ≡ e ∷ [] → (mine log numbers ≡ e ∷ [] → WasGiven log text h) → WasGiven (x ∷ log) text h
    go true is later = let same : x ≡ e = cc in ([], log, x, refl, subst (λ (y : Event). Gives y.what text h) (sym same) gives)
    go false is later = let rest = later is in (x ∷ rest.0, rest.1, rest.2, ap (λ l. x ∷ l) rest.3, rest.4)

given_after : (front log : List Event) (text : List ℕ) (h : Handle) → WasGiven log text h → WasGiven (front ++ log) text h
given_after front log text h (a, back, e, is, gives) = (front ++ a, back, e, ap (λ l. front ++ l) is ∙ sym (append_assoc front a (e ∷ back)), gives)

given_by : (old new : Seat) (window : List Entry) (w : What) (text : List ℕ) (h : Handle) → history new ≡ history old ++ window → entries_by (numbers old) window ≡ map (told_by old.number) (whats_by old.number (log_of window)) →
    filter is_visible (whats_by old.number (log_of window)) ≡ w ∷ [] → Gives w text h → WasGiven (seen new) text h
given_by old new window w text h whole own is gives =
    subst (λ l. WasGiven l text h) (sym (ap log_of whole ∙ log-append (history old) window))
    (given_after (seen old) (log_of window) text h (given_seen (log_of window) (numbers old) (by old.number w) text h (seen_more (numbers old) old.number window (w ∷ []) own is) gives))

module _ (cht : Cht) (g : Goal) (text : List ℕ) (old new : Seat) (h : Handle) where
  pub taken_gives : Walked cht g text old new (answer.Taken h) → Holds new text h
  taken_gives w = record {
    held = taken_is_held cht g text old new h w;
    given = given_by old new w.ended.window (what.Take text h) text h w.ended.whole w.ended.own w.ended.did.0.shown (inr refl);
    ledger = ledger_after cht.origin.table old new _ _ w.ended (what.Take text h ∷ []) w.ended.did.0.shown (λ k. refl) w.ledger;
  }

  pub made_gives : Walked cht g text old new (answer.Created h) → Holds new text h
  made_gives w = record {
    held = made_is_held cht g text old new h w;
    given = given_by old new w.ended.window (what.Create text h) text h w.ended.whole w.ended.own w.ended.did.0.shown (inl refl);
    ledger = ledger_after cht.origin.table old new _ _ w.ended (what.Create text h ∷ []) w.ended.did.0.shown (λ k. refl) w.ledger;
  }
