-- A handle that a call in a weak table has found was created.
use Rattle.std.proofs.Common.{◌≡◌, ℕ, Bool, true, false, cond, ◌&&◌, ◌||◌, List, [], ◌∷◌, ◌++◌, ⊎_elim, sym, ap, subst, ◌∙◌}
use Rattle.std.proofs.lemmas.List.{append_assoc}
use Rattle.std.proofs.lemmas.List.Folds.{list_any-append}
use Rattle.std.specs.List.{list_any, filter}
use Rattle.intern_log.specs.declared.event.Event.{Event}
use Rattle.intern_log.specs.declared.event.Handle.{Handle}
use Rattle.intern_log.specs.declared.event.What.TheVariants as what
use Rattle.intern_log.specs.Log.{creates, IsLegal}
use Rattle.intern_log.specs.Own.{is_visible, is_among, mine}
use Rattle.intern_log.proofs.Logs.{IsLegal-pieces}
use Rattle.cht_core.specs.declared.table.Table.{Table}
use Rattle.cht_core.specs.Begins.{IsCreated}
use Rattle.cht_core.specs.Past.{by}
use Rattle.cht_core.specs.Windows.{whats_by}
use Rattle.cht_core.proofs.CauseLogs.{told_is_legal, live_was_made}
use Rattle.cht_run.specs.declared.seat.Seat.{Seat}
use Rattle.cht_run.specs.declared.sight.Entry.{Entry}
use Rattle.cht_run.specs.Answers.{AreOfWalk}
use Rattle.cht_run.specs.Ended.{Ended}
use Rattle.cht_run.specs.History.{log_of, HasSeen}
use Rattle.cht_run.specs.Seats.{history, seen, numbers}
use Rattle.cht_run.proofs.Histories.{log-append}
use Rattle.cht_run.proofs.Holding.{one_more}

-- the one event that callers see of a log stands in it
stands : (log : List Event) (numbers : List ℕ) (e : Event) → mine log numbers ≡ e ∷ [] → (front back : List Event) × (log ≡ front ++ e ∷ back)
stands [] numbers e is = absurd (cc)
stands (x ∷ log) numbers e is = go (is_visible x.what && is_among numbers x.seat) is (stands log numbers e)
  where
    go : (b : Bool) → cond b (x ∷ mine log numbers) (mine log numbers) ≡ e ∷ [] → (mine log numbers ≡ e ∷ [] → (front back : List Event) × (log ≡ front ++ e ∷ back)) → (front back : List Event) × (x ∷ log ≡ front ++ e ∷ back)
    go true is rest = let same : x ≡ e = cc in ([], log, ap (λ y. y ∷ log) same)
    go false is rest = let (front, back, at) = rest is in (x ∷ front, back, ap (λ l. x ∷ l) at)

-- what was created stays created
pub created_still : (log more : List Event) (h : Handle) → IsCreated log h → IsCreated (log ++ more) h
created_still log more h is = list_any-append (λ (e : Event). creates e.what h) log more ∙ ap (λ b. b || list_any (λ (e : Event). creates e.what h) more) is

-- what a log finds has an entry, and so it was created
found_in : (t : Table) (log front back : List Event) (i : ℕ) (text : List ℕ) (h : Handle) → IsLegal log → log ≡ front ++ by i (what.Found text h) ∷ back → IsCreated log h
found_in t log front back i text h legal at =
    let there = ((IsLegal-pieces front (by i (what.Found text h) ∷ back)).0 (subst IsLegal at legal)).1.0 in
    subst (λ l. IsCreated l h) (sym at) (created_still front (by i (what.Found text h) ∷ back) h (live_was_made t front h (text, there)))

nothing_found : (i : ℕ) (window : List Entry) (text : List ℕ) (h : Handle) → window ≡ [] → filter is_visible (whats_by i (log_of window)) ≡ what.Found text h ∷ [] → ⊥
nothing_found i [] text h is shown = absurd (cc)
nothing_found i (e ∷ window) text h is shown = absurd (cc)

pub found_is_created : (t : Table) (old new : Seat) (text : List ℕ) (h : Handle) (Why : List Event → List Event → Type 0) → Ended t old new (AreOfWalk (what.Found text h ∷ [])) Why → IsCreated (seen new) h
found_is_created t old new text h Why e = ⊎_elim
    (λ none. absurd (nothing_found old.number e.window text h none e.did.shown))
    (λ (sees : HasSeen t (history new)).
    let one : mine (log_of e.window) (numbers old) ≡ by old.number (what.Found text h) ∷ [] = one_more (numbers old) old.number e.window (what.Found text h) e.own e.did.shown in
    let (front, back, at) = stands (log_of e.window) (numbers old) (by old.number (what.Found text h)) one in
    found_in t (seen new) (seen old ++ front) back old.number text h (told_is_legal t (seen new) sees.told)
    (ap log_of e.whole ∙ log-append (history old) e.window ∙ ap (λ l. seen old ++ l) at ∙ sym (append_assoc (seen old) front (by old.number (what.Found text h) ∷ back))))
    e.sees
