-- What a seat has seen after a call, a meeting or a join: what was created, what it holds, and how many events callers see of it.
use Rattle.std.proofs.Common.{◌≡◌, ℕ, ◌+◌, Bool, true, false, cond, ◌&&◌, List, [], ◌∷◌, ◌++◌, map, filter, refl, sym, ap, subst, ◌∙◌, arith}
use Rattle.std.proofs.lemmas.List.Sums.{sum_by-append, sum_by-cons}
use Rattle.std.specs.List.{All}
use Rattle.std.proofs.lemmas.List.{append-nil}
use Rattle.std.proofs.lemmas.List.Elements.{All-head, All-tail}
use Rattle.intern_log.specs.declared.event.Event.{Event}
use Rattle.intern_log.specs.declared.event.Handle.{Handle}
use Rattle.intern_log.specs.declared.event.Kind.TheVariants.{Counted}
use Rattle.intern_log.specs.declared.event.What.{What}
use Rattle.intern_log.specs.declared.event.What.TheVariants as what
use Rattle.intern_log.specs.Counts.{events_in}
use Rattle.intern_log.specs.Own.{is_visible, is_among, mine, losses}
use Rattle.cht_core.specs.declared.table.Table.{Table}
use Rattle.cht_core.specs.Begins.{IsHeld, IsCreated}
use Rattle.cht_core.specs.Past.{by}
use Rattle.cht_core.specs.Windows.{whats_by}
use Rattle.cht_run.specs.declared.change.TryPermanent.{TryPermanent}
use Rattle.cht_run.specs.declared.change.TryPermanent.TheVariants as keeps
use Rattle.cht_run.specs.declared.front.Front.{Front}
use Rattle.cht_run.specs.declared.intern_wait.Interned.{Interned}
use Rattle.cht_run.specs.declared.intern_wait.Interned.TheVariants as interned
use Rattle.cht_run.specs.declared.lookup.TryLookup.{TryLookup}
use Rattle.cht_run.specs.declared.lookup.TryLookup.TheVariants as try_lookup
use Rattle.cht_run.specs.declared.read.TextOf.{TextOf}
use Rattle.cht_run.specs.declared.retry.Released.{Released}
use Rattle.cht_run.specs.declared.seat.Seat.{Seat}
use Rattle.cht_run.specs.declared.sight.Entry.{Entry}
use Rattle.cht_run.specs.Answers.{LooksUp, WhyLooksUp}
use Rattle.cht_run.specs.Changes.{made_permanent, WhyPermanent}
use Rattle.cht_run.specs.Ended.{Ended, Only}
use Rattle.cht_run.specs.Ends.{IsAlone, Stays, log_in}
use Rattle.cht_run.specs.History.{log_of, told_by, Follows}
use Rattle.cht_run.specs.InternWaits.{InternsWaiting, WhyInternsWaiting}
use Rattle.cht_run.specs.Reads.{sections_of, WhyReads}
use Rattle.cht_run.specs.Retries.{WhyReleases}
use Rattle.cht_run.specs.Seats.{history, seen, numbers}
use Rattle.cht_run.proofs.FoundHandles.{created_still}
use Rattle.cht_run.proofs.Gives.{added, gained, lost}
use Rattle.cht_run.proofs.Histories.{log-append}

-- what was created is created in a history that goes on
pub created_on : (numbers : List ℕ) (seen history : List Entry) (h : Handle) → Follows numbers seen history → IsCreated (log_of seen) h → IsCreated (log_of history) h
created_on numbers seen history h f is = subst (λ l. IsCreated l h) (sym (ap log_of f.whole ∙ log-append seen f.later)) (created_still (log_of seen) (log_of f.later) h is)

module _ (t : Table) (old new : Seat) (Did : List What → Type 0) (Why : List Event → List Event → Type 0) (e : Ended t old new Did Why) where
  -- and after a call
  pub created_after : (h : Handle) → IsCreated (seen old) h → IsCreated (seen new) h
  created_after h is = subst (λ l. IsCreated l h) (sym (ap log_of e.whole ∙ log-append (history old) e.window)) (created_still (seen old) (log_of e.window) h is)

  module _ (shown : List What) (is : filter is_visible (whats_by old.number (log_of e.window)) ≡ shown) where
    -- after a call that lets go of nothing the seat holds what it held
    pub held_on : ((h : Handle) → losses (map (by old.number) shown) h ≡ 0) → (h : Handle) → IsHeld (seen old) (numbers old) h → IsHeld (seen new) (numbers new) h
    held_on none h held =
        let more = gained t old new Did Why e shown is h in
        let less = lost t old new Did Why e shown is h in
        let no = none h in
        omega (arith, held, more, less, no)

    -- there are as many events more as callers see of the call
    pub counted_on : (p : What → Bool) → events_in p (mine (seen new) (numbers new)) ≡ events_in p (mine (seen old) (numbers old)) + events_in p (map (by old.number) shown)
    counted_on p = ap (events_in p) (added t old new Did Why e shown is) ∙ sum_by-append (λ (x : Event). cond (p x.what) 1 0) (mine (seen old) (numbers old)) (map (by old.number) shown)

-- a seat that is alone has seen no more after a call that did nothing
pub nothing_added : (t : Table) (old new : Seat) (Why : List Event → List Event → Type 0) → Ended t old new (Only []) Why → IsAlone old → history new ≡ history old
nothing_added t old new Why e alone =
    let none : e.window ≡ [] = sym (e.alone alone) ∙ e.own ∙ ap (map (told_by old.number)) e.did in
    e.whole ∙ ap (λ w. history old ++ w) none ∙ append-nil (history old)

-- one event more is counted where it is of the kind
abbrev one_if : Bool → ℕ
one_if b = cond b 1 0

counts : (p : What → Bool) (e : Event) (log : List Event) → events_in p (e ∷ log) ≡ one_if (p e.what) + events_in p log
counts p e log = sum_by-cons (λ (x : Event). one_if (p x.what)) e log

counts_both : (p : What → Bool) (e : Event) (some all : List Event) → events_in p some ≡ events_in p all → events_in p (e ∷ some) ≡ events_in p (e ∷ all)
counts_both p e some all same = counts p e some ∙ ap (λ n. one_if (p e.what) + n) same ∙ sym (counts p e all)

counts_other : (p : What → Bool) (e : Event) (some all : List Event) → p e.what ≡ false → events_in p some ≡ events_in p all → events_in p some ≡ events_in p (e ∷ all)
counts_other p e some all other same = let more : events_in p (e ∷ all) ≡ 0 + events_in p all = counts p e all ∙ ap (λ b. one_if b + events_in p all) other in omega (arith, same, more)

-- where each event of a log is by one of the numbers, callers see of these all events of a kind that they see at all
pub counted_of_all : (p : What → Bool) → ((w : What) → p w ≡ true → is_visible w ≡ true) → (owners : List ℕ) (log : List Event) → All (λ (e : Event). is_among owners e.seat ≡ true) log → events_in p (mine log owners) ≡ events_in p log
counted_of_all p shows owners [] all = refl
counted_of_all p shows owners (e ∷ log) all =
    go (p e.what) (is_visible e.what) (is_among owners e.seat) refl (shows e.what) (All-head (λ (x : Event). is_among owners x.seat ≡ true) e log all)
    (counted_of_all p shows owners log (All-tail (λ (x : Event). is_among owners x.seat ≡ true) e log all))
  where
    go : (is visible among : Bool) → p e.what ≡ is → (p e.what ≡ true → visible ≡ true) → among ≡ true → events_in p (mine log owners) ≡ events_in p log →
        events_in p (cond (visible && among) (e ∷ mine log owners) (mine log owners)) ≡ events_in p (e ∷ log)
    go is true true at shown by rest = counts_both p e (mine log owners) log rest
    go is visible false at shown by rest = let never : false ≡ true = by in absurd (cc)
    go true false true at shown by rest = let never : false ≡ true = shown at in absurd (cc)
    go false false true at shown by rest = counts_other p e (mine log owners) log at rest

-- AFTER CALLS OF EACH KIND

-- a reading of a text leaves the seat what it holds
pub held_after_reading : (t : Table) (old new : Seat) (read : Handle) (result : TextOf) → t.kind ≡ Counted → (counter : ℕ) × Ended t old new (Only (sections_of t.kind counter)) (WhyReads t.kind read result) →
    (h : Handle) → IsHeld (seen old) (numbers old) h → IsHeld (seen new) (numbers new) h
held_after_reading t old new read result kind (counter, e) =
    held_on t old new (Only (sections_of t.kind counter)) (WhyReads t.kind read result) e [] (ap (filter is_visible) e.did ∙ ap (λ k. filter is_visible (sections_of k counter)) kind) (λ h. refl)

-- so does a look-up
pub held_after_look_up : (t : Table) (old new : Seat) (text : List ℕ) (result : TryLookup) → Ended t old new (LooksUp text result) (WhyLooksUp old.number text result) →
    (h : Handle) → IsHeld (seen old) (numbers old) h → IsHeld (seen new) (numbers new) h
held_after_look_up t old new text (try_lookup.Hit k) e = held_on t old new (LooksUp text (try_lookup.Hit k)) (WhyLooksUp old.number text (try_lookup.Hit k)) e (what.Take text k ∷ []) e.did.shown (λ h. refl)
held_after_look_up t old new text try_lookup.Miss e = held_on t old new (LooksUp text try_lookup.Miss) (WhyLooksUp old.number text try_lookup.Miss) e [] e.did.shown (λ h. refl)
held_after_look_up t old new text try_lookup.Again e = held_on t old new (LooksUp text try_lookup.Again) (WhyLooksUp old.number text try_lookup.Again) e [] e.did.shown (λ h. refl)

-- and one that makes a hold permanent
pub held_after_permanent : (t : Table) (old new : Seat) (k : Handle) (result : TryPermanent) → Ended t old new (Only (made_permanent k result)) (WhyPermanent old.number k result) →
    (h : Handle) → IsHeld (seen old) (numbers old) h → IsHeld (seen new) (numbers new) h
held_after_permanent t old new k keeps.Done e = held_on t old new (Only (made_permanent k keeps.Done)) (WhyPermanent old.number k keeps.Done) e (what.Perm k ∷ []) (ap (filter is_visible) e.did) (λ h. refl)
held_after_permanent t old new k keeps.Again e = held_on t old new (Only (made_permanent k keeps.Again)) (WhyPermanent old.number k keeps.Again) e [] (ap (filter is_visible) e.did) (λ h. refl)

-- what callers see of an intern that waits
abbrev pub shown_by : List ℕ → Interned → List What
shown_by text interned.TooLong = []
shown_by text (interned.Taken h) = what.Take text h ∷ []
shown_by text interned.NoSlot = []
shown_by text (interned.Created h) = what.Create text h ∷ []

shown_is : (text : List ℕ) (result : Interned) (events : List What) → InternsWaiting text result events → filter is_visible events ≡ shown_by text result
shown_is text interned.TooLong events did = ap (filter is_visible) did
shown_is text (interned.Taken h) events did = did.shown
shown_is text interned.NoSlot events did = did.walk.shown
shown_is text (interned.Created h) events did = did.shown

pub counted_after_intern : (t : Table) (old new : Seat) (text : List ℕ) (result : Interned) → Ended t old new (InternsWaiting text result) (WhyInternsWaiting t text result) → (p : What → Bool) →
    events_in p (mine (seen new) (numbers new)) ≡ events_in p (mine (seen old) (numbers old)) + events_in p (map (by old.number) (shown_by text result))
counted_after_intern t old new text result e p =
    counted_on t old new (InternsWaiting text result) (WhyInternsWaiting t text result) e (shown_by text result) (shown_is text result (whats_by old.number (log_of e.window)) e.did) p

pub counted_after_drop : (t : Table) (old new : Seat) (h : Handle) (result : Released) → Ended t old new (Only (what.Drop h ∷ [])) (WhyReleases old.number h result) → (p : What → Bool) →
    events_in p (mine (seen new) (numbers new)) ≡ events_in p (mine (seen old) (numbers old)) + events_in p (by old.number (what.Drop h) ∷ [])
counted_after_drop t old new h result e p = counted_on t old new (Only (what.Drop h ∷ [])) (WhyReleases old.number h result) e (what.Drop h ∷ []) (ap (filter is_visible) e.did) p

-- AFTER THE END

-- where a seat was alone and the table is closed, its log has as many events of a kind as callers see of the seat
pub counted_of_closed : (p : What → Bool) → ((w : What) → p w ≡ true → is_visible w ≡ true) → (old last : Seat) (front : Front) → Stays old last → history last ≡ history old → log_in front ≡ seen last →
    All (λ (e : Event). is_among (numbers last) e.seat ≡ true) (log_in front) → events_in p (log_in front) ≡ events_in p (mine (seen old) (numbers old))
counted_of_closed p sees old last front stays same log all =
    sym (counted_of_all p sees (numbers last) (log_in front) all) ∙ ap (λ l. events_in p (mine l (numbers last))) (log ∙ ap log_of same) ∙ ap (λ l. events_in p (mine (seen old) l)) stays.numbers
