-- What a thread has for its texts stays, and what two of them have for one text is one handle.
use Rattle.std.proofs.Common.{◌≡◌, ℕ, ◌+◌, ◌<◌, ◌≤◌, Bool, true, false, nat_lt, List, [], ◌++◌, length, map, get_or, set, Option, Some, None, inl, inr, refl, sym, ap, subst, ◌∙◌, arith}
use Rattle.std.proofs.lemmas.Bool.{ltb-true, ltb-false}
use Rattle.std.proofs.lemmas.List.{append-nil, append_assoc, length-map, get_or-map, get_or-set_same, get_or-set_other, get_or_past}
use Rattle.std.specs.declared.vec.Vec.{Vec}
use Rattle.intern_log.specs.declared.event.Event.{Event}
use Rattle.intern_log.specs.declared.event.Handle.{Handle}
use Rattle.intern_log.specs.Short.{IsShort}
use Rattle.cht_core.specs.declared.table.Table.{Table}
use Rattle.cht_core.specs.Past.{kind_of}
use Rattle.cht_run.specs.declared.intern_wait.Interned.{Interned}
use Rattle.cht_run.specs.declared.intern_wait.Interned.TheVariants as interned
use Rattle.cht_run.specs.declared.seat.Seat.{Seat}
use Rattle.cht_run.specs.declared.sight.Entry.{Entry}
use Rattle.cht_run.specs.declared.table.Cht.{Cht}
use Rattle.cht_run.specs.Begins.{HasLedger}
use Rattle.cht_run.specs.Ended.{Ended, Keeps, KeepsWork}
use Rattle.cht_run.specs.Ends.{HasNothing}
use Rattle.cht_run.specs.History.{log_of, Follows, HasSeen}
use Rattle.cht_run.specs.Holds.{HoldLive, Holds}
use Rattle.cht_run.specs.InternWaits.{InternsWaiting, WhyInternsWaiting}
use Rattle.cht_run.specs.Interns.{FoundNoSlot}
use Rattle.cht_run.specs.Seats.{sight, history, seen, numbers}
use Rattle.cht_run.proofs.Gives.{interned_still}
use Rattle.cht_run.proofs.HeldOnce.{held_once}
use Rattle.cht_run.proofs.Histories.{log-append}
use Rattle.cht_run.proofs.HoldsOn.{IsJoin, holds_on, first_holds, second_holds}
use Rattle.shared_use.specs.Shared.{HasSeenMore, WasFull, IsAnswer, StillAnswers, AreFirstAnswers, AreAnswers, AreOne}

-- a seat that had nothing unfinished has nothing unfinished
pub still_nothing : (old new : Seat) → HasNothing old → KeepsWork old new → HasNothing new
still_nothing old new nothing works = record { work = works.work ∙ nothing.work; grace = works.grace ∙ nothing.grace }

-- AN INTERN

-- where it was so in a part of the log, it was so in a part of a longer one
still_full : (t : Table) (began : List Event) (text : List ℕ) (log more : List Event) → WasFull t began text log → WasFull t began text (log ++ more)
still_full t began text log more (first, window, rest, is, full) = (first, window, rest ++ more, ap (λ l. l ++ more) is ∙ append_assoc ((began ++ first) ++ window) rest more, full)

-- what was so of a history is so of one that goes on from it
full_later : (t : Table) (began : List Event) (text : List ℕ) (seen later history : List Entry) → history ≡ seen ++ later → WasFull t began text (log_of seen) → WasFull t began text (log_of history)
full_later t began text seen later history whole full =
    subst (WasFull t began text) (sym (ap log_of whole ∙ log-append seen later)) (still_full t began text (log_of seen) (log_of later) full)

module _ (cht : Cht) (old new : Seat) (text : List ℕ) where
  abbrev Interns : Interned → Type 0
  Interns result = Ended cht.origin.table old new (InternsWaiting text result) (WhyInternsWaiting cht.origin.table text result)

  -- the seat has seen more
  pub sees_more : (result : Interned) → Interns result → HasSeenMore old new
  sees_more result e = (log_of e.window, ap log_of e.whole ∙ log-append (history old) e.window)

  -- what the seat had for a text it has still
  pub answers_still : (result : Interned) → Interns result → StillAnswers cht old new
  answers_still result e began other (Some h) holds = interned_still cht.origin.table old new text result other h e holds
  answers_still result e began other None (inl long) = inl long
  answers_still result e began other None (inr full) = inr (full_later cht.origin.table began other (history old) e.window (history new) e.whole full)

  -- and where no slot was free it has none
  no_slot_is_answer : Interns interned.NoSlot → IsAnswer cht (seen old) new text None
  no_slot_is_answer e = inr (
    [],
    log_of e.window,
    [],
    ap log_of e.whole ∙ log-append (history old) e.window ∙ ap (λ l. l ++ log_of e.window) (sym (append-nil (seen old))) ∙ sym (append-nil ((seen old ++ []) ++ log_of e.window)),
    subst (λ l. FoundNoSlot cht.origin.table text l (log_of e.window)) (sym (append-nil (seen old))) e.why,
  )

  pub full_is_answer : (result : Interned) → Interns result → result ≡ interned.NoSlot → IsAnswer cht (seen old) new text None
  full_is_answer result e is = no_slot_is_answer (subst Interns is e)

-- calls that follow one another keep the seat
pub keeps_both : (old mid new : Seat) → Keeps old mid → Keeps mid new → Keeps old new
keeps_both old mid new first second = record { number = second.number ∙ first.number; numbers = second.numbers ∙ first.numbers; kids = second.kids ∙ first.kids }

pub sees_both : (old mid new : Seat) → HasSeenMore old mid → HasSeenMore mid new → HasSeenMore old new
sees_both old mid new (first, first_is) (second, second_is) = (first ++ second, second_is ∙ ap (λ l. l ++ second) first_is ∙ append_assoc (seen old) first second)

-- what came after a seat had seen something came after all that it had seen before
pub since_before : (cht : Cht) (old mid new : Seat) (text : List ℕ) (answer : Option Handle) → HasSeenMore old mid → IsAnswer cht (seen mid) new text answer → IsAnswer cht (seen old) new text answer
since_before cht old mid new text (Some h) more holds = holds
since_before cht old mid new text None more (inl long) = inl long
since_before cht old mid new text None (more, more_is) (inr (first, window, rest, is, full)) =
    let whole : seen mid ++ first ≡ seen old ++ (more ++ first) = ap (λ l. l ++ first) more_is ∙ append_assoc (seen old) more first in
    inr (more ++ first, window, rest, is ∙ ap (λ l. (l ++ window) ++ rest) whole, subst (λ l. FoundNoSlot cht.origin.table text l window) whole full)

-- MANY TEXTS

abbrev IsAt : Cht → List Event → Seat → List (List ℕ) → List (Option Handle) → ℕ → Type 0
IsAt cht began seat texts answers j = IsAnswer cht began seat (get_or texts j []) (get_or answers j None)

-- one more answer
one_more : (cht : Cht) (began : List Event) (old new : Seat) (n : ℕ) (texts : List (List ℕ)) (answers : List (Option Handle)) (answer : Option Handle) → StillAnswers cht old new → n < length answers →
    AreFirstAnswers cht began old n texts answers → IsAnswer cht began new (get_or texts n []) answer → AreFirstAnswers cht began new (n + 1) texts (set answers n answer)
one_more cht began old new n texts answers answer still inside before here i less = go (nat_lt i n) refl
  where
    go : (b : Bool) → nat_lt i n ≡ b → IsAt cht began new texts (set answers n answer) i
    go true is =
        let small : i < n = ltb-true i n is in
        subst (IsAnswer cht began new (get_or texts i [])) (sym (get_or-set_other answers n i answer None (λ same. omega (arith, small, same)))) (still began (get_or texts i []) (get_or answers i None) (before i small))
    go false is =
        let most : n ≤ i = ltb-false i n is in
        let same : n ≡ i = omega (arith, most, less) in
        subst (IsAt cht began new texts (set answers n answer)) same (subst (IsAnswer cht began new (get_or texts n [])) (sym (get_or-set_same answers n answer None inside)) here)

pub one_more_of : {X : Type 0} (f : X → List ℕ) (xs : List X) (d : X) (cht : Cht) (began : List Event) (old new : Seat) (n : ℕ) (answers : List (Option Handle)) (answer : Option Handle) → StillAnswers cht old new → n < length xs →
    length answers ≡ length xs → AreFirstAnswers cht began old n (map f xs) answers → IsAnswer cht began new (f (get_or xs n d)) answer → AreFirstAnswers cht began new (n + 1) (map f xs) (set answers n answer)
one_more_of f xs d cht began old new n answers answer still less room before here =
    one_more cht began old new n (map f xs) answers answer still (omega (arith, less, room)) before (subst (λ (t : List ℕ). IsAnswer cht began new t answer) (sym (get_or-map f xs n d [] less)) here)

-- with the last of them there is one for each
pub all_answers : {X : Type 0} (f : X → List ℕ) (xs : List X) (cht : Cht) (began : List Event) (seat : Seat) (answers : List (Option Handle)) → length answers ≡ length xs → AreFirstAnswers cht began seat (length xs) (map f xs) answers → AreAnswers cht began seat (map f xs) answers
all_answers f xs cht began seat answers room are = record {
  one_each = room ∙ sym (length-map xs f);
  each = λ i less. let inside : i < length xs = subst (λ n. i < n) (length-map xs f) less in are i inside;
}

pub answers_on : (cht : Cht) (began : List Event) (old new : Seat) (texts : List (List ℕ)) (answers : List (Option Handle)) → StillAnswers cht old new → AreAnswers cht began old texts answers → AreAnswers cht began new texts answers
answers_on cht began old new texts answers still are = record { one_each = are.one_each; each = λ i less. still began (get_or texts i []) (get_or answers i None) (are.each i less) }

-- WHAT OTHERS DO, AND A JOIN

-- what a seat has for a text it has still where others have added to the history
pub stays : (cht : Cht) (old new : Seat) → Follows (numbers old) (history old) (history new) → numbers new ≡ numbers old → StillAnswers cht old new
stays cht old new later same began text (Some h) holds = holds_on old new text h later same holds
stays cht old new later same began text None (inl long) = inl long
stays cht old new later same began text None (inr full) = inr (full_later cht.origin.table began text (history old) later.later (history new) later.whole full)

module _ (cht : Cht) (first second both : Seat) (joined : IsJoin first second both) where
  -- and where two have become one, that has what the first one had, and what the second one had
  pub first_stays : HasLedger (sight second) → StillAnswers cht first both
  first_stays ledger began text (Some h) holds = first_holds first second both joined text h ledger holds
  first_stays ledger began text None (inl long) = inl long
  first_stays ledger began text None (inr full) = inr (full_later cht.origin.table began text (history first) joined.first.later (history both) joined.first.whole full)

  pub second_stays : HasLedger (sight first) → StillAnswers cht second both
  second_stays ledger began text (Some h) holds = second_holds first second both joined text h ledger holds
  second_stays ledger began text None (inl long) = inl long
  second_stays ledger began text None (inr full) = inr (full_later cht.origin.table began text (history second) joined.second.later (history both) joined.second.whole full)

-- the answers of two threads are still so of a seat that both were made, once that has seen more
pub mine_at_end : (cht : Cht) (began : List Event) (first second both last : Seat) (texts : List (List ℕ)) (answers : List (Option Handle)) → IsJoin first second both → HasLedger (sight second) →
    Follows (numbers both) (history both) (history last) → numbers last ≡ numbers both → AreAnswers cht began first texts answers → AreAnswers cht began last texts answers
mine_at_end cht began first second both last texts answers joined ledger later same are =
    answers_on cht began both last texts answers (stays cht both last later same) (answers_on cht began first both texts answers (first_stays cht first second both joined ledger) are)

pub theirs_at_end : (cht : Cht) (began : List Event) (first second both last : Seat) (texts : List (List ℕ)) (answers : List (Option Handle)) → IsJoin first second both → HasLedger (sight first) →
    Follows (numbers both) (history both) (history last) → numbers last ≡ numbers both → AreAnswers cht began second texts answers → AreAnswers cht began last texts answers
theirs_at_end cht began first second both last texts answers joined ledger later same are =
    answers_on cht began both last texts answers (stays cht both last later same) (answers_on cht began second both texts answers (second_stays cht first second both joined ledger) are)

-- ONE HANDLE

-- an answer with a handle is that of a text
is_inside : (answers : List (Option Handle)) (i : ℕ) (h : Handle) → get_or answers i None ≡ Some h → i < length answers
is_inside answers i h is = go (nat_lt i (length answers)) refl
  where
    go : (b : Bool) → nat_lt i (length answers) ≡ b → i < length answers
    go true inside = ltb-true i (length answers) inside
    go false outside = let none : get_or answers i None ≡ None = get_or_past answers i None (ltb-false i (length answers) outside) in absurd (cc)

holds_at : (cht : Cht) (began : List Event) (seat : Seat) (texts : List (List ℕ)) (answers : List (Option Handle)) → AreAnswers cht began seat texts answers → (i : ℕ) (h : Handle) → get_or answers i None ≡ Some h → Holds seat (get_or texts i []) h
holds_at cht began seat texts answers are i h is =
    let inside : i < length texts = subst (λ n. i < n) are.one_each (is_inside answers i h is) in
    subst (IsAnswer cht began seat (get_or texts i [])) is (are.each i inside)

-- two lists of answers of one seat have one handle for each text
pub are_one : (cht : Cht) (began since : List Event) (seat : Seat) (texts : List (List ℕ)) (mine theirs : List (Option Handle)) → HasSeen cht.origin.table (history seat) → HoldLive (seen seat) (numbers seat) → IsShort (seen seat) →
    AreAnswers cht began seat texts mine → AreAnswers cht since seat texts theirs → AreOne mine theirs
are_one cht began since seat texts mine theirs sees live short own other i h k is_h is_k =
    let text = get_or texts i [] in
    let a = holds_at cht began seat texts mine own i h is_h in
    let b = holds_at cht since seat texts theirs other i k is_k in
    held_once (kind_of cht.origin.table) (seen seat) (numbers seat) (numbers seat) text h k (sees.lawful short) live live a.held b.held a.given b.given

-- WHAT A THREAD HANDS BACK

-- its answers are what its seat has, which has let go of nothing that it had not had
pub record IsDone {Z : Type 0} (cht : Cht) (began : List Event) (texts : List (List ℕ)) (back : Seat × Vec (Option Handle) Z) : Type 0 where
  pub answers : AreAnswers cht began back.0 texts back.1.items
  pub ledger : HasLedger (sight back.0)

pub at_result : {Z : Type 0} (cht : Cht) (began : List Event) (texts : List (List ℕ)) (given got : Seat × Vec (Option Handle) Z) → given ≡ got → IsDone cht began texts got → IsDone cht began texts given
at_result {Z} cht began texts given got same done = subst (λ (r : Seat × Vec (Option Handle) Z). IsDone cht began texts r) (sym same) done
