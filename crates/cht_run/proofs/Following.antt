-- Calls of a seat that follow log_one another.
use Rattle.std.proofs.Common.{◌≡◌, ◌⊎◌, ℕ, List, [], ◌++◌, map, inl, inr, refl, sym, ap, subst, ◌∙◌}
use Rattle.std.proofs.lemmas.List.{append-nil, append_assoc, map-append}
use Rattle.std.proofs.lemmas.List.Elements.{filter-append}
use Rattle.intern_log.specs.declared.event.Event.{Event}
use Rattle.intern_log.specs.declared.event.What.{What}
use Rattle.intern_log.specs.Own.{is_among}
use Rattle.cht_core.specs.declared.table.Table.{Table}
use Rattle.cht_core.specs.Windows.{Somewhere, whats_by}
use Rattle.cht_core.proofs.Windows.{somewhere_on, whats_by-append}
use Rattle.cht_run.specs.declared.seat.Seat.{Seat}
use Rattle.cht_run.specs.declared.sight.Entry.{Entry}
use Rattle.cht_run.specs.Ended.{KeepsFields, Ended, Always, Only}
use Rattle.cht_run.specs.Ends.{IsAlone}
use Rattle.cht_run.specs.History.{log_of, HasSeen, by_of, entries_by, told_by}
use Rattle.cht_run.specs.Seats.{history, seen, numbers}
use Rattle.cht_run.proofs.Histories.{log-append}

entries-append : (mine : List ℕ) (xs ys : List Entry) → entries_by mine (xs ++ ys) ≡ entries_by mine xs ++ entries_by mine ys
entries-append mine xs ys = filter-append (λ (e : Entry). is_among mine (by_of e)) xs ys

-- the second call's window comes after the first log_one's
module _ (t : Table) (old mid new : Seat) (Did More : List What → Type 0) (Why Then : List Event → List Event → Type 0) (first : Ended t old mid Did Why) (second : Ended t mid new More Then) where
  abbrev log_one : List Event
  log_one = log_of first.window

  abbrev log_two : List Event
  log_two = log_of second.window

  seen_mid : seen mid ≡ seen old ++ log_one
  seen_mid = ap log_of first.whole ∙ log-append (history old) first.window

  windows : log_of (first.window ++ second.window) ≡ log_one ++ log_two
  windows = log-append first.window second.window

  did_two : whats_by mid.number log_two ≡ whats_by old.number log_two
  did_two = ap (λ n. whats_by n log_two) first.keeps.number

  done : whats_by old.number (log_of (first.window ++ second.window)) ≡ whats_by old.number log_one ++ whats_by mid.number log_two
  done = ap (whats_by old.number) windows ∙ whats_by-append old.number log_one log_two ∙ ap (λ l. whats_by old.number log_one ++ l) (sym did_two)

  own_two : entries_by (numbers old) second.window ≡ map (told_by old.number) (whats_by mid.number log_two)
  own_two = ap (λ n. entries_by n second.window) (sym first.keeps.numbers) ∙ second.own ∙ ap (λ n. map (told_by n) (whats_by mid.number log_two)) first.keeps.number

  alone_two : IsAlone old → entries_by (numbers old) second.window ≡ second.window
  alone_two alone =
      ap (λ n. entries_by n second.window) (sym first.keeps.numbers)
      ∙ second.alone (record { root = ap (λ n. is_among n 0) first.keeps.numbers ∙ alone.root; kids = first.keeps.kids ∙ alone.kids })

  sees_two : (first.window ≡ []) ⊎ HasSeen t (history mid) → (second.window ≡ []) ⊎ HasSeen t (history new) → (first.window ++ second.window ≡ []) ⊎ HasSeen t (history new)
  sees_two log_one (inr sees) = inr sees
  sees_two (inr sees) (inl none) = inr (subst (HasSeen t) (sym (second.whole ∙ ap (λ l. history mid ++ l) none ∙ append-nil (history mid))) sees)
  sees_two (inl nothing) (inl none) = inl (λ i. nothing i ++ none i)

  pub follows : (Both : List What → Type 0) (Because : List Event → List Event → Type 0) → ((a b : List What) → Did a → More b → Both (a ++ b)) →
      ((seen' : List Event) → seen' ≡ seen old ++ log_one → Why (seen old) log_one → Then seen' log_two → Because (seen old) (log_one ++ log_two)) → Ended t old new Both Because
  follows Both Because did why = record {
    keeps = record {
      number = second.keeps.number ∙ first.keeps.number;
      numbers = second.keeps.numbers ∙ first.keeps.numbers;
      kids = second.keeps.kids ∙ first.keeps.kids;
    };
    window = first.window ++ second.window;
    whole = second.whole ∙ ap (λ h. h ++ second.window) first.whole ∙ append_assoc (history old) first.window second.window;
    own = entries-append (numbers old) first.window second.window ∙ ap (λ l. l ++ entries_by (numbers old) second.window) first.own
        ∙ ap (λ l. map (told_by old.number) (whats_by old.number log_one) ++ l) own_two ∙ sym (map-append (told_by old.number) (whats_by old.number log_one) (whats_by mid.number log_two)) ∙ ap (map (told_by old.number)) (sym done);
    did = subst Both (sym done) (did _ _ first.did second.did);
    alone = λ alone. entries-append (numbers old) first.window second.window ∙ ap (λ l. l ++ entries_by (numbers old) second.window) (first.alone alone) ∙ ap (λ l. first.window ++ l) (alone_two alone);
    sees = sees_two first.sees second.sees;
    why = subst (Because (seen old)) (sym windows) (why (seen mid) seen_mid first.why second.why);
  }

-- log_two calls of which it is known what they did
pub ended_both : (t : Table) (old mid new : Seat) (did more : List What) (Why Then Both : List Event → List Event → Type 0) → (first : Ended t old mid (Only did) Why) → (second : Ended t mid new (Only more) Then) →
    ((seen' : List Event) → seen' ≡ seen old ++ log_of first.window → Why (seen old) (log_of first.window) → Then seen' (log_of second.window) → Both (seen old) (log_of first.window ++ log_of second.window)) → Ended t old new (Only (did ++ more)) Both
ended_both t old mid new did more Why Then Both first second both = follows t old mid new (Only did) (Only more) Why Then first second (Only (did ++ more)) Both (λ a b is_a is_b. (λ i. is_a i ++ is_b i)) both

-- a seat that has made no step
pub no_step : (t : Table) (old : Seat) (Did : List What → Type 0) (Why : List Event → List Event → Type 0) → Did [] → Why (seen old) [] → Ended t old old Did Why
no_step t old Did Why did why = record {
  keeps = record { number = refl; numbers = refl; kids = refl };
  window = [];
  whole = sym (append-nil (history old));
  own = refl;
  did = did;
  alone = λ alone. refl;
  sees = inl refl;
  why = why;
}

pub not_called : (t : Table) (old : Seat) → Ended t old old (Only []) Always
not_called t old = no_step t old (Only []) Always refl tt

-- a seat that kept its fields twice kept them
pub fields_both : (old mid new : Seat) → KeepsFields old mid → KeepsFields mid new → KeepsFields old new
fields_both old mid new first second = record {
  number = second.number ∙ first.number;
  cursor = second.cursor ∙ first.cursor;
  passed = second.passed ∙ first.passed;
}

-- what was so at a place of the second window was so in both
pub later : (Says : List Event → Type 0) (seen seen' log_one log_two : List Event) → seen' ≡ seen ++ log_one → Somewhere Says seen' log_two → Somewhere Says seen (log_one ++ log_two)
later Says seen seen' log_one log_two is (before, rest, window, so) =
    (log_one ++ before, rest, ap (λ l. log_one ++ l) window ∙ sym (append_assoc log_one before rest), subst Says (ap (λ l. l ++ before) is ∙ append_assoc seen log_one before) so)

-- and at log_one of the first
pub earlier : (Says : List Event → Type 0) (seen log_one log_two : List Event) → Somewhere Says seen log_one → Somewhere Says seen (log_one ++ log_two)
earlier Says seen log_one log_two h = somewhere_on seen log_one Says log_two h

-- an end by another reason
pub because : {t : Table} {old new : Seat} {Did : List What → Type 0} {Why : List Event → List Event → Type 0} (Because : List Event → List Event → Type 0) → (e : Ended t old new Did Why) → Because (seen old) (log_of e.window) → Ended t old new Did Because
because Because e why = record {
  keeps = e.keeps;
  window = e.window;
  whole = e.whole;
  own = e.own;
  did = e.did;
  alone = e.alone;
  sees = e.sees;
  why = why;
}
