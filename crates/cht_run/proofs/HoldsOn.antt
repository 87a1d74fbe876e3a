-- What a seat holds it holds still after what others did, and after a join.
use Rattle.std.proofs.Common.{◌≡◌, ℕ, ◌+◌, ◌≤◌, Bool, true, false, cond, ◌&&◌, ◌||◌, List, [], ◌∷◌, ◌++◌, filter, count_by, refl, sym, ap, subst, ◌∙◌, arith}
use Rattle.std.proofs.lemmas.List.{append-nil, append_assoc}
use Rattle.std.proofs.lemmas.List.Sums.{sum_by-cons}
use Rattle.intern_log.specs.declared.event.Event.{Event}
use Rattle.intern_log.specs.declared.event.Handle.{Handle}
use Rattle.intern_log.specs.Own.{is_visible, is_among, is_gain, is_loss, mine, gains, losses, total}
use Rattle.intern_log.proofs.Logs.{mine-append}
use Rattle.cht_core.specs.Begins.{IsHeld}
use Rattle.cht_run.specs.declared.seat.Seat.{Seat}
use Rattle.cht_run.specs.declared.sight.Entry.{Entry}
use Rattle.cht_run.specs.Begins.{HasLedger}
use Rattle.cht_run.specs.History.{log_of, AreApart, Follows}
use Rattle.cht_run.specs.Holds.{WasGiven, Holds}
use Rattle.cht_run.specs.Seats.{sight, history, seen, numbers}
use Rattle.cht_run.proofs.Goes.{entries_none}
use Rattle.cht_run.proofs.Histories.{log-append, among_append}
use Rattle.cht_run.proofs.Holding.{seen_by}

-- what callers see of some numbers stays as it is while others add to the history
pub mine_stays : (numbers : List ℕ) (seen history : List Entry) → Follows numbers seen history → mine (log_of history) numbers ≡ mine (log_of seen) numbers
mine_stays numbers seen history f =
    let none : mine (log_of f.later) numbers ≡ [] = seen_by numbers f.later ∙ ap (λ l. filter (λ (e : Event). is_visible e.what) (log_of l)) (entries_none numbers f.later f.none) in
    ap (λ l. mine (log_of l) numbers) f.whole ∙ ap (λ l. mine l numbers) (log-append seen f.later) ∙ mine-append (log_of seen) (log_of f.later) numbers
    ∙ ap (λ l. mine (log_of seen) numbers ++ l) none ∙ append-nil (mine (log_of seen) numbers)

-- a handle that was given was given
pub given_longer : (log more : List Event) (text : List ℕ) (h : Handle) → WasGiven log text h → WasGiven (log ++ more) text h
given_longer log more text h (front, back, e, is, gives) = (front, back ++ more, e, ap (λ l. l ++ more) is ∙ append_assoc front (e ∷ back) more, gives)

pub given_later : (numbers : List ℕ) (seen history : List Entry) (text : List ℕ) (h : Handle) → Follows numbers seen history → WasGiven (log_of seen) text h → WasGiven (log_of history) text h
given_later numbers seen history text h f given =
    subst (λ l. WasGiven l text h) (sym (ap log_of f.whole ∙ log-append seen f.later)) (given_longer (log_of seen) (log_of f.later) text h given)

-- a seat holds still what it held, where others have added to the history
pub holds_on : (old new : Seat) (text : List ℕ) (h : Handle) → Follows (numbers old) (history old) (history new) → numbers new ≡ numbers old → Holds old text h → Holds new text h
holds_on old new text h f same holds =
    let stays : mine (seen new) (numbers new) ≡ mine (seen old) (numbers old) = ap (mine (seen new)) same ∙ mine_stays (numbers old) (history old) (history new) f in
    record {
      held = subst (λ l. 1 ≤ total l h) (sym stays) holds.held;
      given = given_later (numbers old) (history old) (history new) text h f holds.given;
      ledger = λ k. subst (λ l. losses l k ≤ gains l k) (sym stays) (holds.ledger k);
    }

-- AFTER A JOIN

abbrev one_if : (Event → Bool) → Event → ℕ
one_if p e = cond (p e) 1 0

-- an event of one of two is counted once
counts_one : (p : Event → Bool) (e : Event) (both first second : List Event) (v x y : Bool) → (x ≡ true → y ≡ true → ⊥) → count_by p both ≡ count_by p first + count_by p second →
    count_by p (cond (v && (y || x)) (e ∷ both) both) ≡ count_by p (cond (v && x) (e ∷ first) first) + count_by p (cond (v && y) (e ∷ second) second)
counts_one p e both first second true true true never rest = absurd (never refl refl)
counts_one p e both first second true true false never rest =
    let more : count_by p (e ∷ both) ≡ one_if p e + count_by p both = sum_by-cons (one_if p) e both in
    let here : count_by p (e ∷ first) ≡ one_if p e + count_by p first = sum_by-cons (one_if p) e first in
    omega (arith, rest, more, here)
counts_one p e both first second true false true never rest =
    let more : count_by p (e ∷ both) ≡ one_if p e + count_by p both = sum_by-cons (one_if p) e both in
    let here : count_by p (e ∷ second) ≡ one_if p e + count_by p second = sum_by-cons (one_if p) e second in
    omega (arith, rest, more, here)
counts_one p e both first second true false false never rest = rest
counts_one p e both first second false x y never rest = rest

-- what is counted of the events of two seats is what is counted of each
count_both : (p : Event → Bool) (a b : List ℕ) (log : List Event) → AreApart a b → count_by p (mine log (b ++ a)) ≡ count_by p (mine log a) + count_by p (mine log b)
count_both p a b [] apart = refl
count_both p a b (e ∷ log) apart =
    ap (λ x. count_by p (cond (is_visible e.what && x) (e ∷ mine log (b ++ a)) (mine log (b ++ a)))) (among_append b a e.seat)
    ∙ counts_one p e (mine log (b ++ a)) (mine log a) (mine log b) (is_visible e.what) (is_among a e.seat) (is_among b e.seat)
    (λ is also. let never : true ≡ false = sym also ∙ apart e.seat is in absurd (cc)) (count_both p a b log apart)

-- two seats are made one
pub record IsJoin (old other new : Seat) : Type 0 where
  pub apart : AreApart (numbers old) (numbers other)
  pub numbers_are : numbers new ≡ numbers other ++ numbers old
  pub first : Follows (numbers old) (history old) (history new)
  pub second : Follows (numbers other) (history other) (history new)

module _ (old other new : Seat) (j : IsJoin old other new) where
  pub counted : (p : Event → Bool) → count_by p (mine (seen new) (numbers new)) ≡ count_by p (mine (seen old) (numbers old)) + count_by p (mine (seen other) (numbers other))
  counted p =
      ap (λ l. count_by p (mine (seen new) l)) j.numbers_are ∙ count_both p (numbers old) (numbers other) (seen new) j.apart
      ∙ (λ i. count_by p (mine_stays (numbers old) (history old) (history new) j.first i) + count_by p (mine_stays (numbers other) (history other) (history new) j.second i))

  gained : (h : Handle) → gains (mine (seen new) (numbers new)) h ≡ gains (mine (seen old) (numbers old)) h + gains (mine (seen other) (numbers other)) h
  gained h = counted (λ (e : Event). is_gain e.what h)

  lost : (h : Handle) → losses (mine (seen new) (numbers new)) h ≡ losses (mine (seen old) (numbers old)) h + losses (mine (seen other) (numbers other)) h
  lost h = counted (λ (e : Event). is_loss e.what h)

  ledger_joined : HasLedger (sight old) → HasLedger (sight other) → HasLedger (sight new)
  ledger_joined first second h = let more = gained h in let less = lost h in let a = first h in let b = second h in omega (arith, more, less, a, b)

  held_first : (h : Handle) → HasLedger (sight other) → IsHeld (seen old) (numbers old) h → IsHeld (seen new) (numbers new) h
  held_first h ledger held = let more = gained h in let less = lost h in let b = ledger h in omega (arith, more, less, b, held)

  held_second : (h : Handle) → HasLedger (sight old) → IsHeld (seen other) (numbers other) h → IsHeld (seen new) (numbers new) h
  held_second h ledger held = let more = gained h in let less = lost h in let a = ledger h in omega (arith, more, less, a, held)

  -- the seat then holds what the first one held, and what the second one did
  pub first_holds : (text : List ℕ) (h : Handle) → HasLedger (sight other) → Holds old text h → Holds new text h
  first_holds text h ledger holds = record {
    held = held_first h ledger holds.held;
    given = given_later (numbers old) (history old) (history new) text h j.first holds.given;
    ledger = ledger_joined holds.ledger ledger;
  }

  pub second_holds : (text : List ℕ) (h : Handle) → HasLedger (sight old) → Holds other text h → Holds new text h
  second_holds text h ledger holds = record {
    held = held_second h ledger holds.held;
    given = given_later (numbers other) (history other) (history new) text h j.second holds.given;
    ledger = ledger_joined ledger holds.ledger;
  }
