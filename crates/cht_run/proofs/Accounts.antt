-- How many holds a seat was given, and how many it has let go of.
use Rattle.std.proofs.Common.{◌≡◌, ℕ, ◌+◌, Bool, true, List, [], ◌∷◌, map, refl, ◌∙◌, arith}
use Rattle.std.specs.List.{All}
use Rattle.intern_log.specs.declared.event.Event.{Event}
use Rattle.intern_log.specs.declared.event.Handle.{Handle}
use Rattle.intern_log.specs.declared.event.What.{What}
use Rattle.intern_log.specs.declared.event.What.TheVariants as what
use Rattle.intern_log.specs.Counts.{events_in, is_create, is_take, is_drop}
use Rattle.intern_log.specs.Own.{is_visible, is_among, mine}
use Rattle.cht_core.specs.declared.table.Table.{Table}
use Rattle.cht_core.specs.Past.{by}
use Rattle.cht_run.specs.declared.front.Front.{Front}
use Rattle.cht_run.specs.declared.intern_wait.Interned.{Interned}
use Rattle.cht_run.specs.declared.intern_wait.Interned.TheVariants as interned
use Rattle.cht_run.specs.declared.retry.Released.{Released}
use Rattle.cht_run.specs.declared.seat.Seat.{Seat}
use Rattle.cht_run.specs.Ended.{Ended, Only}
use Rattle.cht_run.specs.Ends.{Stays, log_in}
use Rattle.cht_run.specs.InternWaits.{InternsWaiting, WhyInternsWaiting}
use Rattle.cht_run.specs.Retries.{WhyReleases}
use Rattle.cht_run.specs.Seats.{history, seen, numbers}
use Rattle.cht_run.proofs.HoldsOn.{IsJoin, counted}
use Rattle.cht_run.proofs.SeenAfter.{shown_by, counted_after_intern, counted_after_drop, counted_of_closed}

-- how many events of a kind callers see of a seat
abbrev pub shown_of : (What → Bool) → Seat → ℕ
shown_of p seat = events_in p (mine (seen seat) (numbers seat))

-- a seat was given so many holds, and has let go of as many
pub record HasAccount (seat : Seat) (times : ℕ) : Type 0 where
  pub given : shown_of is_create seat + shown_of is_take seat ≡ times
  pub dropped : shown_of is_drop seat ≡ times

-- how many holds an intern gives
abbrev pub given_by : Interned → ℕ
given_by interned.TooLong = 0
given_by (interned.Taken h) = 1
given_by interned.NoSlot = 0
given_by (interned.Created h) = 1

events_given : (i : ℕ) (text : List ℕ) (result : Interned) → events_in is_create (map (by i) (shown_by text result)) + events_in is_take (map (by i) (shown_by text result)) ≡ given_by result
events_given i text interned.TooLong = refl
events_given i text (interned.Taken h) = refl
events_given i text interned.NoSlot = refl
events_given i text (interned.Created h) = refl

events_dropped : (i : ℕ) (text : List ℕ) (result : Interned) → events_in is_drop (map (by i) (shown_by text result)) ≡ 0
events_dropped i text interned.TooLong = refl
events_dropped i text (interned.Taken h) = refl
events_dropped i text interned.NoSlot = refl
events_dropped i text (interned.Created h) = refl

module _ (t : Table) (old mid : Seat) (text : List ℕ) (result : Interned) (e : Ended t old mid (InternsWaiting text result) (WhyInternsWaiting t text result)) (times : ℕ) (account : HasAccount old times) where
  given_then : shown_of is_create mid + shown_of is_take mid ≡ times + given_by result
  given_then =
      let creates = counted_after_intern t old mid text result e is_create in
      let takes = counted_after_intern t old mid text result e is_take in
      let more = events_given old.number text result in
      let before = account.given in
      omega (arith, creates, takes, more, before)

  dropped_then : shown_of is_drop mid ≡ times
  dropped_then = let drops = counted_after_intern t old mid text result e is_drop in let none = events_dropped old.number text result in let before = account.dropped in omega (arith, drops, none, before)

  -- an intern that gives no hold leaves the account
  pub account_kept : given_by result ≡ 0 → HasAccount mid times
  account_kept none = record { given = let now = given_then in omega (arith, now, none); dropped = dropped_then }

  -- and one whose hold is let go of adds one
  pub account_more : given_by result ≡ 1 → (new : Seat) (h : Handle) (released : Released) → Ended t mid new (Only (what.Drop h ∷ [])) (WhyReleases mid.number h released) → HasAccount new (times + 1)
  account_more one new h released d = record {
    given =
        let creates : shown_of is_create new ≡ shown_of is_create mid + 0 = counted_after_drop t mid new h released d is_create in
        let takes : shown_of is_take new ≡ shown_of is_take mid + 0 = counted_after_drop t mid new h released d is_take in
        let now = given_then in
        omega (arith, creates, takes, now, one);
    dropped =
        let drops : shown_of is_drop new ≡ shown_of is_drop mid + 1 = counted_after_drop t mid new h released d is_drop in
        let now = dropped_then in
        omega (arith, drops, now);
  }

-- two seats that are made one have the account of both
pub account_of_both : (old other new : Seat) → IsJoin old other new → (times more : ℕ) → HasAccount old times → HasAccount other more → HasAccount new (times + more)
account_of_both old other new j times more first second = record {
  given =
      let creates : shown_of is_create new ≡ shown_of is_create old + shown_of is_create other = counted old other new j (λ (e : Event). is_create e.what) in
      let takes : shown_of is_take new ≡ shown_of is_take old + shown_of is_take other = counted old other new j (λ (e : Event). is_take e.what) in
      let a = first.given in
      let b = second.given in
      omega (arith, creates, takes, a, b);
  dropped =
      let drops : shown_of is_drop new ≡ shown_of is_drop old + shown_of is_drop other = counted old other new j (λ (e : Event). is_drop e.what) in
      let a = first.dropped in
      let b = second.dropped in
      omega (arith, drops, a, b);
}

-- AFTER THE END

creates_are_seen : (w : What) → is_create w ≡ true → is_visible w ≡ true
creates_are_seen (what.Create text h) is = refl
creates_are_seen (what.Take text h) is = refl
creates_are_seen (what.Found text h) is = refl
creates_are_seen (what.Drop h) is = refl
creates_are_seen (what.Perm h) is = refl
creates_are_seen (what.Kill h) is = refl
creates_are_seen _ is = absurd (cc)

takes_are_seen : (w : What) → is_take w ≡ true → is_visible w ≡ true
takes_are_seen (what.Create text h) is = refl
takes_are_seen (what.Take text h) is = refl
takes_are_seen (what.Found text h) is = refl
takes_are_seen (what.Drop h) is = refl
takes_are_seen (what.Perm h) is = refl
takes_are_seen (what.Kill h) is = refl
takes_are_seen _ is = absurd (cc)

drops_are_seen : (w : What) → is_drop w ≡ true → is_visible w ≡ true
drops_are_seen (what.Create text h) is = refl
drops_are_seen (what.Take text h) is = refl
drops_are_seen (what.Found text h) is = refl
drops_are_seen (what.Drop h) is = refl
drops_are_seen (what.Perm h) is = refl
drops_are_seen (what.Kill h) is = refl
drops_are_seen _ is = absurd (cc)

-- the log of a closed table has the account of its last seat
module _ (old last : Seat) (front : Front) (stays : Stays old last) (same : history last ≡ history old) (log : log_in front ≡ seen last) (all : All (λ (e : Event). is_among (numbers last) e.seat ≡ true) (log_in front)) (times : ℕ) (account : HasAccount old times) where
  pub given_in_all : events_in is_create (log_in front) + events_in is_take (log_in front) ≡ times
  given_in_all =
      let creates = counted_of_closed is_create creates_are_seen old last front stays same log all in
      let takes = counted_of_closed is_take takes_are_seen old last front stays same log all in
      let whole = account.given in
      omega (arith, creates, takes, whole)

  pub dropped_in_all : events_in is_drop (log_in front) ≡ times
  dropped_in_all = counted_of_closed is_drop drops_are_seen old last front stays same log all ∙ account.dropped
