-- The worked log is lawful, event by event.
use Rattle.std.proofs.Common.{◌≡◌, ℕ, ◌<◌, Bool, true, false, cond, List, [], ◌∷◌, ◌++◌, ◌||◌, Option, Some, None, inl, inr, refl, sym, ap, ◌∙◌}
use native.Mathlib.Omega.{arith}
use Rattle.std.specs.Prelude.{nat_eq}
use Rattle.std.specs.List.{list_any}
use Rattle.std.specs.FinMap as finite
use Rattle.std.specs.Ordering.{nat_cmp}
use Rattle.std.specs.Cmp.Lexicographic.{slice_cmp}
use Rattle.intern_log.specs.declared.event.Handle.{Handle}
use Rattle.intern_log.specs.declared.event.Entry.{Entry}
use Rattle.intern_log.specs.declared.event.Event.{Event}
use Rattle.intern_log.specs.declared.event.What.{What}
use Rattle.intern_log.specs.declared.event.What.TheVariants.{Create, Take, Drop, Claim, Free, Open, Close, Grace, Lock, Unlock, Unlink, ResizeTaken, ResizeGiven}
use Rattle.intern_log.specs.TextMap.{TextMap, no_texts, entry_of, handle_eq, HasHandle, IsLive}
use Rattle.intern_log.specs.Log.{next, entry_after, creates, map_of, IsFresh, HandlesDiffer}
use Rattle.intern_log.specs.Counts.{is_create}
use Rattle.intern_log.specs.Now.{Phase, Vacant, Claimed, Linked, Unlinked, OpenSection, Resizing, Now, opening, now_after, now_of}
use Rattle.intern_log.specs.Lawful.{IsAllowedFrom, IsLawful}
use Rattle.intern_log.specs.Place.{IsMissing}
use Rattle.intern_log.specs.WorkedLog.{worked_table, cat, first_cat, second_cat, before_the_reader, while_it_reads, after_the_reader, worked_log}
use Rattle.intern_log.specs.Window.{by_seat}
use Rattle.intern_log.proofs.LawfulLaws.{IsAllowedFrom-append}
use Rattle.intern_log.proofs.Entries.{entry_of-next}
use Rattle.intern_log.proofs.Handles.{HandlesDiffer-none, HandlesDiffer-next, origin_in_map, no_text_has, handle_eq-Decides}
use Rattle.intern_log.proofs.Gone.{gone-next}
use Rattle.intern_log.proofs.Slots.{neither}

-- the map after the Create, after the Take, after each Drop, and after the last Create
abbrev map_at_3 : TextMap
map_at_3 = next no_texts (Create cat first_cat)

abbrev map_at_6 : TextMap
map_at_6 = next map_at_3 (Take cat first_cat)

abbrev map_at_9 : TextMap
map_at_9 = next map_at_6 (Drop first_cat)

abbrev map_at_10 : TextMap
map_at_10 = next map_at_9 (Drop first_cat)

-- the entry of the text, counted so often
abbrev counted : ℕ → Entry
counted n = record { handle = first_cat; count = n }

entry_at_0 : entry_of no_texts cat ≡ None
entry_at_0 = finite.get-empty (slice_cmp nat_cmp) cat

entry_at_3 : entry_of map_at_3 cat ≡ Some (counted 1)
entry_at_3 = entry_of-next no_texts (Create cat first_cat) cat

entry_at_6 : entry_of map_at_6 cat ≡ Some (counted 2)
entry_at_6 = entry_of-next map_at_3 (Take cat first_cat) cat ∙ ap (entry_after (Take cat first_cat) cat) entry_at_3

entry_at_9 : entry_of map_at_9 cat ≡ Some (counted 1)
entry_at_9 = entry_of-next map_at_6 (Drop first_cat) cat ∙ ap (entry_after (Drop first_cat) cat) entry_at_6

entry_at_10 : entry_of map_at_10 cat ≡ None
entry_at_10 = entry_of-next map_at_9 (Drop first_cat) cat ∙ ap (entry_after (Drop first_cat) cat) entry_at_9

none_live : (h : Handle) → ¬ (IsLive no_texts h)
none_live h live = no_text_has live.0 h live.1

-- the text has its first handle there
has_at_3 : HasHandle map_at_3 cat first_cat
has_at_3 = (counted 1, entry_at_3, refl)

has_at_6 : HasHandle map_at_6 cat first_cat
has_at_6 = (counted 2, entry_at_6, refl)

has_at_9 : HasHandle map_at_9 cat first_cat
has_at_9 = (counted 1, entry_at_9, refl)

differ_at_9 : HandlesDiffer map_at_9
differ_at_9 =
    let at_3 = HandlesDiffer-next no_texts (Create cat first_cat) HandlesDiffer-none (entry_at_0, none_live first_cat) in
    let at_6 = HandlesDiffer-next map_at_3 (Take cat first_cat) at_3 has_at_3 in
    HandlesDiffer-next map_at_6 (Drop first_cat) at_6 (cat, has_at_6)

-- after the second Drop the first handle is gone, and the second was never there
first_is_gone : ¬ (IsLive map_at_10 first_cat)
first_is_gone (text, has) = elim (origin_in_map map_at_9 (Drop first_cat) text first_cat has) [
  | inl was ↦
      let same : text ≡ cat = differ_at_9 text cat first_cat was has_at_9 in
      let there : entry_of map_at_10 cat ≡ Some has.0 = ap (entry_of map_at_10) (sym same) ∙ has.1 in
      none_there _ _ entry_at_10 there
  | inr made ↦ absurd (cc)
]
  where
    none_there : (o : Option Entry) (e : Entry) → o ≡ None → o ≡ Some e → ⊥
    none_there o e none some = cc

second_is_not_there : ¬ (IsLive map_at_10 second_cat)
second_is_not_there =
    let at_3 = gone-next no_texts (Create cat first_cat) second_cat refl (none_live second_cat) in
    let at_6 = gone-next map_at_3 (Take cat first_cat) second_cat refl at_3 in
    let at_9 = gone-next map_at_6 (Drop first_cat) second_cat refl at_6 in
    gone-next map_at_9 (Drop first_cat) second_cat refl at_9

-- at place 19 seat 2 alone has a section, which it opened at place 17
opened_later : (three two one : Bool) (o : OpenSection) (first second third fourth : OpenSection) → fourth.place ≡ 17 →
    cond three None (cond two (Some fourth) (cond three (Some third) (cond two None (cond two (Some second) (cond one None (cond one (Some first) None)))))) ≡ Some o → 12 < o.place
opened_later true two one o first second third fourth at is = absurd (cc)
opened_later false true one o first second third fourth at is = let same : fourth ≡ o = cc in let place = ap (λ (x : OpenSection). x.place) same in omega (arith, place, at)
opened_later false false true o first second third fourth at is = absurd (cc)
opened_later false false false o first second third fourth at is = absurd (cc)

-- at place 20 no slot is out of its chain
none_out : (zero : Bool) (first second third : Phase) (place : ℕ) → cond zero Vacant (cond zero first (cond zero second (cond zero third Vacant))) ≡ Unlinked 1 place → ⊥
none_out true first second third place is = cc
none_out false first second third place is = cc

-- what is said at places 7, 10, 17 and 19
abbrev now_at_7 : Now
now_at_7 = now_of 1 before_the_reader

abbrev both_drop : List Event
both_drop = by_seat 3 (Open 0 ∷ []) ++ by_seat 1 (Drop first_cat ∷ []) ++ by_seat 2 (Drop first_cat ∷ [])

abbrev cleans : List Event
cleans = by_seat 1 (ResizeTaken ∷ Lock 1 0 ∷ Unlink 0 ∷ Unlock 1 0 ∷ Lock 1 1 ∷ Unlock 1 1 ∷ Grace ∷ [])

abbrev now_at_10 : Now
now_at_10 = now_after now_at_7 both_drop

abbrev now_at_17 : Now
now_at_17 = now_after now_at_10 cleans

abbrev reader_leaves : List Event
reader_leaves = by_seat 2 (Open 2 ∷ []) ++ by_seat 3 (Close ∷ [])

abbrev now_at_19 : Now
now_at_19 = now_after now_at_17 reader_leaves

-- a section and the resizing
abbrev section : ℕ → ℕ → OpenSection
section place counter = record { place = place; counter = counter }

abbrev cleaning : Resizing
cleaning = record { seat = 1; place = 10; level = 1; replacing = false }

-- the worked log piece by piece
before_is_allowed : IsAllowedFrom worked_table (opening 1) before_the_reader
before_is_allowed =
    ((refl, omega arith), (refl, (((entry_at_0, none_live first_cat), refl), ((section 0 0, refl), ((refl, omega arith), ((refl, has_at_3), ((section 4 0, refl), tt)))))))

drops_are_allowed : IsAllowedFrom worked_table now_at_7 both_drop
drops_are_allowed = ((refl, omega arith), ((refl, (cat, has_at_6)), ((refl, (cat, has_at_9)), tt)))

cleaning_is_allowed : IsAllowedFrom worked_table now_at_10 cleans
cleaning_is_allowed = (refl, (refl, (first_is_gone, (refl, (refl, (refl, (tt, tt)))))))

leaving_is_allowed : IsAllowedFrom worked_table now_at_17 reader_leaves
leaving_is_allowed = ((refl, omega arith), ((section 7 0, refl), tt))

rest_is_allowed : IsAllowedFrom worked_table now_at_19 after_the_reader
rest_is_allowed = (
  (refl, (λ seat o is. opened_later (nat_eq seat 3) (nat_eq seat 2) (nat_eq seat 1) o (section 0 0) (section 4 0) (section 7 0) (section 17 2) refl is)),
  (
    ((cleaning, refl, refl), (λ s place is. none_out (nat_eq s 0) (Unlinked 1 12) (Linked cat first_cat 2) (Claimed 1) place is)),
    (refl, (((entry_at_10, second_is_not_there), refl), ((section 17 2, refl), tt))),
  ),
)

reading_is_allowed : IsAllowedFrom worked_table now_at_7 while_it_reads
reading_is_allowed =
    IsAllowedFrom-append worked_table now_at_7 both_drop (cleans ++ reader_leaves) drops_are_allowed
    (IsAllowedFrom-append worked_table now_at_10 cleans reader_leaves cleaning_is_allowed leaving_is_allowed)

worked_is_allowed : IsAllowedFrom worked_table (opening 1) worked_log
worked_is_allowed =
    IsAllowedFrom-append worked_table (opening 1) before_the_reader (while_it_reads ++ after_the_reader) before_is_allowed
    (IsAllowedFrom-append worked_table now_at_7 while_it_reads after_the_reader reading_is_allowed rest_is_allowed)

-- an event that creates nothing keeps a log fresh
no_create : (e : Event) (log : List Event) → is_create e.what ≡ false → IsFresh log → IsFresh (e ∷ log)
no_create e log other fresh = ((λ h here. absurd (not_created e.what h other here)), fresh)
  where
    not_created : (what : What) (h : Handle) → is_create what ≡ false → creates what h ≡ true → ⊥
    not_created (Create t k) h other here = cc
    not_created _ h other here = cc

pub all_fresh : (log rest : List Event) → list_any (λ (e : Event). is_create e.what) log ≡ false → IsFresh rest → IsFresh (log ++ rest)
all_fresh [] rest none fresh = fresh
all_fresh (e ∷ log) rest none fresh = let parts = neither (is_create e.what) _ none in no_create e (log ++ rest) parts.0 (all_fresh log rest parts.1 fresh)

other_handle : (h : Handle) → handle_eq first_cat h ≡ true → handle_eq second_cat h ≡ false
other_handle h is = ap (handle_eq second_cat) (sym ((handle_eq-Decides first_cat h).0 is))

-- what stands between the two Creates, and what begins with the second one
abbrev between : List Event
between =
    by_seat 1 (Close ∷ []) ++ by_seat 2 (Open 0 ∷ Take cat first_cat ∷ Close ∷ []) ++ while_it_reads
    ++ by_seat 1 (Free 0 ∷ ResizeGiven ∷ []) ++ by_seat 2 (Claim 0 ∷ [])

abbrev created_again : List Event
created_again = by_seat 2 (Create cat second_cat ∷ Close ∷ [])

again_is_fresh : IsFresh created_again
again_is_fresh = ((λ h here. refl), ((λ h here. absurd (cc)), tt))

created_is_fresh : IsFresh (record { seat = 1; what = Create cat first_cat } ∷ between ++ created_again)
created_is_fresh = ((λ h here. ap (λ b. b || false) (other_handle h here)), all_fresh between created_again refl again_is_fresh)

worked_is_fresh : IsFresh worked_log
worked_is_fresh = all_fresh (by_seat 1 (Open 0 ∷ Claim 0 ∷ [])) (record { seat = 1; what = Create cat first_cat } ∷ between ++ created_again) refl created_is_fresh

pub worked_is_lawful : IsLawful worked_table worked_log
worked_is_lawful = record { allowed = worked_is_allowed; fresh = worked_is_fresh }

pub cat_is_missing : IsMissing before_the_reader (before_the_reader ++ while_it_reads) cat
cat_is_missing = (before_the_reader ++ both_drop, ((both_drop, refl), (cleans ++ reader_leaves, refl)), entry_at_10)

pub cat_is_live_again : HasHandle (map_of worked_log) cat second_cat
cat_is_live_again = (record { handle = second_cat; count = 1 }, entry_of-next map_at_10 (Create cat second_cat) cat, refl)
