-- The log with a Rehash is lawful.
use Rattle.std.proofs.Common.{◌≡◌, ℕ, Bool, true, false, cond, ◌||◌, List, [], ◌∷◌, ◌++◌, Some, None, refl, sym, ap, ◌∙◌}
use native.Mathlib.Omega.{arith}
use Rattle.std.specs.Prelude.{nat_eq}
use Rattle.std.specs.FinMap as finite
use Rattle.std.specs.Ordering.{nat_cmp}
use Rattle.std.specs.Cmp.Lexicographic.{slice_cmp}
use Rattle.intern_log.specs.declared.event.Handle.{Handle}
use Rattle.intern_log.specs.declared.event.Event.{Event}
use Rattle.intern_log.specs.declared.event.What.TheVariants.{Create, Take, Claim, Open, Close, Rehash}
use Rattle.intern_log.specs.TextMap.{TextMap, no_texts, entry_of, handle_eq, HasHandle, IsLive}
use Rattle.intern_log.specs.Log.{next, IsFresh}
use Rattle.intern_log.specs.Now.{Vacant, Claimed, Linked, OpenSection, Now, opening, now_of}
use Rattle.intern_log.specs.Lawful.{IsLinkedDead, IsQuiet, IsAllowedFrom, IsLawful}
use Rattle.intern_log.specs.RehashedLog.{rehashed_table, aa, bb, handle_of_aa, handle_of_bb, before_the_rehash, rehashed_log}
use Rattle.intern_log.specs.Window.{by_seat}
use Rattle.intern_log.proofs.LawfulLaws.{IsAllowedFrom-append}
use Rattle.intern_log.proofs.Entries.{entry_of-next}
use Rattle.intern_log.proofs.Handles.{no_text_has, handle_eq-Decides}
use Rattle.intern_log.proofs.Gone.{gone-next}
use Rattle.intern_log.proofs.WorkedLogLaws.{all_fresh}

-- the map after the first Create, and after the second
abbrev map_at_3 : TextMap
map_at_3 = next no_texts (Create aa handle_of_aa)

abbrev map_at_5 : TextMap
map_at_5 = next map_at_3 (Create bb handle_of_bb)

none_at_2 : entry_of no_texts aa ≡ None
none_at_2 = finite.get-empty (slice_cmp nat_cmp) aa

none_at_4 : entry_of map_at_3 bb ≡ None
none_at_4 = entry_of-next no_texts (Create aa handle_of_aa) bb ∙ finite.get-empty (slice_cmp nat_cmp) bb

none_live : (h : Handle) → ¬ (IsLive no_texts h)
none_live h live = no_text_has live.0 h live.1

bb_is_not_there : ¬ (IsLive map_at_3 handle_of_bb)
bb_is_not_there = gone-next no_texts (Create aa handle_of_aa) handle_of_bb refl (none_live handle_of_bb)

aa_at_5 : HasHandle map_at_5 aa handle_of_aa
aa_at_5 = (
  record { handle = handle_of_aa; count = 1 },
  entry_of-next map_at_3 (Create bb handle_of_bb) aa ∙ entry_of-next no_texts (Create aa handle_of_aa) aa,
  refl,
)

bb_at_5 : HasHandle map_at_5 bb handle_of_bb
bb_at_5 = (record { handle = handle_of_bb; count = 1 }, entry_of-next map_at_3 (Create bb handle_of_bb) bb, refl)

-- at place 6 no section is open, and both slots are live
closed_again : (one : Bool) (o : OpenSection) → cond one None (cond one (Some o) None) ≡ None
closed_again true o = refl
closed_again false o = refl

both_live : (now : Now) (one zero : Bool) → IsLive now.texts handle_of_bb → IsLive now.texts handle_of_aa →
    ¬ (IsLinkedDead now (cond one (Linked bb handle_of_bb 4) (cond one (Claimed 1) (cond zero (Linked aa handle_of_aa 2) (cond zero (Claimed 1) Vacant)))))
both_live now true zero second first dead = dead second
both_live now false true second first dead = dead first
both_live now false false second first dead = absurd dead

-- a section
abbrev section : ℕ → OpenSection
section place = record { place = place; counter = 0 }

abbrev now_at_6 : Now
now_at_6 = now_of 3 before_the_rehash

abbrev now_at_7 : Now
now_at_7 = now_of 3 (before_the_rehash ++ by_seat 0 (Rehash 1 ∷ []))

quiet_at_6 : IsQuiet now_at_6
quiet_at_6 = record {
  sections = λ seat. closed_again (nat_eq seat 1) (section 0);
  locks = λ row bucket. refl;
  resizing = refl;
  dead = λ s. both_live now_at_6 (nat_eq s 1) (nat_eq s 0) (bb, bb_at_5) (aa, aa_at_5);
}

before_is_allowed : IsAllowedFrom rehashed_table (opening 3) before_the_rehash
before_is_allowed =
    ((refl, omega arith), (refl, (((none_at_2, none_live handle_of_aa), refl), (refl, (((none_at_4, bb_is_not_there), refl), ((section 0, refl), tt))))))

rehash_is_allowed : IsAllowedFrom rehashed_table now_at_6 (by_seat 0 (Rehash 1 ∷ []))
rehash_is_allowed = ((refl, refl, omega arith, quiet_at_6), tt)

after_is_allowed : IsAllowedFrom rehashed_table now_at_7 (by_seat 1 (Open 0 ∷ Take aa handle_of_aa ∷ Close ∷ []))
after_is_allowed = ((refl, omega arith), ((refl, aa_at_5), ((section 7, refl), tt)))

rehashed_is_allowed : IsAllowedFrom rehashed_table (opening 3) rehashed_log
rehashed_is_allowed =
    IsAllowedFrom-append rehashed_table (opening 3) before_the_rehash (by_seat 0 (Rehash 1 ∷ []) ++ by_seat 1 (Open 0 ∷ Take aa handle_of_aa ∷ Close ∷ [])) before_is_allowed
    (IsAllowedFrom-append rehashed_table now_at_6 (by_seat 0 (Rehash 1 ∷ [])) (by_seat 1 (Open 0 ∷ Take aa handle_of_aa ∷ Close ∷ [])) rehash_is_allowed after_is_allowed)

other_handle : (h : Handle) → handle_eq handle_of_aa h ≡ true → handle_eq handle_of_bb h ≡ false
other_handle h is = ap (handle_eq handle_of_bb) (sym ((handle_eq-Decides handle_of_aa h).0 is))

-- the log from the second Create on, and from the first on
abbrev after_bb : List Event
after_bb = by_seat 1 (Close ∷ []) ++ by_seat 0 (Rehash 1 ∷ []) ++ by_seat 1 (Open 0 ∷ Take aa handle_of_aa ∷ Close ∷ [])

abbrev from_bb : List Event
from_bb = by_seat 1 (Create bb handle_of_bb ∷ []) ++ after_bb

abbrev from_aa : List Event
from_aa = by_seat 1 (Create aa handle_of_aa ∷ Claim 1 ∷ []) ++ from_bb

fresh_from_bb : IsFresh from_bb
fresh_from_bb = ((λ h here. refl), all_fresh after_bb [] refl tt)

fresh_from_aa : IsFresh from_aa
fresh_from_aa = ((λ h here. ap (λ b. b || false) (other_handle h here)), all_fresh (by_seat 1 (Claim 1 ∷ [])) from_bb refl fresh_from_bb)

pub rehashed_is_lawful : IsLawful rehashed_table rehashed_log
rehashed_is_lawful = record { allowed = rehashed_is_allowed; fresh = all_fresh (by_seat 1 (Open 0 ∷ Claim 0 ∷ [])) from_aa refl fresh_from_aa }
