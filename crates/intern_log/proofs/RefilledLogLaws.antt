-- The slot of the refilled log is linked as its second entry alone.
use Rattle.std.proofs.Common.{◌≡◌, ℕ, false, List, [], ◌∷◌, refl, sym, ap, subst}
use Rattle.intern_log.specs.declared.event.Handle.{Handle}
use Rattle.intern_log.specs.declared.event.Event.{Event}
use Rattle.intern_log.specs.declared.event.What.TheVariants.{Create, Drop, Claim}
use Rattle.intern_log.specs.TextMap.{IsLive}
use Rattle.intern_log.specs.Log.{map_of}
use Rattle.intern_log.specs.Sections.{some_fills, with_event, IsLinkedAs, IsLinkedAt, IsCareful}
use Rattle.intern_log.specs.Window.{by_seat}
use Rattle.intern_log.specs.WorkedLog.{cat, first_cat, second_cat}
use Rattle.intern_log.specs.RefilledLog.{dog, before_the_unlink, refilled_log}
use Rattle.intern_log.proofs.Entries.{entry_of-next}

pub second_is_linked : IsLinkedAt before_the_unlink 0 dog second_cat 3
second_is_linked = (by_seat 1 (Claim 0 ∷ Create cat first_cat ∷ Drop first_cat ∷ []), [], 1, refl, refl, refl, refl, refl)

created_handle : (text other : List ℕ) (h k : Handle) → Create text h ≡ Create other k → k ≡ h
created_handle text other h k is = cc

-- a Create of the log with no later one is the second
last_created : (front back : List Event) (seat : ℕ) (text : List ℕ) (h : Handle) → before_the_unlink ≡ with_event front seat (Create text h) back → some_fills 0 back ≡ false → h ≡ second_cat
last_created [] back seat text h is none = absurd (cc)
last_created (a ∷ []) back seat text h is none = absurd (cc)
last_created (a ∷ b ∷ []) back seat text h is none = absurd (cc)
last_created (a ∷ b ∷ c ∷ []) back seat text h is none =
    let last : record { seat = 1; what = Create dog second_cat } ≡ record { seat = seat; what = Create text h } = cc in
    created_handle dog text second_cat h (ap (λ (e : Event). e.what) last)
last_created (a ∷ b ∷ c ∷ d ∷ []) back seat text h is none = absurd (cc)
last_created (a ∷ b ∷ c ∷ d ∷ e ∷ front) back seat text h is none = absurd (cc)

linked_as_second : (text : List ℕ) (h : Handle) → IsLinkedAs before_the_unlink 0 text h → h ≡ second_cat
linked_as_second text h (place, (front, back, seat, is, placed, at, none, kept)) = last_created front back seat text h is none

pub first_is_not_linked : ¬ (IsLinkedAs before_the_unlink 0 cat first_cat)
first_is_not_linked linked = let same = linked_as_second cat first_cat linked in let generation = ap (λ (h : Handle). h.generation) same in absurd (cc)

second_is_live : IsLive (map_of before_the_unlink) second_cat
second_is_live = (dog, (record { handle = second_cat; count = 1 }, entry_of-next _ (Create dog second_cat) dog, refl))

pub refilled_is_not_careful : ¬ (IsCareful refilled_log)
refilled_is_not_careful careful =
    let unlinked = careful before_the_unlink [] 1 0 refl in
    unlinked.3 (subst (IsLive (map_of before_the_unlink)) (sym (linked_as_second unlinked.0 unlinked.1 unlinked.2)) second_is_live)
