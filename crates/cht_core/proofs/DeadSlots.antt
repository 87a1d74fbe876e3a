-- A linked slot whose entry is dead stays so until it is unlinked. So where no such slot is left of those of a place, each was unlinked.
use Rattle.std.proofs.Common.{◌≡◌, ◌⊎◌, ℕ, ◌≤◌, inl, inr, List, [], ◌∷◌, ◌++◌, length, sym, ap, subst, ◌∙◌, append_assoc, arith}
use Rattle.std.proofs.lemmas.Bool.{cases_eq}
use Rattle.intern_log.specs.declared.event.Event.{Event}
use Rattle.intern_log.specs.declared.event.Handle.{Handle}
use Rattle.intern_log.specs.declared.event.What.{What}
use Rattle.intern_log.specs.declared.event.What.TheVariants as what
use Rattle.intern_log.specs.Lawful.{MayFree}
use Rattle.intern_log.specs.Log.{map_of, next}
use Rattle.intern_log.specs.Now.{Now, Claimed, Vacant, Linked, Unlinked, opening, changed_by, now_after, now_of}
use Rattle.intern_log.specs.TextMap.{IsLive}
use Rattle.intern_log.proofs.Handles.{origin_in_map}
use Rattle.intern_log.proofs.LawfulLaws.{now_after-append, texts-now_after}
use Rattle.intern_log.proofs.OneMore.{now_of-one_more}
use Rattle.cht_core.specs.declared.table.Table.{Table}
use Rattle.cht_core.specs.Passes.{WereLiveSince, DeadAreUnlinked, IsUnlinkedIn}
use Rattle.cht_core.specs.Past.{Past, past_after, past_of, kind_of, by, MayAdd}
use Rattle.cht_core.specs.Windows.{IsTold, IsToldFrom}
use Rattle.cht_core.proofs.Basics.{with_other}
use Rattle.cht_core.proofs.CauseCounts.{told_back, told_front}
use Rattle.cht_core.proofs.EnteredCounts.{by_last, linked_before}
use Rattle.cht_core.proofs.Windows.{cut_behind}

-- the handle of a linked slot is one of that slot
linked_own : (min_level : ℕ) (log : List Event) (s : ℕ) (text : List ℕ) (h : Handle) (born : ℕ) → (now_of min_level log).slot s ≡ Linked text h born → h.slot ≡ s
linked_own min_level = by_last (λ log. (s : ℕ) (text : List ℕ) (h : Handle) (born : ℕ) → (now_of min_level log).slot s ≡ Linked text h born → h.slot ≡ s) (λ s text h born is. absurd (cc)) (λ log e own s text h born is.
    elim (linked_before (now_of min_level log) e.seat e.what s text h born (sym (ap (λ (n : Now). n.slot s) (now_of-one_more min_level log e)) ∙ is)) [
      | inl was ↦ own s text h born was
      | inr made ↦ made.1
    ])

-- AN EVENT

-- a linked slot stays so by an event that may be added, unless it is unlinked
linked_next : (t : Table) (p : Past) (i : ℕ) (w : What) (s : ℕ) (text : List ℕ) (h : Handle) (born : ℕ) → MayAdd (kind_of t) p i w → p.now.slot s ≡ Linked text h born
    → (w ≡ what.Unlink s) ⊎ ((changed_by p.now i w).slot s ≡ Linked text h born)
linked_next t p i (what.Create u k) s text h born may is = elim (cases_eq s k.slot) [
  | inl same ↦ absurd (let both : Linked text h born ≡ Claimed i = sym is ∙ ap p.now.slot same ∙ may.0.1 in cc)
  | inr differ ↦ inr (with_other p.now.slot k.slot (Linked u k p.now.place) s differ ∙ is)
]
linked_next t p i (what.Claim x) s text h born may is = elim (cases_eq s x) [
  | inl same ↦ absurd (let both : Linked text h born ≡ Vacant = sym is ∙ ap p.now.slot same ∙ may in cc)
  | inr differ ↦ inr (with_other p.now.slot x (Claimed i) s differ ∙ is)
]
linked_next t p i (what.Free x) s text h born may is = elim (cases_eq s x) [
  | inl same ↦ absurd (subst (MayFree p.now i) (ap p.now.slot (sym same) ∙ is) may)
  | inr differ ↦ inr (with_other p.now.slot x Vacant s differ ∙ is)
]
linked_next t p i (what.Unlink x) s text h born may is = elim (cases_eq s x) [
  | inl same ↦ inl (ap what.Unlink (sym same))
  | inr differ ↦ inr (with_other p.now.slot x (Unlinked i p.now.place) s differ ∙ is)
]
linked_next t p i _ s text h born may is = inr is

-- and its entry stays dead
dead_next : (t : Table) (p : Past) (i : ℕ) (w : What) (s : ℕ) (text : List ℕ) (h : Handle) (born : ℕ) → MayAdd (kind_of t) p i w → p.now.slot s ≡ Linked text h born → h.slot ≡ s → ¬ (IsLive p.now.texts h)
    → ¬ (IsLive (next p.now.texts w) h)
dead_next t p i w s text h born may is own dead live = elim (origin_in_map p.now.texts w live.0 h live.1) [
  | inl was ↦ dead (live.0, was)
  | inr made ↦
      let created : MayAdd (kind_of t) p i (what.Create live.0 h) = subst (MayAdd (kind_of t) p i) made may in
      let both : Linked text h born ≡ Claimed i = sym is ∙ ap p.now.slot (sym own) ∙ created.0.1 in
      absurd (cc)
]

-- A PIECE OF A LOG

-- it is unlinked, or is as it was
abbrev IsGoneOr : Now → List Event → ℕ → List ℕ → Handle → ℕ → Type 0
IsGoneOr n events s text h born = IsUnlinkedIn s events ⊎ (((now_after n events).slot s ≡ Linked text h born) × ¬ (IsLive (now_after n events).texts h))

dead_goes : (t : Table) (p : Past) (events : List Event) (s : ℕ) (text : List ℕ) (h : Handle) (born : ℕ) → IsToldFrom (kind_of t) p events → p.now.slot s ≡ Linked text h born → h.slot ≡ s → ¬ (IsLive p.now.texts h)
    → IsGoneOr p.now events s text h born
dead_goes t p [] s text h born told is own dead = inr (is, dead)
dead_goes t p (e ∷ events) s text h born told is own dead = elim (linked_next t p e.seat e.what s text h born told.0 is) [
  | inl cut ↦ inl ([], events, e.seat, ap (λ (w : What). by e.seat w ∷ events) cut)
  | inr still ↦ elim (dead_goes t (past_after p e) events s text h born told.1 still own (dead_next t p e.seat e.what s text h born told.0 is own dead)) [
    | inl gone ↦ inl (e ∷ gone.0, gone.1, gone.2, ap (λ (l : List Event). e ∷ l) gone.3)
    | inr as_it_was ↦ inr as_it_was
  ]
]

-- WHAT IS LEFT

module _ (t : Table) (log : List Event) (at : ℕ) (Which : ℕ → List ℕ → Type 0) (told : IsTold t log) (were : WereLiveSince (now_of t.shape.min_level log) log at Which) where
  module _ (front back : List Event) (split : log ≡ front ++ back) (early : length front ≤ at) (s : ℕ) (text : List ℕ) (h : Handle) (born : ℕ) (is : (now_of t.shape.min_level front).slot s ≡ Linked text h born)
      (dead : ¬ (IsLive (map_of front) h)) (which : Which s text) where
    -- what was told behind the place
    behind : (q : Past) × (q.now ≡ now_of t.shape.min_level front) × IsToldFrom (kind_of t) q back
    behind = told_back (kind_of t) (past_of t.shape.min_level []) front back (subst (IsTold t) split told)

    is_then : behind.0.now.slot s ≡ Linked text h born
    is_then = ap (λ (n : Now). n.slot s) behind.1 ∙ is

    dead_then : ¬ (IsLive behind.0.now.texts h)
    dead_then = subst (λ texts. ¬ (IsLive texts h)) (sym (ap (λ (n : Now). n.texts) behind.1 ∙ texts-now_after (opening t.shape.min_level) front)) dead

    goes : (events : List Event) → IsToldFrom (kind_of t) behind.0 events → IsGoneOr (now_of t.shape.min_level front) events s text h born
    goes events so = subst (λ (n : Now). IsGoneOr n events s text h born) behind.1
        (dead_goes t behind.0 events s text h born so is_then (linked_own t.shape.min_level front s text h born is) dead_then)

    -- a slot that is linked still was live later, and so it was unlinked
    live_again : (now_of t.shape.min_level log).slot s ≡ Linked text h born → IsUnlinkedIn s back
    live_again still =
        let live = were s text h born still which in
        let since : at ≤ length live.0 = live.3 in
        let cut = cut_behind front back live.0 live.1 (sym split ∙ live.2) (omega (arith, early, since)) in
        elim (goes cut.0 (told_front (kind_of t) behind.0 cut.0 live.1 (subst (IsToldFrom (kind_of t) behind.0) cut.2 behind.2))) [
          | inl gone ↦ (
            gone.0,
            gone.1 ++ live.1,
            gone.2,
            cut.2 ∙ ap (λ (l : List Event). l ++ live.1) gone.3 ∙ append_assoc gone.0 (by gone.2 (what.Unlink s) ∷ gone.1) live.1,
          )
          | inr dead_still ↦ absurd (dead_still.1 (subst (λ texts. IsLive texts h)
              (ap map_of cut.1 ∙ sym (texts-now_after (opening t.shape.min_level) (front ++ cut.0)) ∙ ap (λ (n : Now). n.texts) (now_after-append (opening t.shape.min_level) front cut.0)) live.4))
        ]

    is_unlinked : IsUnlinkedIn s back
    is_unlinked = elim (goes back behind.2) [
      | inl gone ↦ gone
      | inr still ↦ live_again (ap (λ (l : List Event). (now_of t.shape.min_level l).slot s) split ∙ ap (λ (n : Now). n.slot s) (now_after-append (opening t.shape.min_level) front back) ∙ still.0)
    ]

  -- each slot that was linked and dead was unlinked
  pub dead_unlinked : DeadAreUnlinked t.shape.min_level log at Which
  dead_unlinked front back split early s text h born is dead which = is_unlinked front back split early s text h born is dead which
