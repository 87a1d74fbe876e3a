-- While a seat has the resize lock it unlinks at most the slots of a bucket that were in it, but where a Create comes to the bucket.
use Rattle.std.proofs.Common.{◌≡◌, ℕ, zero, suc, ◌+◌, ◌<◌, ◌≤◌, ◌⊎◌, ◌==◌, ◌&&◌, Bool, true, false, cond, List, [], ◌∷◌, ◌++◌, Option, Some, None, refl, sym, ap, subst, ◌∙◌}
use Rattle.std.proofs.Common.{inl, inr, arith}
use Rattle.std.specs.Prelude.{nat_eq, nat_lt}
use Rattle.std.specs.List.{filter}
use Rattle.std.specs.Option.{option_map}
use Rattle.std.proofs.lemmas.Bool.{cases_eq, eq-eqb, ne_eqb, ltb-true}
use Rattle.intern_log.specs.declared.event.Event.{Event}
use Rattle.intern_log.specs.declared.event.What.{What}
use Rattle.intern_log.specs.declared.event.What.TheVariants as what
use Rattle.intern_log.specs.Buckets.{bucket_of}
use Rattle.intern_log.specs.CauseEvents.{IsCreateOn}
use Rattle.intern_log.specs.Now.{Now, Phase, Vacant, Claimed, Linked, Unlinked, Resizing, owner_of, resizing_after_lock, now_after_event, now_after, opening}
use Rattle.intern_log.specs.Own.{is_visible}
use Rattle.intern_log.proofs.LawfulLaws.{now_after-append}
use Rattle.call_machine.specs.CallClaims.{one_if}
use Rattle.cht_core.specs.declared.table.Table.{Table}
use Rattle.cht_core.specs.Causes.{now_in, IsUnseen, IsCreateAt, KeepsResizeLock, own_unlinks}
use Rattle.cht_core.specs.Ledger.{sum_below}
use Rattle.cht_core.specs.Past.{Past, by, past_after, past_of, kind_of, MayAdd}
use Rattle.cht_core.specs.Unlinks.{is_in_bucket, is_unlink_on, unlinks_by, is_given}
use Rattle.cht_core.specs.Windows.{Another, whats_by, IsTold, IsToldFrom}
use Rattle.cht_core.proofs.CauseCounts.{told_back}
use Rattle.cht_core.proofs.Ledgers.{sum_changed}
use Rattle.cht_core.proofs.Windows.{not_own}

-- SUMS

sum_less : (bound : ℕ) (value other : ℕ → ℕ) → ((k : ℕ) → other k ≤ value k) → sum_below bound other ≤ sum_below bound value
sum_less zero value other less = omega arith
sum_less (suc k) value other less =
    let rest : sum_below k other ≤ sum_below k value = sum_less k value other less in
    let last : other k ≤ value k = less k in
    omega (arith, rest, last)

one_at_most : (b : Bool) → one_if b ≤ 1
one_at_most true = omega arith
one_at_most false = omega arith

sum_of_ones : (bound : ℕ) (test : ℕ → Bool) → sum_below bound (λ k. one_if (test k)) ≤ bound
sum_of_ones zero test = omega arith
sum_of_ones (suc k) test =
    let rest : sum_below k (λ k. one_if (test k)) ≤ k = sum_of_ones k test in
    let last : one_if (test k) ≤ 1 = one_at_most (test k) in
    omega (arith, rest, last)

both_less : (b c : Bool) → one_if (b && c) ≤ one_if c
both_less true c = omega arith
both_less false c = omega arith

-- THE RESIZE LOCK

still_owned : (seat row : ℕ) (o : Option Resizing) → owner_of (option_map (resizing_after_lock seat row) o) ≡ owner_of o
still_owned seat row None = refl
still_owned seat row (Some r) = refl

-- the event is no Rehash
abbrev IsNoRehash : What → Type 0
IsNoRehash (what.Rehash seed) = ⊥
IsNoRehash _ = Unit {0}

nobody : (i : ℕ) (o : Option Resizing) → owner_of o ≡ Some i → o ≡ None → ⊥
nobody i o owner none = let clash : owner_of o ≡ None = ap owner_of none in cc

module _ (t : Table) (i : ℕ) where
  -- it stays with a seat that does not give it back, and so no Rehash comes
  stays_owned : (p : Past) (seat : ℕ) (w : What) → MayAdd (kind_of t) p seat w → owner_of p.now.resizing ≡ Some i → (seat ≡ i → is_given w ≡ false) →
      (owner_of (now_after_event p.now (by seat w)).resizing ≡ Some i) × IsNoRehash w
  stays_owned p seat (what.Lock row bucket) may owner keeps = (still_owned seat row p.now.resizing ∙ owner, tt)
  stays_owned p seat what.ResizeTaken may owner keeps = absurd (nobody i p.now.resizing owner may)
  stays_owned p seat what.ResizeGiven may owner keeps =
      let (r, is, of) = may.0 in
      let mine : Some r.seat ≡ Some i = sym (ap owner_of is) ∙ owner in
      let same : r.seat ≡ i = cc in
      let clash : true ≡ false = keeps (sym of ∙ same) in
      absurd (cc)
  stays_owned p seat (what.Rehash seed) may owner keeps = absurd (nobody i p.now.resizing owner may.3.resizing)
  stays_owned p seat _ may owner keeps = (owner, tt)

  -- what the first event and the rest of a window keep
  keeps_both : (e : Event) (window : List Event) → filter is_given (whats_by i (e ∷ window)) ≡ [] → (e.seat ≡ i → is_given e.what ≡ false) × (filter is_given (whats_by i window) ≡ [])
  keeps_both e window none = go (e.seat == i) (is_given e.what) refl refl none
    where
      go : (b c : Bool) → (e.seat == i) ≡ b → is_given e.what ≡ c → filter is_given (cond b (e.what ∷ whats_by i window) (whats_by i window)) ≡ [] →
          (e.seat ≡ i → is_given e.what ≡ false) × (filter is_given (whats_by i window) ≡ [])
      go false c other is none = (λ own. absurd (let same : (e.seat == i) ≡ true = eq-eqb e.seat i own in cc), none)
      go true c own is none = given c is (ap (λ d. cond d (e.what ∷ filter is_given (whats_by i window)) (filter is_given (whats_by i window))) (sym is) ∙ none)
        where
          given : (c : Bool) → is_given e.what ≡ c → cond c (e.what ∷ filter is_given (whats_by i window)) (filter is_given (whats_by i window)) ≡ [] →
              (e.seat ≡ i → is_given e.what ≡ false) × (filter is_given (whats_by i window) ≡ [])
          given true is none = absurd (cc)
          given false is none = (λ own. is, none)

  -- SLOTS OF A BUCKET

  module _ (row bucket : ℕ) where
    -- how many slots of the table are in the bucket
    abbrev in_chain : Now → ℕ
    in_chain n = sum_below t.shape.slots (λ s. one_if (is_in_bucket n.seed row bucket (n.slot s)))

    -- a slot that comes to a phase outside the bucket
    put_outside : (seed : ℕ) (b : Bool) (new old : Phase) → is_in_bucket seed row bucket new ≡ false →
        one_if (is_in_bucket seed row bucket (cond b new old)) ≤ one_if (is_in_bucket seed row bucket old)
    put_outside seed true new old none = let nothing : one_if (is_in_bucket seed row bucket new) ≡ 0 = ap one_if none in omega (arith, nothing)
    put_outside seed false new old none = omega arith

    outside : (n : Now) (k : ℕ) (new : Phase) → is_in_bucket n.seed row bucket new ≡ false →
        sum_below t.shape.slots (λ s. one_if (is_in_bucket n.seed row bucket (cond (nat_eq s k) new (n.slot s)))) ≤ in_chain n
    outside n k new none =
        sum_less t.shape.slots (λ s. one_if (is_in_bucket n.seed row bucket (n.slot s))) (λ s. one_if (is_in_bucket n.seed row bucket (cond (nat_eq s k) new (n.slot s))))
        (λ s. put_outside n.seed (nat_eq s k) new (n.slot s) none)

    -- an event takes what it unlinks, and only a Create or a Rehash brings more
    abbrev TakesAway : Now → ℕ → What → Type 0
    TakesAway n seat w = in_chain (now_after_event n (by seat w)) + one_if (is_unlink_on t n row bucket w) ≤ in_chain n

    module _ (n : Now) (seat s : ℕ) where
      abbrev before : ℕ → ℕ
      before k = one_if (is_in_bucket n.seed row bucket (n.slot k))

      abbrev behind : ℕ → ℕ
      behind k = one_if (is_in_bucket n.seed row bucket (cond (nat_eq k s) (Unlinked seat n.place) (n.slot k)))

      unlinked : (b c : Bool) → nat_lt s t.shape.slots ≡ b → is_in_bucket n.seed row bucket (n.slot s) ≡ c →
          sum_below t.shape.slots behind + one_if (b && c) ≤ sum_below t.shape.slots before
      unlinked true true inside is =
          let changed : sum_below t.shape.slots behind + before s ≡ sum_below t.shape.slots before + behind s = sum_changed t.shape.slots before behind s
          (ltb-true s t.shape.slots inside) (λ k differ. ap (λ b. one_if (is_in_bucket n.seed row bucket (cond b (Unlinked seat n.place) (n.slot k)))) (ne_eqb k s differ)) in
          let was : before s ≡ 1 = ap one_if is in
          let gone : behind s ≡ 0 = ap (λ b. one_if (is_in_bucket n.seed row bucket (cond b (Unlinked seat n.place) (n.slot s)))) (eq-eqb s s refl) in
          omega (arith, changed, was, gone)
      unlinked true false inside is = let less : sum_below t.shape.slots behind ≤ sum_below t.shape.slots before = outside n s (Unlinked seat n.place) refl in omega (arith, less)
      unlinked false c inside is = let less : sum_below t.shape.slots behind ≤ sum_below t.shape.slots before = outside n s (Unlinked seat n.place) refl in omega (arith, less)

    takes_away : (n : Now) (seat : ℕ) (w : What) → ¬ (IsCreateOn n row bucket w) → IsNoRehash w → TakesAway n seat w
    takes_away n seat (what.Create text h) none seeded =
        let less : in_chain (now_after_event n (by seat (what.Create text h))) ≤ in_chain n =
        outside n h.slot (Linked text h n.place) (ne_eqb (bucket_of n.seed row text) bucket (λ same. none (text, h, refl, same))) in
        omega (arith, less)
    takes_away n seat (what.Claim s) none seeded =
        let less : in_chain (now_after_event n (by seat (what.Claim s))) ≤ in_chain n = outside n s (Claimed seat) refl in omega (arith, less)
    takes_away n seat (what.Free s) none seeded =
        let less : in_chain (now_after_event n (by seat (what.Free s))) ≤ in_chain n = outside n s Vacant refl in omega (arith, less)
    takes_away n seat (what.Unlink s) none seeded = unlinked n seat s (nat_lt s t.shape.slots) (is_in_bucket n.seed row bucket (n.slot s)) refl refl
    takes_away n seat (what.Rehash seed) none seeded = absurd seeded
    takes_away n seat _ none seeded = omega arith

    creates_or_not : (n : Now) (w : What) → IsCreateOn n row bucket w ⊎ (¬ (IsCreateOn n row bucket w))
    creates_or_not n (what.Create text h) = elim (cases_eq (bucket_of n.seed row text) bucket) [
      | inl same ↦ inl (text, h, refl, same)
      | inr differ ↦ inr (λ on. differ (let same : text ≡ on.0 = cc in ap (bucket_of n.seed row) same ∙ on.3))
    ]
    creates_or_not n _ = inr (λ on. let is = on.2 in absurd (cc))

    -- the window holds a Create on the bucket
    abbrev HasCreate : Now → List Event → Type 0
    HasCreate n window = (before rest : List Event) × (e : Event) × (window ≡ before ++ e ∷ rest) × IsCreateOn (now_after n before) row bucket e.what

    few_unlinks : (p : Past) (window : List Event) → IsToldFrom (kind_of t) p window → owner_of p.now.resizing ≡ Some i → filter is_given (whats_by i window) ≡ [] →
        HasCreate p.now window ⊎ (unlinks_by t i row bucket p.now window ≤ in_chain p.now)
    few_unlinks p [] told owner keeps = inr (omega arith)
    few_unlinks p (e ∷ window) told owner keeps =
        let both = keeps_both e window keeps in
        let stays = stays_owned p e.seat e.what told.0 owner both.0 in
        elim (creates_or_not p.now e.what) [
          | inl on ↦ inl ([], window, e, refl, on)
          | inr none ↦ elim (few_unlinks (past_after p e) window told.1 stays.0 both.1) [
            | inl (before, rest, x, split, on) ↦ inl (e ∷ before, rest, x, ap (λ l. e ∷ l) split, on)
            | inr few ↦
                let rest : unlinks_by t i row bucket (now_after_event p.now e) window ≤ in_chain (now_after_event p.now e) = few in
                let takes : in_chain (now_after_event p.now e) + one_if (is_unlink_on t p.now row bucket e.what) ≤ in_chain p.now = takes_away p.now e.seat e.what none stays.1 in
                let own : one_if (e.seat == i && is_unlink_on t p.now row bucket e.what) ≤ one_if (is_unlink_on t p.now row bucket e.what) =
                both_less (e.seat == i) (is_unlink_on t p.now row bucket e.what) in
                inr (omega (arith, rest, takes, own))
          ]
        ]

    -- where the seat unlinked more slots of the bucket than the table has, another seat's Create on the bucket stands in the window
    pub created_beside : (seen window : List Event) → IsTold t (seen ++ window) → KeepsResizeLock t i seen window → IsUnseen i window → t.shape.slots < own_unlinks t i row bucket seen window →
        Another i (IsCreateAt t row bucket) seen window
    created_beside seen window told keeps unseen many =
        let (q, at, rest) = told_back (kind_of t) (past_of t.shape.min_level []) seen window told in
        elim (few_unlinks q window rest (ap (λ (n : Now). owner_of n.resizing) at ∙ keeps.0) keeps.1) [
          | inl (before, back, e, split, on) ↦
              let here : now_after q.now before ≡ now_in t (seen ++ before) =
              ap (λ n. now_after n before) at ∙ sym (now_after-append (opening t.shape.min_level) seen before) in
              (before, back, e, split, not_own i before back e (subst (IsUnseen i) split unseen) (ap is_visible on.2), subst (λ n. IsCreateOn n row bucket e.what) here on)
          | inr few ↦
              let less : own_unlinks t i row bucket seen window ≤ in_chain q.now = subst (λ n. unlinks_by t i row bucket n window ≤ in_chain q.now) at few in
              let all : in_chain q.now ≤ t.shape.slots = sum_of_ones t.shape.slots (λ s. is_in_bucket q.now.seed row bucket (q.now.slot s)) in
              absurd (omega (arith, less, all, many))
        ]
