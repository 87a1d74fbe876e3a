-- How many slots are linked with a text of a bucket, and that a call that is alone changes nothing of it before it makes an entry.
use Rattle.std.proofs.Common.{◌≡◌, ◌≢◌, ℕ, zero, suc, ◌<◌, ◌==◌, Bool, true, false, cond, List, [], ◌∷◌, ◌++◌, map, length, inl, inr, refl, sym, ap, subst, ◌∙◌, arith}
use Rattle.std.specs.List.{filter}
use Rattle.std.proofs.lemmas.Bool.{cases_eq, eq-eqb, eqb-true, ne_eqb}
use Rattle.std.proofs.lemmas.List.{append-nil}
use Rattle.chain_core.specs.Nodes.{On, Once}
use Rattle.chain_core.specs.Path.{without}
use Rattle.chain_core.proofs.Members.{on_or_not}
use Rattle.intern_log.specs.declared.event.Event.{Event}
use Rattle.intern_log.specs.declared.event.TableKind.{TableKind}
use Rattle.intern_log.specs.declared.event.What.{What}
use Rattle.intern_log.specs.declared.event.What.TheVariants as what
use Rattle.intern_log.specs.Buckets.{bucket_of}
use Rattle.intern_log.specs.Lawful.{MayFree}
use Rattle.intern_log.specs.Now.{Now, Phase, Vacant, Claimed, Linked, Unlinked, with_at, now_after_event, now_after}
use Rattle.intern_log.specs.Own.{is_visible}
use Rattle.intern_log.proofs.LawfulLaws.{now_after-append}
use Rattle.call_machine.specs.CallEvents.{IsOfCall}
use Rattle.cht_core.specs.declared.table.Table.{Table}
use Rattle.cht_core.specs.CauseCalls.{IsNoRehash, AreOfCall}
use Rattle.cht_core.specs.Ledger.{sum_below}
use Rattle.cht_core.specs.Past.{Past, past_after, past_of, kind_of, by, MayAdd}
use Rattle.cht_core.specs.Shows.{IsOfBucket}
use Rattle.cht_core.specs.Windows.{IsToldFrom, IsTold, whats_by}
use Rattle.cht_core.proofs.Basics.{with_here, with_other}
use Rattle.cht_core.proofs.CauseCounts.{told_back}
use Rattle.cht_core.proofs.EnteredCounts.{one_shorter}
use Rattle.cht_core.proofs.Ledgers.{sum_same}
use Rattle.cht_core.proofs.Withouts.{on_within, on_without, once_without}
use Rattle.cht_run.specs.declared.seat.Seat.{Seat}
use Rattle.cht_run.specs.declared.sight.Entry.{Entry}
use Rattle.cht_run.specs.ChainLengths.{one_linked, linked_beside, chain_length}
use Rattle.cht_run.specs.Ended.{Ended}
use Rattle.cht_run.specs.Ends.{IsAlone}
use Rattle.cht_run.specs.History.{log_of, told_by}
use Rattle.cht_run.specs.Seats.{history, seen}
use Rattle.cht_run.proofs.Histories.{log-append}
use Rattle.cht_run.proofs.Holding.{log_told}

-- A LIST OF SLOTS, EACH ONCE

-- where exactly the slots of the list count 1 and all others 0, the sum is its length
pub sum_is_length : (bound : ℕ) (value : ℕ → ℕ) (nodes : List ℕ) → Once nodes → ((s : ℕ) → On s nodes → (s < bound) × (value s ≡ 1)) → ((s : ℕ) → (On s nodes → ⊥) → value s ≡ 0) →
    sum_below bound value ≡ length nodes
sum_is_length zero value [] once here none = refl
sum_is_length zero value (x ∷ nodes) once here none = absurd (let low : x < 0 = (here x (inl refl)).0 in omega (arith, low))
sum_is_length (suc k) value nodes once here none = elim (on_or_not nodes k) [
  | inl on ↦ (
      let rest : sum_below k (λ s. cond (s == k) 0 (value s)) ≡ length (without k nodes) = sum_is_length k (λ s. cond (s == k) 0 (value s)) (without k nodes) (once_without k nodes once) inside outside in
      let same : sum_below k value ≡ sum_below k (λ s. cond (s == k) 0 (value s)) = sum_same k (λ s. cond (s == k) 0 (value s)) value (λ s low. sym (other s (λ is. absurd (omega (arith, low, is))))) in
      let one : value k ≡ 1 = (here k on).1 in
      let short = one_shorter k nodes once on in
      omega (arith, rest, same, one, short))
  | inr off ↦ (
      let rest : sum_below k value ≡ length nodes = sum_is_length k value nodes once (λ s on. let at = here s on in (below s at.0 (λ is. off (subst (λ n. On n nodes) is on)), at.1)) none in
      let nothing : value k ≡ 0 = none k off in
      omega (arith, rest, nothing))
]
  where
    below : (s : ℕ) → s < suc k → s ≢ k → s < k
    below s low differ = omega (arith, low, differ)

    other : (s : ℕ) → s ≢ k → cond (s == k) 0 (value s) ≡ value s
    other s differ = elim (cases_eq s k) [ inl is ↦ absurd (differ is) | inr apart ↦ ap (λ b. cond b 0 (value s)) (ne_eqb s k apart) ]

    inside : (s : ℕ) → On s (without k nodes) → (s < k) × (cond (s == k) 0 (value s) ≡ 1)
    inside s on = let was = on_within k s nodes on in let at = here s was.0 in (below s at.0 was.1, other s was.1 ∙ at.1)

    outside : (s : ℕ) → (On s (without k nodes) → ⊥) → cond (s == k) 0 (value s) ≡ 0
    outside s off = elim (cases_eq s k) [
      | inl is ↦ ap (λ b. cond b 0 (value s)) (eq-eqb s k is)
      | inr differ ↦ other s differ ∙ none s (λ on. off (on_without k s nodes on differ))
    ]

-- SLOTS OF A BUCKET

one_where : (n : Now) (bucket s : ℕ) → IsOfBucket n bucket s → one_linked n.seed n.level bucket (n.slot s) ≡ 1
one_where n bucket s (text, h, born, is, home) =
    ap (one_linked n.seed n.level bucket) is ∙ ap (λ b. cond b 1 0) (eq-eqb (bucket_of n.seed n.level text) bucket home)

none_where : (n : Now) (bucket s : ℕ) → (IsOfBucket n bucket s → ⊥) → one_linked n.seed n.level bucket (n.slot s) ≡ 0
none_where n bucket s off = go (n.slot s) refl
  where
    linked : (text : List ℕ) (h : _) (born : ℕ) → n.slot s ≡ Linked text h born → (b : Bool) → (bucket_of n.seed n.level text == bucket) ≡ b → ◌≡◌ {A = ℕ} (cond b 1 0) 0
    linked text h born is true same = absurd (off (text, h, born, is, eqb-true (bucket_of n.seed n.level text) bucket same))
    linked text h born is false other = refl

    go : (phase : Phase) → n.slot s ≡ phase → one_linked n.seed n.level bucket phase ≡ 0
    go Vacant is = refl
    go (Claimed i) is = refl
    go (Linked text h born) is = linked text h born is (bucket_of n.seed n.level text == bucket) refl
    go (Unlinked i at) is = refl

-- a list of exactly the linked slots of the bucket of a text, each once, is as long as its chain
pub chain_counts : (slots : ℕ) (n : Now) (text : List ℕ) (nodes : List ℕ) → Once nodes → ((s : ℕ) → On s nodes → (s < slots) × IsOfBucket n (bucket_of n.seed n.level text) s) →
    ((s : ℕ) → IsOfBucket n (bucket_of n.seed n.level text) s → On s nodes) → linked_beside slots n text ≡ length nodes
chain_counts slots n text nodes once here all =
    sum_is_length slots (λ s. one_linked n.seed n.level (bucket_of n.seed n.level text) (n.slot s)) nodes once
    (λ s on. let at = here s on in (at.0, one_where n (bucket_of n.seed n.level text) s at.1))
    (λ s off. none_where n (bucket_of n.seed n.level text) s (λ of. off (all s of)))

-- EVENTS OF A CALL

-- a slot that was in no chain comes to be none of one
slot_stays : (slots : ℕ) (n : Now) (text : List ℕ) (x : ℕ) (new : Phase) → ((bucket : ℕ) → one_linked n.seed n.level bucket (n.slot x) ≡ 0) → ((bucket : ℕ) → one_linked n.seed n.level bucket new ≡ 0) →
    linked_beside slots (record n { slot = with_at n.slot x new }) text ≡ linked_beside slots n text
slot_stays slots n text x new was is =
    let b = bucket_of n.seed n.level text in
    sum_same slots (λ s. one_linked n.seed n.level b (n.slot s)) (λ s. one_linked n.seed n.level b (with_at n.slot x new s)) (λ s low. elim (cases_eq s x) [
      | inl here ↦ ap (one_linked n.seed n.level b) (with_here n.slot x new s here) ∙ is b ∙ sym (was b) ∙ ap (λ y. one_linked n.seed n.level b (n.slot y)) (sym here)
      | inr other ↦ ap (one_linked n.seed n.level b) (with_other n.slot x new s other)
    ])

vacant_none : (seed level bucket : ℕ) (phase : Phase) → phase ≡ Vacant → one_linked seed level bucket phase ≡ 0
vacant_none seed level bucket phase is = ap (one_linked seed level bucket) is

free_none : (n : Now) (i bucket : ℕ) (phase : Phase) → MayFree n i phase → one_linked n.seed n.level bucket phase ≡ 0
free_none n i bucket Vacant may = absurd may
free_none n i bucket (Claimed owner) may = refl
free_none n i bucket (Linked text h born) may = absurd may
free_none n i bucket (Unlinked owner at) may = refl

event_stays : (slots : ℕ) (table : TableKind) (p : Past) (i : ℕ) (text : List ℕ) (w : What) → IsOfCall w → IsNoRehash w → is_visible w ≡ false → MayAdd table p i w →
    linked_beside slots (now_after_event p.now (by i w)) text ≡ linked_beside slots p.now text
event_stays slots table p i text (what.Claim x) of fixed hidden may =
    slot_stays slots p.now text x (Claimed i) (λ bucket. vacant_none p.now.seed p.now.level bucket (p.now.slot x) may) (λ bucket. refl)
event_stays slots table p i text (what.Free x) of fixed hidden may = slot_stays slots p.now text x Vacant (λ bucket. free_none p.now i bucket (p.now.slot x) may) (λ bucket. refl)
event_stays slots table p i text (what.Open counter) of fixed hidden may = refl
event_stays slots table p i text what.Close of fixed hidden may = refl
event_stays slots table p i text (what.Create u h) of fixed hidden may = absurd (cc)
event_stays slots table p i text (what.Take u h) of fixed hidden may = absurd (cc)
event_stays slots table p i text (what.Found u h) of fixed hidden may = absurd (cc)
event_stays slots table p i text (what.Drop h) of fixed hidden may = absurd (cc)
event_stays slots table p i text (what.Perm h) of fixed hidden may = absurd (cc)
event_stays slots table p i text (what.Kill h) of fixed hidden may = absurd (cc)
event_stays slots table p i text what.Grace of fixed hidden may = absurd of
event_stays slots table p i text (what.Lock row bucket) of fixed hidden may = absurd of
event_stays slots table p i text (what.Unlock row bucket) of fixed hidden may = absurd of
event_stays slots table p i text (what.Unlink s) of fixed hidden may = absurd of
event_stays slots table p i text what.ResizeTaken of fixed hidden may = absurd of
event_stays slots table p i text what.ResizeGiven of fixed hidden may = absurd of
event_stays slots table p i text (what.Level level) of fixed hidden may = absurd of
event_stays slots table p i text (what.Rehash seed) of fixed hidden may = absurd fixed

-- the first of events that are all hidden is hidden
first_hidden : (w : What) (whats : List What) → filter is_visible (w ∷ whats) ≡ [] → (is_visible w ≡ false) × (filter is_visible whats ≡ [])
first_hidden w whats none = go (is_visible w) refl none
  where
    go : (b : Bool) → is_visible w ≡ b → cond b (w ∷ filter is_visible whats) (filter is_visible whats) ≡ [] → (is_visible w ≡ false) × (filter is_visible whats ≡ [])
    go true is none = absurd (cc)
    go false is none = (is, none)

calls_stay : (slots : ℕ) (table : TableKind) (p : Past) (i : ℕ) (text : List ℕ) (whats : List What) → AreOfCall whats → filter is_visible whats ≡ [] → IsToldFrom table p (map (by i) whats) →
    linked_beside slots (now_after p.now (map (by i) whats)) text ≡ linked_beside slots p.now text
calls_stay slots table p i text [] of hidden told = refl
calls_stay slots table p i text (w ∷ whats) of hidden told =
    let both = first_hidden w whats hidden in
    calls_stay slots table (past_after p (by i w)) i text whats of.1 both.1 told.1 ∙ event_stays slots table p i text w of.0.0 of.0.1 both.0 told.0

-- a window of one call's events that callers do not see
pub chain_stays : (t : Table) (i : ℕ) (text : List ℕ) (before window : List Event) → IsTold t (before ++ window) → window ≡ map (by i) (whats_by i window) → AreOfCall (whats_by i window) →
    filter is_visible (whats_by i window) ≡ [] → chain_length t (before ++ window) text ≡ chain_length t before text
chain_stays t i text before window told own of hidden =
    let n = past_of t.shape.min_level [] in
    let (q, is, rest) = told_back (kind_of t) n before window told in
    ap (λ x. linked_beside t.shape.slots x text) (now_after-append n.now before window ∙ ap (λ x. now_after x window) (sym is) ∙ ap (now_after q.now) own)
    ∙ calls_stay t.shape.slots (kind_of t) q i text (whats_by i window) of hidden (subst (IsToldFrom (kind_of t) q) own rest)
    ∙ ap (λ x. linked_beside t.shape.slots x text) is

-- where nobody else is there, the window of a seat is its own
pub alone_window : (i : ℕ) (mine window : List Entry) → mine ≡ window → mine ≡ map (told_by i) (whats_by i (log_of window)) → log_of window ≡ map (by i) (whats_by i (log_of window))
alone_window i mine window whole own = ap log_of (sym whole ∙ own) ∙ log_told i (whats_by i (log_of window))

-- so it is over calls that have ended, and made nothing that callers see
pub ended_stays : (t : Table) (old new : Seat) (Did : List What → Type 0) (Why : List Event → List Event → Type 0) (text : List ℕ) → (e : Ended t old new Did Why) → AreOfCall (whats_by old.number (log_of e.window)) →
    filter is_visible (whats_by old.number (log_of e.window)) ≡ [] → IsAlone old → chain_length t (seen new) text ≡ chain_length t (seen old) text
ended_stays t old new Did Why text e of hidden alone =
    let is : seen new ≡ seen old ++ log_of e.window = ap log_of e.whole ∙ log-append (history old) e.window in
    elim e.sees [
      | inl none ↦ ap (λ l. chain_length t (log_of l) text) (e.whole ∙ ap (λ w. history old ++ w) none ∙ append-nil (history old))
      | inr sees ↦ ap (λ l. chain_length t l text) is
          ∙ chain_stays t old.number text (seen old) (log_of e.window) (subst (IsTold t) is sees.told) (alone_window old.number _ e.window (e.alone alone) e.own) of hidden
    ]
