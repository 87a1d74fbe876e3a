-- Told logs, and what moves the entry of a handle in them.
use Rattle.std.proofs.Common.{◌≡◌, ℕ, ◌⊎◌, Bool, true, false, cond, List, [], ◌∷◌, ◌++◌, Option, Some, None, refl, sym, ap, subst, ◌∙◌, inl, inr}
use Rattle.std.proofs.Common.{append_assoc}
use Rattle.std.specs.Bool.{Decides}
use Rattle.std.specs.Option.{option_and_then}
use Rattle.std.specs.Str.{bytes_eq}
use Rattle.std.proofs.lemmas.Slice.Eq.{bytes_eq-Decides}
use Rattle.intern_log.specs.declared.event.Entry.{Entry}
use Rattle.intern_log.specs.declared.event.Event.{Event}
use Rattle.intern_log.specs.declared.event.Handle.{Handle}
use Rattle.intern_log.specs.declared.event.Kind.TheVariants.{Counted, Weak}
use Rattle.intern_log.specs.declared.event.TableKind.{TableKind}
use Rattle.intern_log.specs.declared.event.What.{What}
use Rattle.intern_log.specs.declared.event.What.TheVariants as what
use Rattle.intern_log.specs.CauseEvents.{IsVisibleOn}
use Rattle.intern_log.specs.Log.{next, entry_after, new_entry, raised, lowered, made_permanent, Allows, map_after, map_of, IsLegalFrom}
use Rattle.intern_log.specs.Now.{now_after}
use Rattle.intern_log.specs.Sections.{IsCreatedAs}
use Rattle.intern_log.specs.TextMap.{TextMap, no_texts, entry_of, handle_eq, HasHandle, IsLive, at_handle}
use Rattle.intern_log.proofs.Entries.{entry_of-next}
use Rattle.intern_log.proofs.Handles.{handle_eq-Decides, origin_in_map, no_text_has}
use Rattle.intern_log.proofs.LawfulLaws.{MayFollow-allows}
use Rattle.cht_core.specs.declared.table.Table.{Table}
use Rattle.cht_core.specs.Past.{Past, past_after, kind_of, MayAdd}
use Rattle.cht_core.specs.Tidy.{IsTidy}
use Rattle.cht_core.specs.Windows.{IsToldFrom}
use Rattle.cht_core.specs.CauseCalls.{HasCount}
use Rattle.cht_core.proofs.TidyKept.{tidy_told}

-- TOLD LOGS

-- what may be added is allowed by the map
pub may_allow : (table : TableKind) (p : Past) (seat : ℕ) (w : What) → MayAdd table p seat w → Allows p.now.texts w
may_allow table p seat (what.Create text h) may = MayFollow-allows table p.now seat (what.Create text h) may.0
may_allow table p seat what.ResizeGiven may = tt
may_allow table p seat (what.Take text h) may = may.1
may_allow table p seat (what.Found text h) may = may.1
may_allow table p seat (what.Drop h) may = may.1
may_allow table p seat (what.Perm h) may = may.1
may_allow table p seat (what.Kill h) may = may.1
may_allow table p seat (what.Claim s) may = tt
may_allow table p seat (what.Free s) may = tt
may_allow table p seat (what.Open c) may = tt
may_allow table p seat what.Close may = tt
may_allow table p seat what.Grace may = tt
may_allow table p seat (what.Lock r b) may = tt
may_allow table p seat (what.Unlock r b) may = tt
may_allow table p seat (what.Unlink s) may = tt
may_allow table p seat what.ResizeTaken may = tt
may_allow table p seat (what.Level l) may = tt
may_allow table p seat (what.Rehash n) may = tt

-- a told log is legal and tidy, and each of its pieces is told
pub told_legal : (table : TableKind) (p : Past) (log : List Event) → IsToldFrom table p log → IsLegalFrom p.now.texts log
told_legal table p [] told = tt
told_legal table p (e ∷ log) told = (may_allow table p e.seat e.what told.0, told_legal table (past_after p e) log told.1)

pub told_tidy : (t : Table) (p : Past) (log : List Event) → IsTidy t p.now → IsToldFrom (kind_of t) p log → IsTidy t (now_after p.now log)
told_tidy t p [] tidy told = tidy
told_tidy t p (e ∷ log) tidy told = told_tidy t (past_after p e) log (tidy_told t p e.seat (Some e.what) tidy told.0) told.1

pub told_front : (table : TableKind) (p : Past) (front back : List Event) → IsToldFrom table p (front ++ back) → IsToldFrom table p front
told_front table p [] back told = tt
told_front table p (e ∷ front) back told = (told.0, told_front table (past_after p e) front back told.1)

pub told_back : (table : TableKind) (p : Past) (front back : List Event) → IsToldFrom table p (front ++ back) → (q : Past) × (q.now ≡ now_after p.now front) × IsToldFrom table q back
told_back table p [] back told = (p, refl, told)
told_back table p (e ∷ front) back told = told_back table (past_after p e) front back told.1

-- ENTRIES

-- an entry comes by a Create of its text and handle alone
created_from : (m : TextMap) (log : List Event) (text : List ℕ) (h : Handle) → HasHandle (map_after m log) text h → HasHandle m text h ⊎ IsCreatedAs log text h
created_from m [] text h has = inl has
created_from m (e ∷ log) text h has = elim (created_from (next m e.what) log text h has) [
  | inl was ↦ elim (origin_in_map m e.what text h was) [
    | inl there ↦ inl there
    | inr made ↦ inr ([], log, e.seat, ap (λ (w : What). (record { seat = e.seat; what = w }) ∷ log) made)
  ]
  | inr later ↦ inr (e ∷ later.0, later.1, later.2, ap (λ l. e ∷ l) later.3)
]

pub created_in : (log : List Event) (text : List ℕ) (h : Handle) → HasHandle (map_of log) text h → IsCreatedAs log text h
created_in log text h has = elim (created_from no_texts log text h has) [
  | inl never ↦ absurd (no_text_has text h never)
  | inr made ↦ made
]

pub created_longer : (log more : List Event) (text : List ℕ) (h : Handle) → IsCreatedAs log text h → IsCreatedAs (log ++ more) text h
created_longer log more text h (front, back, seat, is) = (front, back ++ more, seat, ap (λ l. l ++ more) is ∙ append_assoc front (record { seat = seat; what = what.Create text h } ∷ back) more)

module _ (m : TextMap) (text : List ℕ) (h : Handle) (count : ℕ) (has : HasCount m text h count) where
  abbrev Its : Entry
  Its = record { handle = h; count = count }

  pub has_handle : HasHandle m text h
  has_handle = (Its, has, refl)

  same : (w : What) → entry_after w text (Some Its) ≡ Some Its → HasCount (next m w) text h count
  same w is = entry_of-next m w text ∙ ap (entry_after w text) has ∙ is

  -- a change by a handle is one of this handle, or leaves the entry
  by_handle : (change : Entry → Option Entry) (k : Handle) → (h ≡ k) ⊎ (option_and_then (at_handle k change) (Some Its) ≡ Some Its)
  by_handle change k = go (handle_eq h k) (handle_eq-Decides h k)
    where
      go : (b : Bool) → Decides b (h ≡ k) → (h ≡ k) ⊎ (cond b (change Its) (Some Its) ≡ Some Its)
      go true decided = inl (decided.0 refl)
      go false decided = inr refl

  its_handle : (u : List ℕ) (k : Handle) → text ≡ u → HasHandle m u k → h ≡ k
  its_handle u k at there =
      let here : Some Its ≡ Some there.0 = sym has ∙ ap (entry_of m) at ∙ there.1 in
      let one : Its ≡ there.0 = cc in
      ap (λ (e : Entry). e.handle) one ∙ there.2

  -- an entry stays by an event that is allowed, unless it is one on the handle
  pub entry_stays : (w : What) → Allows m w → IsVisibleOn h w ⊎ HasCount (next m w) text h count
  entry_stays (what.Create u k) allowed = go (bytes_eq text u) (bytes_eq-Decides text u) refl
    where
      go : (b : Bool) → Decides b (text ≡ u) → bytes_eq text u ≡ b → IsVisibleOn h (what.Create u k) ⊎ HasCount (next m (what.Create u k)) text h count
      go true decided is = absurd (let clash : Some Its ≡ None = sym has ∙ ap (entry_of m) (decided.0 refl) ∙ allowed.0 in cc)
      go false decided is = inr (same (what.Create u k) (ap (λ b. cond b (Some (new_entry k)) (Some Its)) is))
  entry_stays (what.Take u k) allowed = go (bytes_eq text u) (bytes_eq-Decides text u) refl
    where
      go : (b : Bool) → Decides b (text ≡ u) → bytes_eq text u ≡ b → IsVisibleOn h (what.Take u k) ⊎ HasCount (next m (what.Take u k)) text h count
      go true decided is = inl (inl (u, inr (inl (ap (what.Take u) (sym (its_handle u k (decided.0 refl) allowed))))))
      go false decided is = inr (same (what.Take u k) (ap (λ b. cond b (Some (raised Its)) (Some Its)) is))
  entry_stays (what.Drop k) allowed = elim (by_handle lowered k) [
    | inl its ↦ inl (inr (inl (ap what.Drop (sym its))))
    | inr is ↦ inr (same (what.Drop k) is)
  ]
  entry_stays (what.Perm k) allowed = elim (by_handle (λ e. Some (made_permanent e)) k) [
    | inl its ↦ inl (inr (inr (inl (ap what.Perm (sym its)))))
    | inr is ↦ inr (same (what.Perm k) is)
  ]
  entry_stays (what.Kill k) allowed = elim (by_handle (λ e. None) k) [
    | inl its ↦ inl (inr (inr (inr (ap what.Kill (sym its)))))
    | inr is ↦ inr (same (what.Kill k) is)
  ]
  entry_stays (what.Found u k) allowed = inr has
  entry_stays (what.Claim s) allowed = inr has
  entry_stays (what.Free s) allowed = inr has
  entry_stays (what.Open c) allowed = inr has
  entry_stays what.Close allowed = inr has
  entry_stays what.Grace allowed = inr has
  entry_stays (what.Lock r b) allowed = inr has
  entry_stays (what.Unlock r b) allowed = inr has
  entry_stays (what.Unlink s) allowed = inr has
  entry_stays what.ResizeTaken allowed = inr has
  entry_stays what.ResizeGiven allowed = inr has
  entry_stays (what.Level l) allowed = inr has
  entry_stays (what.Rehash n) allowed = inr has

-- a log that follows an entry has an event on its handle, or leaves it as it was
abbrev pub HasOn : Handle → List Event → Type 0
HasOn h log = (front back : List Event) × (e : Event) × (log ≡ front ++ e ∷ back) × IsVisibleOn h e.what

pub entry_moved : (m : TextMap) (log : List Event) (text : List ℕ) (h : Handle) (count : ℕ) → HasCount m text h count → IsLegalFrom m log → HasOn h log ⊎ HasCount (map_after m log) text h count
entry_moved m [] text h count has legal = inr has
entry_moved m (e ∷ log) text h count has legal = elim (entry_stays m text h count has e.what legal.0) [
  | inl on ↦ inl ([], log, e, refl, on)
  | inr still ↦ elim (entry_moved (next m e.what) log text h count still legal.1) [
    | inl on ↦ inl (e ∷ on.0, on.1, on.2, ap (λ l. e ∷ l) on.3, on.4)
    | inr late ↦ inr late
  ]
]

-- WEAK LOGS

-- no entry has the handle of a Kill after it
killed : (m : TextMap) (h : Handle) → ¬ (IsLive (next m (what.Kill h)) h)
killed m h live = go (entry_of m live.0) (sym (entry_of-next m (what.Kill h) live.0) ∙ live.1.1)
  where
    away : (e : Entry) (b : Bool) → Decides b (e.handle ≡ h) → cond b None (Some e) ≡ Some live.1.0 → ⊥
    away e true decided is = absurd (cc)
    away e false decided is =
        let one : e ≡ live.1.0 = cc in
        let clash : false ≡ true = decided.1 (ap (λ (x : Entry). x.handle) one ∙ live.1.2) in
        cc

    go : (o : Option Entry) → option_and_then (at_handle h (λ e. None)) o ≡ Some live.1.0 → ⊥
    go None is = cc
    go (Some e) is = away e (handle_eq e.handle h) (handle_eq-Decides e.handle h) is

module _ (table : TableKind) (weak : table.kind ≡ Weak) where
  uncounted : table.kind ≡ Counted → ⊥
  uncounted counted = let clash : Counted ≡ Weak = sym counted ∙ weak in absurd (cc)

  -- in a weak log an event on a live handle is a Kill, or leaves its entry
  weak_on : (p : Past) (seat : ℕ) (w : What) (text : List ℕ) (h : Handle) (count : ℕ) → HasCount p.now.texts text h count → MayAdd table p seat w → IsVisibleOn h w →
      (¬ (IsLive (next p.now.texts w) h)) ⊎ HasCount (next p.now.texts w) text h count
  weak_on p seat w text h count has may (inl (u, inl is)) =
      let created : MayAdd table p seat (what.Create u h) = subst (MayAdd table p seat) is may in
      absurd (created.0.0.1 (text, has_handle p.now.texts text h count has))
  weak_on p seat w text h count has may (inl (u, inr (inl is))) = let taken : MayAdd table p seat (what.Take u h) = subst (MayAdd table p seat) is may in absurd (uncounted taken.0)
  weak_on p seat w text h count has may (inl (u, inr (inr is))) = inr (subst (λ x. HasCount (next p.now.texts x) text h count) (sym is) has)
  weak_on p seat w text h count has may (inr (inl is)) = let dropped : MayAdd table p seat (what.Drop h) = subst (MayAdd table p seat) is may in absurd (uncounted dropped.0)
  weak_on p seat w text h count has may (inr (inr (inl is))) = let perm : MayAdd table p seat (what.Perm h) = subst (MayAdd table p seat) is may in absurd (uncounted perm.0)
  weak_on p seat w text h count has may (inr (inr (inr is))) = inl (subst (λ x. ¬ (IsLive (next p.now.texts x) h)) (sym is) (killed p.now.texts h))

  weak_next : (p : Past) (e : Event) (text : List ℕ) (h : Handle) (count : ℕ) → HasCount p.now.texts text h count → MayAdd table p e.seat e.what →
      (¬ (IsLive (next p.now.texts e.what) h)) ⊎ HasCount (next p.now.texts e.what) text h count
  weak_next p e text h count has may = elim (entry_stays p.now.texts text h count has e.what (may_allow table p e.seat e.what may)) [
    | inl on ↦ weak_on p e.seat e.what text h count has may on
    | inr still ↦ inr still
  ]

  -- a weak log that follows an entry has a place at which it is gone, or leaves it as it was
  pub gone_or_same : (p : Past) (log : List Event) (text : List ℕ) (h : Handle) (count : ℕ) → HasCount p.now.texts text h count → IsToldFrom table p log →
      ((front back : List Event) × (log ≡ front ++ back) × ¬ (IsLive (map_after p.now.texts front) h)) ⊎ HasCount (map_after p.now.texts log) text h count
  gone_or_same p [] text h count has told = inr has
  gone_or_same p (e ∷ log) text h count has told = elim (weak_next p e text h count has told.0) [
    | inl gone ↦ inl (e ∷ [], log, refl, gone)
    | inr still ↦ elim (gone_or_same (past_after p e) log text h count still told.1) [
      | inl later ↦ inl (e ∷ later.0, later.1, ap (λ l. e ∷ l) later.2, later.3)
      | inr late ↦ inr late
    ]
  ]
