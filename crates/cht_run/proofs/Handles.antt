-- Which handles a table has: each handle of which its log gives a hold was created, and one that was created is of one of its slots.
use Rattle.std.proofs.Common.{◌≡◌, ◌⊎◌, inl, inr, ℕ, ◌+◌, ◌<◌, ◌≤◌, ◌^◌, Bool, true, false, cond, ◌||◌, ◌&&◌, nat_lt, Option, length, List, [], ◌∷◌, ◌++◌, refl, sym, ap, subst, ◌∙◌, arith, filter, count_by}
use Rattle.std.specs.List.{list_any}
use Rattle.std.proofs.lemmas.Bool.{ltb-true}
use Rattle.std.proofs.lemmas.List.{append_assoc}
use Rattle.std.proofs.lemmas.List.Sums.{sum_by-cons}
use Rattle.std.proofs.lemmas.List.Folds.{list_any-append}
use Rattle.table_shape.specs.declared.place.Place.TheVariants as place
use Rattle.table_shape.specs.declared.shape.Shape.{Shape}
use Rattle.intern_log.specs.declared.event.Event.{Event}
use Rattle.intern_log.specs.declared.event.Handle.{Handle}
use Rattle.intern_log.specs.declared.event.What.{What}
use Rattle.intern_log.specs.declared.event.What.TheVariants as what
use Rattle.intern_log.specs.Log.{creates}
use Rattle.intern_log.specs.Now.{Phase, Vacant, Claimed, Linked, Unlinked, now_of}
use Rattle.intern_log.specs.Own.{is_gain, is_visible, is_among, mine}
use Rattle.intern_log.specs.TextMap.{HasHandle}
use Rattle.intern_log.proofs.Handles.{handle_eq-Decides}
use Rattle.intern_log.proofs.LawfulLaws.{texts-now_after}
use Rattle.atomic_step.specs.Count.{generation_of}
use Rattle.call_machine.specs.SoundCall.{IsHandle}
use Rattle.cht_core.specs.declared.table.Table.{Table}
use Rattle.cht_core.specs.Begins.{IsHeld, IsCreated}
use Rattle.cht_core.specs.CauseCalls.{WasMade}
use Rattle.cht_core.specs.Invariant.{Inv}
use Rattle.cht_core.specs.Memory.{Memory}
use Rattle.cht_core.specs.Past.{Past, past_of, kind_of, MayAdd}
use Rattle.cht_core.specs.Slots.{claim_word, IsPast}
use Rattle.cht_core.specs.View.{View}
use Rattle.cht_core.specs.Windows.{IsTold, IsToldFrom}
use Rattle.cht_core.proofs.CauseCounts.{may_allow}
use Rattle.cht_core.proofs.CauseLogs.{live_was_made}
use Rattle.cht_core.proofs.TidyKept.{past_of-one_more}
use Rattle.cht_run.specs.declared.sight.Entry.{Entry}
use Rattle.cht_run.specs.declared.sight.Origin.{Origin}
use Rattle.cht_run.specs.declared.sight.Sight.{Sight}
use Rattle.cht_run.specs.History.{log_of, is_known, HasHandles}
use Rattle.cht_run.specs.Looks.{Looked}
use Rattle.cht_run.specs.Views.{longer}
use Rattle.cht_run.proofs.Histories.{among_either}

-- WHAT WAS CREATED

-- a hold is given by a Create or by a Take of a text
gain_is : (e : What) (h : Handle) → is_gain e h ≡ true → (creates e h ≡ true) ⊎ ((text : List ℕ) × (e ≡ what.Take text h))
gain_is (what.Create text k) h is = inl is
gain_is (what.Take text k) h is = inr (text, ap (what.Take text) ((handle_eq-Decides k h).0 is))
gain_is (what.Found text k) h is = absurd (cc)
gain_is (what.Drop k) h is = absurd (cc)
gain_is (what.Perm k) h is = absurd (cc)
gain_is (what.Kill k) h is = absurd (cc)
gain_is (what.Claim s) h is = absurd (cc)
gain_is (what.Free s) h is = absurd (cc)
gain_is (what.Open c) h is = absurd (cc)
gain_is what.Close h is = absurd (cc)
gain_is what.Grace h is = absurd (cc)
gain_is (what.Lock r b) h is = absurd (cc)
gain_is (what.Unlock r b) h is = absurd (cc)
gain_is (what.Unlink s) h is = absurd (cc)
gain_is what.ResizeTaken h is = absurd (cc)
gain_is what.ResizeGiven h is = absurd (cc)
gain_is (what.Level l) h is = absurd (cc)
gain_is (what.Rehash n) h is = absurd (cc)

creates_gains : (e : What) (h : Handle) → creates e h ≡ true → is_gain e h ≡ true
creates_gains (what.Create text k) h is = is
creates_gains (what.Take text k) h is = absurd (cc)
creates_gains (what.Found text k) h is = absurd (cc)
creates_gains (what.Drop k) h is = absurd (cc)
creates_gains (what.Perm k) h is = absurd (cc)
creates_gains (what.Kill k) h is = absurd (cc)
creates_gains (what.Claim s) h is = absurd (cc)
creates_gains (what.Free s) h is = absurd (cc)
creates_gains (what.Open c) h is = absurd (cc)
creates_gains what.Close h is = absurd (cc)
creates_gains what.Grace h is = absurd (cc)
creates_gains (what.Lock r b) h is = absurd (cc)
creates_gains (what.Unlock r b) h is = absurd (cc)
creates_gains (what.Unlink s) h is = absurd (cc)
creates_gains what.ResizeTaken h is = absurd (cc)
creates_gains what.ResizeGiven h is = absurd (cc)
creates_gains (what.Level l) h is = absurd (cc)
creates_gains (what.Rehash n) h is = absurd (cc)

abbrev Creates : Handle → Event → Bool
Creates h e = creates e.what h

or_right : (b : Bool) → (b || true) ≡ true
or_right true = refl
or_right false = refl

-- what a log has created, a longer one has
pub made_longer : (t : Table) (log more : List Event) (h : Handle) → WasMade t log h → WasMade t (log ++ more) h
made_longer t log more h is = list_any-append (Creates h) log more ∙ ap (λ b. b || list_any (Creates h) more) is

made_here : (t : Table) (front log : List Event) (e : Event) (h : Handle) → creates e.what h ≡ true → WasMade t (front ++ e ∷ log) h
made_here t front log e h is = list_any-append (Creates h) front (e ∷ log) ∙ ap (λ b. list_any (Creates h) front || (b || list_any (Creates h) log)) is ∙ or_right (list_any (Creates h) front)

-- a Take is of an entry that was created
taken_was_made : (t : Table) (front : List Event) (seat : ℕ) (e : What) (text : List ℕ) (h : Handle) → e ≡ what.Take text h → MayAdd (kind_of t) (past_of t.shape.min_level front) seat e → WasMade t front h
taken_was_made t front seat e text h is may =
    let has : HasHandle (now_of t.shape.min_level front).texts text h = may_allow (kind_of t) (past_of t.shape.min_level front) seat (what.Take text h) (subst (MayAdd (kind_of t) (past_of t.shape.min_level front) seat) is may) in
    live_was_made t front h (text, subst (λ m. HasHandle m text h) (texts-now_after (now_of t.shape.min_level []) front) has)

known_from : (t : Table) (front log : List Event) (h : Handle) → IsToldFrom (kind_of t) (past_of t.shape.min_level front) log → is_known log h ≡ true → WasMade t (front ++ log) h
known_from t front [] h told is = absurd (cc)
known_from t front (e ∷ log) h told is = elim (among_either (is_gain e.what h) (is_known log h) is) [
  | inl here ↦ elim (gain_is e.what h here) [
    | inl made ↦ made_here t front log e h made
    | inr taken ↦ made_longer t front (e ∷ log) h (taken_was_made t front e.seat e.what taken.0 h taken.1 told.0)
  ]
  | inr later ↦ subst (λ l. WasMade t l h) (append_assoc front (e ∷ []) log)
      (known_from t (front ++ e ∷ []) log h (subst (λ (p : Past). IsToldFrom (kind_of t) p log) (sym (past_of-one_more t.shape.min_level front e)) told.1) later)
]

-- a handle of which a hold was given was created
pub known_was_made : (t : Table) (log : List Event) (h : Handle) → IsTold t log → is_known log h ≡ true → WasMade t log h
known_was_made t log h told is = known_from t [] log h told is

-- WHAT A SEAT HOLDS IS KNOWN

counted_any : (p : Event → Bool) (log : List Event) → 1 ≤ count_by p log → list_any p log ≡ true
counted_any p [] some = absurd (omega (arith, some))
counted_any p (e ∷ log) some = go (p e) (counted_any p log) (subst (λ n. 1 ≤ n) (sum_by-cons (λ (x : Event). cond (p x) 1 0) e log) some)
  where
    go : (b : Bool) → (1 ≤ count_by p log → list_any p log ≡ true) → 1 ≤ cond b 1 0 + count_by p log → (b || list_any p log) ≡ true
    go true rest some = refl
    go false rest some = rest (omega (arith, some))

filtered_any : (p q : Event → Bool) (log : List Event) → list_any p (filter q log) ≡ true → list_any p log ≡ true
filtered_any p q [] is = is
filtered_any p q (e ∷ log) is = go (q e) (filtered_any p q log) is
  where
    go : (b : Bool) → (list_any p (filter q log) ≡ true → list_any p log ≡ true) → list_any p (cond b (e ∷ filter q log) (filter q log)) ≡ true → (p e || list_any p log) ≡ true
    go true rest is = elim (among_either (p e) (list_any p (filter q log)) is) [ inl here ↦ ap (λ b. b || list_any p log) here | inr later ↦ ap (λ b. p e || b) (rest later) ∙ or_right (p e) ]
    go false rest is = ap (λ b. p e || b) (rest is) ∙ or_right (p e)

pub held_is_known : (log : List Event) (numbers : List ℕ) (h : Handle) → IsHeld log numbers h → is_known log h ≡ true
held_is_known log numbers h holds =
    filtered_any (λ (e : Event). is_gain e.what h) (λ e. is_visible e.what && is_among numbers e.seat) log (counted_any (λ (e : Event). is_gain e.what h) (mine log numbers) (omega (arith, holds)))

pub created_is_known : (log : List Event) (h : Handle) → IsCreated log h → is_known log h ≡ true
created_is_known [] h is = absurd (cc)
created_is_known (e ∷ log) h is = elim (among_either (creates e.what h) (list_any (Creates h) log) is) [
  | inl here ↦ ap (λ b. b || is_known log h) (creates_gains e.what h here)
  | inr later ↦ ap (λ b. is_gain e.what h || b) (created_is_known log h later) ∙ or_right (is_gain e.what h)
]

-- OF A SLOT OF THE TABLE

not_past : (h : Handle) (phase : Phase) (generation : ℕ) → claim_word phase ≡ 0 → generation ≡ 0 → IsPast generation h phase → ⊥
not_past h Vacant generation free none (inl past) = omega (arith, none, past)
not_past h Vacant generation free none (inr last) = last.1
not_past h (Claimed k) generation free none is = absurd (cc)
not_past h (Linked text k born) generation free none is = absurd (cc)
not_past h (Unlinked k at) generation free none is = absurd (cc)

-- a handle that was created is of a slot of the table
module _ (t : Table) (m : Memory) (seat : ℕ → Option View) (log : List Event) (h : Handle) (inv : Inv t m seat log) (made : WasMade t log h) where
  abbrev phase : Phase
  phase = (past_of t.shape.min_level log).now.slot h.slot

  past : IsPast (generation_of (m (place.Count h.slot))) h phase
  past = inv.table.slots.made h made

  small : m (place.Count h.slot) < 2 ^ 64
  small = inv.table.words.small (place.Count h.slot)

  generation_is : IsPast (generation_of (m (place.Count h.slot))) h phase → h.generation < 2 ^ 48
  generation_is (inl less) = let few = small in omega (arith, less, few)
  generation_is (inr last) = let same = last.0 in let few = small in omega (arith, same, few)

  slot_is : (b : Bool) → nat_lt h.slot t.shape.slots ≡ b → h.slot < t.shape.slots
  slot_is true is = ltb-true h.slot t.shape.slots is
  slot_is false is =
      let free : claim_word phase ≡ 0 = sym (inv.table.slots.claims h.slot) ∙ inv.table.words.outside (place.Claim h.slot) is in
      let none : generation_of (m (place.Count h.slot)) ≡ 0 = ap generation_of (inv.table.words.outside (place.Count h.slot) is) in
      absurd (not_past h phase (generation_of (m (place.Count h.slot))) free none past)

  pub made_is_inside : IsHandle t.shape h
  made_is_inside = (slot_is (nat_lt h.slot t.shape.slots) refl, generation_is past)

pub has_handles : (t : Table) (m : Memory) (seat : ℕ → Option View) (history : List Entry) → Inv t m seat (log_of history) → IsTold t (log_of history) → HasHandles t.shape history
has_handles t m seat history inv told h known = made_is_inside t m seat (log_of history) h inv (known_was_made t (log_of history) h told known)

-- of two parts of one history, each has them
pub longer_handles : (shape : Shape) (xs ys : List Entry) → HasHandles shape xs → HasHandles shape ys → HasHandles shape (longer xs ys)
longer_handles shape xs ys first second = go (nat_lt (length xs) (length ys))
  where
    go : (b : Bool) → HasHandles shape (cond b ys xs)
    go true = second
    go false = first

-- a seat that has looked at a word has them
pub looked_handles : (index : ℕ) (v : Sight) (word : ℕ) (w : Sight) → Looked v.origin index v word w → HasHandles w.origin.table.shape w.history
looked_handles index v word w looked = subst (λ (o : Origin). HasHandles o.table.shape w.history) (sym (ap (λ (x : Sight). x.origin) looked.after)) looked.sees.handles
