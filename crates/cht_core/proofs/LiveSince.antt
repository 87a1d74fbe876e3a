-- What was live since a place of a log still was as the log goes on, and which event of a seat was its last one.
use Rattle.std.proofs.Common.{◌≡◌, ◌≢◌, ◌⊎◌, Bool, false, ℕ, ◌<◌, ◌≤◌, inl, inr, List, [], ◌∷◌, ◌++◌, length, Option, Some, None, IfSome, refl, sym, ap, subst, ◌∙◌, append_assoc, arith}
use Rattle.std.specs.Option.{option_map}
use Rattle.std.proofs.lemmas.List.Elements.{All-nil, All-push}
use Rattle.std.proofs.lemmas.List.{append-nil, length-append}
use Rattle.intern_log.specs.declared.event.Event.{Event}
use Rattle.intern_log.specs.declared.event.Handle.{Handle}
use Rattle.intern_log.specs.declared.event.What.{What}
use Rattle.intern_log.specs.declared.event.What.TheVariants as what
use Rattle.intern_log.specs.Log.{map_of, new_entry}
use Rattle.intern_log.specs.Now.{Now, Linked, Resizing, opening, now_of, owner_of, changed_by, resizing_after_lock}
use Rattle.intern_log.specs.TextMap.{IsLive}
use Rattle.intern_log.proofs.LawfulLaws.{texts-now_after}
use Rattle.intern_log.proofs.EntryLaws.{put_there}
use Rattle.intern_log.proofs.OneMore.{map_of-one_more, now_of-one_more, place_is}
use Rattle.cht_core.specs.Invariant.{events_of}
use Rattle.cht_core.specs.Passes.{IsLast, SinceLast, WasLiveSince, WereLiveSince, is_taken}
use Rattle.cht_core.specs.Past.{Past, past_of, told, by}
use Rattle.cht_core.proofs.EnteredCounts.{by_last, linked_before}

-- LIVE ENTRIES

-- what was live since a place was so in a longer log
pub live_longer : (at : ℕ) (log more : List Event) (h : Handle) → WasLiveSince at log h → WasLiveSince at (log ++ more) h
live_longer at log more h was = (was.0, was.1 ++ more, ap (λ l. l ++ more) was.2 ∙ append_assoc was.0 was.1 more, was.3, was.4)

-- what is live at the end of a log was live since any place of it
pub live_at_end : (min_level at : ℕ) (log : List Event) (h : Handle) → at ≤ length log → IsLive (now_of min_level log).texts h → WasLiveSince at log h
live_at_end min_level at log h before live = (log, [], sym (append-nil log), before, subst (λ texts. IsLive texts h) (texts-now_after (opening min_level) log) live)

-- a Create makes its entry live
created_live : (log : List Event) (i : ℕ) (text : List ℕ) (h : Handle) → IsLive (map_of (log ++ by i (what.Create text h) ∷ [])) h
created_live log i text h = subst (λ texts. IsLive texts h) (sym (map_of-one_more log (by i (what.Create text h)))) (text, (new_entry h, put_there (map_of log) text (Some (new_entry h)), refl))

-- a slot that is linked after an event was linked before it, or the event made its entry
linked_told : (p : Past) (i : ℕ) (e : Option What) (s : ℕ) (text : List ℕ) (h : Handle) (born : ℕ) → (told p i e).now.slot s ≡ Linked text h born →
    (p.now.slot s ≡ Linked text h born) ⊎ (e ≡ Some (what.Create text h))
linked_told p i None s text h born is = inl is
linked_told p i (Some w) s text h born is = elim (linked_before p.now i w s text h born is) [ inl was ↦ inl was | inr made ↦ inr (ap Some made.0) ]

module _ (min_level : ℕ) (log : List Event) (i : ℕ) (e : Option What) where
  -- an entry that an event makes was live since any place
  made_live : (at : ℕ) (text : List ℕ) (h : Handle) → at ≤ length log → e ≡ Some (what.Create text h) → WasLiveSince at (log ++ events_of i e) h
  made_live at text h before made = subst (λ (x : Option What). WasLiveSince at (log ++ events_of i x) h) (sym made) (
    log ++ by i (what.Create text h) ∷ [],
    [],
    sym (append-nil (log ++ by i (what.Create text h) ∷ [])),
    (let whole = length-append log (by i (what.Create text h) ∷ []) in omega (arith, before, whole)),
    created_live log i text h,
  )

  -- what is linked after an event was live since a place, as long as what was linked before it was
  pub were_live_told : (at : ℕ) (Which : ℕ → List ℕ → Type 0) → at ≤ length log → WereLiveSince (past_of min_level log).now log at Which
      → WereLiveSince (told (past_of min_level log) i e).now (log ++ events_of i e) at Which
  were_live_told at Which before were s text h born is which = elim (linked_told (past_of min_level log) i e s text h born is) [
    | inl was ↦ live_longer at log (events_of i e) h (were s text h born was which)
    | inr made ↦ made_live at text h before made
  ]

-- of fewer slots too
pub were_live_fewer : (n : Now) (log : List Event) (at : ℕ) (Which Fewer : ℕ → List ℕ → Type 0) → ((s : ℕ) (text : List ℕ) (h : Handle) (born : ℕ) → n.slot s ≡ Linked text h born → Fewer s text → Which s text)
    → WereLiveSince n log at Which → WereLiveSince n log at Fewer
were_live_fewer n log at Which Fewer within were s text h born is fewer = were s text h born is (within s text h born is fewer)

-- LAST EVENTS

module _ (passes : What → Bool) (i : ℕ) (last : What) (log : List Event) (at : ℕ) (is : IsLast passes i last log at) where
  -- the last event stands in the log
  pub last_early : at < length log
  last_early =
      let whole : length log ≡ length (is.front ++ by i last ∷ is.back) = ap (λ (l : List Event). length l) is.stands in
      let parts = length-append is.front (by i last ∷ is.back) in
      let place = is.place in
      omega (arith, whole, parts, place)

  -- and is the last one still after an event that is of another seat or another kind
  pub last_told : (j : ℕ) (e : Option What) → (j ≢ i) ⊎ IfSome e (λ w. passes w ≡ false) → IsLast passes i last (log ++ events_of j e) at
  last_told j None other = subst (λ l. IsLast passes i last l at) (sym (append-nil log)) is
  last_told j (Some w) other = record {
    front = is.front;
    back = is.back ++ by j w ∷ [];
    stands = ap (λ l. l ++ by j w ∷ []) is.stands ∙ append_assoc is.front (by i last ∷ is.back) (by j w ∷ []);
    place = is.place;
    none = All-push (λ (e : Event). e.seat ≡ i → passes e.what ≡ false) is.back (by j w) is.none (λ own. elim other [ inl differ ↦ absurd (differ own) | inr another ↦ another ]);
  }

-- a new event is the last one
pub last_new : (passes : What → Bool) (i : ℕ) (last : What) (log : List Event) → IsLast passes i last (log ++ by i last ∷ []) (length log)
last_new passes i last log = record { front = log; back = []; stands = refl; place = refl; none = All-nil (λ (e : Event). e.seat ≡ i → passes e.what ≡ false) }

-- what holds since the last event goes over
pub since_goes : (passes : What → Bool) (i : ℕ) (last : What) (log log' : List Event) (Holds Holds' : ℕ → Type 0) → ((at : ℕ) → IsLast passes i last log at → IsLast passes i last log' at)
    → ((at : ℕ) → at < length log → Holds at → Holds' at) → SinceLast passes i last log Holds → SinceLast passes i last log' Holds'
since_goes passes i last log log' Holds Holds' stays over since = (since.0, stays since.0 since.1, over since.0 (last_early passes i last log since.0 since.1) since.2)

-- THE RESIZE LOCK

-- who has the resize lock took it by its last event of that kind
abbrev IsTakenBy : List Event → Option Resizing → Type 0
IsTakenBy log None = Unit {0}
IsTakenBy log (Some r) = IsLast is_taken r.seat what.ResizeTaken log r.place

taken_event : (min_level : ℕ) (log : List Event) (i : ℕ) (w : What) → IsTakenBy log (now_of min_level log).resizing → IsTakenBy (log ++ by i w ∷ []) (changed_by (now_of min_level log) i w).resizing
taken_event min_level log i what.ResizeTaken was = subst (IsLast is_taken i what.ResizeTaken (log ++ by i what.ResizeTaken ∷ [])) (sym (place_is min_level log)) (last_new is_taken i what.ResizeTaken log)
taken_event min_level log i what.ResizeGiven was = tt
taken_event min_level log i (what.Lock row bucket) was = go (now_of min_level log).resizing was
  where
    go : (o : Option Resizing) → IsTakenBy log o → IsTakenBy (log ++ by i (what.Lock row bucket) ∷ []) (option_map (resizing_after_lock i row) o)
    go None was = tt
    go (Some r) was = last_told is_taken r.seat what.ResizeTaken log r.place was i (Some (what.Lock row bucket)) (inr refl)
taken_event min_level log i w was = go (now_of min_level log).resizing was
  where
    go : (o : Option Resizing) → IsTakenBy log o → IsTakenBy (log ++ by i w ∷ []) o
    go None was = tt
    go (Some r) was = last_told is_taken r.seat what.ResizeTaken log r.place was i (Some w) (inr refl)

taken_by : (min_level : ℕ) (log : List Event) → IsTakenBy log (now_of min_level log).resizing
taken_by min_level = by_last (λ log. IsTakenBy log (now_of min_level log).resizing) tt (λ log e was.
    subst (IsTakenBy (log ++ e ∷ [])) (sym (ap (λ (n : Now). n.resizing) (now_of-one_more min_level log e))) (taken_event min_level log e.seat e.what was))

-- the seat that has the resize lock took it at a place
pub owner_took : (min_level i : ℕ) (log : List Event) → owner_of (now_of min_level log).resizing ≡ Some i → (at : ℕ) × IsLast is_taken i what.ResizeTaken log at
owner_took min_level i log owns = go (now_of min_level log).resizing (taken_by min_level log) owns
  where
    go : (o : Option Resizing) → IsTakenBy log o → owner_of o ≡ Some i → (at : ℕ) × IsLast is_taken i what.ResizeTaken log at
    go None was owns = absurd (cc)
    go (Some r) was owns = let seat : r.seat ≡ i = cc in (r.place, subst (λ (k : ℕ). IsLast is_taken k what.ResizeTaken log r.place) seat was)
