-- The events that create a handle, and logs in which no handle has two Creates.
use Rattle.std.proofs.Common.{◌≡◌, ℕ, Bool, true, false, ◌||◌, List, [], ◌∷◌, ◌↔◌, refl, sym, ap, ◌∙◌}
use Rattle.std.specs.List.{list_any}
use Rattle.std.proofs.lemmas.List.Folds.{list_any-append}
use Rattle.intern_log.specs.declared.event.Handle.{Handle}
use Rattle.intern_log.specs.declared.event.Event.{Event}
use Rattle.intern_log.specs.declared.event.What.{What}
use Rattle.intern_log.specs.declared.event.What.TheVariants.{Create}
use Rattle.intern_log.specs.Log.{creates, IsFresh}
use Rattle.intern_log.specs.Sections.{with_event}
use Rattle.intern_log.proofs.Handles.{handle_eq-Decides}
use Rattle.intern_log.proofs.Slots.{neither}

creates_so : (what : What) (h : Handle) → creates what h ≡ true → (text : List ℕ) × (what ≡ Create text h)
creates_so (Create text k) h is = (text, ap (Create text) ((handle_eq-Decides k h).0 is))
creates_so _ h is = absurd (cc)

pub creates_is : (what : What) (h : Handle) → (creates what h ≡ true) ↔ ((text : List ℕ) × (what ≡ Create text h))
creates_is what h = (creates_so what h, (λ (text, is). ap (λ w. creates w h) is ∙ (handle_eq-Decides h h).1 refl))

-- no handle has two Creates
abbrev CreatesOnce : List Event → Type 0
CreatesOnce log = (front between back : List Event) (seat other : ℕ) (text again : List ℕ) (h : Handle) →
    ¬ (log ≡ with_event front seat (Create text h) (with_event between other (Create again h) back))

-- what is after a front that does not create the handle
none_in : (h : Handle) (log : List Event) → list_any (λ (e : Event). creates e.what h) log ≡ false →
    (front back : List Event) (seat : ℕ) (text : List ℕ) → ¬ (log ≡ with_event front seat (Create text h) back)
none_in h log none front back seat text is =
    let all = sym (list_any-append (λ (e : Event). creates e.what h) front _) ∙ ap (list_any (λ (e : Event). creates e.what h)) (sym is) ∙ none in
    let rest = (neither (list_any (λ (e : Event). creates e.what h) front) _ all).1 in
    let here : creates (Create text h) h ≡ false = (neither (creates (Create text h) h) (list_any (λ (e : Event). creates e.what h) back) rest).0 in
    let there : creates (Create text h) h ≡ true = (handle_eq-Decides h h).1 refl in
    let never : false ≡ true = sym here ∙ there in
    absurd (cc)

fresh_once : (log : List Event) → IsFresh log → CreatesOnce log
fresh_once [] fresh [] between back seat other text again h is = absurd (cc)
fresh_once [] fresh (x ∷ front) between back seat other text again h is = absurd (cc)
fresh_once (e ∷ log) fresh [] between back seat other text again h is =
    let first : e ≡ record { seat = seat; what = Create text h } = cc in
    let rest : log ≡ with_event between other (Create again h) back = cc in
    let made : creates e.what h ≡ true = ap (λ (x : Event). creates x.what h) first ∙ (handle_eq-Decides h h).1 refl in
    none_in h log (fresh.0 h made) between back other again rest
fresh_once (e ∷ log) fresh (x ∷ front) between back seat other text again h is =
    let rest : log ≡ with_event front seat (Create text h) (with_event between other (Create again h) back) = cc in
    fresh_once log fresh.1 front between back seat other text again h rest

-- a log that creates the handle has a Create of it
abbrev HasCreateOf : Handle → List Event → Type 0
HasCreateOf h log = (front back : List Event) × (seat : ℕ) × (text : List ℕ) × (log ≡ with_event front seat (Create text h) back)

found_first : (h : Handle) (e : Event) (log : List Event) → creates e.what h ≡ true → HasCreateOf h (e ∷ log)
found_first h e log is =
    let made = creates_so e.what h is in
    ([], log, e.seat, made.0, ap (λ (w : What). record { seat = e.seat; what = w } ∷ log) made.1)

found_later : (h : Handle) (e : Event) (log : List Event) → HasCreateOf h log → HasCreateOf h (e ∷ log)
found_later h e log later = (e ∷ later.0, later.1, later.2, later.3, ap (λ l. e ∷ l) later.4)

found_by : (h : Handle) (e : Event) (log : List Event) (b : Bool) → creates e.what h ≡ b → (b || list_any (λ (x : Event). creates x.what h) log) ≡ true →
    (list_any (λ (x : Event). creates x.what h) log ≡ true → HasCreateOf h log) → HasCreateOf h (e ∷ log)
found_by h e log true is some later = found_first h e log is
found_by h e log false is some later = found_later h e log (later some)

found_in : (h : Handle) (log : List Event) → list_any (λ (e : Event). creates e.what h) log ≡ true → HasCreateOf h log
found_in h [] some = absurd (cc)
found_in h (e ∷ log) some = found_by h e log (creates e.what h) refl some (λ rest. found_in h log rest)

once_fresh : (log : List Event) → CreatesOnce log → IsFresh log
once_fresh [] once = tt
once_fresh (e ∷ log) once = (
  (λ h here. by h here (list_any (λ (x : Event). creates x.what h) log) refl),
  once_fresh log (λ front between back seat other text again h is. once (e ∷ front) between back seat other text again h (ap (λ l. e ∷ l) is)),
)
  where
    by : (h : Handle) → creates e.what h ≡ true → (b : Bool) → list_any (λ (x : Event). creates x.what h) log ≡ b → b ≡ false
    by h here false some = refl
    by h here true some =
        let first = creates_so e.what h here in
        let later = found_in h log some in
        absurd (once [] later.0 later.1 e.seat later.2 first.0 later.3 h
        (ap (λ (w : What). record { seat = e.seat; what = w } ∷ log) first.1 ∙ ap (λ l. record { seat = e.seat; what = Create first.0 h } ∷ l) later.4))

pub fresh_is : (log : List Event) → IsFresh log ↔ CreatesOnce log
fresh_is log = (fresh_once log, once_fresh log)
