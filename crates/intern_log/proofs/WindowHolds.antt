-- What a window list holds at its end: the handles of its last names.
use Rattle.std.proofs.Common.{◌≡◌, ℕ, ◌+◌, ◌-◌, ◌<◌, Bool, true, false, cond, List, [], ◌∷◌, ◌++◌, length, zero, suc, drop, get_or, Option, Some, None, inl, inr, refl, sym, ap, subst, ◌∙◌, ◌↔◌, length-append, arith}
use Rattle.std.specs.Prelude.{nat_lt, slice_get, count_by}
use Rattle.std.specs.List.{Contains}
use Rattle.std.proofs.lemmas.Bool.{ltb-true, ltb-false}
use Rattle.std.proofs.lemmas.List.{map-append, append-nil, append_assoc, drop-append-le}
use Rattle.std.proofs.lemmas.List.Elements.{Contains-append_right}
use Rattle.std.proofs.lemmas.List.Sums.{sum_by-cons, sum_by-append}
use Rattle.std.proofs.lemmas.Option.{slice_get-get_or}
use Rattle.std.proofs.Math.Seq.{drop-cons, drop-nil}
use Rattle.intern_log.specs.declared.event.Handle.{Handle}
use Rattle.intern_log.specs.declared.event.Event.{Event}
use Rattle.intern_log.specs.declared.event.What.{What}
use Rattle.intern_log.specs.declared.event.What.TheVariants.{Drop}
use Rattle.intern_log.specs.TextMap.{handle_eq}
use Rattle.intern_log.specs.Own.{is_gain, is_loss, gains, losses}
use Rattle.intern_log.specs.Finals.{finals}
use Rattle.intern_log.specs.Window.{by_seat, IsCountedIntern, dropped_from, let_go, IsWindowRun, IsWindowList, IsWindowListOf, whats_of}

pub whats_of-by_seat : (seat : ℕ) (whats : List What) → whats_of (by_seat seat whats) ≡ whats
whats_of-by_seat seat [] = refl
whats_of-by_seat seat (what ∷ whats) = ap (λ ws. what ∷ ws) (whats_of-by_seat seat whats)

pub whats_of-append : (front rest : List Event) → whats_of (front ++ rest) ≡ whats_of front ++ whats_of rest
whats_of-append front rest = map-append _ front rest

pub whats_of-one_more : (log : List Event) (e : Event) → whats_of (log ++ e ∷ []) ≡ whats_of log ++ e.what ∷ []
whats_of-one_more log e = whats_of-append log (e ∷ [])

pub window_list-by_seat : (hold : ℕ) (names : List (List ℕ)) (seat : ℕ) (whats : List What) → IsWindowListOf hold names (by_seat seat whats) ↔ IsWindowList hold names whats
window_list-by_seat hold names seat whats = (
  (λ is. subst (IsWindowList hold names) (whats_of-by_seat seat whats) is),
  (λ is. subst (IsWindowList hold names) (sym (whats_of-by_seat seat whats)) is),
)

abbrev one_if : Bool → ℕ
one_if b = cond b 1 0

-- how often a list of what happened gains or loses the handle, and how often it is among handles
abbrev gained : Handle → List What → ℕ
gained h whats = count_by (λ w. is_gain w h) whats

abbrev lost : Handle → List What → ℕ
lost h whats = count_by (λ w. is_loss w h) whats

abbrev times : Handle → List Handle → ℕ
times h handles = count_by (λ k. handle_eq k h) handles

gained-events : (events : List Event) (h : Handle) → gains events h ≡ gained h (whats_of events)
gained-events [] h = refl
gained-events (e ∷ events) h =
    let whole = sum_by-cons (λ (x : Event). one_if (is_gain x.what h)) e events in
    let parts = sum_by-cons (λ (w : What). one_if (is_gain w h)) e.what (whats_of events) in
    omega (arith, whole, parts, gained-events events h)

lost-events : (events : List Event) (h : Handle) → losses events h ≡ lost h (whats_of events)
lost-events [] h = refl
lost-events (e ∷ events) h =
    let whole = sum_by-cons (λ (x : Event). one_if (is_loss x.what h)) e events in
    let parts = sum_by-cons (λ (w : What). one_if (is_loss w h)) e.what (whats_of events) in
    omega (arith, whole, parts, lost-events events h)

-- the Drop of the handle that is let go gains nothing
gained-dropped : (h : Handle) (o : Option Handle) → gained h (dropped_from o) ≡ 0
gained-dropped h None = refl
gained-dropped h (Some k) = refl

gained-let_go : (hold : ℕ) (h : Handle) (handles : List Handle) → gained h (let_go hold handles) ≡ 0
gained-let_go hold h handles = by (nat_lt hold (length handles))
  where
    by : (b : Bool) → gained h (cond b (dropped_from (slice_get handles (length handles - 1 - hold))) []) ≡ 0
    by true = gained-dropped h _
    by false = refl

-- an intern gains its handle once
gained-intern : (name : List ℕ) (x h : Handle) (what : What) → IsCountedIntern name x what → is_gain what h ≡ handle_eq x h
gained-intern name x h what (inl is) = ap (λ w. is_gain w h) is
gained-intern name x h what (inr is) = ap (λ w. is_gain w h) is

lost-intern : (name : List ℕ) (x h : Handle) (what : What) → IsCountedIntern name x what → is_loss what h ≡ false
lost-intern name x h what (inl is) = ap (λ w. is_loss w h) is
lost-intern name x h what (inr is) = ap (λ w. is_loss w h) is

-- one more handle in a window that is full, where one leaves it, and in one with room
module _ (hold : ℕ) (handles : List Handle) (h x : Handle) where
  abbrev longer : List Handle
  longer = handles ++ x ∷ []

  more : length longer ≡ length handles + 1
  more = length-append handles (x ∷ [])

  one : times h (x ∷ []) ≡ one_if (handle_eq x h)
  one = let sum = sum_by-cons (λ k. one_if (handle_eq k h)) x [] in omega (arith, sum)

  abbrev Moves : Type 0
  Moves = times h (finals hold handles) + one_if (handle_eq x h) ≡ lost h (let_go hold longer) + times h (finals hold longer)

  when_full : nat_lt hold (length longer) ≡ true → Moves
  when_full is =
      let room = ltb-true hold (length longer) is in
      let grown = more in
      let n = length handles - hold in
      let within : n < length longer = omega (arith, grown) in
      let first = get_or longer n x in
      let place : length longer - 1 - hold ≡ n = omega (arith, grown) in
      let there : slice_get longer (length longer - 1 - hold) ≡ Some first = ap (slice_get longer) place ∙ slice_get-get_or longer n x within in
      let goes : let_go hold longer ≡ Drop first ∷ [] = ap (λ b. cond b (dropped_from (slice_get longer (length longer - 1 - hold))) []) is ∙ ap dropped_from there in
      let loses : lost h (let_go hold longer) ≡ lost h (Drop first ∷ []) = ap (lost h) goes in
      let dropped = sum_by-cons (λ (w : What). one_if (is_loss w h)) (Drop first) [] in
      let cut : drop n handles ++ x ∷ [] ≡ first ∷ drop (suc n) longer = sym (drop-append-le n handles (x ∷ []) (omega arith)) ∙ drop-cons longer n x within in
      let after : suc n ≡ length longer - hold = omega (arith, grown, room) in
      let left = sum_by-append (λ k. one_if (handle_eq k h)) (drop n handles) (x ∷ []) in
      let right = sum_by-cons (λ k. one_if (handle_eq k h)) first (drop (suc n) longer) in
      let same : times h (drop n handles ++ x ∷ []) ≡ times h (first ∷ drop (suc n) longer) = ap (times h) cut in
      let last : times h (drop (suc n) longer) ≡ times h (finals hold longer) = ap (λ k. times h (drop k longer)) after in
      let single = one in
      omega (arith, left, right, same, last, loses, dropped, single)

  when_room : nat_lt hold (length longer) ≡ false → Moves
  when_room is =
      let room = ltb-false hold (length longer) is in
      let grown = more in
      let before : length handles - hold ≡ 0 = omega (arith, grown, room) in
      let after : length longer - hold ≡ 0 = omega (arith, grown, room) in
      let stays : lost h (let_go hold longer) ≡ 0 = ap (λ b. lost h (cond b (dropped_from (slice_get longer (length longer - 1 - hold))) [])) is in
      let first : times h (finals hold handles) ≡ times h handles = ap (λ k. times h (drop k handles)) before in
      let second : times h (finals hold longer) ≡ times h longer = ap (λ k. times h (drop k longer)) after in
      let left = sum_by-append (λ k. one_if (handle_eq k h)) handles (x ∷ []) in
      let single = one in
      omega (arith, stays, first, second, left, single)

  moves : (b : Bool) → nat_lt hold (length longer) ≡ b → Moves
  moves true is = when_full is
  moves false is = when_room is

-- what a window run gains and loses of a handle, by what is held before it and after it
run_holds : (hold : ℕ) (before : List Handle) (names : List (List ℕ)) (whats : List What) (after : List Handle) (h : Handle) → IsWindowRun hold before names whats after →
    gained h whats + times h (finals hold before) ≡ lost h whats + times h (finals hold after)
run_holds hold before [] whats after h run =
    let gain : gained h whats ≡ 0 = ap (gained h) run.0 in
    let loss : lost h whats ≡ 0 = ap (lost h) run.0 in
    let same : times h (finals hold after) ≡ times h (finals hold before) = ap (λ hs. times h (finals hold hs)) run.1 in
    omega (arith, gain, loss, same)
run_holds hold before (name ∷ names) whats after h (x, what, rest, intern, is, run) =
    let goes = let_go hold (before ++ x ∷ []) in
    let gain_all : gained h whats ≡ gained h (what ∷ (goes ++ rest)) = ap (gained h) is in
    let gain_first = sum_by-cons (λ (w : What). one_if (is_gain w h)) what (goes ++ rest) in
    let gain_rest = sum_by-append (λ (w : What). one_if (is_gain w h)) goes rest in
    let gain_none = gained-let_go hold h (before ++ x ∷ []) in
    let gain_one : one_if (is_gain what h) ≡ one_if (handle_eq x h) = ap one_if (gained-intern name x h what intern) in
    let loss_all : lost h whats ≡ lost h (what ∷ (goes ++ rest)) = ap (lost h) is in
    let loss_first = sum_by-cons (λ (w : What). one_if (is_loss w h)) what (goes ++ rest) in
    let loss_rest = sum_by-append (λ (w : What). one_if (is_loss w h)) goes rest in
    let loss_none : one_if (is_loss what h) ≡ 0 = ap one_if (lost-intern name x h what intern) in
    let step = moves hold before h x (nat_lt hold (length (before ++ x ∷ []))) refl in
    let later = run_holds hold (before ++ x ∷ []) names rest after h run in
    omega (arith, gain_all, gain_first, gain_rest, gain_none, gain_one, loss_all, loss_first, loss_rest, loss_none, step, later)

pub held_after : (hold : ℕ) (names : List (List ℕ)) (events : List Event) (handles : List Handle) (h : Handle) → IsWindowRun hold [] names (whats_of events) handles →
    gains events h ≡ losses events h + count_by (λ k. handle_eq k h) (finals hold handles)
held_after hold names events handles h run =
    let whole = run_holds hold [] names (whats_of events) handles h run in
    let gain = gained-events events h in
    let loss = lost-events events h in
    let none : times h (finals hold []) ≡ 0 = ap (times h) (drop-nil (0 - hold)) in
    omega (arith, whole, gain, loss, none)

-- name by name, the events intern it as the handle
abbrev Matched : List What → List (List ℕ) → List Handle → Type 0
Matched whats [] [] = Unit {0}
Matched whats (name ∷ names) (h ∷ handles) = ((what : What) × Contains whats what × IsCountedIntern name h what) × Matched whats names handles
Matched whats _ _ = ⊥

matched-more : (front whats : List What) (names : List (List ℕ)) (handles : List Handle) → Matched whats names handles → Matched (front ++ whats) names handles
matched-more front whats [] [] all = tt
matched-more front whats (name ∷ names) (h ∷ handles) (one, rest) = ((one.0, Contains-append_right front whats one.0 one.1, one.2), matched-more front whats names handles rest)
matched-more front whats [] (h ∷ handles) all = absurd all
matched-more front whats (name ∷ names) [] all = absurd all

matched-drop : (n : ℕ) (whats : List What) (names : List (List ℕ)) (handles : List Handle) → Matched whats names handles → Matched whats (drop n names) (drop n handles)
matched-drop zero whats names handles all = all
matched-drop (suc n) whats [] [] all = tt
matched-drop (suc n) whats (name ∷ names) (h ∷ handles) all = matched-drop n whats names handles all.1
matched-drop (suc n) whats [] (h ∷ handles) all = absurd all
matched-drop (suc n) whats (name ∷ names) [] all = absurd all

matched-length : (whats : List What) (names : List (List ℕ)) (handles : List Handle) → Matched whats names handles → length handles ≡ length names
matched-length whats [] [] all = refl
matched-length whats (name ∷ names) (h ∷ handles) all = ap suc (matched-length whats names handles all.1)
matched-length whats [] (h ∷ handles) all = absurd all
matched-length whats (name ∷ names) [] all = absurd all

matched-at : (whats : List What) (names : List (List ℕ)) (handles : List Handle) (i : ℕ) (name : List ℕ) (h : Handle) → Matched whats names handles →
    slice_get names i ≡ Some name → slice_get handles i ≡ Some h → (what : What) × Contains whats what × IsCountedIntern name h what
matched-at whats [] handles i name h all named at = absurd (cc)
matched-at whats (n ∷ names) [] i name h all named at = absurd (cc)
matched-at whats (n ∷ names) (k ∷ handles) zero name h ((what, here, intern), rest) named at =
    let same_name : n ≡ name = cc in
    let same_handle : k ≡ h = cc in
    (what, here, subst (λ m. IsCountedIntern m h what) same_name (subst (λ m. IsCountedIntern n m what) same_handle intern))
matched-at whats (n ∷ names) (k ∷ handles) (suc i) name h all named at = matched-at whats names handles i name h all.1 named at

-- the handles that a window run puts in are those of its names
run_matched : (hold : ℕ) (before : List Handle) (names : List (List ℕ)) (whats : List What) (after : List Handle) → IsWindowRun hold before names whats after →
    (handles : List Handle) × (after ≡ before ++ handles) × Matched whats names handles
run_matched hold before [] whats after run = ([], run.1 ∙ sym (append-nil before), tt)
run_matched hold before (name ∷ names) whats after (x, what, rest, intern, is, run) =
    let (handles, at, all) = run_matched hold (before ++ x ∷ []) names rest after run in
    let goes = let_go hold (before ++ x ∷ []) in (
      x ∷ handles,
      at ∙ append_assoc before (x ∷ []) handles,
      (
        (what, subst (λ ws. Contains ws what) (sym is) (0, omega arith, refl), intern),
        subst (λ ws. Matched ws names handles) (sym is) (matched-more (what ∷ goes) rest names handles all),
      ),
    )

pub stay_after : (hold : ℕ) (names : List (List ℕ)) (whats : List What) (handles : List Handle) → IsWindowRun hold [] names whats handles →
    (length (finals hold handles) ≡ length (finals hold names))
    × ((i : ℕ) (name : List ℕ) (h : Handle) → slice_get (finals hold names) i ≡ Some name → slice_get (finals hold handles) i ≡ Some h → (what : What) × Contains whats what × IsCountedIntern name h what)
stay_after hold names whats handles run =
    let (all_handles, at, all) = run_matched hold [] names whats handles run in
    let matched : Matched whats names handles = subst (Matched whats names) (sym at) all in
    let lengths : length handles ≡ length names = matched-length whats names handles matched in
    let finals_are : Matched whats (finals hold names) (finals hold handles) =
    subst (λ n. Matched whats (finals hold names) (drop (n - hold) handles)) (sym lengths) (matched-drop (length names - hold) whats names handles matched) in
    (matched-length whats _ _ finals_are, (λ i name h named held. matched-at whats _ _ i name h finals_are named held))
