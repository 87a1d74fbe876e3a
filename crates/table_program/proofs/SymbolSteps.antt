-- One more name: its intern, and the Drop of the handle that leaves the window.
use Rattle.std.proofs.Common.{◌≡◌, ℕ, zero, suc, ◌+◌, ◌-◌, ◌<◌, ◌≤◌, Bool, true, false, cond, List, [], ◌∷◌, ◌++◌, Some, None, map, length, refl, sym, ap, subst, ◌∙◌, inl, inr, arith, length-append, length-drop, add-zero, append_assoc, nat_lt}
use Rattle.std.specs.Prelude.{slice_get}
use Rattle.std.proofs.lemmas.List.{length-map, map-append}
use Rattle.std.proofs.lemmas.Bool.{le-ltb, lt-ltb, ltb-true, ltb-false}
use Rattle.intern_log.specs.declared.event.Handle.{Handle}
use Rattle.intern_log.specs.declared.event.What.{What}
use Rattle.intern_log.specs.declared.event.What.TheVariants.{Create, Take, Drop}
use Rattle.intern_log.specs.TextMap.{TextMap, IsLive}
use Rattle.intern_log.specs.Log.{next, Allows, HandlesDiffer}
use Rattle.intern_log.specs.Counts.{is_create, is_take, is_drop}
use Rattle.intern_log.specs.Finals.{finals}
use Rattle.intern_log.specs.Window.{IsCountedIntern, let_go, dropped_from, IsWindowRun}
use Rattle.intern_log.proofs.Handles.{live_handles_differ_lem}
use Rattle.intern_log.proofs.PlainLogLaws.{IsWindowRun-push}
use Rattle.table_report.specs.declared.SymbolCounts.{SymbolCounts}
use Rattle.table_program.specs.Holding.{Held, Holds}
use Rattle.table_program.specs.OneSeatLog.{OneSeatLog}
use Rattle.table_program.specs.SymbolRun.{held_texts, held_handles, CountsOf, CountsOneMore, SymbolRun, NameInterned}
use Rattle.table_program.proofs.Options.{no_item, same_item}
use Rattle.table_program.proofs.Pushes.{count-push, OneSeatLog-push}
use Rattle.table_program.proofs.FinalItems.{Leaves, finals-push_room, finals-push_full, finals-map, length-finals, finals-again}
use Rattle.table_program.proofs.Holds.{Holds-create, Holds-take, Holds-drop, held_is_live}

-- an intern adds one hold on its text
intern_holds : (m : TextMap) (held : List Held) (t : List ℕ) (h : Handle) (what : What) → Holds m held → IsCountedIntern t h what → Allows m what → length held < 65535 → Holds (next m what) (held ++ (t, h) ∷ [])
intern_holds m held t h what holds (inl is) allowed few =
    let create : Allows m (Create t h) = subst (Allows m) is allowed in
    subst (λ w. Holds (next m w) (held ++ (t, h) ∷ [])) (sym is) (Holds-create m held t h holds create.0)
intern_holds m held t h what holds (inr is) allowed few =
    let take : Allows m (Take t h) = subst (Allows m) is allowed in
    subst (λ w. Holds (next m w) (held ++ (t, h) ∷ [])) (sym is) (Holds-take m held t h holds take few)

-- an item of a mapped list
slice_get-map : {X Y : Type 0} (f : X → Y) (xs : List X) (i : ℕ) (x : X) → slice_get xs i ≡ Some x → slice_get (map f xs) i ≡ Some (f x)
slice_get-map f [] i x is = absurd (no_item x (sym is))
slice_get-map f (y ∷ ys) zero x is = let same : y ≡ x = cc in ap (λ z. Some (f z)) same
slice_get-map f (y ∷ ys) (suc i) x is = slice_get-map f ys i x is

CountsOf-push : (whats : List What) (what : What) (old new : SymbolCounts) → CountsOf whats old → CountsOneMore old what new → CountsOf (whats ++ what ∷ []) new
CountsOf-push whats what old new of_old more = record {
  created = more.created ∙ ap (λ n. n + cond (is_create what) 1 0) of_old.created ∙ sym (count-push is_create whats what);
  taken = more.taken ∙ ap (λ n. n + cond (is_take what) 1 0) of_old.taken ∙ sym (count-push is_take whats what);
  dropped = more.dropped ∙ ap (λ n. n + cond (is_drop what) 1 0) of_old.dropped ∙ sym (count-push is_drop whats what);
}

abbrev one_if : Bool → ℕ
one_if b = cond b 1 0

-- an intern is one Create or Take and no Drop
record IsOneIntern (what : What) : Type 0 where
  one : one_if (is_create what) + one_if (is_take what) ≡ suc zero
  no_drop : one_if (is_drop what) ≡ zero

is_one_intern : (t : List ℕ) (h : Handle) (what : What) → IsCountedIntern t h what → IsOneIntern what
is_one_intern t h what (inl is) = subst IsOneIntern (sym is) (record { one = refl; no_drop = refl })
is_one_intern t h what (inr is) = subst IsOneIntern (sym is) (record { one = refl; no_drop = refl })

-- the numbers of names and of their parts
names_length : (pairs : List Held) (names : List (List ℕ)) → held_texts pairs ≡ names → length pairs ≡ length names
names_length pairs names are = sym (length-map pairs (λ (p : Held). p.0)) ∙ ap length are

handles_length : (pairs : List Held) → length (held_handles pairs) ≡ length pairs
handles_length pairs = length-map pairs (λ (p : Held). p.1)

window_length : (hold : ℕ) (pairs : List Held) (window : List Handle) → window ≡ finals hold (held_handles pairs) → length window ≡ length pairs - (length pairs - hold)
window_length hold pairs window is =
    ap length is ∙ length-drop (length (held_handles pairs) - hold) (held_handles pairs) ∙ ap (λ n. n - (n - hold)) (handles_length pairs)

pushed_handles : (pairs : List Held) (t : List ℕ) (h : Handle) → held_handles (pairs ++ (t, h) ∷ []) ≡ held_handles pairs ++ h ∷ []
pushed_handles pairs t h = map-append (λ (p : Held). p.1) pairs ((t, h) ∷ [])

-- what leaves the window, while there is room and when it is full
let_go_room : (hold : ℕ) (handles : List Handle) → length handles ≤ hold → let_go hold handles ≡ []
let_go_room hold handles room = ap (λ b. cond b (dropped_from (slice_get handles (length handles - 1 - hold))) []) (le-ltb hold (length handles) room)

let_go_full : (hold : ℕ) (handles : List Handle) (k : Handle) → hold < length handles → slice_get handles (length handles - 1 - hold) ≡ Some k → let_go hold handles ≡ Drop k ∷ []
let_go_full hold handles k full is = ap (λ b. cond b (dropped_from (slice_get handles (length handles - 1 - hold))) []) (lt-ltb hold (length handles) full) ∙ ap dropped_from is

module _ (hold : ℕ) (names : List (List ℕ)) (name : List ℕ) (h : Handle) (texts : TextMap) (created : ℕ) (window : List Handle) (counts : SymbolCounts)
    (now : NameInterned hold names name h texts created window counts) where
  all_pairs : List Held
  all_pairs = now.before.pairs ++ (name, h) ∷ []

  all_names : held_texts all_pairs ≡ names ++ name ∷ []
  unfolding all_pairs
  all_names = map-append (λ (p : Held). p.0) now.before.pairs ((name, h) ∷ []) ∙ ap (λ ns. ns ++ name ∷ []) now.before.names_are

  log_now : OneSeatLog (now.before.whats ++ now.what ∷ []) texts created
  log_now =
      let pushed = OneSeatLog-push now.before.whats now.what now.old_texts now.old_created now.before.log now.allowed now.numbered in
      subst (λ m. OneSeatLog (now.before.whats ++ now.what ∷ []) m created) (sym now.texts_are)
      (subst (λ n. OneSeatLog (now.before.whats ++ now.what ∷ []) (next now.old_texts now.what) n) (sym now.created_are) pushed)

  -- with the new name in place, before anything leaves the window
  holds_now : hold < 65535 → Holds texts (finals hold now.before.pairs ++ (name, h) ∷ [])
  holds_now few =
      let within = length-finals hold now.before.pairs in
      subst (λ m. Holds m (finals hold now.before.pairs ++ (name, h) ∷ [])) (sym now.texts_are)
      (intern_holds now.old_texts (finals hold now.before.pairs) name h now.what now.before.holds now.intern now.allowed (omega arith))

  run_now : (lets : List What) → let_go hold (held_handles now.before.pairs ++ h ∷ []) ≡ lets →
      IsWindowRun hold [] (names ++ name ∷ []) (now.before.whats ++ now.what ∷ lets) (held_handles all_pairs)
  unfolding all_pairs
  run_now lets are =
      let pushed = IsWindowRun-push hold [] names now.before.whats (held_handles now.before.pairs) name h now.what now.before.run now.intern in
      subst (λ hs. IsWindowRun hold [] (names ++ name ∷ []) (now.before.whats ++ now.what ∷ lets) hs) (sym (pushed_handles now.before.pairs name h))
      (subst (λ ws. IsWindowRun hold [] (names ++ name ∷ []) (now.before.whats ++ now.what ∷ ws) (held_handles now.before.pairs ++ h ∷ [])) are pushed)

  names_now : counts.created + counts.taken ≡ length (names ++ name ∷ [])
  names_now =
      let one = is_one_intern name h now.what now.intern in
      let more = length-append names (name ∷ []) in
      omega (arith, one.one, now.counts_are.created, now.counts_are.taken, now.before.all_names)

  window_now : window ++ h ∷ [] ≡ held_handles (finals hold now.before.pairs ++ (name, h) ∷ [])
  window_now =
      ap (λ hs. hs ++ h ∷ []) (now.before.window_is ∙ sym (finals-map (λ (p : Held). p.1) hold now.before.pairs)) ∙ sym (pushed_handles (finals hold now.before.pairs) name h)

  window_after : 0 < hold → finals hold (window ++ h ∷ []) ≡ finals hold (held_handles all_pairs)
  unfolding all_pairs
  window_after some =
      ap (λ hs. finals hold (hs ++ h ∷ [])) now.before.window_is ∙ finals-again hold (held_handles now.before.pairs) h some ∙ ap (finals hold) (sym (pushed_handles now.before.pairs name h))

  pairs_length : length window ≡ length now.before.pairs - (length now.before.pairs - hold)
  pairs_length = window_length hold now.before.pairs window now.before.window_is

  few_drops_now : counts.dropped ≤ length names
  few_drops_now =
      let one = is_one_intern name h now.what now.intern in
      omega (arith, one.no_drop, now.counts_are.dropped, now.before.few_drops)

  -- there is room: nothing leaves
  pub after_room : 0 < hold → hold < 65535 → length window < hold → SymbolRun hold (names ++ name ∷ []) texts created (finals hold (window ++ h ∷ [])) counts
  unfolding all_pairs
  after_room some few room =
      let fewer : length now.before.pairs < hold = omega (arith, pairs_length) in
      let handles = handles_length now.before.pairs in
      let nothing = let_go_room hold (held_handles now.before.pairs ++ h ∷ []) (omega (arith, length-append (held_handles now.before.pairs) (h ∷ []))) in
      record {
        whats = now.before.whats ++ now.what ∷ [];
        pairs = all_pairs;
        names_are = all_names;
        run = run_now [] nothing;
        log = log_now;
        window_is = window_after some;
        holds = subst (Holds texts) (sym (finals-push_room hold now.before.pairs (name, h) fewer)) (holds_now few);
        counted = CountsOf-push now.before.whats now.what now.old_counts counts now.before.counted now.counts_are;
        all_names = names_now;
        few_drops = omega (arith, few_drops_now, length-append names (name ∷ []));
      }

  -- the window is full: the handle at its front leaves, which is live
  leaving : 0 < hold → hold ≤ length window → Leaves hold now.before.pairs (name, h)
  leaving some full = finals-push_full hold now.before.pairs (name, h) (omega (arith, pairs_length)) some

  leaving_is : (some : 0 < hold) (full : hold ≤ length window) (k : Handle) → slice_get (window ++ h ∷ []) 0 ≡ Some k → (leaving some full).first.1 ≡ k
  leaving_is some full k is =
      same_item _ _ (sym (ap (λ hs. slice_get hs 0) (window_now ∙ ap held_handles (leaving some full).rest)) ∙ is)

  holds_leaving : (some : 0 < hold) (full : hold ≤ length window) → hold < 65535 → Holds texts ((leaving some full).first ∷ finals hold all_pairs)
  unfolding all_pairs
  holds_leaving some full few = subst (Holds texts) (leaving some full).rest (holds_now few)

  pub leaving_is_live : 0 < hold → hold ≤ length window → hold < 65535 → (k : Handle) → slice_get (window ++ h ∷ []) 0 ≡ Some k → IsLive texts k
  leaving_is_live some full few k is =
      let first = (leaving some full).first in
      subst (IsLive texts) (leaving_is some full k is) (held_is_live texts (finals hold all_pairs) first.0 first.1 (holds_leaving some full few))

  run_full : (some : 0 < hold) (full : hold ≤ length window) (k : Handle) → slice_get (window ++ h ∷ []) 0 ≡ Some k → let_go hold (held_handles now.before.pairs ++ h ∷ []) ≡ Drop k ∷ []
  run_full some full k is =
      let handles = held_handles now.before.pairs ++ h ∷ [] in
      let count : length handles ≡ length now.before.pairs + 1 = omega (arith, length-append (held_handles now.before.pairs) (h ∷ []), handles_length now.before.pairs) in
      let at_place = slice_get-map (λ (p : Held). p.1) (now.before.pairs ++ (name, h) ∷ []) (length now.before.pairs - hold) (leaving some full).first (leaving some full).place in
      let index : length handles - 1 - hold ≡ length now.before.pairs - hold = omega arith in
      let place : slice_get handles (length handles - 1 - hold) ≡ Some k =
      ap (slice_get handles) index ∙ ap (λ hs. slice_get hs (length now.before.pairs - hold)) (sym (pushed_handles now.before.pairs name h)) ∙ at_place ∙ ap (λ x. Some x) (leaving_is some full k is) in
      let_go_full hold handles k (omega (arith, pairs_length)) place

  pub after_full : 0 < hold → hold ≤ length window → hold + 1 < 65535 → (k : Handle) (dropped : SymbolCounts) → slice_get (window ++ h ∷ []) 0 ≡ Some k → CountsOneMore counts (Drop k) dropped →
      SymbolRun hold (names ++ name ∷ []) (next texts (Drop k)) created (finals hold (window ++ h ∷ [])) dropped
  unfolding all_pairs
  after_full some full few k dropped is more =
      let live = leaving_is_live some full (omega arith) k is in
      let first = (leaving some full).first in
      let fewer = length-finals hold all_pairs in
      let differ : HandlesDiffer texts = subst HandlesDiffer log_now.texts_are (live_handles_differ_lem _ log_now.legal) in
      let let_one = Holds-drop texts (finals hold all_pairs) first.0 first.1 (holds_leaving some full (omega arith)) differ (omega arith) in
      let two : (now.before.whats ++ now.what ∷ []) ++ Drop k ∷ [] ≡ now.before.whats ++ now.what ∷ (Drop k ∷ []) = append_assoc now.before.whats (now.what ∷ []) (Drop k ∷ []) in
      let pushed = OneSeatLog-push (now.before.whats ++ now.what ∷ []) (Drop k) texts created log_now live tt in
      record {
        whats = (now.before.whats ++ now.what ∷ []) ++ Drop k ∷ [];
        pairs = all_pairs;
        names_are = all_names;
        run = subst (λ ws. IsWindowRun hold [] (names ++ name ∷ []) ws (held_handles all_pairs)) (sym two) (run_now (Drop k ∷ []) (run_full some full k is));
        log = subst (OneSeatLog ((now.before.whats ++ now.what ∷ []) ++ Drop k ∷ []) (next texts (Drop k))) (add-zero created) pushed;
        window_is = window_after some;
        holds = subst (λ x. Holds (next texts (Drop x)) (finals hold all_pairs)) (leaving_is some full k is) let_one;
        counted = CountsOf-push _ (Drop k) counts dropped (CountsOf-push now.before.whats now.what now.old_counts counts now.before.counted now.counts_are) more;
        all_names = omega (arith, more.created, more.taken, names_now);
        few_drops = omega (arith, more.dropped, few_drops_now, length-append names (name ∷ []));
      }

-- what the push of a handle tells of the window
pub pushed_out : (hold : ℕ) (window : List Handle) (h k : Handle) → Some k ≡ cond (nat_lt (length window) hold) None (slice_get (window ++ h ∷ []) 0) →
    (hold ≤ length window) × (slice_get (window ++ h ∷ []) 0 ≡ Some k)
pushed_out hold window h k is = by_test (nat_lt (length window) hold) refl is
  where
    by_test : (b : Bool) → nat_lt (length window) hold ≡ b → Some k ≡ cond b None (slice_get (window ++ h ∷ []) 0) → (hold ≤ length window) × (slice_get (window ++ h ∷ []) 0 ≡ Some k)
    by_test true test none = absurd (no_item k none)
    by_test false test some = (ltb-false (length window) hold test, sym some)

pub none_out : (hold : ℕ) (window : List Handle) (h : Handle) → None ≡ cond (nat_lt (length window) hold) None (slice_get (window ++ h ∷ []) 0) → length window < hold
none_out hold window h is = by_test (nat_lt (length window) hold) refl is
  where
    front : (hs : List Handle) → None ≡ slice_get (hs ++ h ∷ []) 0 → ⊥
    front [] none = no_item h (sym none)
    front (x ∷ hs) none = no_item x (sym none)

    by_test : (b : Bool) → nat_lt (length window) hold ≡ b → None ≡ cond b None (slice_get (window ++ h ∷ []) 0) → length window < hold
    by_test true test none = ltb-true (length window) hold test
    by_test false test none = absurd (front window none)

-- the same run, where the interner's parts and the window are called by other names
pub SymbolRun-along : (hold : ℕ) (names : List (List ℕ)) (m n : TextMap) (i j : ℕ) (v w : List Handle) (counts : SymbolCounts) →
    m ≡ n → i ≡ j → v ≡ w → SymbolRun hold names m i v counts → SymbolRun hold names n j w counts
SymbolRun-along hold names m n i j v w counts texts created window run =
    subst (λ x. SymbolRun hold names n j x counts) window (subst (λ x. SymbolRun hold names n x v counts) created (subst (λ x. SymbolRun hold names x i v counts) texts run))

-- a Drop is one more drop
pub dropped_once : (counts : SymbolCounts) (k : Handle) → CountsOneMore counts (Drop k) (record counts { dropped = counts.dropped + 1 })
dropped_once counts k = record { created = sym (add-zero counts.created); taken = sym (add-zero counts.taken); dropped = refl }
