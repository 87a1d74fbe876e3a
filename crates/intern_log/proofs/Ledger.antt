-- In a Counted log, the count of an entry is what its callers hold, and a handle that is gone is held by nobody.
use Rattle.std.proofs.Common.{◌≡◌, ℕ, Bool, true, false, cond, List, [], ◌∷◌, ◌++◌, ◌+◌, ◌-◌, ◌⊎◌, ◌<◌, ◌≤◌, ◌==◌, nat_le, min, Option, Some, None, inl, inr, refl, sym, ap, subst, ◌∙◌}
use native.Mathlib.Omega.{arith}
use Rattle.std.specs.Bool.{Decides}
use Rattle.std.specs.List.{list_any}
use Rattle.std.specs.Str.{bytes_eq}
use Rattle.std.proofs.lemmas.List.{append-nil}
use Rattle.std.proofs.lemmas.List.Sums.{sum_by-cons}
use Rattle.std.specs.Option.{option_map, option_and_then}
use Rattle.std.proofs.lemmas.Bool.{leb-true, leb-false}
use Rattle.std.proofs.lemmas.Bool.Decides.{Decides-eqb, not_from_Decides}
use Rattle.std.proofs.lemmas.Slice.Eq.{bytes_eq-Decides}
use Rattle.intern_log.specs.declared.event.Handle.{Handle}
use Rattle.intern_log.specs.declared.event.Entry.{Entry}
use Rattle.intern_log.specs.declared.event.What.{What}
use Rattle.intern_log.specs.declared.event.Event.{Event}
use Rattle.intern_log.specs.declared.event.Kind.TheVariants.{Counted, Weak}
use Rattle.intern_log.specs.declared.event.What.TheVariants.{Create, Take, Found, Drop, Perm, Kill, Claim, Free, Open, Close, Grace, Lock, Unlock, Unlink, ResizeTaken, ResizeGiven, Level, Rehash}
use Rattle.intern_log.specs.TextMap.{TextMap, no_texts, entry_of, handle_eq, IsLive, at_handle}
use Rattle.intern_log.specs.Log.{next, new_entry, raised, lowered, made_permanent, Allows, map_after, map_of, IsLegalFrom, HandlesDiffer}
use Rattle.intern_log.specs.Own.{is_gain, is_loss, gains, losses}
use Rattle.intern_log.specs.Counts.{is_kill}
use Rattle.intern_log.specs.Now.{Now, opening, now_after_event}
use Rattle.intern_log.specs.declared.event.TableKind.{TableKind}
use Rattle.intern_log.specs.Lawful.{MayFollow, IsAllowedFrom, IsLawful}
use Rattle.intern_log.specs.Ledger.{MeetsLedger}
use Rattle.intern_log.proofs.Entries.{entry_of-next}
use Rattle.intern_log.proofs.Handles.{KeepsHandles, lowered_keeps, same_entry, handle_eq-Decides, HandlesDiffer-next, HandlesDiffer-none, no_text_has}
use Rattle.intern_log.proofs.LawfulLaws.{IsLawful-prefix, lawful_is_legal}
use Rattle.intern_log.proofs.Slots.{neither}
use Rattle.intern_log.proofs.Graced.{or_false}

-- what is known of a handle that was gained and lost so often
pub record Book (m : TextMap) (k : Handle) (gained lost : ℕ) : Type 0 where
  live : (t : List ℕ) (e : Entry) → entry_of m t ≡ Some e → e.handle ≡ k → (1 ≤ e.count) × (e.count < 65535 → gained ≡ lost + e.count)
  either : IsLive m k ⊎ (gained ≡ lost)

-- a handle that is not live was lost as often as gained
gone_of : (m : TextMap) (k : Handle) (gained lost : ℕ) → Book m k gained lost → ¬ (IsLive m k) → gained ≡ lost
gone_of m k gained lost book dead = elim book.either [
  | inl alive ↦ absurd (dead alive)
  | inr equal ↦ equal
]

-- by a test
split : {A : Type 0} (b : Bool) → (b ≡ true → A) → (b ≡ false → A) → A
split true first second = first refl
split false first second = second refl

-- the entries with a handle are the same in two maps
record SameOf (m n : TextMap) (k : Handle) : Type 0 where
  forth : (t : List ℕ) (e : Entry) → entry_of m t ≡ Some e → e.handle ≡ k → entry_of n t ≡ Some e
  back : (t : List ℕ) (e : Entry) → entry_of n t ≡ Some e → e.handle ≡ k → entry_of m t ≡ Some e

same_book : (m n : TextMap) (k : Handle) (gained lost : ℕ) → SameOf m n k → Book m k gained lost → Book n k gained lost
same_book m n k gained lost same book = record {
  live = λ t e is at. book.live t e (same.back t e is at) at;
  either = elim book.either [
    | inl alive ↦ inl (alive.0, (alive.1.0, same.forth alive.0 alive.1.0 alive.1.1 alive.1.2, alive.1.2))
    | inr equal ↦ inr equal
  ];
}

-- a change of the entry of another handle
other_back : (change : Entry → Option Entry) (h k : Handle) (o : Option Entry) (f : Entry) → KeepsHandles change → ¬ (h ≡ k) →
    option_and_then (at_handle h change) o ≡ Some f → f.handle ≡ k → o ≡ Some f
other_back change h k None f keeps differ is at = absurd (cc)
other_back change h k (Some e) f keeps differ is at = by (handle_eq e.handle h) (handle_eq-Decides e.handle h) is
  where
    by : (b : Bool) → Decides b (e.handle ≡ h) → cond b (change e) (Some e) ≡ Some f → Some e ≡ Some f
    by true decided made = absurd (differ (sym (decided.0 refl) ∙ sym (keeps e f made) ∙ at))
    by false decided made = made

other_forth : (change : Entry → Option Entry) (h k : Handle) (o : Option Entry) (e : Entry) → ¬ (h ≡ k) → o ≡ Some e → e.handle ≡ k →
    option_and_then (at_handle h change) o ≡ Some e
other_forth change h k o e differ is at = ap (option_and_then (at_handle h change)) is ∙ by (handle_eq e.handle h) (handle_eq-Decides e.handle h)
  where
    by : (b : Bool) → Decides b (e.handle ≡ h) → cond b (change e) (Some e) ≡ Some e
    by true decided = absurd (differ (sym (decided.0 refl) ∙ at))
    by false decided = refl

other_alter : (change : Entry → Option Entry) (m n : TextMap) (h k : Handle) → KeepsHandles change → ¬ (h ≡ k) →
    ((t : List ℕ) → entry_of n t ≡ option_and_then (at_handle h change) (entry_of m t)) → SameOf m n k
other_alter change m n h k keeps differ after = record {
  forth = λ t e is at. after t ∙ other_forth change h k (entry_of m t) e differ is at;
  back = λ t e is at. other_back change h k (entry_of m t) e keeps differ (sym (after t) ∙ is) at;
}

permanent_keeps : KeepsHandles (λ e. Some (made_permanent e))
permanent_keeps e f is = same_entry (made_permanent e) f is

-- a Create of another handle
other_create : (m : TextMap) (u : List ℕ) (h k : Handle) → Allows m (Create u h) → ¬ (h ≡ k) → SameOf m (next m (Create u h)) k
other_create m u h k allowed differ = record {
  forth = λ t e is at. entry_of-next m (Create u h) t ∙ forth (bytes_eq t u) t e (bytes_eq-Decides t u) is;
  back = λ t e is at. back (bytes_eq t u) (entry_of m t) e (sym (entry_of-next m (Create u h) t) ∙ is) at;
}
  where
    forth : (b : Bool) (t : List ℕ) (e : Entry) → Decides b (t ≡ u) → entry_of m t ≡ Some e → cond b (Some (new_entry h)) (entry_of m t) ≡ Some e
    forth true t e decided is = let none = ap (entry_of m) (decided.0 refl) ∙ allowed.0 in absurd (cc)
    forth false t e decided is = is

    back : (b : Bool) (o : Option Entry) (e : Entry) → cond b (Some (new_entry h)) o ≡ Some e → e.handle ≡ k → o ≡ Some e
    back true o e is at = absurd (differ (sym (same_entry (new_entry h) e is) ∙ at))
    back false o e is at = is

-- a Take of another handle
other_take : (m : TextMap) (u : List ℕ) (h k : Handle) → Allows m (Take u h) → ¬ (h ≡ k) → SameOf m (next m (Take u h)) k
other_take m u h k allowed differ = record {
  forth = λ t e is at. entry_of-next m (Take u h) t ∙ forth (bytes_eq t u) t e (bytes_eq-Decides t u) is at;
  back = λ t e is at. back (bytes_eq t u) t e (bytes_eq-Decides t u) (sym (entry_of-next m (Take u h) t) ∙ is) at;
}
  where
    has_h : (t : List ℕ) (e : Entry) → t ≡ u → entry_of m t ≡ Some e → h ≡ e.handle
    has_h t e same is = sym allowed.2 ∙ sym (same_entry allowed.0 e (sym allowed.1 ∙ ap (entry_of m) (sym same) ∙ is))

    forth : (b : Bool) (t : List ℕ) (e : Entry) → Decides b (t ≡ u) → entry_of m t ≡ Some e → e.handle ≡ k → cond b (option_map raised (entry_of m t)) (entry_of m t) ≡ Some e
    forth true t e decided is at = absurd (differ (has_h t e (decided.0 refl) is ∙ at))
    forth false t e decided is at = is

    back : (b : Bool) (t : List ℕ) (e : Entry) → Decides b (t ≡ u) → cond b (option_map raised (entry_of m t)) (entry_of m t) ≡ Some e → e.handle ≡ k → entry_of m t ≡ Some e
    back true t e decided is at =
        let there = ap (entry_of m) (decided.0 refl) ∙ allowed.1 in
        let raised_there : Some (raised allowed.0) ≡ Some e = sym (ap (option_map raised) there) ∙ is in
        absurd (differ (sym allowed.2 ∙ sym (same_entry (raised allowed.0) e raised_there) ∙ at))
    back false t e decided is at = is

-- the counts of the events by one more event
abbrev one_if : Bool → ℕ
one_if b = cond b 1 0

count_of : (e f : Entry) → Some e ≡ Some f → e.count ≡ f.count
count_of e f is = let same : e ≡ f = cc in ap (λ (x : Entry). x.count) same

-- a Create of this handle
book-create : (m : TextMap) (u : List ℕ) (h : Handle) (gained lost : ℕ) → Allows m (Create u h) → Book m h gained lost → Book (next m (Create u h)) h (gained + 1) lost
book-create m u h gained lost allowed book = record {
  live = λ t e is at. live (bytes_eq t u) t e (sym (entry_of-next m (Create u h) t) ∙ is) at;
  either = inl (u, (new_entry h, entry_of-next m (Create u h) u ∙ ap (λ b. cond b (Some (new_entry h)) (entry_of m u)) ((bytes_eq-Decides u u).1 refl), refl));
}
  where
    live : (b : Bool) (t : List ℕ) (e : Entry) → cond b (Some (new_entry h)) (entry_of m t) ≡ Some e → e.handle ≡ h → (1 ≤ e.count) × (e.count < 65535 → gained + 1 ≡ lost + e.count)
    live true t e is at =
        let one = count_of (new_entry h) e is in let before = gone_of m h gained lost book allowed.1 in
        (omega (arith, one), (λ below. omega (arith, one, before)))
    live false t e is at = absurd (allowed.1 (t, (e, is, at)))

not_here : {P : Type 0} → Decides false P → P → ⊥
not_here decided p = let never : false ≡ true = decided.1 p in cc

-- a Take of this handle
book-take : (m : TextMap) (u : List ℕ) (h : Handle) (gained lost : ℕ) → HandlesDiffer m → Allows m (Take u h) → Book m h gained lost → Book (next m (Take u h)) h (gained + 1) lost
book-take m u h gained lost differ allowed book = record {
  live = λ t e is at. live (bytes_eq t u) t e (bytes_eq-Decides t u) (sym (entry_of-next m (Take u h) t) ∙ is) at;
  either = inl (
    u,
    (
      raised allowed.0,
      entry_of-next m (Take u h) u ∙ ap (λ b. cond b (option_map raised (entry_of m u)) (entry_of m u)) ((bytes_eq-Decides u u).1 refl) ∙ ap (option_map raised) allowed.1,
      allowed.2,
    ),
  );
}
  where
    live : (b : Bool) (t : List ℕ) (e : Entry) → Decides b (t ≡ u) → cond b (option_map raised (entry_of m t)) (entry_of m t) ≡ Some e → e.handle ≡ h →
        (1 ≤ e.count) × (e.count < 65535 → gained + 1 ≡ lost + e.count)
    live true t e decided is at =
        let there : entry_of m t ≡ Some allowed.0 = ap (entry_of m) (decided.0 refl) ∙ allowed.1 in
        let count : min (allowed.0.count + 1) 65535 ≡ e.count = count_of (raised allowed.0) e (sym (ap (option_map raised) there) ∙ is) in
        let before = book.live t allowed.0 there allowed.2 in
        let least = before.0 in
        (omega (arith, count, least), (λ below. let equal = before.1 (omega (arith, count, below)) in omega (arith, count, below, equal)))
    live false t e decided is at = absurd (not_here decided (differ t u h (e, is, at) allowed))

-- what lowering makes of an entry
lowered_count : (e f : Entry) → lowered e ≡ Some f → 1 ≤ e.count → (1 ≤ f.count) × (f.count < 65535 → (e.count ≡ f.count + 1) × (e.count < 65535))
lowered_count e f is least = by (e.count == 65535) (nat_le e.count 1) refl refl is
  where
    by : (b c : Bool) → (e.count == 65535) ≡ b → nat_le e.count 1 ≡ c → cond b (Some e) (cond c None (Some (record e { count = e.count - 1 }))) ≡ Some f →
        (1 ≤ f.count) × (f.count < 65535 → (e.count ≡ f.count + 1) × (e.count < 65535))
    by true c permanent small made =
        let count = count_of e f made in let most = (Decides-eqb e.count 65535).0 permanent in (omega (arith, count, least), (λ below. absurd (omega (arith, count, below, most))))
    by false true permanent small made = absurd (cc)
    by false false permanent small made =
        let count : e.count - 1 ≡ f.count = count_of (record e { count = e.count - 1 }) f made in let more = leb-false e.count 1 small in
        let unlike : ¬ (e.count ≡ 65535) = not_from_Decides (e.count == 65535) (Decides-eqb e.count 65535) permanent in
        (omega (arith, count, more), (λ below. (omega (arith, count, more), omega (arith, count, more, below, unlike))))

lowered_none : (e : Entry) → lowered e ≡ None → 1 ≤ e.count → (e.count ≡ 1) × (e.count < 65535)
lowered_none e is least = by (e.count == 65535) (nat_le e.count 1) refl is
  where
    by : (b c : Bool) → nat_le e.count 1 ≡ c → cond b (Some e) (cond c None (Some (record e { count = e.count - 1 }))) ≡ None → (e.count ≡ 1) × (e.count < 65535)
    by true c small made = absurd (cc)
    by false true small made = let few = leb-true e.count 1 small in (omega (arith, few, least), omega (arith, few))
    by false false small made = absurd (cc)

-- what a change makes of the entry with this handle
this_entry : (change : Entry → Option Entry) (e : Entry) (h : Handle) → e.handle ≡ h → at_handle h change e ≡ change e
this_entry change e h at = ap (λ b. cond b (change e) (Some e)) ((handle_eq-Decides e.handle h).1 at)

-- an entry with this handle, after a change of it, comes from one
from_this : (change : Entry → Option Entry) (h : Handle) (o : Option Entry) (f : Entry) → KeepsHandles change → option_and_then (at_handle h change) o ≡ Some f → f.handle ≡ h →
    (e : Entry) × (o ≡ Some e) × (e.handle ≡ h) × (change e ≡ Some f)
from_this change h None f keeps is at = absurd (cc)
from_this change h (Some e) f keeps is at = by (handle_eq e.handle h) (handle_eq-Decides e.handle h) is
  where
    by : (b : Bool) → Decides b (e.handle ≡ h) → cond b (change e) (Some e) ≡ Some f → (x : Entry) × (Some e ≡ Some x) × (x.handle ≡ h) × (change x ≡ Some f)
    by true decided made = (e, refl, decided.0 refl, made)
    by false decided made = absurd (not_here decided (sym (same_entry e f made) ∙ at))

left_or_gone : {A B : Type 0} (o : Option Entry) → ((f : Entry) → o ≡ Some f → A) → (o ≡ None → B) → A ⊎ B
left_or_gone None first second = inr (second refl)
left_or_gone (Some f) first second = inl (first f refl)

-- a Drop of this handle
book-drop : (m : TextMap) (h : Handle) (gained lost : ℕ) → Allows m (Drop h) → Book m h gained lost → Book (next m (Drop h)) h gained (lost + 1)
book-drop m h gained lost allowed book = record {
  live = λ t f is at.
      let was = from_this lowered h (entry_of m t) f lowered_keeps (sym (entry_of-next m (Drop h) t) ∙ is) at in
      let before = book.live t was.0 was.1 was.2 in
      let least = before.0 in
      let less = lowered_count was.0 f was.3 least in
      (less.0, (λ below. let one = (less.1 below).0 in let equal = before.1 (less.1 below).1 in omega (arith, one, equal)));
  either =
      let e = allowed.1.0 in
      let least = (book.live allowed.0 e allowed.1.1 allowed.1.2).0 in
      let after : entry_of (next m (Drop h)) allowed.0 ≡ lowered e =
      entry_of-next m (Drop h) allowed.0 ∙ ap (option_and_then (at_handle h lowered)) allowed.1.1 ∙ this_entry lowered e h allowed.1.2 in
      left_or_gone (lowered e)
      (λ f is. (allowed.0, (f, after ∙ is, lowered_keeps e f is ∙ allowed.1.2)))
      (λ is. let none = lowered_none e is least in
      let one = none.0 in
      let equal = (book.live allowed.0 e allowed.1.1 allowed.1.2).1 none.1 in
      omega (arith, one, equal));
}

-- a Perm of this handle
book-perm : (m : TextMap) (h : Handle) (gained lost : ℕ) → Allows m (Perm h) → Book m h gained lost → Book (next m (Perm h)) h gained lost
book-perm m h gained lost allowed book = record {
  live = λ t f is at.
      let was = from_this (λ e. Some (made_permanent e)) h (entry_of m t) f permanent_keeps (sym (entry_of-next m (Perm h) t) ∙ is) at in
      let count : 65535 ≡ f.count = count_of (made_permanent was.0) f was.3 in
      (omega (arith, count), (λ below. absurd (omega (arith, count, below))));
  either = inl (
    allowed.0,
    (
      made_permanent allowed.1.0,
      entry_of-next m (Perm h) allowed.0 ∙ ap (option_and_then (at_handle h (λ e. Some (made_permanent e)))) allowed.1.1 ∙ this_entry (λ e. Some (made_permanent e)) allowed.1.0 h allowed.1.2,
      allowed.1.2,
    ),
  );
}

-- the same book with its numbers written otherwise
recount : (m : TextMap) (k : Handle) (gained lost a b : ℕ) → Book m k gained lost → gained ≡ a → lost ≡ b → Book m k a b
recount m k gained lost a b book gains_are losses_are = subst (λ x. Book m k x b) gains_are (subst (λ x. Book m k gained x) losses_are book)

one_is : (b : Bool) (n : ℕ) → b ≡ true → n + 1 ≡ n + one_if b
one_is b n is = ap (λ x. n + one_if x) (sym is)

none_is : (b : Bool) (n : ℕ) → b ≡ false → n ≡ n + one_if b
none_is b n is = let zero_is : one_if b ≡ 0 = ap one_if is in omega (arith, zero_is)

-- the book of each handle by one more event
pub book-next : (m : TextMap) (what : What) (k : Handle) (gained lost : ℕ) → HandlesDiffer m → Allows m what → is_kill what ≡ false → Book m k gained lost →
    Book (next m what) k (gained + one_if (is_gain what k)) (lost + one_if (is_loss what k))
book-next m (Create t h) k gained lost differ allowed counted book = split (handle_eq h k)
    (λ is. let same = (handle_eq-Decides h k).0 is in
    recount _ k (gained + 1) lost _ _ (subst (λ x. Book (next m (Create t h)) x (gained + 1) lost) same (book-create m t h gained lost allowed (subst (λ x. Book m x gained lost) (sym same) book)))
    (one_is (handle_eq h k) gained is) (none_is false lost refl))
    (λ is. recount _ k gained lost _ _ (same_book m _ k gained lost (other_create m t h k allowed (not_from_Decides (handle_eq h k) (handle_eq-Decides h k) is)) book)
    (none_is (handle_eq h k) gained is) (none_is false lost refl))
book-next m (Take t h) k gained lost differ allowed counted book = split (handle_eq h k)
    (λ is. let same = (handle_eq-Decides h k).0 is in
    recount _ k (gained + 1) lost _ _ (subst (λ x. Book (next m (Take t h)) x (gained + 1) lost) same (book-take m t h gained lost differ allowed (subst (λ x. Book m x gained lost) (sym same) book)))
    (one_is (handle_eq h k) gained is) (none_is false lost refl))
    (λ is. recount _ k gained lost _ _ (same_book m _ k gained lost (other_take m t h k allowed (not_from_Decides (handle_eq h k) (handle_eq-Decides h k) is)) book)
    (none_is (handle_eq h k) gained is) (none_is false lost refl))
book-next m (Drop h) k gained lost differ allowed counted book = split (handle_eq h k)
    (λ is. let same = (handle_eq-Decides h k).0 is in
    recount _ k gained (lost + 1) _ _ (subst (λ x. Book (next m (Drop h)) x gained (lost + 1)) same (book-drop m h gained lost allowed (subst (λ x. Book m x gained lost) (sym same) book)))
    (none_is false gained refl) (one_is (handle_eq h k) lost is))
    (λ is. recount _ k gained lost _ _ (same_book m _ k gained lost
    (other_alter lowered m (next m (Drop h)) h k lowered_keeps (not_from_Decides (handle_eq h k) (handle_eq-Decides h k) is) (entry_of-next m (Drop h))) book)
    (none_is false gained refl) (none_is (handle_eq h k) lost is))
book-next m (Perm h) k gained lost differ allowed counted book = split (handle_eq h k)
    (λ is. let same = (handle_eq-Decides h k).0 is in
    recount _ k gained lost _ _ (subst (λ x. Book (next m (Perm h)) x gained lost) same (book-perm m h gained lost allowed (subst (λ x. Book m x gained lost) (sym same) book)))
    (none_is false gained refl) (none_is false lost refl))
    (λ is. recount _ k gained lost _ _ (same_book m _ k gained lost
    (other_alter (λ e. Some (made_permanent e)) m (next m (Perm h)) h k permanent_keeps (not_from_Decides (handle_eq h k) (handle_eq-Decides h k) is) (entry_of-next m (Perm h))) book)
    (none_is false gained refl) (none_is false lost refl))
book-next m (Kill h) k gained lost differ allowed counted book = absurd (cc)
book-next m (Found t h) k gained lost differ allowed counted book = recount m k gained lost _ _ book (none_is false gained refl) (none_is false lost refl)
book-next m (Claim x) k gained lost differ allowed counted book = recount m k gained lost _ _ book (none_is false gained refl) (none_is false lost refl)
book-next m (Free x) k gained lost differ allowed counted book = recount m k gained lost _ _ book (none_is false gained refl) (none_is false lost refl)
book-next m (Open c) k gained lost differ allowed counted book = recount m k gained lost _ _ book (none_is false gained refl) (none_is false lost refl)
book-next m Close k gained lost differ allowed counted book = recount m k gained lost _ _ book (none_is false gained refl) (none_is false lost refl)
book-next m Grace k gained lost differ allowed counted book = recount m k gained lost _ _ book (none_is false gained refl) (none_is false lost refl)
book-next m (Lock r b) k gained lost differ allowed counted book = recount m k gained lost _ _ book (none_is false gained refl) (none_is false lost refl)
book-next m (Unlock r b) k gained lost differ allowed counted book = recount m k gained lost _ _ book (none_is false gained refl) (none_is false lost refl)
book-next m (Unlink x) k gained lost differ allowed counted book = recount m k gained lost _ _ book (none_is false gained refl) (none_is false lost refl)
book-next m ResizeTaken k gained lost differ allowed counted book = recount m k gained lost _ _ book (none_is false gained refl) (none_is false lost refl)
book-next m ResizeGiven k gained lost differ allowed counted book = recount m k gained lost _ _ book (none_is false gained refl) (none_is false lost refl)
book-next m (Level l) k gained lost differ allowed counted book = recount m k gained lost _ _ book (none_is false gained refl) (none_is false lost refl)
book-next m (Rehash n) k gained lost differ allowed counted book = recount m k gained lost _ _ book (none_is false gained refl) (none_is false lost refl)

pub book-after : (m : TextMap) (log : List Event) (k : Handle) (gained lost : ℕ) → HandlesDiffer m → IsLegalFrom m log → list_any (λ (e : Event). is_kill e.what) log ≡ false →
    Book m k gained lost → Book (map_after m log) k (gained + gains log k) (lost + losses log k)
book-after m [] k gained lost differ legal counted book = recount m k gained lost _ _ book (omega arith) (omega arith)
book-after m (e ∷ log) k gained lost differ legal counted book =
    let parts = neither (is_kill e.what) (list_any (λ (x : Event). is_kill x.what) log) counted in
    let gain = sum_by-cons (λ (x : Event). one_if (is_gain x.what k)) e log in
    let loss = sum_by-cons (λ (x : Event). one_if (is_loss x.what k)) e log in
    recount _ k _ _ _ _ (book-after (next m e.what) log k _ _ (HandlesDiffer-next m e.what differ legal.0) legal.1 parts.1 (book-next m e.what k gained lost differ legal.0 parts.0 book))
    (omega (arith, gain)) (omega (arith, loss))

book-opening : (k : Handle) → Book no_texts k 0 0
book-opening k = record { live = λ t e is at. absurd (no_text_has t k (e, is, at)); either = inr refl }

counted_kill : (table : TableKind) (now : Now) (seat : ℕ) (what : What) → table.kind ≡ Counted → MayFollow table now seat what → is_kill what ≡ false
counted_kill table now seat (Kill h) counted may = let clash : Counted ≡ Weak = sym counted ∙ may.0 in absurd (cc)
counted_kill table now seat (Create t h) counted may = refl
counted_kill table now seat (Take t h) counted may = refl
counted_kill table now seat (Found t h) counted may = refl
counted_kill table now seat (Drop h) counted may = refl
counted_kill table now seat (Perm h) counted may = refl
counted_kill table now seat (Claim x) counted may = refl
counted_kill table now seat (Free x) counted may = refl
counted_kill table now seat (Open c) counted may = refl
counted_kill table now seat Close counted may = refl
counted_kill table now seat Grace counted may = refl
counted_kill table now seat (Lock r b) counted may = refl
counted_kill table now seat (Unlock r b) counted may = refl
counted_kill table now seat (Unlink x) counted may = refl
counted_kill table now seat ResizeTaken counted may = refl
counted_kill table now seat ResizeGiven counted may = refl
counted_kill table now seat (Level l) counted may = refl
counted_kill table now seat (Rehash n) counted may = refl

none_kills : (table : TableKind) (now : Now) (log : List Event) → table.kind ≡ Counted → IsAllowedFrom table now log → list_any (λ (e : Event). is_kill e.what) log ≡ false
none_kills table now [] counted allowed = refl
none_kills table now (e ∷ log) counted allowed =
    or_false (is_kill e.what) _ (counted_kill table now e.seat e.what counted allowed.0) (none_kills table (now_after_event now e) log counted allowed.1)

book_of : (table : TableKind) (front back : List Event) (k : Handle) → table.kind ≡ Counted → IsLawful table (front ++ back) → Book (map_of front) k (gains front k) (losses front k)
book_of table front back k counted lawful =
    let before = IsLawful-prefix table front back lawful in
    recount _ k _ _ _ _ (book-after no_texts front k 0 0 HandlesDiffer-none (lawful_is_legal table front before) (none_kills table (opening table.min_level) front counted before.allowed) (book-opening k))
    (omega arith) (omega arith)

pub lawful_meets_ledger : (table : TableKind) (log : List Event) → table.kind ≡ Counted → IsLawful table log → MeetsLedger log
lawful_meets_ledger table log counted lawful = record {
  live = λ front back text e is has below.
      let equal = (book_of table front back e.handle counted (subst (IsLawful table) is lawful)).live text e has refl in let count = equal.1 below in omega (arith, count);
  gone = λ front back h is dead. let equal = gone_of _ h _ _ (book_of table front back h counted (subst (IsLawful table) is lawful)) dead in omega (arith, equal);
}

-- a handle that was gained more often than lost is live
pub held_is_live : (table : TableKind) (log : List Event) (h : Handle) → table.kind ≡ Counted → IsLawful table log → losses log h < gains log h → IsLive (map_of log) h
held_is_live table log h counted lawful more =
    elim (book_of table log [] h counted (subst (IsLawful table) (sym (append-nil log)) lawful)).either [
      | inl alive ↦ alive
      | inr equal ↦ absurd (omega (arith, equal, more))
    ]

-- the ledger at a log's end
pub ledger_at_the_end : (log : List Event) → MeetsLedger log →
    ((text : List ℕ) (e : Entry) → entry_of (map_of log) text ≡ Some e → e.count < 65535 → gains log e.handle ≡ losses log e.handle + e.count)
    × ((h : Handle) → ¬ (IsLive (map_of log) h) → gains log h ≡ losses log h)
ledger_at_the_end log meets = ((λ text e. meets.live log [] text e (sym (append-nil log))), (λ h. meets.gone log [] h (sym (append-nil log))))
