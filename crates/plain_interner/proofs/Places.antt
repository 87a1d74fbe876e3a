-- The place of each slot's entry, after each change of the entries.
use Rattle.std.proofs.Common.{◌≡◌, ◌≢◌, ◌⊎◌, inl, inr, ◌↔◌, IsTrue, is_some, ℕ, zero, suc, ◌+◌, ◌-◌, ◌^◌, ◌<◌, ◌≤◌, List, [], ◌∷◌, ◌++◌, get_or, set, slice_get, length, Option, None, Some, refl, sym, ap, subst, ◌∙◌, arith, length-append}
use Rattle.std.proofs.lemmas.List.{get_or-take, get_or-set_same, get_or-set_other, length-set, length-take, get_or_append_left, get_or_push}
use Rattle.std.proofs.lemmas.Option.{slice_get_within, slice_get-get_or, get_or_from_slice_get}
use Rattle.std.specs.Str.{bytes_eq}
use Rattle.std.specs.List.{IsDistinct, swap_remove}
use Rattle.std.specs.Map.{keys_of}
use Rattle.indexmap.specs.IndexMap.{IndexMap, set_value_at, insert_entry, IsUnique}
use Rattle.indexmap.proofs.CallerLemmas.{insert_entry-new}
use Rattle.intern_log.specs.declared.event.Handle.{Handle}
use Rattle.intern_log.specs.declared.event.Entry.{Entry}
use Rattle.intern_log.specs.TextMap.{entry_of, IsLive, put_at, alter, at_handle}
use Rattle.intern_log.specs.Log.{new_entry, raised, lowered, Allows, HandlesDiffer}
use Rattle.intern_log.specs.declared.event.What.TheVariants.{Create}
use Rattle.intern_log.proofs.Handles.{lowered_keeps}
use Rattle.intern_log.proofs.Kept.{one_entry}
use Rattle.intern_log.proofs.Changes.{put_at-is_alter, raised_counted, lowered_counted}
use Rattle.std.specs.Borrow.{Bor}
use Rattle.std.specs.Option.{IfSome, IfNone}
use Rattle.plain_interner.specs.Entries.{text_map, IsEntryAt, IsPlaced}
use Rattle.plain_interner.proofs.TextMaps.{same_pair, entry_of-text_map, entry_of-place, place_of-entry}

module _ {A : Type 0} where
  -- what stands at a place, after a write there and elsewhere, after a push, and after a removal
  at_place : (xs ys : List A) (i j : ℕ) → i < length xs → j < length ys → ((d : A) → get_or xs i d ≡ get_or ys j d) → slice_get xs i ≡ slice_get ys j
  at_place xs ys i j within there same = by xs refl
    where
      by : (zs : List A) → zs ≡ xs → slice_get xs i ≡ slice_get ys j
      by [] is = let none = ap length is in absurd (omega (arith, none, within))
      by (d ∷ zs) is = slice_get-get_or xs i d within ∙ ap Some (same d) ∙ sym (slice_get-get_or ys j d there)

  at_write : (xs : List A) (i : ℕ) (y : A) → i < length xs → slice_get (set xs i y) i ≡ Some y
  at_write xs i y within = slice_get-get_or (set xs i y) i y (omega (arith, within, length-set xs i y)) ∙ ap Some (get_or-set_same xs i y y within)

  off_write : (xs : List A) (i j : ℕ) (y x : A) → j ≢ i → slice_get xs j ≡ Some x → slice_get (set xs i y) j ≡ Some x
  off_write xs i j y x apart at =
      let within = slice_get_within xs j x at in
      slice_get-get_or (set xs i y) j x (omega (arith, within, length-set xs i y)) ∙ ap Some (get_or-set_other xs i j y x apart ∙ get_or_from_slice_get xs j x x at)

  before_push : (xs : List A) (y x : A) (j : ℕ) → slice_get xs j ≡ Some x → slice_get (xs ++ y ∷ []) j ≡ Some x
  before_push xs y x j at =
      let within = slice_get_within xs j x at in
      slice_get-get_or (xs ++ y ∷ []) j x (omega (arith, within, length-append xs (y ∷ []))) ∙ ap Some (get_or_append_left xs (y ∷ []) x j within ∙ get_or_from_slice_get xs j x x at)

  at_push : (xs : List A) (y : A) (j : ℕ) → j ≡ length xs → slice_get (xs ++ y ∷ []) j ≡ Some y
  at_push xs y j last = slice_get-get_or (xs ++ y ∷ []) j y (omega (arith, last, length-append xs (y ∷ []))) ∙ ap Some (get_or_push xs y y j (sym last))

  -- what stood at a place after a push
  of_push : (xs : List A) (y x : A) (j : ℕ) → slice_get (xs ++ y ∷ []) j ≡ Some x → (slice_get xs j ≡ Some x) ⊎ ((j ≡ length xs) × (x ≡ y))
  of_push [] y x zero at = inr (refl, cc)
  of_push [] y x (suc j) at = absurd (cc)
  of_push (z ∷ xs) y x zero at = inl at
  of_push (z ∷ xs) y x (suc j) at = elim (of_push xs y x j at) [ inl was ↦ inl was | inr new ↦ inr (ap suc new.0, new.1) ]

  length-removed : (xs : List A) (i : ℕ) (d : A) → i < length xs → length (swap_remove xs i d) + 1 ≡ length xs
  length-removed xs i d within = let last = get_or xs (length xs - 1) d in omega (arith, within, length-take (length xs - 1) (set xs i last), length-set xs i last)

  -- what stands at a place after a removal: what stood there, or what stood last
  of_removal : (xs : List A) (i : ℕ) (d x : A) (j : ℕ) → i < length xs → slice_get (swap_remove xs i d) j ≡ Some x
      → ((j ≢ i) × (j + 1 < length xs) × (slice_get xs j ≡ Some x)) ⊎ ((j ≡ i) × (j + 1 < length xs) × (slice_get xs (length xs - 1) ≡ Some x))
  of_removal xs i d x j within at =
      let last = get_or xs (length xs - 1) d in
      let short = slice_get_within (swap_remove xs i d) j x at in
      let below : j < length xs - 1 = omega (arith, short, length-removed xs i d within) in
      let here : get_or (set xs i last) j x ≡ x = sym (get_or-take (length xs - 1) (set xs i last) j x below) ∙ get_or_from_slice_get (swap_remove xs i d) j x x at in
      elim (apart_or_same j i) [
        | inl apart ↦ inl (apart, omega (arith, below), slice_get-get_or xs j x (omega (arith, below)) ∙ ap Some (sym (get_or-set_other xs i j last x apart) ∙ here))
        | inr same ↦ inr (same, omega (arith, below), slice_get-get_or xs (length xs - 1) d (omega (arith, below)) ∙ ap Some (sym (get_or-set_same xs i last x within) ∙ ap (λ k. get_or (set xs i last) k x) (sym same) ∙ here))
      ]
    where
      apart_or_same : (j i : ℕ) → (j ≢ i) ⊎ (j ≡ i)
      apart_or_same zero zero = inr refl
      apart_or_same zero (suc i) = inl (λ e. absurd (omega (arith, e)))
      apart_or_same (suc j) zero = inl (λ e. absurd (omega (arith, e)))
      apart_or_same (suc j) (suc i) = elim (apart_or_same j i) [ inl apart ↦ inl (λ e. apart (omega (arith, e))) | inr same ↦ inr (ap suc same) ]

-- what stood at a place before a write of a value
of_write : (es : List (List ℕ × Entry)) (i j : ℕ) (t u : List ℕ) (e f g : Entry) → slice_get es i ≡ Some (t, e) → slice_get (set_value_at es i f) j ≡ Some (u, g)
    → (slice_get es j ≡ Some (u, g)) ⊎ ((j ≡ i) × (u ≡ t) × (g ≡ f))
of_write [] i j t u e f g at is = absurd (cc)
of_write (x ∷ es) zero zero t u e f g at is =
    let head : x ≡ (t, e) = same_pair _ _ at in
    let here : (x.0, f) ≡ (u, g) = same_pair _ _ is in
    inr (refl, sym (ap (λ p. p.0) here) ∙ ap (λ p. p.0) head, sym (ap (λ p. p.1) here))
of_write (x ∷ es) zero (suc j) t u e f g at is = inl is
of_write (x ∷ es) (suc i) zero t u e f g at is = inl is
of_write (x ∷ es) (suc i) (suc j) t u e f g at is = elim (of_write es i j t u e f g at is) [ inl was ↦ inl was | inr new ↦ inr (ap suc new.0, new.1, new.2) ]

module _ (es : List (List ℕ × Entry)) (places : List ℕ) (known : IsPlaced es places) where
  -- one entry has a slot
  one_place : (i j : ℕ) (t u : List ℕ) (e f : Entry) → slice_get es i ≡ Some (t, e) → slice_get es j ≡ Some (u, f) → e.handle.slot ≡ f.handle.slot → i ≡ j
  one_place i j t u e f at_i at_j same = let equal : Some i ≡ Some j = sym (known.placed i t e at_i) ∙ ap (slice_get places) same ∙ known.placed j u f at_j in cc

  pub IsPlaced-differ : HandlesDiffer (text_map es)
  IsPlaced-differ t u h at_t at_u =
      let i = place_of-entry es t at_t.0 at_t.1 in
      let j = place_of-entry es u at_u.0 at_u.1 in
      let one = one_place i.0 j.0 t u at_t.0 at_u.0 i.1 j.1 (ap (λ (x : Handle). x.slot) (at_t.2 ∙ sym at_u.2)) in
      ap (λ p. p.0) (same_pair (t, at_t.0) (u, at_u.0) (sym i.1 ∙ ap (slice_get es) one ∙ j.1))

  -- the place of a live handle
  pub place_of-live : (h : Handle) → IsLive (text_map es) h → (i : ℕ) × (t : List ℕ) × (e : Entry) × (slice_get places h.slot ≡ Some i) × (slice_get es i ≡ Some (t, e)) × (e.handle ≡ h)
  place_of-live h live =
      let i = place_of-entry es live.0 live.1.0 live.1.1 in
      (i.0, live.0, live.1.0, ap (λ (k : Handle). slice_get places k.slot) (sym live.1.2) ∙ known.placed i.0 live.0 live.1.0 i.1, i.1, live.1.2)

  -- the entry at a place is live
  pub live_at : (i : ℕ) (t : List ℕ) (e : Entry) (h : Handle) → slice_get es i ≡ Some (t, e) → e.handle ≡ h → IsLive (text_map es) h
  live_at i t e h at is = (t, (e, entry_of-place es i t e known.distinct at, is))

  pub IsPlaced-written : (fs : List (List ℕ × Entry)) (i : ℕ) (t : List ℕ) (e f : Entry) → slice_get es i ≡ Some (t, e) → f.handle ≡ e.handle → 1 ≤ f.count
      → fs ≡ set_value_at es i f → IsPlaced fs places
  IsPlaced-written fs i t e f at same_handle counted is = subst (λ x. IsPlaced x places) (sym is) (record {
    distinct = subst (IsDistinct bytes_eq) (sym (keys_kept es i)) known.distinct;
    placed = λ j u g here. elim (of_write es i j t u e f g at here) [
      | inl was ↦ known.placed j u g was
      | inr new ↦ ap (λ (x : Entry). slice_get places x.handle.slot) new.2 ∙ ap (λ (h : Handle). slice_get places h.slot) same_handle ∙ known.placed i t e at ∙ ap Some (sym new.0)
    ];
    counted = λ j u g here. elim (of_write es i j t u e f g at here) [
      | inl was ↦ known.counted j u g was
      | inr new ↦ omega (arith, counted, ap (λ (x : Entry). x.count) new.2)
    ];
    fits = omega (arith, known.fits, length_kept es i);
    small = known.small;
  })
    where
      keys_kept : (xs : List (List ℕ × Entry)) (i : ℕ) → keys_of (set_value_at xs i f) ≡ keys_of xs
      keys_kept [] i = refl
      keys_kept (x ∷ xs) zero = refl
      keys_kept (x ∷ xs) (suc i) = ap (λ ks. x.0 ∷ ks) (keys_kept xs i)

      length_kept : (xs : List (List ℕ × Entry)) (i : ℕ) → length (set_value_at xs i f) ≡ length xs
      length_kept [] i = refl
      length_kept (x ∷ xs) zero = refl
      length_kept (x ∷ xs) (suc i) = ap suc (length_kept xs i)

  pub IsPlaced-raised : (fs : List (List ℕ × Entry)) (i : ℕ) (t : List ℕ) (e f : Entry) → slice_get es i ≡ Some (t, e) → f ≡ raised e → fs ≡ set_value_at es i f → IsPlaced fs places
  IsPlaced-raised fs i t e f at more is =
      IsPlaced-written fs i t e f at (ap (λ (x : Entry). x.handle) more) (omega (arith, ap (λ (x : Entry). x.count) more, raised_counted e)) is

  pub IsPlaced-lowered : (fs : List (List ℕ × Entry)) (i : ℕ) (t : List ℕ) (e f : Entry) → slice_get es i ≡ Some (t, e) → lowered e ≡ Some f → fs ≡ set_value_at es i f → IsPlaced fs places
  IsPlaced-lowered fs i t e f at less is = IsPlaced-written fs i t e f at (lowered_keeps e f less) (lowered_counted e f less) is

  -- the count of the entry of a handle is one
  pub count_of-handle : (i : ℕ) (t : List ℕ) (e : Entry) (h : Handle) → slice_get es i ≡ Some (t, e) → e.handle ≡ h → (u : List ℕ) (f : Entry) → entry_of (text_map es) u ≡ Some f → f.handle ≡ h → e.count ≡ f.count
  count_of-handle i t e h at is u f there has = ap (λ (x : Entry). x.count) (one_entry (text_map es) h t u e f IsPlaced-differ (entry_of-place es i t e known.distinct at) is there has)

  -- a change of the entry at a place is that of the entry with its handle
  pub changed_at : (change : Entry → Option Entry) (i : ℕ) (t : List ℕ) (e : Entry) (h : Handle) → slice_get es i ≡ Some (t, e) → e.handle ≡ h → put_at (text_map es) t (change e) ≡ alter (at_handle h change) (text_map es)
  changed_at change i t e h at is = put_at-is_alter change (text_map es) t e h IsPlaced-differ (entry_of-place es i t e known.distinct at) is

  pub IsPlaced-pushed : (fs : List (List ℕ × Entry)) (qs : List ℕ) (t : List ℕ) (e : Entry) → e.handle.slot ≡ length places → 1 ≤ e.count → length places < 2 ^ 32 - 1
      → fs ≡ es ++ (t, e) ∷ [] → IsDistinct bytes_eq (keys_of fs) → qs ≡ places ++ length es ∷ [] → IsPlaced fs qs
  IsPlaced-pushed fs qs t e slot counted room is distinct qs_is = record {
    distinct = distinct;
    placed = λ j u g at. elim (of_push es (t, e) (u, g) j (ap (λ x. slice_get x j) (sym is) ∙ at)) [
      | inl was ↦ ap (λ x. slice_get x g.handle.slot) qs_is ∙ before_push places (length es) j g.handle.slot (known.placed j u g was)
      | inr new ↦ ap (λ x. slice_get x g.handle.slot) qs_is ∙ at_push places (length es) g.handle.slot (ap (λ (p : List ℕ × Entry). p.1.handle.slot) new.1 ∙ slot) ∙ ap Some (sym new.0)
    ];
    counted = λ j u g at. elim (of_push es (t, e) (u, g) j (ap (λ x. slice_get x j) (sym is) ∙ at)) [
      | inl was ↦ known.counted j u g was
      | inr new ↦ omega (arith, counted, ap (λ (p : List ℕ × Entry). p.1.count) new.1)
    ];
    fits = omega (arith, known.fits, ap length is, ap length qs_is, length-append es ((t, e) ∷ []), length-append places (length es ∷ []));
    small = omega (arith, room, ap length qs_is, length-append places (length es ∷ []));
  }

  -- the places after a removal: that of the entry that moved is mended
  module _ (fs : List (List ℕ × Entry)) (i : ℕ) (p : List ℕ × Entry) (within : i < length es) (is : fs ≡ swap_remove es i p) (distinct : IsDistinct bytes_eq (keys_of fs)) where
    stood : (j : ℕ) (u : List ℕ) (g : Entry) → slice_get fs j ≡ Some (u, g)
        → ((j ≢ i) × (j + 1 < length es) × (slice_get es j ≡ Some (u, g))) ⊎ ((j ≡ i) × (j + 1 < length es) × (slice_get es (length es - 1) ≡ Some (u, g)))
    stood j u g at = of_removal es i p (u, g) j within (ap (λ x. slice_get x j) (sym is) ∙ at)

    fewer : length fs + 1 ≡ length es
    fewer = ap (λ x. length x + 1) is ∙ length-removed es i p within

    still_counted : (j : ℕ) (u : List ℕ) (g : Entry) → slice_get fs j ≡ Some (u, g) → 1 ≤ g.count
    still_counted j u g at = elim (stood j u g at) [ inl was ↦ known.counted j u g was.2 | inr last ↦ known.counted (length es - 1) u g last.2 ]

    pub IsPlaced-cut : slice_get fs i ≡ None → IsPlaced fs places
    IsPlaced-cut none = record {
      distinct = distinct;
      placed = λ j u g at. elim (stood j u g at) [
        | inl was ↦ known.placed j u g was.2
        | inr last ↦ absurd (no_entry (sym none ∙ ap (slice_get fs) (sym last.0) ∙ at))
      ];
      counted = still_counted;
      fits = omega (arith, known.fits, fewer);
      small = known.small;
    }
      where
        no_entry : {X : Type 0} {x : X} → None ≡ Some x → ⊥
        no_entry e = cc

    -- the slot of the entry that moved was given out
    pub moved_slot : (u : List ℕ) (g : Entry) → slice_get fs i ≡ Some (u, g) → g.handle.slot < length places
    moved_slot u g at = elim (stood i u g at) [
      | inl was ↦ slice_get_within places g.handle.slot i (known.placed i u g was.2)
      | inr last ↦ slice_get_within places g.handle.slot (length es - 1) (known.placed (length es - 1) u g last.2)
    ]

    pub IsPlaced-moved : (qs : List ℕ) (u : List ℕ) (g : Entry) → slice_get fs i ≡ Some (u, g) → qs ≡ set places g.handle.slot i → IsPlaced fs qs
    IsPlaced-moved qs u g at qs_is = subst (IsPlaced fs) (sym qs_is) (record {
      distinct = distinct;
      placed = λ j v f here. elim (stood j v f here) [
        | inl was ↦ off_write places g.handle.slot f.handle.slot i j (λ same. let one = one_place j (length es - 1) v u f g was.2 stood_last same in absurd (omega (arith, one, was.1))) (known.placed j v f was.2)
        | inr last ↦
            let equal = ap (λ (q : List ℕ × Entry). q.1.handle.slot) (same_pair (v, f) (u, g) (sym last.2 ∙ stood_last)) in
            ap (slice_get (set places g.handle.slot i)) equal ∙ at_write places g.handle.slot i (moved_slot u g at) ∙ ap Some (sym last.0)
      ];
      counted = still_counted;
      fits = omega (arith, known.fits, fewer, length-set places g.handle.slot i);
      small = omega (arith, known.small, length-set places g.handle.slot i);
    })
      where
        stood_last : slice_get es (length es - 1) ≡ Some (u, g)
        stood_last = elim (stood i u g at) [ inl was ↦ absurd (was.0 refl) | inr last ↦ last.2 ]

  -- a handle whose slot was not given out, or with another entry at its place, is not live
  pub no_place : (h : Handle) → length places ≤ h.slot → ¬ (IsLive (text_map es) h)
  no_place h past live = let place = place_of-live h live in let within = slice_get_within places h.slot place.0 place.3 in absurd (omega (arith, past, within))

  pub other_place : (h : Handle) (i : ℕ) → h.slot < length places → i ≡ get_or places h.slot i → ((t : List ℕ) (e : Entry) → slice_get es i ≡ Some (t, e) → e.handle ≢ h) → ¬ (IsLive (text_map es) h)
  other_place h i within at other live =
      let place = place_of-live h live in
      let same : place.0 ≡ i = sym (get_or_from_slice_get places h.slot place.0 i place.3) ∙ sym at in
      absurd (other place.1 place.2 (ap (slice_get es) (sym same) ∙ place.4) place.5)

  -- whether a look-up by a handle found an entry is whether the handle is live
  pub found_is_live : (r : Option (ℕ × Bor Entry)) (h : Handle) → IfSome r (λ found. IsEntryAt es found.0 found.1.now × (found.1.now.handle ≡ h)) → IfNone r (¬ (IsLive (text_map es) h))
      → IsTrue (is_some r) ↔ IsLive (text_map es) h
  found_is_live None h found none = (λ yes. absurd (cc), λ live. absurd (none live))
  found_is_live (Some found) h at none = (λ yes. live_at found.0 at.0.0 found.1.now h at.0.1 at.1, λ live. refl)

-- what is so of the value that is there
pub of_some : {X : Type 0} (P : X → Type 0) (r : Option X) (x : X) → r ≡ Some x → IfSome r P → P x
of_some P None x is holds = absurd (cc)
of_some P (Some y) x is holds = let same : y ≡ x = cc in subst P same holds

-- something stands at each place within
pub present : {X : Type 0} (xs : List X) (i : ℕ) → i < length xs → (x : X) × (slice_get xs i ≡ Some x)
present [] i within = absurd (omega arith)
present (x ∷ xs) i within = (get_or (x ∷ xs) i x, slice_get-get_or (x ∷ xs) i x within)

module _ {S : Type 0} (m n : IndexMap (List ℕ) Entry S) (places : List ℕ) (t : List ℕ) (known : IsPlaced m.entries places) (absent : entry_of (text_map m.entries) t ≡ None) where
  -- a new entry with the next slot
  pub IsPlaced-created : (qs : List ℕ) → length places < 2 ^ 32 - 1 → n.entries ≡ insert_entry bytes_eq m.entries t (new_entry (record { slot = length places; generation = 0 }))
      → IsUnique bytes_eq n → qs ≡ places ++ length m.entries ∷ [] → IsPlaced n.entries qs
  IsPlaced-created qs room is unique qs_is =
      let e = new_entry (record { slot = length places; generation = 0 }) in
      IsPlaced-pushed m.entries places known n.entries qs t e refl (omega arith) room (is ∙ insert_entry-new bytes_eq m t e (sym (entry_of-text_map m.entries t) ∙ absent)) unique qs_is

  pub create-Allows : (h : Handle) → h.slot ≡ length places → Allows (text_map m.entries) (Create t h)
  create-Allows h slot = (absent, no_place m.entries places known h (omega (arith, slot)))
