-- What the words of counts say of a window: which entry a word is of, and why another word was found later.
use Rattle.std.proofs.Common.{◌≡◌, ◌≢◌, ℕ, ◌+◌, ◌<◌, ◌≤◌, ◌⊎◌, Bool, true, false, cond, List, [], ◌∷◌, ◌++◌, length, Option, Some, None, refl, sym, ap, subst, ◌∙◌, inl, inr, arith}
use Rattle.std.proofs.Common.{append_assoc}
use Rattle.std.specs.Prelude.{nat_eq}
use Rattle.intern_log.specs.declared.event.Entry.{Entry}
use Rattle.intern_log.specs.declared.event.Event.{Event}
use Rattle.intern_log.specs.declared.event.Handle.{Handle}
use Rattle.intern_log.specs.declared.event.Kind.TheVariants.{Weak}
use Rattle.intern_log.specs.declared.event.What.{What}
use Rattle.intern_log.specs.declared.event.What.TheVariants as what
use Rattle.intern_log.specs.Log.{Allows, map_after, map_of, IsLegalFrom, next}
use Rattle.intern_log.specs.Now.{Now, Phase, Vacant, Claimed, Linked, Unlinked, now_after_event, now_after, opening}
use Rattle.intern_log.specs.Sections.{with_event, IsCreatedAs}
use Rattle.intern_log.specs.TextMap.{TextMap, no_texts, entry_of, IsLive}
use Rattle.intern_log.proofs.CauseLaws.{visible_is_on}
use Rattle.intern_log.proofs.LawfulLaws.{texts-now_after}
use Rattle.intern_log.proofs.Logs.{map_after-append}
use Rattle.atomic_step.specs.Count.{generation_of, holds_of, holds_word, handle_at, is_live}
use Rattle.cht_core.specs.declared.table.Table.{Table}
use Rattle.cht_core.specs.Causes.{now_in, IsUnseen}
use Rattle.cht_core.specs.CauseCalls.{HasCount, IsWordOf, IsAbsent, IsGone, IsOnHandle, IsLateAlone}
use Rattle.cht_core.specs.Past.{Past, past_of, kind_of}
use Rattle.cht_core.specs.Search.{IsSeenWith}
use Rattle.cht_core.specs.Slots.{count_in}
use Rattle.cht_core.specs.Tidy.{IsTidy}
use Rattle.cht_core.specs.Windows.{Somewhere, Another, IsTold}
use Rattle.cht_core.specs.WordSays.{SaysOfCount}
use Rattle.cht_core.proofs.Counts.{holds_in_word, generation_in_word, count_small, handle_is, count_here, counted_has}
use Rattle.cht_core.proofs.CauseCounts.{told_legal, told_back, created_in, created_longer, has_handle, entry_moved, gone_or_same}
use Rattle.cht_core.proofs.Windows.{at_end, cut_behind, not_own}

module _ (t : Table) (p : Past) (tidy : IsTidy t p.now) where
  -- where a text is live its slot's word is that of its entry
  pub word_of_entry : (text : List ℕ) (h : Handle) (count word : ℕ) → HasCount p.now.texts text h count → SaysOfCount p h.slot word → word ≡ holds_word h count
  word_of_entry text h count word has says =
      let entry = tidy.entries text (record { handle = h; count = count }) has in
      says.linked text h entry.0 entry.1 ∙ ap (holds_word h) (ap (λ o. count_in o h) has ∙ count_here (record { handle = h; count = count }) h refl)

  -- a word with a hold, of a slot that is linked with a text, is that of its live entry
  entry_linked : (slot word : ℕ) (text : List ℕ) (h : Handle) (born : ℕ) → p.now.slot slot ≡ Linked text h born → SaysOfCount p slot word → 1 ≤ holds_of word →
      (count : ℕ) × HasCount p.now.texts text (handle_at slot word) count × (word ≡ holds_word (handle_at slot word) count)
  entry_linked slot word text h born linked says some =
      let is : word ≡ holds_word h (count_in (entry_of p.now.texts text) h) = says.linked text h born linked in
      let small : count_in (entry_of p.now.texts text) h < 65536 = count_small (entry_of p.now.texts text) h (λ e there. (tidy.entries text e there).3) in
      let holds : holds_of word ≡ count_in (entry_of p.now.texts text) h = ap holds_of is ∙ holds_in_word h (count_in (entry_of p.now.texts text) h) small in
      let (e, there, own) = counted_has (entry_of p.now.texts text) h (omega (arith, some, holds)) in
      let generation : generation_of word ≡ h.generation = ap generation_of is ∙ generation_in_word h (count_in (entry_of p.now.texts text) h) small in
      let one : h ≡ handle_at slot word = handle_is h slot word (tidy.linked slot text h born linked).0 generation in
      let counted : count_in (entry_of p.now.texts text) h ≡ e.count = ap (λ o. count_in o h) there ∙ count_here e h own in (
        e.count,
        there ∙ (λ j. Some (record { handle = (own ∙ one) j; count = e.count })),
        is ∙ ap (holds_word h) counted ∙ ap (λ (k : Handle). holds_word k e.count) one,
      )

  -- a word with a hold, of a slot that was seen with a text, is that of its live entry
  pub entry_seen : (i slot word : ℕ) (text : List ℕ) → IsSeenWith p.now i slot text → SaysOfCount p slot word → 1 ≤ holds_of word →
      (count : ℕ) × HasCount p.now.texts text (handle_at slot word) count × (word ≡ holds_word (handle_at slot word) count)
  entry_seen i slot word text seen says some = elim seen.2 [
    | inl (other, h, born, linked, same) ↦
        subst (λ (u : List ℕ). (count : ℕ) × HasCount p.now.texts u (handle_at slot word) count × (word ≡ holds_word (handle_at slot word) count)) same
        (entry_linked slot word other h born linked says some)
    | inr (seat, at, unlinked, since) ↦ absurd (let none : holds_of word ≡ 0 = says.unlinked seat at unlinked in omega (arith, some, none))
  ]

  -- a handle that was made is live where its slot's word is that of its live entry
  pub entry_live : (h : Handle) (word : ℕ) → p.made h ≡ true → SaysOfCount p h.slot word → is_live h word ≡ true → (text : List ℕ) × (count : ℕ) × HasCount p.now.texts text h count
      × (word ≡ holds_word h count)
  entry_live h word made says live =
      let (text, (e, there, own)) = (says.live h made refl).0 live in
      let has : HasCount p.now.texts text h e.count = there ∙ (λ j. Some (record { handle = own j; count = e.count })) in
      (text, e.count, has, word_of_entry text h e.count word has says)

  -- and no entry has it where the word is not
  pub entry_gone : (h : Handle) (word : ℕ) → p.made h ≡ true → SaysOfCount p h.slot word → is_live h word ≡ false → ¬ (IsLive p.now.texts h)
  entry_gone h word made says dead live = let is : is_live h word ≡ true = (says.live h made refl).1 live in absurd (cc)

-- THE PLACE OF A LINKED SLOT

put_or_was : (b : Bool) (phase was : Phase) (text : List ℕ) (h : Handle) (born : ℕ) → cond b phase was ≡ Linked text h born → (was ≡ Linked text h born) ⊎ (phase ≡ Linked text h born)
put_or_was true phase was text h born is = inr is
put_or_was false phase was text h born is = inl is

same_link : (u text : List ℕ) (k h : Handle) (place born : ℕ) → Linked u k place ≡ Linked text h born → (what.Create u k ≡ what.Create text h) × (place ≡ born)
same_link u text k h place born is = (cc, cc)

linked_by : (n : Now) (seat : ℕ) (w : What) (s : ℕ) (text : List ℕ) (h : Handle) (born : ℕ) → (now_after_event n (record { seat = seat; what = w })).slot s ≡ Linked text h born →
    (n.slot s ≡ Linked text h born) ⊎ ((w ≡ what.Create text h) × (n.place ≡ born))
linked_by n seat (what.Create u k) s text h born is = elim (put_or_was (nat_eq s k.slot) (Linked u k n.place) (n.slot s) text h born is) [
  | inl was ↦ inl was
  | inr made ↦ inr (same_link u text k h n.place born made)
]
linked_by n seat (what.Claim x) s text h born is = elim (put_or_was (nat_eq s x) (Claimed seat) (n.slot s) text h born is) [ inl was ↦ inl was | inr made ↦ absurd (cc) ]
linked_by n seat (what.Free x) s text h born is = elim (put_or_was (nat_eq s x) Vacant (n.slot s) text h born is) [ inl was ↦ inl was | inr made ↦ absurd (cc) ]
linked_by n seat (what.Unlink x) s text h born is = elim (put_or_was (nat_eq s x) (Unlinked seat n.place) (n.slot s) text h born is) [ inl was ↦ inl was | inr made ↦ absurd (cc) ]
linked_by n seat _ s text h born is = inl is

-- a slot is linked by a Create, which stands at the place that the slot has
pub linked_since : (n : Now) (log : List Event) (s : ℕ) (text : List ℕ) (h : Handle) (born : ℕ) → (now_after n log).slot s ≡ Linked text h born →
    (n.slot s ≡ Linked text h born) ⊎ ((front back : List Event) × (seat : ℕ) × (log ≡ with_event front seat (what.Create text h) back) × (n.place + length front ≡ born))
linked_since n [] s text h born is = inl is
linked_since n (e ∷ log) s text h born is = elim (linked_since (now_after_event n e) log s text h born is) [
  | inl was ↦ elim (linked_by n e.seat e.what s text h born was) [
    | inl before ↦ inl before
    | inr (made, at) ↦ inr ([], log, e.seat, ap (λ (w : What). (record { seat = e.seat; what = w }) ∷ log) made, (let none : n.place + 0 ≡ n.place = omega arith in none ∙ at))
  ]
  | inr (front, back, seat, split, at) ↦ inr (e ∷ front, back, seat, ap (λ l. e ∷ l) split, (let later : n.place + 1 + length front ≡ born = at in omega (arith, later)))
]

-- what a legal log allows at a place
pub legal_at : (m : TextMap) (front back : List Event) (e : Event) → IsLegalFrom m (front ++ e ∷ back) → Allows (map_after m front) e.what
legal_at m [] back e legal = legal.0
legal_at m (x ∷ front) back e legal = legal_at (next m x.what) front back e legal.1

module _ (t : Table) (i : ℕ) (seen window : List Event) (told : IsTold t (seen ++ window)) where
  pub texts_are : (log : List Event) → (now_in t log).texts ≡ map_of log
  texts_are log = texts-now_after (opening t.shape.min_level) log

  -- a text whose live entry was made since a place of the window is absent at a place of it
  pub missing : (text : List ℕ) (load : ℕ) → length seen ≤ load → IsLateAlone (now_in t (seen ++ window)) text load → Somewhere (IsAbsent text) seen window
  missing text load began late = go (entry_of (now_in t (seen ++ window)).texts text) refl
    where
      go : (o : Option Entry) → entry_of (now_in t (seen ++ window)).texts text ≡ o → Somewhere (IsAbsent text) seen window
      go None is = at_end seen window (IsAbsent text) (ap (λ m. entry_of m text) (sym (texts_are (seen ++ window))) ∙ is)
      go (Some e) is =
          let (h, born, linked, after) = late e is in
          elim (linked_since (opening t.shape.min_level) (seen ++ window) e.handle.slot text h born linked) [
            | inl never ↦ absurd (cc)
            | inr (front, back, seat, split, at) ↦
                let place : 0 + length front ≡ born = at in
                let cut = cut_behind seen window front (record { seat = seat; what = what.Create text h } ∷ back) split (omega (arith, began, after, place)) in
                let legal : IsLegalFrom no_texts (front ++ record { seat = seat; what = what.Create text h } ∷ back) = subst (IsLegalFrom no_texts) split
                (told_legal (kind_of t) (past_of t.shape.min_level []) (seen ++ window) told) in (
                  cut.0,
                  record { seat = seat; what = what.Create text h } ∷ back,
                  cut.2,
                  subst (IsAbsent text) cut.1 (legal_at no_texts front back (record { seat = seat; what = what.Create text h }) legal).0,
                )
          ]

  -- from a place of the window on
  split_at : (before rest : List Event) → window ≡ before ++ rest → seen ++ window ≡ (seen ++ before) ++ rest
  split_at before rest cut = ap (λ l. seen ++ l) cut ∙ sym (append_assoc seen before rest)

  -- a Create of the text with the handle of a live entry stands in the log
  pub created_at : (text : List ℕ) (h : Handle) (word : ℕ) → Somewhere (IsWordOf text h word) seen window → IsCreatedAs (seen ++ window) text h
  created_at text h word (before, rest, cut, (count, has, is)) =
      subst (λ l. IsCreatedAs l text h) (sym (split_at before rest cut))
      (created_longer (seen ++ before) rest text h (created_in (seen ++ before) text h (has_handle (map_of (seen ++ before)) text h count has)))

  module _ (tidy : IsTidy t (now_in t (seen ++ window))) where
    -- an entry that is as it was has the word that was found
    still : (text : List ℕ) (h : Handle) (count word : ℕ) → HasCount (map_of (seen ++ window)) text h count → SaysOfCount (past_of t.shape.min_level (seen ++ window)) h.slot word →
        word ≡ holds_word h count
    still text h count word has says =
        word_of_entry t (past_of t.shape.min_level (seen ++ window)) tidy text h count word (subst (λ m. HasCount m text h count) (sym (texts_are (seen ++ window))) has) says

    -- where another word is found than that of the entry, another seat had an event on its handle
    pub count_lost : (text : List ℕ) (h : Handle) (word found : ℕ) → IsUnseen i window → Somewhere (IsWordOf text h word) seen window →
        SaysOfCount (past_of t.shape.min_level (seen ++ window)) h.slot found → found ≢ word → Another i (IsOnHandle h) seen window
    count_lost text h word found unseen (before, rest, cut, (count, has, is)) says other =
        let legal : IsLegalFrom no_texts ((seen ++ before) ++ rest) = subst (IsLegalFrom no_texts) (split_at before rest cut)
        (told_legal (kind_of t) (past_of t.shape.min_level []) (seen ++ window) told) in
        elim (entry_moved (map_of (seen ++ before)) rest text h count has (legal_rest no_texts (seen ++ before) rest legal)) [
          | inl (front, back, e, split, on) ↦
              let whole : window ≡ (before ++ front) ++ e ∷ back = cut ∙ ap (λ l. before ++ l) split ∙ sym (append_assoc before front (e ∷ back)) in
              (before ++ front, back, e, whole, not_own i (before ++ front) back e (subst (IsUnseen i) whole unseen) ((visible_is_on e.what).1 (h, on)), on)
          | inr same ↦
              let now : HasCount (map_of (seen ++ window)) text h count =
              subst (λ l. HasCount (map_of l) text h count) (sym (split_at before rest cut)) (subst (λ m. HasCount m text h count) (sym (map_after-append no_texts (seen ++ before) rest)) same) in
              absurd (other (still text h count found now says ∙ sym is))
        ]
      where
        legal_rest : (m : TextMap) (xs ys : List Event) → IsLegalFrom m (xs ++ ys) → IsLegalFrom (map_after m xs) ys
        legal_rest m [] ys legal = legal
        legal_rest m (x ∷ xs) ys legal = legal_rest (next m x.what) xs ys legal.1

    -- in a weak table the entry is gone at a place of the window
    pub kill_lost : (text : List ℕ) (h : Handle) (word found : ℕ) → t.kind ≡ Weak → Somewhere (IsWordOf text h word) seen window →
        SaysOfCount (past_of t.shape.min_level (seen ++ window)) h.slot found → found ≢ word → Somewhere (IsGone h) seen window
    kill_lost text h word found weak (before, rest, cut, (count, has, is)) says other =
        let (q, at, rest_told) = told_back (kind_of t) (past_of t.shape.min_level []) (seen ++ before) rest (subst (IsTold t) (split_at before rest cut) told) in
        let texts : q.now.texts ≡ map_of (seen ++ before) = ap (λ (n : Now). n.texts) at ∙ texts_are (seen ++ before) in
        elim (gone_or_same (kind_of t) weak q rest text h count (subst (λ m. HasCount m text h count) (sym texts) has) rest_told) [
          | inl (front, back, split, gone) ↦
              let whole : window ≡ (before ++ front) ++ back = cut ∙ ap (λ l. before ++ l) split ∙ sym (append_assoc before front back) in
              let there : map_after q.now.texts front ≡ map_of (seen ++ (before ++ front)) =
              ap (λ m. map_after m front) texts ∙ sym (map_after-append no_texts (seen ++ before) front) ∙ ap map_of (append_assoc seen before front) in
              (before ++ front, back, whole, subst (λ m. ¬ (IsLive m h)) there gone)
          | inr same ↦
              let now : HasCount (map_of (seen ++ window)) text h count =
              subst (λ l. HasCount (map_of l) text h count) (sym (split_at before rest cut))
              (subst (λ m. HasCount m text h count) (ap (λ m. map_after m rest) texts ∙ sym (map_after-append no_texts (seen ++ before) rest)) same) in
              absurd (other (still text h count found now says ∙ sym is))
        ]
