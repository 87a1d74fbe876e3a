-- What the words and the log of a table say of its slots before its chains are made anew.
use Rattle.std.proofs.Common.{◌≡◌, ℕ, ◌+◌, ◌*◌, ◌%◌, ◌<◌, ◌≤◌, ◌⊎◌, Bool, true, false, cond, nat_eq, List, [], ◌∷◌, fold, length, inl, inr, refl, sym, ap, subst, ◌∙◌, arith}
use Rattle.std.proofs.lemmas.Bool.{cases_lt, le-ltb}
use Rattle.text_words.specs.Hash.{hash_of}
use Rattle.text_words.specs.Words.{words_of}
use Rattle.marked_word.specs.Meta.{length_in}
use Rattle.table_shape.specs.declared.place.Place.TheVariants as place
use Rattle.table_shape.specs.declared.shape.Shape.{Shape}
use Rattle.table_shape.specs.Shape.{IsSound}
use Rattle.intern_log.specs.declared.event.Event.{Event}
use Rattle.intern_log.specs.declared.event.Handle.{Handle}
use Rattle.intern_log.specs.declared.event.What.{What}
use Rattle.intern_log.specs.declared.event.What.TheVariants as what
use Rattle.intern_log.specs.Lawful.{IsLinkedDead}
use Rattle.intern_log.specs.Now.{Phase, Now, Vacant, Claimed, Linked, Unlinked, changed_by, now_after_event, now_after, now_of, opening}
use Rattle.atomic_step.specs.Count.{holds_of}
use Rattle.cht_core.specs.declared.table.Table.{Table}
use Rattle.cht_core.specs.Anew.{linked_after, is_linked_in}
use Rattle.cht_core.specs.Flow.{Flow}
use Rattle.cht_core.specs.Memory.{Memory}
use Rattle.cht_core.specs.Past.{Past}
use Rattle.cht_core.specs.Rehash.{HasNoDead, by_next_seed}
use Rattle.cht_core.specs.Search.{IsLinked}
use Rattle.cht_core.specs.Slots.{HasText, IsStorable, claim_word}
use Rattle.cht_core.specs.TableState.{IsTable}
use Rattle.cht_core.proofs.LiveCounts.{LiveAt, live_holds, live_cases, live_entry, live_linked}

-- the linked slots are those that are counted, and each has its text
pub record IsReady (shape : Shape) (m : Memory) (n : Now) : Type 0 where
  pub sound : IsSound shape
  pub low : shape.min_level ≤ n.level
  pub high : n.level ≤ shape.max_level
  pub inside : (s : ℕ) → IsLinked n s → s < shape.slots
  pub counted : (s : ℕ) → IsLinked n s → (m (place.Claim s) ≡ 1) × (1 ≤ holds_of (m (place.Count s)))
  pub linked : (s : ℕ) → m (place.Claim s) ≡ 1 → 1 ≤ holds_of (m (place.Count s)) → IsLinked n s
  pub lengths : (s : ℕ) (text : List ℕ) (h : Handle) (born : ℕ) → n.slot s ≡ Linked text h born → length_in (m (place.Meta s)) ≡ length text
  pub texts : (s : ℕ) (text : List ℕ) (h : Handle) (born : ℕ) → n.slot s ≡ Linked text h born → HasText m s text (words_of (length text))
  pub rooms : (s : ℕ) (text : List ℕ) (h : Handle) (born : ℕ) → n.slot s ≡ Linked text h born → IsStorable shape text

-- the seed makes no difference
pub ready_by_next_seed : (shape : Shape) (m : Memory) (n : Now) → IsReady shape m n → IsReady shape m (by_next_seed n)
ready_by_next_seed shape m n ready = record {
  sound = ready.sound;
  low = ready.low;
  high = ready.high;
  inside = ready.inside;
  counted = ready.counted;
  linked = ready.linked;
  lengths = ready.lengths;
  texts = ready.texts;
  rooms = ready.rooms;
}

-- WHAT THE LOG SAYS OF A SLOT

abbrev pub phase_linked : Phase → Bool
phase_linked (Linked text h born) = true
phase_linked _ = false

put_there : (b linked : Bool) (here old : Phase) → linked ≡ phase_linked old → cond b (phase_linked here) linked ≡ phase_linked (cond b here old)
put_there true linked here old is = refl
put_there false linked here old is = is

after_event : (n : Now) (seat : ℕ) (w : What) (s : ℕ) (linked : Bool) → linked ≡ phase_linked (n.slot s) → linked_after s linked w ≡ phase_linked ((changed_by n seat w).slot s)
after_event n seat (what.Create text h) s linked is = put_there (nat_eq s h.slot) linked (Linked text h n.place) (n.slot s) is
after_event n seat (what.Claim slot) s linked is = put_there (nat_eq s slot) linked (Claimed seat) (n.slot s) is
after_event n seat (what.Free slot) s linked is = put_there (nat_eq s slot) linked Vacant (n.slot s) is
after_event n seat (what.Unlink slot) s linked is = put_there (nat_eq s slot) linked (Unlinked seat n.place) (n.slot s) is
after_event n seat _ s linked is = is

after_events : (log : List Event) (n : Now) (s : ℕ) (linked : Bool) → linked ≡ phase_linked (n.slot s)
    → fold (λ linked (e : Event). linked_after s linked e.what) linked log ≡ phase_linked ((now_after n log).slot s)
after_events [] n s linked is = is
after_events (e ∷ log) n s linked is = after_events log (now_after_event n e) s (linked_after s linked e.what) (after_event n e.seat e.what s linked is)

pub linked_of_log : (min_level : ℕ) (log : List Event) (s : ℕ) → is_linked_in log s ≡ phase_linked ((now_of min_level log).slot s)
linked_of_log min_level log s = after_events log (opening min_level) s false refl

module _ (t : Table) (m : Memory) (p : Past) (f : Flow) (table : IsTable t m p f) where
  -- the claim word of a slot that the table has not is 0
  claimed_inside : (s : ℕ) → m (place.Claim s) ≡ 1 → s < t.shape.slots
  claimed_inside s is = elim (cases_lt s t.shape.slots) [
    | inl less ↦ less
    | inr past ↦ let none : m (place.Claim s) ≡ 0 = table.words.outside (place.Claim s) (le-ltb s t.shape.slots past) in absurd (omega (arith, is, none))
  ]

  linked_claimed : (s : ℕ) → IsLinked p.now s → m (place.Claim s) ≡ 1
  linked_claimed s is = table.slots.claims s ∙ ap claim_word is.3

  -- a linked slot is dead or counted
  dead_or_counted : (s : ℕ) → IsLinked p.now s → (IsLinkedDead p.now (p.now.slot s) × (holds_of (m (place.Count s)) ≡ 0)) ⊎ (1 ≤ holds_of (m (place.Count s)))
  dead_or_counted s is = elim (live_cases t p.now is.1 table.tidy) [
    | inl live ↦
        let at : is.1.slot ≡ s = (table.tidy.linked s is.0 is.1 is.2 is.3).0 in
        let has : LiveAt m p.now is.1.slot live.0 is.1 = live_entry t m p f table live.0 live.1.0 is.1 live.1.1 live.1.2 in
        let count : holds_of (m (place.Count s)) ≡ has.entry.count = ap (λ x. holds_of (m (place.Count x))) (sym at) ∙ live_holds m p.now is.1.slot live.0 is.1 has in
        let least : 1 ≤ has.entry.count = has.least in
        inr (omega (arith, count, least))
    | inr gone ↦ elim (cases_lt 0 (holds_of (m (place.Count s)))) [
      | inl some ↦
          let has = live_linked t m p f table s is.0 is.1 is.2 is.3 some in
          absurd (gone (is.0, (has.entry, has.is, has.own)))
      | inr none ↦ inl (subst (IsLinkedDead p.now) (sym is.3) gone, omega (arith, none))
    ]
  ]

  -- a linked slot that is not counted is dead
  dead_uncounted : (s : ℕ) → IsLinkedDead p.now (p.now.slot s) → IsLinked p.now s × (holds_of (m (place.Count s)) ≡ 0)
  dead_uncounted s dead = go (p.now.slot s) refl dead
    where
      go : (phase : Phase) → p.now.slot s ≡ phase → IsLinkedDead p.now phase → IsLinked p.now s × (holds_of (m (place.Count s)) ≡ 0)
      go (Linked text h born) is gone =
          let linked : IsLinked p.now s = (text, h, born, is) in
          elim (dead_or_counted s linked) [
            | inl none ↦ (linked, none.1)
            | inr some ↦ let has = live_linked t m p f table s text h born is some in absurd (gone (text, (has.entry, has.is, has.own)))
          ]
      go Vacant is gone = absurd gone
      go (Claimed seat) is gone = absurd gone
      go (Unlinked seat at) is gone = absurd gone

  linked_by_phase : (s : ℕ) → phase_linked (p.now.slot s) ≡ true → IsLinked p.now s
  linked_by_phase s = go (p.now.slot s) refl
    where
      go : (phase : Phase) → p.now.slot s ≡ phase → phase_linked phase ≡ true → IsLinked p.now s
      go (Linked text h born) is linked = (text, h, born, is)
      go Vacant is linked = absurd (cc)
      go (Claimed seat) is linked = absurd (cc)
      go (Unlinked seat at) is linked = absurd (cc)

  -- a linked slot is dead exactly where its count is 0
  pub dead_by_words : (s : ℕ) → phase_linked (p.now.slot s) ≡ true → holds_of (m (place.Count s)) ≡ 0 → IsLinkedDead p.now (p.now.slot s)
  dead_by_words s linked none = elim (dead_or_counted s (linked_by_phase s linked)) [
    | inl dead ↦ dead.0
    | inr some ↦ absurd (omega (arith, none, some))
  ]

  pub dead_in_words : (s : ℕ) → IsLinkedDead p.now (p.now.slot s) → (s < t.shape.slots) × (m (place.Claim s) ≡ 1) × (holds_of (m (place.Count s)) ≡ 0) × (phase_linked (p.now.slot s) ≡ true)
  dead_in_words s dead =
      let uncounted = dead_uncounted s dead in
      let linked : IsLinked p.now s = uncounted.0 in
      let claim : m (place.Claim s) ≡ 1 = linked_claimed s linked in
      (claimed_inside s claim, claim, uncounted.1, ap phase_linked linked.3)

  -- where no slot is claimed by a seat and none is linked and dead
  pub ready : ((s i : ℕ) → p.now.slot s ≡ Claimed i → ⊥) → HasNoDead p.now → IsReady t.shape m p.now
  ready unclaimed alive = record {
    sound = table.shape;
    low = table.tidy.level.0;
    high = table.tidy.level.1;
    inside = λ s is. claimed_inside s (linked_claimed s is);
    counted = λ s is. (linked_claimed s is, elim (dead_or_counted s is) [ inl dead ↦ absurd (alive s dead.0) | inr some ↦ some ]);
    linked = λ s claim some. go s (p.now.slot s) refl claim some;
    lengths = λ s text h born is.
        let long : length text ≤ 65535 = (table.slots.rooms s text h born is).0.0 in
        let word = table.slots.metas s text h born is in
        ap length_in word ∙ (let rest : (hash_of p.now.seed text * 65536 + length text) % 65536 ≡ length text = omega (arith, long) in rest);
    texts = table.slots.texts;
    rooms = table.slots.rooms;
  }
    where
      go : (s : ℕ) (phase : Phase) → p.now.slot s ≡ phase → m (place.Claim s) ≡ 1 → 1 ≤ holds_of (m (place.Count s)) → IsLinked p.now s
      go s (Linked text h born) is claim some = (text, h, born, is)
      go s Vacant is claim some = let none : m (place.Claim s) ≡ 0 = table.slots.claims s ∙ ap claim_word is in absurd (omega (arith, claim, none))
      go s (Claimed seat) is claim some = absurd (unclaimed s seat is)
      go s (Unlinked seat at) is claim some = let none : holds_of (m (place.Count s)) ≡ 0 = table.slots.gone s seat at is in absurd (omega (arith, some, none))
