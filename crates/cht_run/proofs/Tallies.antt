-- The counts of the chains of a table add up to the numbers of its map.
use Rattle.std.proofs.Common.{◌≡◌, ◌≢◌, ℕ, zero, suc, ◌<◌, ◌≤◌, ◌^◌, ◌==◌, Bool, true, cond, List, [], ◌∷◌, map, length, Option, Some, None, inl, inr, refl, sym, ap, subst, ◌∙◌, arith}
use Rattle.std.specs.FinMap as finite
use Rattle.std.specs.List.{All}
use Rattle.std.proofs.lemmas.Bool.{eqb-true, eq-eqb, ne_eqb}
use Rattle.std.proofs.lemmas.List.{length-map}
use Rattle.chain_core.specs.Nodes.{On, Once}
use Rattle.chain_core.specs.Path.{IsPath}
use Rattle.chain_core.proofs.Members.{once_within}
use Rattle.chain_core.proofs.Ways.{path_one}
use Rattle.marked_word.specs.Head.{first_of}
use Rattle.table_shape.specs.declared.place.Place.TheVariants as place
use Rattle.intern_log.specs.declared.event.Entry.{Entry}
use Rattle.intern_log.specs.declared.event.Event.{Event}
use Rattle.intern_log.specs.declared.event.Handle.{Handle}
use Rattle.intern_log.specs.Buckets.{bucket_of}
use Rattle.intern_log.specs.Now.{Now, Linked}
use Rattle.intern_log.specs.TextMap.{entry_of}
use Rattle.atomic_step.specs.Count.{holds_of, holds_word}
use Rattle.cht_core.specs.declared.table.Table.{Table}
use Rattle.cht_core.specs.Causes.{now_in}
use Rattle.cht_core.specs.Memory.{Memory, links}
use Rattle.cht_core.specs.Past.{Past, past_of}
use Rattle.cht_core.specs.Search.{IsLinked}
use Rattle.cht_core.specs.Shows.{IsOfBucket}
use Rattle.cht_core.specs.Slots.{count_in}
use Rattle.cht_core.proofs.Counts.{holds_in_word, count_here, count_elsewhere, handle_cases}
use Rattle.cht_core.proofs.ShowsLog.{shows_log}
use Rattle.cht_core.proofs.Walks.{held_inside, few_held}
use Rattle.cht_run.specs.declared.tally.Tally.{Tally}
use Rattle.cht_run.specs.Tallies.{IsShown, live_in, permanent_in, references_in, IsTally, sum_at, sum_in, HasChain, IsTallyOfChain}
use Rattle.cht_run.proofs.MapEntries.{Item, has_entry, entry_stands, entries_apart}
use Rattle.cht_run.proofs.Matches.{Stands, Matches, sums_match}

-- what holds of each node of a list
all_on : (P : ℕ → Type 0) (xs : List ℕ) → ((s : ℕ) → On s xs → P s) → All P xs
all_on P [] each k d below = absurd (omega (arith, below))
all_on P (x ∷ xs) each zero d below = each x (inl refl)
all_on P (x ∷ xs) each (suc k) d below = all_on P xs (λ s on. each s (inr on)) k d (omega (arith, below))

-- a tally of one sum is that of another one
pub tally_alike : (f g : (ℕ → ℕ) → ℕ) (tally : Tally) → f live_in ≡ g live_in → f permanent_in ≡ g permanent_in → f references_in ≡ g references_in → IsTally f tally → IsTally g tally
tally_alike f g tally live permanent references is = record { live = is.live ∙ live; permanent = is.permanent ∙ permanent; references = is.references ∙ references }

-- ONE BUCKET

module _ (t : Table) (m : Memory) (log : List Event) (shown : IsShown t m log) where
  abbrev n : Now
  n = now_in t log

  abbrev p : Past
  p = past_of t.shape.min_level log

  abbrev items : List Item
  items = finite.entries n.texts

  abbrev pub slot : Item → ℕ
  slot x = x.1.handle.slot

  linked : (x : Item) → Stands x items → (born : ℕ) × (n.slot (slot x) ≡ Linked x.0 x.1.handle born) × (1 ≤ x.1.count) × (x.1.count ≤ 65535)
  linked x stands = shown.table.tidy.entries x.0 x.1 (has_entry n.texts x stands)

  pub apart : Once (map slot items)
  apart = entries_apart n.texts slot (λ x y here there same.
      let a = linked x here in
      let b = linked y there in
      let one : Linked x.0 x.1.handle a.0 ≡ Linked y.0 y.1.handle b.0 = sym a.1 ∙ ap n.slot same ∙ b.1 in
      cc)

  -- the count word of a slot has the count of its entry, or 0
  holds_counted : (s : ℕ) (text : List ℕ) (h : Handle) (born count : ℕ) → n.slot s ≡ Linked text h born → count_in (entry_of n.texts text) h ≡ count → count < 65536 → holds_of (m (place.Count s)) ≡ count
  holds_counted s text h born count is counted small =
      ap holds_of (shown.table.slots.counts s text h born is ∙ ap (holds_word h) counted) ∙ holds_in_word h count small

  holds_live : (x : Item) → Stands x items → holds_of (m (place.Count (slot x))) ≡ x.1.count
  holds_live x stands =
      let is = linked x stands in
      let most = is.3 in
      holds_counted (slot x) x.0 x.1.handle is.0 x.1.count is.1 (ap (λ o. count_in o x.1.handle) (has_entry n.texts x stands) ∙ count_here x.1 x.1.handle refl) (omega (arith, most))

  abbrev Chain : ℕ → Type 0
  Chain bucket = (nodes : List ℕ) × IsPath (links m) (first_of (m (place.Head n.level bucket))) nodes × Once nodes × ((s : ℕ) → (On s nodes → IsOfBucket n bucket s) × (IsOfBucket n bucket s → On s nodes))

  chain : (bucket : ℕ) → bucket < 2 ^ n.level → Chain bucket
  chain bucket below = (shows_log t m p shown.flow shown.table).chains shown.settled bucket below

  module _ (bucket : ℕ) (below : bucket < 2 ^ n.level) (f : ℕ → ℕ) (nothing : f 0 ≡ 0) where
    abbrev passes : Item → Bool
    passes x = bucket_of n.seed n.level x.0 == bucket

    abbrev worth : Item → ℕ
    worth x = f x.1.count

    abbrev held : ℕ → ℕ
    held s = f (holds_of (m (place.Count s)))

    on_chain : (x : Item) → Stands x items → passes x ≡ true → On (slot x) (chain bucket below).0 × (held (slot x) ≡ worth x)
    on_chain x stands is = let at = linked x stands in
        (((chain bucket below).3 (slot x)).1 (x.0, x.1.handle, at.0, at.1, eqb-true (bucket_of n.seed n.level x.0) bucket is), ap f (holds_live x stands))

    -- a slot of the chain that has no live entry
    dead : (s : ℕ) → On s (chain bucket below).0 → ((x : Item) → Stands x items → passes x ≡ true → slot x ≢ s) → held s ≡ 0
    dead s on others =
        let of = ((chain bucket below).3 s).0 on in
        ap f (holds_counted s of.0 of.1 of.2 0 of.3 (go of (entry_of n.texts of.0) refl) (omega arith)) ∙ nothing
      where
        go : (of : IsOfBucket n bucket s) (o : Option Entry) → entry_of n.texts of.0 ≡ o → count_in (entry_of n.texts of.0) of.1 ≡ 0
        go of None is = ap (λ o. count_in o of.1) is
        go of (Some e) is = elim (handle_cases e.handle of.1) [
          | inl same ↦ absurd (others (of.0, e) (entry_stands n.texts of.0 e is) (eq-eqb (bucket_of n.seed n.level of.0) bucket of.4)
              (ap (λ (h : Handle). h.slot) same ∙ (shown.table.tidy.linked s of.0 of.1 of.2 of.3).0))
          | inr differ ↦ ap (λ o. count_in o of.1) is ∙ count_elsewhere e of.1 differ
        ]

    match_chain : Matches slot passes worth held items (chain bucket below).0
    match_chain = record { once = (chain bucket below).2; apart = apart; on = on_chain; rest = dead }

    chain_sum : sum_at m (chain bucket below).0 f ≡ sum_in n bucket f
    chain_sum = sums_match slot passes worth held items (chain bucket below).0 match_chain

  -- the chain of a bucket can be walked, and its counts are those of the bucket
  pub has_chain : (bucket : ℕ) → bucket < 2 ^ n.level → HasChain m t.shape.slots (first_of (m (place.Head n.level bucket)))
  has_chain bucket below =
      let c = chain bucket below in
      let is_linked : (s : ℕ) → On s c.0 → IsLinked n s = λ s on. let of = (c.3 s).0 on in (of.0, of.1, of.2, of.3) in (
        c.0,
        record {
          path = c.1;
          inside = all_on (λ s. s < t.shape.slots) c.0 (λ s on. held_inside t m p shown.flow shown.table 0 s (inl (is_linked s on)));
          few = few_held t m p shown.flow shown.table 0 c.0 c.2 (λ s on. inl (is_linked s on));
        },
      )

  pub bucket_tally : (bucket : ℕ) (tally : Tally) → bucket < 2 ^ n.level → IsTallyOfChain m (first_of (m (place.Head n.level bucket))) tally → IsTally (sum_in n bucket) tally
  bucket_tally bucket tally below of =
      let c = chain bucket below in
      let same : of.0 ≡ c.0 = path_one (links m) (first_of (m (place.Head n.level bucket))) c.0 of.0 c.1 of.1 in
      tally_alike (sum_at m c.0) (sum_in n bucket) tally (chain_sum bucket below live_in refl) (chain_sum bucket below permanent_in refl) (chain_sum bucket below references_in refl)
      (subst (λ nodes. IsTally (sum_at m nodes) tally) same of.2)

  -- there are no more live entries than slots
  pub few_entries : length items ≤ t.shape.slots
  few_entries =
      let few = once_within t.shape.slots (map slot items) apart (all_on (λ s. s < t.shape.slots) (map slot items) (λ s on. inside items s on (λ x stands. stands))) in
      let long = length-map items slot in
      omega (arith, few, long)
    where
      inside : (xs : List Item) (s : ℕ) → On s (map slot xs) → ((x : Item) → Stands x xs → Stands x items) → s < t.shape.slots
      inside [] s on within = absurd on
      inside (x ∷ xs) s (inl here) within = let at = linked x (within x (inl refl)) in
          subst (λ k. k < t.shape.slots) here (held_inside t m p shown.flow shown.table 0 (slot x) (inl (x.0, x.1.handle, at.0, at.1)))
      inside (x ∷ xs) s (inr later) within = inside xs s later (λ y stands. within y (inr stands))

  -- a live entry counts as one
  pub counts_one : (x : Item) → Stands x items → live_in x.1.count ≡ 1
  counts_one x stands = let some = (linked x stands).2 in ap {B = ℕ} (λ b. cond b 0 1) (ne_eqb x.1.count 0 (λ none. omega (arith, none, some)))
