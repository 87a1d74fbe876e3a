-- The buckets of a row add up to the whole map, and one of them is the longest.
use Rattle.std.proofs.Common.{◌≡◌, ◌≢◌, ℕ, ◌+◌, ◌*◌, ◌<◌, ◌≤◌, ◌^◌, ◌==◌, nat_eq, nat_lt, Bool, true, false, cond, max, List, [], ◌∷◌, length, ◌⊎◌, inl, inr, refl, sym, ap, ◌∙◌, arith}
use Rattle.std.specs.Prelude.{sum_by, fold}
use Rattle.std.specs.FinMap as finite
use Rattle.std.proofs.lemmas.Bool.{eqb-true, eq-eqb, ltb-true, ltb-false, lt-ltb, cases_eq}
use Rattle.std.proofs.lemmas.List.{length-map}
use Rattle.std.proofs.lemmas.List.Folds.{fold-map}
use Rattle.intern_log.specs.declared.event.Entry.{Entry}
use Rattle.intern_log.specs.declared.event.Event.{Event}
use Rattle.intern_log.specs.Buckets.{bucket_of, in_bucket, longest_bucket}
use Rattle.intern_log.specs.EntryCounts.{references_of}
use Rattle.intern_log.specs.Log.{map_of}
use Rattle.intern_log.specs.Now.{Now, opening}
use Rattle.intern_log.specs.TextMap.{live_texts}
use Rattle.intern_log.proofs.LawfulLaws.{texts-now_after}
use Rattle.intern_log.proofs.RowLaws.{no_longer_bucket, longest_is_reached}
use Rattle.cht_core.specs.declared.table.Table.{Table}
use Rattle.cht_core.specs.Causes.{now_in}
use Rattle.cht_core.specs.Memory.{Memory}
use Rattle.cht_core.proofs.RehashWords.{bucket_below}
use Rattle.cht_run.specs.declared.statistics.Statistics.{Statistics}
use Rattle.cht_run.specs.declared.tally.Tally.{Tally}
use Rattle.cht_run.specs.Statistics.{permanent_of, IsStatistics}
use Rattle.cht_run.specs.Tallies.{IsShown, live_in, permanent_in, references_in, IsTally, sum_in, sum_below, IsLongestBelow}
use Rattle.cht_run.proofs.MapEntries.{Item}
use Rattle.cht_run.proofs.Matches.{sum_alike, sum_together, sum_few}
use Rattle.cht_run.proofs.Tallies.{few_entries, counts_one}

sum_ones : {A : Type 0} (xs : List A) → sum_by (λ x. 1) xs ≡ length xs
sum_ones {A} xs = go xs 0 ∙ omega arith
  where
    go : (xs : List A) (a : ℕ) → fold (λ n x. n + 1) a xs ≡ a + length xs
    go [] a = omega arith
    go (x ∷ xs) a = let rest = go xs (a + 1) in omega (arith, rest)

-- ONE MORE BUCKET

one_more : (a b w : ℕ) → cond (nat_lt a (b + 1)) w 0 ≡ cond (nat_lt a b) w 0 + cond (nat_eq a b) w 0
one_more a b w = go (nat_lt a b) refl (nat_eq a b) refl
  where
    go : (less : Bool) → nat_lt a b ≡ less → (same : Bool) → nat_eq a b ≡ same → cond (nat_lt a (b + 1)) w 0 ≡ cond less w 0 + cond same w 0
    go true is true same = let below = ltb-true a b is in let equal = eqb-true a b same in absurd (omega (arith, below, equal))
    go true is false same = let below = ltb-true a b is in ap (λ c. cond c w 0) (lt-ltb a (b + 1) (omega (arith, below))) ∙ omega arith
    go false is true same = let equal = eqb-true a b same in ap (λ c. cond c w 0) (lt-ltb a (b + 1) (omega (arith, equal))) ∙ omega arith
    go false is false same = by (nat_lt a (b + 1)) refl
      where
        by : (c : Bool) → nat_lt a (b + 1) ≡ c → cond c w 0 ≡ 0
        by true below = let most = ltb-false a b is in let less = ltb-true a (b + 1) below in
            let equal : a ≡ b = omega (arith, most, less) in
            let never : false ≡ true = sym same ∙ eq-eqb a b equal in absurd (cc)
        by false not = refl

none_below : (a w : ℕ) → cond (nat_lt a 0) w 0 ≤ 0
none_below a w = go (nat_lt a 0) refl
  where
    go : (b : Bool) → nat_lt a 0 ≡ b → cond b w 0 ≤ 0
    go true is = let never = ltb-true a 0 is in absurd (omega (arith, never))
    go false is = omega arith

at_most : (b : Bool) (w most : ℕ) → w ≤ most → cond b w 0 ≤ most
at_most true w most few = few
at_most false w most few = omega arith

module _ (n : Now) where
  abbrev items : List Item
  items = finite.entries n.texts

  pub sum_none : (f : ℕ → ℕ) → sum_below n 0 f ≡ 0
  sum_none f = let few = sum_few (λ (x : Item). cond (nat_lt (bucket_of n.seed n.level x.0) 0) (f x.1.count) 0) 0 items (λ x. none_below (bucket_of n.seed n.level x.0) (f x.1.count)) in omega (arith, few)

  pub sum_more : (bucket : ℕ) (f : ℕ → ℕ) → sum_below n (bucket + 1) f ≡ sum_below n bucket f + sum_in n bucket f
  sum_more bucket f = sum_together
      (λ (x : Item). cond (nat_lt (bucket_of n.seed n.level x.0) bucket) (f x.1.count) 0)
      (λ (x : Item). cond (nat_eq (bucket_of n.seed n.level x.0) bucket) (f x.1.count) 0)
      (λ (x : Item). cond (nat_lt (bucket_of n.seed n.level x.0) (bucket + 1)) (f x.1.count) 0)
      items (λ x. one_more (bucket_of n.seed n.level x.0) bucket (f x.1.count))

  pub sum_whole : (f : ℕ → ℕ) → sum_below n (2 ^ n.level) f ≡ sum_by (λ (x : Item). f x.1.count) items
  sum_whole f = sum_alike (λ (x : Item). cond (nat_lt (bucket_of n.seed n.level x.0) (2 ^ n.level)) (f x.1.count) 0) (λ (x : Item). f x.1.count) items
      (λ x stands. ap (λ b. cond b (f x.1.count) 0) (lt-ltb (bucket_of n.seed n.level x.0) (2 ^ n.level) (bucket_below n.seed n.level x.0)))

  pub sum_small : (bucket most : ℕ) (f : ℕ → ℕ) → ((count : ℕ) → f count ≤ most) → sum_below n bucket f ≤ most * length items
  sum_small bucket most f few = sum_few (λ (x : Item). cond (nat_lt (bucket_of n.seed n.level x.0) bucket) (f x.1.count) 0) most items
      (λ x. at_most (nat_lt (bucket_of n.seed n.level x.0) bucket) (f x.1.count) most (few x.1.count))

  pub no_tally : (tally : Tally) → tally.live ≡ 0 → tally.permanent ≡ 0 → tally.references ≡ 0 → IsTally (sum_below n 0) tally
  no_tally tally live permanent references = record { live = live ∙ sym (sum_none live_in); permanent = permanent ∙ sym (sum_none permanent_in); references = references ∙ sym (sum_none references_in) }

-- what one count adds is small
pub live_small : (count : ℕ) → live_in count ≤ 1
live_small count = go (count == 0)
  where
    go : (b : Bool) → cond b 0 1 ≤ 1
    go true = omega arith
    go false = omega arith

pub permanent_small : (count : ℕ) → permanent_in count ≤ 1
permanent_small count = at_most (count == 65535) 1 1 (omega arith)

pub references_small : (count : ℕ) → references_in count ≤ 65535
references_small count = go (nat_lt count 65535) refl
  where
    go : (b : Bool) → nat_lt count 65535 ≡ b → cond b count 0 ≤ 65535
    go true is = let less = ltb-true count 65535 is in omega (arith, less)
    go false is = omega arith

-- THE WHOLE ROW

module _ (t : Table) (m : Memory) (log : List Event) (shown : IsShown t m log) where
  abbrev now : Now
  now = now_in t log

  abbrev all : List Item
  all = finite.entries now.texts

  -- the sums are no more than numbers of the machine
  pub bounds : (bucket : ℕ) → (sum_below now bucket live_in ≤ t.shape.slots) × (sum_below now bucket permanent_in ≤ t.shape.slots) × (sum_below now bucket references_in ≤ 65535 * t.shape.slots)
  bounds bucket =
      let few = few_entries t m log shown in
      let live = sum_small now bucket 1 live_in live_small in
      let permanent = sum_small now bucket 1 permanent_in permanent_small in
      let references = sum_small now bucket 65535 references_in references_small in
      (omega (arith, few, live), omega (arith, few, permanent), omega (arith, few, references))

  -- one more bucket still fits, and is counted
  pub more_fits : (bucket : ℕ) (so_far here : Tally) → IsTally (sum_below now bucket) so_far → IsTally (sum_in now bucket) here →
      (so_far.live + here.live ≤ t.shape.slots) × (so_far.permanent + here.permanent ≤ t.shape.slots) × (so_far.references + here.references ≤ 65535 * t.shape.slots)
  more_fits bucket so_far here is own =
      let few = bounds (bucket + 1) in
      let live = sum_more now bucket live_in in
      let permanent = sum_more now bucket permanent_in in
      let references = sum_more now bucket references_in in (
        let a = is.live in let b = own.live in omega (arith, few.0, live, a, b),
        let a = is.permanent in let b = own.permanent in omega (arith, few.1, permanent, a, b),
        let a = is.references in let b = own.references in omega (arith, few.2, references, a, b),
      )

  pub more_counted : (bucket : ℕ) (so_far here new : Tally) → IsTally (sum_below now bucket) so_far → IsTally (sum_in now bucket) here → new.live ≡ so_far.live + here.live →
      new.permanent ≡ so_far.permanent + here.permanent → new.references ≡ so_far.references + here.references → IsTally (sum_below now (bucket + 1)) new
  more_counted bucket so_far here new is own live permanent references = record {
    live = let more = sum_more now bucket live_in in let a = is.live in let b = own.live in omega (arith, more, a, b, live);
    permanent = let more = sum_more now bucket permanent_in in let a = is.permanent in let b = own.permanent in omega (arith, more, a, b, permanent);
    references = let more = sum_more now bucket references_in in let a = is.references in let b = own.references in omega (arith, more, a, b, references);
  }

  live_of_bucket : (bucket : ℕ) → in_bucket now.seed now.level (live_texts now.texts) bucket ≡ sum_in now bucket live_in
  live_of_bucket bucket =
      fold-map (λ a text. a + cond (bucket_of now.seed now.level text == bucket) 1 0) (λ (x : Item). x.0) 0 all
      ∙ sum_alike (λ (x : Item). cond (bucket_of now.seed now.level x.0 == bucket) 1 0) (λ (x : Item). cond (bucket_of now.seed now.level x.0 == bucket) (live_in x.1.count) 0) all
      (λ x stands. ap (λ w. cond (bucket_of now.seed now.level x.0 == bucket) w 0) (sym (counts_one t m log shown x stands)))

  -- the longest so far
  pub none_longest : IsLongestBelow now 0 0
  none_longest = record { most = λ other below. absurd (omega (arith, below)); reached = omega arith }

  pub longer_one : (bucket here longest : ℕ) → IsLongestBelow now bucket longest → here ≡ sum_in now bucket live_in → IsLongestBelow now (bucket + 1) (max here longest)
  longer_one bucket here longest so_far is =
      let same : here ≡ in_bucket now.seed now.level (live_texts now.texts) bucket = is ∙ sym (live_of_bucket bucket) in
      record { most = λ other below. most same other below (cases_eq other bucket); reached = let old = so_far.reached in let new = no_longer_bucket now.seed now.level (live_texts now.texts) bucket in omega (arith, old, new, same) }
    where
      most : here ≡ in_bucket now.seed now.level (live_texts now.texts) bucket → (other : ℕ) → other < bucket + 1 → (other ≡ bucket) ⊎ (other ≢ bucket) → in_bucket now.seed now.level (live_texts now.texts) other ≤ max here longest
      most same other below (inl equal) = let at = ap (in_bucket now.seed now.level (live_texts now.texts)) equal in omega (arith, at, same)
      most same other below (inr differ) = let old = so_far.most other (omega (arith, below, differ)) in omega (arith, old)

  longest_is : (longest : ℕ) → IsLongestBelow now (2 ^ now.level) longest → longest ≡ longest_bucket now.seed now.level (live_texts now.texts)
  longest_is longest is = elim (longest_is_reached now.seed now.level (live_texts now.texts)) [
    | inl none ↦ let reached = is.reached in let zero = none.1 in omega (arith, reached, zero)
    | inr found ↦
        let most = is.most (bucket_of now.seed now.level found.0) (bucket_below now.seed now.level found.0) in
        let reached = is.reached in
        let same = found.2 in
        omega (arith, most, reached, same)
  ]

  live_is : sum_below now (2 ^ now.level) live_in ≡ length (live_texts now.texts)
  live_is = sum_whole now live_in ∙ sum_alike (λ (x : Item). live_in x.1.count) (λ x. 1) all (counts_one t m log shown) ∙ sum_ones all ∙ sym (length-map all (λ (x : Item). x.0))

  permanent_is : sum_below now (2 ^ now.level) permanent_in ≡ permanent_of now.texts
  permanent_is = sum_whole now permanent_in ∙ sym (fold-map (λ a (e : Entry). a + permanent_in e.count) (λ (x : Item). x.1) 0 all)

  references_is : sum_below now (2 ^ now.level) references_in ≡ references_of now.texts
  references_is = sum_whole now references_in ∙ sym (fold-map (λ a (e : Entry). a + references_in e.count) (λ (x : Item). x.1) 0 all)

  texts_are : now.texts ≡ map_of log
  texts_are = texts-now_after (opening t.shape.min_level) log

  -- so these are the numbers of the table
  pub numbers_are : (s : Statistics) (tally : Tally) → s.level ≡ now.level → s.buckets ≡ 2 ^ now.level → IsTally (sum_below now (2 ^ now.level)) tally → s.live ≡ tally.live → s.permanent ≡ tally.permanent →
      s.references ≡ tally.references → IsLongestBelow now (2 ^ now.level) s.longest → IsStatistics t log s
  numbers_are s tally level buckets is live permanent references longest = record {
    level = level;
    buckets = buckets;
    live = live ∙ is.live ∙ live_is ∙ ap (λ m. length (live_texts m)) texts_are;
    permanent = permanent ∙ is.permanent ∙ permanent_is ∙ ap permanent_of texts_are;
    references = references ∙ is.references ∙ references_is ∙ ap references_of texts_are;
    longest = longest_is s.longest longest ∙ ap (λ m. longest_bucket now.seed now.level (live_texts m)) texts_are;
  }
