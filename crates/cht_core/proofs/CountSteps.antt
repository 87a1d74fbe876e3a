-- The steps on count words: they change the entry of one live handle, in the map and in its word.
use Rattle.std.proofs.Common.{◌≡◌, ◌≢◌, ℕ, ◌+◌, ◌-◌, ◌^◌, ◌<◌, ◌≤◌, ◌==◌, ◌||◌, Bool, true, false, cond, min, List, Option, Some, None, refl, sym, ap, subst, ◌∙◌, arith}
use Rattle.std.proofs.lemmas.Bool.{eqb-true}
use Rattle.std.proofs.lemmas.Bool.Decides.{nat_tests}
use Rattle.table_shape.specs.declared.place.Place.TheVariants as place
use Rattle.intern_log.specs.declared.event.Entry.{Entry}
use Rattle.intern_log.specs.declared.event.Handle.{Handle}
use Rattle.intern_log.specs.declared.event.Kind.{Kind}
use Rattle.intern_log.specs.declared.event.Kind.TheVariants.{Counted, Weak}
use Rattle.intern_log.specs.declared.event.What.{What}
use Rattle.intern_log.specs.declared.event.What.TheVariants as what
use Rattle.intern_log.specs.Log.{next, raised, lowered}
use Rattle.intern_log.proofs.Handles.{same_entry}
use Rattle.atomic_step.specs.declared.count.Change.{Change}
use Rattle.atomic_step.specs.declared.count.Change.TheVariants.{Drop, Permanent, Kill}
use Rattle.atomic_step.specs.declared.step.Step.{Step}
use Rattle.atomic_step.specs.declared.step.Step.TheVariants as step
use Rattle.atomic_step.specs.Access.{word_after}
use Rattle.atomic_step.specs.Count.{generation_of, holds_of, holds_word, handle_at, changed, is_live}
use Rattle.atomic_step.specs.Count.{raised as word_with_one_more}
use Rattle.atomic_step.specs.Event.{change_of}
use Rattle.atomic_step.specs.SoundStep.{IsSoundStep, IsChangeable}
use Rattle.atomic_step.specs.Step.{access_of}
use Rattle.cht_core.specs.declared.table.Table.{Table}
use Rattle.cht_core.specs.Backs.{KeepsTable, LeadsOn}
use Rattle.cht_core.specs.Flow.{Flow, holds_after}
use Rattle.cht_core.specs.KnowsCall.{MayChange, IsCountOf}
use Rattle.cht_core.specs.Ledger.{Balanced}
use Rattle.cht_core.specs.Memory.{Memory, IsMade, found}
use Rattle.cht_core.specs.Past.{Past, MayTell, kind_of, told}
use Rattle.cht_core.specs.Search.{IsSeenWith}
use Rattle.cht_core.specs.Slots.{count_in}
use Rattle.cht_core.specs.TableState.{IsTable, Words}
use Rattle.cht_core.specs.Tidy.{IsTidy}
use Rattle.cht_core.proofs.Basics.{after_load, after_same}
use Rattle.cht_core.proofs.Calm.{calm_leads}
use Rattle.cht_core.proofs.CountChanges.{left_by, left_word, change_live, change_may, change_balanced, change_recounts}
use Rattle.cht_core.proofs.CountLeads.{counted_past, Recounts, count_leads}
use Rattle.cht_core.proofs.Counts.{count_small, count_here, word_fits, word_raised, raised_count, lowered_stays}
use Rattle.cht_core.proofs.Entries.{found_puts, take_puts}
use Rattle.cht_core.proofs.Ledgers.{balanced_after, take_recounted, hold_of_other_seat}
use Rattle.cht_core.proofs.LiveCounts.{LiveAt, live_seen, live_generation, live_holds}
use Rattle.cht_core.proofs.TidyKept.{tidy_told}
use Rattle.cht_core.proofs.WordsKept.{words_kept}

-- what a step that leaves the chains leads to with an event
abbrev GoesBy : Table → Memory → Past → Flow → ℕ → Step → Option What → Memory → Type 0
GoesBy t m p f i s e m' = LeadsOn t m p f i s e m' (told p i e) (record f { holds = holds_after i e f.holds })

or_false : (b : Bool) → (b || false) ≡ b
or_false true = refl
or_false false = refl

and_none : (n : ℕ) → n + 0 ≡ n
and_none n = omega arith

-- what is told after each of these events
told_found : (p : Past) (i : ℕ) (text : List ℕ) (h : Handle) → told p i (Some (what.Found text h)) ≡ counted_past p (next p.now.texts (what.Found text h))
told_found p i text h = λ j. record { now = (counted_past p p.now.texts).now; made = λ k. or_false (p.made k) j; uses = λ s. and_none (p.uses s) j }

told_take : (p : Past) (i : ℕ) (text : List ℕ) (h : Handle) → told p i (Some (what.Take text h)) ≡ counted_past p (next p.now.texts (what.Take text h))
told_take p i text h = λ j. record { now = (counted_past p (next p.now.texts (what.Take text h))).now; made = λ k. or_false (p.made k) j; uses = λ s. and_none (p.uses s) j }

told_change : (p : Past) (i : ℕ) (change : Change) (h : Handle) → told p i (Some (change_of change h)) ≡ counted_past p (next p.now.texts (change_of change h))
told_change p i Drop h = λ j. record { now = (counted_past p (next p.now.texts (what.Drop h))).now; made = λ k. or_false (p.made k) j; uses = λ s. and_none (p.uses s) j }
told_change p i Permanent h = λ j. record { now = (counted_past p (next p.now.texts (what.Perm h))).now; made = λ k. or_false (p.made k) j; uses = λ s. and_none (p.uses s) j }
told_change p i Kill h = λ j. record { now = (counted_past p (next p.now.texts (what.Kill h))).now; made = λ k. or_false (p.made k) j; uses = λ s. and_none (p.uses s) j }

-- such an event leads on
event_leads : (t : Table) (m m' : Memory) (p : Past) (f : Flow) (i : ℕ) (s : Step) (e : What) (x : ℕ) (text : List ℕ) (h : Handle) (o : Option Entry) → IsTable t m p f
    → told p i (Some e) ≡ counted_past p (next p.now.texts e) → Recounts m m' p f i x text h (next p.now.texts e) o (holds_after i (Some e) f.holds)
    → MayTell (kind_of t) p i (Some e) → Words t m' → (t.kind ≡ Counted → Balanced t.shape.seats (next p.now.texts e) (holds_after i (Some e) f.holds)) → GoesBy t m p f i s (Some e) m'
event_leads t m m' p f i s e x text h o table is c may words ledger =
    let tidy : IsTidy t (counted_past p (next p.now.texts e)).now = subst (λ (q : Past). IsTidy t q.now) is (tidy_told t p i (Some e) table.tidy may) in
    subst (λ (q : Past). LeadsOn t m p f i s (Some e) m' q (record f { holds = holds_after i (Some e) f.holds })) (sym is)
    (count_leads t m m' p f i x text h (next p.now.texts e) o (holds_after i (Some e) f.holds) table c s e may tidy words ledger)

-- a step that changes no word and has no event leads on
no_event : (t : Table) (m m' : Memory) (p : Past) (f : Flow) (i : ℕ) (s : Step) → IsTable t m p f → m' ≡ m → GoesBy t m p f i s None m'
no_event t m m' p f i s table same = subst (λ now. GoesBy t m p f i s None now) (sym same) (calm_leads t m p f i s table)

-- THE LOAD OF A MATCHED ENTRY

module _ (t : Table) (m : Memory) (p : Past) (f : Flow) (i slot : ℕ) (text : List ℕ) (table : IsTable t m p f) (weak : t.kind ≡ Weak) (h : Handle) (live : LiveAt m p.now slot text h) where
  found_recounts : Recounts m m p f i slot text h p.now.texts (Some live.entry) f.holds
  found_recounts = record {
    live = live;
    puts = found_puts p.now.texts text live.entry h live.is live.own table.tidy.differ;
    own = λ e is. same_entry live.entry e is ∙ live.own;
    few = λ e is. let same : live.entry ≡ e = cc in let most : live.entry.count ≤ 65535 = live.most in omega (arith, most, ap (λ (x : Entry). x.count) same);
    word = live.word ∙ ap (holds_word h) (sym (count_here live.entry h live.own));
    there = λ q differ. refl;
    others = λ k differ j. refl;
  }

  found_leads : (s : Step) → GoesBy t m p f i s (Some (what.Found text h)) m
  found_leads s = event_leads t m m p f i s (what.Found text h) slot text h (Some live.entry) table (told_found p i text h) found_recounts
      (weak, (live.entry, live.is, live.own)) table.words (λ counted. let clash : Counted ≡ Weak = sym counted ∙ weak in absurd (cc))

some_holds : (holds : ℕ) → (holds == 0) ≡ false → 1 ≤ holds
some_holds holds is = grind (arith, nat_tests)

seen_weak : (slot : ℕ) → KeepsTable (step.SeeEntry Weak slot)
seen_weak slot t m m' p f i text table inside sound backs made = go (holds_of (m (place.Count slot)) == 0) refl
  where
    same : m' ≡ m
    same = after_load (step.SeeEntry Weak slot) m m' refl made

    go : (b : Bool) → (holds_of (m (place.Count slot)) == 0) ≡ b
        → GoesBy t m p f i (step.SeeEntry Weak slot) (cond b None (Some (what.Found text (handle_at slot (m (place.Count slot)))))) m'
    go true none = no_event t m m' p f i (step.SeeEntry Weak slot) table same
    go false some =
        let live = live_seen t m p f table i slot text backs.1 (some_holds (holds_of (m (place.Count slot))) some) in
        subst (GoesBy t m p f i (step.SeeEntry Weak slot) (Some (what.Found text (handle_at slot (m (place.Count slot)))))) (sym same)
        (found_leads t m p f i slot text table (sym backs.0) (handle_at slot (m (place.Count slot))) live (step.SeeEntry Weak slot))

-- the load of the count word of a matched entry keeps the table
pub see_entry_keeps : (kind : Kind) (slot : ℕ) → KeepsTable (step.SeeEntry kind slot)
see_entry_keeps Counted slot t m m' p f i text table inside sound backs made =
    no_event t m m' p f i (step.SeeEntry Counted slot) table (after_load (step.SeeEntry Counted slot) m m' refl made)
see_entry_keeps Weak slot t m m' p f i text table inside sound backs made = seen_weak slot t m m' p f i text table inside sound backs made

-- a step on a count word that leaves a small word in it leaves the words of a table
recounted_words : (t : Table) (m m' : Memory) (i : ℕ) (s : Step) (x : ℕ) (h : Handle) (count other : ℕ) → Words t m → i < t.shape.seats → IsSoundStep t.shape i s → IsMade s m m'
    → (access_of s).place ≡ place.Count x → m (place.Count x) ≡ holds_word h count → m' (place.Count x) ≡ holds_word h other → count < 65536 → other < 65536 → Words t m'
recounted_words t m m' i s x h count other words inside sound made at was now small few =
    let same_counter : m' place.Counter ≡ m place.Counter = made.there place.Counter (λ same. let clash : place.Counter ≡ place.Count x = same ∙ at in absurd (cc)) in
    let counter : m place.Counter ≤ 2 ^ 64 - 4 = words.counter in
    let fits : holds_word h count < 2 ^ 64 = subst (λ word. word < 2 ^ 64) was (words.small (place.Count x)) in
    let after : word_after (access_of s).deed (found s m) ≡ holds_word h other = sym made.here ∙ ap m' at ∙ now in
    words_kept t m m' i s words inside sound made (subst (λ word. word < 2 ^ 64) (sym after) (word_fits h count other fits few)) (subst (λ word. word ≤ 2 ^ 64 - 4) (sym same_counter) counter)

-- THE LOAD OF THE COUNT WORD OF A HANDLE

module _ (t : Table) (m m' : Memory) (p : Past) (f : Flow) (i : ℕ) (h : Handle) (table : IsTable t m p f) (inside : i < t.shape.seats) (same : m' ≡ m) where
  full_goes : (s : Step) (text : List ℕ) → MayChange t.kind p f i Drop h → LiveAt m p.now h.slot text h → holds_of (m (place.Count h.slot)) ≡ 65535 → GoesBy t m p f i s (Some (what.Drop h)) m
  full_goes s text may live full =
      let holds : holds_of (m (place.Count h.slot)) ≡ live.entry.count = live_holds m p.now h.slot text h live in
      let count : live.entry.count ≡ 65535 = sym holds ∙ full in
      let word : m (place.Count h.slot) ≡ holds_word h (count_in (lowered live.entry) h) =
      live.word ∙ ap (holds_word h) (sym (ap (λ o. count_in o h) (lowered_stays live.entry count) ∙ count_here live.entry h live.own)) in
      event_leads t m m p f i s (what.Drop h) h.slot text h (lowered live.entry) table (told_change p i Drop h) (change_recounts t m p f i h table text live Drop m word (λ q differ. refl))
      (change_may t m p f i h table text live Drop may) table.words (change_balanced t m p f i h table text live Drop inside may)

  dropped_goes : (s : Step) (b : Bool) → MayChange t.kind p f i Drop h → (holds_of (m (place.Count h.slot)) == 65535) ≡ b → GoesBy t m p f i s (cond b (Some (what.Drop h)) None) m'
  dropped_goes s true may full =
      let live = change_live t m p f i h table Drop inside may (λ is. absurd (cc)) in
      subst (GoesBy t m p f i s (Some (what.Drop h))) (sym same) (full_goes s live.0 may live.1 (eqb-true (holds_of (m (place.Count h.slot))) 65535 full))
  dropped_goes s false may less = no_event t m m' p f i s table same

-- the load of the count word of a handle keeps the table
pub see_handle_keeps : (change : Change) (h : Handle) → KeepsTable (step.SeeHandle change h)
see_handle_keeps Drop h t m m' p f i text table inside sound backs made =
    dropped_goes t m m' p f i h table inside (after_load (step.SeeHandle Drop h) m m' refl made) (step.SeeHandle Drop h) (holds_of (m (place.Count h.slot)) == 65535) backs refl
see_handle_keeps Permanent h t m m' p f i text table inside sound backs made =
    no_event t m m' p f i (step.SeeHandle Permanent h) table (after_load (step.SeeHandle Permanent h) m m' refl made)
see_handle_keeps Kill h t m m' p f i text table inside sound backs made =
    no_event t m m' p f i (step.SeeHandle Kill h) table (after_load (step.SeeHandle Kill h) m m' refl made)

-- a handle that may be dropped or made permanent has its generation and a hold in its word
pub handle_fits : (t : Table) (m : Memory) (p : Past) (f : Flow) (i : ℕ) (change : Change) (h : Handle) → IsTable t m p f → i < t.shape.seats → MayChange t.kind p f i change h → change ≢ Kill
    → (generation_of (m (place.Count h.slot)) ≡ h.generation) × (1 ≤ holds_of (m (place.Count h.slot)))
handle_fits t m p f i change h table inside may other =
    let found_it = change_live t m p f i h table change inside may (λ is. absurd (other is)) in
    let live = found_it.1 in
    let least : 1 ≤ live.entry.count = live.least in
    let holds : holds_of (m (place.Count h.slot)) ≡ live.entry.count = live_holds m p.now h.slot found_it.0 h live in
    (live_generation m p.now h.slot found_it.0 h live, omega (arith, least, holds))

-- THE EXCHANGE OF A COUNT WORD

module _ (change : Change) (h : Handle) (count : ℕ) (t : Table) (m m' : Memory) (p : Past) (f : Flow) (i : ℕ) (table : IsTable t m p f) (inside : i < t.shape.seats)
    (sound : IsSoundStep t.shape i (step.ChangeEntry change h count)) (may : MayChange t.kind p f i change h) (made : IsMade (step.ChangeEntry change h count) m m') where
  changed_goes : (text : List ℕ) → LiveAt m p.now h.slot text h → m (place.Count h.slot) ≡ count → m' (place.Count h.slot) ≡ changed change count
      → GoesBy t m p f i (step.ChangeEntry change h count) (Some (change_of change h)) m'
  changed_goes text live is now =
      let counted : holds_word h live.entry.count ≡ count = sym live.word ∙ is in
      let word : m' (place.Count h.slot) ≡ holds_word h (count_in (left_by change live.entry) h) =
      now ∙ ap (changed change) (sym counted) ∙ left_word change live.entry h live.own live.least live.most (subst (IsChangeable change) (sym counted) sound.1) in
      let recounts = change_recounts t m p f i h table text live change m' word made.there in
      event_leads t m m' p f i (step.ChangeEntry change h count) (change_of change h) h.slot text h (left_by change live.entry) table (told_change p i change h) recounts
      (change_may t m p f i h table text live change may)
      (recounted_words t m m' i (step.ChangeEntry change h count) h.slot h live.entry.count (count_in (left_by change live.entry) h) table.words inside sound made refl live.word word
      (let most : live.entry.count ≤ 65535 = live.most in omega (arith, most)) (count_small (left_by change live.entry) h recounts.few))
      (change_balanced t m p f i h table text live change inside may)

  exchanged_goes : (change ≡ Kill → is_live h count ≡ true) → (b : Bool) → (m (place.Count h.slot) == count) ≡ b → m' (place.Count h.slot) ≡ cond b (changed change count) (m (place.Count h.slot))
      → GoesBy t m p f i (step.ChangeEntry change h count) (cond b (Some (change_of change h)) None) m'
  exchanged_goes kill true is now =
      let found_it : m (place.Count h.slot) ≡ count = eqb-true (m (place.Count h.slot)) count is in
      let live = change_live t m p f i h table change inside may (λ same. ap (is_live h) found_it ∙ kill same) in
      changed_goes live.0 live.1 found_it now
  exchanged_goes kill false is now =
      no_event t m m' p f i (step.ChangeEntry change h count) table (after_same (step.ChangeEntry change h count) m m' (ap (λ b. cond b (changed change count) (m (place.Count h.slot))) is) made)

kill_of : (change : Change) (h : Handle) (count : ℕ) → IsCountOf change h count → change ≡ Kill → is_live h count ≡ true
kill_of Kill h count of is = of
kill_of Drop h count of is = absurd (cc)
kill_of Permanent h count of is = absurd (cc)

-- the exchange of the count word of a handle keeps the table
pub change_entry_keeps : (change : Change) (h : Handle) (count : ℕ) → KeepsTable (step.ChangeEntry change h count)
change_entry_keeps change h count t m m' p f i text table inside sound backs made =
    exchanged_goes change h count t m m' p f i table inside sound backs.0 made (kill_of change h count backs.1) (m (place.Count h.slot) == count) refl made.here

-- THE EXCHANGE OF THE COUNT WORD OF A MATCHED ENTRY

module _ (slot count : ℕ) (t : Table) (m m' : Memory) (p : Past) (f : Flow) (i : ℕ) (text : List ℕ) (table : IsTable t m p f) (inside : i < t.shape.seats)
    (sound : IsSoundStep t.shape i (step.TakeEntry slot count)) (counted : t.kind ≡ Counted) (made : IsMade (step.TakeEntry slot count) m m') where
  taken_recounts : (h : Handle) (live : LiveAt m p.now slot text h) → m' (place.Count slot) ≡ holds_word h (count_in (Some (raised live.entry)) h)
      → Recounts m m' p f i slot text h (next p.now.texts (what.Take text h)) (Some (raised live.entry)) (holds_after i (Some (what.Take text h)) f.holds)
  taken_recounts h live word = record {
    live = live;
    puts = take_puts p.now.texts text live.entry h live.is live.own table.tidy.differ;
    own = λ g is. same_entry (raised live.entry) g is ∙ live.own;
    few = λ g is.
        let same : raised live.entry ≡ g = cc in
        let more : min (live.entry.count + 1) 65535 ≡ g.count = ap (λ (x : Entry). x.count) same in
        omega (arith, more);
    word = word;
    there = made.there;
    others = λ k differ j. hold_of_other_seat f.holds i h (f.holds i h + 1) k j differ;
  }

  taken_leads : (h : Handle) → LiveAt m p.now slot text h → m' (place.Count slot) ≡ word_with_one_more (m (place.Count slot))
      → GoesBy t m p f i (step.TakeEntry slot count) (Some (what.Take text h)) m'
  taken_leads h live now =
      let most : live.entry.count ≤ 65535 = live.most in
      let word : m' (place.Count slot) ≡ holds_word h (count_in (Some (raised live.entry)) h) =
      now ∙ ap word_with_one_more live.word ∙ word_raised h live.entry.count (omega (arith, most)) ∙ ap (holds_word h) (sym (raised_count live.entry h live.own)) in
      let recounts = taken_recounts h live word in
      event_leads t m m' p f i (step.TakeEntry slot count) (what.Take text h) slot text h (Some (raised live.entry)) table (told_take p i text h) recounts
      (counted, (live.entry, live.is, live.own))
      (recounted_words t m m' i (step.TakeEntry slot count) slot h live.entry.count (count_in (Some (raised live.entry)) h) table.words inside sound made refl live.word word (omega (arith, most))
      (count_small (Some (raised live.entry)) h recounts.few))
      (λ is. balanced_after t.shape.seats p.now.texts (next p.now.texts (what.Take text h)) text live.entry h (Some (raised live.entry)) f.holds (holds_after i (Some (what.Take text h)) f.holds)
      live.is live.own table.tidy.differ (take_puts p.now.texts text live.entry h live.is live.own table.tidy.differ)
      (take_recounted t.shape.seats p.now.texts text live.entry h i f.holds inside live.is live.own (table.ledger is)) (table.ledger is))

  take_goes : IsSeenWith p.now i slot text → 1 ≤ holds_of count → (b : Bool) → (m (place.Count slot) == count) ≡ b
      → m' (place.Count slot) ≡ cond b (word_with_one_more count) (m (place.Count slot))
      → GoesBy t m p f i (step.TakeEntry slot count) (cond b (Some (what.Take text (handle_at slot count))) None) m'
  take_goes seen some true is now =
      let found_it : m (place.Count slot) ≡ count = eqb-true (m (place.Count slot)) count is in
      let live = live_seen t m p f table i slot text seen (subst (λ word. 1 ≤ holds_of word) (sym found_it) some) in
      subst (λ word. GoesBy t m p f i (step.TakeEntry slot count) (Some (what.Take text (handle_at slot word))) m') found_it
      (taken_leads (handle_at slot (m (place.Count slot))) live (now ∙ ap word_with_one_more (sym found_it)))
  take_goes seen some false is now =
      no_event t m m' p f i (step.TakeEntry slot count) table
      (after_same (step.TakeEntry slot count) m m' (ap (λ b. cond b (word_with_one_more count) (m (place.Count slot))) is) made)

-- the exchange of the count word of a matched entry keeps the table
pub take_entry_keeps : (slot count : ℕ) → KeepsTable (step.TakeEntry slot count)
take_entry_keeps slot count t m m' p f i text table inside sound backs made =
    take_goes slot count t m m' p f i text table inside sound backs.0 made backs.1 backs.2 (m (place.Count slot) == count) refl made.here
