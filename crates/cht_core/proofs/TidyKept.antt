-- Each event that may be added keeps a log tidy, and what a log has told goes on event by event.
use Rattle.std.proofs.Common.{◌≡◌, ℕ, ◌+◌, ◌-◌, ◌*◌, ◌≤◌, ◌<◌, ◌==◌, inl, inr, nat_le, Bool}
use Rattle.std.proofs.Common.{true, false, cond, ◌||◌, List, [], ◌∷◌, ◌++◌, Option, Some, None, refl, sym, ap, subst, ◌∙◌, arith}
use Rattle.std.specs.List.{list_any}
use Rattle.std.specs.Option.{option_map, option_and_then}
use Rattle.std.specs.Str.{bytes_eq}
use Rattle.std.proofs.Math.Bool.{or-false}
use Rattle.std.proofs.lemmas.Bool.Decides.{nat_tests}
use Rattle.std.proofs.lemmas.List.{append-nil}
use Rattle.std.proofs.lemmas.List.Folds.{list_any-append}
use Rattle.intern_log.specs.declared.event.Entry.{Entry}
use Rattle.intern_log.specs.declared.event.Event.{Event}
use Rattle.intern_log.specs.declared.event.Handle.{Handle}
use Rattle.intern_log.specs.declared.event.What.{What}
use Rattle.intern_log.specs.declared.event.What.TheVariants as what
use Rattle.intern_log.specs.Lawful.{IsLinkedDead, MayFree, MayFollow}
use Rattle.intern_log.specs.Log.{entry_after, new_entry, raised, lowered, made_permanent, creates}
use Rattle.intern_log.specs.Now.{Now, OpenSection, Linked, Unlinked, changed_by, now_after_event}
use Rattle.intern_log.specs.TextMap.{entry_of, handle_eq, at_handle}
use Rattle.intern_log.proofs.Changes.{raised_counted, lowered_counted}
use Rattle.intern_log.proofs.Entries.{entry_of-next}
use Rattle.intern_log.proofs.Handles.{origin_in_map, HandlesDiffer-next}
use Rattle.intern_log.proofs.LawfulLaws.{MayFollow-allows}
use Rattle.intern_log.proofs.OneMore.{now_of-one_more, count-one_more}
use Rattle.intern_log.proofs.Slots.{slot_after, section_after}
use Rattle.cht_core.specs.declared.table.Table.{Table}
use Rattle.cht_core.specs.Invariant.{events_of}
use Rattle.cht_core.specs.Past.{Past, by, told, kind_of, is_use, past_after, past_of, MayTell}
use Rattle.cht_core.specs.Tidy.{IsTidy}
use Rattle.cht_core.proofs.Basics.{with_here}

-- the count of an entry is from 1 to 65,535
abbrev IsCounted : Entry → Type 0
IsCounted e = (1 ≤ e.count) × (e.count ≤ 65535)

abbrev KeepsCounts : (Entry → Option Entry) → Type 0
KeepsCounts change = (e f : Entry) → change e ≡ Some f → IsCounted e → IsCounted f

same_counted : (e f : Entry) → Some e ≡ Some f → IsCounted e → IsCounted f
same_counted e f is counted = let same : e ≡ f = cc in subst IsCounted same counted

raised_most : (e : Entry) → (raised e).count ≤ 65535
raised_most e = grind (arith, nat_tests)

lowered_keeps_counts : KeepsCounts lowered
lowered_keeps_counts e f is counted = (lowered_counted e f is, most (e.count == 65535) (nat_le e.count 1) is)
  where
    most : (b c : Bool) → cond b (Some e) (cond c None (Some (record e { count = e.count - 1 }))) ≡ Some f → f.count ≤ 65535
    most true c is = (same_counted e f is counted).1
    most false true is = absurd (cc)
    most false false is =
        let same : record e { count = e.count - 1 } ≡ f = cc in
        let less : e.count - 1 ≡ f.count = ap (λ (x : Entry). x.count) same in
        let few : e.count ≤ 65535 = counted.1 in
        omega (arith, less, few)

permanent_keeps_counts : KeepsCounts (λ e. Some (made_permanent e))
permanent_keeps_counts e f is counted = same_counted (made_permanent e) f is (omega arith, omega arith)

killed_keeps_counts : KeepsCounts (λ e. None)
killed_keeps_counts e f is counted = absurd (cc)

at_handle_keeps_counts : (h : Handle) (change : Entry → Option Entry) → KeepsCounts change → (o : Option Entry) (f : Entry) →
    ((e : Entry) → o ≡ Some e → IsCounted e) → option_and_then (at_handle h change) o ≡ Some f → IsCounted f
at_handle_keeps_counts h change keeps None f counted is = absurd (cc)
at_handle_keeps_counts h change keeps (Some e) f counted is = go (handle_eq e.handle h) is
  where
    go : (b : Bool) → cond b (change e) (Some e) ≡ Some f → IsCounted f
    go true is = keeps e f is (counted e refl)
    go false is = same_counted e f is (counted e refl)

-- an event leaves entries whose counts are from 1 to 65,535
counted_after : (w : What) (text : List ℕ) (o : Option Entry) (f : Entry) → ((e : Entry) → o ≡ Some e → IsCounted e) → entry_after w text o ≡ Some f → IsCounted f
counted_after (what.Create u h) text o f counted is = go (bytes_eq text u) is
  where
    go : (b : Bool) → cond b (Some (new_entry h)) o ≡ Some f → IsCounted f
    go true is = same_counted (new_entry h) f is (omega arith, omega arith)
    go false is = counted f is
counted_after (what.Take u h) text o f counted is = go (bytes_eq text u) o counted is
  where
    go : (b : Bool) (o : Option Entry) → ((e : Entry) → o ≡ Some e → IsCounted e) → cond b (option_map raised o) o ≡ Some f → IsCounted f
    go true None counted is = absurd (cc)
    go true (Some e) counted is = same_counted (raised e) f is (raised_counted e, raised_most e)
    go false o counted is = counted f is
counted_after (what.Drop h) text o f counted is = at_handle_keeps_counts h lowered lowered_keeps_counts o f counted is
counted_after (what.Perm h) text o f counted is = at_handle_keeps_counts h (λ e. Some (made_permanent e)) permanent_keeps_counts o f counted is
counted_after (what.Kill h) text o f counted is = at_handle_keeps_counts h (λ e. None) killed_keeps_counts o f counted is
counted_after (what.Found u h) text o f counted is = counted f is
counted_after (what.Claim s) text o f counted is = counted f is
counted_after (what.Free s) text o f counted is = counted f is
counted_after (what.Open c) text o f counted is = counted f is
counted_after what.Close text o f counted is = counted f is
counted_after what.Grace text o f counted is = counted f is
counted_after (what.Lock r b) text o f counted is = counted f is
counted_after (what.Unlock r b) text o f counted is = counted f is
counted_after (what.Unlink s) text o f counted is = counted f is
counted_after what.ResizeTaken text o f counted is = counted f is
counted_after what.ResizeGiven text o f counted is = counted f is
counted_after (what.Level l) text o f counted is = counted f is
counted_after (what.Rehash n) text o f counted is = counted f is

graces_next : (n : Now) (i : ℕ) (w : What) → n.graces ≤ (changed_by n i w).graces
graces_next n i what.Grace = omega arith
graces_next n i _ = omega arith

since_next : (n : Now) (i : ℕ) (w : What) → n.since ≤ n.place → (changed_by n i w).since ≤ n.place + 1
since_next n i (what.Level l) before = omega arith
since_next n i _ before = omega (arith, before)

level_next : (t : Table) (n : Now) (i : ℕ) (w : What) → MayFollow (kind_of t) n i w → (t.shape.min_level ≤ n.level) × (n.level ≤ t.shape.max_level) →
    (t.shape.min_level ≤ (changed_by n i w).level) × ((changed_by n i w).level ≤ t.shape.max_level)
level_next t n i (what.Level l) may before = (may.2, may.3)
level_next t n i _ may before = before

seed_next : (t : Table) (n : Now) (i : ℕ) (w : What) → MayFollow (kind_of t) n i w → n.seed ≤ 2 → (changed_by n i w).seed ≤ 2
seed_next t n i (what.Rehash seed) may before = may.2
seed_next t n i _ may before = before

module _ (t : Table) (n : Now) (i : ℕ) (w : What) (tidy : IsTidy t n) (may : MayFollow (kind_of t) n i w) where
  -- the slot of a live entry stays linked with it
  entry_linked : (text : List ℕ) (e : Entry) (born : ℕ) → entry_of n.texts text ≡ Some e → n.slot e.handle.slot ≡ Linked text e.handle born →
      (changed_by n i w).slot e.handle.slot ≡ Linked text e.handle born
  entry_linked text e born is linked = slot_after (λ phase. phase ≡ Linked text e.handle born) (kind_of t) n i w e.handle.slot may
      (λ unfreed unlinked. linked)
      (λ u h made at claimed. absurd (cc))
      (λ made vacant. absurd (cc))
      (λ made frees free. absurd (subst (MayFree n i) linked free))
      (λ made unlinks dead. absurd (subst (IsLinkedDead n) linked dead (text, (e, is, refl))))

  created_linked : (text : List ℕ) (h : Handle) → w ≡ what.Create text h → (changed_by n i w).slot h.slot ≡ Linked text h n.place
  created_linked text h made = subst (λ x. (changed_by n i x).slot h.slot ≡ Linked text h n.place) (sym made) (with_here n.slot h.slot (Linked text h n.place) h.slot refl)

  linked_next : (s : ℕ) (text : List ℕ) (h : Handle) (born : ℕ) → (changed_by n i w).slot s ≡ Linked text h born → (h.slot ≡ s) × (born < n.place + 1)
  linked_next s text h born = slot_after (λ phase. phase ≡ Linked text h born → (h.slot ≡ s) × (born < n.place + 1)) (kind_of t) n i w s may
      (λ unfreed unlinked is. let was = tidy.linked s text h born is in let before = was.1 in (was.0, omega (arith, before)))
      (λ u k made at claimed is.
      let handles : k ≡ h = cc in
      let places : n.place ≡ born = cc in
      (ap (λ (x : Handle). x.slot) (sym handles) ∙ at, omega (arith, places)))
      (λ made vacant is. absurd (cc))
      (λ made frees free is. absurd (cc))
      (λ made unlinks dead is. absurd (cc))

  unlinked_next : (s seat at : ℕ) → (changed_by n i w).slot s ≡ Unlinked seat at → at < n.place + 1
  unlinked_next s seat at = slot_after (λ phase. phase ≡ Unlinked seat at → at < n.place + 1) (kind_of t) n i w s may
      (λ unfreed unlinked is. let before = tidy.unlinked s seat at is in omega (arith, before))
      (λ u k made here claimed is. absurd (cc))
      (λ made vacant is. absurd (cc))
      (λ made frees free is. absurd (cc))
      (λ made unlinks dead is. let same : n.place ≡ at = cc in omega (arith, same))

  sections_next : (k : ℕ) (o : OpenSection) → (changed_by n i w).section k ≡ Some o → (o.place < n.place + 1) × (o.counter ≤ t.first_counter + 2 * (changed_by n i w).graces)
  sections_next k o = section_after (λ section. section ≡ Some o → (o.place < n.place + 1) × (o.counter ≤ t.first_counter + 2 * (changed_by n i w).graces)) (kind_of t) n i w k may
      (λ unclosed is.
      let was = tidy.sections k o is in
      let before = was.0 in
      let few = was.1 in
      let more = graces_next n i w in
      (omega (arith, before), omega (arith, few, more)))
      (λ counter made at none is.
      let same : record { place = n.place; counter = counter } ≡ o = cc in
      let places : n.place ≡ o.place = ap (λ (x : OpenSection). x.place) same in
      let counters : counter ≡ o.counter = ap (λ (x : OpenSection). x.counter) same in
      let opened : MayFollow (kind_of t) n i (what.Open counter) = subst (MayFollow (kind_of t) n i) made may in
      let few : counter ≤ t.first_counter + 2 * n.graces = opened.1 in
      let more = graces_next n i w in
      (omega (arith, places), omega (arith, counters, few, more)))
      (λ closes is. absurd (cc))

-- an event that may follow keeps a log tidy
pub tidy_next : (t : Table) (n : Now) (i : ℕ) (w : What) → IsTidy t n → MayFollow (kind_of t) n i w → IsTidy t (now_after_event n (by i w))
tidy_next t n i w tidy may = record {
  entries = λ text e is.
      let counted = counted_after w text (entry_of n.texts text) e (λ o was. let entry = tidy.entries text o was in (entry.2, entry.3)) (sym (entry_of-next n.texts w text) ∙ is) in
      elim (origin_in_map n.texts w text e.handle (e, is, refl)) [
        | inl was ↦
            let entry = tidy.entries text was.0 was.1 in
            let linked = entry_linked t n i w tidy may text was.0 entry.0 was.1 entry.1 in
            (entry.0, subst (λ (h : Handle). (changed_by n i w).slot h.slot ≡ Linked text h entry.0) was.2 linked, counted.0, counted.1)
        | inr made ↦ (n.place, created_linked t n i w tidy may text e.handle made, counted.0, counted.1)
      ];
  differ = HandlesDiffer-next n.texts w tidy.differ (MayFollow-allows (kind_of t) n i w may);
  linked = linked_next t n i w tidy may;
  unlinked = unlinked_next t n i w tidy may;
  sections = sections_next t n i w tidy may;
  since = since_next n i w tidy.since;
  level = level_next t n i w may tidy.level;
  seed = seed_next t n i w may tidy.seed;
}

-- giving the resize lock back changes nothing that is tidy
tidy_given : (t : Table) (n : Now) (i : ℕ) → IsTidy t n → IsTidy t (now_after_event n (by i what.ResizeGiven))
tidy_given t n i tidy = record {
  entries = tidy.entries;
  differ = tidy.differ;
  linked = λ s text h born is. let was = tidy.linked s text h born is in let before = was.1 in (was.0, omega (arith, before));
  unlinked = λ s seat at is. let before = tidy.unlinked s seat at is in omega (arith, before);
  sections = λ k o is. let was = tidy.sections k o is in let before = was.0 in (omega (arith, before), was.1);
  since = let before = tidy.since in omega (arith, before);
  level = tidy.level;
  seed = tidy.seed;
}

-- what may be told keeps a log tidy
pub tidy_told : (t : Table) (p : Past) (i : ℕ) (e : Option What) → IsTidy t p.now → MayTell (kind_of t) p i e → IsTidy t (told p i e).now
tidy_told t p i None tidy may = tidy
tidy_told t p i (Some (what.Create u h)) tidy may = tidy_next t p.now i (what.Create u h) tidy may.0
tidy_told t p i (Some what.ResizeGiven) tidy may = tidy_given t p.now i tidy
tidy_told t p i (Some (what.Take u h)) tidy may = tidy_next t p.now i (what.Take u h) tidy may
tidy_told t p i (Some (what.Found u h)) tidy may = tidy_next t p.now i (what.Found u h) tidy may
tidy_told t p i (Some (what.Drop h)) tidy may = tidy_next t p.now i (what.Drop h) tidy may
tidy_told t p i (Some (what.Perm h)) tidy may = tidy_next t p.now i (what.Perm h) tidy may
tidy_told t p i (Some (what.Kill h)) tidy may = tidy_next t p.now i (what.Kill h) tidy may
tidy_told t p i (Some (what.Claim s)) tidy may = tidy_next t p.now i (what.Claim s) tidy may
tidy_told t p i (Some (what.Free s)) tidy may = tidy_next t p.now i (what.Free s) tidy may
tidy_told t p i (Some (what.Open c)) tidy may = tidy_next t p.now i (what.Open c) tidy may
tidy_told t p i (Some what.Close) tidy may = tidy_next t p.now i what.Close tidy may
tidy_told t p i (Some what.Grace) tidy may = tidy_next t p.now i what.Grace tidy may
tidy_told t p i (Some (what.Lock r b)) tidy may = tidy_next t p.now i (what.Lock r b) tidy may
tidy_told t p i (Some (what.Unlock r b)) tidy may = tidy_next t p.now i (what.Unlock r b) tidy may
tidy_told t p i (Some (what.Unlink s)) tidy may = tidy_next t p.now i (what.Unlink s) tidy may
tidy_told t p i (Some what.ResizeTaken) tidy may = tidy_next t p.now i what.ResizeTaken tidy may
tidy_told t p i (Some (what.Level l)) tidy may = tidy_next t p.now i (what.Level l) tidy may
tidy_told t p i (Some (what.Rehash n)) tidy may = tidy_next t p.now i (what.Rehash n) tidy may

-- what a log has told, by one more event
pub past_of-one_more : (min_level : ℕ) (log : List Event) (e : Event) → past_of min_level (log ++ e ∷ []) ≡ past_after (past_of min_level log) e
past_of-one_more min_level log e = λ j. record {
  now = now_of-one_more min_level log e j;
  made = λ h. made_more h j;
  uses = λ s. count-one_more (is_use s) log e j;
}
  where
    made_more : (h : Handle) → list_any (λ (x : Event). creates x.what h) (log ++ e ∷ []) ≡ (list_any (λ (x : Event). creates x.what h) log || creates e.what h)
    made_more h = list_any-append (λ (x : Event). creates x.what h) log (e ∷ []) ∙ ap (λ b. list_any (λ (x : Event). creates x.what h) log || b) (or-false (creates e.what h))

-- what a log has told, by the event of a step
pub past_of-told : (min_level : ℕ) (log : List Event) (i : ℕ) (e : Option What) → past_of min_level (log ++ events_of i e) ≡ told (past_of min_level log) i e
past_of-told min_level log i None = ap (past_of min_level) (append-nil log)
past_of-told min_level log i (Some w) = past_of-one_more min_level log (by i w)
