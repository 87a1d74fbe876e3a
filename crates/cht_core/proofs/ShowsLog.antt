-- The words of a table show its log.
use Rattle.std.proofs.Common.{◌≡◌, ℕ, ◌+◌, ◌*◌, ◌%◌, ◌^◌, ◌<◌, ◌↔◌, ◌⊎◌, List, Option, Some, None, refl, sym, ap, subst, ◌∙◌, inl, inr, arith}
use Rattle.std.specs.Option.{option_map}
use Rattle.chain_core.specs.Nodes.{On}
use Rattle.chain_core.specs.Path.{IsPath}
use Rattle.text_words.specs.Hash.{hash_of}
use Rattle.marked_word.specs.Head.{first_of}
use Rattle.marked_word.specs.Number.{section_word, owner_word}
use Rattle.table_shape.specs.declared.place.Place.TheVariants as place
use Rattle.intern_log.specs.declared.event.Entry.{Entry}
use Rattle.intern_log.specs.declared.event.Event.{Event}
use Rattle.intern_log.specs.declared.event.Handle.{Handle}
use Rattle.intern_log.specs.Now.{OpenSection, Phase, Vacant, Claimed, Linked, Unlinked, now_of, owner_of}
use Rattle.intern_log.specs.TextMap.{entry_of, HasHandle}
use Rattle.atomic_step.specs.Count.{holds_word}
use Rattle.atomic_step.specs.Step.{redirected_head}
use Rattle.cht_core.specs.declared.table.Table.{Table}
use Rattle.cht_core.specs.Flow.{Flow, IsUsed, IsHome}
use Rattle.cht_core.specs.Heads.{used_head}
use Rattle.cht_core.specs.Invariant.{Inv}
use Rattle.cht_core.specs.Memory.{Memory, links}
use Rattle.cht_core.specs.Past.{Past, past_of}
use Rattle.cht_core.specs.Shows.{ShowsTable, ShowsMarks, ShowsEntry, ShowsChains, ShowsLog, IsOfBucket}
use Rattle.cht_core.specs.Slots.{claim_word, count_in}
use Rattle.cht_core.specs.TableState.{IsTable, IsSettled}
use Rattle.cht_core.specs.View.{View}
use Rattle.cht_core.proofs.Counts.{count_here, count_elsewhere}
use Rattle.cht_core.proofs.HeadWords.{first_of_head}
use Rattle.cht_core.proofs.Routes.{row_cases}
use Rattle.cht_core.proofs.Stages.{gone_behind}
use Rattle.cht_core.proofs.TwoChains.{whole_left, whole_unsent, whole_exact}

-- a claim word is 1 exactly where the slot is taken
taken_word : (word : ℕ) (phase : Phase) → word ≡ claim_word phase → (word ≡ 1) ↔ ¬ (phase ≡ Vacant)
taken_word word Vacant is = (λ one. absurd (omega (arith, is, one)), λ taken. absurd (taken refl))
taken_word word (Claimed i) is = (λ one vacant. cc, λ taken. is)
taken_word word (Linked text h born) is = (λ one vacant. cc, λ taken. is)
taken_word word (Unlinked i at) is = (λ one vacant. cc, λ taken. is)

-- a section word is odd exactly where the section is open
open_word : (word : ℕ) (section : Option OpenSection) → word ≡ section_word (option_map (λ (o : OpenSection). o.counter) section) → (word ≡ 0) ⊎ (word % 2 ≡ 1)
    → (word % 2 ≡ 1) ↔ ((o : OpenSection) × (section ≡ Some o))
open_word word None is sound = (λ odd. absurd (omega (arith, is, odd)), λ at. absurd (cc))
open_word word (Some o) is sound = (λ odd. (o, refl), λ at. elim sound [ inl none ↦ absurd (omega (arith, is, none)) | inr odd ↦ odd ])

-- a head has its lock bit exactly where its bucket is locked
locked_word : (word : ℕ) (first lock : Option ℕ) → word ≡ used_head first lock → (word % 2 ≡ 1) ↔ ((k : ℕ) × (lock ≡ Some k))
locked_word word first None is = (λ odd. absurd (omega (arith, is, odd)), λ at. absurd (cc))
locked_word word first (Some k) is = (λ odd. (k, refl), λ at. omega (arith, is))

-- and one that is redirected has it
redirected_word : (word : ℕ) (first : Option ℕ) (k : ℕ) (lock : Option ℕ) → word ≡ redirected_head first → lock ≡ Some k → (word % 2 ≡ 1) ↔ ((j : ℕ) × (lock ≡ Some j))
redirected_word word first k lock is owner = (λ odd. (k, owner), λ at. omega (arith, is))

-- a count word, by how often its handle is counted
word_of_count : (word : ℕ) (h : Handle) (entry : Option Entry) (count : ℕ) → word ≡ holds_word h (count_in entry h) → count_in entry h ≡ count → word ≡ 65536 * h.generation + count
word_of_count word h entry count is counted = omega (arith, is, counted)

module _ (t : Table) (m : Memory) (p : Past) (f : Flow) (table : IsTable t m p f) where
  shows_table : ShowsTable t m p.now
  shows_table = record {
    counter = table.sections.counter;
    level = table.heads.level;
    free = λ none. table.heads.owner ∙ ap (λ r. owner_word (owner_of r)) none;
    owned = λ r is. table.heads.owner ∙ ap (λ r. owner_word (owner_of r)) is;
  }

  shows_marks : ShowsMarks m p.now
  shows_marks = record {
    claims = λ s. taken_word (m (place.Claim s)) (p.now.slot s) (table.slots.claims s);
    sections = λ k. open_word (m (place.Section k)) (p.now.section k) (table.sections.words k) (table.words.sound (place.Section k));
    counters = λ k o is. table.sections.words k ∙ ap (λ section. section_word (option_map (λ (o : OpenSection). o.counter) section)) is;
    locks = λ bucket below. elim (row_cases p.now f bucket below) [
      | inl used ↦ (
          let path = table.heads.paths p.now.level bucket used in
          locked_word (m (place.Head p.now.level bucket)) path.0 (p.now.lock p.now.level bucket) path.1)
      | inr gone ↦ (
          let word = table.heads.behind p.now.level bucket (gone_behind f.stage p.now.level f.before p.now.level bucket refl gone) in
          let lock = table.heads.gone bucket gone in
          redirected_word (m (place.Head p.now.level bucket)) word.0 lock.0 (p.now.lock p.now.level bucket) word.1 lock.2)
    ];
  }

  shows_entry : (s : ℕ) (text : List ℕ) (h : Handle) (born : ℕ) → p.now.slot s ≡ Linked text h born → ShowsEntry m p.now s text h
  shows_entry s text h born linked = record {
    live = λ e is same. counted e.count (ap (λ o. count_in o h) is ∙ count_here e h same);
    gone = λ gone. let is : m (place.Count s) ≡ 65536 * h.generation + 0 = counted 0 (none_counted (entry_of p.now.texts text) refl gone) in omega (arith, is);
    meta = let is = table.slots.metas s text h born linked in omega (arith, is);
    words = λ at below. table.slots.texts s text h born linked at below below;
  }
    where
      counted : (count : ℕ) → count_in (entry_of p.now.texts text) h ≡ count → m (place.Count s) ≡ 65536 * h.generation + count
      counted count is = word_of_count (m (place.Count s)) h (entry_of p.now.texts text) count (table.slots.counts s text h born linked) is

      none_counted : (o : Option Entry) → entry_of p.now.texts text ≡ o → ¬ ((u : List ℕ) × HasHandle p.now.texts u h) → count_in o h ≡ 0
      none_counted None is gone = refl
      none_counted (Some e) is gone = count_elsewhere e h (λ same. gone (text, (e, is, same)))

  -- while no row is being replaced callers come to each bucket of the level's row
  used_here : IsSettled p.now → (bucket : ℕ) → bucket < 2 ^ p.now.level → IsUsed p.now f p.now.level bucket
  used_here settled bucket below = inl (refl, whole_left f.stage bucket (table.whole settled), below)

  -- and the nodes of a chain are the linked slots of its bucket
  of_bucket : IsSettled p.now → (bucket : ℕ) → bucket < 2 ^ p.now.level → (s : ℕ) → On s (f.chain p.now.level bucket) ↔ IsOfBucket p.now bucket s
  of_bucket settled bucket below s = (forth, back)
    where
      forth : On s (f.chain p.now.level bucket) → IsOfBucket p.now bucket s
      forth on =
          let node : (text : List ℕ) × (h : Handle) × (born : ℕ) × (p.now.slot s ≡ Linked text h born) × IsHome p.now f p.now.level bucket (hash_of p.now.seed text) =
          table.chains.on_linked p.now.level bucket s (used_here settled bucket below) on in
          (node.0, node.1, node.2, node.3, whole_exact f.stage p.now.level p.now.level bucket (hash_of p.now.seed node.0) (table.whole settled) node.4)

      back : IsOfBucket p.now bucket s → On s (f.chain p.now.level bucket)
      back of = subst (λ b. On s (f.chain p.now.level b)) of.4
          (table.chains.linked_on s of.0 of.1 of.2 p.now.level of.3 (inl (refl, whole_unsent f.stage p.now.level (hash_of p.now.seed of.0) (table.whole settled))))

  shows_chains : ShowsChains m p.now
  shows_chains settled bucket below =
      let used : IsUsed p.now f p.now.level bucket = used_here settled bucket below in
      let path = table.heads.paths p.now.level bucket used in
      let first : first_of (m (place.Head p.now.level bucket)) ≡ path.0 = ap first_of path.1 ∙ first_of_head path.0 (p.now.lock p.now.level bucket) in
      let leads : IsPath (links m) (first_of (m (place.Head p.now.level bucket))) (f.chain p.now.level bucket) = subst (λ o. IsPath (links m) o (f.chain p.now.level bucket)) (sym first) path.2 in
      (f.chain p.now.level bucket, leads, table.chains.once p.now.level bucket used, of_bucket settled bucket below)

-- the words of a table show what its log says
pub shows_log : (t : Table) (m : Memory) (p : Past) (f : Flow) → IsTable t m p f → ShowsLog t m p.now
shows_log t m p f table = record {
  table = shows_table t m p f table;
  marks = shows_marks t m p f table;
  entries = shows_entry t m p f table;
  chains = shows_chains t m p f table;
}

-- so they do after each log, whatever its seats are at
pub reached_words_show_the_log : (t : Table) (m : Memory) (seat : ℕ → Option View) (log : List Event) → Inv t m seat log → ShowsLog t m (now_of t.shape.min_level log)
reached_words_show_the_log t m seat log inv = shows_log t m (past_of t.shape.min_level log) inv.flow inv.table
