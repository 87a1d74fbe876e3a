-- The stages of reading the text of a handle.
use Rattle.std.proofs.Common.{◌≡◌, ◌≢◌, ℕ, ◌+◌, ◌*◌, ◌%◌, ◌<◌, ◌≤◌, ◌||◌, Bool, true, false, cond, nat_lt, List, length, Some, None, IfSome, inl, refl, sym, ap, subst, ◌∙◌, arith}
use Rattle.text_words.specs.Hash.{hash_of}
use Rattle.text_words.specs.Words.{words_of}
use Rattle.marked_word.specs.Meta.{meta_word, length_in}
use Rattle.table_shape.specs.declared.place.Place.TheVariants as place
use Rattle.intern_log.specs.declared.event.Kind.{Kind}
use Rattle.intern_log.specs.declared.event.Kind.TheVariants.{Counted, Weak}
use Rattle.intern_log.specs.declared.event.What.TheVariants as what
use Rattle.intern_log.specs.Now.{Now}
use Rattle.atomic_step.specs.declared.answer.Answer.{Answer}
use Rattle.atomic_step.specs.declared.answer.Answer.TheVariants as answer
use Rattle.atomic_step.specs.declared.step.Step.TheVariants as step
use Rattle.atomic_step.specs.Count.{is_live}
use Rattle.atomic_step.specs.Event.{event_of}
use Rattle.call_machine.specs.declared.enter.EnterStage.TheVariants.{LoadCounter, OpenSection as Opens}
use Rattle.call_machine.specs.declared.read.ReadStage.{ReadStage}
use Rattle.call_machine.specs.declared.read.ReadStage.TheVariants.{Enter, Count, Meta, Text}
use Rattle.call_machine.specs.declared.stage.Along.{Along}
use Rattle.call_machine.specs.declared.stage.Asked.{Asked}
use Rattle.call_machine.specs.declared.stage.CallStage.TheVariants as stage
use Rattle.call_machine.specs.Leave.{leaves_with}
use Rattle.call_machine.specs.Read.{read_row, read_all, reads_from}
use Rattle.call_machine.specs.Sought.{meta_of}
use Rattle.cht_core.specs.declared.table.Table.{Table}
use Rattle.cht_core.specs.Backs.{Backs}
use Rattle.cht_core.specs.Flow.{Flow, flow_after}
use Rattle.cht_core.specs.KnowsCall.{IsKept, KnowsKept, KnowsRead, KnowsStage, Reading}
use Rattle.cht_core.specs.Memory.{Memory, IsMade, found}
use Rattle.cht_core.specs.Past.{Past, told}
use Rattle.cht_core.specs.Search.{IsInside, IsOutside}
use Rattle.cht_core.specs.TableState.{IsTable}
use Rattle.cht_core.proofs.Basics.{after_load, with_here}
use Rattle.cht_core.proofs.LiveCounts.{LiveAt, live_held, live_made}
use Rattle.cht_core.proofs.Ties.{IsAskedOf}

-- what the steps need
pub read_backs : (t : Table) (m : Memory) (p : Past) (f : Flow) (i : ℕ) (q : Asked) (w : Along) (kind : Kind) (s : ReadStage) → KnowsRead m p f i q kind s
    → Backs t m p f i q.text (read_row q w s).step
read_backs t m p f i q w Weak (Enter LoadCounter) known = tt
read_backs t m p f i q w Weak (Enter (Opens counter)) known = known.0
read_backs t m p f i q w Counted (Enter s) known = absurd known
read_backs t m p f i q w kind Count known = tt
read_backs t m p f i q w kind Meta known = tt
read_backs t m p f i q w kind (Text at len) known = tt

-- the length in the meta word of a text that has room
pub length_of_text : (seed : ℕ) (text : List ℕ) (word : ℕ) → word ≡ meta_word (meta_of seed text) → length text ≤ 65535 → length_in word ≡ length text
length_of_text seed text word is short = ap length_in is ∙ low (hash_of seed text) (length text) short
  where
    low : (hash len : ℕ) → len ≤ 65535 → (hash * 65536 + len) % 65536 ≡ len
    low hash len few = omega (arith, few)

-- nothing is kept
kept_none : (m : Memory) (n : Now) (i : ℕ) (q : Asked) (w : Along) → w.kept ≡ None → KnowsKept m n i q w
kept_none m n i q w none = subst (λ kept. IfSome kept (IsKept m n i q.seed q.text)) (sym none) tt

module _ (t : Table) (m : Memory) (p : Past) (f : Flow) (i load : ℕ) (passed : List ℕ) (q : Asked) (w : Along) (table : IsTable t m p f) (kept : w.kept ≡ None) where
  -- the text is read, or its words are read from one on
  leaves_knows : (a : Answer) → IsInside p.now i → KnowsStage m p f i load passed q w (leaves_with None a)
  leaves_knows a within = (within, kept_none m p.now i q w kept)

  reads_knows : (kind : Kind) → q.kind ≡ kind → (at len : ℕ) → KnowsRead m p f i q kind (Text at len) → KnowsStage m p f i load passed q w (reads_from q.kind at len)
  reads_knows kind is at len known = subst (λ k. KnowsStage m p f i load passed q w (reads_from k at len)) (sym is) (by_test kind is (nat_lt at (words_of len)) known)
    where
      by_test : (kind : Kind) → q.kind ≡ kind → (more : Bool) → KnowsRead m p f i q kind (Text at len)
          → KnowsStage m p f i load passed q w (cond more (stage.Read (Text at len)) (read_all kind (answer.Text len)))
      by_test kind is true known = subst (λ k. KnowsRead m p f i q k (Text at len)) (sym is) known
      by_test Counted is false known = known.0
      by_test Weak is false known = leaves_knows (answer.Text len) (known.1.section, known.1.inside)

  -- in a counted table the handle is linked with its text
  held_text : t.kind ≡ Counted → i < t.shape.seats → IsOutside p.now i → 1 ≤ f.holds i q.handle → (at : ℕ) → KnowsRead m p f i q Counted (Text at (length_in (m (place.Meta q.handle.slot))))
  held_text counted inside outside holds at =
      let live = live_held t m p f table i q.handle counted inside holds in (
        outside,
        holds,
        (
          live.0,
          live.1.born,
          live.1.linked,
          length_of_text p.now.seed live.0 (m (place.Meta q.handle.slot)) (table.slots.metas q.handle.slot live.0 q.handle live.1.born live.1.linked)
              (table.slots.rooms q.handle.slot live.0 q.handle live.1.born live.1.linked).0.0,
        ),
      )

  -- in a weak table it is linked with it where its count word says so
  live_reading : (text : List ℕ) → LiveAt m p.now q.handle.slot text q.handle → IsInside p.now i → Reading m p.now i q.handle text
  live_reading text live within = record {
    section = within.0;
    inside = within.1;
    held = inl (live.born, live.linked);
    short = (table.slots.rooms q.handle.slot text q.handle live.born live.linked).0.0;
    words = (table.slots.metas q.handle.slot text q.handle live.born live.linked, table.slots.texts q.handle.slot text q.handle live.born live.linked);
  }

  count_knows : q.kind ≡ Weak → IsInside p.now i → p.made q.handle ≡ true → (b : Bool) → is_live q.handle (m (place.Count q.handle.slot)) ≡ b
      → KnowsStage m p f i load passed q w (cond b (stage.Read Meta) (leaves_with None answer.Stale))
  count_knows weak within made true live =
      let found_it = live_made t m p f table q.handle made live in
      subst (λ k. KnowsRead m p f i q k Meta) (sym weak) (found_it.0, live_reading found_it.0 found_it.1 within)
  count_knows weak within made false stale = leaves_knows answer.Stale within

-- the section is opened
opened_inside : (p : Past) (i counter : ℕ) → IsInside (told p i (Some (what.Open counter))).now i
opened_inside p i counter =
    (record { place = p.now.place; counter = counter }, with_here p.now.section i (Some (record { place = p.now.place; counter = counter })) i refl)

module _ (t : Table) (m m' : Memory) (p : Past) (f : Flow) (i load : ℕ) (passed : List ℕ) (q : Asked) (w : Along) (table : IsTable t m p f) (ours : IsAskedOf t p.now i q)
    (inside : i < t.shape.seats) (kept : w.kept ≡ None) where
  abbrev KnowsNext : ReadStage → Memory → Type 0
  KnowsNext s after = let does = read_row q w s in let word = found does.step m in let next = does.next word in
      KnowsStage after (told p i (event_of q.text does.step word)) (flow_after p.now f i q.text does.step word) i load passed q next.0 next.1

  -- what is known after a load
  loaded_next : (kind : Kind) → q.kind ≡ kind → (s : ReadStage) → ((counter : ℕ) → s ≢ Enter (Opens counter)) → KnowsRead m p f i q kind s → KnowsNext s m
  loaded_next Counted is (Enter s) loads known = absurd known
  loaded_next Counted is Count loads known = absurd known
  loaded_next Counted is Meta loads known =
      reads_knows t m p f i load passed q w table kept Counted is 0 (length_in (m (place.Meta q.handle.slot)))
      (held_text t m p f i load passed q w table kept (sym ours.kind ∙ is) inside known.0 known.1 0)
  loaded_next Counted is (Text at len) loads known = reads_knows t m p f i load passed q w table kept Counted is (at + 1) len known
  loaded_next Weak is (Enter LoadCounter) loads known =
      subst (λ k. KnowsRead m p f i q k (Enter (Opens (m place.Counter)))) (sym is) ((known.0, omega arith), known.1)
  loaded_next Weak is (Enter (Opens counter)) loads known = absurd (loads counter refl)
  loaded_next Weak is Count loads known =
      count_knows t m p f i load passed q w table kept is known.0 known.1 (is_live q.handle (m (place.Count q.handle.slot))) refl
  loaded_next Weak is Meta loads known =
      reads_knows t m p f i load passed q w table kept Weak is 0 (length_in (m (place.Meta q.handle.slot)))
      (known.0, known.1, length_of_text p.now.seed known.0 (m (place.Meta q.handle.slot)) known.1.words.0 known.1.short)
  loaded_next Weak is (Text at len) loads known = reads_knows t m p f i load passed q w table kept Weak is (at + 1) len known

  -- what is known once the section is opened
  opened_next : (kind : Kind) → q.kind ≡ kind → (counter : ℕ) → KnowsRead m p f i q kind (Enter (Opens counter)) → KnowsNext (Enter (Opens counter)) m'
  opened_next Counted is counter known = absurd known
  opened_next Weak is counter known =
      subst (λ k. KnowsRead m' (told p i (Some (what.Open counter))) (flow_after p.now f i q.text (step.OpenSection q.number counter) (m (place.Section q.number))) i q k Count) (sym is)
      (opened_inside p i counter, ap (λ b. b || false) known.1)

  -- what is known after a step
  pub read_next : (s : ReadStage) → IsMade (read_row q w s).step m m' → KnowsRead m p f i q q.kind s
      → let does = read_row q w s in let word = found does.step m in let next = does.next word in
      KnowsStage m' (told p i (event_of q.text does.step word)) (flow_after p.now f i q.text does.step word) i load passed q next.0 next.1
  read_next (Enter LoadCounter) made known =
      subst (KnowsNext (Enter LoadCounter)) (sym (after_load step.LoadCounter m m' refl made)) (loaded_next q.kind refl (Enter LoadCounter) (λ counter is. cc) known)
  read_next (Enter (Opens counter)) made known = opened_next q.kind refl counter known
  read_next Count made known = subst (KnowsNext Count) (sym (after_load (step.LoadCount q.handle.slot) m m' refl made)) (loaded_next q.kind refl Count (λ counter is. cc) known)
  read_next Meta made known = subst (KnowsNext Meta) (sym (after_load (step.LoadMeta q.handle.slot) m m' refl made)) (loaded_next q.kind refl Meta (λ counter is. cc) known)
  read_next (Text at len) made known =
      subst (KnowsNext (Text at len)) (sym (after_load (step.LoadText q.handle.slot at) m m' refl made)) (loaded_next q.kind refl (Text at len) (λ counter is. cc) known)
