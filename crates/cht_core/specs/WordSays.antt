-- What the word that a step finds says of the log at that moment.
use Rattle.std.specs.Prelude.{◌≡◌, ℕ, ◌+◌, ◌*◌, ◌<◌, ◌↔◌, true, List, length, is_some}
use Rattle.std.specs.Option.{option_map}
use Rattle.text_words.specs.Words.{words_of, word_at}
use Rattle.marked_word.specs.Head.{is_locked}
use Rattle.marked_word.specs.Meta.{meta_word}
use Rattle.marked_word.specs.Number.{section_word, owner_word}
use Rattle.intern_log.specs.declared.event.Handle.{Handle}
use Rattle.intern_log.specs.Now.{OpenSection, Linked, Unlinked, owner_of}
use Rattle.intern_log.specs.TextMap.{entry_of, IsLive}
use Rattle.atomic_step.specs.declared.step.Step.{Step}
use Rattle.atomic_step.specs.declared.step.Step.TheVariants as step
use Rattle.atomic_step.specs.Count.{holds_of, holds_word, is_live}
use Rattle.call_machine.specs.Sought.{meta_of}
use Rattle.cht_core.specs.declared.table.Table.{Table}
use Rattle.cht_core.specs.Flow.{Flow, IsUsed}
use Rattle.cht_core.specs.Past.{Past}
use Rattle.cht_core.specs.Slots.{claim_word, count_in}

-- a count word has the count of the slot's entry, or no hold where that is gone; and a handle that was created is live exactly where the
-- word has its generation and a hold
pub record SaysOfCount (p : Past) (slot word : ℕ) : Type 0 where
  pub linked : (text : List ℕ) (h : Handle) (born : ℕ) → p.now.slot slot ≡ Linked text h born → word ≡ holds_word h (count_in (entry_of p.now.texts text) h)
  pub unlinked : (seat at : ℕ) → p.now.slot slot ≡ Unlinked seat at → holds_of word ≡ 0
  pub live : (h : Handle) → p.made h ≡ true → h.slot ≡ slot → (is_live h word ≡ true) ↔ IsLive p.now.texts h

-- a head to which callers come has the lock exactly where its bucket is locked
abbrev pub SaysOfHead : Past → Flow → ℕ → ℕ → ℕ → Type 0
SaysOfHead p f row bucket word = IsUsed p.now f row bucket → is_locked word ≡ is_some (p.now.lock row bucket)

abbrev pub WordSays : Table → Past → Flow → Step → ℕ → Type 0
WordSays t p f step.LoadCounter word = word ≡ t.first_counter + 2 * p.now.graces
WordSays t p f step.RaiseCounter word = word ≡ t.first_counter + 2 * p.now.graces
WordSays t p f step.LoadLevel word = word ≡ p.now.level
WordSays t p f (step.LoadSection number) word = word ≡ section_word (option_map (λ (o : OpenSection). o.counter) (p.now.section number))
WordSays t p f (step.LoadHead row bucket) word = SaysOfHead p f row bucket word
WordSays t p f (step.CreateEntry h row bucket head) word = SaysOfHead p f row bucket word
WordSays t p f (step.LockHead row bucket head) word = SaysOfHead p f row bucket word
WordSays t p f (step.LoadMeta slot) word = (text : List ℕ) (h : Handle) (born : ℕ) → p.now.slot slot ≡ Linked text h born → word ≡ meta_word (meta_of p.now.seed text)
WordSays t p f (step.LoadText slot at) word =
    (text : List ℕ) (h : Handle) (born : ℕ) → p.now.slot slot ≡ Linked text h born → at < words_of (length text) → word ≡ word_at text at
WordSays t p f (step.LoadCount slot) word = SaysOfCount p slot word
WordSays t p f (step.SeeEntry kind slot) word = SaysOfCount p slot word
WordSays t p f (step.SeeHandle change h) word = SaysOfCount p h.slot word
WordSays t p f (step.TakeEntry slot count) word = SaysOfCount p slot word
WordSays t p f (step.ChangeEntry change h count) word = SaysOfCount p h.slot word
WordSays t p f (step.ClaimSlot slot) word = word ≡ claim_word (p.now.slot slot)
WordSays t p f (step.TakeResizeLock number) word = word ≡ owner_word (owner_of p.now.resizing)
WordSays t p f _ word = Unit {0}
