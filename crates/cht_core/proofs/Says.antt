-- What a word that is found says of the log.
use Rattle.std.proofs.Common.{◌≡◌, ℕ, ◌≤◌, true, Option, Some, None, is_some, refl, sym, ap, subst, ◌∙◌, arith}
use Rattle.std.proofs.lemmas.Bool.Decides.{nat_tests}
use Rattle.marked_word.specs.Head.{is_locked}
use Rattle.table_shape.specs.declared.place.Place.TheVariants as place
use Rattle.intern_log.specs.declared.event.Handle.{Handle}
use Rattle.atomic_step.specs.declared.step.Step.{Step}
use Rattle.atomic_step.specs.declared.step.Step.TheVariants as step
use Rattle.atomic_step.specs.Count.{generation_of, holds_of, holds_word, is_live}
use Rattle.cht_core.specs.declared.table.Table.{Table}
use Rattle.cht_core.specs.Flow.{Flow}
use Rattle.cht_core.specs.Heads.{used_head}
use Rattle.cht_core.specs.Memory.{Memory, found}
use Rattle.cht_core.specs.Past.{Past}
use Rattle.cht_core.specs.TableState.{IsTable}
use Rattle.cht_core.specs.WordSays.{SaysOfCount, SaysOfHead, WordSays}
use Rattle.cht_core.proofs.LiveCounts.{LiveAt, live_entry, live_made}

head_locked : (first lock : Option ℕ) → is_locked (used_head first lock) ≡ is_some lock
head_locked None None = refl
head_locked (Some s) None = grind (arith, nat_tests)
head_locked None (Some k) = refl
head_locked (Some s) (Some k) = grind (arith, nat_tests)

module _ (t : Table) (m : Memory) (p : Past) (f : Flow) (table : IsTable t m p f) where
  head_says : (row bucket : ℕ) → SaysOfHead p f row bucket (m (place.Head row bucket))
  head_says row bucket used =
      let (first, word, path) = table.heads.paths row bucket used in
      ap is_locked word ∙ head_locked first (p.now.lock row bucket)

  -- a live handle's word has its generation and a hold
  word_of_live : (h : Handle) (count : ℕ) → 1 ≤ count → count ≤ 65535 → is_live h (holds_word h count) ≡ true
  word_of_live h count least most =
      let generation : generation_of (holds_word h count) ≡ h.generation = omega (arith, most) in
      let holds : holds_of (holds_word h count) ≡ count = omega (arith, most) in
      grind (arith, nat_tests)

  count_says : (slot : ℕ) → SaysOfCount p slot (m (place.Count slot))
  count_says slot = record {
    linked = table.slots.counts slot;
    unlinked = table.slots.gone slot;
    live = λ h made at. (
      (λ is. let live = live_made t m p f table h made (subst (λ s. is_live h (m (place.Count s)) ≡ true) (sym at) is) in (live.0, (live.1.entry, live.1.is, live.1.own))),
      (λ live.
          let here : LiveAt m p.now h.slot live.0 h = live_entry t m p f table live.0 live.1.0 h live.1.1 live.1.2 in
          subst (λ s. is_live h (m (place.Count s)) ≡ true) at (subst (λ w. is_live h w ≡ true) (sym here.word) (word_of_live h here.entry.count here.least here.most))),
    );
  }

  -- every word that is found says of the log what its step asks
  pub word_says : (s : Step) → WordSays t p f s (found s m)
  word_says step.LoadCounter = table.sections.counter
  word_says step.RaiseCounter = table.sections.counter
  word_says step.LoadLevel = table.heads.level
  word_says (step.LoadSection number) = table.sections.words number
  word_says (step.LoadHead row bucket) = head_says row bucket
  word_says (step.CreateEntry h row bucket head) = head_says row bucket
  word_says (step.LockHead row bucket head) = head_says row bucket
  word_says (step.LoadMeta slot) = table.slots.metas slot
  word_says (step.LoadText slot at) = λ text h born is below. table.slots.texts slot text h born is at below below
  word_says (step.LoadCount slot) = count_says slot
  word_says (step.SeeEntry kind slot) = count_says slot
  word_says (step.SeeHandle change h) = count_says h.slot
  word_says (step.TakeEntry slot count) = count_says slot
  word_says (step.ChangeEntry change h count) = count_says h.slot
  word_says (step.ClaimSlot slot) = table.slots.claims slot
  word_says (step.TakeResizeLock number) = table.heads.owner
  word_says step.LoadDraws = tt
  word_says step.Draw = tt
  word_says (step.OpenSection number counter) = tt
  word_says (step.CloseSection number) = tt
  word_says step.LoadNewLevel = tt
  word_says (step.LoadLink slot) = tt
  word_says (step.FreeSlot slot) = tt
  word_says (step.PutMeta slot meta) = tt
  word_says (step.PutText slot at word) = tt
  word_says (step.PutLink slot next) = tt
  word_says (step.PutCount h holds) = tt
  word_says (step.PutNextGeneration slot generation) = tt
  word_says (step.UnlockHead row bucket first) = tt
  word_says (step.Unlink slot from next) = tt
  word_says step.GiveResizeLock = tt
  word_says (step.PutHead row bucket first) = tt
  word_says (step.PutNewLevel level) = tt
  word_says (step.RedirectHead row bucket first) = tt
  word_says (step.MoveEdge from next) = tt
  word_says (step.StoreLevel level) = tt
  word_says (step.JoinChains slot next) = tt
