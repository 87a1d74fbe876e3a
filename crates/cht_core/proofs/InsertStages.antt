-- After the step of each stage an inserter knows what its next stage asks.
use Rattle.std.proofs.Common.{◌≡◌, ℕ, ◌+◌, ◌≤◌, ◌==◌, Bool, true, false, cond, List, length, Option, Some, None, IfSome, refl, sym, ap, subst, ◌∙◌, inl, inr, arith}
use Rattle.std.proofs.lemmas.Bool.{cases_eq, ltb-false}
use Rattle.text_words.specs.Hash.{hash_of}
use Rattle.text_words.specs.Words.{words_of, word_at}
use Rattle.marked_word.specs.Head.{first_of}
use Rattle.marked_word.specs.Link.{link_word}
use Rattle.table_shape.specs.declared.place.Place.TheVariants as place
use Rattle.intern_log.specs.declared.event.Handle.{Handle}
use Rattle.intern_log.specs.declared.event.What.TheVariants as what
use Rattle.intern_log.specs.Now.{Claimed}
use Rattle.atomic_step.specs.declared.answer.Answer.{Answer}
use Rattle.atomic_step.specs.declared.answer.Answer.TheVariants as answer
use Rattle.atomic_step.specs.declared.step.Step.TheVariants as step
use Rattle.atomic_step.specs.Count.{generation_of, holds_word}
use Rattle.atomic_step.specs.Event.{event_of}
use Rattle.call_machine.specs.declared.find.Walk.{Walk}
use Rattle.call_machine.specs.declared.insert.InsertStage.{InsertStage}
use Rattle.call_machine.specs.declared.insert.InsertStage.TheVariants as insert
use Rattle.call_machine.specs.declared.stage.Along.{Along}
use Rattle.call_machine.specs.declared.stage.Asked.{Asked}
use Rattle.call_machine.specs.declared.stage.CallStage.{CallStage}
use Rattle.call_machine.specs.declared.stage.CallStage.TheVariants as stage
use Rattle.call_machine.specs.declared.stage.Goal.{Goal}
use Rattle.call_machine.specs.declared.stage.Goal.TheVariants as goal
use Rattle.call_machine.specs.Insert.{insert_row, next_slot, not_claimed, puts_from, after_link, not_created, lost_head}
use Rattle.call_machine.specs.Leave.{leaves_with}
use Rattle.call_machine.specs.SoundCall.{HasSoundInsert}
use Rattle.call_machine.specs.Sought.{has_word}
use Rattle.cht_core.specs.declared.table.Table.{Table}
use Rattle.cht_core.specs.Backs.{Goes}
use Rattle.cht_core.specs.Flow.{Flow, holds_after, flow_after}
use Rattle.cht_core.specs.KnowsCall.{KnowsInsert, KnowsStage, KnowsCall, AtEnd, HasClaimed, HasWords, IsKept}
use Rattle.cht_core.specs.Memory.{Memory, IsMade, found}
use Rattle.cht_core.specs.Past.{Past, told}
use Rattle.cht_core.specs.Rely.{Grows}
use Rattle.cht_core.specs.Search.{IsInside}
use Rattle.cht_core.specs.Tidy.{IsTidy}
use Rattle.cht_core.specs.View.{load_after, passed_after}
use Rattle.cht_core.proofs.Basics.{with_here}
use Rattle.cht_core.proofs.Counts.{generation_in_word}
use Rattle.cht_core.proofs.Stable.{searched_grows}

-- the stage to which a step leads is known, with what is taken along to it
abbrev pub KnowsNext : Memory → Past → Flow → ℕ → ℕ → List ℕ → Asked → Along × CallStage → Type 0
KnowsNext m p f i load passed q at = KnowsStage m p f i load passed q at.0 at.1

module _ (t : Table) (m m' : Memory) (p : Past) (f : Flow) (i load : ℕ) (passed : List ℕ) (q : Asked) (w : Along) where
  -- a walk that is at its end is inside its section, and a step of its seat that leaves the section leaves it at its end
  inside_section : AtEnd p.now f i load passed q w → IsInside p.now i
  inside_section known = (known.searched.section, known.searched.inside)

  at_end_grows : (p' : Past) (f' : Flow) (cursor : ℕ) → IsTidy t p.now → IsTidy t p'.now → Grows m p f m' p' f' → p'.now.section i ≡ p.now.section i → AtEnd p.now f i load passed q w
      → AtEnd p'.now f' i load passed q (record w { cursor = cursor })
  at_end_grows p' f' cursor tidy tidy' grows section known = record {
    searched = searched_grows t m p f m' p' f' tidy tidy' grows i section q.text (hash_of q.seed q.text) w.walk.row load (first_of w.walk.head) passed known.searched;
    bucket = known.bucket;
    open_head = known.open_head;
    plain = known.plain;
  }

  -- no slot was free where each was tried, and else the next one is tried
  tries_on : (slot tried : ℕ) → AtEnd p.now f i load passed q w → w.kept ≡ None → KnowsStage m' p f i load passed q w (not_claimed q w slot tried)
  tries_on slot tried known kept = go (tried + 1 == q.shape.slots) w.kept kept
    where
      go : (b : Bool) (k : Option Handle) → k ≡ None → KnowsStage m' p f i load passed q w
          (cond b (leaves_with k answer.NoSlot) (stage.Insert (insert.Claim (next_slot q.shape.slots slot) (tried + 1))))
      go true None is = (inside_section known, subst (λ k. IfSome k (IsKept m' p.now i q.seed q.text)) (sym kept) tt)
      go true (Some h) is = absurd (cc)
      go false k is = known

  claim_knows : (slot tried : ℕ) → AtEnd p.now f i load passed q w → w.kept ≡ None → IsTidy t p.now → (b : Bool)
      → IsTidy t (told p i (cond b (Some (what.Claim slot)) None)).now
      → Grows m p f m' (told p i (cond b (Some (what.Claim slot)) None)) (record f { holds = holds_after i (cond b (Some (what.Claim slot)) None) f.holds })
      → KnowsNext m' (told p i (cond b (Some (what.Claim slot)) None)) (record f { holds = holds_after i (cond b (Some (what.Claim slot)) None) f.holds }) i load passed q
      (cond b (record w { cursor = next_slot q.shape.slots slot }, stage.Insert (insert.OwnCount slot)) (w, not_claimed q w slot tried))
  claim_knows slot tried known kept tidy true tidy' grows =
      (at_end_grows (told p i (Some (what.Claim slot))) f (next_slot q.shape.slots slot) tidy tidy' grows refl known, with_here p.now.slot slot (Claimed i) slot refl)
  claim_knows slot tried known kept tidy false tidy' grows = tries_on slot tried known kept

  -- after the words of a text up to one, the next word is stored, or the link
  puts_on : (h : Handle) (at : ℕ) → AtEnd p.now f i load passed q w → HasClaimed m' p.now i h → HasWords m' q.seed q.text h.slot at → w.kept ≡ None
      → KnowsStage m' p f i load passed q w (stage.Insert (puts_from q.text h at))
  puts_on h at known claimed words kept = go (has_word q.text at) refl
    where
      go : (b : Bool) → has_word q.text at ≡ b → KnowsStage m' p f i load passed q w (stage.Insert (cond b (insert.PutText h at) (insert.PutLink h)))
      go true more = (known, claimed, words)
      go false past = (
        known,
        claimed,
        (words.0, λ k below within. let most : words_of (length q.text) ≤ at = ltb-false at (words_of (length q.text)) past in words.1 k (omega (arith, most, within)) within),
        subst (λ k. IfSome k (λ j. (j ≡ h) × (m' (place.Count h.slot) ≡ holds_word h 1))) (sym kept) tt,
      )

  -- a slot has the words of the text; and in one that is kept the count is stored already
  abbrev IsFilled : Handle → Type 0
  IsFilled h = HasClaimed m' p.now i h × HasWords m' q.seed q.text h.slot (words_of (length q.text))

  abbrev IsCounted : Memory → Handle → Option Handle → Type 0
  IsCounted words h kept = IfSome kept (λ k. (k ≡ h) × (words (place.Count h.slot) ≡ holds_word h 1))

  -- after the link the count is stored, or the entry is made in the slot that was kept
  links_on : (h : Handle) → AtEnd p.now f i load passed q w → IsFilled h → m' (place.Link h.slot) ≡ link_word (first_of w.walk.head) → (kept : Option Handle) → IsCounted m' h kept
      → KnowsStage m' p f i load passed q w (stage.Insert (after_link kept h))
  links_on h known filled link None count = (known, filled.0, filled.1, link)
  links_on h known filled link (Some k) count = (known, filled.0, filled.1, link, count.1)

  -- the entry was made, or its slot is kept or given back
  loses : (h : Handle) (a : Answer) → AtEnd p.now f i load passed q w → IsFilled h → m' (place.Count h.slot) ≡ holds_word h 1 → (f' : Flow) (g : Goal)
      → KnowsNext m' p f' i load passed q (not_created w g h a)
  loses h a known filled count f' goal.InternWait = (inside_section known, (filled.0, filled.1, count))
  loses h a known filled count f' goal.Intern = (inside_section known, filled.0)
  loses h a known filled count f' goal.Lookup = (inside_section known, filled.0)

  create_knows : (h : Handle) (a : Answer) → AtEnd p.now f i load passed q w → IsFilled h → m' (place.Count h.slot) ≡ holds_word h 1 → (f' : Flow) (b : Bool)
      → KnowsNext m' (told p i (cond b (Some (what.Create q.text h)) None)) f' i load passed q
      (cond b (record w { kept = None }, leaves_with None (answer.Created h)) (not_created w q.goal h a))
  create_knows h a known filled count f' true = (inside_section known, tt)
  create_knows h a known filled count f' false = loses h a known filled count f' q.goal

  -- the words of other places are the same
  claimed_same : (h : Handle) → m' (place.Count h.slot) ≡ m (place.Count h.slot) → HasClaimed m p.now i h → HasClaimed m' p.now i h
  claimed_same h same known = (known.0, ap generation_of same ∙ known.1)

  words_same : (s at : ℕ) → m' (place.Meta s) ≡ m (place.Meta s) → ((k : ℕ) → m' (place.Text s k) ≡ m (place.Text s k)) → HasWords m q.seed q.text s at → HasWords m' q.seed q.text s at
  words_same s at metas texts known = (metas ∙ known.0, λ k below within. texts k ∙ known.1 k below within)

  -- what is known after the step of each stage
  pub insert_knows : (s : InsertStage) → IsTidy t p.now → KnowsInsert m p.now f i load passed q w s → HasSoundInsert q.shape q.text w.kept s → IsMade (insert_row q w s).step m m'
      → Goes t m p f i q.text (insert_row q w s).step m'
      → KnowsNext m' (told p i (event_of q.text (insert_row q w s).step (found (insert_row q w s).step m)))
      (flow_after p.now f i q.text (insert_row q w s).step (found (insert_row q w s).step m)) i load passed q ((insert_row q w s).next (found (insert_row q w s).step m))
  insert_knows (insert.Claim slot tried) tidy known sound made goes = claim_knows slot tried known sound.0 tidy (m (place.Claim slot) == 0) goes.table.tidy goes.grows
  insert_knows (insert.OwnCount slot) tidy known sound made goes = (known.0, (known.1, ap generation_of made.here))
  insert_knows (insert.PutMeta h) tidy known sound made goes =
      puts_on h 0 known.0 (claimed_same h (made.there (place.Count h.slot) (λ e. cc)) known.1) (made.here, λ k below within. absurd (omega (arith, below))) sound.0
  insert_knows (insert.PutText h at) tidy known sound made goes =
      puts_on h (at + 1) known.0 (claimed_same h (made.there (place.Count h.slot) (λ e. cc)) known.1) (
        made.there (place.Meta h.slot) (λ e. cc) ∙ known.2.0,
        λ k below within. elim (cases_eq k at) [
          | inl is ↦ ap (λ j. m' (place.Text h.slot j)) is ∙ made.here ∙ ap (word_at q.text) (sym is)
          | inr differ ↦ made.there (place.Text h.slot k) (λ e. let same : k ≡ at = cc in differ same) ∙ known.2.1 k (omega (arith, below, differ)) within
        ],
      ) sound.0
  insert_knows (insert.PutLink h) tidy known sound made goes =
      links_on h known.0 (
        claimed_same h (made.there (place.Count h.slot) (λ e. cc)) known.1,
        words_same h.slot (words_of (length q.text)) (made.there (place.Meta h.slot) (λ e. cc)) (λ k. made.there (place.Text h.slot k) (λ e. cc)) known.2,
      ) made.here w.kept (counted w.kept known.3)
    where
      counted : (kept : Option Handle) → IsCounted m h kept → IsCounted m' h kept
      counted None is = tt
      counted (Some k) is = (is.0, made.there (place.Count h.slot) (λ e. cc) ∙ is.1)
  insert_knows (insert.PutCount h) tidy known sound made goes = (
    known.0,
    (known.1.0, ap generation_of made.here ∙ generation_in_word h 1 (omega arith)),
    words_same h.slot (words_of (length q.text)) (made.there (place.Meta h.slot) (λ e. cc)) (λ k. made.there (place.Text h.slot k) (λ e. cc)) known.2,
    made.there (place.Link h.slot) (λ e. cc) ∙ known.3,
    made.here,
  )
  insert_knows (insert.Create h) tidy known sound made goes =
      create_knows h (lost_head (m (place.Head w.walk.row w.walk.bucket))) known.0 (
        claimed_same h (made.there (place.Count h.slot) (λ e. cc)) known.1,
        words_same h.slot (words_of (length q.text)) (made.there (place.Meta h.slot) (λ e. cc)) (λ k. made.there (place.Text h.slot k) (λ e. cc)) known.2,
      )
      (made.there (place.Count h.slot) (λ e. cc) ∙ known.4)
      (flow_after p.now f i q.text (step.CreateEntry h w.walk.row w.walk.bucket w.walk.head) (m (place.Head w.walk.row w.walk.bucket))) (m (place.Head w.walk.row w.walk.bucket) == w.walk.head)

  -- the walk is the same after each step
  abbrev HasWalk : Along × CallStage → Type 0
  HasWalk at = at.0.walk ≡ w.walk

  walk_stays : (s : InsertStage) (word : ℕ) → HasWalk ((insert_row q w s).next word)
  walk_stays (insert.Claim slot tried) word = go (word == 0)
    where
      go : (b : Bool) → HasWalk (cond b (record w { cursor = next_slot q.shape.slots slot }, stage.Insert (insert.OwnCount slot)) (w, not_claimed q w slot tried))
      go true = refl
      go false = refl
  walk_stays (insert.OwnCount slot) word = refl
  walk_stays (insert.PutMeta h) word = refl
  walk_stays (insert.PutText h at) word = refl
  walk_stays (insert.PutLink h) word = refl
  walk_stays (insert.PutCount h) word = refl
  walk_stays (insert.Create h) word = go (word == w.walk.head) q.goal
    where
      go : (b : Bool) (g : Goal) → HasWalk (cond b (record w { kept = None }, leaves_with None (answer.Created h)) (not_created w g h (lost_head word)))
      go true g = refl
      go false goal.InternWait = refl
      go false goal.Intern = refl
      go false goal.Lookup = refl

  few : (s : InsertStage) (word : ℕ) → w.walk.passed ≤ q.shape.slots → ((insert_row q w s).next word).0.walk.passed ≤ q.shape.slots
  few s word less = subst (λ (walk : Walk). walk.passed ≤ q.shape.slots) (sym (walk_stays s word)) less

  -- the same of the call
  pub insert_call_knows : (s : InsertStage) → IsTidy t p.now → KnowsCall m p f i load passed q w (stage.Insert s) → HasSoundInsert q.shape q.text w.kept s → IsMade (insert_row q w s).step m m'
      → Goes t m p f i q.text (insert_row q w s).step m'
      → KnowsCall m' (told p i (event_of q.text (insert_row q w s).step (found (insert_row q w s).step m)))
      (flow_after p.now f i q.text (insert_row q w s).step (found (insert_row q w s).step m)) i (load_after (insert_row q w s).step p.now.place load) (passed_after (insert_row q w s).step passed) q
      ((insert_row q w s).next (found (insert_row q w s).step m)).0 ((insert_row q w s).next (found (insert_row q w s).step m)).1
  insert_call_knows (insert.Claim slot tried) tidy known sound made goes =
      (insert_knows (insert.Claim slot tried) tidy known.0 sound made goes, few (insert.Claim slot tried) (m (place.Claim slot)) known.1)
  insert_call_knows (insert.OwnCount slot) tidy known sound made goes = (insert_knows (insert.OwnCount slot) tidy known.0 sound made goes, known.1)
  insert_call_knows (insert.PutMeta h) tidy known sound made goes = (insert_knows (insert.PutMeta h) tidy known.0 sound made goes, known.1)
  insert_call_knows (insert.PutText h at) tidy known sound made goes = (insert_knows (insert.PutText h at) tidy known.0 sound made goes, known.1)
  insert_call_knows (insert.PutLink h) tidy known sound made goes = (insert_knows (insert.PutLink h) tidy known.0 sound made goes, known.1)
  insert_call_knows (insert.PutCount h) tidy known sound made goes = (insert_knows (insert.PutCount h) tidy known.0 sound made goes, known.1)
  insert_call_knows (insert.Create h) tidy known sound made goes =
      (insert_knows (insert.Create h) tidy known.0 sound made goes, few (insert.Create h) (m (place.Head w.walk.row w.walk.bucket)) known.1)
