-- What the table asks of a step of a seat, and what the step leads to.
use Rattle.std.specs.Prelude.{◌≡◌, ◌≢◌, ℕ, ◌+◌, ◌-◌, ◌^◌, ◌<◌, ◌≤◌, ◌⊎◌, true, false, List, [], length, Option, Some}
use Rattle.chain_core.specs.Nodes.{On}
use Rattle.text_words.specs.Hash.{hash_of}
use Rattle.text_words.specs.Words.{words_of}
use Rattle.marked_word.specs.Head.{is_locked, is_redirected, first_of}
use Rattle.marked_word.specs.Link.{link_word}
use Rattle.table_shape.specs.declared.place.Place.TheVariants as place
use Rattle.intern_log.specs.declared.event.Handle.{Handle}
use Rattle.intern_log.specs.declared.event.Kind.TheVariants.{Counted}
use Rattle.intern_log.specs.declared.event.What.{What}
use Rattle.intern_log.specs.Lawful.{IsGracedSince}
use Rattle.intern_log.specs.Now.{Now, Claimed, Unlinked}
use Rattle.atomic_step.specs.declared.step.Edge.{Edge}
use Rattle.atomic_step.specs.declared.step.Edge.TheVariants as edge
use Rattle.atomic_step.specs.declared.step.Step.{Step}
use Rattle.atomic_step.specs.declared.step.Step.TheVariants as step
use Rattle.atomic_step.specs.Count.{generation_of, holds_of, holds_word}
use Rattle.atomic_step.specs.Event.{event_of}
use Rattle.atomic_step.specs.SoundStep.{IsSoundStep}
use Rattle.cht_core.specs.declared.table.Table.{Table}
use Rattle.cht_core.specs.Flow.{Flow, IsUsed, flow_after}
use Rattle.cht_core.specs.Stage.{Quiet, bucket_in, named_level}
use Rattle.cht_core.specs.KnowsCall.{HasClaimed, HasWords, MayChange, IsCountOf}
use Rattle.cht_core.specs.KnowsResize.{Resizing, NoHead, IsNewOfBucket, IsNewOfPair, MayPutNewLevel, MayRedirect, MayMove, MayStoreLevel, MayJoin, EndsUnzip}
use Rattle.cht_core.specs.KnowsWork.{IsDead, Locked}
use Rattle.cht_core.specs.Memory.{Memory, IsMade, found}
use Rattle.cht_core.specs.Past.{Past, told, MayTell, kind_of}
use Rattle.cht_core.specs.Rely.{Grows, Leaves, Spares}
use Rattle.cht_core.specs.Search.{IsInside, IsOutside, IsSeenWith, Searched}
use Rattle.cht_core.specs.Slots.{IsStorable}
use Rattle.cht_core.specs.TableState.{IsTable}

-- an entry is made of a text that was looked for to the end of its chain, and in a slot that is filled with it
pub record MayCreate (t : Table) (m : Memory) (p : Past) (f : Flow) (i : ℕ) (text : List ℕ) (h : Handle) (row bucket head : ℕ) : Type 0 where
  pub load : ℕ
  pub passed : List ℕ
  pub searched : Searched p.now f i text (hash_of p.now.seed text) row load (first_of head) passed []
  pub at_bucket : bucket ≡ bucket_in row (hash_of p.now.seed text)
  pub open_head : is_locked head ≡ false
  pub plain : is_redirected head ≡ false
  pub room : IsStorable t.shape text
  pub claimed : HasClaimed m p.now i h
  pub words : HasWords m p.now.seed text h.slot (words_of (length text))
  pub link : m (place.Link h.slot) ≡ link_word (first_of head)
  pub count : m (place.Count h.slot) ≡ holds_word h 1

-- the edge leads to the node on the chain of a bucket that the seat has locked
abbrev pub LeadsFrom : Memory → Now → Flow → ℕ → ℕ → ℕ → Edge → ℕ → Type 0
LeadsFrom m n f i row bucket (edge.Head r b) s = (r ≡ row) × (b ≡ bucket) × Locked m n f i row bucket (Some s)
LeadsFrom m n f i row bucket (edge.Link last) s = ((first : Option ℕ) × Locked m n f i row bucket first) × On last (f.chain row bucket) × (m (place.Link last) ≡ s + 1)

pub record MayUnlink (m : Memory) (p : Past) (f : Flow) (i slot : ℕ) (from : Edge) (next : Option ℕ) : Type 0 where
  pub row : ℕ
  pub bucket : ℕ
  pub leads : LeadsFrom m p.now f i row bucket from slot
  pub on : On slot (f.chain row bucket)
  pub generation : ℕ
  pub dead : IsDead p.now slot generation
  pub link : m (place.Link slot) ≡ link_word next

-- a slot is freed that the seat has claimed; or one that it has unlinked, once every section is younger and the generation is new
abbrev pub MayFreeSlot : Memory → Past → ℕ → ℕ → Type 0
MayFreeSlot m p i slot = (p.now.slot slot ≡ Claimed i)
    ⊎ ((at : ℕ) × (p.now.slot slot ≡ Unlinked i at) × IsGracedSince p.now at
    × ((h : Handle) → p.made h ≡ true → h.slot ≡ slot → h.generation < generation_of (m (place.Count slot))))

-- what a step needs
abbrev pub Backs : Table → Memory → Past → Flow → ℕ → List ℕ → Step → Type 0
Backs t m p f i text step.Draw = m place.Draws + 1 < 2 ^ 64
Backs t m p f i text (step.OpenSection number counter) = IsOutside p.now i × (counter ≤ m place.Counter)
Backs t m p f i text (step.CloseSection number) = IsInside p.now i
Backs t m p f i text step.LoadNewLevel = (level : ℕ) × (named_level f.stage p.now.level ≡ Some level)
Backs t m p f i text (step.SeeEntry kind slot) = (kind ≡ t.kind) × IsSeenWith p.now i slot text
Backs t m p f i text (step.SeeHandle change h) = MayChange t.kind p f i change h
Backs t m p f i text (step.TakeEntry slot count) = (t.kind ≡ Counted) × IsSeenWith p.now i slot text × (1 ≤ holds_of count)
Backs t m p f i text (step.ChangeEntry change h count) = MayChange t.kind p f i change h × IsCountOf change h count
Backs t m p f i text (step.FreeSlot slot) = MayFreeSlot m p i slot
Backs t m p f i text (step.PutMeta slot meta) = p.now.slot slot ≡ Claimed i
Backs t m p f i text (step.PutText slot at word) = (p.now.slot slot ≡ Claimed i) × (word < 2 ^ 64)
Backs t m p f i text (step.PutLink slot next) = p.now.slot slot ≡ Claimed i
Backs t m p f i text (step.PutCount h holds) = HasClaimed m p.now i h × (holds ≤ 1)
Backs t m p f i text (step.PutNextGeneration slot generation) =
    ((at : ℕ) × (p.now.slot slot ≡ Unlinked i at)) × (m (place.Count slot) ≡ holds_word (record { slot = slot; generation = generation }) 0) × (generation + 1 ≤ p.uses slot)
Backs t m p f i text (step.CreateEntry h row bucket head) = MayCreate t m p f i text h row bucket head
Backs t m p f i text step.RaiseCounter = m place.Counter + 2 ≤ 2 ^ 64 - 4
Backs t m p f i text (step.LockHead row bucket head) = (is_locked head ≡ false) × (m (place.Head row bucket) ≡ head → IsUsed p.now f row bucket)
Backs t m p f i text (step.UnlockHead row bucket first) = Locked m p.now f i row bucket first ⊎ EndsUnzip m p.now f i row bucket first
Backs t m p f i text (step.Unlink slot from next) = MayUnlink m p f i slot from next
Backs t m p f i text step.GiveResizeLock = Resizing p.now f i p.now.level Quiet NoHead × ((s at : ℕ) → p.now.slot s ≡ Unlinked i at → 2 ^ 48 ≤ p.uses s)
Backs t m p f i text (step.PutHead row bucket first) = IsNewOfBucket p.now f i row bucket ⊎ IsNewOfPair m p.now f i row bucket first
Backs t m p f i text (step.PutNewLevel level) = MayPutNewLevel p.now f i level
Backs t m p f i text (step.RedirectHead row bucket first) = MayRedirect m p.now f i row bucket first
Backs t m p f i text (step.MoveEdge from next) = MayMove m p.now f i from next
Backs t m p f i text (step.StoreLevel level) = MayStoreLevel p.now f i level
Backs t m p f i text (step.JoinChains slot next) = MayJoin m p.now f i slot next
Backs t m p f i text _ = Unit {0}

-- a step that a try call may make: it leaves the works of its own seat alone
abbrev pub IsOfTry : Now → ℕ → Step → Type 0
IsOfTry n i (step.FreeSlot slot) = n.slot slot ≡ Claimed i
IsOfTry n i (step.PutNextGeneration slot generation) = ⊥
IsOfTry n i step.RaiseCounter = ⊥
IsOfTry n i (step.LockHead row bucket head) = ⊥
IsOfTry n i (step.UnlockHead row bucket first) = ⊥
IsOfTry n i (step.Unlink slot from next) = ⊥
IsOfTry n i (step.TakeResizeLock number) = ⊥
IsOfTry n i step.GiveResizeLock = ⊥
IsOfTry n i (step.PutHead row bucket first) = ⊥
IsOfTry n i (step.PutNewLevel level) = ⊥
IsOfTry n i (step.RedirectHead row bucket first) = ⊥
IsOfTry n i (step.MoveEdge from next) = ⊥
IsOfTry n i (step.StoreLevel level) = ⊥
IsOfTry n i (step.JoinChains slot next) = ⊥
IsOfTry n i _ = Unit {0}

-- what a step leads to: its event may be added, the table stays as it should be, and what the others know goes on
pub record LeadsOn (t : Table) (m : Memory) (p : Past) (f : Flow) (i : ℕ) (s : Step) (e : Option What) (m' : Memory) (p' : Past) (f' : Flow) : Type 0 where
  pub told : MayTell (kind_of t) p i e
  pub table : IsTable t m' p' f'
  pub grows : Grows m p f m' p' f'
  pub spares : (k : ℕ) → k ≢ i → Spares k m p f m' p' f'
  pub leaves : IsOfTry p.now i s → Leaves i m p f m' p' f'

abbrev pub Goes : Table → Memory → Past → Flow → ℕ → List ℕ → Step → Memory → Type 0
Goes t m p f i text s m' = LeadsOn t m p f i s (event_of text s (found s m)) m' (told p i (event_of text s (found s m))) (flow_after p.now f i text s (found s m))

-- a step that the table backs keeps it
abbrev pub KeepsTable : Step → Type 0
KeepsTable s = (t : Table) (m m' : Memory) (p : Past) (f : Flow) (i : ℕ) (text : List ℕ) → IsTable t m p f → i < t.shape.seats → IsSoundStep t.shape i s →
    Backs t m p f i text s → IsMade s m m' → Goes t m p f i text s m'
