-- What a clean, a sweep, a grace or the beginning of one knows of the table at each of its stages.
use Rattle.std.specs.Prelude.{◌≡◌, ℕ, ◌+◌, ◌<◌, ◌≤◌, true, false, List, [], ◌∷◌, drop, map, Option, Some, None}
use Rattle.chain_core.specs.Nodes.{On, Once}
use Rattle.marked_word.specs.Head.{is_locked, is_redirected}
use Rattle.marked_word.specs.Link.{link_word}
use Rattle.table_shape.specs.declared.place.Place.TheVariants as place
use Rattle.intern_log.specs.declared.event.Handle.{Handle}
use Rattle.intern_log.specs.Lawful.{IsGracedSince}
use Rattle.intern_log.specs.Now.{Now, Linked, Unlinked, owner_of}
use Rattle.intern_log.specs.TextMap.{IsLive}
use Rattle.atomic_step.specs.Count.{holds_word}
use Rattle.atomic_step.specs.Step.{locked_head}
use Rattle.call_machine.specs.declared.begin.BeginStage.{BeginStage}
use Rattle.call_machine.specs.declared.begin.BeginStage.TheVariants as begin
use Rattle.call_machine.specs.declared.begin.Left.{Left}
use Rattle.call_machine.specs.declared.begin.Left.TheVariants as left
use Rattle.call_machine.specs.declared.clean.CleanAlong.{CleanAlong}
use Rattle.call_machine.specs.declared.clean.CleanStage.{CleanStage}
use Rattle.call_machine.specs.declared.clean.CleanStage.TheVariants as clean
use Rattle.call_machine.specs.declared.grace.Grace.{Grace}
use Rattle.call_machine.specs.declared.grace.GraceStage.{GraceStage}
use Rattle.call_machine.specs.declared.grace.GraceStage.TheVariants as grace
use Rattle.call_machine.specs.declared.pass.Cleaning.{Cleaning}
use Rattle.call_machine.specs.declared.pass.FreeStage.{FreeStage}
use Rattle.call_machine.specs.declared.pass.FreeStage.TheVariants as free
use Rattle.call_machine.specs.declared.pass.PassStage.{PassStage}
use Rattle.call_machine.specs.declared.pass.PassStage.TheVariants as pass
use Rattle.call_machine.specs.declared.pass.Waiting.{Waiting}
use Rattle.call_machine.specs.declared.sweep.Closing.{Closing}
use Rattle.call_machine.specs.declared.sweep.Closing.TheVariants as closing
use Rattle.call_machine.specs.declared.sweep.SweepAlong.{SweepAlong}
use Rattle.call_machine.specs.declared.sweep.SweepAsked.{SweepAsked}
use Rattle.call_machine.specs.declared.sweep.SweepStage.{SweepStage}
use Rattle.call_machine.specs.declared.sweep.SweepStage.TheVariants as sweep
use Rattle.call_machine.specs.declared.work.Work.{Work}
use Rattle.call_machine.specs.declared.work.Work.TheVariants as work
use Rattle.cht_core.specs.Flow.{Flow, IsUsed}
use Rattle.cht_core.specs.KnowsCall.{KnowsFind, IsAtHead}
use Rattle.cht_core.specs.KnowsResize.{Graced, Resizing, NoHead, KnowsResize}
use Rattle.cht_core.specs.Memory.{Memory}
use Rattle.cht_core.specs.Past.{Past}
use Rattle.cht_core.specs.Search.{IsInside, IsOutside}
use Rattle.cht_core.specs.Stage.{Quiet, IsPinned}

-- the seat has the resize lock
abbrev pub IsOwner : Now → ℕ → Type 0
IsOwner n i = owner_of n.resizing ≡ Some i

abbrev pub KnowsGrace : Now → Grace → Type 0
KnowsGrace n g = (at : ℕ) × Graced n g at

-- the slot of a waiting one was unlinked by the seat, by a place, and its count word has the generation and no hold
abbrev pub IsWaiting : Memory → Past → ℕ → ℕ → Waiting → Type 0
IsWaiting m p i by x = (at : ℕ) × (p.now.slot x.slot ≡ Unlinked i at) × (at < by) × (m (place.Count x.slot) ≡ holds_word (record { slot = x.slot; generation = x.generation }) 0)
    × (x.generation + 1 ≤ p.uses x.slot)

-- each of a list is so
abbrev pub AreWaiting : Memory → Past → ℕ → ℕ → List Waiting → Type 0
AreWaiting m p i by [] = Unit {0}
AreWaiting m p i by (x ∷ xs) = IsWaiting m p i by x × AreWaiting m p i by xs

abbrev pub slots_in : List Waiting → List ℕ
slots_in xs = map (λ (x : Waiting). x.slot) xs

-- all that wait were unlinked before now; no slot waits twice
abbrev pub KnowsWaiting : Memory → Past → ℕ → List Waiting → Type 0
KnowsWaiting m p i xs = AreWaiting m p i p.now.place xs × Once (slots_in xs)

-- a grace of those that wait has begun: they were unlinked before it
abbrev pub KnowsWaited : Memory → Past → ℕ → List Waiting → Grace → Type 0
KnowsWaited m p i xs g = (at : ℕ) × Graced p.now g at × AreWaiting m p i at xs × Once (slots_in xs)

-- and it is over: every section was opened after it
abbrev pub KnowsOver : Memory → Past → ℕ → List Waiting → Type 0
KnowsOver m p i xs = (at : ℕ) × (at < p.now.place) × IsGracedSince p.now at × AreWaiting m p i at xs × Once (slots_in xs)

-- a slot that waited has its next generation, which no handle has yet
abbrev pub IsRenewed : Memory → Past → ℕ → Waiting → Type 0
IsRenewed m p i x = (at : ℕ) × (p.now.slot x.slot ≡ Unlinked i at) × IsGracedSince p.now at
    × (m (place.Count x.slot) ≡ holds_word (record { slot = x.slot; generation = x.generation + 1 }) 0)
    × ((h : Handle) → p.made h ≡ true → h.slot ≡ x.slot → h.generation < x.generation + 1)

-- of those that wait the first ones are freed; the next one may have its next generation already
abbrev pub KnowsFree : Memory → Past → ℕ → List Waiting → FreeStage → Type 0
KnowsFree m p i xs (free.PutNextGeneration at) = KnowsOver m p i (drop at xs)
KnowsFree m p i xs (free.FreeSlot at) = (x : Waiting) × (rest : List Waiting) × (drop at xs ≡ x ∷ rest) × KnowsOver m p i rest × ¬ (On x.slot (slots_in rest))
    × IsRenewed m p i x

-- the seat has locked the head of a bucket, which leads to a first node; it is none of those that a resize has locked
pub record Locked (m : Memory) (n : Now) (f : Flow) (i row bucket : ℕ) (first : Option ℕ) : Type 0 where
  pub used : IsUsed n f row bucket
  pub unpinned : ¬ (IsPinned f.stage n.level row bucket)
  pub lock : n.lock row bucket ≡ Some i
  pub head : m (place.Head row bucket) ≡ locked_head first

-- the edge that leads to a node: the link of a node that stays, or else the head
abbrev pub LeadsTo : Memory → Flow → Cleaning → Option ℕ → ℕ → Type 0
LeadsTo m f c None s = c.first ≡ Some s
LeadsTo m f c (Some last) s = On last (f.chain c.row c.bucket) × (m (place.Link last) ≡ s + 1)

-- the node is linked, and its entry of this generation is gone
abbrev pub IsDead : Now → ℕ → ℕ → Type 0
IsDead n s generation = (text : List ℕ) × (h : Handle) × (born : ℕ) × (n.slot s ≡ Linked text h born) × (h.generation ≡ generation) × ¬ (IsLive n.texts h)

-- a node of a locked bucket, and the edge to it
abbrev pub IsAtNode : Memory → Now → Flow → ℕ → Cleaning → ℕ → Type 0
IsAtNode m n f i c s = Locked m n f i c.row c.bucket c.first × On s (f.chain c.row c.bucket) × LeadsTo m f c c.last s

abbrev pub KnowsPass : Memory → Now → Flow → ℕ → Cleaning → PassStage → Type 0
KnowsPass m n f i c (pass.LoadCount s) = IsAtNode m n f i c s
KnowsPass m n f i c (pass.LoadLink s None) = IsAtNode m n f i c s
KnowsPass m n f i c (pass.LoadLink s (Some g)) = IsAtNode m n f i c s × IsDead n s g
KnowsPass m n f i c (pass.Unlink s g next) = IsAtNode m n f i c s × IsDead n s g × (m (place.Link s) ≡ link_word next)

-- a grace of a work or a sweep, for those that wait
abbrev pub KnowsGracing : Memory → Past → ℕ → List Waiting → Grace → GraceStage → Type 0
KnowsGracing m p i xs g grace.RaiseCounter = KnowsWaiting m p i xs
KnowsGracing m p i xs g grace.LoadSection = KnowsWaited m p i xs g

-- a clean: its seat has the resize lock, so that the level stays, and there is no resize
abbrev pub KnowsCleaning : Memory → Past → Flow → ℕ → CleanAlong → CleanStage → Type 0
KnowsCleaning m p f i w clean.LoadLevel = w.cleaning.waiting.items ≡ []
KnowsCleaning m p f i w (clean.Lock s) = (w.cleaning.row ≡ p.now.level) × KnowsWaiting m p i w.cleaning.waiting.items
KnowsCleaning m p f i w (clean.Pass s) = (w.cleaning.row ≡ p.now.level) × KnowsPass m p.now f i w.cleaning s × KnowsWaiting m p i w.cleaning.waiting.items
KnowsCleaning m p f i w clean.UnlockHead =
    (w.cleaning.row ≡ p.now.level) × Locked m p.now f i w.cleaning.row w.cleaning.bucket w.cleaning.first × KnowsWaiting m p i w.cleaning.waiting.items
KnowsCleaning m p f i w (clean.Grace freeing s) = (w.cleaning.row ≡ p.now.level) × KnowsGracing m p i w.cleaning.waiting.items w.grace s
KnowsCleaning m p f i w (clean.Free freeing s) = (w.cleaning.row ≡ p.now.level) × KnowsFree m p i w.cleaning.waiting.items s
KnowsCleaning m p f i w clean.GiveResizeLock = w.cleaning.waiting.items ≡ []

-- a work: a clean, or a grow or a shrink
abbrev pub KnowsWork : Memory → Past → Flow → ℕ → Work → Type 0
KnowsWork m p f i (work.Clean c) = Resizing p.now f i p.now.level Quiet NoHead × KnowsCleaning m p f i c.along c.stage
KnowsWork m p f i (work.Resize r) = KnowsResize m p.now f i r.direction r.along r.stage

-- a sweep
abbrev pub KnowsClosing : Memory → Now → Flow → ℕ → Cleaning → Closing → Type 0
KnowsClosing m n f i c closing.Again = Unit {0}
KnowsClosing m n f i c closing.Clean = Locked m n f i c.row c.bucket c.first × (c.last ≡ None)

abbrev pub KnowsSweep : Memory → Past → Flow → ℕ → SweepAsked → SweepAlong → SweepStage → Type 0
KnowsSweep m p f i q w sweep.Check = IsOutside p.now i
KnowsSweep m p f i q w (sweep.Find s) = KnowsFind m p.now f i q.hash w.walk s
KnowsSweep m p f i q w sweep.Lock = IsAtHead p.now f i q.hash w.walk × (is_locked w.walk.head ≡ false) × (is_redirected w.walk.head ≡ false)
KnowsSweep m p f i q w (sweep.Close why) = IsInside p.now i × KnowsClosing m p.now f i w.cleaning why
KnowsSweep m p f i q w (sweep.Pass s) = IsOutside p.now i × KnowsPass m p.now f i w.cleaning s × KnowsWaiting m p i w.cleaning.waiting.items
KnowsSweep m p f i q w sweep.UnlockHead =
    IsOutside p.now i × Locked m p.now f i w.cleaning.row w.cleaning.bucket w.cleaning.first × KnowsWaiting m p i w.cleaning.waiting.items
KnowsSweep m p f i q w (sweep.Grace s) = IsOutside p.now i × KnowsGracing m p i w.cleaning.waiting.items w.grace s
KnowsSweep m p f i q w (sweep.Free s) = IsOutside p.now i × KnowsFree m p i w.cleaning.waiting.items s
KnowsSweep m p f i q w (sweep.Answered a) = IsOutside p.now i

-- what a call that begins a work or a grace leaves its seat, and the call itself
abbrev pub KnowsLeft : Now → Flow → ℕ → Left → Type 0
KnowsLeft n f i left.Nothing = Unit {0}
KnowsLeft n f i left.Clean = Resizing n f i n.level Quiet NoHead
KnowsLeft n f i (left.Resize d level) = Resizing n f i level Quiet NoHead
KnowsLeft n f i (left.Grace g) = KnowsGrace n g

abbrev pub KnowsBegin : Now → Flow → ℕ → BeginStage → Type 0
KnowsBegin n f i (begin.LoadCounter t) = Unit {0}
KnowsBegin n f i (begin.TakeResizeLock t) = Unit {0}
KnowsBegin n f i (begin.LoadLevel d) = Resizing n f i n.level Quiet NoHead
KnowsBegin n f i (begin.GiveResizeLock a) = Resizing n f i n.level Quiet NoHead
KnowsBegin n f i (begin.Grace g grace.RaiseCounter) = Unit {0}
KnowsBegin n f i (begin.Grace g grace.LoadSection) = KnowsGrace n g
KnowsBegin n f i (begin.Answered a l) = KnowsLeft n f i l
